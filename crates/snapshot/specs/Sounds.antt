-- Every copy means a sound network.
use Rattle.std.proofs.Common.{ap, sym, ◌∙◌}
use Rattle.network.specs.Meaning.{Sound}
use Rattle.network.specs.Ranges.{in_range_fits}
use Rattle.snapshot.specs.Meanings.{meaning_of}
use Rattle.snapshot.specs.Tables.{none_or_fits}
use Rattle.snapshot.specs.declared.snapshot.Snapshot.{Snapshot}

pub snapshot_sound : (x : Snapshot) → Sound (meaning_of x)
snapshot_sound x = record {
  stations_low = x.low;
  stations_high = x.high;
  legs_high = x.few;
  past = x.past;
  fits = λ i l e. in_range_fits x.stations l (sym (ap (none_or_fits x.stations) e) ∙ x.fits i);
}
