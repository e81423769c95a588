-- A network under a rule, which says what is shown at each number from what is there below.
use Rattle.std.specs.Prelude.{◌≡◌, ℕ, Some, None, Option}
use Rattle.std.proofs.Common.{ap, ◌∙◌}
use Rattle.network.specs.Meaning.{Meaning, Sound, LegFits}
use Rattle.network.specs.declared.leg.Leg.{Leg}

abbrev pub overlaid : Meaning → (ℕ → Option Leg → Option Leg) → Meaning
overlaid m shows = record { stations = m.stations; legs = m.legs; at = λ i. shows i (m.at i) }

-- nothing stays nothing, and a leg in range stays in range
pub record KeepsRanges (shows : ℕ → Option Leg → Option Leg) : Type 0 where
  pub none : (i : ℕ) → shows i None ≡ None
  pub fits : (s i : ℕ) (o : Option Leg) → ((l : Leg) → o ≡ Some l → LegFits s l) → (l : Leg) → shows i o ≡ Some l → LegFits s l

pub overlaid_sound : (m : Meaning) (shows : ℕ → Option Leg → Option Leg) → Sound m → KeepsRanges shows → Sound (overlaid m shows)
overlaid_sound m shows s k = record {
  stations_low = s.stations_low;
  stations_high = s.stations_high;
  legs_high = s.legs_high;
  past = λ i h. ap (shows i) (s.past i h) ∙ k.none i;
  fits = λ i. k.fits m.stations i (m.at i) (s.fits i);
}
