-- The laws of the cap and of the waits.
use Rattle.std.proofs.Common.{◌≡◌, ℕ, ◌+◌, ◌<◌, ◌≤◌, min, ◌⊎◌, replicate, Some, None, Option, sym, refl, ap, ◌∙◌, inl, inr, arith}
use Rattle.std.proofs.lemmas.Grind.{common_steps}
use Rattle.std.proofs.lemmas.Bool.{cases_lt}
use Rattle.network.specs.Meaning.{Meaning, Sound, LegFits}
use Rattle.network.specs.declared.leg.Leg.{Leg}
use Rattle.overlay.specs.Laws.{CapLaws, WaitLaws, WaitsOnly}
use Rattle.overlay.specs.Meanings.{no_harder, later, with_wait}
use Rattle.overlay.specs.Waiting.{wait_in}
use Rattle.overlay.specs.Sounds.{cap_shown}

uncapped : (s : ℕ) (o : Option Leg) → ((l : Leg) → o ≡ Some l → LegFits s l) → no_harder 3 o ≡ o
uncapped s (Some l) f = let h = (f l refl).figures.grade_high in grind (arith, common_steps)
uncapped s None f = refl

pub cap_laws : (m : Meaning) → Sound m → CapLaws m
cap_laws m s = record {
  counts = λ ceiling. (refl, refl);
  no_more = λ ceiling i l e. cap_shown ceiling (m.at i) l e;
  plain = λ t. record { stations = m.stations; legs = m.legs; at = λ i. uncapped m.stations (m.at i) (s.fits i) t };
}

only_later : (wait : ℕ) (o : Option Leg) → WaitsOnly wait o (with_wait wait o)
only_later wait (Some l) = (later wait l, refl, record { from_same = refl; to_same = refl; points_same = refl; grade_same = refl; seconds_more = refl })
only_later wait None = refl

no_later : (s wait : ℕ) (o : Option Leg) → ((l : Leg) → o ≡ Some l → LegFits s l) → wait ≡ 0 → with_wait wait o ≡ o
no_later s wait (Some l) f e =
    let same : min 43200 (l.seconds + wait) ≡ l.seconds = omega (arith, (f l refl).figures.seconds_high) in
    λ t. Some (record { from = l.from; to = l.to; seconds = same t; points = l.points; grade = l.grade })
no_later s wait None f e = refl

pub wait_laws : (m : Meaning) → Sound m → WaitLaws m
wait_laws m s = record {
  counts = λ wait. (refl, refl);
  only_seconds = λ wait i. only_later (wait i) (m.at i);
  plain = λ wait none t. record { stations = m.stations; legs = m.legs; at = λ i. at_each wait none i (cases_lt i m.legs) t };
}
  where
    at_each : (wait : ℕ → ℕ) → ((i : ℕ) → i < m.legs → wait i ≡ 0) → (i : ℕ) → (i < m.legs) ⊎ (m.legs ≤ i) → with_wait (wait i) (m.at i) ≡ m.at i
    at_each wait none i (inl h) = no_later m.stations (wait i) (m.at i) (s.fits i) (none i h)
    at_each wait none i (inr h) = ap (with_wait (wait i)) (s.past i h) ∙ sym (s.past i h)

-- a row of no waits
pub no_waits : (n i : ℕ) → wait_in (replicate n 0) i ≡ 0
no_waits n i = grind (arith, common_steps)
