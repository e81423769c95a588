-- Each rule keeps the ranges, so an overlay over a network in range is in range.
use Rattle.std.specs.Prelude.{◌≡◌, ℕ, Bool, true, false, cond, Some, None, Option, nat_le, refl}
use Rattle.std.proofs.Common.{subst, arith}
use Rattle.network.specs.Meaning.{Meaning, Sound, LegFits}
use Rattle.network.specs.Shown.{nothing, held, passed}
use Rattle.network.specs.declared.leg.Leg.{Leg}
use Rattle.overlay.specs.Meanings.{closing, closed, no_harder, capping, capped, later, with_wait, delaying, delayed}
use Rattle.overlay.specs.Rules.{KeepsRanges, overlaid_sound}

hidden : (b : Bool) (o : Option Leg) → o ≡ None → cond b None o ≡ None
hidden true o e = refl
hidden false o e = e

pub closing_keeps : (shut : ℕ → Bool) → KeepsRanges (closing shut)
closing_keeps shut = record { none = λ i. hidden (shut i) None refl; fits = λ s i o f l e. f l (passed (shut i) o l e) }

pub closed_sound : (m : Meaning) (shut : ℕ → Bool) → Sound m → Sound (closed m shut)
closed_sound m shut s = overlaid_sound m (closing shut) s (closing_keeps shut)

pub cap_shown : (ceiling : ℕ) (o : Option Leg) (l : Leg) → no_harder ceiling o ≡ Some l → o ≡ Some l
cap_shown ceiling (Some x) l e = (held (nat_le x.grade ceiling) (Some x) l e).1
cap_shown ceiling None l e = e

pub capping_keeps : (ceiling : ℕ) → KeepsRanges (capping ceiling)
capping_keeps ceiling = record { none = λ i. refl; fits = λ s i o f l e. f l (cap_shown ceiling o l e) }

pub capped_sound : (m : Meaning) (ceiling : ℕ) → Sound m → Sound (capped m ceiling)
capped_sound m ceiling s = overlaid_sound m (capping ceiling) s (capping_keeps ceiling)

pub later_fits : (s wait : ℕ) (l : Leg) → LegFits s l → LegFits s (later wait l)
later_fits s wait l f = record {
  from_fits = f.from_fits;
  to_fits = f.to_fits;
  figures = record {
    seconds_low = omega (arith, f.figures.seconds_low);
    seconds_high = omega arith;
    points_high = f.figures.points_high;
    grade_high = f.figures.grade_high;
  };
}

pub delayed_fits : (s wait : ℕ) (o : Option Leg) (l : Leg) → ((x : Leg) → o ≡ Some x → LegFits s x) → with_wait wait o ≡ Some l → LegFits s l
delayed_fits s wait (Some x) l f e = let q : later wait x ≡ l = cc in subst (LegFits s) q (later_fits s wait x (f x refl))
delayed_fits s wait None l f e = absurd (nothing l e)

pub delaying_keeps : (wait : ℕ → ℕ) → KeepsRanges (delaying wait)
delaying_keeps wait = record { none = λ i. refl; fits = λ s i o f l e. delayed_fits s (wait i) o l f e }

pub delayed_sound : (m : Meaning) (wait : ℕ → ℕ) → Sound m → Sound (delayed m wait)
delayed_sound m wait s = overlaid_sound m (delaying wait) s (delaying_keeps wait)
