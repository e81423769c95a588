-- Following the first legs, a leg at a time.
use Rattle.std.proofs.Common.{◌≡◌, ℕ, suc, ◌+◌, ◌-◌, ◌<◌, ◌≤◌, List, [], ◌∷◌, ◌++◌, Some, None, Option, sym, refl, ap, ◌∙◌, append_assoc, append-nil, arith}
use Rattle.network.specs.declared.leg.Leg.{Leg}
use Rattle.network.specs.Meaning.{Meaning, Sound}
use Rattle.route.specs.Certificate.{leg_end, follow}

pub end_below : (m : Meaning) → Sound m → (i : ℕ) → leg_end (m.at i) < 64
end_below m sound i = go (m.at i) refl
  where
    go : (o : Option Leg) → m.at i ≡ o → leg_end o < 64
    go None e = omega arith
    go (Some l) e = omega (arith, (sound.fits i l e).to_fits, sound.stations_high)

-- one more of n legs: `is` are those found, from v on the others follow
pub follow_step : (m : Meaning) (first : ℕ → ℕ) (is is' all : List ℕ) (n i v w : ℕ) → i < n → is ++ follow m first (n - i) v ≡ all → is' ≡ is ++ first v ∷ [] → w ≡ leg_end (m.at (first v)) → is' ++ follow m first (n - (i + 1)) w ≡ all
follow_step m first is is' all n i v w h e p q =
    let left : n - i ≡ suc (n - (i + 1)) = omega arith in
    ap (λ x. x ++ follow m first (n - (i + 1)) w) p
    ∙ ap (λ x. (is ++ first v ∷ []) ++ follow m first (n - (i + 1)) x) q
    ∙ append_assoc is (first v ∷ []) (follow m first (n - (i + 1)) (leg_end (m.at (first v)))) ∙ ap (λ x. is ++ follow m first x v) (sym left) ∙ e
