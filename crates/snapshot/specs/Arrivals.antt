-- Which legs of a network arrive where.
use Rattle.std.specs.Prelude.{◌≡◌, ℕ, suc, ◌<◌, ◌≤◌, Some, None, Option}
use Rattle.std.proofs.Props.{props}
use Rattle.network.specs.Meaning.{Meaning}
use Rattle.network.specs.declared.leg.Leg.{Leg}

-- a leg is there, and arrives at station u
abbrev pub Arrives : Option Leg → ℕ → Type 0
Arrives None u = ⊥
Arrives (Some l) u = l.to ≡ u

-- leg e is the lowest from number i on that arrives at station u
pub record Lowest (m : Meaning) (u i e : ℕ) : Type 0 where
  pub from : i ≤ e
  pub small : e < 512
  pub arrives : Arrives (m.at e) u
  pub lowest : (f : ℕ) → i ≤ f → f < e → Arrives (m.at f) u → ⊥

-- the lowest leg from number i on that arrives at station u, or none where none does
abbrev pub FirstFrom : Meaning → ℕ → ℕ → Option ℕ → Type 0
FirstFrom m u i None = (e : ℕ) → i ≤ e → Arrives (m.at e) u → ⊥
FirstFrom m u i (Some e) = Lowest m u i e

-- the next leg behind e that arrives where it does, by what is at e
abbrev pub NextFrom : Meaning → ℕ → Option Leg → Option ℕ → Type 0
NextFrom m e None r = r ≡ None
NextFrom m e (Some l) r = FirstFrom m l.to (suc e) r

abbrev pub NextArrival : Meaning → ℕ → Option ℕ → Type 0
NextArrival m e r = NextFrom m e (m.at e) r

-- each of these is a fact, with one proof at most
Arrives-prop : (o : Option Leg) (u : ℕ) → IsProp (Arrives o u)
Arrives-prop None u = hlevel props
Arrives-prop (Some l) u = hlevel props

pub FirstFrom-prop : (m : Meaning) (u i : ℕ) (r : Option ℕ) → IsProp (FirstFrom m u i r)
FirstFrom-prop m u i None = hlevel props
FirstFrom-prop m u i (Some e) = hlevel (props, Arrives-prop)

pub NextArrival-prop : (m : Meaning) (e : ℕ) (r : Option ℕ) → IsProp (NextArrival m e r)
NextArrival-prop m e r = go (m.at e)
  where
    go : (o : Option Leg) → IsProp (NextFrom m e o r)
    go None = hlevel props
    go (Some l) = FirstFrom-prop m l.to (suc e) r
