-- What is shown under a test.
use Rattle.std.specs.Prelude.{◌≡◌, ℕ, Bool, true, false, cond, Some, None, Option, refl}
use Rattle.std.proofs.Common.{arith}

pub nothing : {X : Type 0} (x : X) → ◌≡◌ {A = Option X} None (Some x) → ⊥
nothing x e = let z : ◌≡◌ {A = ℕ} 0 1 = cc in omega arith

-- what is shown where a test holds
pub held : {X : Type 0} (b : Bool) (o : Option X) (x : X) → cond b o None ≡ Some x → (b ≡ true) × (o ≡ Some x)
held true o x e = (refl, e)
held false o x e = absurd (nothing x e)

-- what is shown where a test fails
pub passed : {X : Type 0} (b : Bool) (o : Option X) (x : X) → cond b None o ≡ Some x → o ≡ Some x
passed true o x e = absurd (nothing x e)
passed false o x e = e
