-- What a strict total order is.
use Rattle.std.specs.Prelude.{◌≡◌, Bool, true, false}

-- `less x y` says whether x comes before y: of any two values exactly one comes before the other, or they are equal
pub record Strict {E : Type 0} (less : E → E → Bool) : Type 0 where
  pub one_way : (x y : E) → less x y ≡ true → less y x ≡ false
  pub chain : (x y z : E) → less x y ≡ true → less y z ≡ true → less x z ≡ true
  pub apart : (x y : E) → less x y ≡ false → less y x ≡ false → x ≡ y
