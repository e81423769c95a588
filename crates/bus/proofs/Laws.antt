-- What is sure of an accepted matrix.
use Rattle.std.proofs.Common.{◌≡◌, ℕ, ◌+◌, ◌*◌, ◌/◌, ◌%◌, ◌<◌, true, List, length, get_or, sym, ap, ◌∙◌, subst, zero-add, arith}
use Rattle.std.proofs.lemmas.Grind.{common_steps}
use Rattle.std.proofs.lemmas.Nat.{mul-add-lt, div-mul-add, mod-mul-add}
use Rattle.bus.specs.Matrices.{ride, stops_of, bus_meaning, size_fits, entry_fits, entries_fit, Accepted}
use Rattle.bus.proofs.Entries.{each_fits}

-- on the diagonal an entry that fits is 0
diagonal_zero : (n i entry : ℕ) → i / n ≡ i % n → entry_fits n i entry ≡ true → entry ≡ 0
diagonal_zero n i entry same e = grind (arith, common_steps)

module _ (n : ℕ) (minutes : List ℕ) (size : size_fits n minutes ≡ true) (entries : entries_fit n 0 minutes ≡ true) where
  counted : stops_of n ≡ n
  counted = grind (arith, common_steps)

  long : length minutes ≡ n * n
  long = grind (arith, common_steps)

  module _ (from to : ℕ) (a : from < n) (b : to < n) where
    place_inside : from * n + to < n * n
    place_inside = mul-add-lt from n to n a b

    place_fits : entry_fits n (from * n + to) (get_or minutes (from * n + to) 0) ≡ true
    place_fits = subst (λ j. entry_fits n j (get_or minutes (from * n + to) 0) ≡ true) (zero-add (from * n + to)) (each_fits n 0 minutes entries (from * n + to) (omega (arith, place_inside, long)))

    ride_found : (bus_meaning n minutes).at (from * n + to) ≡ ride from to (get_or minutes (from * n + to) 0)
    ride_found =
        let inside = place_inside in
        let row = div-mul-add from n to b in
        let column = mod-mul-add from n to b in
        grind (arith, common_steps)

  pub accepted : Accepted n minutes
  accepted = record {
    stations = counted;
    legs = ap (λ s. s * s) counted;
    rides = ride_found;
    longest = λ from to a b. let fits = place_fits from to a b in grind (arith, common_steps);
    diagonal = λ stop a. diagonal_zero n (stop * n + stop) (get_or minutes (stop * n + stop) 0) (div-mul-add stop n stop a ∙ sym (mod-mul-add stop n stop a)) (place_fits stop stop a a);
  }
