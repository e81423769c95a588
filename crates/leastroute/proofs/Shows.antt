-- The network that an accepted map shows is the one in its records.
use Rattle.std.proofs.Common.{◌≡◌, ℕ, arith}
use Rattle.std.proofs.lemmas.Bool.Decides.{nat_tests}
use Rattle.map_file.specs.declared.map.Map.{Map}
use Rattle.map_file.specs.Maps.{contents}
use Rattle.map_file.specs.Networks.{map_meaning, map_sound, ShowsRecords}
use Rattle.leastroute.specs.Answers.{network_in}

module _ (m : Map) (shows : ShowsRecords m) where
  same_leg : (i : ℕ) → (map_meaning m).at i ≡ (network_in (contents m)).at i
  same_leg i = grind (arith, nat_tests, shows.legs_shown i, (map_sound m).past i, shows.legs_are)

  pub same_network : map_meaning m ≡ network_in (contents m)
  same_network = λ j. record { stations = shows.stations_are j; legs = shows.legs_are j; at = λ i. same_leg i j }
