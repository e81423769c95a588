-- What a network means.
use Rattle.std.specs.Prelude.{◌≡◌, ℕ, ◌<◌, ◌≤◌, Some, None, Option}
use Rattle.network.specs.declared.leg.Leg.{Leg}

-- how many stations and leg numbers there are, and what is at each number
pub record Meaning : Type 0 where
  pub stations : ℕ
  pub legs : ℕ
  pub at : ℕ → Option Leg

-- the ranges of a leg's own figures
pub record Figures (l : Leg) : Type 0 where
  pub seconds_low : 1 ≤ l.seconds
  pub seconds_high : l.seconds ≤ 43200
  pub points_high : l.points ≤ 99
  pub grade_high : l.grade ≤ 3

-- the ranges of a leg in a network of s stations
pub record LegFits (s : ℕ) (l : Leg) : Type 0 where
  pub from_fits : l.from < s
  pub to_fits : l.to < s
  pub figures : Figures l

-- the ranges of a network
pub record Sound (m : Meaning) : Type 0 where
  pub stations_low : 2 ≤ m.stations
  pub stations_high : m.stations ≤ 64
  pub legs_high : m.legs ≤ 512
  pub past : (i : ℕ) → m.legs ≤ i → m.at i ≡ None
  pub fits : (i : ℕ) (l : Leg) → m.at i ≡ Some l → LegFits m.stations l
