-- The labels of a search.
use Rattle.std.specs.Prelude.{◌≡◌, ℕ, ◌+◌, ◌≤◌, Bool, false, cond, length, replicate, Some, None, Option, is_none, ◌==◌, nat_lt, slice_index, slice_index_or, slice_set}
use Rattle.network.specs.Meaning.{Meaning}
use Rattle.cost.specs.Costs.{Costs}
use Rattle.route.specs.Routes.{Bars}
use Rattle.route.specs.Labels.{LabellingAlong}
use Rattle.search.specs.declared.labels.Label.{Label}
use Rattle.search.specs.declared.labels.Labels.{Labels}

abbrev pub line_of : Labels → ℕ → ℕ
line_of ls j = slice_index ls.line j

-- a station's label, if it has one
abbrev pub label_of : Labels → ℕ → Option Label
label_of ls v = slice_index_or ls.labels v None

-- how many legs a label says; 64 where there is none
abbrev pub hops_in : Option Label → ℕ
hops_in None = 64
hops_in (Some l) = l.hops

-- the first of them
abbrev pub first_in : Option Label → ℕ
first_in None = 0
first_in (Some l) = l.first

abbrev pub hops_of : Labels → ℕ → ℕ
hops_of ls v = hops_in (label_of ls v)

abbrev pub first_of : Labels → ℕ → ℕ
first_of ls v = first_in (label_of ls v)

abbrev pub unlabelled : Labels → ℕ → Bool
unlabelled ls v = is_none (label_of ls v)

-- phase 2 under way: all legs into the stations before the c-th of the line were looked at, and of those into it the ones
-- with numbers below i
pub record Labelled {C : Type 0} (k : Costs C) (m : Meaning) (b : Bars) (goal c i : ℕ) (D : ℕ → C) (ls : Labels) : Type 0 where
  pub line_long : length ls.line ≡ 64
  pub labels_long : length ls.labels ≡ 64
  pub few : (v : ℕ) → unlabelled ls v ≡ false → hops_of ls v ≤ 63
  pub goal_cost : D goal ≡ k.zero
  pub labels : LabellingAlong k m b goal c ls.count i D (line_of ls) (hops_of ls) (first_of ls)

-- a label is better than the station's own: it has fewer legs, or as many and a lower first leg
abbrev pub improves : Labels → ℕ → Label → Bool
improves ls v l = cond (l.hops == hops_of ls v) (nat_lt l.first (first_of ls v)) (nat_lt l.hops (hops_of ls v))

-- the labels where a station gets one: at its first it stands at the end of the line
abbrev pub put_label : Labels → ℕ → Label → Labels
put_label ls v l = record { line = cond (unlabelled ls v) (slice_set ls.line ls.count v) ls.line; count = cond (unlabelled ls v) (ls.count + 1) ls.count; done = ls.done; labels = slice_set ls.labels v (Some l) }

-- only the goal has a label
abbrev pub first_label : ℕ → Labels
first_label goal = record { line = slice_set (replicate 64 0) 0 goal; count = 1; done = 0; labels = slice_set (replicate 64 None) goal (Some (record { hops = 0; first = 0 })) }
