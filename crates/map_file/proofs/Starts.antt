-- The record at an offset is the first of those from there on.
use Rattle.std.proofs.Common.{◌≡◌, ℕ, List, Some, None, Option, sym, arith}
use Rattle.map_format.specs.Format.{Item}
use Rattle.map_format.specs.Walking.{record_at}
use Rattle.map_format.proofs.Walks.{walk_step, walk_end, record_bounds}
use Rattle.map_file.specs.Steps.{Begins}

pub begins : (file : List ℕ) (at : ℕ) (o : Option (Item × ℕ)) → o ≡ record_at file at → Begins file at o
begins file at (Some p) e =
    let b = record_bounds file at p (sym e) in
    (walk_step file at p (sym e), omega (arith, b.0), b.1)
begins file at None e = walk_end file at (sym e)
