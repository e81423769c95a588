-- What a copy means, and which legs arrive where.
use Rattle.network.specs.Meaning.{Meaning}
pub use Rattle.snapshot.specs.Arrivals.{Arrives, Lowest, FirstFrom, NextFrom, NextArrival}
use Rattle.snapshot.specs.Tables.{table_meaning}
use Rattle.snapshot.specs.declared.snapshot.Snapshot.{Snapshot}

abbrev pub meaning_of : Snapshot → Meaning
meaning_of x = table_meaning x.stations x.count x.legs
