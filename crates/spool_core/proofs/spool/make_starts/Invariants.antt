use Rattle.std.proofs.Common.{List}
use Rattle.spool_core.specs.declared.spool.Place.{Place}
use Rattle.spool_core.specs.Places.{AreStarts}
use Rattle.spool_core.proofs.spool.make_starts.Given as goal

abbrev pub invariant-loop-class : goal.invariant-loop-class
invariant-loop-class l = (places : List Place) → AreStarts l.fn.starts.items places → AreStarts l.starts.items places
