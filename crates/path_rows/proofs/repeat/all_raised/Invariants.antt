use Rattle.jcl_meaning.specs.WellFormed.{AreTests}
use Rattle.path_rows.proofs.repeat.all_raised.Given as goal

abbrev pub invariant-loop-test : goal.invariant-loop-test
invariant-loop-test l = AreTests l.found.items
