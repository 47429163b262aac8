use Rattle.std.specs.Prelude.{All}
use Rattle.jcl_meaning.specs.WellFormed.{IsStep}
use Rattle.path_rows.proofs.repeat.steps_again.Given as goal

abbrev pub invariant-loop-before : goal.invariant-loop-before
invariant-loop-before l = All IsStep l.all
