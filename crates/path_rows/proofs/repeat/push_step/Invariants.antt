use Rattle.std.specs.Prelude.{All}
use Rattle.jcl_meaning.specs.WellFormed.{IsStep}
use Rattle.path_rows.proofs.repeat.push_step.Given as goal

abbrev pub invariant-loop-time : goal.invariant-loop-time
invariant-loop-time l = All IsStep l.steps
