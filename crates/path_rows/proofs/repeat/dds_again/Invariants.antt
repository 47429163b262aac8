use Rattle.std.specs.Prelude.{All}
use Rattle.jcl_meaning.specs.WellFormed.{IsDdKind}
use Rattle.path_rows.proofs.repeat.dds_again.Given as goal

abbrev pub invariant-loop-dd : goal.invariant-loop-dd
invariant-loop-dd l = All (λ dd. IsDdKind dd.kind) l.again
