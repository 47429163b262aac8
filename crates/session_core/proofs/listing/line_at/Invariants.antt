use Rattle.std.proofs.Common.{ℕ, List, ◌++◌, drop, length}
use Rattle.session_text.specs.declared.statement.Statement.{Statement}
use Rattle.session_core.specs.Marks.{AreMarks}
use Rattle.run_options.specs.declared.Options.{Options}
use Rattle.session_core.proofs.Marked.{Passed}
use Rattle.session_core.proofs.listing.line_at.Given as goal

abbrev pub invariant-loop-mark : goal.invariant-loop-mark
invariant-loop-mark l = (o : Options) (stands : List Statement) (before text : List ℕ) → AreMarks o stands (length before) before l.marks text →
    Passed o stands (length before) (before ++ text) l.taken l.line (drop l.mark-index l.marks)
