use Rattle.session_core.proofs.Marked.{Passed-all, Passed-more, Passed-next, Passed-none, at_mark, behind_marks}
use Rattle.session_core.proofs.listing.line_at.Goals as goal

pub returns-then-taken-mark : goal.returns-then-taken-mark
returns-then-taken-mark c = λ o stands before text are within.
    Passed-next o stands before text _ _ _ _
    (at_mark o stands _ _ _ _ c.loop-mark.mark-index c.args.marks.now (record { line = 0; start = 0 }) c.loop-mark-test.true
    (c.loop-mark.invariant o stands before text are))
    c.if-taken-mark.true

pub loop-mark-preserved : goal.loop-mark-preserved
loop-mark-preserved c = λ o stands before text are.
    Passed-more o stands _ _ _ _ _ _
    (at_mark o stands _ _ _ _ c.loop-mark.mark-index c.args.marks.now (record { line = 0; start = 0 }) c.loop-mark-test.true
    (c.loop-mark.invariant o stands before text are))
    c.if-taken-mark.false

pub loop-mark-init : goal.loop-mark-init
loop-mark-init c = λ o stands before text are. Passed-none o stands before text _ _ _ are

pub returns : goal.returns
returns c = λ o stands before text are within.
    Passed-all o stands before text _ _
    (behind_marks o stands _ _ _ _ c.loop-mark.mark-index c.args.marks.now c.loop-mark-test.false (c.loop-mark.invariant o stands before text are)) within
