use Rattle.svg_text.specs.Elements.{content_text}
use Rattle.svg_text.specs.Pictures.{head_text, marks_content, tail_text}
use Rattle.svg_text.proofs.Given.{three_first, three_put, three_second, three_third}
use Rattle.svg_text.proofs.Joined.{err_then, of_any, ok_then}
use Rattle.svg_text.proofs.Pieces.{group_pieces}
use Rattle.svg_text.proofs.picture.put_group.Goals as goal

pub returns-in_err-put_head-clause-err : goal.returns-in_err-put_head-clause-err
returns-in_err-put_head-clause-err g c =
    let x = c.args.group.now in
    of_any c.from_residual.result
    (three_first _ _ _ (head_text x.head) (content_text (marks_content x.marks)) (tail_text x.head) _ (group_pieces x) c.in_err-put_head.ensures.err)

pub returns-in_err-put_marks-clause-err : goal.returns-in_err-put_marks-clause-err
returns-in_err-put_marks-clause-err g c =
    let x = c.args.group.now in
    of_any c.from_residual-in_err-put_marks.result
    (three_second _ _ _ _ _ (head_text x.head) (content_text (marks_content x.marks)) (tail_text x.head) _ (group_pieces x)
    c.in_ok-put_head.ensures.ok (rw c.as_slice.ensures at c.in_err-put_marks.ensures.err))

pub returns-clause-ok : goal.returns-clause-ok
returns-clause-ok g c =
    let x = c.args.group.now in
    ok_then c.put_tail.result
    (λ e. three_put _ _ _ _ _ _ _ _ (head_text x.head) (content_text (marks_content x.marks)) (tail_text x.head) _ (group_pieces x)
    c.in_ok-put_head.ensures.ok (rw c.as_slice.ensures at c.in_ok-put_marks.ensures.ok) e)
    c.put_tail.ensures.ok

pub returns-clause-err : goal.returns-clause-err
returns-clause-err g c =
    let x = c.args.group.now in
    err_then c.put_tail.result
    (λ e. three_third _ _ _ _ _ _ _ (head_text x.head) (content_text (marks_content x.marks)) (tail_text x.head) _ (group_pieces x)
    c.in_ok-put_head.ensures.ok (rw c.as_slice.ensures at c.in_ok-put_marks.ensures.ok) e)
    c.put_tail.ensures.err
