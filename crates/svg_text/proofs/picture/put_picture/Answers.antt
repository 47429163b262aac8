use Rattle.std.proofs.Common.{codes}
use Rattle.svg_text.specs.Elements.{content_text}
use Rattle.svg_text.specs.Pictures.{groups_content, top_text}
use Rattle.svg_text.proofs.Given.{three_first, three_put, three_second, three_third}
use Rattle.svg_text.proofs.Joined.{err_then, of_any, ok_then}
use Rattle.svg_text.proofs.Pieces.{picture_pieces}
use Rattle.svg_text.proofs.picture.put_picture.Goals as goal

pub returns-in_err-put_top-clause-err : goal.returns-in_err-put_top-clause-err
returns-in_err-put_top-clause-err g c =
    let x = c.args.picture.now in
    of_any c.from_residual.result
    (three_first _ _ _ (top_text x) (content_text (groups_content x.groups)) (codes "</svg>\n") _ (picture_pieces x) c.in_err-put_top.ensures.err)

pub returns-in_err-put_groups-clause-err : goal.returns-in_err-put_groups-clause-err
returns-in_err-put_groups-clause-err g c =
    let x = c.args.picture.now in
    of_any c.from_residual-in_err-put_groups.result
    (three_second _ _ _ _ _ (top_text x) (content_text (groups_content x.groups)) (codes "</svg>\n") _ (picture_pieces x)
    c.in_ok-put_top.ensures.ok (rw c.as_slice.ensures at c.in_err-put_groups.ensures.err))

pub returns-clause-ok : goal.returns-clause-ok
returns-clause-ok g c =
    let x = c.args.picture.now in
    ok_then c.put_end.result
    (λ e. three_put _ _ _ _ _ _ _ _ (top_text x) (content_text (groups_content x.groups)) (codes "</svg>\n") _ (picture_pieces x)
    c.in_ok-put_top.ensures.ok (rw c.as_slice.ensures at c.in_ok-put_groups.ensures.ok) e)
    c.put_end.ensures.ok

pub returns-clause-err : goal.returns-clause-err
returns-clause-err g c =
    let x = c.args.picture.now in
    err_then c.put_end.result
    (λ e. three_third _ _ _ _ _ _ _ (top_text x) (content_text (groups_content x.groups)) (codes "</svg>\n") _ (picture_pieces x)
    c.in_ok-put_top.ensures.ok (rw c.as_slice.ensures at c.in_ok-put_groups.ensures.ok) e)
    c.put_end.ensures.err
