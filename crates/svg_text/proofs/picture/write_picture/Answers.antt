use Rattle.svg_text.specs.Pictures.{picture_text}
use Rattle.svg_text.proofs.Given.{all_given, front_given}
use Rattle.svg_text.proofs.Joined.{err_then, ok_then}
use Rattle.svg_text.proofs.picture.write_picture.Goals as goal

pub returns-clause-ok : goal.returns-clause-ok
returns-clause-ok g c =
    ok_then c.give_held.result
    (λ e. all_given _ _ _ c.empty-out.result.kept c.put_picture.new.out.kept (picture_text c.args.picture.now) c.empty-out.ensures.kept c.in_ok-put_picture.ensures.ok e)
    c.give_held.ensures.ok

pub returns-clause-err : goal.returns-clause-err
returns-clause-err g c =
    err_then c.give_held.result
    (λ e. front_given _ _ _ c.empty-out.result.kept c.put_picture.new.out.kept (picture_text c.args.picture.now) c.empty-out.ensures.kept c.in_ok-put_picture.ensures.ok e)
    c.give_held.ensures.err
