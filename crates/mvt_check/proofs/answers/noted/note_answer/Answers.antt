use Rattle.std.proofs.Common.{◌≤◌, ◌+◌, None, get_or, length, arith}
use Rattle.mvt_check.proofs.Noting.{noted}
use Rattle.mvt_check.proofs.answers.noted.note_answer.Goals as goal

pub returns : goal.returns
returns c = λ job.
    let room : c.from-place.result + 1 ≤ length c.make_places.new.by_job.items = c.in_ok-make_places.ensures.enough in
    noted c.make_places.new.by_job.items c.from-place.result c.in-Some.job job c.args.path c.args.told c.in-Some.line c.in-Some-answer_by.answer
    (get_or c.args.by_job.now.items job None) c.in-Some.is c.in-Some-answer_by.ensures c.from-place.ensures (omega (arith, room))
    (c.in_ok-make_places.ensures.same job)
