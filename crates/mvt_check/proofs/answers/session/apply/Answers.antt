use Rattle.std.proofs.Common.{◌∙◌, None, get_or}
use Rattle.mvt_check.specs.Answers.{answer_for, answered_by}
use Rattle.mvt_check.proofs.Runs.{Tells-one}
use Rattle.mvt_check.proofs.answers.session.apply.Goals as goal

pub returns : goal.returns
returns c =
    let before = c.args.by_job.now.items in
    Tells-one c.args.system.now c.apply_shown.new.self c.args.event.now c.in_ok-lines.lines before c.note_answer.new.by_job.items c.in_ok-told.told.number
    c.in_ok-lines.ensures.step c.apply_shown.ensures.next c.in_ok-told.ensures.number
    (λ job. c.in_ok-note_answer.ensures job
    ∙ (λ i. answer_for job (get_or before job None) (answered_by (c.in_ok-told.ensures.path i) (c.in_ok-told.ensures.answer i))))
