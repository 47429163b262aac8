use Rattle.std.proofs.Common.{◌+◌, ◌++◌, length, take, ap, ◌∙◌}
use Rattle.solo_core.proofs.Runs.{front_length}
use Rattle.path_core.specs.Marks.{place_of, step_marks, steps_marks}
use Rattle.path_core.proofs.Marked.{put_more, step_marked}
use Rattle.path_core.proofs.marks.mark_steps.Goals as goal

pub loop-before-preserved : goal.loop-before-preserved
loop-before-preserved c =
    let s = c.index-steps-before.result in
    let w = place_of c.args.spot.now in
    let i = c.loop-before.before in
    c.in_ok-mark_step.ensures ∙ ap (λ n. c.loop-before.marks ++ step_marks w i (i + 1) n) c.len.ensures
    ∙ put_more (steps_marks w 0) c.args.steps.now i s c.args.marks.now c.loop-before.marks (step_marks w i (i + 1) (length s.dds))
    c.loop-before-test.true c.index-steps-before.is c.loop-before.invariant
    (step_marked w (take i c.args.steps.now) s i (front_length c.args.steps.now i c.loop-before-test.true))
