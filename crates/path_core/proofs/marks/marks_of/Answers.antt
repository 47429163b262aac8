use Rattle.std.proofs.Common.{◌++◌, ◌∷◌, [], List, false, length, map, ap, ◌∙◌}
use Rattle.jcl_plan.specs.declared.plan.StepPlan.{StepPlan}
use Rattle.jcl_meaning.specs.Agendas.{lefts_from}
use Rattle.path_core.specs.Marks.{is_at, place_of, steps_marks}
use Rattle.path_core.proofs.Marked.{agenda_marked}
use Rattle.path_core.proofs.marks.marks_of.Goals as goal

pub returns : goal.returns
returns c =
    let w = place_of c.args.spot.now in
    agenda_marked w c.args.plan.now c.push.new.self _ _
    (ap (steps_marks w 0) c.as_slice.ensures)
    (ap (λ (ss : List StepPlan). map (is_at (length ss) w) (lefts_from 1 ss)) c.as_slice-2.ensures)
    (c.in_ok-push.ensures.ok ∙ ap (λ l. l ++ false ∷ []) (c.in_ok-mark_lefts.ensures
    ∙ ap (λ l. l ++ map (is_at (length c.as_slice-2.result.now) w) (lefts_from 1 c.as_slice-2.result.now)) (c.in_ok-mark_steps.ensures ∙ ap (λ l. l ++ steps_marks w 0 c.as_slice.result.now) c.empty-marks.ensures)))
