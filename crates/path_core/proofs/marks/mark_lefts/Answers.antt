use Rattle.std.proofs.Common.{◌+◌, ◌++◌, List, length, map, take, ap, ◌∙◌}
use Rattle.std.proofs.lemmas.List.{map-append}
use Rattle.jcl_plan.specs.declared.plan.DdPlan.{DdPlan}
use Rattle.jcl_plan.specs.declared.plan.StepPlan.{StepPlan}
use Rattle.jcl_meaning.specs.Agendas.{lefts_from, lefts_in}
use Rattle.solo_core.proofs.Runs.{front_number, lefts_from-snoc}
use Rattle.path_core.specs.Marks.{is_at, place_of}
use Rattle.path_core.proofs.Marked.{put_more}
use Rattle.path_core.proofs.marks.mark_lefts.Goals as goal

pub loop-i-preserved : goal.loop-i-preserved
loop-i-preserved c =
    let s = c.index-steps-i.result in
    let xs = take c.loop-i.i c.args.steps.now in
    let at = is_at (length c.args.steps.now) (place_of c.args.spot.now) in
    c.in_ok-mark_lefts_in.ensures
    ∙ ap (λ (ds : List DdPlan). c.loop-i.marks ++ map at (lefts_in (c.loop-i.i + 1) 1 ds)) c.as_slice.ensures
    ∙ put_more (λ (ss : List StepPlan). map at (lefts_from 1 ss)) c.args.steps.now c.loop-i.i s c.args.marks.now c.loop-i.marks (map at (lefts_in (c.loop-i.i + 1) 1 s.dds))
    c.loop-i-test.true c.index-steps-i.is c.loop-i.invariant
    (ap (map at) (lefts_from-snoc 1 xs s) ∙ map-append at (lefts_from 1 xs) (lefts_in (1 + length xs) 1 s.dds)
    ∙ ap (λ m. map at (lefts_from 1 xs) ++ map at (lefts_in m 1 s.dds)) (front_number c.args.steps.now c.loop-i.i c.loop-i-test.true))
