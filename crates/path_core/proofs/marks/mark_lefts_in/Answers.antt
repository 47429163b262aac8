use Rattle.std.proofs.Common.{◌+◌, ◌++◌, List, length, map, take, ap, ◌∙◌}
use Rattle.std.proofs.lemmas.List.{map-append}
use Rattle.jcl_plan.specs.declared.plan.DdPlan.{DdPlan}
use Rattle.jcl_meaning.specs.Agendas.{left_by, lefts_in}
use Rattle.solo_core.proofs.Runs.{front_number, lefts_in-snoc}
use Rattle.path_core.specs.Marks.{is_at, place_of}
use Rattle.path_core.proofs.Marked.{put_more}
use Rattle.path_core.proofs.marks.mark_lefts_in.Goals as goal

pub loop-i-preserved : goal.loop-i-preserved
loop-i-preserved c =
    let n = c.args.n in
    let d = c.index-dds-i.result in
    let xs = take c.loop-i.i c.args.dds.now in
    let at = is_at c.args.steps (place_of c.args.spot.now) in
    c.in_ok-mark_left.ensures
    ∙ put_more (λ (ds : List DdPlan). map at (lefts_in n 1 ds)) c.args.dds.now c.loop-i.i d c.args.marks.now c.loop-i.marks (map at (left_by n (c.loop-i.i + 1) d))
    c.loop-i-test.true c.index-dds-i.is c.loop-i.invariant
    (ap (map at) (lefts_in-snoc n 1 xs d) ∙ map-append at (lefts_in n 1 xs) (left_by n (1 + length xs) d)
    ∙ ap (λ m. map at (lefts_in n 1 xs) ++ map at (left_by n m d)) (front_number c.args.dds.now c.loop-i.i c.loop-i-test.true))
