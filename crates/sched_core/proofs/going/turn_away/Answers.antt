use Rattle.std.proofs.Common.{◌≡◌, ◌≢◌, ◌≤◌, All, Some, arith, length, subst, sym}
use Rattle.init_core.specs.Going.{Went}
use Rattle.init_core.specs.Running.{config_of, path_before}
use Rattle.init_core.specs.declared.running.Progress.TheVariants.{Answered, Over}
use Rattle.init_core.specs.declared.running.Running.{Running}
use Rattle.sched_core.specs.Copies.{unless_risk}
use Rattle.sched_core.specs.Explaining.{most_explained}
use Rattle.sched_core.specs.Going.{HasRoomFor}
use Rattle.sched_core.proofs.Explained.{few_paths}
use Rattle.sched_core.proofs.Risks.{no_risk}
use Rattle.sched_core.proofs.going.turn_away.Goals as goal

pub go_on-requires-clause-unqueued : goal.go_on-requires-clause-unqueued
go_on-requires-clause-unqueued g c =
    let is : c.requires.runs.0 ≡ c.in-Some.running = cc (c.requires.runs.1, c.in-Some.ensures.value) in
    subst (λ (r : Running). All (λ q. q.job ≢ r.job) (g.Q.RecordStore.queue c.args.parts.now.queue).waiting) is c.requires.runs.6

pub tell-requires-clause-no_risk : goal.tell-requires-clause-no_risk
tell-requires-clause-no_risk g c =
    let queue_of = g.Q.RecordStore.queue in
    let config = config_of c.args.profile.now (queue_of c.args.parts.now.queue).layout in
    subst (All (λ l. unless_risk l ≡ Some l)) (sym c.lines_from.ensures)
    (no_risk queue_of config c.args.parts.now c.in-Some.running c.go_on.new.parts c.in-Ok-GoesOn.running c.in-Ok-GoesOn.from
    (subst (Went queue_of config c.args.parts.now c.in-Some.running c.go_on.new.parts) c.in-Ok-GoesOn.field-0-is c.in-Ok-GoesOn.ensures.ok))

pub tell_answer-requires : goal.tell_answer-requires
tell_answer-requires g c =
    let queue_of = g.Q.RecordStore.queue in
    let layout = (queue_of c.args.parts.now.queue).layout in
    let went = subst (Went queue_of (config_of c.args.profile.now layout) c.args.parts.now c.in-Some.running c.go_on.new.parts) c.in-Ok-Answered.field-0-is
    c.in-Ok-Answered.ensures.ok in
    let few : length c.in-Ok-Answered.told.path ≤ most_explained c.args.profile.now c.in-Some.running =
    few_paths c.explanation_is_few.ensures queue_of c.args.profile.now layout c.args.parts.now c.in-Some.running c.go_on.new.parts
    (Answered c.in-Ok-Answered.running c.in-Ok-Answered.told) went in
    let is : c.requires.runs.0 ≡ c.in-Some.running = cc (c.requires.runs.1, c.in-Some.ensures.value) in
    let room = subst (λ r. HasRoomFor c.args.profile.now r c.args.entries) is c.requires.runs.5 in
    let none = room.empty in
    let left = room.room in
    omega (arith, few, none, left)

pub tell_end-requires : goal.tell_end-requires
tell_end-requires g c =
    let queue_of = g.Q.RecordStore.queue in
    let layout = (queue_of c.args.parts.now.queue).layout in
    let went = subst (Went queue_of (config_of c.args.profile.now layout) c.args.parts.now c.in-Some.running c.go_on.new.parts) c.in-Ok-Over.field-0-is
    c.in-Ok-Over.ensures.ok in
    let few : length (path_before c.in-Ok-Over.before) ≤ most_explained c.args.profile.now c.in-Some.running =
    few_paths c.explanation_is_few.ensures queue_of c.args.profile.now layout c.args.parts.now c.in-Some.running c.go_on.new.parts
    (Over c.in-Ok-Over.before c.in-Ok-Over.last) went in
    let is : c.requires.runs.0 ≡ c.in-Some.running = cc (c.requires.runs.1, c.in-Some.ensures.value) in
    let room = subst (λ r. HasRoomFor c.args.profile.now r c.args.entries) is c.requires.runs.5 in
    let none = room.empty in
    let left = room.room in
    omega (arith, few, none, left)
