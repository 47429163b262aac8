use Rattle.std.proofs.Common.{◌≡◌, ◌∙◌, ℕ, List, ap, length}
use Rattle.jcl_plan.specs.declared.plan.JobPlan.{JobPlan}
use Rattle.jcl_plan.specs.declared.plan.StepPlan.{StepPlan}
use Rattle.jcl_meaning.specs.States.{Fixed}
use Rattle.view_core.specs.declared.scene.Scene.{Scene}
use Rattle.view_core.specs.Bits.{fate_shown}
use Rattle.packed_core.specs.Crossing.{row_shows}
use Rattle.packed_core.specs.Views.{Views}
use Rattle.packed_core.proofs.Leading.{step_idles, step_runs}
use Rattle.packed_core.proofs.domain.PackedDomain.cross_step.Goals as goal

pub returns-in-Run-clause-crossed : goal.returns-in-Run-clause-crossed
returns-in-Run-clause-crossed g c =
    let plan : JobPlan = g.J.Job.plan in
    let fixed : Fixed = g.J.Job.fixed in
    let before : Views = c.args.before.now in
    let step : StepPlan = c.args.step.now in
    let row : List ℕ = c.args.row.items in
    let tells : (scene : Scene) → c.fate_of-fate.result ≡ fate_shown (length plan.tests.items) step (row_shows plan before.part scene row) =
    λ scene. c.fate_of-fate.ensures scene
    ∙ ap (λ (l : List ℕ). fate_shown (length plan.tests.items) step (row_shows plan before.part scene l)) c.as_slice.ensures.value in
    step_runs (λ w. w.row.items) plan fixed before.part before c.cross_running.new.behind row c.cross_running.result step c.passed-row.result.items
    c.passed-row.ensures.first c.passed-row.ensures.passed c.fate_of-fate.result tells c.in-Run.is c.cross_running.ensures.crossed

pub returns-in_default-clause-crossed : goal.returns-in_default-clause-crossed
returns-in_default-clause-crossed g c =
    let plan : JobPlan = g.J.Job.plan in
    let fixed : Fixed = g.J.Job.fixed in
    let before : Views = c.args.before.now in
    let step : StepPlan = c.args.step.now in
    let row : List ℕ = c.args.row.items in
    let tells : (scene : Scene) → c.fate_of-fate.result ≡ fate_shown (length plan.tests.items) step (row_shows plan before.part scene row) =
    λ scene. c.fate_of-fate.ensures scene
    ∙ ap (λ (l : List ℕ). fate_shown (length plan.tests.items) step (row_shows plan before.part scene l)) c.as_slice.ensures.value in
    step_idles (λ w. w.row.items) plan fixed before.part before c.cross_idle.new.behind row c.cross_idle.result step c.passed-row.result.items
    c.passed-row.ensures.first c.passed-row.ensures.passed c.fate_of-fate.result tells (c.args.later.now, c.requires.step) c.cross_idle.ensures.crossed
