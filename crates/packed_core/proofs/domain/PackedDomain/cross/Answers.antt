use Rattle.std.proofs.Common.{◌≡◌, ◌∙◌, ◌<◌, ℕ, List, get_or, length, refl, subst, sym}
use Rattle.std.proofs.lemmas.List.{length-map}
use Rattle.jcl_plan.specs.declared.plan.JobPlan.{JobPlan}
use Rattle.packed_core.specs.Entries.{Entry, scenes_of}
use Rattle.packed_core.specs.Rows.{row_at}
use Rattle.packed_core.specs.Views.{AreRows, Views}
use Rattle.packed_core.proofs.Leading.{row_leads}
use Rattle.packed_core.proofs.domain.PackedDomain.cross.Goals as goal

pub returns-in_ok-row-in-Some-clause-crossed : goal.returns-in_ok-row-in-Some-clause-crossed
returns-in_ok-row-in-Some-clause-crossed g c =
    let before : Views = c.args.before.now in
    let row : List ℕ = c.in_ok-row-in-Some.row.items in
    let source : row ≡ c.row.result.now = c.in_ok-row-in-Some.ensures.items in
    row_leads (λ w. w.row.items) g.J.Job.plan g.J.Job.fixed before.part before c.cross_step.new.behind row c.cross_step.result refl
    (subst (λ (l : List ℕ). get_or l 0 0 < length before.scenes) (sym source) c.row.ensures.numbered) c.cross_step.ensures.crossed
    (row_at before.rows c.args.number) (source ∙ c.row.ensures.is)

pub returns-in-None-clause-crossed : goal.returns-in-None-clause-crossed
returns-in-None-clause-crossed g c =
    let before : Views = c.args.before.now in
    let plan : JobPlan = g.J.Job.plan in
    let row : List ℕ = row_at before.rows c.args.number in
    let entries : List Entry = c.before-2.inside.entries.items in
    let many : length (scenes_of entries) ≡ length entries = length-map entries (λ (e : Entry). e.scene) in
    let are : AreRows plan before.part (length before.scenes) before.rows =
    subst (λ (v : Views). AreRows plan v.part (length v.scenes) v.rows) c.before-2.view_is
    (subst (λ (n : ℕ). AreRows plan c.before-2.inside.part n c.before-2.inside.rows) (sym many) c.before-2.invariant.are_rows) in
    row_leads (λ w. w.row.items) plan g.J.Job.fixed before.part before c.args.behind.now row c.cross_end.result refl
    (are.numbered c.args.number c.requires.number) c.cross_end.ensures.crossed row refl
