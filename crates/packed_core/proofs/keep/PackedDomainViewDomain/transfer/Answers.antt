use Rattle.std.proofs.Common.{◌≡◌, ◌<◌, ℕ, List, ap, arith, length, map, subst, sym}
use Rattle.std.proofs.lemmas.List.{length-map}
use Rattle.disp_core.specs.Courses.{fixed_by}
use Rattle.jcl_plan.specs.declared.plan.JobPlan.{JobPlan}
use Rattle.packed_core.specs.Entries.{Entry, scenes_of}
use Rattle.packed_core.specs.Shown.{row_shown}
use Rattle.packed_core.specs.Views.{AreRows, HasMoreScenes, Views}
use Rattle.packed_core.proofs.Kept.{behind_stays, leads_on, ok_then}
use Rattle.packed_core.proofs.keep.PackedDomainViewDomain.transfer.Goals as goal

pub cross-requires-clause-part : goal.cross-requires-clause-part
cross-requires-clause-part g c =
    let same : length c.args.self.now.plain.plan.now.steps ≡ length g.J.Job.plan.steps = ap (λ (p : JobPlan). length p.steps) c.args.self.now.planned in
    omega (arith, c.requires.part, c.requires.stands_before, same)

pub returns-clause-before : goal.returns-clause-before
returns-clause-before g c =
    let domain = c.args.self.now in
    let old : Views = c.args.before.now in
    let new : Views = c.cross.new.before in
    ok_then c.cross.result (new ≡ old) _ (λ same. (
      ap (λ (v : Views). map (row_shown domain.plain.plan.now domain.plain.given.date v.part v.scenes) v.rows) same,
      ap (λ (v : Views). v.part) same,
    )) c.cross.ensures.before

pub returns-clause-behind : goal.returns-clause-behind
returns-clause-behind g c =
    let domain = c.args.self.now in
    let old : Views = c.args.behind.now in
    let new : Views = c.cross.new.behind in
    let entries : List Entry = c.behind.inside.entries.items in
    let many : length (scenes_of entries) ≡ length entries = length-map entries (λ (e : Entry). e.scene) in
    let rows : AreRows g.J.Job.plan old.part (length old.scenes) old.rows =
    subst (λ (v : Views). AreRows g.J.Job.plan v.part (length v.scenes) v.rows) c.behind.view_is
    (subst (λ (n : ℕ). AreRows g.J.Job.plan c.behind.inside.part n c.behind.inside.rows) (sym many) c.behind.invariant.are_rows) in
    ok_then c.cross.result (HasMoreScenes old new) _ (λ more. (
      behind_stays domain.plain.plan.now domain.plain.given.date old new more rows.numbered,
      more.part,
    )) c.cross.ensures.behind

pub returns-clause-crossed : goal.returns-clause-crossed
returns-clause-crossed g c =
    let domain = c.args.self.now in
    let before : Views = c.args.before.now in
    let within : c.args.number < length before.rows =
    subst (λ (n : ℕ). c.args.number < n) (length-map before.rows (row_shown domain.plain.plan.now domain.plain.given.date before.part before.scenes))
    c.requires.number in
    leads_on (λ w. w.row.items) before c.cross.new.behind c.args.number c.args.part c.cross.result domain.plain.plan.now g.J.Job.plan
    (fixed_by domain.plain.given) g.J.Job.fixed domain.planned domain.so_fixed c.requires.stands_before within c.cross.ensures.crossed
