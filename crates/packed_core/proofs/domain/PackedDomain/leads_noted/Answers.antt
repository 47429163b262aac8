use Rattle.std.proofs.Common.{◌≡◌, ◌∙◌, ℕ, List, ap, subst, sym}
use Rattle.jcl_plan.specs.declared.plan.JobPlan.{JobPlan}
use Rattle.packed_core.specs.declared.classes.Class.{Class}
use Rattle.packed_core.specs.declared.classes.Classes.{Classes}
use Rattle.packed_core.specs.declared.ways.Ways.{Ways}
use Rattle.packed_core.specs.Classes.{AreMasks, tests_before}
use Rattle.packed_core.specs.Rooms.{room_at}
use Rattle.packed_core.specs.Views.{Views}
use Rattle.packed_core.specs.Ways.{AreKept, AreLooked}
use Rattle.packed_core.proofs.domain.PackedDomain.leads_noted.Goals as goal

pub returns-clause-ways : goal.returns-clause-ways
returns-clause-ways g c =
    let plan : JobPlan = g.J.Job.plan in
    let behind : Views = c.args.behind.now in
    let base : List ℕ = c.args.base.now in
    let done : Ways = c.settle.new.self in
    let list : List Class = done.classes.value.list.items in
    let kept : AreKept behind.rows done = subst (λ (rows : List (List ℕ)). AreKept rows done) c.standing-rows.ensures c.in_ok-settle.ensures.kept in
    let value : c.as_slice-list.result.now ≡ list = c.as_slice-list.ensures.value ∙ ap (λ (x : Classes). x.list.items) c.deref.ensures in
    let looked : AreLooked behind.rows list base c.in_ok-offer.offer.looked.items =
    subst (λ (l : List Class). AreLooked behind.rows l base c.in_ok-offer.offer.looked.items) value c.in_ok-offer.ensures.looked in
    record {
      masks = subst (AreMasks behind.part (tests_before plan behind.part) (room_at plan behind.part))
          (λ i. (sym (c.keep_pending.ensures.classes ∙ c.settle.ensures.classes) i).value.list.items) c.requires.ways.masks;
      kept = c.keep_pending.ensures.kept behind.rows looked kept;
    }
