use Rattle.std.proofs.Common.{ℕ, List, ap, subst, sym}
use Rattle.jcl_plan.specs.declared.plan.JobPlan.{JobPlan}
use Rattle.packed_core.specs.declared.classes.Class.{Class}
use Rattle.packed_core.specs.Classes.{AreMasks, tests_before}
use Rattle.packed_core.specs.Rooms.{room_at}
use Rattle.packed_core.specs.Views.{Views}
use Rattle.packed_core.proofs.domain.PackedDomain.take_ways.Goals as goal

pub returns-in_ok-classes-in-None-clause-ways : goal.returns-in_ok-classes-in-None-clause-ways
returns-in_ok-classes-in-None-clause-ways g c =
    let plan : JobPlan = g.J.Job.plan in
    let list : List Class = c.begun.result.classes.value.list.items in
    let k : ℕ = c.behind.inside.part in
    record {
      masks = subst (λ (n : ℕ). AreMasks n (tests_before plan n) (room_at plan n) list) (ap (λ (v : Views). v.part) c.behind.view_is)
          (subst (AreMasks k (tests_before plan k) (room_at plan k)) (λ i. (sym c.begun.ensures.classes i).value.list.items)
          c.in_ok-classes-in-None.ensures.masks);
      kept = c.begun.ensures.kept c.args.behind.now.rows;
    }
