use Rattle.std.proofs.Common.{◌≡◌, ◌∙◌, ◌+◌, ℕ, List, Option, ap, length, subst, sym}
use Rattle.std.specs.Prelude.{All, IfSome}
use Rattle.std.proofs.lemmas.List.Elements.{All-weaker}
use Rattle.jcl_plan.specs.declared.plan.JobPlan.{JobPlan}
use Rattle.jcl_plan.specs.declared.plan.StepPlan.{StepPlan}
use Rattle.packed_core.specs.declared.classes.Class.{Class}
use Rattle.packed_core.specs.declared.classes.Classes.{Classes}
use Rattle.packed_core.specs.declared.room.Room.{Room}
use Rattle.packed_core.specs.declared.ways.Ways.{Ways}
use Rattle.packed_core.specs.Classes.{AreMasks, IsMask, LooksAlike, Serves, tests_before}
use Rattle.packed_core.specs.Rooms.{IsSmall, room_at}
use Rattle.packed_core.specs.Views.{Views}
use Rattle.packed_core.specs.Ways.{AreWays}
use Rattle.packed_core.proofs.Serving.{mask_serves}
use Rattle.packed_core.proofs.views.PackedViews.served.Goals as goal

pub returns : goal.returns
returns g c =
    let plan : JobPlan = g.J.Job.plan in
    let k : ℕ = c.args.self.now.part in
    let step : StepPlan = c.args.step.now in
    let own : ℕ = c.self.inside.part in
    let at : own ≡ k = ap (λ (v : Views). v.part) c.self.view_is in
    let list : List Class = c.in-Some.ways.classes.value.list.items in
    let ways : AreWays plan own c.self.inside.rows c.in-Some.ways =
    subst (λ (o : Option Ways). IfSome o (AreWays plan own c.self.inside.rows)) c.in-Some.is c.self.invariant.are_ways in
    let masks : AreMasks k (tests_before plan k) (room_at plan k) list = subst (λ (n : ℕ). AreMasks n (tests_before plan n) (room_at plan n) list) at ways.masks in
    let alike : All (LooksAlike k) (tests_before plan (k + 1)) =
    subst (λ (n : ℕ). All (LooksAlike n) (tests_before plan (k + 1))) at
    (subst (All (LooksAlike own)) c.requires.kept (c.look_alike.ensures c.if-not-look_alike.false)) in
    let here : c.self.inside.room ≡ room_at plan k = c.self.invariant.roomed ∙ ap (room_at plan) at in
    let small : IsSmall (room_at plan k) = subst IsSmall here c.self.invariant.small in
    let from : c.next_bit.result ≡ (room_at plan k).job + (room_at plan k).passed + 1 = c.next_bit.ensures ∙ ap (λ (r : Room). r.job + r.passed + 1) here in
    let many : length c.as_slice-2.result.now ≡ length step.tests.items = ap (λ l. length l) c.as_slice-2.ensures.value in
    let same : c.as_slice.result.now ≡ list = c.as_slice.ensures.value ∙ ap (λ (x : Classes). x.list.items) c.deref.ensures in
    let all : All (Serves (k + 1) (tests_before plan (k + 1)) (room_at plan (k + 1)) ((room_at plan k).job + (room_at plan k).passed + 1) (length step.tests.items)) list =
    All-weaker (λ (x : Class). IsMask k (tests_before plan k) (room_at plan k) x.code x.mask.items)
    (Serves (k + 1) (tests_before plan (k + 1)) (room_at plan (k + 1)) ((room_at plan k).job + (room_at plan k).passed + 1) (length step.tests.items))
    (λ x is. mask_serves plan k step c.requires.step.0 c.requires.step.1 x alike small is) list masks.masks in
    record {
      serve = subst (λ (l : List Class). All (Serves (k + 1) (tests_before plan (k + 1)) (room_at plan (k + 1)) c.next_bit.result (length c.as_slice-2.result.now)) l) (sym same)
          (subst (λ (n : ℕ). All (Serves (k + 1) (tests_before plan (k + 1)) (room_at plan (k + 1)) c.next_bit.result n) list) (sym many)
          (subst (λ (n : ℕ). All (Serves (k + 1) (tests_before plan (k + 1)) (room_at plan (k + 1)) n (length step.tests.items)) list) (sym from) all));
    }
