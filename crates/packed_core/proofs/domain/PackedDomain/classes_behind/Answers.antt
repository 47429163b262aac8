use Rattle.std.proofs.Common.{◌≡◌, ◌∙◌, ◌+◌, ℕ, List, ap, drop, subst, sym}
use Rattle.std.specs.Prelude.{All}
use Rattle.jcl_plan.specs.declared.plan.JobPlan.{JobPlan}
use Rattle.jcl_plan.specs.declared.plan.Test.{Test}
use Rattle.view_core.specs.Bits.{kept_tests}
use Rattle.packed_core.specs.declared.classes.Class.{Class}
use Rattle.packed_core.specs.Classes.{Serves, tests_before}
use Rattle.packed_core.specs.Rooms.{room_at}
use Rattle.packed_core.proofs.Passing.{after_is}
use Rattle.packed_core.proofs.domain.PackedDomain.classes_behind.Goals as goal

pub serving-requires-clause-kept : goal.serving-requires-clause-kept
serving-requires-clause-kept g c =
    let plan : JobPlan = g.J.Job.plan in
    let tests : c.as_slice.result.now ≡ plan.tests.items = c.as_slice.ensures.value ∙ ap (λ (p : JobPlan). p.tests.items) c.args.self.now.planned in
    let after : drop (c.args.before.now.part + 1) plan.steps ≡ c.args.later.now =
    after_is plan c.args.before.now.part c.args.step.now c.args.later.now c.requires.step in
    c.as_slice-tests.ensures.value ∙ c.in_ok-kept.ensures ∙ (λ i. kept_tests (tests i) (sym after i))

pub served-requires-clause-kept : goal.served-requires-clause-kept
served-requires-clause-kept g c =
    let plan : JobPlan = g.J.Job.plan in
    let tests : c.as_slice.result.now ≡ plan.tests.items = c.as_slice.ensures.value ∙ ap (λ (p : JobPlan). p.tests.items) c.args.self.now.planned in
    let after : drop (c.args.before.now.part + 1) plan.steps ≡ c.args.later.now =
    after_is plan c.args.before.now.part c.args.step.now c.args.later.now c.requires.step in
    c.as_slice-tests.ensures.value ∙ c.in_ok-kept.ensures ∙ (λ i. kept_tests (tests i) (sym after i))

pub new_classes-requires : goal.new_classes-requires
new_classes-requires g c =
    let plan : JobPlan = g.J.Job.plan in
    let tests : c.as_slice.result.now ≡ plan.tests.items = c.as_slice.ensures.value ∙ ap (λ (p : JobPlan). p.tests.items) c.args.self.now.planned in
    let after : drop (c.args.before.now.part + 1) plan.steps ≡ c.args.later.now =
    after_is plan c.args.before.now.part c.args.step.now c.args.later.now c.requires.step in
    let kept : c.as_slice-tests.result.now ≡ tests_before plan c.args.behind.now.part =
    c.as_slice-tests.ensures.value ∙ c.in_ok-kept.ensures ∙ (λ i. kept_tests (tests i) (sym after i)) ∙ ap (tests_before plan) (sym c.requires.behind) in
    let list : List Class = c.served.result.list.now in
    record {
      kept = kept;
      serve = subst (λ (ts : List Test). All (Serves c.args.behind.now.part ts (room_at plan c.args.behind.now.part) c.served.result.from c.served.result.count) list) (sym kept)
          (subst (λ (n : ℕ). All (Serves n (tests_before plan n) (room_at plan n) c.served.result.from c.served.result.count) list) (sym c.requires.behind)
          c.served.ensures.serve);
    }
