use Rattle.std.proofs.Common.{◌≡◌, ◌∷◌, ◌∙◌, ◌+◌, ℕ, List, [], Option, ap, arith, length, refl, subst, sym}
use Rattle.std.specs.Prelude.{All, IfSome}
use Rattle.std.proofs.lemmas.Bool.{eqb-true}
use Rattle.jcl_plan.specs.declared.plan.JobPlan.{JobPlan}
use Rattle.jcl_plan.specs.declared.plan.Test.{Test}
use Rattle.packed_core.specs.declared.classes.Class.{Class}
use Rattle.packed_core.specs.declared.ways.Ways.{Ways}
use Rattle.packed_core.specs.Classes.{AreMasks, LooksAlike, tests_before}
use Rattle.packed_core.specs.Rooms.{room_at}
use Rattle.packed_core.specs.Views.{Views}
use Rattle.packed_core.specs.Ways.{AreWays}
use Rattle.packed_core.proofs.Serving.{classes_serve}
use Rattle.packed_core.proofs.views.PackedViews.serving.Goals as goal

no_tests : (l : List Test) → length l ≡ 0 → l ≡ []
no_tests [] e = refl
no_tests (t ∷ l) e = absurd (omega (arith, e))

pub returns-clause-masks : goal.returns-clause-masks
returns-clause-masks g c =
    let plan : JobPlan = g.J.Job.plan in
    let k : ℕ = c.args.self.now.part in
    let own : ℕ = c.self.inside.part in
    let at : own ≡ k = ap (λ (v : Views). v.part) c.self.view_is in
    let list : List Class = c.in-Some.ways.classes.value.list.items in
    let ways : AreWays plan own c.self.inside.rows c.in-Some.ways =
    subst (λ (o : Option Ways). IfSome o (AreWays plan own c.self.inside.rows)) c.in-Some.is c.self.invariant.are_ways in
    let none : c.args.step.now.tests.items ≡ [] =
    sym c.as_slice.ensures.value ∙ no_tests c.as_slice.result.now (eqb-true (length c.as_slice.result.now) 0 (sym c.is_empty.ensures ∙ c.if-not-is_empty.false)) in
    let alike : All (LooksAlike k) (tests_before plan (k + 1)) =
    subst (λ (n : ℕ). All (LooksAlike n) (tests_before plan (k + 1))) at
    (subst (All (LooksAlike own)) c.requires.kept (c.look_alike.ensures c.if-not-look_alike.false)) in
    classes_serve plan k c.args.step.now c.requires.step.0 c.requires.step.1 none list alike
    (subst (λ (n : ℕ). AreMasks n (tests_before plan n) (room_at plan n) list) at ways.masks)
