use Rattle.std.proofs.Common.{◌≡◌, ◌∷◌, ◌∙◌, ◌+◌, ◌-◌, ◌<◌, ℕ, false, List, ap, arith, get_or, length, sym}
use Rattle.std.specs.Prelude.{drop}
use Rattle.std.specs.List.{list_any}
use Rattle.std.proofs.lemmas.List.{drop_all, drop_more}
use Rattle.jcl_plan.specs.declared.plan.DdPlan.{DdPlan}
use Rattle.jcl_plan.specs.declared.plan.StepPlan.{StepPlan}
use Rattle.jcl_meaning.specs.Views.{steps_refer}
use Rattle.packed_core.specs.Asking.{kind_asks}
use Rattle.packed_core.proofs.Unasked.{one_less}
use Rattle.packed_core.proofs.asking.asking_steps.Goals as goal

pub loop-i-init : goal.loop-i-init
loop-i-init c n e step dd = ap (λ (l : List StepPlan). steps_refer l step dd) (drop_all n c.args.steps.now (omega (arith, e)))

pub loop-i-preserved : goal.loop-i-preserved
loop-i-preserved c n e =
    let steps : List StepPlan = c.args.steps.now in
    let s : StepPlan = c.index-steps-left.result in
    let within : n < length steps = omega (arith, e) in
    let place : length steps - c.loop-i.i - 1 ≡ n = omega (arith, e) in
    let is : s ≡ get_or steps n s = c.index-steps-left.is ∙ ap (λ (k : ℕ). get_or steps k s) place in
    let at : drop n steps ≡ s ∷ drop (n + 1) steps = drop_more steps n s within ∙ ap (λ (x : StepPlan). x ∷ drop (n + 1) steps) (sym is) in
    let none : list_any (λ (d : DdPlan). kind_asks d.kind) s.dds ≡ false =
    ap (list_any (λ (d : DdPlan). kind_asks d.kind)) (ap (λ (x : StepPlan). x.dds) c.index-steps-left.is ∙ sym c.as_slice.ensures)
    ∙ sym c.any_asking.ensures ∙ c.if-any_asking.false in
    one_less steps n s at none (c.loop-i.invariant (n + 1) (omega (arith, e)))

pub returns : goal.returns
returns c = c.loop-i.invariant 0 (omega (arith, c.loop-i-test.false))
