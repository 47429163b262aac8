use Rattle.std.proofs.Common.{ℕ, [], ◌∷◌, true, Some, refl}
use Rattle.std.proofs.lemmas.Result.{err_from_is_err_and}
use Rattle.jcl_plan.specs.declared.plan.Operator.{Operator}
use Rattle.list_values.specs.declared.condition.CodedTest.{CodedTest}
use Rattle.value_core.specs.declared.reference.StepReference.{StepReference}
use Rattle.value_core.specs.References.{step_reference}
use Rattle.value_core.proofs.Both.{both_is, err_is, ok_is, pair_of}
use Rattle.list_values.specs.Conditions.{pair, test_of_items}
use Rattle.list_values.proofs.coded_test.test_of_step.Goals as goal

pub returns-in_err-code : goal.returns-in_err-code
returns-in_err-code c =
    let code = c.args.code.now in
    let operator = c.args.operator.now in
    let step = c.args.step.now in
    err_is (pair_of (pair code operator) (step_reference step)) (test_of_items true (code ∷ operator ∷ step ∷ []))
    (both_is (pair code operator) (step_reference step) c.pair.ensures c.step_reference.ensures c.both.ensures)
    c.in_err-code.was refl (err_from_is_err_and c.from_residual.result c.from_residual.ensures.1)

pub returns : goal.returns
returns c =
    let code = c.args.code.now in
    let operator = c.args.operator.now in
    let step = c.args.step.now in
    let made : (ℕ × Operator) × StepReference → CodedTest = λ read. record { code = read.0.0; operator = read.0.1; step = Some read.1 } in
    ok_is made (pair_of (pair code operator) (step_reference step)) (test_of_items true (code ∷ operator ∷ step ∷ []))
    (both_is (pair code operator) (step_reference step) c.pair.ensures c.step_reference.ensures c.both.ensures)
    c.in_ok-code.was refl refl
