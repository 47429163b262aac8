use Rattle.std.proofs.Common.{ℕ, List, ◌∷◌, ◌≡◌, ap, ◌∙◌}
use Rattle.std.specs.Option.{option_copied}
use Rattle.std.proofs.lemmas.Result.{err_from_is_err_and}
use Rattle.jname_core.specs.Grammar.{components_of}
use Rattle.value_core.specs.declared.reference.StepReference.{StepReference}
use Rattle.value_core.specs.declared.reference.StepReference.TheVariants as step
use Rattle.value_core.specs.Reads.{and_faults, name}
use Rattle.value_core.specs.References.{components_left, parts_faults, step_of_parts, step_reference}
use Rattle.value_core.proofs.Both.{both_is, err_is, ok_is, pair_of, with_fault_is}
use Rattle.value_core.proofs.Components.{step_faults}
use Rattle.value_core.proofs.reference.step_reference.Goals as goal

pub returns-in_err-step-2 : goal.returns-in_err-step-2
returns-in_err-step-2 c =
    let text = c.args.text.now in
    let s = c.first_component.result.0.now in
    let p = c.first_component-2.result.0.now in
    let more = components_left (option_copied c.first_component-2.result.1) in
    let parts : components_of text ≡ s ∷ (p ∷ more) =
    c.first_component.ensures
    ∙ ap (λ rest. s ∷ components_left (option_copied rest)) c.in-Some.is
    ∙ ap (λ parts. s ∷ parts) c.first_component-2.ensures in
    err_is (and_faults (pair_of (name s) (name p)) (parts_faults 0 more)) (step_reference text)
    (with_fault_is (pair_of (name s) (name p)) (parts_faults 0 more)
    (both_is (name s) (name p) c.name-2.ensures c.name-3.ensures c.both-names.ensures) c.further_fault.ensures c.with_fault.ensures)
    c.in_err-step-2.was (step_faults text s p more parts)
    (err_from_is_err_and c.from_residual-in_err-step-2.result c.from_residual-in_err-step-2.ensures.1)

pub returns : goal.returns
returns c =
    let text = c.args.text.now in
    let s = c.first_component.result.0.now in
    let p = c.first_component-2.result.0.now in
    let more = components_left (option_copied c.first_component-2.result.1) in
    let parts : components_of text ≡ s ∷ (p ∷ more) =
    c.first_component.ensures
    ∙ ap (λ rest. s ∷ components_left (option_copied rest)) c.in-Some.is
    ∙ ap (λ parts. s ∷ parts) c.first_component-2.ensures in
    let made : List ℕ × List ℕ → StepReference = λ names. step.ProcedureStep names.0 names.1 in
    ok_is made (and_faults (pair_of (name s) (name p)) (parts_faults 0 more)) (step_reference text)
    (with_fault_is (pair_of (name s) (name p)) (parts_faults 0 more)
    (both_is (name s) (name p) c.name-2.ensures c.name-3.ensures c.both-names.ensures) c.further_fault.ensures c.with_fault.ensures)
    c.in_ok-step-2.was (step_faults text s p more parts) (ap step_of_parts parts)
