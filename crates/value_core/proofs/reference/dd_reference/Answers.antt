use Rattle.std.proofs.Common.{ℕ, List, ◌∷◌, ◌≡◌, [], refl, sym, ap, ◌∙◌, drop}
use Rattle.std.specs.Option.{option_copied}
use Rattle.std.proofs.lemmas.Result.{err_from_is_err_and}
use Rattle.jname_core.specs.Grammar.{components_of}
use Rattle.value_core.specs.declared.reference.DdReference.{DdReference}
use Rattle.value_core.specs.declared.reference.DdReference.TheVariants as dd
use Rattle.value_core.specs.Reads.{and_faults, name}
use Rattle.value_core.specs.References.{components_left, dd_of_parts, dd_reference, parts_faults}
use Rattle.value_core.proofs.Both.{both_is, err_is, ok_is, pair_of, with_fault_is}
use Rattle.value_core.proofs.Components.{dd_faults, two_faults}
use Rattle.value_core.proofs.reference.dd_reference.Goals as goal

pub returns-in_err-step : goal.returns-in_err-step
returns-in_err-step c =
    let text = c.args.text.now in
    let s = c.first_component.result.0.now in
    let d = c.first_component-2.result.0.now in
    let parts : components_of (drop 2 text) ≡ s ∷ (d ∷ []) =
    ap components_of (sym c.behind_star.ensures)
    ∙ c.first_component.ensures
    ∙ ap (λ rest. s ∷ components_left (option_copied rest)) c.in-Some.is
    ∙ ap (λ parts. s ∷ parts) (c.first_component-2.ensures ∙ ap (λ rest. d ∷ components_left (option_copied rest)) c.in_default-rest.is) in
    err_is (pair_of (name s) (name d)) (dd_reference text)
    (both_is (name s) (name d) c.name-in_default-rest.ensures c.name-in_default-rest-2.ensures c.both.ensures)
    c.in_err-step.was (two_faults 3 (components_of (drop 2 text)) s d refl parts)
    (err_from_is_err_and c.from_residual-in_err-step.result c.from_residual-in_err-step.ensures.1)

pub returns-in_err-step-2 : goal.returns-in_err-step-2
returns-in_err-step-2 c =
    let text = c.args.text.now in
    let s = c.first_component.result.0.now in
    let p = c.first_component-2.result.0.now in
    let d = c.first_component-3.result.0.now in
    let more = components_left (option_copied c.first_component-3.result.1) in
    let parts : components_of (drop 2 text) ≡ s ∷ (p ∷ (d ∷ more)) =
    ap components_of (sym c.behind_star.ensures)
    ∙ c.first_component.ensures
    ∙ ap (λ rest. s ∷ components_left (option_copied rest)) c.in-Some.is
    ∙ ap (λ parts. s ∷ parts) (c.first_component-2.ensures ∙ ap (λ rest. p ∷ components_left (option_copied rest)) c.in-Some-rest.is)
    ∙ ap (λ parts. s ∷ (p ∷ parts)) c.first_component-3.ensures in
    err_is (and_faults (pair_of (name s) (pair_of (name p) (name d))) (parts_faults 0 more)) (dd_reference text)
    (with_fault_is (pair_of (name s) (pair_of (name p) (name d))) (parts_faults 0 more)
    (both_is (name s) (pair_of (name p) (name d)) c.name-2.ensures
    (both_is (name p) (name d) c.name-3.ensures c.name-4.ensures c.both-2.ensures) c.both-names.ensures)
    c.further_fault.ensures c.with_fault.ensures)
    c.in_err-step-2.was (dd_faults text s p d more parts)
    (err_from_is_err_and c.from_residual-in_err-step-2.result c.from_residual-in_err-step-2.ensures.1)

pub returns : goal.returns
returns c =
    let text = c.args.text.now in
    let s = c.first_component.result.0.now in
    let p = c.first_component-2.result.0.now in
    let d = c.first_component-3.result.0.now in
    let more = components_left (option_copied c.first_component-3.result.1) in
    let parts : components_of (drop 2 text) ≡ s ∷ (p ∷ (d ∷ more)) =
    ap components_of (sym c.behind_star.ensures)
    ∙ c.first_component.ensures
    ∙ ap (λ rest. s ∷ components_left (option_copied rest)) c.in-Some.is
    ∙ ap (λ parts. s ∷ parts) (c.first_component-2.ensures ∙ ap (λ rest. p ∷ components_left (option_copied rest)) c.in-Some-rest.is)
    ∙ ap (λ parts. s ∷ (p ∷ parts)) c.first_component-3.ensures in
    let made : List ℕ × (List ℕ × List ℕ) → DdReference = λ names. dd.OfProcedureStep names.0 names.1.0 names.1.1 in
    ok_is made (and_faults (pair_of (name s) (pair_of (name p) (name d))) (parts_faults 0 more)) (dd_reference text)
    (with_fault_is (pair_of (name s) (pair_of (name p) (name d))) (parts_faults 0 more)
    (both_is (name s) (pair_of (name p) (name d)) c.name-2.ensures
    (both_is (name p) (name d) c.name-3.ensures c.name-4.ensures c.both-2.ensures) c.both-names.ensures)
    c.further_fault.ensures c.with_fault.ensures)
    c.in_ok-step-2.was (dd_faults text s p d more parts) (ap dd_of_parts parts)
