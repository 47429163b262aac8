use Rattle.std.proofs.Common.{◌≡◌, ◌||◌, Bool, false, ℕ, List, [], sym, ap, ◌∙◌, codes, nat_eq}
use Rattle.std.specs.List.{starts_with}
use Rattle.jcl_plan.specs.declared.fault.Cause.TheVariants.{P}
use Rattle.jcl_plan.specs.declared.fault.StatementFault.TheVariants.{LeftOut}
use Rattle.jname_core.specs.Faults.{unit_name_fault}
use Rattle.jname_core.proofs.Names.{unit_name_none}
use Rattle.operand_core.specs.Faults.{as_cause, told}
use Rattle.operand_core.specs.Subparameters.{first_place, subparameters_of}
use Rattle.value_core.specs.Reads.{Read, bad}
use Rattle.value_core.proofs.Both.{at_false, whole_is}
use Rattle.value_core.proofs.unit.unit.Goals as goal

pub returns-in-Ok : goal.returns-in-Ok
returns-in-Ok c =
    let text = c.args.text.now in
    let first = first_place (subparameters_of text) in
    let neither : (starts_with nat_eq text (codes "AFF=") || starts_with nat_eq text (codes "(AFF=")) ≡ false =
    ap (λ (b : Bool). b || starts_with nat_eq text (codes "(AFF=")) (sym c.starts_with.ensures.value ∙ c.if-starts_with.false)
    ∙ (sym c.starts_with-else-starts_with.ensures.value ∙ c.if-starts_with-2.false) in
    let read : Read (List ℕ) = record { value = first; faults = as_cause (unit_name_fault first) } in
    at_false (starts_with nat_eq text (codes "AFF=") || starts_with nat_eq text (codes "(AFF=")) (bad [] (P LeftOut)) read neither
    (whole_is read (c.in-Ok.ensures.read.0 ∙ c.first_subparameter.ensures)
    (ap (λ name. told (as_cause (unit_name_fault name))) (sym c.first_subparameter.ensures)
    ∙ ap (λ fault. told (as_cause fault)) (unit_name_none c.first_subparameter.result.now c.in-Ok.ensures.read.1)))
