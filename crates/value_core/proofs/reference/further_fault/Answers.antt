use Rattle.std.proofs.Common.{sym, ap, ◌∙◌, ◌≡◌, ◌∷◌, nat_lt, length}
use Rattle.std.specs.List.{flat_map}
use Rattle.std.specs.Option.{option_copied}
use Rattle.jcl_plan.specs.declared.fault.Cause.TheVariants.{P}
use Rattle.jcl_plan.specs.declared.fault.StatementFault.TheVariants.{BadValue}
use Rattle.operand_core.specs.Faults.{earlier, name_faults, told, when}
use Rattle.operand_core.proofs.Told.{told_joined}
use Rattle.value_core.specs.References.{components_left}
use Rattle.value_core.proofs.Components.{some_left}
use Rattle.value_core.proofs.OneByOne.{earlier_none, told_one_more}
use Rattle.value_core.proofs.reference.further_fault.Goals as goal

pub loop-left-preserved : goal.loop-left-preserved
loop-left-preserved c =
    let behind = components_left (option_copied c.first_component.result.1) in
    let left : components_left (option_copied c.loop-left.left) ≡ c.first_component.result.0.now ∷ behind =
    ap (λ rest. components_left (option_copied rest)) c.in-Some.is ∙ c.first_component.ensures in
    ap (λ fault. earlier fault (told (flat_map name_faults behind))) c.earlier-fault.ensures
    ∙ told_one_more name_faults c.loop-left.fault c.name_fault.result c.first_component.result.0.now behind c.name_fault.ensures
    ∙ ap (λ parts. earlier c.loop-left.fault (told (flat_map name_faults parts))) (sym left)
    ∙ c.loop-left.invariant

pub returns : goal.returns
returns c =
    let parts = components_left (option_copied c.args.rest) in
    let all : c.loop-left.fault ≡ told (flat_map name_faults parts) =
    sym (earlier_none c.loop-left.fault)
    ∙ ap (λ rest. earlier c.loop-left.fault (told (flat_map name_faults (components_left (option_copied rest))))) (sym c.in_default.is)
    ∙ c.loop-left.invariant in
    let many : c.when.result ≡ told (when (nat_lt 0 (length parts)) (P BadValue)) =
    c.when.ensures ∙ ap (λ some. told (when some (P BadValue))) (c.is_some.ensures ∙ some_left c.args.rest) in
    told_joined (flat_map name_faults parts) (when (nat_lt 0 (length parts)) (P BadValue)) all many c.earlier.ensures
