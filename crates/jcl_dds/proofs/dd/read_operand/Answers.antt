use Rattle.std.proofs.Common.{◌≡◌, sym, ap, ◌∙◌}
use Rattle.operand_core.specs.Faults.{earlier, told}
use Rattle.operand_core.specs.Operands.{Operand}
use Rattle.operand_core.proofs.SameOperand.{operand_is}
use Rattle.value_core.specs.Reads.{answer}
use Rattle.jcl_cards.proofs.Answered.{read, refused}
use Rattle.jcl_dds.specs.DdCards.{dd_with, positional_faults, word_of}
use Rattle.jcl_dds.proofs.Beside.{holds, last_told, no_name_fault, put_names}
use Rattle.jcl_dds.proofs.dd.read_operand.Goals as goal

pub returns-in-Some : goal.returns-in-Some
returns-in-Some c = λ denoted is.
    let name = c.args.name.now in
    let cards = c.args.cards in
    let ks = c.as_slice-keywords.result.now in
    let positional = c.as_slice-positional.result.now in
    let operand : Operand = record { positional = positional; keywords = ks; faults = denoted.faults } in
    let same : operand ≡ denoted =
    operand_is positional ks denoted (c.as_slice-positional.ensures.value ∙ is.positional) (c.as_slice-keywords.ensures.value ∙ is.keywords) in
    let last = last_told name operand cards c.in_ok-faults.ensures c.names_of-names.ensures.told is.fault c.earlier-formed.ensures
    (c.positional_fault.ensures ∙ ap (λ text. told (positional_faults text)) c.first_of-first.ensures) c.earlier-placed.ensures
    (c.earlier-valued.ensures ∙ ap (earlier c.earlier-placed.result) c.told.ensures) c.twice_fault.ensures c.earlier-once.ensures
    c.excluded_fault.ensures c.earlier-last.ensures in
    ap (λ (o : Operand). answer (dd_with name o cards)) (sym same) ∙ refused (dd_with name operand cards) last c.in-Some.is

pub returns-in_ok-word-in-None : goal.returns-in_ok-word-in-None
returns-in_ok-word-in-None c = λ denoted is.
    let name = c.args.name.now in
    let cards = c.args.cards in
    let ks = c.as_slice-keywords.result.now in
    let positional = c.as_slice-positional.result.now in
    let operand : Operand = record { positional = positional; keywords = ks; faults = denoted.faults } in
    let same : operand ≡ denoted =
    operand_is positional ks denoted (c.as_slice-positional.ensures.value ∙ is.positional) (c.as_slice-keywords.ensures.value ∙ is.keywords) in
    let last = last_told name operand cards c.in_ok-faults.ensures c.names_of-names.ensures.told is.fault c.earlier-formed.ensures
    (c.positional_fault.ensures ∙ ap (λ text. told (positional_faults text)) c.first_of-first.ensures) c.earlier-placed.ensures
    (c.earlier-valued.ensures ∙ ap (earlier c.earlier-placed.result) c.told.ensures) c.twice_fault.ensures c.earlier-once.ensures
    c.excluded_fault.ensures c.earlier-last.ensures in
    let none = sym last ∙ c.in-None.is in
    let held = holds name operand cards c.in_ok-faults.ensures none in
    let named_well = no_name_fault name operand held.0 c.names_of-names.ensures.told in
    ap (λ (o : Operand). answer (dd_with name o cards)) (sym same) ∙ read (dd_with name operand cards) none
    (sym (put_names c.read_keywords.new.card (c.names_of-names.ensures.qualifier named_well) (c.names_of-names.ensures.name named_well)
    (c.in_ok-word-in-None.ensures ∙ ap (λ first. word_of first cards) c.first_of-first.ensures) held.1))
