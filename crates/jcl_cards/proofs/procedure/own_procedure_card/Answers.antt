use Rattle.std.proofs.Common.{◌++◌, List, map, sym, ap, ◌∙◌}
use Rattle.std.specs.List.{flat_map}
use Rattle.jcl_plan.specs.declared.fault.Cause.{Cause}
use Rattle.jcl_symbols.specs.declared.symbol.Symbol.{Symbol}
use Rattle.operand_core.specs.Operands.{Keyword, operand_of}
use Rattle.operand_core.proofs.Faultless.{told_none_behind, told_none_in_front}
use Rattle.operand_core.proofs.Told.{told-none}
use Rattle.jcl_cards.specs.declared.procedure.ProcedureCard.{ProcedureCard}
use Rattle.jcl_cards.specs.Keywords.{as_it_is, symbol_faults, symbol_of, twice_faults}
use Rattle.jcl_cards.specs.ProcedureCards.{procedure_name_faults, procedure_with}
use Rattle.jcl_cards.proofs.Answered.{read, refused}
use Rattle.jcl_cards.proofs.Symbols.{written_from_procedure}
use Rattle.jcl_cards.proofs.procedure.own_procedure_card.Goals as goal

pub returns-in-Some : goal.returns-in-Some
returns-in-Some c =
    let denoted = operand_of 0 c.args.operand.now in
    refused (procedure_with c.args.in_stream c.args.name.now denoted) (c.procedure_fault.ensures denoted c.in_ok-operand.ensures) c.in-Some.is

pub written_name-requires : goal.written_name-requires
written_name-requires c =
    let denoted = operand_of 0 c.args.operand.now in
    let names = procedure_name_faults c.args.in_stream c.args.name.now in
    let each = flat_map (λ k. symbol_faults k.key) denoted.keywords in
    let none = sym (c.procedure_fault.ensures denoted c.in_ok-operand.ensures) ∙ c.in_default.is in
    written_from_procedure c.args.in_stream c.args.name.now
    (told_none_in_front names denoted.faults (told_none_in_front (names ++ denoted.faults) each
    (told_none_in_front (names ++ denoted.faults ++ each) (twice_faults as_it_is denoted.keywords) none)))

pub symbols_of-requires : goal.symbols_of-requires
symbols_of-requires c =
    let denoted = operand_of 0 c.args.operand.now in
    let names = procedure_name_faults c.args.in_stream c.args.name.now in
    let faults : Keyword → List Cause = λ k. symbol_faults k.key in
    let none = sym (c.procedure_fault.ensures denoted c.in_ok-operand.ensures) ∙ c.in_default.is in
    ap (flat_map faults) (c.as_slice.ensures.value ∙ c.in_ok-operand.ensures.keywords)
    ∙ told-none (flat_map faults denoted.keywords) (told_none_behind (names ++ denoted.faults) (flat_map faults denoted.keywords)
    (told_none_in_front (names ++ denoted.faults ++ flat_map faults denoted.keywords) (twice_faults as_it_is denoted.keywords) none))

pub returns : goal.returns
returns c =
    let denoted = operand_of 0 c.args.operand.now in
    let none = sym (c.procedure_fault.ensures denoted c.in_ok-operand.ensures) ∙ c.in_default.is in
    let with_symbols : List Symbol → ProcedureCard = λ symbols. record { name = c.written_name.result; symbols = symbols } in
    let symbols = c.in_ok-symbols_of.ensures ∙ ap (map symbol_of) (c.as_slice.ensures.value ∙ c.in_ok-operand.ensures.keywords) in
    read (procedure_with c.args.in_stream c.args.name.now denoted) none
    (sym (ap with_symbols symbols ∙ ap (λ name. let card : ProcedureCard = record { name = name; symbols = map symbol_of denoted.keywords } in card)
    c.written_name.ensures))
