use Rattle.std.proofs.Common.{◌++◌, ap, ◌∙◌}
use Rattle.std.specs.List.{flat_map}
use Rattle.operand_core.specs.Faults.{told}
use Rattle.operand_core.proofs.Told.{told_joined}
use Rattle.jcl_cards.specs.Keywords.{as_it_is, symbol_faults, twice_faults}
use Rattle.jcl_cards.specs.ProcedureCards.{procedure_name_faults}
use Rattle.jcl_cards.proofs.procedure.procedure_fault.Goals as goal

pub returns : goal.returns
returns c = λ denoted is.
    let names = procedure_name_faults c.args.in_stream c.args.name.now in
    let each = flat_map (λ k. symbol_faults k.key) denoted.keywords in
    let same = c.as_slice-keywords.ensures.value ∙ is.keywords in
    let own = told_joined names denoted.faults c.procedure_name_fault.ensures is.fault c.earlier-own.ensures in
    let symbols = c.each_fault.ensures ∙ ap (λ ks. told (flat_map (λ k. symbol_faults k.key) ks)) same in
    let twice = c.twice_fault.ensures ∙ ap (λ ks. told (twice_faults as_it_is ks)) same in
    let with_symbols = told_joined (names ++ denoted.faults) each own symbols c.earlier-with_symbols.ensures in
    told_joined (names ++ denoted.faults ++ each) (twice_faults as_it_is denoted.keywords) with_symbols twice c.earlier.ensures
