use Rattle.std.proofs.Common.{◌++◌, sym, ap, ◌∙◌}
use Rattle.std.specs.List.{flat_map}
use Rattle.jcl_plan.specs.declared.fault.Cause.TheVariants.{P}
use Rattle.jcl_plan.specs.declared.fault.StatementFault.TheVariants.{NotOneProgram}
use Rattle.operand_core.specs.Faults.{read_name_faults, told, when, written_name_faults}
use Rattle.operand_core.specs.Operands.{Operand, first_of}
use Rattle.operand_core.specs.Reading.{operand_with}
use Rattle.operand_core.proofs.SameOperand.{operand_is}
use Rattle.operand_core.proofs.Told.{told_joined}
use Rattle.jcl_cards.specs.ExecCards.{calls, exec_with, runs_badly}
use Rattle.jcl_cards.specs.Keywords.{as_it_is, twice_faults}
use Rattle.jcl_cards.specs.Execs.{faults_on}
use Rattle.jcl_cards.proofs.exec.exec_fault.Goals as goal

pub returns : goal.returns
returns c = λ denoted is.
    let name = c.args.name.now in
    let positional = c.as_slice-positional.result.now in
    let keywords = c.as_slice-keywords.result.now in
    let operand : Operand = record { positional = positional; keywords = keywords; faults = denoted.faults } in
    let names = written_name_faults name in
    let runs_faults = when (runs_badly operand) (P NotOneProgram) in
    let first_faults = read_name_faults (first_of positional) in
    let each_faults = flat_map (faults_on (calls operand)) keywords in
    let runs = c.when-badly.ensures ∙ ap (λ b. told (when b (P NotOneProgram))) c.runs_badly.ensures in
    let first = c.read_name_fault.ensures ∙ ap (λ text. told (read_name_faults text)) c.first_of.ensures in
    let each =
    c.requires ∙ ap (λ ps. told (flat_map (faults_on (calls (operand_with ps c.args.operand.now.keywords.items))) c.args.operand.now.keywords.items))
    (sym c.as_slice-positional.ensures.value)
    ∙ ap (λ ks. told (flat_map (faults_on (calls (operand_with positional ks))) ks)) (sym c.as_slice-keywords.ensures.value) in
    let own = told_joined names denoted.faults c.written_name_fault.ensures is.fault c.earlier-own.ensures in
    let with_runs = told_joined (names ++ denoted.faults) runs_faults own runs c.earlier-with_runs.ensures in
    let with_name = told_joined (names ++ denoted.faults ++ runs_faults) first_faults with_runs first c.earlier-with_name.ensures in
    let with_keywords = told_joined (names ++ denoted.faults ++ runs_faults ++ first_faults) each_faults with_name each c.earlier-with_keywords.ensures in
    let all = told_joined (names ++ denoted.faults ++ runs_faults ++ first_faults ++ each_faults) (twice_faults as_it_is keywords) with_keywords
    c.twice_fault.ensures c.earlier.ensures in
    all ∙ ap (λ (o : Operand). told (exec_with name o).faults)
    (operand_is positional keywords denoted (c.as_slice-positional.ensures.value ∙ is.positional) (c.as_slice-keywords.ensures.value ∙ is.keywords))
