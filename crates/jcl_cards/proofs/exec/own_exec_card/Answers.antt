use Rattle.std.proofs.Common.{sym, ap, ◌∙◌, subst}
use Rattle.std.specs.List.{flat_map}
use Rattle.operand_core.specs.Faults.{told}
use Rattle.operand_core.specs.Operands.{operand_of, parts_of}
use Rattle.operand_core.specs.Reading.{operand_with}
use Rattle.jcl_cards.specs.ExecCards.{calls, condition_in, exec_with, runs_of}
use Rattle.jcl_cards.specs.Execs.{AreRead, faults_on, named_steps_of, step_conditions_of}
use Rattle.jcl_cards.proofs.Answered.{read, refused}
use Rattle.jcl_cards.proofs.ExecNames.{can_run, card_is, faultless}
use Rattle.jcl_cards.proofs.exec.own_exec_card.Goals as goal

pub returns-in-Some : goal.returns-in-Some
returns-in-Some c =
    let denoted = operand_of 1 c.args.operand.now in
    refused (exec_with c.args.name.now denoted) (c.exec_fault.ensures denoted c.in_ok-operand.ensures) c.in-Some.is

pub exec_fault-requires : goal.exec_fault-requires
exec_fault-requires c =
    let ks = c.as_slice-keywords.result.now in
    let called =
    c.calls.ensures ∙ ap (λ ps. calls (operand_with ps ks)) c.as_slice-positional.ensures.value in
    c.in_ok-conditions.ensures.fault_is
    ∙ ap (λ b. told (flat_map (faults_on b) ks)) called
    ∙ ap (λ keywords. told (flat_map (faults_on (calls (operand_with c.in_ok-operand.operand.positional.items keywords))) keywords))
    c.as_slice-keywords.ensures.value

pub written_name-requires : goal.written_name-requires
written_name-requires c =
    let text = c.args.operand.now in
    let none = sym (c.exec_fault.ensures (operand_of 1 text) c.in_ok-operand.ensures) ∙ c.in_default.is in
    ap told (faultless c.args.name.now (parts_of text) none).names

pub runs_of-requires : goal.runs_of-requires
runs_of-requires c =
    let text = c.args.operand.now in
    let none = sym (c.exec_fault.ensures (operand_of 1 text) c.in_ok-operand.ensures) ∙ c.in_default.is in
    can_run c.args.name.now text c.as_slice-positional.result.now c.as_slice-keywords.result.now (faultless c.args.name.now (parts_of text) none)
    (c.as_slice-positional.ensures.value ∙ c.in_ok-operand.ensures.positional) (c.as_slice-keywords.ensures.value ∙ c.in_ok-operand.ensures.keywords)

pub named_steps_of-requires : goal.named_steps_of-requires
named_steps_of-requires c =
    let text = c.args.operand.now in
    let none = sym (c.exec_fault.ensures (operand_of 1 text) c.in_ok-operand.ensures) ∙ c.in_default.is in
    let read : AreRead (operand_of 1 text).keywords = (calls (operand_of 1 text), (faultless c.args.name.now (parts_of text) none).each) in
    subst AreRead (sym (c.as_slice-keywords.ensures.value ∙ c.in_ok-operand.ensures.keywords)) read

pub returns : goal.returns
returns c =
    let denoted = operand_of 1 c.args.operand.now in
    let none = sym (c.exec_fault.ensures denoted c.in_ok-operand.ensures) ∙ c.in_default.is in
    let positional = c.as_slice-positional.ensures.value ∙ c.in_ok-operand.ensures.positional in
    let keywords = c.as_slice-keywords.ensures.value ∙ c.in_ok-operand.ensures.keywords in
    let runs =
    c.in_ok-runs_of.ensures ∙ ap (λ ps. runs_of (operand_with ps c.as_slice-keywords.result.now)) positional ∙ ap
    (λ ks. runs_of (operand_with denoted.positional ks)) keywords in
    let called =
    c.calls.ensures ∙ ap (λ ps. calls (operand_with ps c.as_slice-keywords.result.now)) positional ∙ ap
    (λ ks. calls (operand_with denoted.positional ks)) keywords in
    let all = c.in_ok-conditions.ensures in
    let nothing =
    all.fault_is ∙ ap (λ b. told (flat_map (faults_on b) c.as_slice-keywords.result.now)) called
    ∙ ap (λ ks. told (flat_map (faults_on (calls denoted)) ks)) keywords
    ∙ ap told (faultless c.args.name.now (parts_of c.args.operand.now) none).each in
    let said = all.said nothing in
    read (exec_with c.args.name.now denoted) none
    (sym (card_is c.written_name.ensures runs (ap (λ said. said.own) said ∙ ap condition_in keywords)
    (ap (λ said. said.of_steps) said ∙ ap step_conditions_of keywords)
    (c.in_ok-named_steps_of.ensures ∙ ap named_steps_of keywords)))
