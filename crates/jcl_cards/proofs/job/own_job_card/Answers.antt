use Rattle.std.proofs.Common.{sym, ap, ◌∙◌}
use Rattle.std.proofs.lemmas.Result.{err_from_is_err_and}
use Rattle.operand_core.specs.Operands.{operand_of}
use Rattle.jcl_cards.specs.JobCards.{card_with, job_with}
use Rattle.jcl_cards.proofs.Answered.{gives_refused}
use Rattle.jcl_cards.proofs.job.own_job_card.Goals as goal

pub returns : goal.returns
returns c = sym (c.words_of.ensures (operand_of 2 c.args.operand.now) c.in_ok-operand.ensures) ∙ ap (card_with c.words_of.new.found) c.in_ok-name.was

pub returns-in_err-name : goal.returns-in_err-name
returns-in_err-name c =
    let denoted = operand_of 2 c.args.operand.now in
    let exit = c.from_residual-in_err-name in
    let found = c.words_of.new.found in
    gives_refused (job_with c.args.name.now denoted) (c.words_of.ensures denoted c.in_ok-operand.ensures) (ap (card_with found) c.in_err-name.was)
    (err_from_is_err_and exit.result exit.ensures.1)
