use Rattle.std.proofs.Common.{◌≡◌, sym, ap, ◌∙◌}
use Rattle.std.proofs.lemmas.Result.{IfOk-weaker}
use Rattle.operand_core.specs.Operands.{first_of, operand_of}
use Rattle.jcl_dds.specs.DdCards.{dd_card, has_data}
use Rattle.jcl_dds.specs.Dds.{is_data_word}
use Rattle.jcl_procs.specs.Calling.{TellsData}
use Rattle.jcl_procs.proofs.Called.{data_is, read_value}
use Rattle.jcl_procs.proofs.calls.tells_data.Goals as goal

pub returns-in-Ok : goal.returns-in-Ok
returns-in-Ok c = λ name cards gives. c.has_data.ensures ∙ ap has_data (read_value (dd_card name c.args.operand.now cards) c.in-Ok.is gives)

pub returns-in-Err : goal.returns-in-Err
returns-in-Err c =
    IfOk-weaker c.operand_has_data.result (λ found. found ≡ is_data_word (first_of (operand_of 1 c.args.operand.now).positional))
    (TellsData c.args.card.now c.args.operand.now) (λ found is name cards gives. is ∙ sym (data_is name c.args.operand.now cards))
    c.operand_has_data.ensures
