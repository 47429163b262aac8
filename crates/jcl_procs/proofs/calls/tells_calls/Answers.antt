use Rattle.std.proofs.Common.{ap, ◌∙◌}
use Rattle.jcl_cards.specs.ExecCards.{exec_card}
use Rattle.jcl_procs.specs.Calls.{calls}
use Rattle.jcl_procs.proofs.Called.{read_value}
use Rattle.jcl_procs.proofs.calls.tells_calls.Goals as goal

pub returns-in-Ok : goal.returns-in-Ok
returns-in-Ok c = λ name gives. c.calls.ensures ∙ ap calls (read_value (exec_card name c.args.operand.now) c.in-Ok.is gives)
