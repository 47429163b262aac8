use Rattle.std.proofs.Common.{sym, ◌∙◌}
use Rattle.operand_core.proofs.Calm.{read_faultless, unread_faulty}
use Rattle.operand_core.proofs.operand.read_of.Goals as goal

pub returns-in-None : goal.returns-in-None
returns-in-None c = read_faultless c.args.part.now c.args.text.now (sym c.fault.ensures ∙ c.in-None.is)

pub returns-in-Some : goal.returns-in-Some
returns-in-Some c = unread_faulty c.args.part.now c.args.text.now _ (sym c.fault.ensures ∙ c.in-Some.is)
