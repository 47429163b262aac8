use Rattle.std.proofs.Common.{sym, ap, ◌∙◌, ◌||◌}
use Rattle.enq_core.proofs.Meeting.{conflicts_of_a_name}
use Rattle.enq_core.proofs.conflict.conflicts.Goals as goal

pub returns-then-hold : goal.returns-then-hold
returns-then-hold c = c.if-hold.true ∙ sym (conflicts_of_a_name c.args.want.now c.args.hold.now c.requires ∙ ap (λ b. b || c.args.want.now.exclusive) c.if-hold.true)

pub returns-else-hold : goal.returns-else-hold
returns-else-hold c = sym (conflicts_of_a_name c.args.want.now c.args.hold.now c.requires ∙ ap (λ b. b || c.args.want.now.exclusive) c.if-hold.false)
