use Rattle.std.proofs.Common.{◌≡◌}
use Rattle.jcl_plan.proofs.text.push_entry.Goals as goal

pub returns-in-Writer-clause-ok : goal.returns-in-Writer-clause-ok
returns-in-Writer-clause-ok c = rw c.in-Writer.is c.push_writer.ensures.ok
