use Rattle.std.proofs.Common.{◌∙◌}
use Rattle.jcl_procs.proofs.Reached.{inserted_between}
use Rattle.jcl_procs.proofs.overriding.put_between.Goals as goal

pub returns-clause-put : goal.returns-clause-put
returns-clause-put c = c.in_ok-insert.ensures.items ∙ inserted_between c.args.dds.now.items c.args.n c.args.dd c.requires
