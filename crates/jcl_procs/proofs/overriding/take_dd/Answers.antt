use Rattle.jcl_procs.proofs.Reached.{with_dd_twice}
use Rattle.jcl_procs.proofs.overriding.take_dd.Goals as goal

pub returns-clause-others : goal.returns-clause-others
returns-clause-others c = λ dd. with_dd_twice c.args.dds.now c.args.n c.replace.new.dest dd
