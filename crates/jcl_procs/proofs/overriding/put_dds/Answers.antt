use Rattle.jcl_procs.proofs.Reached.{put_is}
use Rattle.jcl_procs.proofs.overriding.put_dds.Goals as goal

pub returns : goal.returns
returns c = put_is c.args.steps.now c.args.at c.args.dds c.index-steps-at.result
