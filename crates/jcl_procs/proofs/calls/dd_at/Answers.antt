use Rattle.std.proofs.Common.{◌∙◌}
use Rattle.jcl_procs.proofs.Remembering.{dd_there, none_there}
use Rattle.jcl_procs.proofs.calls.dd_at.Goals as goal

pub returns-in-Some : goal.returns-in-Some
returns-in-Some c =
    c.as_ref.ensures.value ∙ dd_there c.args.dds.now c.args.at c.in-Some.dd.now c.in-Some.ensures.lookup.3.0 c.in-Some.ensures.lookup.1

pub returns-in-None : goal.returns-in-None
returns-in-None c = none_there c.args.dds.now c.args.at c.in-None.ensures.lookup.3
