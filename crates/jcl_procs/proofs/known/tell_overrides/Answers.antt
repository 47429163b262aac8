use Rattle.std.proofs.Common.{◌∙◌, sym}
use Rattle.jcl_procs.proofs.Recalled.{overridden_tells}
use Rattle.jcl_procs.proofs.known.tell_overrides.Goals as goal

pub returns-in-None : goal.returns-in-None
returns-in-None c = overridden_tells c.args.steps.now c.args.dds.now (sym c.in-None.is ∙ c.override_fault.ensures)
