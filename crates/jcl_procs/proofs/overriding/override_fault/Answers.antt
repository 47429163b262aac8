use Rattle.std.proofs.Common.{◌∙◌, sym}
use Rattle.jcl_procs.proofs.Same.{one_fault}
use Rattle.jcl_procs.proofs.overriding.override_fault.Goals as goal

pub returns-in-Some : goal.returns-in-Some
returns-in-Some c =
    c.first_fault.ensures ∙ one_fault c.args.steps.now c.args.dds.now c.in-Some.dd.now c.requires.dds (sym c.in-Some.ensures.value)
