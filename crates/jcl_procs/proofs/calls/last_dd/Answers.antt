use Rattle.std.proofs.Common.{◌-◌, ◌∙◌, ap, length, slice_get, sym}
use Rattle.jcl_procs.proofs.Remembering.{last_dd_is, last_of_is}
use Rattle.jcl_procs.proofs.calls.last_dd.Goals as goal

pub returns-in-Some : goal.returns-in-Some
returns-in-Some c =
    c.last-in-Some.ensures.value ∙ ap (λ dds. slice_get dds (length dds - 1)) c.as_slice.ensures ∙ last_of_is c.in-Some.step.now.dds
    ∙ sym (last_dd_is c.args.steps.now c.in-Some.step.now (sym c.in-Some.ensures.value))
