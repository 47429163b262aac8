use Rattle.std.proofs.Common.{Ok, Result, sym, ap, ◌∙◌}
use Rattle.jcl_plan.specs.declared.fault.Cause.{Cause}
use Rattle.operand_core.specs.Faults.{told}
use Rattle.jcl_procs.specs.Calls.{Place, step_of}
use Rattle.jcl_procs.specs.Calling.{call_of, denoted, exec_read, with_step}
use Rattle.jcl_procs.proofs.Called.{ok_next}
use Rattle.jcl_procs.proofs.calls.Place.take_exec.Goals as goal

pub returns : goal.returns
returns c =
    let call = call_of c.args.caller.now in
    let place = denoted c.args.self.now in
    let r = exec_read call c.args.statement.now in
    let ok : Place → Result Place Cause = λ p. Ok p in
    ok_next (told r.faults) r.value c.in_ok-card.card (λ card. with_step place (step_of call card)) c.in_ok-card.ensures
    ∙ ap (λ step. ok (with_step place step)) (sym c.step_of.ensures)
    ∙ ap ok (sym c.in_ok-add_step.ensures)
