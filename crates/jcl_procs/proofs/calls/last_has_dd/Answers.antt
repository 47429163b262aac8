use Rattle.std.proofs.Common.{ℕ, not, nat_eq, sym, ap, ◌∙◌}
use Rattle.jcl_procs.proofs.Called.{last_is}
use Rattle.jcl_procs.proofs.calls.last_has_dd.Goals as goal

pub returns-in-Some : goal.returns-in-Some
returns-in-Some c =
    ap (λ (n : ℕ). not (nat_eq n 0)) c.len.ensures ∙ sym (last_is c.args.steps.now c.in-Some.step.now (sym c.in-Some.ensures.value))
