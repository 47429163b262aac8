use Rattle.std.proofs.Common.{ℕ, List, Result, Ok, sym, ap, ◌∙◌}
use Rattle.jcl_plan.specs.declared.fault.Cause.{Cause}
use Rattle.jname_core.proofs.Names.{name8_none}
use Rattle.operand_core.specs.Faults.{as_cause, or_fault, told}
use Rattle.value_core.proofs.reads.name.Goals as goal

pub returns-in-Ok : goal.returns-in-Ok
returns-in-Ok c =
    let ok : List ℕ → Result (List ℕ) Cause = λ n. Ok n in
    ap ok c.in-Ok.ensures.read.0
    ∙ sym (ap (λ fault. let r : Result (List ℕ) Cause = or_fault (told (as_cause fault)) c.args.text.now in r) (name8_none c.args.text.now c.in-Ok.ensures.read.1))
