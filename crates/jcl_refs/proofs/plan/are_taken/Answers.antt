use Rattle.std.proofs.Common.{Bool, Result, subst, sym}
use Rattle.std.specs.declared.alloc.AllocError.{AllocError}
use Rattle.std.specs.Bool.{OnTrue}
use Rattle.std.specs.Result.{IfOk}
use Rattle.jcl_refs.specs.Early.{AreTaken}
use Rattle.jcl_refs.proofs.plan.are_taken.Goals as goal
use Rattle.jcl_refs.proofs.plan.are_taken.Goals.{in-Ok, in-Err-Refused, in-Err-Memory}

pub returns : goal.returns
returns c =
    let Told : Result Bool AllocError → Type 0 = λ r. IfOk r (λ taken. OnTrue taken (AreTaken c.args.steps.now c.args.many.now)) in
    elim c.match-planned_steps.branch as (λ _. Told c.match-planned_steps.result) [
      | in-Ok w ↦ subst Told (sym w.result-is) (_, w.in-Ok.ensures.gives)
      | in-Err-Refused w ↦ subst Told (sym w.result-is) tt
      | in-Err-Memory w ↦ subst Told (sym w.result-is) tt
    ]
