use Rattle.std.proofs.Common.{◌≡◌, ◌∷◌, [], sym, subst}
use Rattle.std.specs.Prelude.{Err}
use Rattle.jcl_plan.specs.declared.entry.Entry.TheVariants as entry
use Rattle.sched_core.specs.Systems.{Applies, Steps, world_of}
use Rattle.sched_core.proofs.Driving.{IsNext-none}
use Rattle.sched_core.proofs.system.System.apply_shown.Goals as goal

pub returns-in-Err-Refused-clause-step : goal.returns-in-Err-Refused-clause-step
returns-in-Err-Refused-clause-step g c =
    let old = c.args.self.now in
    let new = c.apply.new.self in
    let e = c.args.event.now in
    let step = subst (λ f. Applies (Err f) (world_of old) (world_of new) (Steps old e)) c.in-Err-Refused.field-0-is c.in-Err-Refused.ensures.answer in
    let empty = c.in_ok-line.ensures.items in
    let pushed = c.push_reserved.ensures.items in
    let shown = c.new.ensures in
    let is : c.new.result ≡ entry.Refused c.in-Err-Refused.cause ∷ [] = cc in
    subst (λ lines. Steps old e lines (world_of new)) (sym is) step

pub returns-in_err-line-clause-next : goal.returns-in_err-line-clause-next
returns-in_err-line-clause-next g c = IsNext-none c.args.self.now c.is_whole.ensures
