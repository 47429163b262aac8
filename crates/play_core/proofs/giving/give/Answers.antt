use Rattle.std.proofs.Common.{◌∷◌, [], ◌++◌, ap, subst, ◌∙◌}
use Rattle.sched_core.specs.Systems.{Steps, world_of}
use Rattle.sched_core.proofs.Driving.{IsNext-none}
use Rattle.play_core.proofs.Adding.{Adds-one}
use Rattle.play_core.proofs.giving.give.Goals as goal

pub returns-clause-adds : goal.returns-clause-adds
returns-clause-adds c =
    let old = c.args.system.now in
    let new = c.apply_shown.new.self in
    let lines = c.in_ok-lines.lines in
    Adds-one old new c.args.given.now.items c.push_reserved.new.self.items c.args.next lines c.requires
    (subst (λ e. Steps old e lines (world_of new)) c.event.ensures c.in_ok-lines.ensures.step) c.apply_shown.ensures.next
    (c.push_reserved.ensures.items ∙ ap (λ l. l ++ c.args.next ∷ []) c.reserve.ensures.items)

pub returns-clause-step : goal.returns-clause-step
returns-clause-step c =
    subst (λ e. Steps c.args.system.now e c.in_ok-lines.lines (world_of c.apply_shown.new.self)) c.event.ensures c.in_ok-lines.ensures.step

pub returns-in_err-reserve-clause-next : goal.returns-in_err-reserve-clause-next
returns-in_err-reserve-clause-next c = IsNext-none c.args.system.now c.is_whole.ensures
