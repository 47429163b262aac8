use Rattle.std.proofs.Common.{◌<◌, ◌+◌, length, [], ◌∷◌, ◌++◌, sym, ap, ◌∙◌, subst}
use Rattle.std.specs.Prelude.{get_or}
use Rattle.sched_core.proofs.Driving.{DrivenTo, driven_more, driven_now}
use Rattle.sched_core.specs.Systems.{IsDriven}
use Rattle.sched_core.proofs.system.System.drive.Goals as goal

pub loop-event-preserved : goal.loop-event-preserved
loop-event-preserved g c =
    let events = c.args.events.now in
    let entries = c.loop-event.entries.items in
    let lines = c.in-Ok-apply_shown.lines in
    let e = c.event-item.result in
    let same = c.loop-event.invariant.0 in
    let less = subst (λ n. n < length events) (sym same) c.loop-event-test.true in
    let is = c.event-item.is ∙ ap (λ n. get_or events n e) (sym same) in
    let grown = c.push_reserved.ensures.items ∙ ap (λ l. l ++ lines ∷ []) c.reserve.ensures.items in (
      ap (λ n. n + 1) same,
      subst (λ ys. DrivenTo c.args.self.now events ys (c.loop-event.done + 1) c.apply_shown.new.self) (sym grown)
          (driven_more c.args.self.now c.loop-event.self c.apply_shown.new.self events entries c.loop-event.done e lines c.loop-event.invariant.1 less is
          c.in-Ok-apply_shown.ensures.step c.apply_shown.ensures.next),
    )

pub returns-in_default-clause-done : goal.returns-in_default-clause-done
returns-in_default-clause-done g c =
    subst (λ ys. IsDriven c.args.self.now c.args.events.now ys c.loop-event.done c.loop-event.self) (sym c.reserve.ensures.items)
    (driven_now c.args.self.now c.loop-event.self c.args.events.now c.loop-event.entries.items c.loop-event.done c.loop-event.invariant.1)

pub returns-in_default-apply_shown-clause-done : goal.returns-in_default-apply_shown-clause-done
returns-in_default-apply_shown-clause-done g c =
    subst (λ m. IsDriven c.args.self.now c.args.events.now c.reserve.new.self.items c.loop-event.done m) (sym c.in_default-apply_shown.ensures.err)
    (subst (λ ys. IsDriven c.args.self.now c.args.events.now ys c.loop-event.done c.loop-event.self) (sym c.reserve.ensures.items)
    (driven_now c.args.self.now c.loop-event.self c.args.events.now c.loop-event.entries.items c.loop-event.done c.loop-event.invariant.1))

pub returns-clause-done : goal.returns-clause-done
returns-clause-done g c =
    driven_now c.args.self.now c.loop-event.self c.args.events.now c.loop-event.entries.items c.loop-event.done c.loop-event.invariant.1
