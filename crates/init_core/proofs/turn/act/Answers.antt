use Rattle.std.proofs.Common.{ℕ, ◌∙◌, ap, subst, sym}
use Rattle.disp_core.specs.Courses.{fixed_by}
use Rattle.turn_core.specs.Turning.{acts}
use Rattle.turn_core.specs.declared.walk.Turned.TheVariants as turned
use Rattle.init_core.specs.Going.{Went}
use Rattle.init_core.specs.Running.{config_of}
use Rattle.init_core.specs.declared.running.Progress.TheVariants as progress
use Rattle.init_core.specs.declared.running.Stage.TheVariants as stage
use Rattle.init_core.proofs.Advancing.{acted_so, room, told_as, waits, written_as}
use Rattle.init_core.proofs.Turning.{written_by}
use Rattle.init_core.proofs.turn.act.Goals as goal

pub enter_acted-requires-clause-room : goal.enter_acted-requires-clause-room
enter_acted-requires-clause-room g c =
    let queue_of = g.Q.RecordStore.queue in
    let p = c.args.parts.now in
    let st = c.turn.new.store in
    let after = c.turn.new.walk in
    room queue_of c.args.profile.now p c.args.job c.args.walk.now c.args.admitted.now c.requires.good c.requires.some c.requires.at st after c.in-Ok-Acts.acted
    (told_as queue_of c.args.profile.now p c.args.job c.args.walk.now c.args.admitted.now c.requires.good st after c.number.result
    (fixed_by c.given.result) c.plan.result.now c.has-cancelled.result c.in-Ok-Acts.field-0 (turned.Acts c.in-Ok-Acts.acted) (c.number.ensures ∙ c.requires.at.0) c.given.ensures
    c.plan.ensures c.has-cancelled.ensures c.in-Ok-Acts.field-0-is c.requires.at.1.stands c.in-Ok-Acts.ensures.ok)
    c.operations_are_apart.ensures

pub enter_acted-requires-clause-idle : goal.enter_acted-requires-clause-idle
enter_acted-requires-clause-idle g c =
    let queue_of = g.Q.RecordStore.queue in
    let p = c.args.parts.now in
    let st = c.turn.new.store in
    let after = c.turn.new.walk in
    (told_as queue_of c.args.profile.now p c.args.job c.args.walk.now c.args.admitted.now c.requires.good st after c.number.result
    (fixed_by c.given.result) c.plan.result.now c.has-cancelled.result c.in-Ok-Acts.field-0 (turned.Acts c.in-Ok-Acts.acted) (c.number.ensures ∙ c.requires.at.0) c.given.ensures
    c.plan.ensures c.has-cancelled.ensures c.in-Ok-Acts.field-0-is c.requires.at.1.stands c.in-Ok-Acts.ensures.ok).acts.idle

pub returns-in-Ok-Waits-clause-ok : goal.returns-in-Ok-Waits-clause-ok
returns-in-Ok-Waits-clause-ok g c =
    let queue_of = g.Q.RecordStore.queue in
    let p = c.args.parts.now in
    let st = c.turn.new.store in
    let after = c.turn.new.walk in
    let same = c.in-Ok-Waits.ensures.kept (ap acts c.in-Ok-Waits.field-0-is) in
    subst (λ (n : ℕ). Went queue_of (config_of c.args.profile.now (queue_of p.queue).layout) p
    (record { job = c.args.job; walk = c.args.walk.now; stage = stage.Admitted c.args.admitted.now }) (record p { store = st })
    (progress.GoesOn (record { job = c.args.job; walk = after; stage = stage.Admitted c.args.admitted.now }) n))
    (sym c.len-from.ensures)
    (waits queue_of c.args.profile.now p c.args.job c.args.walk.now c.args.admitted.now c.requires.good c.requires.some c.requires.at
    c.waits_advance.ensures st after same.0 same.1
    (told_as queue_of c.args.profile.now p c.args.job c.args.walk.now c.args.admitted.now c.requires.good st after c.number.result
    (fixed_by c.given.result) c.plan.result.now c.has-cancelled.result c.in-Ok-Waits.field-0 turned.Waits (c.number.ensures ∙ c.requires.at.0) c.given.ensures
    c.plan.ensures c.has-cancelled.ensures c.in-Ok-Waits.field-0-is c.requires.at.1.stands c.in-Ok-Waits.ensures.ok))

pub returns-in-Ok-Acts-clause-ok : goal.returns-in-Ok-Acts-clause-ok
returns-in-Ok-Acts-clause-ok g c =
    let queue_of = g.Q.RecordStore.queue in
    let p = c.args.parts.now in
    let st = c.turn.new.store in
    let after = c.turn.new.walk in
    subst (λ (n : ℕ). Went queue_of (config_of c.args.profile.now (queue_of p.queue).layout) p
    (record { job = c.args.job; walk = c.args.walk.now; stage = stage.Admitted c.args.admitted.now })
    (record p { store = st; units = c.enter_acted.new.units; cancels = c.enter_acted.new.cancels })
    (progress.GoesOn (record { job = c.args.job; walk = after; stage = stage.Admitted c.args.admitted.now }) n))
    (sym c.len-from.ensures)
    (acted_so queue_of c.args.profile.now p c.args.job c.args.walk.now c.args.admitted.now c.requires.good c.requires.some c.requires.at
    st after c.in-Ok-Acts.acted
    (written_as queue_of c.args.profile.now p c.args.job c.args.walk.now c.args.admitted.now c.requires.good st c.number.result c.in-Ok-Acts.field-0
    (turned.Acts c.in-Ok-Acts.acted) (c.number.ensures ∙ c.requires.at.0) c.in-Ok-Acts.field-0-is
    (written_by c.number.result p.store st c.sets_of_others_stay.ensures c.kept_is_spent.ensures c.tracks_are_conserved.ensures c.taking_follows.ensures
    c.volumes_add_up.ensures c.volumes_add_up-in-Ok-Acts.ensures c.in-Ok-Acts.field-0 c.in-Ok-Acts.ensures.rest))
    (told_as queue_of c.args.profile.now p c.args.job c.args.walk.now c.args.admitted.now c.requires.good st after c.number.result
    (fixed_by c.given.result) c.plan.result.now c.has-cancelled.result c.in-Ok-Acts.field-0 (turned.Acts c.in-Ok-Acts.acted) (c.number.ensures ∙ c.requires.at.0) c.given.ensures
    c.plan.ensures c.has-cancelled.ensures c.in-Ok-Acts.field-0-is c.requires.at.1.stands c.in-Ok-Acts.ensures.ok)
    c.acts_advance.ensures c.few_lines.ensures c.enter_acted.new.units c.enter_acted.new.cancels c.enter_acted.ensures.units c.enter_acted.ensures.cancels
    c.granted_turns.ensures c.requires.provided)

pub returns-in-Ok-Ends-clause-ok : goal.returns-in-Ok-Ends-clause-ok
returns-in-Ok-Ends-clause-ok g c =
    let queue_of = g.Q.RecordStore.queue in
    let p = c.args.parts.now in
    let st = c.turn.new.store in
    let after = c.turn.new.walk in
    let same = c.in-Ok-Ends.ensures.kept (ap acts c.in-Ok-Ends.field-0-is) in (
      ap (λ s. record p { store = s }) same.0,
      same.1,
      told_as queue_of c.args.profile.now p c.args.job c.args.walk.now c.args.admitted.now c.requires.good st after c.number.result
          (fixed_by c.given.result) c.plan.result.now c.has-cancelled.result c.in-Ok-Ends.field-0 turned.Ends (c.number.ensures ∙ c.requires.at.0) c.given.ensures
          c.plan.ensures c.has-cancelled.ensures c.in-Ok-Ends.field-0-is c.requires.at.1.stands c.in-Ok-Ends.ensures.ok,
    )
