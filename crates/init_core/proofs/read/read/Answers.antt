use Rattle.std.proofs.Common.{length, refl, subst, sym, ◌∙◌}
use Rattle.init_core.specs.Finding.{IsDenoted, IsFound}
use Rattle.init_core.specs.Going.{Went}
use Rattle.init_core.specs.Running.{config_of}
use Rattle.init_core.specs.declared.running.Stage.TheVariants as stage
use Rattle.init_core.proofs.Reading.{broke, found}
use Rattle.init_core.proofs.Wanting.{so_wanted}
use Rattle.init_core.proofs.read.read.Goals as goal

pub returns-in-Ok-Broken-clause-ok : goal.returns-in-Ok-Broken-clause-ok
returns-in-Ok-Broken-clause-ok g c =
    let config = config_of c.args.profile.now (g.Q.RecordStore.queue c.args.parts.now.queue).layout in
    subst (Went g.Q.RecordStore.queue config c.args.parts.now (record { job = c.args.job; walk = c.args.walk; stage = stage.Selected c.args.first }) c.release_unnamed.new.parts)
    (sym c.over.ensures)
    (broke g.Q.RecordStore.queue c.args.profile.now c.args.parts.now c.release_unnamed.new.parts c.args.job c.args.first c.args.walk c.requires.good
    c.in-Ok-Broken.fault
    (subst (IsFound (g.Q.RecordStore.queue c.args.parts.now.queue) (length c.args.profile.now.units.now) c.args.job c.args.first) c.in-Ok-Broken.field-0-is c.in-Ok-Broken.ensures)
    c.release_unnamed.ensures.back (c.release_unnamed.ensures.released config refl))

pub returns-in-Ok-clause-ok : goal.returns-in-Ok-clause-ok
returns-in-Ok-clause-ok g c =
    let queue_of = g.Q.RecordStore.queue in
    let p = c.args.parts.now in
    let config = config_of c.args.profile.now (queue_of p.queue).layout in
    let plan = c.in-Ok-Job.plan in
    let wants = c.in-Ok-Job.wants in
    let denoted : IsDenoted (queue_of p.queue) (length c.args.profile.now.units.now) c.args.job c.args.first plan wants =
    subst (IsFound (queue_of p.queue) (length c.args.profile.now.units.now) c.args.job c.args.first) c.in-Ok-Job.field-0-is c.in-Ok-Job.ensures in
    found queue_of c.args.profile.now p c.wish.new.parts c.args.job c.args.first c.args.walk c.requires.good plan wants c.going_on.result denoted
    (so_wanted queue_of config p c.wish.new.parts c.args.job c.args.walk c.wish.new.walk plan c.as_slice.result.now wants c.in-Ok.held c.len-from.result c.going_on.result
    c.as_slice.ensures c.len-from.ensures c.going_on.ensures (c.in-Ok.ensures.ok config plan (c.as_slice.ensures ∙ denoted.wanted) c.requires.good))
