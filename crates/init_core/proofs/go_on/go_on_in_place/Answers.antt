use Rattle.std.proofs.Common.{IfOk, subst, sym}
use Rattle.init_core.specs.Going.{WentInPlace}
use Rattle.init_core.specs.Running.{config_of}
use Rattle.init_core.specs.declared.running.Stage.{Stage}
use Rattle.init_core.specs.declared.running.Stage.TheVariants as stage
use Rattle.init_core.proofs.Advancing.{all_in_place}
use Rattle.init_core.proofs.go_on.go_on_in_place.Goals as goal

pub returns-in-Admitted-clause-ok : goal.returns-in-Admitted-clause-ok
returns-in-Admitted-clause-ok g c =
    let queue_of = g.Q.RecordStore.queue in
    let p = c.args.parts.now in
    let before = c.args.running.now in
    subst (λ (s : Stage). IfOk c.act.result (WentInPlace queue_of c.args.profile.now p
    (record { job = before.job; walk = before.walk; stage = s }) c.act.new.parts
    (record { job = before.job; walk = c.act.new.walk; stage = stage.Admitted c.in-Admitted.admitted })))
    (sym c.in-Admitted.is)
    (all_in_place queue_of c.args.profile.now p before.job c.in-Admitted.admitted before.walk c.act.new.parts c.act.new.walk c.act.result c.act.ensures.ok)

pub returns-in-Ok-clause-ok : goal.returns-in-Ok-clause-ok
returns-in-Ok-clause-ok g c =
    c.in-Ok.ensures.ok (config_of c.args.profile.now (g.Q.RecordStore.queue c.args.parts.now.queue).layout) c.requires.good
