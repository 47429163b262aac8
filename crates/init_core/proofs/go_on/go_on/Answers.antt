use Rattle.std.proofs.Common.{IfOk, subst, sym}
use Rattle.init_core.specs.Going.{MayLeaveAt, Went}
use Rattle.init_core.specs.Running.{IsAt, config_of}
use Rattle.init_core.specs.declared.running.Stage.{Stage}
use Rattle.init_core.proofs.Advancing.{ended_by}
use Rattle.init_core.proofs.go_on.go_on.Goals as goal

pub returns-in-Selected-clause-ok : goal.returns-in-Selected-clause-ok
returns-in-Selected-clause-ok g c =
    let queue_of = g.Q.RecordStore.queue in
    let p = c.args.parts.now in
    subst (λ (s : Stage). IfOk c.read.result (Went queue_of (config_of c.args.profile.now (queue_of p.queue).layout) p
    (record { job = c.args.running.job; walk = c.args.running.walk; stage = s }) c.read.new.parts)) (sym c.in-Selected.is) c.read.ensures.ok

pub returns-in-Admitted-clause-ok : goal.returns-in-Admitted-clause-ok
returns-in-Admitted-clause-ok g c =
    let queue_of = g.Q.RecordStore.queue in
    let p = c.args.parts.now in
    let r = c.args.running in
    let at = subst (IsAt (config_of c.args.profile.now (queue_of p.queue).layout) p.names r.job r.walk) c.in-Admitted.is c.requires.ready.at in
    let due = subst (MayLeaveAt c.args.profile.now p r.job r.walk) c.in-Admitted.is c.requires.leaves in
    subst (λ (s : Stage). IfOk c.end.result (Went queue_of (config_of c.args.profile.now (queue_of p.queue).layout) p
    (record { job = r.job; walk = r.walk; stage = s }) c.end.new.parts)) (sym c.in-Admitted.is)
    (ended_by queue_of c.args.profile.now p r.job r.walk c.in-Admitted.admitted c.requires.good c.requires.ready.some at
    c.end.result c.end.new.parts c.end.ensures.over c.end.ensures.ok c.ends_advance.ensures due)

pub returns-in-Named-clause-ok : goal.returns-in-Named-clause-ok
returns-in-Named-clause-ok g c =
    let queue_of = g.Q.RecordStore.queue in
    let p = c.args.parts.now in
    subst (λ (s : Stage). IfOk c.admit_job.result (Went queue_of (config_of c.args.profile.now (queue_of p.queue).layout) p
    (record { job = c.args.running.job; walk = c.args.running.walk; stage = s }) c.admit_job.new.parts)) (sym c.in-Named.is) c.admit_job.ensures.ok
