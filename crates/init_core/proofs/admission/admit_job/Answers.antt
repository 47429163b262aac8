use Rattle.std.proofs.Common.{◌≡◌, ap, subst, sym, ◌∙◌}
use Rattle.turn_core.specs.Standing.{Stands, count_at}
use Rattle.turn_core.specs.declared.walk.Walk.{Walk}
use Rattle.admit_core.specs.Admitted.{IsAnswered}
use Rattle.admit_core.specs.declared.admit.Terms.{Terms}
use Rattle.init_core.specs.Going.{Went}
use Rattle.init_core.specs.Running.{config_of}
use Rattle.init_core.specs.declared.running.Progress.TheVariants.{Answered}
use Rattle.init_core.specs.declared.running.Stage.TheVariants as stage
use Rattle.init_core.proofs.Admitting.{begins_so, over_so, waits_so}
use Rattle.init_core.proofs.admission.admit_job.Goals as goal

pub returns-then-is_turned_away-clause-ok : goal.returns-then-is_turned_away-clause-ok
returns-then-is_turned_away-clause-ok g c =
    let queue_of = g.Q.RecordStore.queue in
    let p = c.args.parts.now in
    let config = config_of c.args.profile.now (queue_of p.queue).layout in
    subst (Went queue_of config p (record { job = c.args.job; walk = c.args.walk; stage = stage.Named c.args.named }) c.release_admitted.new.parts)
    (sym c.over.ensures)
    (over_so queue_of c.args.profile.now p c.args.job c.args.walk c.args.named c.requires.good c.requires.some c.requires.its_own c.admit.new.store
    c.admit.new.listing c.in-Ok.field-0 c.told-line.result.0 c.told-line.ensures.line c.in-Ok.ensures.told
    (subst (λ (t : Terms). IsAnswered p.store t c.args.job c.args.named p.date c.admit.new.store c.in-Ok.field-0) c.terms-terms.ensures c.in-Ok.ensures.ok)
    c.release_admitted.new.parts c.release_admitted.ensures.back
    (c.release_admitted.ensures.released config c.requires.good.layout)
    c.in-Admitted.admitted (sym c.told-line.ensures.job ∙ c.in-Admitted.is) (sym c.is_turned_away.ensures ∙ c.if-is_turned_away.true))

pub returns-else-is_turned_away-clause-ok : goal.returns-else-is_turned_away-clause-ok
returns-else-is_turned_away-clause-ok g c =
    let queue_of = g.Q.RecordStore.queue in
    let p = c.args.parts.now in
    let config = config_of c.args.profile.now (queue_of p.queue).layout in
    let plan = c.args.named.plan in
    subst (λ (w : Walk). Went queue_of config p (record { job = c.args.job; walk = c.args.walk; stage = stage.Named c.args.named }) (record p { store = c.admit.new.store })
    (Answered (record { job = c.args.job; walk = w; stage = stage.Admitted c.in-Admitted.admitted }) (record { line = c.told-line.result.0; path = c.in-Ok.field-0.path })))
    (sym c.begun-walk.ensures.is)
    (begins_so queue_of c.args.profile.now p c.args.job c.args.walk c.args.named c.requires.good c.requires.some c.requires.its_own c.admit.new.store
    c.admit.new.listing c.in-Ok.field-0 c.told-line.result.0 c.told-line.ensures.line c.in-Ok.ensures.told
    (subst (λ (t : Terms). IsAnswered p.store t c.args.job c.args.named p.date c.admit.new.store c.in-Ok.field-0) c.terms-terms.ensures c.in-Ok.ensures.ok)
    c.in-Admitted.admitted (sym c.told-line.ensures.job ∙ c.in-Admitted.is) (sym c.is_turned_away.ensures ∙ c.if-is_turned_away.false)
    (subst (λ t. Stands plan config.programs t × (count_at plan config.programs t ≡ 0)) (ap (λ (w : Walk). w.todo) c.begun-walk.ensures.is)
    (c.begun-walk.ensures.first plan config.programs)))

pub returns-in-Waits-clause-ok : goal.returns-in-Waits-clause-ok
returns-in-Waits-clause-ok g c =
    let queue_of = g.Q.RecordStore.queue in
    let p = c.args.parts.now in
    waits_so queue_of c.args.profile.now p c.args.job c.args.walk c.args.named c.requires.good c.requires.some c.requires.its_own c.admit.new.store
    c.admit.new.listing c.in-Ok.field-0 c.told-line.result.0 c.told-line.ensures.line c.in-Ok.ensures.told
    (subst (λ (t : Terms). IsAnswered p.store t c.args.job c.args.named p.date c.admit.new.store c.in-Ok.field-0) c.terms-terms.ensures c.in-Ok.ensures.ok)
    c.in-Waits.named (sym c.told-line.ensures.job ∙ c.in-Waits.is)
