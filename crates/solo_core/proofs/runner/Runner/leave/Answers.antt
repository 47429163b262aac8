use Rattle.std.proofs.Common.{◌-◌, [], refl, subst, sym}
use Rattle.jcl_meaning.specs.Acts.{act}
use Rattle.jcl_meaning.specs.Agendas.{Left}
use Rattle.jcl_meaning.specs.EndActs.{left_at}
use Rattle.jcl_meaning.specs.Stores.{store_of}
use Rattle.job_text.specs.Places.{dd_at, step_at}
use Rattle.disp_core.specs.Acting.{at_site}
use Rattle.disp_core.specs.Courses as course
use Rattle.disp_core.specs.declared.site.Site.{Site}
use Rattle.solo_core.specs.Runners.{answers_by, state_by}
use Rattle.solo_core.proofs.Carried.{does_told}
use Rattle.solo_core.proofs.runner.Runner.leave.Goals as goal

pub returns : goal.returns
unfolding act
returns g c =
    let old = c.args.self.now in
    let d = dd_at (step_at (g.T.JobText.plan c.args.text.now).steps (c.args.n - 1)).dds (c.args.dd - 1) in
    let new = record old { store = c.leave.new.store; course = c.leave.new.course } in
    let told = c.in_ok-meets.ensures d.kind (sym c.disp_text-reads.ensures) in
    does_told (Left c.args.n c.args.dd d) old new c.met.new.self c.in_ok-meets.meets []
    (subst (λ (at : Site). course.Does (at_site left_at old.given at d.kind (state_by old)) (store_of new.store.store) new.course old.course (answers_by old) c.in_ok-meets.meets [])
    c.site_of-at.ensures (told.ok (answers_by old)))
    (record { given = refl; volumes = told.rest }) refl c.in_ok-met.ensures
