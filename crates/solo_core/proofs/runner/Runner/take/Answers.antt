use Rattle.std.proofs.Common.{◌-◌, refl, subst, sym}
use Rattle.jcl_meaning.specs.Acts.{act}
use Rattle.jcl_meaning.specs.Agendas.{Take}
use Rattle.jcl_meaning.specs.Stores.{store_of}
use Rattle.job_text.specs.Places.{dd_at, step_at}
use Rattle.disp_core.specs.Acting.{taking}
use Rattle.disp_core.specs.Courses as course
use Rattle.disp_core.specs.Courses.{fixed_by}
use Rattle.disp_core.specs.Grants.{made_of}
use Rattle.disp_core.specs.declared.site.Site.{Site}
use Rattle.solo_core.specs.Runners.{answers_by, state_by}
use Rattle.solo_core.proofs.Answered.{primary_is_granted}
use Rattle.solo_core.proofs.Carried.{does_told}
use Rattle.solo_core.proofs.runner.Runner.take.Goals as goal

pub returns : goal.returns
unfolding act
returns g c =
    let old = c.args.self.now in
    let d = dd_at (step_at (g.T.JobText.plan c.args.text.now).steps (c.args.n - 1)).dds (c.args.dd - 1) in
    let new = record old { store = c.take.new.store; course = c.take.new.course } in
    let taken = c.in_ok-taken.taken in
    does_told (Take c.args.n c.args.dd d) old new c.met.new.self taken.meets (made_of taken.made)
    (subst (λ (at : Site). course.Does (taking old.given at d.kind (state_by old)) (store_of new.store.store) new.course old.course (answers_by old) taken.meets (made_of taken.made))
    c.site_of-at.ensures
    ((c.in_ok-taken.ensures d.kind (sym c.take_text-reads.ensures)).ok (answers_by old)
    (sym (primary_is_granted (fixed_by old.given) c.site_of-at.result.step c.site_of-at.result.dd d.kind (store_of old.store.store) old.course.own))))
    (record { given = refl; volumes = (c.in_ok-taken.ensures d.kind (sym c.take_text-reads.ensures)).rest }) refl c.in_ok-met.ensures
