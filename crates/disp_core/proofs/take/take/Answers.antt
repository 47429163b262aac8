use Rattle.std.proofs.Common.{subst, sym, ◌∙◌, IfOk}
use Rattle.jcl_plan.specs.declared.plan.DdKind.TheVariants.{Set}
use Rattle.jcl_meaning.specs.Resolutions.{meaning_at}
use Rattle.jcl_meaning.specs.States.{if_runs}
use Rattle.jcl_meaning.specs.TakeActs.{takes}
use Rattle.job_text.proofs.KindsRead.{taken_set_is}
use Rattle.job_text.specs.Texts.{take_as}
use Rattle.disp_core.specs.Acting.{MeetsIfGranted, at_site}
use Rattle.disp_core.specs.Choices.{Took, TookSet}
use Rattle.disp_core.specs.Courses.{fixed_by}
use Rattle.disp_core.specs.Grants.{granted_by, made_of}
use Rattle.disp_core.specs.declared.take.Taken.{Taken}
use Rattle.disp_core.proofs.TakenSets.{taken_read}
use Rattle.disp_core.proofs.Taking.{if_ok_then}
use Rattle.disp_core.proofs.take.take.Goals as goal

pub returns-in-Set : goal.returns-in-Set
returns-in-Set g c dd e =
    let at = c.args.at.now in
    let given = c.args.given.now in
    let fixed = fixed_by given in
    let before = c.args.course.now in
    let after = c.take_set.new.course in
    let old = g.S.JobStore.seen at.job c.args.store.now in
    let new = g.S.JobStore.seen at.job c.take_set.new.store in
    let grants = g.S.JobStore.grants_new at.job c.args.store.now in
    let set = taken_set_is dd c.in-Set.p (e ∙ c.in-Set.is) in
    let p = set.0 in
    let means = meaning_at given.meanings.now at.step at.dd in record {
      ok = subst
          (λ k. IfOk c.take_set.result (λ told. Took grants given at k old before new after told))
          (sym set.1)
          (subst
          (λ b. IfOk c.take_set.result (λ told. MeetsIfGranted (granted_by grants fixed at.step at.dd p old before.own means)
          (λ s. if_runs b s (at_site takes given at (Set p) s)) old before new after told))
          (sym c.if-not-course.false)
          (if_ok_then
          (λ (told : Taken). TookSet grants given at (take_as c.in-Set.p) old before new after told)
          (λ (told : Taken). TookSet grants given at p old before new after told)
          c.take_set.result
          (λ told h. taken_read grants fixed at.step at.dd at.name p old before new after told.meets (made_of told.made) means
          (subst (λ q. TookSet grants given at (take_as q) old before new after told) (sym set.2) h))
          c.take_set.ensures.ok));
      err = c.take_set.ensures.err;
      rest = c.take_set.ensures.rest;
    }
