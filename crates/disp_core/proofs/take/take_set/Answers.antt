use Rattle.std.proofs.Common.{subst, sym, ◌∙◌, IfOk}
use Rattle.jcl_meaning.specs.declared.state.Resolution.TheVariants.{Fails}
use Rattle.jcl_meaning.specs.TakeActs.{refused, takes_set}
use Rattle.job_text.specs.Texts.{take_as}
use Rattle.disp_core.specs.Acting.{MeetsAndMakes, MeetsIfGranted, at_site}
use Rattle.disp_core.specs.Courses.{fixed_by}
use Rattle.disp_core.specs.Grants.{granted_by}
use Rattle.disp_core.specs.declared.take.Taken.{Taken}
use Rattle.disp_core.proofs.Taking.{if_ok_then}
use Rattle.disp_core.proofs.take.take_set.Goals as goal

pub returns-in-Fails : goal.returns-in-Fails
returns-in-Fails g c =
    let at = c.args.at.now in
    let fixed = fixed_by c.args.given.now in
    let seen = g.S.JobStore.seen at.job c.args.store.now in
    let after = g.S.JobStore.seen at.job c.refuse.new.store in
    let before = c.args.course.now in
    let p = take_as c.args.p.now in
    let granted = granted_by (g.S.JobStore.grants_new at.job c.args.store.now) fixed at.step at.dd p seen before.own in record {
      ok = subst
          (λ m. IfOk c.refuse.result (λ told.
          MeetsIfGranted (granted m) (λ s. at_site takes_set c.args.given.now at p s m) seen before after c.refuse.new.course told))
          (sym c.in-Fails.is ∙ c.at.ensures)
          (if_ok_then
          (λ (told : Taken). MeetsAndMakes (refused at.step at.dd c.in-Fails.fault) seen before after c.refuse.new.course told)
          (λ (told : Taken).
          MeetsIfGranted (granted (Fails c.in-Fails.fault)) (λ s. at_site takes_set c.args.given.now at p s (Fails c.in-Fails.fault))
          seen before after c.refuse.new.course told)
          c.refuse.result (λ told h answers e. h answers) c.refuse.ensures.ok);
      err = c.refuse.ensures.err;
      rest = c.refuse.ensures.rest;
    }
