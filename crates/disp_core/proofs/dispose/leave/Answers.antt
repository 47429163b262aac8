use Rattle.std.proofs.Common.{ap, subst, sym, ◌∙◌, IfOk, Some}
use Rattle.jcl_meaning.specs.EndActs.{leaves, left_at, passed_by}
use Rattle.disp_core.specs.Acting.{Meets, at_site}
use Rattle.job_text.proofs.KindsRead.{disposed_set_is}
use Rattle.job_text.specs.Texts.{disp_as}
use Rattle.disp_core.proofs.dispose.leave.Goals as goal

pub returns-in-Some : goal.returns-in-Some
returns-in-Some g c dd e =
    let at = c.args.at.now in
    let seen = g.S.JobStore.seen at.job c.args.store.now in
    let after = g.S.JobStore.seen at.job c.leave_set.new.store in
    let set = disposed_set_is dd c.in-Set.p (e ∙ c.in-Set.is) in record {
      ok = subst
          (λ k. IfOk c.leave_set.result (λ meets.
          Meets (at_site left_at c.args.given.now at k) seen c.args.course.now after c.leave_set.new.course meets))
          (sym set.1)
          (subst
          (λ o. IfOk c.leave_set.result (λ meets.
          Meets (at_site leaves c.args.given.now at set.0 o) seen c.args.course.now after c.leave_set.new.course meets))
          (sym c.in-Some.is ∙ c.passed_by-passed.ensures ∙ ap (λ ps. passed_by ps at.step at.dd) c.as_slice.ensures)
          (subst
          (λ q. IfOk c.leave_set.result (λ meets.
          Meets (at_site leaves c.args.given.now at (disp_as q) (Some c.in-Some.q)) seen c.args.course.now after c.leave_set.new.course meets))
          (sym set.2) c.leave_set.ensures.ok));
      err = c.leave_set.ensures.err;
      rest = c.leave_set.ensures.rest;
    }
