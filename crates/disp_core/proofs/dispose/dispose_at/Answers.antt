use Rattle.std.proofs.Common.{subst, sym, ◌∙◌, IfOk, Some}
use Rattle.jcl_meaning.specs.EndActs.{disposes_at, set_disposed, set_disposes}
use Rattle.disp_core.specs.Acting.{Meets, at_site}
use Rattle.job_text.proofs.KindsRead.{disposed_set_is}
use Rattle.job_text.specs.Texts.{disp_as}
use Rattle.disp_core.proofs.dispose.dispose_at.Goals as goal

pub returns : goal.returns
returns g c dd e =
    let at = c.args.at.now in
    let given = c.args.given.now in
    let before = c.args.course.now in
    let seen = g.S.JobStore.seen at.job c.args.store.now in
    let after = g.S.JobStore.seen at.job c.set_disposed.new.store in
    let course = c.set_disposed.new.course in
    let set = disposed_set_is dd c.in-Set.p (e ∙ c.in-Set.is) in
    let p = set.0 in
    let t = c.in-Some.t in record {
      ok = subst
          (λ k. IfOk c.set_disposed.result (λ meets. Meets (at_site disposes_at given at k c.args.x) seen before after course meets))
          (sym set.1)
          (subst
          (λ o. IfOk c.set_disposed.result (λ meets. Meets (at_site set_disposes given at p o) seen before after course meets))
          (sym c.in-Some.is)
          (subst
          (λ q. IfOk c.set_disposed.result (λ meets. Meets (at_site set_disposes given at (disp_as q) (Some t)) seen before after course meets))
          (sym set.2)
          (subst
          (λ d. IfOk c.set_disposed.result (λ meets. Meets (λ s. at_site set_disposed given at (disp_as c.in-Set.p) t s d) seen before after course meets))
          c.disposal-disposed.ensures
          c.set_disposed.ensures.ok)));
      err = c.set_disposed.ensures.err;
      rest = c.set_disposed.ensures.rest;
    }
