use Rattle.std.proofs.Common.{ap, subst, sym, ◌∙◌, ◌-◌, IfOk, None, slice_get}
use Rattle.jcl_meaning.specs.EndActs.{disposes}
use Rattle.jcl_meaning.specs.States.{if_runs}
use Rattle.disp_core.proofs.Silent.{carried_silently}
use Rattle.disp_core.specs.Acting.{Meets, at_site}
use Rattle.disp_core.proofs.dispose.dispose.Goals as goal

pub returns-in_default : goal.returns-in_default
returns-in_default g c dd e =
    let at = c.args.at.now in
    let seen = g.S.JobStore.seen at.job c.args.store.now in
    let course = c.args.course.now in record {
      ok = subst
          (λ b. Meets (λ s. if_runs b s (at_site (disposes (slice_get s.own.dds (at.dd - 1))) c.args.given.now at dd s)) seen course seen course None)
          (sym c.if-not-course.false)
          (subst (λ o. Meets (λ s. at_site (disposes o) c.args.given.now at dd s) seen course seen course None)
          (sym c.in_default.is ∙ c.in_ok-x.ensures ∙ ap (λ l. slice_get l (at.dd - 1)) c.as_slice.ensures)
          (carried_silently seen course));
      err = tt;
      rest = g.S.JobStore.takes_none at.job _ _ (g.S.JobStore.gives_nothing (g.S.JobStore.rest at.job c.args.store.now));
    }

pub returns : goal.returns
returns g c dd e =
    let at = c.args.at.now in
    let seen = g.S.JobStore.seen at.job c.args.store.now in
    let after = g.S.JobStore.seen at.job c.dispose_at.new.store in
    let course = c.args.course.now in record {
      ok = subst
          (λ b. IfOk c.dispose_at.result (λ meets.
          Meets (λ s. if_runs b s (at_site (disposes (slice_get s.own.dds (at.dd - 1))) c.args.given.now at dd s)) seen course after c.dispose_at.new.course meets))
          (sym c.if-not-course.false)
          (subst
          (λ o. IfOk c.dispose_at.result (λ meets.
          Meets (λ s. at_site (disposes o) c.args.given.now at dd s) seen course after c.dispose_at.new.course meets))
          (sym c.in-Some.is ∙ c.in_ok-x.ensures ∙ ap (λ l. slice_get l (at.dd - 1)) c.as_slice.ensures)
          (c.dispose_at.ensures dd e).ok);
      err = (c.dispose_at.ensures dd e).err;
      rest = (c.dispose_at.ensures dd e).rest;
    }
