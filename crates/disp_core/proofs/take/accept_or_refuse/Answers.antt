use Rattle.std.proofs.Common.{ap, subst, sym, ◌∙◌, Err, IfOk}
use Rattle.jcl_plan.specs.declared.fault.Fault.TheVariants.{F6}
use Rattle.jcl_meaning.specs.declared.take.Decision.TheVariants.{Takes}
use Rattle.jcl_meaning.specs.TakeActs.{decided, refused}
use Rattle.job_text.specs.Texts.{take_as}
use Rattle.disp_core.specs.Acting.{Makes, MeetsAndMakes, at_site}
use Rattle.disp_core.specs.Takings.{granted_or_refused}
use Rattle.disp_core.proofs.take.accept_or_refuse.Goals as goal

pub returns-in-Err-NotGranted : goal.returns-in-Err-NotGranted
returns-in-Err-NotGranted g c =
    let at = c.args.at.now in
    let seen = g.S.JobStore.seen at.job c.args.store.now in
    let after = g.S.JobStore.seen at.job c.refuse.new.store in
    let chosen = c.args.chosen.now in
    let why = c.accept.ensures.refused (c.in-Err-NotGranted.is ∙ ap Err c.in-Err-NotGranted.field-0-is) in
    let same = c.in-Err-NotGranted.ensures.err in
    let did =
    subst
    (λ store. Makes g.S.JobStore at.job (MeetsAndMakes (refused at.step at.dd F6)) c.refuse.result
    store c.args.course.now c.refuse.new.store c.refuse.new.course)
    same.0
    (subst
    (λ course. Makes g.S.JobStore at.job (MeetsAndMakes (refused at.step at.dd F6)) c.refuse.result
    c.accept.new.store course c.refuse.new.store c.refuse.new.course)
    same.1 c.refuse.ensures) in record {
      ok = subst
          (λ d. IfOk c.refuse.result (λ told.
          MeetsAndMakes (λ s. at_site decided c.args.given.now at (take_as c.args.p.now) chosen.key s d) seen c.args.course.now after c.refuse.new.course told))
          (sym (λ i. granted_or_refused (Takes chosen.serial (why.0 i)) (why.1 i)))
          did.ok;
      err = did.err;
      rest = did.rest;
    }
