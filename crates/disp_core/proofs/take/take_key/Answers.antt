use Rattle.std.proofs.Common.{ap, subst, sym, ◌∙◌, Some, is_some, true}
use Rattle.jcl_meaning.specs.declared.take.Decision.TheVariants.{Refuses, Takes}
use Rattle.jcl_meaning.specs.declared.state.Resolution.TheVariants.{Means}
use Rattle.jcl_meaning.specs.TakeActs.{decided, refused, takes_set}
use Rattle.jcl_meaning.specs.Takes.{is_known, is_there, looked_at}
use Rattle.job_text.specs.Texts.{take_as}
use Rattle.disp_core.specs.Acting.{MeetsAndMakes, MeetsIfGranted, at_site}
use Rattle.disp_core.specs.Courses.{fixed_by}
use Rattle.disp_core.specs.Grants.{granted_on, made_of}
use Rattle.disp_core.specs.Takings.{decision_in, granted_or_refused, target_in}
use Rattle.disp_core.specs.declared.take.Taken.{Taken}
use Rattle.disp_core.proofs.Granted.{absent_at, made_at}
use Rattle.disp_core.proofs.Taking.{if_ok_then, same_grant, taken_with}
use Rattle.disp_core.proofs.take.take_key.Goals as goal

pub returns-in-Refuses : goal.returns-in-Refuses
returns-in-Refuses g c =
    let at = c.args.at.now in
    let fixed = fixed_by c.args.given.now in
    let seen = g.S.JobStore.seen at.job c.args.store.now in
    let after = g.S.JobStore.seen at.job c.refuse.new.store in
    let before = c.args.course.now in
    let p = take_as c.args.p.now in
    let key = c.args.key.now in
    let granted = granted_on (g.S.JobStore.grants_new at.job c.args.store.now key) at.step at.dd p (looked_at (target_in fixed at.step at.dd p key seen before.own)) in
    let is = sym c.in-Refuses.is ∙ c.decision.ensures ∙ ap (λ t. decision_in fixed p key seen t true) c.target-target.ensures in record {
      ok = if_ok_then
          (λ (told : Taken). MeetsAndMakes (refused at.step at.dd c.in-Refuses.fault) seen before after c.refuse.new.course told)
          (λ (told : Taken). MeetsIfGranted granted (λ s. at_site takes_set c.args.given.now at p s (Means key)) seen before after c.refuse.new.course told)
          c.refuse.result
          (λ told h. taken_with fixed at.step at.dd at.name p key seen before after c.refuse.new.course told.meets (made_of told.made)
          granted (Refuses c.in-Refuses.fault) is h)
          c.refuse.ensures.ok;
      err = c.refuse.ensures.err;
      rest = c.refuse.ensures.rest;
    }

pub accept_or_refuse-requires : goal.accept_or_refuse-requires
accept_or_refuse-requires g c made =
    let fixed = fixed_by c.args.given.now in
    let seen = g.S.JobStore.seen c.args.at.now.job c.args.store.now in
    let p = take_as c.args.p.now in
    let key = c.args.key.now in
    let t = c.target-target.result in
    let there = is_there seen key (looked_at t) in
    let here = made_at t (is_known fixed.volumes (looked_at t)) there (is_some p.space) c.in-Takes.serial c.in-Takes.how (sym c.in-Takes.is ∙ c.decision.ensures) made in
    absent_at seen key (looked_at t) c.in-Takes.serial here.looked here.absent

pub returns-in-Takes : goal.returns-in-Takes
returns-in-Takes g c =
    let at = c.args.at.now in
    let fixed = fixed_by c.args.given.now in
    let seen = g.S.JobStore.seen at.job c.args.store.now in
    let after = g.S.JobStore.seen at.job c.accept_or_refuse.new.store in
    let before = c.args.course.now in
    let p = take_as c.args.p.now in
    let key = c.args.key.now in
    let t = target_in fixed at.step at.dd p key seen before.own in
    let grants = g.S.JobStore.grants_new at.job c.args.store.now key in
    let granted = granted_on grants at.step at.dd p (looked_at t) in
    let is = sym c.in-Takes.is ∙ c.decision.ensures ∙ ap (λ t. decision_in fixed p key seen t true) c.target-target.ensures in record {
      ok = if_ok_then
          (λ (told : Taken). MeetsAndMakes (λ s. at_site decided c.args.given.now at p key s
          (granted_or_refused (Takes c.in-Takes.serial c.in-Takes.how) (granted_on grants at.step at.dd p (Some c.in-Takes.serial))))
          seen before after c.accept_or_refuse.new.course told)
          (λ (told : Taken). MeetsIfGranted granted (λ s. at_site takes_set c.args.given.now at p s (Means key)) seen before after c.accept_or_refuse.new.course told)
          c.accept_or_refuse.result
          (λ told h. taken_with fixed at.step at.dd at.name p key seen before after c.accept_or_refuse.new.course told.meets (made_of told.made)
          granted (Takes c.in-Takes.serial c.in-Takes.how) is
          (subst (λ d. MeetsAndMakes (λ s. at_site decided c.args.given.now at p key s d) seen before after c.accept_or_refuse.new.course told)
          (same_grant t (is_known fixed.volumes (looked_at t)) (is_there seen key (looked_at t)) (is_some p.space) c.in-Takes.serial c.in-Takes.how
          (granted_on grants at.step at.dd p) is)
          h))
          c.accept_or_refuse.ensures.ok;
      err = c.accept_or_refuse.ensures.err;
      rest = c.accept_or_refuse.ensures.rest;
    }
