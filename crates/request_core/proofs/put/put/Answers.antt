use Rattle.std.proofs.Common.{◌≡◌, Bool, Some, is_some, ◌∙◌}
use Rattle.job_text.specs.Texts.{put_as}
use Rattle.request_core.specs.Requests.{AsksGrowthAs, growth_in}
use Rattle.request_core.proofs.Asking.{if_ok_then, on_ok_then}
use Rattle.request_core.proofs.PutSets.{grows_to_set, puts_to_set}
use Rattle.request_core.proofs.put.put.Goals as goal

pub returns-in-Some-clause-asked : goal.returns-in-Some-clause-asked
returns-in-Some-clause-asked g c =
    let here = c.args.here.now in
    let q = c.in-Set.p in
    let t = c.in-Some.t in
    let seen = g.S.JobStore.seen c.args.putting.now.job c.args.store.now in
    if_ok_then
    (λ (told : Bool). told ≡ is_some (growth_in (put_as q) here.written (Some t) seen))
    (λ (told : Bool). AsksGrowthAs c.args.text.now here seen told)
    c.put_in.result
    (λ told h dd e. grows_to_set here t c.in-Some.is q dd (e ∙ c.in-Set.is) told seen h)
    c.put_in.ensures.asked

pub returns-in-Some-clause-ok : goal.returns-in-Some-clause-ok
returns-in-Some-clause-ok g c =
    let putting = c.args.putting.now in
    let old = g.S.JobStore.seen putting.job c.args.store.now in
    let new = g.S.JobStore.seen putting.job c.put_in.new.store in
    on_ok_then c.put_in.result
    (λ h dd e. puts_to_set c.args.here.now c.in-Some.t c.in-Some.is c.in-Set.p dd (e ∙ c.in-Set.is)
    (g.S.JobStore.grants_growth putting.job c.args.store.now) putting.name.now putting.text.now old c.args.course.now new c.put_in.new.course h)
    c.put_in.ensures.ok
