use Rattle.std.proofs.Common.{◌≡◌, Bool, is_some, slice_get, sym, ap, ◌∙◌}
use Rattle.std.specs.Option.{option_map}
use Rattle.job_text.specs.Places.{dd_at, step_at}
use Rattle.request_core.specs.Requests.{growth_at_dd, growth_of, here_at}
use Rattle.request_core.proofs.Asking.{asked_at, dd_is, growth_is, if_ok_then, on_ok_then, same_dd}
use Rattle.request_core.proofs.ask.ask_at.Goals as goal

pub returns-clause-asked : goal.returns-clause-asked
returns-clause-asked g c =
    let asking = c.args.asking.now in
    let step = step_at (g.T.JobText.plan c.args.text.now).steps asking.step in
    let d = c.args.d in
    let here = c.in-Some.here in
    let states = c.args.course.now.own.dds in
    let seen = g.S.JobStore.seen asking.job c.args.store.now in
    let k = sym c.in-Some.is ∙ c.here_at.ensures ∙ ap (λ l. option_map (here_at d) (slice_get l d)) c.as_slice.ensures in
    if_ok_then
    (λ (asked : Bool). asked ≡ is_some (growth_of step asking.wants.now here (dd_at step.dds here.d) seen))
    (λ (asked : Bool). asked ≡ is_some (growth_at_dd (slice_get states d) (slice_get step.dds d) step asking.wants.now d seen))
    c.ask_of.result
    (λ asked e. e ∙ ap is_some (growth_is (g.S.JobStore.grants_growth asking.job c.args.store.now) step asking.wants.now d here (dd_at step.dds here.d) seen
    (g.S.JobStore.seen asking.job c.ask_of.new.store) c.args.course.now c.ask_of.new.course (slice_get states d) (slice_get step.dds d) k
    (dd_is step.dds d here c.requires.dd (same_dd d here (slice_get states d) k))))
    c.ask_of.ensures.asked

pub returns-clause-ok : goal.returns-clause-ok
returns-clause-ok g c =
    let asking = c.args.asking.now in
    let step = step_at (g.T.JobText.plan c.args.text.now).steps asking.step in
    let d = c.args.d in
    let here = c.in-Some.here in
    let states = c.args.course.now.own.dds in
    let k = sym c.in-Some.is ∙ c.here_at.ensures ∙ ap (λ l. option_map (here_at d) (slice_get l d)) c.as_slice.ensures in
    on_ok_then c.ask_of.result
    (asked_at (g.S.JobStore.grants_growth asking.job c.args.store.now) step asking.wants.now d here (dd_at step.dds here.d)
    (g.S.JobStore.seen asking.job c.args.store.now) (g.S.JobStore.seen asking.job c.ask_of.new.store) c.args.course.now c.ask_of.new.course k
    (dd_is step.dds d here c.requires.dd (same_dd d here (slice_get states d) k)))
    c.ask_of.ensures.ok
