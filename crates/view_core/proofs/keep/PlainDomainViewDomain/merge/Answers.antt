use Rattle.std.proofs.Common.{◌∙◌, Bool, ap, drop, length, map, subst, sym}
use Rattle.std.specs.Prelude.{Contains, Decides}
use Rattle.view_domain.specs.Crossings.{IsPut}
use Rattle.view_core.specs.Domains.{shown_before}
use Rattle.view_core.proofs.SameViews.{put_new, put_stood, told_by_plan}
use Rattle.view_core.proofs.keep.PlainDomainViewDomain.merge.Goals as goal

pub returns-in_ok-push-clause-put : goal.returns-in_ok-push-clause-put
returns-in_ok-push-clause-put c =
    let domain = c.args.self.now in
    let old = c.args.behind.now.views.items in
    let shown = shown_before domain c.args.behind.now.part in
    let tells : Decides c.is_shown-stood.result (Contains (map shown old) (shown c.args.view)) =
    told_by_plan domain.plan.now domain.given.date c.args.behind.now.part c.is_shown-stood.result c.args.view domain.names.now
    (length c.as_slice-2.result.now) c.drop_first-later.result.now c.as_slice-3.result.now old domain.named (ap length c.as_slice-2.ensures.value)
    (c.drop_first-later.ensures ∙ ap (drop c.args.behind.now.part) c.as_slice.ensures) c.as_slice-3.ensures.value c.is_shown-stood.ensures in
    subst (λ (b : Bool). IsPut (map shown old) (shown c.args.view) b (map shown c.push.new.self.items)) (sym c.if-not-stood.true)
    (put_new shown old c.args.view c.is_shown-stood.result tells c.push.new.self.items c.if-not-stood.true c.in_ok-push.ensures.items)

pub returns-else-not-stood-clause-put : goal.returns-else-not-stood-clause-put
returns-else-not-stood-clause-put c =
    let domain = c.args.self.now in
    let old = c.args.behind.now.views.items in
    let shown = shown_before domain c.args.behind.now.part in
    let tells : Decides c.is_shown-stood.result (Contains (map shown old) (shown c.args.view)) =
    told_by_plan domain.plan.now domain.given.date c.args.behind.now.part c.is_shown-stood.result c.args.view domain.names.now
    (length c.as_slice-2.result.now) c.drop_first-later.result.now c.as_slice-3.result.now old domain.named (ap length c.as_slice-2.ensures.value)
    (c.drop_first-later.ensures ∙ ap (drop c.args.behind.now.part) c.as_slice.ensures) c.as_slice-3.ensures.value c.is_shown-stood.ensures in
    subst (λ (b : Bool). IsPut (map shown old) (shown c.args.view) b (map shown old)) (sym c.if-not-stood.false)
    (put_stood shown old c.args.view c.is_shown-stood.result tells c.if-not-stood.false)
