use Rattle.std.proofs.Common.{◌≡◌, ◌<◌, ◌∙◌, ℕ, List, Some, ap, length, map, subst, sym}
use Rattle.std.specs.Prelude.{slice_get}
use Rattle.std.proofs.lemmas.List.{length-map}
use Rattle.disp_core.specs.Courses.{fixed_by}
use Rattle.jcl_meaning.specs.States.{Fixed}
use Rattle.jcl_meaning.specs.Views.{View}
use Rattle.view_domain.specs.declared.crossed.Crossed.{Crossed}
use Rattle.view_domain.specs.Crossings.{IsCrossed}
use Rattle.view_core.specs.declared.scene.PlainView.{PlainView}
use Rattle.view_core.specs.Domains.{IsLedOver, shown_before}
use Rattle.view_core.proofs.Numbered.{at_map, ok_weaker}
use Rattle.view_core.proofs.keep.PlainDomainViewDomain.transfer.Goals as goal

pub returns-clause-crossed : goal.returns-clause-crossed
returns-clause-crossed c =
    let domain = c.args.self.now in
    let fixed : Fixed = fixed_by domain.given in
    let before = c.args.before.now in
    let behind = c.args.behind.now in
    let part = c.args.part in
    let v = c.index.result.now in
    let there : List View = map (shown_before domain behind.part) behind.views.items in
    let Told : Crossed PlainView → Type 0 = λ crossed. (view : View) →
    slice_get (map (shown_before domain before.part) before.views.items) c.args.number ≡ Some view →
    IsCrossed (shown_before domain behind.part) domain.plan.now fixed part there view crossed in
    let within : c.args.number < length before.views.items =
    subst (λ (n : ℕ). c.args.number < n) (length-map before.views.items (shown_before domain before.part)) c.requires.number in
    ok_weaker c.cross.result (IsLedOver domain part v) Told
    (λ crossed led view at.
    subst (λ (w : View). IsCrossed (shown_before domain behind.part) domain.plan.now fixed part there w crossed)
    (sym (ap (λ (n : ℕ). shown_before domain n v) c.requires.stands_before)
    ∙ at_map (shown_before domain before.part) before.views.items c.args.number v view within c.index.ensures at)
    (subst (λ (n : ℕ). IsCrossed (shown_before domain n) domain.plan.now fixed part there (shown_before domain part v) crossed)
    (sym c.requires.stands_behind) (led there)))
    c.cross.ensures
