use Rattle.std.proofs.Common.{◌∙◌, ◌++◌, ◌∷◌, List, [], false, ap, length, map}
use Rattle.jcl_meaning.specs.Views.{View}
use Rattle.view_core.specs.declared.scene.PlainView.{PlainView}
use Rattle.view_core.specs.declared.scene.Scene.{Scene}
use Rattle.view_core.specs.Bits.{kept_tests}
use Rattle.view_core.specs.Domains.{shown_before}
use Rattle.view_core.specs.PlainViews.{no_bits}
use Rattle.view_core.proofs.Shown.{shown_first}
use Rattle.view_core.proofs.keep.PlainDomainViewDomain.start.Goals as goal

pub returns-clause-first : goal.returns-clause-first
returns-clause-first c =
    let domain = c.args.self.now in
    let scene : Scene = c.in_ok-first_scene.field-0.value in
    let e = c.in_ok-first_scene.ensures in
    let bits = c.in_ok-no_bits.ensures ∙ (λ i. no_bits (length (c.as_slice-2.ensures.value i)))
    ∙ (λ i. no_bits (length ((c.in_ok-tests.ensures ∙ (λ j. kept_tests (c.as_slice-job.ensures.value j) (c.as_slice.ensures j))) i))) in
    ap (map (shown_before domain 0)) (c.in_ok-push.ensures.items
    ∙ ap (λ (views : List PlainView). views ++ record { scene = c.in_ok-first_scene.field-0; abended = false; met = c.in_ok-no_bits.field-0 } ∷ []) c.new-views.ensures.items)
    ∙ ap (λ (view : View). view ∷ []) (shown_first domain.plan.now domain.given.date domain.store.now scene c.in_ok-no_bits.field-0.items
    e.store e.nothing.0 e.nothing.1 bits)
