use Rattle.std.proofs.Common.{◌≡◌, ◌∷◌, ◌∙◌, ℕ, Bool, true, false, List, [], None, ap, arith, length, refl, sym}
use Rattle.std.specs.Prelude.{if◌then◌else◌}
use Rattle.std.proofs.lemmas.Bool.{eqb-true}
use Rattle.jcl_plan.specs.declared.plan.StepPlan.{StepPlan}
use Rattle.jcl_meaning.specs.declared.state.DdVolume.{DdVolume}
use Rattle.jcl_meaning.specs.Parts.{part_of}
use Rattle.jcl_meaning.specs.Stores.{store_of}
use Rattle.jcl_meaning.specs.Takes.{dd_volume}
use Rattle.jcl_meaning.specs.Views.{shown_set, steps_refer}
use Rattle.view_core.specs.declared.scene.Scene.{Scene}
use Rattle.packed_core.specs.Shown.{ShowsAlike}
use Rattle.packed_core.proofs.scenes.asking.Goals as goal

none_known : (b : Bool) (step dd : ℕ) → let none : List DdVolume = [] in (if b then dd_volume none step dd else None) ≡ None
none_known true step dd = refl
none_known false step dd = refl

no_volume : (later : List StepPlan) (volumes : List DdVolume) → volumes ≡ [] → (step dd : ℕ) →
    (if steps_refer later step dd then dd_volume volumes step dd else None) ≡ None
no_volume later volumes none step dd =
    ap (λ (v : List DdVolume). if steps_refer later step dd then dd_volume v step dd else None) none ∙ none_known (steps_refer later step dd) step dd

alike : (later other : List StepPlan) (s : Scene) → s.volumes ≡ [] → ShowsAlike later other s
alike later other s none names date = λ i. record {
  sets = λ key serial. shown_set ((part_of names (store_of s.store)).set key serial) date;
  catalog = (part_of names (store_of s.store)).catalog;
  passed = s.passed;
  volumes = λ step dd. (no_volume other s.volumes none step dd ∙ sym (no_volume later s.volumes none step dd)) i;
  abended = false;
  job_tests = [];
  step_tests = [];
}

nothing : (l : List DdVolume) → length l ≡ 0 → l ≡ []
nothing [] e = refl
nothing (x ∷ l) e = absurd (omega (arith, e))

pub returns : goal.returns
returns c =
    let later : List StepPlan = c.args.later.now in
    let a : List DdVolume = c.as_slice.result.now in
    let b : List DdVolume = c.as_slice-2.result.now in
    let none_a : c.args.a.now.volumes ≡ [] =
    sym c.as_slice.ensures ∙ nothing a (eqb-true (length a) 0 (sym c.is_empty.ensures ∙ c.if-not-is_empty.false)) in
    let none_b : c.args.b.now.volumes ≡ [] =
    sym c.as_slice-2.ensures ∙ nothing b (eqb-true (length b) 0 (sym c.is_empty-2.ensures ∙ c.if-not-is_empty-2.false)) in
    record {
      first = alike later [] c.args.a.now none_a;
      other = alike later [] c.args.b.now none_b;
    }
