-- Where a part leads from a row before it.
use Rattle.std.proofs.Common.{◌≡◌, ◌∙◌, ◌<◌, ℕ, List, Some, ap, get_or, length, refl, subst, sym}
use Rattle.std.specs.Prelude.{IfOk, Result, slice_get}
use Rattle.jcl_plan.specs.declared.outcome.Fate.{Fate}
use Rattle.jcl_plan.specs.declared.outcome.Fate.TheVariants as fate
use Rattle.jcl_plan.specs.declared.plan.JobPlan.{JobPlan}
use Rattle.jcl_plan.specs.declared.plan.StepPlan.{StepPlan}
use Rattle.jcl_meaning.specs.States.{Fixed}
use Rattle.jcl_meaning.specs.Views.{View}
use Rattle.view_domain.specs.declared.crossed.Crossed.{Crossed}
use Rattle.view_domain.specs.Crossings.{IsCrossed}
use Rattle.view_core.specs.declared.scene.Scene.{Scene}
use Rattle.view_core.specs.Bits.{fate_shown}
use Rattle.view_core.specs.Shows.{Shows}
use Rattle.view_core.proofs.Numbered.{ok_weaker}
use Rattle.packed_core.specs.Crossing.{IsLedTo, IsPassed, IsStep, NamesScene, row_shows}
use Rattle.packed_core.specs.Moving.{all_shown, shown_among}
use Rattle.packed_core.specs.Rooms.{room_at}
use Rattle.packed_core.specs.Views.{Views}
use Rattle.packed_core.specs.Words.{bit, met_of}
use Rattle.packed_core.proofs.Places.{got_there}
use Rattle.packed_core.proofs.ShownRows.{shown_at}

module _ {V E : Type 0} (row_of : V → List ℕ) (plan : JobPlan) (fixed : Fixed) (k : ℕ) (before behind : Views) (row : List ℕ) (r : Result (Crossed V) E) where
  abbrev LeadsFrom : Type 0
  LeadsFrom = IfOk r (λ crossed. (scene : Scene) → NamesScene before row scene → IsLedTo row_of plan fixed k (row_shows plan k scene row) behind crossed)

  abbrev fate_in : StepPlan → Shows → Fate
  fate_in step v = fate_shown (length plan.tests.items) step v

  -- its step runs, or does not
  module _ (step : StepPlan) (new : List ℕ) (first : get_or new 0 0 ≡ get_or row 0 0)
      (passed : (scene : Scene) → IsPassed plan step k (row_shows plan k scene row) new)
      (f : Fate) (tells : (scene : Scene) → f ≡ fate_in step (row_shows plan k scene row)) where
    pub step_runs : f ≡ fate.Run → IfOk r (λ crossed. (v : Shows) → NamesScene before new v.scene → IsPassed plan step k v new → fate_in step v ≡ fate.Run →
        IsLedTo row_of plan fixed k v behind crossed) → LeadsFrom
    step_runs runs led =
        ok_weaker r (λ crossed. (v : Shows) → NamesScene before new v.scene → IsPassed plan step k v new → fate_in step v ≡ fate.Run →
        IsLedTo row_of plan fixed k v behind crossed)
        (λ crossed. (scene : Scene) → NamesScene before row scene → IsLedTo row_of plan fixed k (row_shows plan k scene row) behind crossed)
        (λ crossed h scene names. h (row_shows plan k scene row) (ap (slice_get before.scenes) first ∙ names) (passed scene) (sym (tells scene) ∙ runs)) led

    pub step_idles : IsStep plan k step → IfOk r (λ crossed. (s : StepPlan) → IsStep plan k s → (v : Shows) → NamesScene before new v.scene →
        IsPassed plan s k v new → f ≡ fate_in s v → IsLedTo row_of plan fixed k v behind crossed) → LeadsFrom
    step_idles is led =
        ok_weaker r (λ crossed. (s : StepPlan) → IsStep plan k s → (v : Shows) → NamesScene before new v.scene → IsPassed plan s k v new → f ≡ fate_in s v →
        IsLedTo row_of plan fixed k v behind crossed)
        (λ crossed. (scene : Scene) → NamesScene before row scene → IsLedTo row_of plan fixed k (row_shows plan k scene row) behind crossed)
        (λ crossed h scene names. h step is (row_shows plan k scene row) (ap (slice_get before.scenes) first ∙ names) (passed scene) (tells scene)) led

  -- the row shows its view
  pub row_leads : before.part ≡ k → get_or row 0 0 < length before.scenes → LeadsFrom → (source : List ℕ) → row ≡ source →
      IfOk r (IsCrossed (λ w. shown_among plan fixed.date behind (row_of w)) plan fixed k (all_shown plan fixed.date behind)
      (shown_among plan fixed.date before source))
  row_leads at named led source is =
      let there : (s : Scene) × (slice_get before.scenes (get_or row 0 0) ≡ Some s) = got_there before.scenes (get_or row 0 0) named in
      let shown : shown_among plan fixed.date before row ≡ shown_among plan fixed.date before source = ap (shown_among plan fixed.date before) is in
      ok_weaker r (λ crossed. (scene : Scene) → NamesScene before row scene → IsLedTo row_of plan fixed k (row_shows plan k scene row) behind crossed)
      (IsCrossed (λ w. shown_among plan fixed.date behind (row_of w)) plan fixed k (all_shown plan fixed.date behind)
      (shown_among plan fixed.date before source))
      (λ crossed h.
      subst (λ (v : View). IsCrossed (λ w. shown_among plan fixed.date behind (row_of w)) plan fixed k (all_shown plan fixed.date behind) v crossed)
      (sym (shown_at plan fixed.date k before.scenes row there.0 (bit row 0) (met_of (room_at plan k) row) refl refl there.1)
      ∙ sym (ap (λ (n : ℕ). shown_among plan fixed.date (record before { part = n }) row) at) ∙ shown)
      (h there.0 there.1))
      led
