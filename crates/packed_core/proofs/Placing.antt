-- What is known of the scenes in front of views.
use Rattle.std.proofs.Common.{◌≡◌, inl, inr, ◌++◌, ◌∷◌, ◌∙◌, ◌+◌, ℕ, zero, suc, Bool, true, false, List, [], Vec, Option, None, Some, ap, get_or, subst, sym}
use Rattle.std.specs.Global.{Global}
use Rattle.std.specs.Prelude.{Err, IfOk, IfSome, Ok, Result, slice_get}
use Rattle.jcl_plan.specs.declared.outcome.Outcome.{Outcome}
use Rattle.jcl_plan.specs.declared.plan.JobPlan.{JobPlan}
use Rattle.jcl_plan.specs.declared.plan.StepPlan.{StepPlan}
use Rattle.jcl_meaning.specs.States.{Fixed}
use Rattle.view_domain.specs.declared.crossed.Stop.{Stop}
use Rattle.view_core.specs.declared.scene.Scene.{Scene}
use Rattle.packed_core.specs.declared.placed.Known.{Known}
use Rattle.packed_core.specs.declared.placed.Placed.{Placed}
use Rattle.packed_core.specs.declared.placed.Placed.TheVariants as placed
use Rattle.packed_core.specs.Crossing.{IsStep}
use Rattle.packed_core.specs.Placed.{AreKnown, ArePlaced, HasPlaced, HasPut, IsPlacedAt, StandsIn}
use Rattle.packed_core.specs.Scenes.{HasScene}
use Rattle.packed_core.specs.Sights.{Sight}
use Rattle.packed_core.proofs.ShownRows.{scene_stays}

-- one fact for all, where a call succeeds
pub ok_each : {X T E : Type 0} (r : Result T E) (P : X → Type 0) (Q : X → T → Type 0) → ((x : X) → P x → IfOk r (Q x)) →
    IfOk r (λ it. (x : X) → P x → Q x it)
ok_each (Ok t) P Q h = h
ok_each (Err e) P Q h = tt

-- nothing is noted at a place that was added
pub none_added : {X : Type 0} (list : List (Option X)) (i : ℕ) (y : X) → slice_get (list ++ None ∷ []) i ≡ Some (Some y) → slice_get list i ≡ Some (Some y)
none_added [] zero y e = absurd cc
none_added [] (suc i) y e = absurd cc
none_added (x ∷ list) zero y e = e
none_added (x ∷ list) (suc i) y e = none_added list i y e

-- scenes that come behind the others
module _ (plan : JobPlan) (fixed : Fixed) (k : ℕ) (scenes more : List Scene) where
  stands_more : (end : Result Scene Stop) (number : Result ℕ Stop) → StandsIn plan fixed.date (k + 1) scenes end number →
      StandsIn plan fixed.date (k + 1) (scenes ++ more) end number
  stands_more (Ok scene) (Ok n) h = scene_stays plan fixed.date (k + 1) scenes more scene n h
  stands_more (Ok scene) (Err stop) h = h
  stands_more (Err stop) (Ok n) h = h
  stands_more (Err stop) (Err other) h = h

  has_more : (step : StepPlan) (scene : Scene) (abend : Bool) (outcome : Outcome) (number : Result ℕ Stop) →
      HasPlaced plan fixed k scenes step scene abend outcome number → HasPlaced plan fixed k (scenes ++ more) step scene abend outcome number
  has_more step scene abend outcome number h = record { end = h.end; ended = h.ended; stands = stands_more h.end number h.stands }

  placed_more : (step : StepPlan) (scene : Scene) (abend : Bool) (it : Placed) → ArePlaced plan fixed k scenes step scene abend it →
      ArePlaced plan fixed k (scenes ++ more) step scene abend it
  placed_more step scene abend (placed.Refused stop) h = h
  placed_more step scene abend (placed.Ended made by_code by_abend) h =
      (h.0, has_more step scene abend _ by_code h.1, has_more step scene abend _ by_abend h.2)

  known_more : (before : List Scene) (known : Known) → AreKnown plan fixed k before scenes known → AreKnown plan fixed k before (scenes ++ more) known
  known_more before known h = record {
    idle = λ n scene number at there. scene_stays plan fixed.date (k + 1) scenes more scene number (h.idle n scene number at there);
    calm = λ n scene it at there step later is. placed_more step scene false it (h.calm n scene it at there step later is);
    abended = λ n scene it at there step later is. placed_more step scene true it (h.abended n scene it at there step later is);
  }

pub so_known_more : (plan : JobPlan) (fixed : Fixed) (part : ℕ) (from : Option Sight) (known : Known) (scenes more : List Scene) →
    IfSome from (λ s. (part ≡ s.part + 1) × AreKnown plan fixed s.part s.scenes scenes known) →
    IfSome from (λ s. (part ≡ s.part + 1) × AreKnown plan fixed s.part s.scenes (scenes ++ more) known)
so_known_more plan fixed part None known scenes more h = h
so_known_more plan fixed part (Some s) known scenes more h = (h.0, known_more plan fixed s.part scenes more s.scenes known h.1)

-- the step of a part is one
pub placed_at : (plan : JobPlan) (fixed : Fixed) (k : ℕ) (behind : List Scene) (step : StepPlan) (scene : Scene) (abend : Bool) (it : Placed) →
    IsStep plan k step → ArePlaced plan fixed k behind step scene abend it → IsPlacedAt plan fixed k behind scene abend it
placed_at plan fixed k behind step scene abend it is h other later at =
    subst (λ (s : StepPlan). ArePlaced plan fixed k behind s scene abend it) (ap (λ (l : List StepPlan). get_or l 0 step) (sym is.1 ∙ at)) h

-- what is noted is so
module _ (plan : JobPlan) (fixed : Fixed) (k : ℕ) (before behind : List Scene) (known : Known) (old : AreKnown plan fixed k before behind known) (n : ℕ) where
  pub idle_noted : (idle : Vec (Option ℕ) Global) (number : ℕ) →
      ((scene : Scene) → slice_get before n ≡ Some scene → HasScene plan fixed.date (k + 1) behind scene number) →
      HasPut known.idle.items idle.items n number → AreKnown plan fixed k before behind (record known { idle = idle })
  idle_noted idle number so put = record {
    idle = λ i scene m at there. elim (put i m there) [
      | inl h ↦ old.idle i scene m at h
      | inr h ↦ subst (HasScene plan fixed.date (k + 1) behind scene) (sym h.1) (so scene (ap (slice_get before) (sym h.0) ∙ at))
    ];
    calm = old.calm;
    abended = old.abended;
  }

  pub calm_noted : (calm : Vec (Option Placed) Global) (one : Placed) →
      ((scene : Scene) → slice_get before n ≡ Some scene → IsPlacedAt plan fixed k behind scene false one) →
      HasPut known.calm.items calm.items n one → AreKnown plan fixed k before behind (record known { calm = calm })
  calm_noted calm one so put = record {
    idle = old.idle;
    calm = λ i scene m at there. elim (put i m there) [
      | inl h ↦ old.calm i scene m at h
      | inr h ↦ subst (IsPlacedAt plan fixed k behind scene false) (sym h.1) (so scene (ap (slice_get before) (sym h.0) ∙ at))
    ];
    abended = old.abended;
  }

  pub abended_noted : (abended : Vec (Option Placed) Global) (one : Placed) →
      ((scene : Scene) → slice_get before n ≡ Some scene → IsPlacedAt plan fixed k behind scene true one) →
      HasPut known.abended.items abended.items n one → AreKnown plan fixed k before behind (record known { abended = abended })
  abended_noted abended one so put = record {
    idle = old.idle;
    calm = old.calm;
    abended = λ i scene m at there. elim (put i m there) [
      | inl h ↦ old.abended i scene m at h
      | inr h ↦ subst (IsPlacedAt plan fixed k behind scene true) (sym h.1) (so scene (ap (slice_get before) (sym h.0) ∙ at))
    ];
  }

-- what is known of a scene in front
pub placed_here : {R : Type 0} (plan : JobPlan) (fixed : Fixed) (k n : ℕ) (before scenes behind : List Scene) (sight from : Sight) (abend : Bool)
    (list : List (Option Placed)) (now : R → Placed) (o : Option R) → sight ≡ record { part = k; scenes = before } → sight ≡ from →
    ((m : ℕ) (scene : Scene) (it : Placed) → slice_get from.scenes m ≡ Some scene → slice_get list m ≡ Some (Some it) →
    IsPlacedAt plan fixed from.part scenes scene abend it) → scenes ≡ behind → IfSome o (λ r. slice_get list n ≡ Some (Some (now r))) →
    (b : Bool) → b ≡ abend → IfSome o (λ r. (scene : Scene) → slice_get before n ≡ Some scene → IsPlacedAt plan fixed k behind scene b (now r))
placed_here plan fixed k n before scenes behind sight from abend list now None told agreed all same h b is = tt
placed_here plan fixed k n before scenes behind sight from abend list now (Some r) told agreed all same h b is = λ scene at.
    let so : from ≡ record { part = k; scenes = before } = sym agreed ∙ told in
    subst (λ (x : Bool). IsPlacedAt plan fixed k behind scene x (now r)) (sym is)
    (subst (λ (l : List Scene). IsPlacedAt plan fixed k l scene abend (now r)) same
    (subst (λ (s : Sight). IsPlacedAt plan fixed s.part scenes scene abend (now r)) so
    (all n scene (now r) (ap (λ (s : Sight). slice_get s.scenes n) so ∙ at) h)))
