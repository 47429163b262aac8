-- What the check of a path finds is that it is taken.
use Rattle.std.proofs.Common.{◌≡◌, ◌&&◌, ℕ, zero, suc, Bool, true, false, List, [], ◌∷◌, Option, Some, None, length, map, take, refl, sym, ap, ◌∙◌, subst}
use Rattle.std.specs.Prelude.{◌↔◌, Any, IsTrue, slice_get}
use Rattle.std.specs.List.{Contains}
use Rattle.std.proofs.lemmas.Bool.{and_parts, eq-eqb, eqb-true}
use Rattle.std.proofs.lemmas.Option.{get_or_from_slice_get}
use Rattle.jcl_plan.specs.declared.fault.Fault.{Fault}
use Rattle.jcl_plan.specs.declared.outcome.Fate.{Fate}
use Rattle.jcl_plan.specs.declared.outcome.Outcome.{Outcome}
use Rattle.jcl_plan.specs.declared.plan.JobPlan.{JobPlan}
use Rattle.jcl_meaning.specs.Agendas.{Action, path_agenda}
use Rattle.jcl_meaning.specs.declared.state.Place.{Place}
use Rattle.jcl_meaning.specs.declared.store.SoloStore.{SoloStore}
use Rattle.jcl_meaning.specs.Solo.{Met, Ran, fixed_alone, solo_path_of}
use Rattle.jcl_meaning.specs.States.{Fixed}
use Rattle.jcl_meaning.specs.Stores.{Store, store_of}
use Rattle.path_meaning.specs.Certificates.{AreOfFates, TakesPath}
use Rattle.path_meaning.specs.Paths.{FaultPlace, fates_in, fault_place}
use Rattle.solo_core.specs.declared.path.MetFault.{MetFault}
use Rattle.solo_core.specs.Meets.{met_of}
use Rattle.path_core.specs.Marks.{is_at, is_place, mark_at}
use Rattle.path_core.specs.MarksMet.{IsMetBy}
use Rattle.path_core.proofs.Members.{contains_map, image_of}

-- a marked action
action_marked : (f : Action → Bool) (actions : List Action) (place : ℕ) → mark_at (map f actions) place ≡ true →
    (action : Action) × (slice_get actions place ≡ Some action) × (f action ≡ true)
action_marked f [] place e = absurd cc
action_marked f (a ∷ actions) zero e = (a, refl, e)
action_marked f (a ∷ actions) (suc n) e = action_marked f actions n e

mark_of : (f : Action → Bool) (actions : List Action) (place : ℕ) (action : Action) → slice_get actions place ≡ Some action → f action ≡ true →
    mark_at (map f actions) place ≡ true
mark_of f [] place action e h = absurd cc
mark_of f (a ∷ actions) zero action e h = let same : a ≡ action = cc in ap f same ∙ h
mark_of f (a ∷ actions) (suc n) action e h = mark_of f actions n action e h

place_is : (w : FaultPlace) (o : Option FaultPlace) → is_place w o ≡ true → o ≡ Some w
place_is w None e = absurd cc
place_is w (Some p) e =
    let first = and_parts _ _ e in
    let second = and_parts _ _ first.0 in
    let step : w.step ≡ p.step = eqb-true w.step p.step second.0 in
    let dd : w.dd ≡ p.dd = eqb-true w.dd p.dd second.1 in
    let ended : w.ended ≡ p.ended = eqb-true w.ended p.ended first.1 in
    λ i. Some (record { step = sym step i; dd = sym dd i; ended = sym ended i })

is_its_place : (w : FaultPlace) → is_place w (Some w) ≡ true
is_its_place w = λ i. eq-eqb w.step w.step refl i && eq-eqb w.dd w.dd refl i && eq-eqb w.ended w.ended refl i

-- the same run
pub same_ran : (start : SoloStore) (plan : JobPlan) (date : ℕ) (places others : List Place) (os ps : List Outcome) → places ≡ others → os ≡ ps →
    solo_path_of (fixed_alone start plan places date) plan (store_of start) os ≡ solo_path_of (fixed_alone start plan others date) plan (store_of start) ps
same_ran start plan date places others os ps p q = λ i. solo_path_of (fixed_alone start plan (p i) date) plan (store_of start) (q i)

module _ (fixed : Fixed) (plan : JobPlan) (store : Store) (fault : Fault) (step dd : ℕ) (path : List Outcome) where
  abbrev Taken : Type 0
  Taken = TakesPath fixed plan store fault step dd path

  abbrev ran : Ran
  ran = solo_path_of fixed plan store path

  abbrev wanted : FaultPlace
  wanted = record { step = step; dd = dd; ended = length path }

  abbrev marked : List Bool
  marked = map (is_at (length plan.steps) wanted) (path_agenda plan)

  abbrev OfFates : List Fate → List Outcome → Type 0
  OfFates fates os = AreOfFates (take (length os) fates) os

  pub refused : (os : List Outcome) (fates : List Fate) (b : Bool) → os ≡ path → fates ≡ fates_in ran.lines → (IsTrue b ↔ OfFates fates os) → b ≡ false →
      (IsTrue false ↔ Taken)
  refused os fates b same told decides refuted = (
    λ founded. absurd cc,
    λ taken. let held : b ≡ true = decides.1 (subst (λ fs. OfFates fs os) (sym told) (subst (OfFates (fates_in ran.lines)) (sym same) taken.fates)) in absurd cc,
  )

  found : (fates : AreOfFates (take (length path) (fates_in ran.lines)) path) (faults : List MetFault) → map met_of faults ≡ ran.faults →
      Any (λ met. IsMetBy met fault marked) faults → Taken
  found fates faults its (k, met, less, is, by) =
      let there = action_marked (is_at (length plan.steps) wanted) (path_agenda plan) met.place by.1 in
      record {
        place = met.place;
        action = there.0;
        due = there.1;
        at = place_is wanted (fault_place (length plan.steps) there.0) there.2;
        fates = fates;
        met = subst (λ (f : Fault). Contains ran.faults (record { place = met.place; fault = f })) by.0
            (subst (λ (ms : List Met). Contains ms (met_of met)) its (contains_map met_of faults met (k, less, is)));
      }

  meets : (faults : List MetFault) → map met_of faults ≡ ran.faults → Taken → Any (λ met. IsMetBy met fault marked) faults
  meets faults its taken =
      let image = image_of met_of faults (record { place = taken.place; fault = fault })
      (subst (λ (ms : List Met). Contains ms (record { place = taken.place; fault = fault })) (sym its) taken.met) in
      let place : image.from.place ≡ taken.place = ap (λ (m : Met). m.place) image.is in
      let same : image.from.fault ≡ fault = ap (λ (m : Met). m.fault) image.is in (
        image.number,
        image.from,
        image.less,
        get_or_from_slice_get faults image.number image.from image.from image.there,
        (
          same,
          ap (mark_at marked) place
              ∙ mark_of (is_at (length plan.steps) wanted) (path_agenda plan) taken.place taken.action taken.due
              (ap (is_place wanted) taken.at ∙ is_its_place wanted),
        ),
      )

  pub decided : (os : List Outcome) (fates : List Fate) (b : Bool) (marks : List Bool) (ended : ℕ) (faults : List MetFault) (answer : Bool) → os ≡ path →
      fates ≡ fates_in ran.lines → (IsTrue b ↔ OfFates fates os) → b ≡ true → ended ≡ length path →
      marks ≡ map (is_at (length plan.steps) (record { step = step; dd = dd; ended = ended })) (path_agenda plan) → map met_of faults ≡ ran.faults →
      (IsTrue answer ↔ Any (λ met. IsMetBy met fault marks) faults) → (IsTrue answer ↔ Taken)
  decided os fates b marks ended faults answer same told decides is size marked_so its any =
      let right : marks ≡ marked =
      marked_so ∙ ap (λ n. map (is_at (length plan.steps) (record { step = step; dd = dd; ended = n })) (path_agenda plan)) size in (
        λ e. found (subst (λ os. AreOfFates (take (length os) (fates_in ran.lines)) os) same (subst (λ fs. OfFates fs os) told (decides.0 is))) faults its
            (subst (λ ms. Any (λ met. IsMetBy met fault ms) faults) right (any.0 e)),
        λ taken. any.1 (subst (λ ms. Any (λ met. IsMetBy met fault ms) faults) (sym right) (meets faults its taken)),
      )
