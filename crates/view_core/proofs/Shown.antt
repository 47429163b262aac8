-- What a state shows of a job is what a scene shows, part by part.
use Rattle.std.proofs.Common.{◌≡◌, ◌∷◌, ◌∙◌, ℕ, Bool, false, List, [], Option, None, take, drop, length, refl, sym, ap, subst, map}
use Rattle.std.specs.Prelude.{if◌then◌else◌, replicate}
use Rattle.std.proofs.lemmas.List.{append-nil}
use Rattle.jname_core.specs.declared.key.Key.{Key}
use Rattle.jcl_plan.specs.declared.outcome.Outcome.{Outcome}
use Rattle.jcl_plan.specs.declared.plan.JobPlan.{JobPlan}
use Rattle.jcl_plan.specs.declared.plan.StepPlan.{StepPlan}
use Rattle.jcl_plan.specs.declared.plan.Test.{Test}
use Rattle.jcl_meaning.specs.declared.state.DdVolume.{DdVolume}
use Rattle.jcl_meaning.specs.declared.state.Own.{Own}
use Rattle.jcl_meaning.specs.declared.store.SoloStore.{SoloStore}
use Rattle.jcl_meaning.specs.History.{abended, fate_of, satisfied, some_satisfied}
use Rattle.jcl_meaning.specs.Names.{names_of}
use Rattle.jcl_meaning.specs.Parts.{part_of}
use Rattle.jcl_meaning.specs.Solo.{at_start, given}
use Rattle.jcl_meaning.specs.States.{Fixed, State}
use Rattle.jcl_meaning.specs.Stores.{Store, store_of}
use Rattle.jcl_meaning.specs.TakeActs.{fate_at}
use Rattle.jcl_meaning.specs.Takes.{dd_volume}
use Rattle.jcl_meaning.specs.Views.{View, shown_set, steps_refer, view_at}
use Rattle.path_laws.specs.Steps.{HasStarted, ShowTheSame}
use Rattle.path_laws.specs.PathParts.{IsBefore}
use Rattle.view_core.specs.declared.scene.Scene.{Scene}
use Rattle.view_core.specs.Bits.{fate_shown, kept_tests, some_met}
use Rattle.view_core.specs.PlainViews.{shown_parts, shown_so}
use Rattle.view_core.specs.Shows.{Shows}
use Rattle.view_core.specs.Scenes.{IsBegun, state_on}
use Rattle.view_core.proofs.TestBits.{AreBits, bits_shown, job_bits, own_bits, shown_bits, some_bit}

-- a state that has a scene's store, passed sets and volumes
pub record HasScene (scene : Scene) (s : State) : Type 0 where
  pub store : s.store ≡ store_of scene.store
  pub passed : s.own.passed ≡ scene.passed
  pub volumes : s.own.volumes ≡ scene.volumes

module _ (plan : JobPlan) (date k : ℕ) where
  abbrev sets_in : Store → Key → List ℕ → Option Bool
  sets_in store = λ key serial. shown_set ((part_of (names_of plan) store).set key serial) date

  abbrev volumes_in : List DdVolume → ℕ → ℕ → Option (List ℕ)
  volumes_in volumes = λ step dd. if steps_refer (drop k plan.steps) step dd then dd_volume volumes step dd else None

  abbrev later : List StepPlan
  later = drop k plan.steps

  -- two states that show the same, of which one has the scene
  pub shown_as : (s t : State) (scene : Scene) (abend : Bool) (bits : List Bool) → ShowTheSame plan date k s t → HasScene scene t →
      abended s.own.ended ≡ abend → AreBits (satisfied s.own.ended) plan.tests.items later bits →
      view_at plan k date s ≡ shown_parts plan date k scene abend bits
  shown_as s t scene abend bits h has came met = λ i. record {
    sets = (h.sets ∙ ap sets_in has.store) i;
    catalog = (h.catalog ∙ ap (λ (store : Store). (part_of (names_of plan) store).catalog) has.store) i;
    passed = (h.passed ∙ has.passed) i;
    volumes = (h.volumes ∙ ap volumes_in has.volumes) i;
    abended = came i;
    job_tests = sym (job_bits (satisfied s.own.ended) plan.tests.items later bits met) i;
    step_tests = sym (shown_bits (satisfied s.own.ended) plan.tests.items later bits met) i;
  }

  pub same_state : (s : State) → ShowTheSame plan date k s s
  same_state s = record { sets = refl; catalog = refl; passed = refl; volumes = refl; abended = refl }

  -- a state with the view of a scene
  module _ (s : State) (scene : Scene) (abend : Bool) (bits : List Bool) (same : shown_parts plan date k scene abend bits ≡ view_at plan k date s) where
    pub met_bits : AreBits (satisfied s.own.ended) plan.tests.items later bits
    met_bits = bits_shown (satisfied s.own.ended) plan.tests.items later bits (ap (λ (v : View). v.job_tests) same) (ap (λ (v : View). v.step_tests) same)

    pub came_abend : abended s.own.ended ≡ abend
    came_abend = sym (ap (λ (v : View). v.abended) same)

    pub shows_scene : (t : State) → HasScene scene t → abended t.own.ended ≡ abend → ShowTheSame plan date k s t
    shows_scene t has came = record {
      sets = sym (ap (λ (v : View). v.sets) same) ∙ sym (ap sets_in has.store);
      catalog = sym (ap (λ (v : View). v.catalog) same) ∙ sym (ap (λ (store : Store). (part_of (names_of plan) store).catalog) has.store);
      passed = sym (ap (λ (v : View). v.passed) same) ∙ sym has.passed;
      volumes = sym (ap (λ (v : View). v.volumes) same) ∙ sym (ap volumes_in has.volumes);
      abended = sym (ap (λ (v : View). v.abended) same) ∙ sym came;
    }

-- A state of the job whose step begins to run on a scene has the scene.
pub begun_has : (scene : Scene) (abend : Bool) (own : Own) (outcomes : List Outcome) → IsBegun scene abend own → HasScene scene (state_on scene own outcomes)
begun_has scene abend own outcomes h = record { store = refl; passed = h.passed; volumes = h.volumes }

pub begun_started : (scene : Scene) (abend : Bool) (own : Own) (outcomes : List Outcome) → IsBegun scene abend own →
    HasStarted (state_on scene own outcomes) outcomes
begun_started scene abend own outcomes h = record { runs = h.runs; unended = h.unended; none_taken = h.none_taken; answers = refl }

-- and what is shown the same from one to the other
pub shown_on : (plan : JobPlan) (date k : ℕ) (s t u : State) → ShowTheSame plan date k s t → ShowTheSame plan date k s u → ShowTheSame plan date k t u
shown_on plan date k s t u p q = record {
  sets = sym p.sets ∙ q.sets;
  catalog = sym p.catalog ∙ q.catalog;
  passed = sym p.passed ∙ q.passed;
  volumes = sym p.volumes ∙ q.volumes;
  abended = sym p.abended ∙ q.abended;
}

-- a step's fate, by what is shown before it
module _ (plan : JobPlan) (fixed : Fixed) (k : ℕ) (step : StepPlan) (after : List StepPlan) (is : drop k plan.steps ≡ step ∷ after)
    (job_tests : fixed.job_tests ≡ plan.tests.items) (v : Shows) (s : State) (outcomes : List Outcome) where
  pub fate_is : shown_so plan fixed.date k v ≡ view_at plan k fixed.date s → IsBefore s outcomes →
      fate_at fixed step s.own ≡ fate_shown (length plan.tests.items) step v
  fate_is same before =
      let met : AreBits (satisfied s.own.ended) plan.tests.items (step ∷ after) v.met =
      subst (λ (steps : List StepPlan). AreBits (satisfied s.own.ended) plan.tests.items steps v.met) is
      (met_bits plan fixed.date k s v.scene v.abended v.met same) in
      let job : some_satisfied s.own.ended fixed.job_tests ≡ some_met (take (length plan.tests.items) v.met) =
      ap (some_satisfied s.own.ended) job_tests ∙ sym (some_bit (satisfied s.own.ended) plan.tests.items)
      ∙ ap some_met (sym (job_bits (satisfied s.own.ended) plan.tests.items (step ∷ after) v.met met)) in
      let own : some_satisfied s.own.ended step.tests.items ≡ some_met (take (length step.tests.items) (drop (length plan.tests.items) v.met)) =
      sym (some_bit (satisfied s.own.ended) step.tests.items)
      ∙ ap some_met (sym (own_bits (satisfied s.own.ended) plan.tests.items step after v.met met)) in
      λ i. fate_of (before.unfaulted i) (job i) step.after_abend (came_abend plan fixed.date k s v.scene v.abended v.met same i) (own i)

-- before the first step no test is met
pub none_met : (tests : List Test) → map (satisfied []) tests ≡ replicate (length tests) false
none_met [] = refl
none_met (t ∷ tests) = ap (λ (l : List Bool). false ∷ l) (none_met tests)

pub shown_first : (plan : JobPlan) (date : ℕ) (store : SoloStore) (scene : Scene) (bits : List Bool) → store_of scene.store ≡ store_of store → scene.passed ≡ [] →
    scene.volumes ≡ [] → bits ≡ replicate (length (kept_tests plan.tests.items plan.steps)) false →
    shown_parts plan date 0 scene false bits ≡ view_at plan 0 date (at_start (store_of store) (given []))
shown_first plan date store scene bits same passed volumes met =
    let s : State = at_start (store_of store) (given []) in
    sym (shown_as plan date 0 s s scene false bits (same_state plan date 0 s)
    (record { store = sym same; passed = sym passed; volumes = sym volumes }) refl
    ([], met ∙ sym (none_met (kept_tests plan.tests.items plan.steps)) ∙ sym (append-nil (map (satisfied []) (kept_tests plan.tests.items plan.steps)))))
