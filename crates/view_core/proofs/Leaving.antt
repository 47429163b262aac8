-- The job's end on a scene: its actions one by one, and what it comes to.
use Rattle.std.proofs.Common.{Bool, ◌≡◌, ◌++◌, ◌∷◌, ◌∙◌, ◌+◌, ◌<◌, ℕ, suc, List, [], Option, Some, None, take, drop, length, refl, sym, ap, subst, append_assoc, get_or, arith}
use Rattle.std.specs.Prelude.{slice_get}
use Rattle.std.proofs.lemmas.List.{append-nil, length-map, map-append}
use Rattle.jcl_plan.specs.declared.fault.Fault.{Fault}
use Rattle.jcl_plan.specs.declared.plan.DdPlan.{DdPlan}
use Rattle.jcl_plan.specs.declared.plan.JobPlan.{JobPlan}
use Rattle.jcl_plan.specs.declared.plan.StepPlan.{StepPlan}
use Rattle.jcl_meaning.specs.declared.store.SoloStore.{SoloStore}
use Rattle.jcl_meaning.specs.Acts.{act}
use Rattle.jcl_meaning.specs.Agendas.{Action, Left, Over, left_by, lefts_from, lefts_in}
use Rattle.jcl_meaning.specs.Names.{names_of}
use Rattle.jcl_meaning.specs.Solo.{Met, given, run}
use Rattle.jcl_meaning.specs.States.{Fixed, State}
use Rattle.jcl_meaning.specs.Stores.{store_of}
use Rattle.jcl_meaning.specs.Views.{View, view_at}
use Rattle.part_laws.specs.Fits.{Fits}
use Rattle.path_laws.proofs.Showing.{end_does}
use Rattle.path_laws.specs.PathParts.{part_from, path_part}
use Rattle.view_domain.specs.declared.crossed.Crossed.{Crossed}
use Rattle.view_domain.specs.declared.crossed.Crossed.TheVariants as crossed
use Rattle.view_domain.specs.declared.crossed.Stop.{Stop}
use Rattle.view_domain.specs.Crossings.{IsCrossed}
use Rattle.view_core.specs.declared.leave.LeftDd.{LeftDd}
use Rattle.view_core.specs.declared.scene.Scene.{Scene}
use Rattle.view_core.specs.declared.walk.Under.{Under}
use Rattle.view_core.specs.Legs.{EndsJob}
use Rattle.view_core.specs.Lefts.{LeavesAll, left_action, left_actions}
use Rattle.view_core.specs.PlainViews.{shown_so}
use Rattle.view_core.specs.Shows.{Shows}
use Rattle.view_core.specs.Legs.{EndsJob}
use Rattle.view_core.specs.Scenes.{IsBegun, state_on}
use Rattle.view_core.specs.Walks.{MeetsAt, RanTo, StopsAt, state_of}
use Rattle.view_core.proofs.Runs.{due_there, first_fault, front_length, front_more, front_split, meets_before, meets_behind, meets_first, none_append, run_append}
use Rattle.view_core.proofs.Shown.{begun_has, shows_scene}

-- the lists of actions, one longer
pub lefts_more : (step dd : ℕ) (xs : List DdPlan) (y : DdPlan) → lefts_in step dd (xs ++ y ∷ []) ≡ lefts_in step dd xs ++ left_by step (dd + length xs) y
lefts_more step dd [] y = append-nil (left_by step dd y) ∙ ap (λ (m : ℕ). left_by step m y) (let e : dd ≡ dd + 0 = omega arith in e)
lefts_more step dd (x ∷ xs) y =
    ap (λ (l : List Action). left_by step dd x ++ l) (lefts_more step (dd + 1) xs y)
    ∙ sym (append_assoc (left_by step dd x) (lefts_in step (dd + 1) xs) (left_by step (dd + 1 + length xs) y))
    ∙ ap (λ (m : ℕ). (left_by step dd x ++ lefts_in step (dd + 1) xs) ++ left_by step m y)
    (let e : dd + 1 + length xs ≡ dd + suc (length xs) = omega arith in e)

pub from_more : (n : ℕ) (xs : List StepPlan) (s : StepPlan) → lefts_from n (xs ++ s ∷ []) ≡ lefts_from n xs ++ lefts_in (n + length xs) 1 s.dds
from_more n [] s = append-nil (lefts_in n 1 s.dds) ∙ ap (λ (m : ℕ). lefts_in m 1 s.dds) (let e : n ≡ n + 0 = omega arith in e)
from_more n (x ∷ xs) s =
    ap (λ (l : List Action). lefts_in n 1 x.dds ++ l) (from_more (n + 1) xs s)
    ∙ sym (append_assoc (lefts_in n 1 x.dds) (lefts_from (n + 1) xs) (lefts_in (n + 1 + length xs) 1 s.dds))
    ∙ ap (λ (m : ℕ). (lefts_in n 1 x.dds ++ lefts_from (n + 1) xs) ++ lefts_in m 1 s.dds)
    (let e : n + 1 + length xs ≡ n + suc (length xs) = omega arith in e)

-- one DD more is put among them
pub pushed : (lefts : List LeftDd) (l : LeftDd) → left_actions (lefts ++ l ∷ []) ≡ left_actions lefts ++ left_action l ∷ []
pushed lefts l = map-append left_action lefts (l ∷ [])

-- one is dealt with, behind so many
module _ (fixed : Fixed) (i : ℕ) (lefts : List LeftDd) (l : LeftDd) (s t : State) where
  front : i < length lefts → l ≡ get_or lefts i l → left_actions (take (i + 1) lefts) ≡ left_actions (take i lefts) ++ left_action l ∷ []
  front below is = ap left_actions (front_more lefts i l below is) ∙ pushed (take i lefts) l

  pub leaves_more : i < length lefts → l ≡ get_or lefts i l → (u : State) → RanTo (run fixed (left_actions (take i lefts)) s) t [] →
      RanTo (run fixed (left_action l ∷ []) t) u [] → RanTo (run fixed (left_actions (take (i + 1) lefts)) s) u []
  leaves_more below is u p q =
      subst (λ (actions : List Action). RanTo (run fixed actions s) u []) (sym (front below is))
      (run_append fixed (left_actions (take i lefts)) (left_action l ∷ []) s t u [] [] p q)

  pub leaves_meet : i < length lefts → l ≡ get_or lefts i l → (fault : Fault) → RanTo (run fixed (left_actions (take i lefts)) s) t [] →
      (act fixed (left_action l) t).meets ≡ Some fault → MeetsAt fixed (left_actions lefts) s i (left_action l) fault
  leaves_meet below is fault p q =
      subst (λ (actions : List Action). MeetsAt fixed actions s i (left_action l) fault) (sym whole)
      (subst (λ (place : ℕ). MeetsAt fixed (left_actions (take i lefts) ++ left_action l ∷ left_actions (drop (suc i) lefts)) s place (left_action l) fault) number
      (meets_behind fixed (left_actions (take i lefts)) (left_action l ∷ left_actions (drop (suc i) lefts)) s t [] 0 (left_action l) fault p
      (meets_first fixed (left_action l) (left_actions (drop (suc i) lefts)) t fault q)))
    where
      number : length (left_actions (take i lefts)) + 0 ≡ i
      number = let e : length (left_actions (take i lefts)) ≡ length (take i lefts) = length-map (take i lefts) left_action in
          let f : length (take i lefts) ≡ i = front_length lefts i below in omega (arith, e, f)

      whole : left_actions lefts ≡ left_actions (take i lefts) ++ left_action l ∷ left_actions (drop (suc i) lefts)
      whole = ap left_actions (front_split lefts i l below is) ∙ map-append left_action (take i lefts) (l ∷ drop (suc i) lefts)

-- the job's end writes its line, and meets no fault
over_meets : (fixed : Fixed) (s : State) → (run fixed (Over ∷ []) s).faults ≡ []
unfolding run act
over_meets fixed s = refl

module _ {V : Type 0} (meaning : V → View) (plan : JobPlan) (fixed : Fixed) (k : ℕ) (none : drop k plan.steps ≡ []) (v : Shows) (u : Under)
    (same : u.store ≡ v.scene.store) (begun : IsBegun v.scene v.abended u.course.own) (lefts : List LeftDd)
    (these : left_actions lefts ≡ lefts_from 1 plan.steps) where
  abbrev here : View
  here = shown_so plan fixed.date k v

  abbrev on : State
  on = state_on v.scene u.course.own []

  on_scene : state_of u (given []) ≡ on
  on_scene = ap (λ (s : SoloStore). record { store = store_of s; own = u.course.own; answers = given [] }) same

  part_is : path_part plan k ≡ left_actions lefts ++ Over ∷ []
  part_is = ap (part_from k plan.steps) none ∙ ap (λ (l : List Action). l ++ Over ∷ []) (sym these)

  faults_are : (s : State) (rest : List Action) → here ≡ view_at plan k fixed.date s → Fits (names_of plan) fixed.meanings (path_part plan k ++ rest) s.own →
      (run fixed (path_part plan k) s).faults ≡ (run fixed (left_actions lefts ++ Over ∷ []) on).faults
  faults_are s rest seen fits =
      end_does plan fixed k rest s on none
      (shows_scene plan fixed.date k s v.scene v.abended v.met seen on (begun_has v.scene v.abended u.course.own [] begun) begun.abended) fits
      ∙ ap (λ (l : List Action). (run fixed l on).faults) part_is

  crossed_end : (new : Under) → LeavesAll fixed (length plan.steps) lefts u None new → (there : List View) →
      IsCrossed meaning plan fixed k there here crossed.Ends
  crossed_end new leaves there = record {
    covered = λ s outcomes rest seen before within fits. (
      none,
      faults_are s rest seen fits
          ∙ none_append fixed (left_actions lefts) (Over ∷ []) on
          (subst (λ (t : State). (run fixed (left_actions lefts) t).faults ≡ []) on_scene (leaves (given [])).faults)
          (over_meets fixed (run fixed (left_actions lefts) on).state),
    );
    founded = tt;
  }

  crossed_stop : (stop : Stop) (new : Under) → LeavesAll fixed (length plan.steps) lefts u (Some stop) new → (there : List View) →
      IsCrossed meaning plan fixed k there here (crossed.Stops stop)
  crossed_stop stop new leaves there =
      let stops : StopsAt fixed Left (left_actions lefts) (state_of u (given [])) stop.at stop = leaves.1 (given []) in
      let action : Action = Left stop.step stop.dd stops.plan in
      let meets : MeetsAt fixed (left_actions lefts ++ Over ∷ []) on stop.at action stop.fault =
      meets_before fixed (left_actions lefts) (Over ∷ []) on stop.at action stop.fault
      (subst (λ (t : State). MeetsAt fixed (left_actions lefts) t stop.at action stop.fault) on_scene stops.meets) in
      let first : (more : List Met) × ((run fixed (left_actions lefts ++ Over ∷ []) on).faults ≡ record { place = stop.at; fault = stop.fault } ∷ more) =
      first_fault fixed (left_actions lefts ++ Over ∷ []) on stop.at action stop.fault meets in
      record {
        covered = λ s outcomes rest seen before within fits. record {
          behind = first.0;
          first = faults_are s rest seen fits ∙ first.1;
          action = action;
          due = ap (λ (l : List Action). slice_get l stop.at) part_is
              ∙ due_there fixed (left_actions lefts ++ Over ∷ []) on stop.at action stop.fault meets;
          at = ap (λ (n : ℕ). Some (record { step = stop.step; dd = stop.dd; ended = n })) (sym leaves.0);
        };
        founded = tt;
      }

abbrev pub end_told : {V : Type 0} → Option Stop → Crossed V
end_told None = crossed.Ends
end_told (Some stop) = crossed.Stops stop

pub crossed_at_end : {V : Type 0} (meaning : V → View) (plan : JobPlan) (fixed : Fixed) (k : ℕ) → drop k plan.steps ≡ [] → (v : Shows) (stop : Option Stop) →
    EndsJob fixed plan v.scene v.abended stop → (there : List View) →
    IsCrossed meaning plan fixed k there (shown_so plan fixed.date k v) (end_told stop)
crossed_at_end meaning plan fixed k none v None h there =
    crossed_end meaning plan fixed k none v h.old h.store h.begun h.lefts h.these h.new h.leaves there
crossed_at_end meaning plan fixed k none v (Some stop) h there =
    crossed_stop meaning plan fixed k none v h.old h.store h.begun h.lefts h.these stop h.new h.leaves there

-- the same of what is known to be the same
pub left_as : (fixed : Fixed) (m n : ℕ) (ls ks : List LeftDd) (u v : Under) (a b : Option Stop) → m ≡ n → ls ≡ ks → a ≡ b →
    LeavesAll fixed m ls u a v → LeavesAll fixed n ks u b v
left_as fixed m n ls ks u v a b p q r h =
    subst (λ (x : Option Stop). LeavesAll fixed n ks u x v) r
    (subst (λ (x : List LeftDd). LeavesAll fixed n x u a v) q (subst (λ (x : ℕ). LeavesAll fixed x ls u a v) p h))

pub ended_as : (fixed : Fixed) (plan : JobPlan) (a b : Scene) (abend : Bool) (x y : Option Stop) → a ≡ b → x ≡ y → EndsJob fixed plan a abend x →
    EndsJob fixed plan b abend y
ended_as fixed plan a b abend x y p q h = subst (λ (o : Option Stop). EndsJob fixed plan b abend o) q (subst (λ (s : Scene). EndsJob fixed plan s abend x) p h)
