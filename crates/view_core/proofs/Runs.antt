-- Actions carried out one after another, up to the first fault.
use Rattle.std.proofs.Common.{◌≡◌, ◌+◌, ◌-◌, ◌++◌, ◌∷◌, ◌<◌, ℕ, suc, Bool, true, false, cond, List, [], Option, Some, None, length, map, take, drop, get_or, refl, sym, ap, ◌∙◌, subst, append_assoc, arith, drop-cons}
use Rattle.std.specs.Prelude.{slice_get}
use Rattle.std.proofs.lemmas.List.{append-nil, length-append, length-take-le, take-append-drop, take_more}
use Rattle.jcl_plan.specs.declared.fault.Fault.{Fault}
use Rattle.jcl_plan.specs.declared.outcome.Outcome.{Outcome}
use Rattle.jcl_plan.specs.declared.plan.DdKind.{DdKind}
use Rattle.jcl_plan.specs.declared.plan.DdKind.TheVariants.{Cards, Dummy, Set, Sysout}
use Rattle.jcl_plan.specs.declared.plan.DdPlan.{DdPlan}
use Rattle.jcl_plan.specs.declared.plan.SetPlan.{SetPlan}
use Rattle.jcl_meaning.specs.declared.state.DdState.{DdState}
use Rattle.jcl_meaning.specs.declared.state.Own.{Own}
use Rattle.jcl_meaning.specs.declared.state.Place.{Place}
use Rattle.jcl_meaning.specs.declared.state.Resolution.{Resolution}
use Rattle.jcl_meaning.specs.declared.state.Resolution.TheVariants.{Fails, Means}
use Rattle.jcl_meaning.specs.declared.state.TakenSet.{TakenSet}
use Rattle.jcl_meaning.specs.Acts.{act}
use Rattle.jcl_meaning.specs.Agendas.{Action, Dispose, Finish, Take, disposes_from, takes_from}
use Rattle.jcl_meaning.specs.EndActs.{disposes, disposes_at, finishes, set_disposes}
use Rattle.jcl_meaning.specs.Resolutions.{meaning_at}
use Rattle.jcl_meaning.specs.Solo.{Met, later, met_first, run}
use Rattle.jcl_meaning.specs.States.{Done, Fixed, State, cancel_due, if_runs}
use Rattle.jcl_meaning.specs.Stores.{Store}
use Rattle.jcl_meaning.specs.Takes.{looked_at}
use Rattle.disp_core.specs.Grants.{granted_by, granted_on, primary_granted}
use Rattle.disp_core.specs.Takings.{target_in}
use Rattle.view_core.specs.Walks.{MeetsAt, RanTo}

-- no fault at all is none first and none later
none_first : (m : Option Fault) (faults : List Met) → met_first m (map later faults) ≡ [] → (m ≡ None) × (faults ≡ [])
none_first None [] h = (refl, refl)
none_first None (x ∷ xs) h = absurd cc
none_first (Some fault) faults h = absurd cc

module _ (fixed : Fixed) where
  pub run_nothing : (s : State) → RanTo (run fixed [] s) s []
  unfolding run
  run_nothing s = record { faults = refl; state = refl; made = refl }

  pub run_one : (a : Action) (s t : State) (made : List Place) → (act fixed a s).state ≡ t → (act fixed a s).meets ≡ None → (act fixed a s).made ≡ made →
      RanTo (run fixed (a ∷ []) s) t made
  unfolding run
  run_one a s t made state meets makes = record {
    faults = ap (λ (m : Option Fault). met_first m []) meets;
    state = state;
    made = append-nil (act fixed a s).made ∙ makes;
  }

  -- these actions, and then those
  pub state_append : (xs ys : List Action) (s : State) → (run fixed (xs ++ ys) s).state ≡ (run fixed ys (run fixed xs s).state).state
  unfolding run
  state_append [] ys s = refl
  state_append (x ∷ xs) ys s = state_append xs ys (act fixed x s).state

  pub made_append : (xs ys : List Action) (s : State) → (run fixed (xs ++ ys) s).made ≡ (run fixed xs s).made ++ (run fixed ys (run fixed xs s).state).made
  unfolding run
  made_append [] ys s = refl
  made_append (x ∷ xs) ys s =
      ap (λ (l : List Place). (act fixed x s).made ++ l) (made_append xs ys (act fixed x s).state)
      ∙ sym (append_assoc (act fixed x s).made (run fixed xs (act fixed x s).state).made (run fixed ys (run fixed xs (act fixed x s).state).state).made)

  pub none_append : (xs ys : List Action) (s : State) → (run fixed xs s).faults ≡ [] → (run fixed ys (run fixed xs s).state).faults ≡ [] →
      (run fixed (xs ++ ys) s).faults ≡ []
  unfolding run
  none_append [] ys s p q = q
  none_append (x ∷ xs) ys s p q =
      let both : ((act fixed x s).meets ≡ None) × ((run fixed xs (act fixed x s).state).faults ≡ []) =
      none_first (act fixed x s).meets (run fixed xs (act fixed x s).state).faults p in
      λ i. met_first (both.0 i) (map later (none_append xs ys (act fixed x s).state both.1 q i))

  pub run_append : (xs ys : List Action) (s t u : State) (a b : List Place) → RanTo (run fixed xs s) t a → RanTo (run fixed ys t) u b →
      RanTo (run fixed (xs ++ ys) s) u (a ++ b)
  run_append xs ys s t u a b p q = record {
    faults = none_append xs ys s p.faults (subst (λ (v : State). (run fixed ys v).faults ≡ []) (sym p.state) q.faults);
    state = state_append xs ys s ∙ ap (λ (v : State). (run fixed ys v).state) p.state ∙ q.state;
    made = made_append xs ys s ∙ (λ i. p.made i ++ (run fixed ys (p.state i)).made) ∙ ap (λ (l : List Place). a ++ l) q.made;
  }

  -- a fault of the first action
  pub meets_first : (a : Action) (ys : List Action) (s : State) (fault : Fault) → (act fixed a s).meets ≡ Some fault → MeetsAt fixed (a ∷ ys) s 0 a fault
  unfolding run
  meets_first a ys s fault h = record { before = []; after = ys; these = refl; at = refl; none_before = refl; meets = h }

  -- a fault behind these actions, and before those
  pub meets_behind : (xs ys : List Action) (s t : State) (made : List Place) (place : ℕ) (a : Action) (fault : Fault) → RanTo (run fixed xs s) t made →
      MeetsAt fixed ys t place a fault → MeetsAt fixed (xs ++ ys) s (length xs + place) a fault
  meets_behind xs ys s t made place a fault p q = record {
    before = xs ++ q.before;
    after = q.after;
    these = ap (λ (l : List Action). xs ++ l) q.these ∙ sym (append_assoc xs q.before (a ∷ q.after));
    at = length-append xs q.before ∙ ap (λ (n : ℕ). length xs + n) q.at;
    none_before = none_append xs q.before s p.faults (subst (λ (v : State). (run fixed q.before v).faults ≡ []) (sym p.state) q.none_before);
    meets = subst (λ (v : State). (act fixed a v).meets ≡ Some fault) (sym (state_append xs q.before s ∙ ap (λ (v : State). (run fixed q.before v).state) p.state)) q.meets;
  }

  pub meets_before : (xs ys : List Action) (s : State) (place : ℕ) (a : Action) (fault : Fault) →
      MeetsAt fixed xs s place a fault → MeetsAt fixed (xs ++ ys) s place a fault
  meets_before xs ys s place a fault q = record {
    before = q.before;
    after = q.after ++ ys;
    these = ap (λ (l : List Action). l ++ ys) q.these ∙ append_assoc q.before (a ∷ q.after) ys;
    at = q.at;
    none_before = q.none_before;
    meets = q.meets;
  }

  -- it comes first of all faults
  fault_comes : (xs ys : List Action) (s : State) (a : Action) (fault : Fault) → (run fixed xs s).faults ≡ [] →
      (act fixed a (run fixed xs s).state).meets ≡ Some fault →
      (behind : List Met) × ((run fixed (xs ++ a ∷ ys) s).faults ≡ record { place = length xs; fault = fault } ∷ behind)
  unfolding run
  fault_comes [] ys s a fault none meets =
      (map later (run fixed ys (act fixed a s).state).faults, ap (λ (m : Option Fault). met_first m (map later (run fixed ys (act fixed a s).state).faults)) meets)
  fault_comes (x ∷ xs) ys s a fault none meets =
      let both : ((act fixed x s).meets ≡ None) × ((run fixed xs (act fixed x s).state).faults ≡ []) =
      none_first (act fixed x s).meets (run fixed xs (act fixed x s).state).faults none in
      let more : (behind : List Met) × ((run fixed (xs ++ a ∷ ys) (act fixed x s).state).faults ≡ record { place = length xs; fault = fault } ∷ behind) =
      fault_comes xs ys (act fixed x s).state a fault both.1 meets in
      (map later more.0, λ i. met_first (both.0 i) (map later (more.1 i)))

  pub first_fault : (actions : List Action) (s : State) (place : ℕ) (a : Action) (fault : Fault) → MeetsAt fixed actions s place a fault →
      (behind : List Met) × ((run fixed actions s).faults ≡ record { place = place; fault = fault } ∷ behind)
  first_fault actions s place a fault h =
      let comes : (behind : List Met) × ((run fixed (h.before ++ a ∷ h.after) s).faults ≡ record { place = length h.before; fault = fault } ∷ behind) =
      fault_comes h.before h.after s a fault h.none_before h.meets in
      (comes.0, ap (λ (l : List Action). (run fixed l s).faults) h.these ∙ comes.1 ∙ ap (λ (n : ℕ). record { place = n; fault = fault } ∷ comes.0) h.at)

get_behind : {X : Type 0} (xs ys : List X) (x : X) → slice_get (xs ++ x ∷ ys) (length xs) ≡ Some x
get_behind [] ys x = refl
get_behind (y ∷ xs) ys x = get_behind xs ys x

pub due_there : (fixed : Fixed) (actions : List Action) (s : State) (place : ℕ) (a : Action) (fault : Fault) → MeetsAt fixed actions s place a fault →
    slice_get actions place ≡ Some a
due_there fixed actions s place a fault h =
    (λ i. slice_get (h.these i) (sym h.at i)) ∙ get_behind h.before h.after a

pub takes-append : (n k : ℕ) (xs ys : List DdPlan) → takes_from n k (xs ++ ys) ≡ takes_from n k xs ++ takes_from n (k + length xs) ys
takes-append n k [] ys = ap (λ m. takes_from n m ys) (let e : k ≡ k + 0 = omega arith in e)
takes-append n k (x ∷ xs) ys = ap (λ l. Take n k x ∷ l) (takes-append n (k + 1) xs ys
    ∙ ap (λ m. takes_from n (k + 1) xs ++ takes_from n m ys) (let e : k + 1 + length xs ≡ k + suc (length xs) = omega arith in e))

pub disposes-append : (n k : ℕ) (xs ys : List DdPlan) → disposes_from n k (xs ++ ys) ≡ disposes_from n k xs ++ disposes_from n (k + length xs) ys
disposes-append n k [] ys = ap (λ m. disposes_from n m ys) (let e : k ≡ k + 0 = omega arith in e)
disposes-append n k (x ∷ xs) ys = ap (λ l. Dispose n k x ∷ l) (disposes-append n (k + 1) xs ys
    ∙ ap (λ m. disposes_from n (k + 1) xs ++ disposes_from n m ys) (let e : k + 1 + length xs ≡ k + suc (length xs) = omega arith in e))

pub length-takes : (n k : ℕ) (xs : List DdPlan) → length (takes_from n k xs) ≡ length xs
length-takes n k [] = refl
length-takes n k (x ∷ xs) = ap suc (length-takes n (k + 1) xs)

pub length-disposes : (n k : ℕ) (xs : List DdPlan) → length (disposes_from n k xs) ≡ length xs
length-disposes n k [] = refl
length-disposes n k (x ∷ xs) = ap suc (length-disposes n (k + 1) xs)

-- the front of a list, one element longer
pub front_more : {X : Type 0} (xs : List X) (i : ℕ) (x : X) → i < length xs → x ≡ get_or xs i x → take (i + 1) xs ≡ take i xs ++ x ∷ []
front_more xs i x h e = take_more xs i x h ∙ ap (λ y. take i xs ++ y ∷ []) (sym e)

pub front_length : {X : Type 0} (xs : List X) (i : ℕ) → i < length xs → length (take i xs) ≡ i
front_length xs i h = length-take-le i xs (omega arith)

pub front_split : {X : Type 0} (xs : List X) (i : ℕ) (x : X) → i < length xs → x ≡ get_or xs i x → xs ≡ take i xs ++ x ∷ drop (suc i) xs
front_split xs i x h e = sym (take-append-drop i xs) ∙ ap (λ l. take i xs ++ l) (drop-cons xs i x h ∙ ap (λ y. y ∷ drop (suc i) xs) (sym e))

-- a front's length, counted from 1
pub front_number : {X : Type 0} (xs : List X) (i : ℕ) → i < length xs → 1 + length (take i xs) ≡ i + 1
front_number xs i h = let e : length (take i xs) ≡ i = length-take-le i xs (omega arith) in omega (arith, e)

-- a DD more is taken, behind so many
module _ (fixed : Fixed) (n i : ℕ) (dds : List DdPlan) (d : DdPlan) (s t : State) (made : List Place) where
  pub takes_more : i < length dds → d ≡ get_or dds i d → (u : State) (more : List Place) → RanTo (run fixed (takes_from n 1 (take i dds)) s) t made →
      RanTo (run fixed (Take n (i + 1) d ∷ []) t) u more → RanTo (run fixed (takes_from n 1 (take (i + 1) dds)) s) u (made ++ more)
  takes_more below is u more p q =
      subst (λ (actions : List Action). RanTo (run fixed actions s) u (made ++ more)) (sym whole)
      (run_append fixed (takes_from n 1 (take i dds)) (Take n (i + 1) d ∷ []) s t u made more p q)
    where
      whole : takes_from n 1 (take (i + 1) dds) ≡ takes_from n 1 (take i dds) ++ Take n (i + 1) d ∷ []
      whole =
          ap (takes_from n 1) (front_more dds i d below is) ∙ takes-append n 1 (take i dds) (d ∷ [])
          ∙ ap (λ (m : ℕ). takes_from n 1 (take i dds) ++ Take n m d ∷ []) (front_number dds i below)

  pub takes_meet : i < length dds → d ≡ get_or dds i d → (fault : Fault) → RanTo (run fixed (takes_from n 1 (take i dds)) s) t made →
      (act fixed (Take n (i + 1) d) t).meets ≡ Some fault → MeetsAt fixed (takes_from n 1 dds) s i (Take n (i + 1) d) fault
  takes_meet below is fault p q =
      subst (λ (actions : List Action). MeetsAt fixed actions s i (Take n (i + 1) d) fault) (sym whole)
      (subst (λ (place : ℕ). MeetsAt fixed (takes_from n 1 (take i dds) ++ Take n (i + 1) d ∷ takes_from n (i + 1 + 1) (drop (suc i) dds)) s place (Take n (i + 1) d) fault) number
      (meets_behind fixed (takes_from n 1 (take i dds)) (Take n (i + 1) d ∷ takes_from n (i + 1 + 1) (drop (suc i) dds)) s t made 0 (Take n (i + 1) d) fault p
      (meets_first fixed (Take n (i + 1) d) (takes_from n (i + 1 + 1) (drop (suc i) dds)) t fault q)))
    where
      number : length (takes_from n 1 (take i dds)) + 0 ≡ i
      number = let e : length (takes_from n 1 (take i dds)) ≡ length (take i dds) = length-takes n 1 (take i dds) in
          let f : length (take i dds) ≡ i = front_length dds i below in omega (arith, e, f)

      whole : takes_from n 1 dds ≡ takes_from n 1 (take i dds) ++ Take n (i + 1) d ∷ takes_from n (i + 1 + 1) (drop (suc i) dds)
      whole =
          ap (takes_from n 1) (front_split dds i d below is) ∙ takes-append n 1 (take i dds) (d ∷ drop (suc i) dds)
          ∙ ap (λ (m : ℕ). takes_from n 1 (take i dds) ++ Take n m d ∷ takes_from n (m + 1) (drop (suc i) dds)) (front_number dds i below)

-- a DD more is disposed of, behind so many
module _ (fixed : Fixed) (n i : ℕ) (dds : List DdPlan) (d : DdPlan) (s t : State) (made : List Place) where
  pub disposes_more : i < length dds → d ≡ get_or dds i d → (u : State) (more : List Place) → RanTo (run fixed (disposes_from n 1 (take i dds)) s) t made →
      RanTo (run fixed (Dispose n (i + 1) d ∷ []) t) u more → RanTo (run fixed (disposes_from n 1 (take (i + 1) dds)) s) u (made ++ more)
  disposes_more below is u more p q =
      subst (λ (actions : List Action). RanTo (run fixed actions s) u (made ++ more)) (sym whole)
      (run_append fixed (disposes_from n 1 (take i dds)) (Dispose n (i + 1) d ∷ []) s t u made more p q)
    where
      whole : disposes_from n 1 (take (i + 1) dds) ≡ disposes_from n 1 (take i dds) ++ Dispose n (i + 1) d ∷ []
      whole =
          ap (disposes_from n 1) (front_more dds i d below is) ∙ disposes-append n 1 (take i dds) (d ∷ [])
          ∙ ap (λ (m : ℕ). disposes_from n 1 (take i dds) ++ Dispose n m d ∷ []) (front_number dds i below)

  pub disposes_meet : i < length dds → d ≡ get_or dds i d → (fault : Fault) → RanTo (run fixed (disposes_from n 1 (take i dds)) s) t made →
      (act fixed (Dispose n (i + 1) d) t).meets ≡ Some fault → MeetsAt fixed (disposes_from n 1 dds) s i (Dispose n (i + 1) d) fault
  disposes_meet below is fault p q =
      subst (λ (actions : List Action). MeetsAt fixed actions s i (Dispose n (i + 1) d) fault) (sym whole)
      (subst (λ (place : ℕ). MeetsAt fixed (disposes_from n 1 (take i dds) ++ Dispose n (i + 1) d ∷ disposes_from n (i + 1 + 1) (drop (suc i) dds)) s place (Dispose n (i + 1) d) fault) number
      (meets_behind fixed (disposes_from n 1 (take i dds)) (Dispose n (i + 1) d ∷ disposes_from n (i + 1 + 1) (drop (suc i) dds)) s t made 0 (Dispose n (i + 1) d) fault p
      (meets_first fixed (Dispose n (i + 1) d) (disposes_from n (i + 1 + 1) (drop (suc i) dds)) t fault q)))
    where
      number : length (disposes_from n 1 (take i dds)) + 0 ≡ i
      number = let e : length (disposes_from n 1 (take i dds)) ≡ length (take i dds) = length-disposes n 1 (take i dds) in
          let f : length (take i dds) ≡ i = front_length dds i below in omega (arith, e, f)

      whole : disposes_from n 1 dds ≡ disposes_from n 1 (take i dds) ++ Dispose n (i + 1) d ∷ disposes_from n (i + 1 + 1) (drop (suc i) dds)
      whole =
          ap (disposes_from n 1) (front_split dds i d below is) ∙ disposes-append n 1 (take i dds) (d ∷ drop (suc i) dds)
          ∙ ap (λ (m : ℕ). disposes_from n 1 (take i dds) ++ Dispose n m d ∷ disposes_from n (m + 1) (drop (suc i) dds)) (front_number dds i below)

-- dispositions make no sets, whatever the state is, and nor does a step's end
no_set_disposed : (fixed : Fixed) (n dd : ℕ) (name : Option (List ℕ)) (p : SetPlan) (t : Option TakenSet) (s : State) →
    (set_disposes fixed n dd name p t s).made ≡ []
no_set_disposed fixed n dd name p None s = refl
no_set_disposed fixed n dd name p (Some t) s = refl

none_disposed_at : (fixed : Fixed) (n dd : ℕ) (name : Option (List ℕ)) (kind : DdKind) (x : DdState) (s : State) →
    (disposes_at fixed n dd name kind x s).made ≡ []
none_disposed_at fixed n dd name (Sysout class) x s = refl
none_disposed_at fixed n dd name Dummy x s = refl
none_disposed_at fixed n dd name (Cards cards) x s = refl
none_disposed_at fixed n dd name (Set p) x s = no_set_disposed fixed n dd name p x.taken s

none_disposed : (fixed : Fixed) (n dd : ℕ) (name : Option (List ℕ)) (kind : DdKind) (x : Option DdState) (s : State) →
    (disposes x fixed n dd name kind s).made ≡ []
none_disposed fixed n dd name kind None s = refl
none_disposed fixed n dd name kind (Some x) s = none_disposed_at fixed n dd name kind x s

none_if_runs : (b : Bool) (s : State) (d : Done) → d.made ≡ [] → (if_runs b s d).made ≡ []
none_if_runs true s d e = e
none_if_runs false s d e = refl

none_either : (b : Bool) (d e : Done) → d.made ≡ [] → e.made ≡ [] → (cond b d e).made ≡ []
none_either true d e p q = p
none_either false d e p q = q

none_finishes : (n : ℕ) (o : Option Outcome) (s : State) → (finishes n o s).made ≡ []
none_finishes n (Some o) s = refl
none_finishes n None s = none_either (cancel_due s.answers.cancels s.own.lines) _ _ refl refl

dispose_makes : (fixed : Fixed) (n dd : ℕ) (d : DdPlan) (s : State) → (act fixed (Dispose n dd d) s).made ≡ []
unfolding act
dispose_makes fixed n dd d s = none_if_runs s.own.runs s _ (none_disposed fixed n dd d.name d.kind (slice_get s.own.dds (dd - 1)) s)

finish_makes : (fixed : Fixed) (n : ℕ) (s : State) → (act fixed (Finish n) s).made ≡ []
unfolding act
finish_makes fixed n s = none_either s.own.runs _ _ (none_finishes n s.own.over s) refl

disposes_make : (fixed : Fixed) (n dd : ℕ) (ds : List DdPlan) (s : State) → (run fixed (disposes_from n dd ds) s).made ≡ []
unfolding run
disposes_make fixed n dd [] s = refl
disposes_make fixed n dd (d ∷ ds) s =
    λ i. dispose_makes fixed n dd d s i ++ disposes_make fixed n (dd + 1) ds (act fixed (Dispose n dd d) s).state i

-- so all that a step makes is made by its takes
pub end_makes : (fixed : Fixed) (n : ℕ) (ds : List DdPlan) (s : State) → (run fixed (Finish n ∷ disposes_from n 1 ds) s).made ≡ []
unfolding run
end_makes fixed n ds s = λ i. finish_makes fixed n s i ++ disposes_make fixed n 1 ds (act fixed (Finish n) s).state i

-- a primary is granted
granted_there : (n dd : ℕ) (p : SetPlan) (serial : Option (List ℕ)) → granted_on (λ place tracks. true) n dd p serial ≡ true
granted_there n dd p None = refl
granted_there n dd p (Some serial) = refl

granted_for : (fixed : Fixed) (n dd : ℕ) (p : SetPlan) (seen : Store) (own : Own) (means : Resolution) →
    granted_by (λ key place tracks. true) fixed n dd p seen own means ≡ true
granted_for fixed n dd p seen own (Fails fault) = refl
granted_for fixed n dd p seen own (Means key) = granted_there n dd p (looked_at (target_in fixed n dd p key seen own))

pub primary_is_granted : (fixed : Fixed) (n dd : ℕ) (kind : DdKind) (seen : Store) (own : Own) →
    primary_granted (λ key place tracks. true) fixed n dd kind seen own ≡ true
primary_is_granted fixed n dd (Sysout class) seen own = refl
primary_is_granted fixed n dd Dummy seen own = refl
primary_is_granted fixed n dd (Cards cards) seen own = refl
primary_is_granted fixed n dd (Set p) seen own = granted_for fixed n dd p seen own (meaning_at fixed.meanings n dd)
