-- A job meets its earliest fault at the same place of both stores.
use Rattle.std.proofs.Common.{◌≡◌, ◌⊎◌, inl, inr, ◌++◌, ◌==◌, ◌≤◌, ◌<◌, ℕ, zero, suc, Bool, true, false, List, [], ◌∷◌, length, map, take}
use Rattle.std.proofs.Common.{Some, refl, sym, ap, ◌∙◌, subst, arith}
use Rattle.std.specs.Prelude.{All, slice_get}
use Rattle.std.specs.List.{Contains}
use Rattle.std.proofs.lemmas.List.{take-append-le}
use Rattle.std.proofs.lemmas.List.Elements.{All-append, All-cons, All-contains, All-contains_itself, All-head, All-nil, All-weaker}
use Rattle.std.proofs.lemmas.List.Elements.{Contains-append_cases, Contains-append_left}
use Rattle.jcl_plan.specs.declared.fault.Fault.{Fault}
use Rattle.jcl_plan.specs.declared.outcome.Outcome.{Outcome}
use Rattle.jcl_plan.specs.declared.plan.JobPlan.{JobPlan}
use Rattle.jcl_meaning.specs.Agendas.{Action, path_agenda}
use Rattle.jcl_meaning.specs.Solo.{Met, Ran, at_start, given, is_clean, run, solo_path_of}
use Rattle.jcl_meaning.specs.States.{Fixed}
use Rattle.jcl_meaning.specs.Stores.{Store}
use Rattle.jcl_meaning.specs.Views.{ran_to}
use Rattle.meaning_laws.specs.Laws.{behind}
use Rattle.path_meaning.specs.Paths.{FaultPlace, fates_in, fault_place, path_shown}
use Rattle.path_meaning.specs.Verdicts.{IsEarliest, steps_over}
use Rattle.path_laws.specs.Paths.{before_part}
use Rattle.path_laws.proofs.Fates.{tells_fates}
use Rattle.path_laws.proofs.Faults.{met_within}
use Rattle.path_laws.proofs.Parts.{front_of, path_begins}
use Rattle.path_laws.proofs.Seeing.{fates_append}
use Rattle.path_laws.specs.ViewLaws.{DidTheSame}
use Rattle.start_laws.specs.Starts.{IsAnalysed, SeesSame}
use Rattle.start_laws.proofs.Ended.{ended_within}
use Rattle.start_laws.proofs.Runs.{same_path, same_to, step_same}
use Rattle.start_laws.proofs.Verdicts.{few_there}

-- the first step at whose end a path is no longer without a fault
record FirstFault (fixed : Fixed) (plan : JobPlan) (store : Store) (os : List Outcome) : Type 0 where
  k : ℕ
  within : k < length plan.steps
  clean : is_clean (ran_to fixed plan store k os) ≡ true
  met : is_clean (ran_to fixed plan store (suc k) os) ≡ false

first_fault : (fixed : Fixed) (plan : JobPlan) (store : Store) (os : List Outcome) (n : ℕ) → n ≤ length plan.steps →
    (is_clean (ran_to fixed plan store n os) ≡ true) ⊎ FirstFault fixed plan store os
unfolding run
first_fault fixed plan store os zero h = inl refl
first_fault fixed plan store os (suc n) h =
    by_clean (is_clean (ran_to fixed plan store (suc n) os)) refl (first_fault fixed plan store os n (omega arith))
  where
    by_clean : (b : Bool) → is_clean (ran_to fixed plan store (suc n) os) ≡ b →
        (is_clean (ran_to fixed plan store n os) ≡ true) ⊎ FirstFault fixed plan store os →
        (is_clean (ran_to fixed plan store (suc n) os) ≡ true) ⊎ FirstFault fixed plan store os
    by_clean true e earlier = inl e
    by_clean false e (inl clean) = inr (record { k = n; within = omega arith; clean = clean; met = e })
    by_clean false e (inr first) = inr first

-- all of the front of a list
front_all : {X : Type 0} (P : X → Type 0) (xs ys : List X) → All P (xs ++ ys) → All P xs
front_all P xs ys all = All-weaker (Contains xs) P (λ x there. All-contains P (xs ++ ys) x all (Contains-append_left xs ys x there)) xs (All-contains_itself xs)

-- of faults that are there, none before a place and all within a count, the place is within the count
place_within : (place count : ℕ) (faults : List Met) → (length faults == 0) ≡ false → All (λ met. place ≤ met.place) faults →
    All (λ met. met.place < count) faults → place < count
place_within place count [] some low high = absurd cc
place_within place count (m ∷ faults) some low high =
    let first : place ≤ m.place = All-head (λ (met : Met). place ≤ met.place) m faults low in
    let last : m.place < count = All-head (λ (met : Met). met.place < count) m faults high in
    omega arith

-- faults that are met behind so many actions
all_behind : (least count : ℕ) (faults : List Met) → least ≤ count → All (λ met. least ≤ met.place) (map (behind count) faults)
all_behind least count [] h = All-nil (λ (met : Met). least ≤ met.place)
all_behind least count (m ∷ faults) h =
    All-cons (λ (met : Met). least ≤ met.place) (behind count m) (map (behind count) faults) (omega arith) (all_behind least count faults h)

-- Along one list of outcomes, where the one path meets no fault before a place: nor does the other, at the place it meets what the one does, and as
-- many steps as have ended there had the same fates.
record AgreeAt (fixed : Fixed) (plan : JobPlan) (s t : Store) (os : List Outcome) (place : ℕ) : Type 0 where
  none_before : All (λ met. place ≤ met.place) (solo_path_of fixed plan t os).faults
  met : (fault : Fault) → Contains (solo_path_of fixed plan s os).faults (record { place = place; fault = fault }) →
      Contains (solo_path_of fixed plan t os).faults (record { place = place; fault = fault })
  fates : (a : Action) (p : FaultPlace) → slice_get (path_agenda plan) place ≡ Some a → fault_place (length plan.steps) a ≡ Some p →
      take p.ended (fates_in (solo_path_of fixed plan s os).lines) ≡ take p.ended (fates_in (solo_path_of fixed plan t os).lines)

-- what the first k steps do, and the path behind them
module _ (fixed : Fixed) (plan : JobPlan) (store : Store) (k : ℕ) (os : List Outcome) where
  abbrev first_faults : List Met
  first_faults = (ran_to fixed plan store k os).faults

  abbrev later_faults : List Met
  later_faults = map (behind (before_part plan k)) (path_begins fixed plan store k os).0.faults

  faults_parted : (solo_path_of fixed plan store os).faults ≡ first_faults ++ later_faults
  faults_parted = ap (λ (r : Ran). r.faults) (path_begins fixed plan store k os).1

  -- the fates of steps that have ended by then
  fates_first : (ended : ℕ) → k ≤ length plan.steps → ended ≤ k →
      take ended (fates_in (solo_path_of fixed plan store os).lines) ≡ take ended (fates_in (ran_to fixed plan store k os).lines)
  fates_first ended h low =
      let size : length (fates_in (ran_to fixed plan store k os).lines) ≡ k = tells_fates fixed plan store k os h in
      ap (λ (r : Ran). take ended (fates_in r.lines)) (path_begins fixed plan store k os).1
      ∙ (ap (take ended) (fates_append (ran_to fixed plan store k os).lines (path_begins fixed plan store k os).0.lines)
      ∙ take-append-le ended (fates_in (ran_to fixed plan store k os).lines) (fates_in (path_begins fixed plan store k os).0.lines) (omega arith))

  -- a fault that comes before what is behind them is one of theirs
  met_by_first : (place : ℕ) (fault : Fault) → place < before_part plan k →
      Contains (solo_path_of fixed plan store os).faults (record { place = place; fault = fault }) →
      Contains first_faults (record { place = place; fault = fault })
  met_by_first place fault h there =
      by_place (Contains-append_cases first_faults later_faults (record { place = place; fault = fault })
      (subst (λ (ms : List Met). Contains ms (record { place = place; fault = fault })) faults_parted there))
    where
      by_place : Contains first_faults (record { place = place; fault = fault }) ⊎ Contains later_faults (record { place = place; fault = fault }) →
          Contains first_faults (record { place = place; fault = fault })
      by_place (inl first) = first
      by_place (inr later) =
          let least : before_part plan k ≤ place =
          All-contains (λ (met : Met). before_part plan k ≤ met.place) later_faults (record { place = place; fault = fault })
          (all_behind (before_part plan k) (before_part plan k) (path_begins fixed plan store k os).0.faults (omega arith)) later in
          absurd (omega arith)

module _ (fixed : Fixed) (plan : JobPlan) (s t : Store) (ready : IsAnalysed fixed plan) (same : SeesSame plan fixed.date s t) (os : List Outcome)
    (place : ℕ) (before : All (λ met. place ≤ met.place) (solo_path_of fixed plan s os).faults) where
  -- no step meets a fault: both paths do the same
  agree_if_clean : is_clean (ran_to fixed plan s (length plan.steps) os) ≡ true → AgreeAt fixed plan s t os place
  agree_if_clean clean =
      let did = same_path fixed plan s t ready same os clean in
      record {
        none_before = subst (λ (ms : List Met). All (λ met. place ≤ met.place) ms) did.faults before;
        met = λ fault there. subst (λ (ms : List Met). Contains ms (record { place = place; fault = fault })) did.faults there;
        fates = λ a p due at. ap (take p.ended) did.fates;
      }

  -- a step meets one: both paths do the same up to its end, and the place is no later
  module _ (first : FirstFault fixed plan s os) where
    did : DidTheSame plan fixed.date (suc first.k) (ran_to fixed plan s (suc first.k) os) (ran_to fixed plan t (suc first.k) os)
    did = step_same fixed plan s t ready same os first.k first.within first.clean (same_to fixed plan s t ready same os first.k first.clean)

    none_first : All (λ met. place ≤ met.place) (ran_to fixed plan s (suc first.k) os).faults
    none_first =
        front_all (λ (met : Met). place ≤ met.place) (first_faults fixed plan s (suc first.k) os) (later_faults fixed plan s (suc first.k) os)
        (subst (λ (ms : List Met). All (λ met. place ≤ met.place) ms) (faults_parted fixed plan s (suc first.k) os) before)

    no_later : place < before_part plan (suc first.k)
    no_later =
        place_within place (before_part plan (suc first.k)) (ran_to fixed plan s (suc first.k) os).faults first.met none_first
        (met_within fixed (front_of plan (suc first.k)) (at_start s (given os)))

    none_there : All (λ met. place ≤ met.place) (solo_path_of fixed plan t os).faults
    none_there =
        subst (λ (ms : List Met). All (λ met. place ≤ met.place) ms) (sym (faults_parted fixed plan t (suc first.k) os))
        (All-append (λ (met : Met). place ≤ met.place) (first_faults fixed plan t (suc first.k) os) (later_faults fixed plan t (suc first.k) os)
        (subst (λ (ms : List Met). All (λ met. place ≤ met.place) ms) did.faults none_first)
        (let low : place ≤ before_part plan (suc first.k) = let below : place < before_part plan (suc first.k) = no_later in omega arith in
        all_behind place (before_part plan (suc first.k)) (path_begins fixed plan t (suc first.k) os).0.faults low))

    met_there : (fault : Fault) → Contains (solo_path_of fixed plan s os).faults (record { place = place; fault = fault }) →
        Contains (solo_path_of fixed plan t os).faults (record { place = place; fault = fault })
    met_there fault there =
        subst (λ (ms : List Met). Contains ms (record { place = place; fault = fault })) (sym (faults_parted fixed plan t (suc first.k) os))
        (Contains-append_left (first_faults fixed plan t (suc first.k) os) (later_faults fixed plan t (suc first.k) os) (record { place = place; fault = fault })
        (subst (λ (ms : List Met). Contains ms (record { place = place; fault = fault })) did.faults
        (met_by_first fixed plan s (suc first.k) os place fault no_later there)))

    fates_there : (a : Action) (p : FaultPlace) → slice_get (path_agenda plan) place ≡ Some a → fault_place (length plan.steps) a ≡ Some p →
        take p.ended (fates_in (solo_path_of fixed plan s os).lines) ≡ take p.ended (fates_in (solo_path_of fixed plan t os).lines)
    fates_there a p due at =
        let inside : first.k < length plan.steps = first.within in
        let low : p.ended ≤ suc first.k = ended_within plan (suc first.k) place a p no_later due at in
        fates_first fixed plan s (suc first.k) os p.ended (omega arith) low
        ∙ (ap (take p.ended) did.fates ∙ sym (fates_first fixed plan t (suc first.k) os p.ended (omega arith) low))

    agree_if_faulted : AgreeAt fixed plan s t os place
    agree_if_faulted = record { none_before = none_there; met = met_there; fates = fates_there }

  agree_at : AgreeAt fixed plan s t os place
  agree_at = either (first_fault fixed plan s os (length plan.steps) (omega arith))
    where
      either : (is_clean (ran_to fixed plan s (length plan.steps) os) ≡ true) ⊎ FirstFault fixed plan s os → AgreeAt fixed plan s t os place
      either (inl clean) = agree_if_clean clean
      either (inr first) = agree_if_faulted first

pub earliest_is_seen : (fixed : Fixed) (plan : JobPlan) (s t : Store) (limit : ℕ) (fault : Fault) (step dd : ℕ) (path : List Outcome) →
    IsAnalysed fixed plan → SeesSame plan fixed.date s t → IsEarliest fixed plan s limit fault step dd path → IsEarliest fixed plan t limit fault step dd path
earliest_is_seen fixed plan s t limit fault step dd path ready same earliest = record {
  meets = record {
    outcomes = earliest.meets.outcomes;
    within = earliest.meets.within;
    place = earliest.meets.place;
    action = earliest.meets.action;
    due = earliest.meets.due;
    ended = earliest.meets.ended;
    at = earliest.meets.at;
    met = here.met fault earliest.meets.met;
    shown =
        earliest.meets.shown
        ∙ ap (λ fates. path_shown fates earliest.meets.outcomes)
        (here.fates earliest.meets.action (record { step = step; dd = dd; ended = earliest.meets.ended }) earliest.meets.due earliest.meets.at);
  };
  none_before = λ os within. (agree_at fixed plan s t ready same os earliest.meets.place (earliest.none_before os within)).none_before;
  few = few_there fixed plan s t ready same limit (steps_over (length plan.steps) earliest.meets.action) earliest.few;
}
  where
    here : AgreeAt fixed plan s t earliest.meets.outcomes earliest.meets.place
    here =
        agree_at fixed plan s t ready same earliest.meets.outcomes earliest.meets.place
        (earliest.none_before earliest.meets.outcomes earliest.meets.within)
