-- Jobs beside one another.
use Rattle.std.proofs.Common.{◌≡◌, ◌≢◌, ◌==◌, ◌⊎◌, inl, inr, ℕ, zero, suc, Bool, true, false, List, [], ◌∷◌, drop, Option, Some, None, refl, sym, ap, ◌∙◌, subst}
use Rattle.std.specs.Prelude.{slice_get, slice_set}
use Rattle.std.proofs.lemmas.Bool.{both_ways, cases_eq, cond-false, ne_eqb}
use Rattle.jname_core.specs.declared.key.Key.TheVariants as key
use Rattle.vtoc_core.specs.declared.entry.SetKey.TheVariants as world
use Rattle.jcl_plan.specs.declared.entry.Entry.{Entry}
use Rattle.jcl_plan.specs.declared.entry.JobLine.{JobLine}
use Rattle.jcl_plan.specs.declared.plan.JobPlan.{JobPlan}
use Rattle.jcl_meaning.specs.declared.names.HeldName.{HeldName}
use Rattle.jcl_meaning.specs.declared.state.Own.{Own}
use Rattle.jcl_meaning.specs.Agendas.{agenda}
use Rattle.jcl_meaning.specs.Names.{names_of}
use Rattle.jcl_meaning.specs.Parts.{SamePart}
use Rattle.jcl_meaning.specs.States.{Fixed}
use Rattle.jcl_meaning.specs.Stores.{Store}
use Rattle.part_laws.specs.Fits.{Fits}
use Rattle.part_laws.specs.Keeping.{AreCompatible, SameNamed}
use Rattle.part_laws.proofs.Others.{unseen_by_other}
use Rattle.world_meaning.specs.declared.event.Event.{Event}
use Rattle.world_meaning.specs.Admissions.{Answered, MayFail, assured, fixed_at, no_space, refused, risk, risky, too_many}
use Rattle.world_meaning.specs.Cancels.{is_admitted}
use Rattle.world_meaning.specs.Holdings.{Holds, ReadsRecords, blocked, broken, held, read}
use Rattle.world_meaning.specs.Lenses.{WorldStore, put_back, seen}
use Rattle.world_meaning.specs.Readings.{Denoting}
use Rattle.world_meaning.specs.Transitions.{GoesOn, Transition}
use Rattle.world_meaning.specs.Turns.{Advanced, Advances, acts, advanced, answers_due, ends, granting, state_in, waits}
use Rattle.world_meaning.specs.Worlds.{Admission, Admitted, Config, Initiator, IsAt, Named, Running, Selected, Shared, Stage, Wanting, World, with_running}
use Rattle.world_laws.specs.Beside.{FitsAt, IsBesideAt, IsTurnOf, LeavesAlone, MayEnd, RunsBeside, RunsFit, TurnsBeside}
use Rattle.world_laws.proofs.Behind.{Behind, advance_behind}
use Rattle.world_laws.proofs.Effects.{Effect, changes, ended_early, goes, picks, still, unqueued}

-- what stands at a place of a list in which one place has changed
pub set_here : {X : Type 0} (xs : List X) (k : ℕ) (x y : X) → slice_get xs k ≡ Some x → slice_get (slice_set xs k y) k ≡ Some y
set_here [] k x y e = absurd cc
set_here (z ∷ xs) zero x y e = refl
set_here (z ∷ xs) (suc k) x y e = set_here xs k x y e

pub set_elsewhere : {X : Type 0} (xs : List X) (j k : ℕ) (y : X) → (j ≡ k → ⊥) → slice_get (slice_set xs k y) j ≡ slice_get xs j
set_elsewhere [] j k y other = refl
set_elsewhere (z ∷ xs) zero zero y other = absurd (other refl)
set_elsewhere (z ∷ xs) zero (suc k) y other = refl
set_elsewhere (z ∷ xs) (suc j) zero y other = refl
set_elsewhere (z ∷ xs) (suc j) (suc k) y other = set_elsewhere xs j k y (λ e. other (ap suc e))

pub one_there : {X : Type 0} (xs : List X) (j k : ℕ) (x y : X) → j ≡ k → slice_get xs j ≡ Some x → slice_get xs k ≡ Some y → x ≡ y
one_there xs j k x y same e f = let both : Some x ≡ Some y = sym e ∙ (ap (slice_get xs) same ∙ f) in cc

pub part_same : (names : List HeldName) (s : Store) → SamePart names s s
part_same names s = record {
  named = λ name serial h. refl;
  temporary = λ name serial. refl;
  unnamed = λ step dd serial. refl;
  catalog = λ name. refl;
}

-- another job's store, put back
other_part : (turning job : ℕ) (names : List HeldName) (w : WorldStore) (s : Store) → (job == turning) ≡ false → SameNamed names (seen turning w) s →
    SamePart names (seen job w) (seen job (put_back turning w s))
other_part turning job names w s other h = record {
  named = h.named;
  temporary = λ name serial. sym (cond-false (job == turning) (s.set (key.Temporary name) serial) (w.set (world.Temporary job name) serial) other);
  unnamed = λ step dd serial. sym (cond-false (job == turning) (s.set (key.Unnamed step dd) serial) (w.set (world.Unnamed job step dd) serial) other);
  catalog = h.catalog;
}

-- what is behind an admitted job's turn
module _ (c : Config) (old : Shared) (r : Running) (plan : JobPlan) (a : Admission) (count : ℕ) (own : Own)
    (h : Fits (names_of plan) a.fixed.meanings (drop count (agenda plan c.programs)) own) where
  pub behind : (x : Advanced) (growth primary : Bool) → advanced c old r.job plan a count own growth primary ≡ Some x →
      Behind (names_of plan) a.fixed (agenda plan c.programs) (state_in (seen r.job old.store) own) x
  behind x growth primary is =
      advance_behind (names_of plan) (answers_due c.programs plan.steps (granting old r.job growth primary)) a.fixed (agenda plan c.programs)
      (drop count (agenda plan c.programs)) (state_in (seen r.job old.store) own) count x refl h is

  pub turn_keeps : (lines : List JobLine) (new : Shared) (runs : Option Running) (job : ℕ) (names : List HeldName) → r.job ≢ job →
      AreCompatible (names_of plan) names → Advances c old r plan a count own lines new runs → SamePart names (seen job old.store) (seen job new.store)
  turn_keeps lines new runs job names other compatible turn = by_case turn
    where
      part_behind : (x : Advanced) (growth primary : Bool) → advanced c old r.job plan a count own growth primary ≡ Some x →
          SamePart names (seen job old.store) (seen job (put_back r.job old.store x.done.state.store))
      part_behind x growth primary is =
          other_part r.job job names old.store x.done.state.store (ne_eqb job r.job (λ e. other (sym e)))
          (unseen_by_other (names_of plan) names (seen r.job old.store) x.done.state.store compatible (behind x growth primary is).stays.within)

      by_case : Advances c old r plan a count own lines new runs → SamePart names (seen job old.store) (seen job new.store)
      by_case (waits x growth primary is must t n goes_on) =
          subst (λ (s : Shared). SamePart names (seen job old.store) (seen job s.store)) (sym n) (part_same names (seen job old.store))
      by_case (acts x growth primary free is grants further more t n conserved goes_on) =
          subst (λ (s : Shared). SamePart names (seen job old.store) (seen job s.store)) (sym n) (part_behind x growth primary is)
      by_case (ends x growth primary free is grants further over t n conserved goes_on) =
          subst (λ (s : Shared). SamePart names (seen job old.store) (seen job s.store)) (sym n) (part_behind x growth primary is)

  pub turn_fits : (lines : List JobLine) (new : Shared) (runs : Option Running) → FitsAt c r.stage → Advances c old r plan a count own lines new runs →
      RunsFit c runs
  turn_fits lines new runs fits (waits x growth primary is must t n goes_on) = subst (RunsFit c) (sym goes_on) fits
  turn_fits lines new runs fits (acts x growth primary free is grants further more t n conserved goes_on) =
      subst (RunsFit c) (sym goes_on) (behind x growth primary is).fits
  turn_fits lines new runs fits (ends x growth primary free is grants further over t n conserved goes_on) = subst (RunsFit c) (sym goes_on) tt

-- a job that is not admitted changes nothing of the store
pub holds_store : (old : Shared) (r : Running) (plan : JobPlan) (lines : List JobLine) (new : Shared) (runs : Option Running) → Holds old r plan lines new runs →
    new.store ≡ old.store
holds_store old r plan lines new runs (held free t n goes_on) = ap (λ (s : Shared). s.store) n
holds_store old r plan lines new runs (blocked by is t n goes_on) = ap (λ (s : Shared). s.store) n

pub reads_store : (c : Config) (old : Shared) (r : Running) (first : ℕ) (lines : List JobLine) (new : Shared) (runs : Option Running) →
    ReadsRecords c old r first lines new runs → new.store ≡ old.store
reads_store c old r first lines new runs (broken n free f t is conserved over) = ap (λ (s : Shared). s.store) is
reads_store c old r first lines new runs (read plan rest denoted h) = holds_store old r plan lines new runs h

may_fail_store : (c : Config) (old : Shared) (r : Running) (plan : JobPlan) (fixed : Fixed) (told : JobLine) (lines : List JobLine) (new : Shared)
    (runs : Option Running) → MayFail c old r plan fixed told lines new runs → new.store ≡ old.store
may_fail_store c old r plan fixed told lines new runs (risky b t n goes_on) = ap (λ (s : Shared). s.store) n
may_fail_store c old r plan fixed told lines new runs (refused free b t n conserved over) = ap (λ (s : Shared). s.store) n

pub answered_store : (c : Config) (old : Shared) (r : Running) (plan : JobPlan) (fixed : Fixed) (lines : List JobLine) (new : Shared)
    (runs : Option Running) → Answered c old r plan fixed lines new runs → new.store ≡ old.store
answered_store c old r plan fixed lines new runs (assured places kept free safe are_made are others t n conserved goes_on) = ap (λ (s : Shared). s.store) n
answered_store c old r plan fixed lines new runs (no_space serial there t n goes_on) = ap (λ (s : Shared). s.store) n
answered_store c old r plan fixed lines new runs (risk fault step dd path meets m) = may_fail_store c old r plan fixed _ lines new runs m
answered_store c old r plan fixed lines new runs (too_many step low high views m) = may_fail_store c old r plan fixed _ lines new runs m

-- what any event leaves of a job's part
goes_keep : (c : Config) (old : Shared) (r : Running) (stage : Stage) (lines : List JobLine) (new : Shared) (runs : Option Running) (job : ℕ)
    (names : List HeldName) → IsBesideAt job names r.job stage → FitsAt c stage → GoesOn c old r stage lines new runs →
    SamePart names (seen job old.store) (seen job new.store)
goes_keep c old r (Selected first) lines new runs job names beside fits g =
    subst (λ (s : WorldStore). SamePart names (seen job old.store) (seen job s)) (sym (reads_store c old r first lines new runs g))
    (part_same names (seen job old.store))
goes_keep c old r (Wanting plan) lines new runs job names beside fits g =
    subst (λ (s : WorldStore). SamePart names (seen job old.store) (seen job s)) (sym (holds_store old r plan lines new runs g))
    (part_same names (seen job old.store))
goes_keep c old r (Named plan) lines new runs job names beside fits g =
    subst (λ (s : WorldStore). SamePart names (seen job old.store) (seen job s))
    (sym (answered_store c old r plan (fixed_at c old r.job plan g.places) lines new runs g.answers)) (part_same names (seen job old.store))
goes_keep c old r (Admitted plan a count own) lines new runs job names beside fits g =
    turn_keeps c old r plan a count own fits lines new runs job names beside.0 beside.1 g

pub parts_stay : (job_of : Denoting) (old new : World) (e : Event) (lines : List Entry) (job : ℕ) (names : List HeldName) → TurnsBeside old e job names →
    Transition job_of old e lines new → SamePart names (seen job old.shared.store) (seen job new.shared.store)
parts_stay job_of old new e lines job names beside t = by_effect (changes job_of old new e lines t).effect
  where
    unchanged : new.shared.store ≡ old.shared.store → SamePart names (seen job old.shared.store) (seen job new.shared.store)
    unchanged s = subst (λ (store : WorldStore). SamePart names (seen job old.shared.store) (seen job store)) (sym s)
        (part_same names (seen job old.shared.store))

    by_effect : Effect old e new → SamePart names (seen job old.shared.store) (seen job new.shared.store)
    by_effect (still i s k) = unchanged s
    by_effect (picks place x first r at is runs stage i s k) = unchanged s
    by_effect (goes place x r job_lines shared runs at is running g i s k) =
        subst (λ (store : WorldStore). SamePart names (seen job old.shared.store) (seen job store)) (sym s)
        (goes_keep old.config old.shared r r.stage job_lines shared runs job names
        (subst (RunsBeside job names) running (beside.beside place x at is))
        (subst (RunsFit old.config) running (beside.fits place x at is)) g)
    by_effect (unqueued w there_too is i s k) = unchanged s
    by_effect (ended_early place x r at runs is stage i s k) = unchanged s

-- what any event leaves at an initiator
module _ (job_of : Denoting) (old new : World) (e : Event) (place : ℕ) (x : Initiator) (at : IsAt old place x) where
  as_before : (o : Option Running) (other_place : ℕ) (other : Initiator) → (place ≡ other_place → ⊥) →
      new.initiators ≡ with_running old.initiators other_place other o → IsAt new place x
  as_before o other_place other apart i = ap (λ (xs : List Initiator). slice_get xs place) i ∙ (set_elsewhere old.initiators place other_place _ apart ∙ at)

  pub running_stays : LeavesAlone e x → Effect old e new → IsAt new place x
  running_stays alone (still i s k) = ap (λ (xs : List Initiator). slice_get xs place) i ∙ at
  running_stays alone (picks there other first r is_at is runs stage i s k) =
      as_before (Some r) there other (λ same. alone.no_turn (subst (IsTurnOf e) (sym (one_there old.initiators place there x other same at is_at)) is)) i
  running_stays alone (goes there other r lines shared runs is_at is running g i s k) =
      as_before runs there other (λ same. alone.no_turn (subst (IsTurnOf e) (sym (one_there old.initiators place there x other same at is_at)) is)) i
  running_stays alone (unqueued w there_too is i s k) = ap (λ (xs : List Initiator). slice_get xs place) i ∙ at
  running_stays alone (ended_early there other r is_at runs is stage i s k) =
      as_before None there other (λ same. alone.no_cancel
      (subst (MayEnd e) (sym (ap (λ (z : Initiator). z.running) (one_there old.initiators place there x other same at is_at) ∙ runs))
      (is, both_ways (is_admitted r.stage) stage))) i

goes_fit : (c : Config) (old : Shared) (r : Running) (stage : Stage) (lines : List JobLine) (new : Shared) (runs : Option Running) → r.stage ≡ stage →
    is_admitted stage ≡ true → FitsAt c stage → GoesOn c old r stage lines new runs → RunsFit c runs
goes_fit c old r (Selected first) lines new runs is admits fits g = absurd cc
goes_fit c old r (Wanting plan) lines new runs is admits fits g = absurd cc
goes_fit c old r (Named plan) lines new runs is admits fits g = absurd cc
goes_fit c old r (Admitted plan a count own) lines new runs is admits fits g =
    turn_fits c old r plan a count own fits lines new runs (subst (FitsAt c) (sym is) fits) g

module _ (old new : World) (e : Event) (place : ℕ) (x y : Initiator) (r : Running) (at : IsAt old place x) (running : x.running ≡ Some r)
    (admits : is_admitted r.stage ≡ true) (fits : FitsAt old.config r.stage) (there : IsAt new place y) where
  fits_as_before : new.initiators ≡ old.initiators → RunsFit old.config y.running
  fits_as_before i =
      subst (RunsFit old.config) (sym running ∙ ap (λ (z : Initiator). z.running) (one_there old.initiators place place x y refl at
      (ap (λ (xs : List Initiator). slice_get xs place) (sym i) ∙ there))) fits

  fits_by_place : (o : Option Running) (at_place : ℕ) (other : Initiator) → (place ≡ at_place) ⊎ (place ≡ at_place → ⊥) → IsAt old at_place other →
      new.initiators ≡ with_running old.initiators at_place other o → (x ≡ other → RunsFit old.config o) → RunsFit old.config y.running
  fits_by_place o at_place other (inl same) is_at i then =
      subst (RunsFit old.config)
      (ap (λ (z : Initiator). z.running) (one_there new.initiators at_place place (record other { running = o }) y (sym same)
      (ap (λ (xs : List Initiator). slice_get xs at_place) i ∙ set_here old.initiators at_place other (record other { running = o }) is_at) there))
      (then (one_there old.initiators place at_place x other same at is_at))
  fits_by_place o at_place other (inr apart) is_at i then =
      subst (RunsFit old.config) (sym running ∙ ap (λ (z : Initiator). z.running) (one_there new.initiators place place x y refl
      (ap (λ (xs : List Initiator). slice_get xs place) i ∙ (set_elsewhere old.initiators place at_place _ apart ∙ at)) there)) fits

  pub fits_stay : Effect old e new → RunsFit old.config y.running
  fits_stay (still i s k) = fits_as_before i
  fits_stay (picks there other first q is_at is runs stage i s k) =
      fits_by_place (Some q) there other (cases_eq place there) is_at i
      (λ same. let none : Some r ≡ None = sym running ∙ (ap (λ (z : Initiator). z.running) same ∙ runs) in absurd cc)
  fits_stay (goes there other q lines shared runs is_at is now g i s k) =
      fits_by_place runs there other (cases_eq place there) is_at i (λ same.
      let both : Some r ≡ Some q = sym running ∙ (ap (λ (z : Initiator). z.running) same ∙ now) in
      let one : r ≡ q = cc in
      goes_fit old.config old.shared q q.stage lines shared runs refl (ap (λ (z : Running). is_admitted z.stage) (sym one) ∙ admits)
      (subst (λ (z : Running). FitsAt old.config z.stage) one fits) g)
  fits_stay (unqueued w there_too is i s k) = fits_as_before i
  fits_stay (ended_early there other q is_at runs is stage i s k) = fits_by_place None there other (cases_eq place there) is_at i (λ same. tt)
