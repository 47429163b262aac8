-- Where sets are made: by takes alone, on volumes that are known.
use Rattle.std.proofs.Common.{◌≡◌, ◌+◌, ◌-◌, ◌++◌, ◌≤◌, ℕ, Bool, true, false, cond, List, [], ◌∷◌, length, drop, Option, Some, None, refl, sym, ap, ◌∙◌}
use Rattle.std.proofs.Common.{subst, arith}
use Rattle.std.specs.Prelude.{All, is_some, slice_get}
use Rattle.std.specs.List.{Contains}
use Rattle.std.proofs.lemmas.List.Elements.{All-append, All-cons, All-contains, All-head, All-nil, All-tail, All-weaker}
use Rattle.std.proofs.lemmas.Map.Views.{Contains-from_any}
use Rattle.jname_core.specs.declared.key.Key.{Key}
use Rattle.jcl_plan.specs.declared.outcome.Outcome.{Outcome}
use Rattle.jcl_plan.specs.declared.plan.DdKind.{DdKind}
use Rattle.jcl_plan.specs.declared.plan.DdKind.TheVariants.{Cards, Dummy, Set, Sysout}
use Rattle.jcl_plan.specs.declared.plan.DdPlan.{DdPlan}
use Rattle.jcl_plan.specs.declared.plan.JobPlan.{JobPlan}
use Rattle.jcl_plan.specs.declared.plan.SetPlan.{SetPlan}
use Rattle.jcl_plan.specs.declared.plan.StepPlan.{StepPlan}
use Rattle.jcl_meaning.specs.declared.state.DdState.{DdState}
use Rattle.jcl_meaning.specs.declared.state.Passed.{Passed}
use Rattle.jcl_meaning.specs.declared.state.Place.{Place}
use Rattle.jcl_meaning.specs.declared.state.Resolution.{Resolution}
use Rattle.jcl_meaning.specs.declared.state.Resolution.TheVariants.{Fails, Means}
use Rattle.jcl_meaning.specs.declared.state.TakenSet.{TakenSet}
use Rattle.jcl_meaning.specs.declared.take.Decision.{Decision}
use Rattle.jcl_meaning.specs.declared.take.Decision.TheVariants.{Refuses, Takes}
use Rattle.jcl_meaning.specs.declared.take.How.{How}
use Rattle.jcl_meaning.specs.declared.take.How.TheVariants as how
use Rattle.jcl_meaning.specs.declared.take.Target.{Target}
use Rattle.jcl_meaning.specs.declared.take.Target.TheVariants as target
use Rattle.jcl_meaning.specs.Acts.{act}
use Rattle.jcl_meaning.specs.Agendas.{Action, Dispose, Finish, Left, Over, Start, Take, disposes_from, left_by, lefts_from, lefts_in, path_agenda, step_actions, steps_from, takes_from}
use Rattle.jcl_meaning.specs.EndActs.{disposes, disposes_at, finishes, leaves, left_at, passed_by, set_disposes}
use Rattle.jcl_meaning.specs.Plans.{passes}
use Rattle.jcl_meaning.specs.Programs.{moves_of}
use Rattle.jcl_meaning.specs.Resolutions.{meaning_at}
use Rattle.jcl_meaning.specs.Solo.{run}
use Rattle.jcl_meaning.specs.States.{Done, Fixed, State, cancel_due, if_runs}
use Rattle.jcl_meaning.specs.TakeActs.{decided, decision_at, place_made, takes, takes_set, target_at}
use Rattle.jcl_meaning.specs.Takes.{decide, is_known, is_there, looked_at}
use Rattle.part_laws.proofs.SameWrites.{same_bytes}
use Rattle.path_laws.specs.PathParts.{part_from, path_part}
use Rattle.path_laws.proofs.Parts.{last_part, none_asked}

-- a set that a DD of this step makes, the step having so many DDs
pub record MadeFor (volumes : List (List ℕ)) (step most : ℕ) (p : Place) : Type 0 where
  pub by_step : p.step ≡ step
  pub from_one : 1 ≤ p.dd
  pub to_last : p.dd ≤ most
  pub configured : Contains volumes p.serial

known_there : (volumes : List (List ℕ)) (serial : List ℕ) → is_known volumes (Some serial) ≡ true → Contains volumes serial
known_there volumes serial h = Contains-from_any same_bytes serial volumes h

-- a set is made only on a volume that is looked at and known
record IsLookedAt (t : Target) (known : Bool) (serial : List ℕ) : Type 0 where
  is_known : known ≡ true
  at : looked_at t ≡ Some serial

made_on_known : (t : Target) (known there space granted : Bool) (serial : List ℕ) → decide t known there space granted ≡ Takes serial how.Made →
    IsLookedAt t known serial
made_on_known (target.Makes None) known there space granted serial e = absurd cc
made_on_known (target.Makes (Some v)) false there space granted serial e = absurd cc
made_on_known (target.Makes (Some v)) true true space granted serial e = absurd cc
made_on_known (target.Makes (Some v)) true false false granted serial e = absurd cc
made_on_known (target.Makes (Some v)) true false true false serial e = absurd cc
made_on_known (target.Makes (Some v)) true false true true serial e = let same : v ≡ serial = cc in record { is_known = refl; at = ap Some same }
made_on_known (target.Finds v) false there space granted serial e = absurd cc
made_on_known (target.Finds v) true false space granted serial e = absurd cc
made_on_known (target.Finds v) true true space granted serial e = absurd cc
made_on_known (target.Receives p) known false space granted serial e = absurd cc
made_on_known (target.Receives p) known true space granted serial e = absurd cc
made_on_known (target.FindsByCatalog v) known false space granted serial e = absurd cc
made_on_known (target.FindsByCatalog v) known true space granted serial e = absurd cc
made_on_known target.Misses known there space granted serial e = absurd cc

-- what a take makes
module _ (fixed : Fixed) (n dd most : ℕ) (name : Option (List ℕ)) (low : 1 ≤ dd) (high : dd ≤ most) where
  abbrev MadeWell : List Place → Type 0
  MadeWell places = All (MadeFor fixed.volumes n most) places

  nothing_made : MadeWell []
  nothing_made = All-nil (MadeFor fixed.volumes n most)

  place_well : (h : How) (serial : List ℕ) → (h ≡ how.Made → Contains fixed.volumes serial) → MadeWell (place_made h n dd serial)
  place_well how.Made serial known =
      All-cons (MadeFor fixed.volumes n most) (record { step = n; dd = dd; serial = serial }) []
      (record { by_step = refl; from_one = low; to_last = high; configured = known refl }) nothing_made
  place_well how.Found serial known = nothing_made
  place_well how.FoundByCatalog serial known = nothing_made
  place_well (how.Received made by_catalog) serial known = nothing_made

  decided_well : (p : SetPlan) (key : Key) (s : State) (t : Target) (d : Decision) → decision_at fixed p key s t ≡ d →
      MadeWell (decided fixed n dd name p key s d).made
  decided_well p key s t (Refuses fault) e = nothing_made
  decided_well p key s t (Takes serial h) e = place_well h serial known
    where
      known : h ≡ how.Made → Contains fixed.volumes serial
      known made =
          let looked = made_on_known t (is_known fixed.volumes (looked_at t)) (is_there s.store key (looked_at t)) (is_some p.space) s.answers.primary serial
          (e ∙ ap (Takes serial) made) in
          known_there fixed.volumes serial (ap (is_known fixed.volumes) (sym looked.at) ∙ looked.is_known)

  set_well : (p : SetPlan) (s : State) (r : Resolution) → MadeWell (takes_set fixed n dd name p s r).made
  set_well p s (Fails fault) = nothing_made
  set_well p s (Means key) = decided_well p key s (target_at fixed n dd p key s) (decision_at fixed p key s (target_at fixed n dd p key s)) refl

  takes_well : (kind : DdKind) (s : State) → MadeWell (takes fixed n dd name kind s).made
  takes_well (Sysout class) s = nothing_made
  takes_well Dummy s = nothing_made
  takes_well (Cards cards) s = nothing_made
  takes_well (Set p) s = set_well p s (meaning_at fixed.meanings n dd)

  if_runs_well : (b : Bool) (s : State) (d : Done) → MadeWell d.made → MadeWell (if_runs b s d).made
  if_runs_well true s d h = h
  if_runs_well false s d h = nothing_made

-- what ends and dispositions make: nothing
no_set_disposed : (fixed : Fixed) (n dd : ℕ) (name : Option (List ℕ)) (p : SetPlan) (t : Option TakenSet) (s : State) →
    (set_disposes fixed n dd name p t s).made ≡ []
no_set_disposed fixed n dd name p None s = refl
no_set_disposed fixed n dd name p (Some t) s = refl

none_disposed_at : (fixed : Fixed) (n dd : ℕ) (name : Option (List ℕ)) (kind : DdKind) (x : DdState) (s : State) →
    (disposes_at fixed n dd name kind x s).made ≡ []
none_disposed_at fixed n dd name (Sysout class) x s = refl
none_disposed_at fixed n dd name Dummy x s = refl
none_disposed_at fixed n dd name (Cards cards) x s = refl
none_disposed_at fixed n dd name (Set p) x s = no_set_disposed fixed n dd name p x.taken s

none_disposed : (fixed : Fixed) (n dd : ℕ) (name : Option (List ℕ)) (kind : DdKind) (x : Option DdState) (s : State) →
    (disposes x fixed n dd name kind s).made ≡ []
none_disposed fixed n dd name kind None s = refl
none_disposed fixed n dd name kind (Some x) s = none_disposed_at fixed n dd name kind x s

none_if_runs : (b : Bool) (s : State) (d : Done) → d.made ≡ [] → (if_runs b s d).made ≡ []
none_if_runs true s d e = e
none_if_runs false s d e = refl

none_either : (b : Bool) (d e : Done) → d.made ≡ [] → e.made ≡ [] → (cond b d e).made ≡ []
none_either true d e p q = p
none_either false d e p q = q

none_finishes : (n : ℕ) (o : Option Outcome) (s : State) → (finishes n o s).made ≡ []
none_finishes n (Some o) s = refl
none_finishes n None s = none_either (cancel_due s.answers.cancels s.own.lines) _ _ refl refl

none_left : (fixed : Fixed) (n dd : ℕ) (name : Option (List ℕ)) (p : SetPlan) (q : Option Passed) (s : State) → (leaves fixed n dd name p q s).made ≡ []
none_left fixed n dd name p None s = refl
none_left fixed n dd name p (Some q) s = refl

none_left_at : (fixed : Fixed) (n dd : ℕ) (name : Option (List ℕ)) (kind : DdKind) (s : State) → (left_at fixed n dd name kind s).made ≡ []
none_left_at fixed n dd name (Sysout class) s = refl
none_left_at fixed n dd name Dummy s = refl
none_left_at fixed n dd name (Cards cards) s = refl
none_left_at fixed n dd name (Set p) s = none_left fixed n dd name p (passed_by s.own.passed n dd) s

-- what actions make, whatever the state is
abbrev Makes : Fixed → (Place → Type 0) → Action → Type 0
Makes fixed P action = (s : State) → All P (act fixed action s).made

run_makes : (fixed : Fixed) (P : Place → Type 0) (actions : List Action) (s : State) → All (Makes fixed P) actions → All P (run fixed actions s).made
unfolding run
run_makes fixed P [] s h = All-nil P
run_makes fixed P (a ∷ actions) s h =
    All-append P (act fixed a s).made (run fixed actions (act fixed a s).state).made (All-head (Makes fixed P) a actions h s)
    (run_makes fixed P actions (act fixed a s).state (All-tail (Makes fixed P) a actions h))

makes_none : (fixed : Fixed) (P : Place → Type 0) (a : Action) → ((s : State) → (act fixed a s).made ≡ []) → Makes fixed P a
makes_none fixed P a h s = subst (All P) (sym (h s)) (All-nil P)

module _ (fixed : Fixed) (P : Place → Type 0) where
  start_makes : (n : ℕ) (step : StepPlan) → Makes fixed P (Start n step)
  unfolding act
  start_makes n step = λ s. All-nil P

  finish_makes : (n : ℕ) → Makes fixed P (Finish n)
  unfolding act
  finish_makes n = makes_none fixed P (Finish n) (λ s. none_either s.own.runs _ _ (none_finishes n s.own.over s) refl)

  dispose_makes : (n dd : ℕ) (d : DdPlan) → Makes fixed P (Dispose n dd d)
  unfolding act
  dispose_makes n dd d =
      makes_none fixed P (Dispose n dd d)
      (λ s. none_if_runs s.own.runs s _ (none_disposed fixed n dd d.name d.kind (slice_get s.own.dds (dd - 1)) s))

  left_makes : (n dd : ℕ) (d : DdPlan) → Makes fixed P (Left n dd d)
  unfolding act
  left_makes n dd d = makes_none fixed P (Left n dd d) (λ s. none_left_at fixed n dd d.name d.kind s)

  over_makes : Makes fixed P Over
  unfolding act
  over_makes = λ s. All-nil P

  disposes_make : (n dd : ℕ) (ds : List DdPlan) → All (Makes fixed P) (disposes_from n dd ds)
  disposes_make n dd [] = All-nil (Makes fixed P)
  disposes_make n dd (d ∷ ds) =
      All-cons (Makes fixed P) (Dispose n dd d) (disposes_from n (dd + 1) ds) (dispose_makes n dd d) (disposes_make n (dd + 1) ds)

  one_left_makes : (n dd : ℕ) (d : DdPlan) (b : Bool) → All (Makes fixed P) (cond b (Left n dd d ∷ []) [])
  one_left_makes n dd d true = All-cons (Makes fixed P) (Left n dd d) [] (left_makes n dd d) (All-nil (Makes fixed P))
  one_left_makes n dd d false = All-nil (Makes fixed P)

  step_left_makes : (n dd : ℕ) (ds : List DdPlan) → All (Makes fixed P) (lefts_in n dd ds)
  step_left_makes n dd [] = All-nil (Makes fixed P)
  step_left_makes n dd (d ∷ ds) =
      All-append (Makes fixed P) (left_by n dd d) (lefts_in n (dd + 1) ds) (one_left_makes n dd d (passes d.kind)) (step_left_makes n (dd + 1) ds)

  lefts_make : (n : ℕ) (steps : List StepPlan) → All (Makes fixed P) (lefts_from n steps)
  lefts_make n [] = All-nil (Makes fixed P)
  lefts_make n (step ∷ steps) =
      All-append (Makes fixed P) (lefts_in n 1 step.dds) (lefts_from (n + 1) steps) (step_left_makes n 1 step.dds) (lefts_make (n + 1) steps)

  end_makes : (steps : List StepPlan) → All (Makes fixed P) (lefts_from 1 steps ++ (Over ∷ []))
  end_makes steps =
      All-append (Makes fixed P) (lefts_from 1 steps) (Over ∷ []) (lefts_make 1 steps)
      (All-cons (Makes fixed P) Over [] over_makes (All-nil (Makes fixed P)))

-- a step's takes, and the whole step
take_makes : (fixed : Fixed) (n dd most : ℕ) (d : DdPlan) → 1 ≤ dd → dd ≤ most → Makes fixed (MadeFor fixed.volumes n most) (Take n dd d)
unfolding act
take_makes fixed n dd most d low high s =
    if_runs_well fixed n dd most d.name low high s.own.runs s (takes fixed n dd d.name d.kind s) (takes_well fixed n dd most d.name low high d.kind s)

takes_make : (fixed : Fixed) (n dd most : ℕ) (ds : List DdPlan) → 1 ≤ dd → dd + length ds ≤ most + 1 →
    All (Makes fixed (MadeFor fixed.volumes n most)) (takes_from n dd ds)
takes_make fixed n dd most [] low high = All-nil (Makes fixed (MadeFor fixed.volumes n most))
takes_make fixed n dd most (d ∷ ds) low high =
    All-cons (Makes fixed (MadeFor fixed.volumes n most)) (Take n dd d) (takes_from n (dd + 1) ds) (take_makes fixed n dd most d low (omega arith))
    (takes_make fixed n (dd + 1) most ds (omega arith) (omega arith))

step_makes : (fixed : Fixed) (n : ℕ) (step : StepPlan) → All (Makes fixed (MadeFor fixed.volumes n (length step.dds))) (step_actions n step [])
step_makes fixed n step =
    let P : Place → Type 0 = MadeFor fixed.volumes n (length step.dds) in
    All-cons (Makes fixed P) (Start n step) (takes_from n 1 step.dds ++ (Finish n ∷ disposes_from n 1 step.dds)) (start_makes fixed P n step)
    (All-append (Makes fixed P) (takes_from n 1 step.dds) (Finish n ∷ disposes_from n 1 step.dds)
    (takes_make fixed n 1 (length step.dds) step.dds (omega arith) (omega arith))
    (All-cons (Makes fixed P) (Finish n) (disposes_from n 1 step.dds) (finish_makes fixed P n) (disposes_make fixed P n 1 step.dds)))

pub made_by_step : (plan : JobPlan) (fixed : Fixed) (k : ℕ) (step : StepPlan) (later : List StepPlan) (s : State) (p : Place) →
    drop k plan.steps ≡ step ∷ later → Contains (run fixed (path_part plan k) s).made p →
    (p.step ≡ k + 1) × (1 ≤ p.dd) × (p.dd ≤ length step.dds) × Contains fixed.volumes p.serial
made_by_step plan fixed k step later s p e h =
    let P : Place → Type 0 = MadeFor fixed.volumes (k + 1) (length step.dds) in
    let actions : List Action = step_actions (k + 1) step [] in
    let made : Contains (run fixed actions s).made p = subst (λ (steps : List StepPlan). Contains (run fixed (part_from k plan.steps steps) s).made p) e h in
    let well : MadeFor fixed.volumes (k + 1) (length step.dds) p =
    All-contains P (run fixed actions s).made p (run_makes fixed P actions s (step_makes fixed (k + 1) step)) made in
    (well.by_step, well.from_one, well.to_last, well.configured)

-- the job's end
all_absurd : (places : List Place) → All (λ (p : Place). ⊥) places → places ≡ []
all_absurd [] h = refl
all_absurd (p ∷ places) h = absurd (All-head (λ (q : Place). ⊥) p places h)

pub none_made_at_end : (plan : JobPlan) (fixed : Fixed) (s : State) → (run fixed (path_part plan (length plan.steps)) s).made ≡ []
none_made_at_end plan fixed s =
    ap (λ actions. (run fixed actions s).made) (last_part plan)
    ∙ all_absurd (run fixed (lefts_from 1 plan.steps ++ (Over ∷ [])) s).made
    (run_makes fixed (λ (p : Place). ⊥) (lefts_from 1 plan.steps ++ (Over ∷ [])) s (end_makes fixed (λ (p : Place). ⊥) plan.steps))

-- a whole path
abbrev IsOnVolume : Fixed → Place → Type 0
IsOnVolume fixed p = Contains fixed.volumes p.serial

on_volumes : (fixed : Fixed) (n most : ℕ) (a : Action) → Makes fixed (MadeFor fixed.volumes n most) a → Makes fixed (IsOnVolume fixed) a
on_volumes fixed n most a h = λ s. All-weaker (MadeFor fixed.volumes n most) (IsOnVolume fixed) (λ p m. m.configured) (act fixed a s).made (h s)

steps_make : (fixed : Fixed) (n : ℕ) (steps : List StepPlan) → All (Makes fixed (IsOnVolume fixed)) (steps_from (moves_of []) n steps)
steps_make fixed n [] = All-nil (Makes fixed (IsOnVolume fixed))
steps_make fixed n (step ∷ steps) =
    All-append (Makes fixed (IsOnVolume fixed)) (step_actions n step (moves_of [] step.program)) (steps_from (moves_of []) (n + 1) steps)
    (subst (λ moves. All (Makes fixed (IsOnVolume fixed)) (step_actions n step moves)) (sym (none_asked step.program))
    (All-weaker (Makes fixed (MadeFor fixed.volumes n (length step.dds))) (Makes fixed (IsOnVolume fixed)) (on_volumes fixed n (length step.dds))
    (step_actions n step []) (step_makes fixed n step)))
    (steps_make fixed (n + 1) steps)

pub made_configured : (plan : JobPlan) (fixed : Fixed) (s : State) (p : Place) → Contains (run fixed (path_agenda plan) s).made p → Contains fixed.volumes p.serial
made_configured plan fixed s p h =
    All-contains (IsOnVolume fixed) (run fixed (path_agenda plan) s).made p
    (run_makes fixed (IsOnVolume fixed) (path_agenda plan) s
    (All-append (Makes fixed (IsOnVolume fixed)) (steps_from (moves_of []) 1 plan.steps) (lefts_from 1 plan.steps ++ (Over ∷ [])) (steps_make fixed 1 plan.steps)
    (end_makes fixed (IsOnVolume fixed) plan.steps)))
    h
