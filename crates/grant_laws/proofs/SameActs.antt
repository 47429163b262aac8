-- An action does the same without its primary as with it, or it is to make a set.
use Rattle.std.proofs.Common.{◌≡◌, ◌-◌, ◌⊎◌, inl, inr, ℕ, Bool, true, false, cond, List, [], ◌∷◌, Option, Some, None, refl, sym, ap, subst}
use Rattle.std.specs.Prelude.{◌||◌, ◌==◌, drop, slice_get, is_some}
use Rattle.jname_core.specs.declared.key.Key.{Key}
use Rattle.jcl_plan.specs.declared.fault.Fault.TheVariants.{F6}
use Rattle.jcl_plan.specs.declared.outcome.Outcome.{Outcome}
use Rattle.jcl_plan.specs.declared.plan.DdKind.{DdKind}
use Rattle.jcl_plan.specs.declared.plan.DdKind.TheVariants.{Cards, Dummy, Set, Sysout}
use Rattle.jcl_plan.specs.declared.plan.DdPlan.{DdPlan}
use Rattle.jcl_plan.specs.declared.plan.SetPlan.{SetPlan}
use Rattle.jcl_plan.specs.declared.plan.StepPlan.{StepPlan}
use Rattle.jcl_meaning.specs.declared.program.Move.{Move}
use Rattle.jcl_meaning.specs.declared.program.Move.TheVariants.{From, To}
use Rattle.jcl_meaning.specs.declared.state.DdState.{DdState}
use Rattle.jcl_meaning.specs.declared.state.Due.{Due}
use Rattle.jcl_meaning.specs.declared.state.Due.TheVariants as due
use Rattle.jcl_meaning.specs.declared.state.Own.{Own}
use Rattle.jcl_meaning.specs.declared.state.Passed.{Passed}
use Rattle.jcl_meaning.specs.declared.state.Resolution.{Resolution}
use Rattle.jcl_meaning.specs.declared.state.Resolution.TheVariants.{Means, Fails}
use Rattle.jcl_meaning.specs.declared.state.TakenSet.{TakenSet}
use Rattle.jcl_meaning.specs.declared.store.DataSet.{DataSet}
use Rattle.jcl_meaning.specs.declared.take.Decision.{Decision}
use Rattle.jcl_meaning.specs.declared.take.Decision.TheVariants.{Refuses, Takes}
use Rattle.jcl_meaning.specs.declared.take.How.TheVariants as how
use Rattle.jcl_meaning.specs.declared.take.Target.{Target}
use Rattle.jcl_meaning.specs.declared.take.Target.TheVariants as target
use Rattle.jcl_meaning.specs.Acts.{act}
use Rattle.jcl_meaning.specs.Agendas.{Action, Ask, Dispose, Finish, Left, Over, Receive, Start, Take}
use Rattle.jcl_meaning.specs.EndActs.{disposes, disposes_at, finishes, leaves, left_at, passed_by, set_disposes}
use Rattle.jcl_meaning.specs.Programs.{dd_of, emptied, empties, is_concatenated, is_full, is_read_only, or_nothing}
use Rattle.jcl_meaning.specs.RequestActs.{asks_at, asks_dd, asks_of, dd_name, gets_by, put_grows, put_to_set, puts, puts_in, puts_unless, reads, received_due, received_now}
use Rattle.jcl_meaning.specs.Resolutions.{meaning_at}
use Rattle.jcl_meaning.specs.States.{Answers, Done, Fixed, State, asks_open, cancel_due, if_runs, unless_cancelled}
use Rattle.jcl_meaning.specs.Stores.{Store}
use Rattle.jcl_meaning.specs.TakeActs.{decided, takes, takes_set}
use Rattle.jcl_meaning.specs.Takes.{decide, is_known, is_there, looked_at, secondary_of}
use Rattle.disp_core.specs.Takings.{target_in}
use Rattle.case_laws.specs.Cases.{with_answers}

-- what was done, whatever answers are left
abbrev pub no_answers : Answers
no_answers = record { outcomes = []; cancels = []; grants = []; primary = true }

abbrev pub shown : Done → Done
shown d = record { lines = d.lines; state = with_answers d.state.store d.state.own no_answers; meets = d.meets; made = d.made }

-- A DD is to make a set: with its primary it does, and without it tells a fault.
pub record WantsPrimary (fixed : Fixed) (a : Action) (store : Store) (own : Own) (without with_it : Done) : Type 0 where
  pub step : ℕ
  pub number : ℕ
  pub dd : DdPlan
  pub plan : SetPlan
  pub key : Key
  pub serial : List ℕ
  pub takes : a ≡ Take step number dd
  pub for_set : dd.kind ≡ Set plan
  pub meant : meaning_at fixed.meanings step number ≡ Means key
  pub looked : looked_at (target_in fixed step number plan key store own) ≡ Some serial
  pub told : without.lines ≡ [] → ⊥
  pub made : with_it.made ≡ record { step = step; dd = number; serial = serial } ∷ []

pub data IsBeside (fixed : Fixed) (a : Action) (store : Store) (own : Own) (without with_it : Done) : Type 0 where
  same : shown without ≡ shown with_it → IsBeside fixed a store own without with_it
  wants : WantsPrimary fixed a store own without with_it → IsBeside fixed a store own without with_it

-- a decision needs no grant, or it is to make a set
abbrev ToMake : Target → Bool → Bool → Bool → Type 0
ToMake t known there space =
    (serial : List ℕ) × (looked_at t ≡ Some serial) × (decide t known there space false ≡ Refuses F6) × (decide t known there space true ≡ Takes serial how.Made)

grant_or_not : (t : Target) (known there space : Bool) →
    (decide t known there space false ≡ decide t known there space true) ⊎ ToMake t known there space
grant_or_not (target.Makes None) known there space = inl refl
grant_or_not (target.Makes (Some v)) false there space = inl refl
grant_or_not (target.Makes (Some v)) true true space = inl refl
grant_or_not (target.Makes (Some v)) true false false = inl refl
grant_or_not (target.Makes (Some v)) true false true = inr (v, refl, refl, refl)
grant_or_not (target.Finds v) false there space = inl refl
grant_or_not (target.Finds v) true false space = inl refl
grant_or_not (target.Finds v) true true space = inl refl
grant_or_not (target.Receives p) known false space = inl refl
grant_or_not (target.Receives p) known true space = inl refl
grant_or_not (target.FindsByCatalog v) known false space = inl refl
grant_or_not (target.FindsByCatalog v) known true space = inl refl
grant_or_not target.Misses known there space = inl refl

module _ (fixed : Fixed) (store : Store) (own : Own) (outcomes : List Outcome) (cancels : List (Option ℕ)) (growth : Bool) where
  -- a state without the primary, and the same with it
  abbrev s : State
  s = with_answers store own (record { outcomes = outcomes; cancels = cancels; grants = growth ∷ []; primary = false })

  abbrev t : State
  t = with_answers store own (record { outcomes = outcomes; cancels = cancels; grants = growth ∷ []; primary = true })

  abbrev IsSame : Done → Done → Type 0
  IsSame d e = shown d ≡ shown e

  either : (b : Bool) (d e f g : Done) → IsSame d f → IsSame e g → IsSame (cond b d e) (cond b f g)
  either true d e f g h k = h
  either false d e f g h k = k

  if_running : (b : Bool) (d e : Done) → IsSame d e → IsSame (if_runs b s d) (if_runs b t e)
  if_running true d e h = h
  if_running false d e h = refl

  uncancelled : (d e : Done) → IsSame d e → IsSame (unless_cancelled s d) (unless_cancelled t e)
  uncancelled d e h = either (cancel_due cancels own.lines) _ d _ e refl h

  -- requests
  get_same : (name : List ℕ) (d : ℕ) (x : DdState) (m p : ℕ) (text serial : Option (List ℕ)) →
      IsSame (gets_by name d x s m p text serial) (gets_by name d x t m p text serial)
  get_same name d x m p None serial = refl
  get_same name d x m p (Some text) None = refl
  get_same name d x m p (Some text) (Some serial) = refl

  grow_same : (b : Bool) (name text : List ℕ) (d : ℕ) (x : DdState) (k : TakenSet) (n : ℕ) (set : DataSet) →
      IsSame (put_grows b name text d x k n set s) (put_grows b name text d x k n set t)
  grow_same true name text d x k n set = refl
  grow_same false name text d x k n set = refl

  set_same : (name text : List ℕ) (d : ℕ) (x : DdState) (k : TakenSet) (n : ℕ) (set : DataSet) →
      IsSame (put_to_set name text d x k n set s) (put_to_set name text d x k n set t)
  set_same name text d x k n set =
      either (is_full set) _ _ _ _ (either (n == 0) _ (put_grows growth name text d x k n set s) _ (put_grows growth name text d x k n set t)
      refl (grow_same growth name text d x k n set)) refl

  put_in_same : (name text : List ℕ) (d : ℕ) (x : DdState) (p : SetPlan) (k : Option TakenSet) →
      IsSame (puts_in name text d x p k s) (puts_in name text d x p k t)
  put_in_same name text d x p None = refl
  put_in_same name text d x p (Some k) =
      set_same name text d x k (secondary_of p.space) (emptied (empties p.status x.written) (or_nothing (store.set k.key k.serial)))

  put_same : (name text : List ℕ) (d : ℕ) (x : DdState) (kind : DdKind) → IsSame (puts name text d x kind s) (puts name text d x kind t)
  put_same name text d x (Sysout class) = refl
  put_same name text d x Dummy = refl
  put_same name text d x (Cards cards) = refl
  put_same name text d x (Set p) = put_in_same name text d x p x.taken

  put_unless_same : (b : Bool) (name text : List ℕ) (d : ℕ) (x : DdState) (kind : DdKind) →
      IsSame (puts_unless b name text d x kind s) (puts_unless b name text d x kind t)
  put_unless_same true name text d x kind = refl
  put_unless_same false name text d x kind = put_same name text d x kind

  ask_of_same : (step : StepPlan) (m : Move) (d : ℕ) (x : DdState) (dd : DdPlan) → IsSame (asks_of step m d x dd s) (asks_of step m d x dd t)
  ask_of_same step (From name) d x dd = let f = reads step d x t in get_same name d x f.member f.position f.text f.serial
  ask_of_same step (To name text) d x dd = put_unless_same (is_read_only dd.kind || is_concatenated (drop d step.dds)) name text d x dd.kind

  ask_dd_same : (x : Option DdState) (dd : Option DdPlan) (step : StepPlan) (m : Move) (d : ℕ) → IsSame (asks_dd x dd step m d s) (asks_dd x dd step m d t)
  ask_dd_same None dd step m d = refl
  ask_dd_same (Some x) None step m d = refl
  ask_dd_same (Some x) (Some dd) step m d = ask_of_same step m d x dd

  ask_same : (d : Option ℕ) (step : StepPlan) (m : Move) → IsSame (asks_at d step m s) (asks_at d step m t)
  ask_same None step m = refl
  ask_same (Some d) step m = ask_dd_same (slice_get own.dds d) (slice_get step.dds d) step m d

  receive_same : (d : Due) → IsSame (received_now d s) (received_now d t)
  receive_same (due.Data name text) = refl
  receive_same (due.Put name d text) = refl

  due_same : (d : Option Due) → IsSame (received_due d s) (received_due d t)
  due_same None = refl
  due_same (Some d) = uncancelled (received_now d s) (received_now d t) (receive_same d)

  -- ends and dispositions
  finish_same : (n : ℕ) (over : Option Outcome) → IsSame (finishes n over s) (finishes n over t)
  finish_same n (Some o) = refl
  finish_same n None = either (cancel_due cancels own.lines) _ _ _ _ refl refl

  dispose_set_same : (n dd : ℕ) (name : Option (List ℕ)) (p : SetPlan) (k : Option TakenSet) →
      IsSame (set_disposes fixed n dd name p k s) (set_disposes fixed n dd name p k t)
  dispose_set_same n dd name p None = refl
  dispose_set_same n dd name p (Some k) = refl

  dispose_at_same : (n dd : ℕ) (name : Option (List ℕ)) (kind : DdKind) (x : DdState) →
      IsSame (disposes_at fixed n dd name kind x s) (disposes_at fixed n dd name kind x t)
  dispose_at_same n dd name (Sysout class) x = refl
  dispose_at_same n dd name Dummy x = refl
  dispose_at_same n dd name (Cards cards) x = refl
  dispose_at_same n dd name (Set p) x = dispose_set_same n dd name p x.taken

  dispose_same : (x : Option DdState) (n dd : ℕ) (name : Option (List ℕ)) (kind : DdKind) →
      IsSame (disposes x fixed n dd name kind s) (disposes x fixed n dd name kind t)
  dispose_same None n dd name kind = refl
  dispose_same (Some x) n dd name kind = dispose_at_same n dd name kind x

  leave_same : (n dd : ℕ) (name : Option (List ℕ)) (p : SetPlan) (q : Option Passed) → IsSame (leaves fixed n dd name p q s) (leaves fixed n dd name p q t)
  leave_same n dd name p None = refl
  leave_same n dd name p (Some q) = refl

  left_same : (n dd : ℕ) (name : Option (List ℕ)) (kind : DdKind) → IsSame (left_at fixed n dd name kind s) (left_at fixed n dd name kind t)
  left_same n dd name (Sysout class) = refl
  left_same n dd name Dummy = refl
  left_same n dd name (Cards cards) = refl
  left_same n dd name (Set p) = leave_same n dd name p (passed_by own.passed n dd)

  -- takes
  module _ (n dd : ℕ) (d : DdPlan) where
    abbrev IsBesideTake : Done → Done → Type 0
    IsBesideTake x y = IsBeside fixed (Take n dd d) store own x y

    decided_same : (p : SetPlan) (key : Key) (x : Decision) → IsSame (decided fixed n dd d.name p key s x) (decided fixed n dd d.name p key t x)
    decided_same p key (Refuses fault) = refl
    decided_same p key (Takes serial h) = refl

    fault_told : (p : SetPlan) (key : Key) (x : Decision) → x ≡ Refuses F6 → (decided fixed n dd d.name p key s x).lines ≡ [] → ⊥
    fault_told p key (Refuses fault) e told = absurd cc
    fault_told p key (Takes serial h) e told = absurd cc

    by_grant : (p : SetPlan) (key : Key) → d.kind ≡ Set p → meaning_at fixed.meanings n dd ≡ Means key → (goal : Target) (known there space : Bool) →
        goal ≡ target_in fixed n dd p key store own →
        (decide goal known there space false ≡ decide goal known there space true) ⊎ ToMake goal known there space →
        IsBesideTake (decided fixed n dd d.name p key s (decide goal known there space false))
        (decided fixed n dd d.name p key t (decide goal known there space true))
    by_grant p key for meant goal known there space is (inl e) =
        same (subst (λ (x : Decision). IsSame (decided fixed n dd d.name p key s x) (decided fixed n dd d.name p key t (decide goal known there space true)))
        (sym e) (decided_same p key (decide goal known there space true)))
    by_grant p key for meant goal known there space is (inr (serial, looked, refused, taken)) = wants (record {
      step = n;
      number = dd;
      dd = d;
      plan = p;
      key = key;
      serial = serial;
      takes = refl;
      for_set = for;
      meant = meant;
      looked = subst (λ (x : Target). looked_at x ≡ Some serial) is looked;
      told = fault_told p key (decide goal known there space false) refused;
      made = ap (λ (x : Decision). (decided fixed n dd d.name p key t x).made) taken;
    })

    by_meaning : (p : SetPlan) → d.kind ≡ Set p → (r : Resolution) → meaning_at fixed.meanings n dd ≡ r →
        IsBesideTake (takes_set fixed n dd d.name p s r) (takes_set fixed n dd d.name p t r)
    by_meaning p for (Fails fault) e = same refl
    by_meaning p for (Means key) e =
        let x : Target = target_in fixed n dd p key store own in
        by_grant p key for e x (is_known fixed.volumes (looked_at x)) (is_there store key (looked_at x)) (is_some p.space) refl
        (grant_or_not x (is_known fixed.volumes (looked_at x)) (is_there store key (looked_at x)) (is_some p.space))

    by_kind : (kind : DdKind) → d.kind ≡ kind → IsBesideTake (takes fixed n dd d.name kind s) (takes fixed n dd d.name kind t)
    by_kind (Sysout class) e = same refl
    by_kind Dummy e = same refl
    by_kind (Cards cards) e = same refl
    by_kind (Set p) e = by_meaning p e (meaning_at fixed.meanings n dd) refl

    take_beside : (b : Bool) → IsBesideTake (takes fixed n dd d.name d.kind s) (takes fixed n dd d.name d.kind t) →
        IsBesideTake (if_runs b s (takes fixed n dd d.name d.kind s)) (if_runs b t (takes fixed n dd d.name d.kind t))
    take_beside true h = h
    take_beside false h = same refl

  pub act_beside : (a : Action) → IsBeside fixed a store own (act fixed a s) (act fixed a t)
  unfolding act
  act_beside (Start n step) = same refl
  act_beside (Take n dd d) = take_beside n dd d own.runs (by_kind n dd d d.kind refl)
  act_beside (Ask step move) =
      same (if_running (asks_open own) _ _ (uncancelled (asks_at (dd_of step.dds (dd_name move)) step move s)
      (asks_at (dd_of step.dds (dd_name move)) step move t)
      (ask_same (dd_of step.dds (dd_name move)) step move)))
  act_beside Receive = same (if_running (asks_open own) _ _ (due_same own.due))
  act_beside (Finish n) = same (either own.runs _ _ _ _ (finish_same n own.over) refl)
  act_beside (Dispose n dd d) = same (if_running own.runs _ _ (dispose_same (slice_get own.dds (dd - 1)) n dd d.name d.kind))
  act_beside (Left n dd d) = same (left_same n dd d.name d.kind)
  act_beside Over = same refl
