-- An action that makes no set and grows none when all is granted does the same, whatever is granted.
use Rattle.std.proofs.Common.{◌≡◌, ◌-◌, ◌⊎◌, inl, inr, ℕ, Bool, true, false, cond, List, [], ◌∷◌, Option, Some, None, refl, sym, ap, subst}
use Rattle.std.specs.Prelude.{◌||◌, ◌==◌, drop, slice_get, is_some}
use Rattle.jname_core.specs.declared.key.Key.{Key}
use Rattle.jcl_plan.specs.declared.outcome.Outcome.{Outcome}
use Rattle.jcl_plan.specs.declared.plan.DdKind.{DdKind}
use Rattle.jcl_plan.specs.declared.plan.DdKind.TheVariants.{Cards, Dummy, Set, Sysout}
use Rattle.jcl_plan.specs.declared.plan.DdPlan.{DdPlan}
use Rattle.jcl_plan.specs.declared.plan.SetPlan.{SetPlan}
use Rattle.jcl_plan.specs.declared.plan.StepPlan.{StepPlan}
use Rattle.jcl_meaning.specs.declared.program.Move.{Move}
use Rattle.jcl_meaning.specs.declared.program.Move.TheVariants.{From, To}
use Rattle.jcl_meaning.specs.declared.state.DdState.{DdState}
use Rattle.jcl_meaning.specs.declared.state.Due.{Due}
use Rattle.jcl_meaning.specs.declared.state.Due.TheVariants as due
use Rattle.jcl_meaning.specs.declared.state.Own.{Own}
use Rattle.jcl_meaning.specs.declared.state.Passed.{Passed}
use Rattle.jcl_meaning.specs.declared.state.Place.{Place}
use Rattle.jcl_meaning.specs.declared.state.Resolution.{Resolution}
use Rattle.jcl_meaning.specs.declared.state.Resolution.TheVariants.{Means, Fails}
use Rattle.jcl_meaning.specs.declared.state.TakenSet.{TakenSet}
use Rattle.jcl_meaning.specs.declared.store.DataSet.{DataSet}
use Rattle.jcl_meaning.specs.declared.take.Decision.{Decision}
use Rattle.jcl_meaning.specs.declared.take.Decision.TheVariants.{Refuses, Takes}
use Rattle.jcl_meaning.specs.declared.take.How.TheVariants as how
use Rattle.jcl_meaning.specs.declared.take.Target.{Target}
use Rattle.jcl_meaning.specs.declared.take.Target.TheVariants as target
use Rattle.jcl_meaning.specs.Acts.{act}
use Rattle.jcl_meaning.specs.Agendas.{Action, Ask, Dispose, Finish, Left, Over, Receive, Start, Take}
use Rattle.jcl_meaning.specs.EndActs.{disposes, disposes_at, finishes, leaves, left_at, passed_by, set_disposes}
use Rattle.jcl_meaning.specs.Programs.{dd_of, emptied, empties, is_concatenated, is_full, is_read_only, or_nothing}
use Rattle.jcl_meaning.specs.RequestActs.{asks_at, asks_dd, asks_of, dd_name, gets_by, put_grows, put_to_set, puts, puts_in, puts_unless, reads, received_due, received_now}
use Rattle.jcl_meaning.specs.Resolutions.{meaning_at}
use Rattle.jcl_meaning.specs.States.{Done, Fixed, State, asks_open, cancel_due, if_runs, unless_cancelled}
use Rattle.jcl_meaning.specs.Stores.{Store}
use Rattle.jcl_meaning.specs.TakeActs.{decided, takes, takes_set, target_at}
use Rattle.jcl_meaning.specs.Takes.{decide, is_known, is_there, looked_at, secondary_of}
use Rattle.case_laws.specs.Lines.{is_growth}

-- the same is done
pub record IsSameDone (d e : Done) : Type 0 where
  pub lines : d.lines ≡ e.lines
  pub store : d.state.store ≡ e.state.store
  pub own : d.state.own ≡ e.state.own

-- beside what is done when all is granted, which may be a set made or grown
pub data IsBeside (d e : Done) : Type 0 where
  same : IsSameDone d e → IsBeside d e
  makes : (p : Place) (ps : List Place) → e.made ≡ p ∷ ps → IsBeside d e
  grows : is_growth e.lines ≡ true → IsBeside d e

-- a decision needs no grant, or it is to make a set
grant_or_not : (t : Target) (known there space granted : Bool) →
    (decide t known there space granted ≡ decide t known there space true) ⊎ ((serial : List ℕ) × (decide t known there space true ≡ Takes serial how.Made))
grant_or_not t known there space true = inl refl
grant_or_not (target.Makes None) known there space false = inl refl
grant_or_not (target.Makes (Some v)) false there space false = inl refl
grant_or_not (target.Makes (Some v)) true true space false = inl refl
grant_or_not (target.Makes (Some v)) true false false false = inl refl
grant_or_not (target.Makes (Some v)) true false true false = inr (v, refl)
grant_or_not (target.Finds v) false there space false = inl refl
grant_or_not (target.Finds v) true false space false = inl refl
grant_or_not (target.Finds v) true true space false = inl refl
grant_or_not (target.Receives p) known false space false = inl refl
grant_or_not (target.Receives p) known true space false = inl refl
grant_or_not (target.FindsByCatalog v) known false space false = inl refl
grant_or_not (target.FindsByCatalog v) known true space false = inl refl
grant_or_not target.Misses known there space false = inl refl

module _ (fixed : Fixed) (store : Store) (own : Own) (outcomes : List Outcome) (cancels : List (Option ℕ)) (growth primary : Bool) where
  -- a state, and the same with all granted
  abbrev s : State
  s = record { store = store; own = own; answers = record { outcomes = outcomes; cancels = cancels; grants = growth ∷ []; primary = primary } }

  abbrev t : State
  t = record { store = store; own = own; answers = record { outcomes = outcomes; cancels = cancels; grants = true ∷ []; primary = true } }

  one : (d e : Done) → d.lines ≡ e.lines → d.state.store ≡ e.state.store → d.state.own ≡ e.state.own → IsBeside d e
  one d e a b c = same (record { lines = a; store = b; own = c })

  either : (b : Bool) (d e f g : Done) → IsBeside d f → IsBeside e g → IsBeside (cond b d e) (cond b f g)
  either true d e f g h k = h
  either false d e f g h k = k

  if_running : (b : Bool) (d e : Done) → IsBeside d e → IsBeside (if_runs b s d) (if_runs b t e)
  if_running true d e h = h
  if_running false d e h = one _ _ refl refl refl

  uncancelled : (d e : Done) → IsBeside d e → IsBeside (unless_cancelled s d) (unless_cancelled t e)
  uncancelled d e h = either (cancel_due cancels own.lines) _ d _ e (one _ _ refl refl refl) h

  -- takes
  by_decision : (n dd : ℕ) (name : Option (List ℕ)) (p : SetPlan) (key : Key) (d : Decision) →
      IsBeside (decided fixed n dd name p key s d) (decided fixed n dd name p key t d)
  by_decision n dd name p key (Refuses fault) = one _ _ refl refl refl
  by_decision n dd name p key (Takes serial h) = one _ _ refl refl refl

  by_grant : (n dd : ℕ) (name : Option (List ℕ)) (p : SetPlan) (key : Key) (d e : Decision) → (d ≡ e) ⊎ ((serial : List ℕ) × (e ≡ Takes serial how.Made)) →
      IsBeside (decided fixed n dd name p key s d) (decided fixed n dd name p key t e)
  by_grant n dd name p key d e (inl is) =
      subst (λ (x : Decision). IsBeside (decided fixed n dd name p key s x) (decided fixed n dd name p key t e)) (sym is) (by_decision n dd name p key e)
  by_grant n dd name p key d e (inr (serial, is)) =
      makes (record { step = n; dd = dd; serial = serial }) [] (ap (λ (x : Decision). (decided fixed n dd name p key t x).made) is)

  by_meaning : (n dd : ℕ) (name : Option (List ℕ)) (p : SetPlan) (r : Resolution) → IsBeside (takes_set fixed n dd name p s r) (takes_set fixed n dd name p t r)
  by_meaning n dd name p (Fails fault) = one _ _ refl refl refl
  by_meaning n dd name p (Means key) =
      let x : Target = target_at fixed n dd p key t in
      by_grant n dd name p key _ _ (grant_or_not x (is_known fixed.volumes (looked_at x)) (is_there store key (looked_at x)) (is_some p.space) primary)

  take_beside : (n dd : ℕ) (name : Option (List ℕ)) (kind : DdKind) → IsBeside (takes fixed n dd name kind s) (takes fixed n dd name kind t)
  take_beside n dd name (Sysout class) = one _ _ refl refl refl
  take_beside n dd name Dummy = one _ _ refl refl refl
  take_beside n dd name (Cards cards) = one _ _ refl refl refl
  take_beside n dd name (Set p) = by_meaning n dd name p (meaning_at fixed.meanings n dd)

  -- requests
  get_beside : (name : List ℕ) (d : ℕ) (x : DdState) (m p : ℕ) (text serial : Option (List ℕ)) →
      IsBeside (gets_by name d x s m p text serial) (gets_by name d x t m p text serial)
  get_beside name d x m p None serial = one _ _ refl refl refl
  get_beside name d x m p (Some text) None = one _ _ refl refl refl
  get_beside name d x m p (Some text) (Some serial) = one _ _ refl refl refl

  set_beside : (name text : List ℕ) (d : ℕ) (x : DdState) (k : TakenSet) (n : ℕ) (set : DataSet) →
      IsBeside (put_to_set name text d x k n set s) (put_to_set name text d x k n set t)
  set_beside name text d x k n set =
      either (is_full set) _ _ _ _ (either (n == 0) _ (put_grows growth name text d x k n set s) _ (put_grows true name text d x k n set t)
      (one _ _ refl refl refl) (grows refl)) (one _ _ refl refl refl)

  put_in_beside : (name text : List ℕ) (d : ℕ) (x : DdState) (p : SetPlan) (k : Option TakenSet) →
      IsBeside (puts_in name text d x p k s) (puts_in name text d x p k t)
  put_in_beside name text d x p None = one _ _ refl refl refl
  put_in_beside name text d x p (Some k) =
      set_beside name text d x k (secondary_of p.space) (emptied (empties p.status x.written) (or_nothing (store.set k.key k.serial)))

  put_beside : (name text : List ℕ) (d : ℕ) (x : DdState) (kind : DdKind) → IsBeside (puts name text d x kind s) (puts name text d x kind t)
  put_beside name text d x (Sysout class) = one _ _ refl refl refl
  put_beside name text d x Dummy = one _ _ refl refl refl
  put_beside name text d x (Cards cards) = one _ _ refl refl refl
  put_beside name text d x (Set p) = put_in_beside name text d x p x.taken

  put_unless_beside : (b : Bool) (name text : List ℕ) (d : ℕ) (x : DdState) (kind : DdKind) →
      IsBeside (puts_unless b name text d x kind s) (puts_unless b name text d x kind t)
  put_unless_beside true name text d x kind = one _ _ refl refl refl
  put_unless_beside false name text d x kind = put_beside name text d x kind

  ask_of_beside : (step : StepPlan) (m : Move) (d : ℕ) (x : DdState) (dd : DdPlan) → IsBeside (asks_of step m d x dd s) (asks_of step m d x dd t)
  ask_of_beside step (From name) d x dd = let f = reads step d x t in get_beside name d x f.member f.position f.text f.serial
  ask_of_beside step (To name text) d x dd = put_unless_beside (is_read_only dd.kind || is_concatenated (drop d step.dds)) name text d x dd.kind

  ask_dd_beside : (x : Option DdState) (dd : Option DdPlan) (step : StepPlan) (m : Move) (d : ℕ) →
      IsBeside (asks_dd x dd step m d s) (asks_dd x dd step m d t)
  ask_dd_beside None dd step m d = one _ _ refl refl refl
  ask_dd_beside (Some x) None step m d = one _ _ refl refl refl
  ask_dd_beside (Some x) (Some dd) step m d = ask_of_beside step m d x dd

  ask_beside : (d : Option ℕ) (step : StepPlan) (m : Move) → IsBeside (asks_at d step m s) (asks_at d step m t)
  ask_beside None step m = one _ _ refl refl refl
  ask_beside (Some d) step m = ask_dd_beside (slice_get own.dds d) (slice_get step.dds d) step m d

  receive_beside : (d : Due) → IsBeside (received_now d s) (received_now d t)
  receive_beside (due.Data name text) = one _ _ refl refl refl
  receive_beside (due.Put name d text) = one _ _ refl refl refl

  due_beside : (d : Option Due) → IsBeside (received_due d s) (received_due d t)
  due_beside None = one _ _ refl refl refl
  due_beside (Some d) = uncancelled (received_now d s) (received_now d t) (receive_beside d)

  -- ends and dispositions
  finish_beside : (n : ℕ) (over : Option Outcome) → IsBeside (finishes n over s) (finishes n over t)
  finish_beside n (Some o) = one _ _ refl refl refl
  finish_beside n None = either (cancel_due cancels own.lines) _ _ _ _ (one _ _ refl refl refl) (one _ _ refl refl refl)

  dispose_set_beside : (n dd : ℕ) (name : Option (List ℕ)) (p : SetPlan) (k : Option TakenSet) →
      IsBeside (set_disposes fixed n dd name p k s) (set_disposes fixed n dd name p k t)
  dispose_set_beside n dd name p None = one _ _ refl refl refl
  dispose_set_beside n dd name p (Some k) = one _ _ refl refl refl

  dispose_at_beside : (n dd : ℕ) (name : Option (List ℕ)) (kind : DdKind) (x : DdState) →
      IsBeside (disposes_at fixed n dd name kind x s) (disposes_at fixed n dd name kind x t)
  dispose_at_beside n dd name (Sysout class) x = one _ _ refl refl refl
  dispose_at_beside n dd name Dummy x = one _ _ refl refl refl
  dispose_at_beside n dd name (Cards cards) x = one _ _ refl refl refl
  dispose_at_beside n dd name (Set p) x = dispose_set_beside n dd name p x.taken

  dispose_beside : (x : Option DdState) (n dd : ℕ) (name : Option (List ℕ)) (kind : DdKind) →
      IsBeside (disposes x fixed n dd name kind s) (disposes x fixed n dd name kind t)
  dispose_beside None n dd name kind = one _ _ refl refl refl
  dispose_beside (Some x) n dd name kind = dispose_at_beside n dd name kind x

  leave_beside : (n dd : ℕ) (name : Option (List ℕ)) (p : SetPlan) (q : Option Passed) → IsBeside (leaves fixed n dd name p q s) (leaves fixed n dd name p q t)
  leave_beside n dd name p None = one _ _ refl refl refl
  leave_beside n dd name p (Some q) = one _ _ refl refl refl

  left_beside : (n dd : ℕ) (name : Option (List ℕ)) (kind : DdKind) → IsBeside (left_at fixed n dd name kind s) (left_at fixed n dd name kind t)
  left_beside n dd name (Sysout class) = one _ _ refl refl refl
  left_beside n dd name Dummy = one _ _ refl refl refl
  left_beside n dd name (Cards cards) = one _ _ refl refl refl
  left_beside n dd name (Set p) = leave_beside n dd name p (passed_by own.passed n dd)

  pub act_beside : (a : Action) → IsBeside (act fixed a s) (act fixed a t)
  unfolding act
  act_beside (Start n step) = one _ _ refl refl refl
  act_beside (Take n dd d) = if_running own.runs (takes fixed n dd d.name d.kind s) (takes fixed n dd d.name d.kind t) (take_beside n dd d.name d.kind)
  act_beside (Ask step move) =
      if_running (asks_open own) _ _ (uncancelled (asks_at (dd_of step.dds (dd_name move)) step move s) (asks_at (dd_of step.dds (dd_name move)) step move t)
      (ask_beside (dd_of step.dds (dd_name move)) step move))
  act_beside Receive = if_running (asks_open own) _ _ (due_beside own.due)
  act_beside (Finish n) = either own.runs _ _ _ _ (finish_beside n own.over) (one _ _ refl refl refl)
  act_beside (Dispose n dd d) = if_running own.runs _ _ (dispose_beside (slice_get own.dds (dd - 1)) n dd d.name d.kind)
  act_beside (Left n dd d) = left_beside n dd d.name d.kind
  act_beside Over = one _ _ refl refl refl
