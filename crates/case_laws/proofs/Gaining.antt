-- No action gives a set more tracks, but for a growth that is granted and the set that it makes.
use Rattle.std.proofs.Common.{◌≡◌, ◌≤◌, ◌-◌, ℕ, Bool, true, false, cond, List, [], Option, Some, None, arith, refl, sym, ap, subst}
use Rattle.std.specs.Prelude.{◌||◌, ◌==◌, drop, slice_get, is_some}
use Rattle.jname_core.specs.declared.key.Key.{Key}
use Rattle.jcl_plan.specs.declared.outcome.Outcome.{Outcome}
use Rattle.jcl_plan.specs.declared.plan.DdKind.{DdKind}
use Rattle.jcl_plan.specs.declared.plan.DdKind.TheVariants.{Cards, Dummy, Set, Sysout}
use Rattle.jcl_plan.specs.declared.plan.DdPlan.{DdPlan}
use Rattle.jcl_plan.specs.declared.plan.SetPlan.{SetPlan}
use Rattle.jcl_plan.specs.declared.plan.StepPlan.{StepPlan}
use Rattle.jcl_meaning.specs.declared.program.Move.{Move}
use Rattle.jcl_meaning.specs.declared.program.Move.TheVariants.{From, To}
use Rattle.jcl_meaning.specs.declared.state.DdState.{DdState}
use Rattle.jcl_meaning.specs.declared.state.Disposed.{Disposed}
use Rattle.jcl_meaning.specs.declared.state.Due.{Due}
use Rattle.jcl_meaning.specs.declared.state.Due.TheVariants as due
use Rattle.jcl_meaning.specs.declared.state.Passed.{Passed}
use Rattle.jcl_meaning.specs.declared.state.Resolution.{Resolution}
use Rattle.jcl_meaning.specs.declared.state.Resolution.TheVariants.{Means, Fails}
use Rattle.jcl_meaning.specs.declared.state.TakenSet.{TakenSet}
use Rattle.jcl_meaning.specs.declared.store.DataSet.{DataSet}
use Rattle.jcl_meaning.specs.declared.take.Decision.{Decision}
use Rattle.jcl_meaning.specs.declared.take.Decision.TheVariants.{Refuses, Takes}
use Rattle.jcl_meaning.specs.declared.take.How.{How}
use Rattle.jcl_meaning.specs.declared.take.How.TheVariants as how
use Rattle.jcl_meaning.specs.declared.take.Target.{Target}
use Rattle.jcl_meaning.specs.declared.take.Target.TheVariants as target
use Rattle.jcl_meaning.specs.Acts.{act}
use Rattle.jcl_meaning.specs.Agendas.{Action, Ask, Dispose, Finish, Left, Over, Receive, Start, Take}
use Rattle.jcl_meaning.specs.Dispositions.{changed}
use Rattle.jcl_meaning.specs.EndActs.{disposes, disposes_at, finishes, leaves, left_at, passed_by, tracks_released, set_disposed, set_disposes}
use Rattle.jcl_meaning.specs.Programs.{appended, dd_of, emptied, empties, is_concatenated, is_full, is_read_only, or_nothing}
use Rattle.jcl_meaning.specs.RequestActs.{appended_at, asks_at, asks_dd, asks_of, dd_name, gets_by, head_or, put_grows, put_to_set, puts, puts_in, puts_unless, reads, received_due, received_now, store_appended}
use Rattle.jcl_meaning.specs.Resolutions.{meaning_at}
use Rattle.jcl_meaning.specs.States.{Done, Fixed, State, asks_open, cancel_due, if_runs, unless_cancelled}
use Rattle.jcl_meaning.specs.TakeActs.{decided, decision_at, takes, takes_set, target_at}
use Rattle.jcl_meaning.specs.Takes.{decide, is_known, is_there, looked_at, releases, secondary_of}
use Rattle.world_meaning.specs.Tracks.{tracks_of}
use Rattle.case_laws.specs.Gains.{Gains, GainsNone, grows, none, one}
use Rattle.case_laws.proofs.Gained.{all_back, chained, changes, cut_if, rewritten, unchanged}

-- a primary that is not granted makes no set
grant_needed : (t : Target) (known there space granted : Bool) (serial : List ℕ) → decide t known there space granted ≡ Takes serial how.Made → granted ≡ true
grant_needed t known there space true serial e = refl
grant_needed (target.Makes None) known there space false serial e = absurd cc
grant_needed (target.Makes (Some v)) false there space false serial e = absurd cc
grant_needed (target.Makes (Some v)) true true space false serial e = absurd cc
grant_needed (target.Makes (Some v)) true false false false serial e = absurd cc
grant_needed (target.Makes (Some v)) true false true false serial e = absurd cc
grant_needed (target.Finds v) false there space false serial e = absurd cc
grant_needed (target.Finds v) true false space false serial e = absurd cc
grant_needed (target.Finds v) true true space false serial e = absurd cc
grant_needed (target.Receives p) known false space false serial e = absurd cc
grant_needed (target.Receives p) known true space false serial e = absurd cc
grant_needed (target.FindsByCatalog v) known false space false serial e = absurd cc
grant_needed (target.FindsByCatalog v) known true space false serial e = absurd cc
grant_needed target.Misses known there space false serial e = absurd cc

emptied_tracks : (b : Bool) (o : Option DataSet) → (emptied b (or_nothing o)).tracks ≤ tracks_of o
emptied_tracks true None = omega arith
emptied_tracks true (Some set) = omega arith
emptied_tracks false None = omega arith
emptied_tracks false (Some set) = omega arith

appended_tracks : (text : List ℕ) (o : Option DataSet) → (appended text (or_nothing o)).tracks ≤ tracks_of o
appended_tracks text None = omega arith
appended_tracks text (Some set) = omega arith

module _ (fixed : Fixed) (a : Action) (s : State) where
  -- the sets are as they were
  still : (d : Done) → d.state.store ≡ s.store → d.made ≡ [] → Gains fixed a s d
  still d e made = none (subst (GainsNone s.store) (sym e) (unchanged s.store)) made

  either : (b : Bool) (d e : Done) → Gains fixed a s d → Gains fixed a s e → Gains fixed a s (cond b d e)
  either true d e g h = g
  either false d e g h = h

  if_running : (b : Bool) (d : Done) → Gains fixed a s d → Gains fixed a s (if_runs b s d)
  if_running true d g = g
  if_running false d g = still _ refl refl

  uncancelled : (d : Done) → Gains fixed a s d → Gains fixed a s (unless_cancelled s d)
  uncancelled d g = either (cancel_due s.answers.cancels s.own.lines) _ d (still _ refl refl) g

  -- takes
  by_how : (n dd : ℕ) (d : DdPlan) (p : SetPlan) (key : Key) (serial : List ℕ) (h : How) → a ≡ Take n dd d → d.kind ≡ Set p →
      (h ≡ how.Made → s.answers.primary ≡ true) → Gains fixed a s (decided fixed n dd d.name p key s (Takes serial h))
  by_how n dd d p key serial how.Made is kind granted = one (record {
    step = n;
    number = dd;
    dd = d;
    plan = p;
    key = key;
    serial = serial;
    line = _;
    takes = is;
    for_set = kind;
    granted = granted refl;
    told = refl;
    made = refl;
    store = refl;
  })
  by_how n dd d p key serial how.Found is kind granted = still _ refl refl
  by_how n dd d p key serial how.FoundByCatalog is kind granted = still _ refl refl
  by_how n dd d p key serial (how.Received made by_catalog) is kind granted = still _ refl refl

  by_decision : (n dd : ℕ) (d : DdPlan) (p : SetPlan) (key : Key) (x : Decision) → a ≡ Take n dd d → d.kind ≡ Set p →
      ((serial : List ℕ) → x ≡ Takes serial how.Made → s.answers.primary ≡ true) → Gains fixed a s (decided fixed n dd d.name p key s x)
  by_decision n dd d p key (Refuses fault) is kind granted = none (all_back s.own.dds s.store) refl
  by_decision n dd d p key (Takes serial h) is kind granted = by_how n dd d p key serial h is kind (λ e. granted serial (ap (Takes serial) e))

  by_meaning : (n dd : ℕ) (d : DdPlan) (p : SetPlan) (r : Resolution) → a ≡ Take n dd d → d.kind ≡ Set p → Gains fixed a s (takes_set fixed n dd d.name p s r)
  by_meaning n dd d p (Fails fault) is kind = none (all_back s.own.dds s.store) refl
  by_meaning n dd d p (Means key) is kind =
      let t : Target = target_at fixed n dd p key s in
      by_decision n dd d p key (decision_at fixed p key s t) is kind
      (λ serial. grant_needed t (is_known fixed.volumes (looked_at t)) (is_there s.store key (looked_at t)) (is_some p.space) s.answers.primary serial)

  take_gains : (n dd : ℕ) (d : DdPlan) (kind : DdKind) → a ≡ Take n dd d → d.kind ≡ kind → Gains fixed a s (takes fixed n dd d.name kind s)
  take_gains n dd d (Sysout class) is e = still _ refl refl
  take_gains n dd d Dummy is e = still _ refl refl
  take_gains n dd d (Cards cards) is e = still _ refl refl
  take_gains n dd d (Set p) is e = by_meaning n dd d p (meaning_at fixed.meanings n dd) is e

  -- requests
  get_gains : (name : List ℕ) (d : ℕ) (x : DdState) (m p : ℕ) (text serial : Option (List ℕ)) → Gains fixed a s (gets_by name d x s m p text serial)
  get_gains name d x m p None serial = still _ refl refl
  get_gains name d x m p (Some text) None = still _ refl refl
  get_gains name d x m p (Some text) (Some serial) = still _ refl refl

  grow_gains : (b : Bool) → head_or true s.answers.grants ≡ b → (name text : List ℕ) (d : ℕ) (x : DdState) (t : TakenSet) (n : ℕ) (set : DataSet) →
      set.tracks ≤ tracks_of (s.store.set t.key t.serial) → Gains fixed a s (put_grows b name text d x t n set s)
  grow_gains true e name text d x t n set few = grows e refl
  grow_gains false e name text d x t n set few = none (rewritten s.store t.key t.serial (s.store.set t.key t.serial) set refl few) refl

  set_gains : (name text : List ℕ) (d : ℕ) (x : DdState) (t : TakenSet) (n : ℕ) (set : DataSet) → set.tracks ≤ tracks_of (s.store.set t.key t.serial) →
      Gains fixed a s (put_to_set name text d x t n set s)
  set_gains name text d x t n set few =
      either (is_full set) _ _
      (either (n == 0) _ _ (none (rewritten s.store t.key t.serial (s.store.set t.key t.serial) set refl few) refl)
      (grow_gains (head_or true s.answers.grants) refl name text d x t n set few))
      (none (rewritten s.store t.key t.serial (s.store.set t.key t.serial) set refl few) refl)

  put_in_gains : (name text : List ℕ) (d : ℕ) (x : DdState) (p : SetPlan) (t : Option TakenSet) → Gains fixed a s (puts_in name text d x p t s)
  put_in_gains name text d x p None = still _ refl refl
  put_in_gains name text d x p (Some t) =
      set_gains name text d x t (secondary_of p.space) (emptied (empties p.status x.written) (or_nothing (s.store.set t.key t.serial)))
      (emptied_tracks (empties p.status x.written) (s.store.set t.key t.serial))

  put_gains : (name text : List ℕ) (d : ℕ) (x : DdState) (kind : DdKind) → Gains fixed a s (puts name text d x kind s)
  put_gains name text d x (Sysout class) = still _ refl refl
  put_gains name text d x Dummy = still _ refl refl
  put_gains name text d x (Cards cards) = still _ refl refl
  put_gains name text d x (Set p) = put_in_gains name text d x p x.taken

  put_unless_gains : (b : Bool) (name text : List ℕ) (d : ℕ) (x : DdState) (kind : DdKind) → Gains fixed a s (puts_unless b name text d x kind s)
  put_unless_gains true name text d x kind = still _ refl refl
  put_unless_gains false name text d x kind = put_gains name text d x kind

  ask_of_gains : (step : StepPlan) (m : Move) (d : ℕ) (x : DdState) (dd : DdPlan) → Gains fixed a s (asks_of step m d x dd s)
  ask_of_gains step (From name) d x dd = let f = reads step d x s in get_gains name d x f.member f.position f.text f.serial
  ask_of_gains step (To name text) d x dd = put_unless_gains (is_read_only dd.kind || is_concatenated (drop d step.dds)) name text d x dd.kind

  ask_dd_gains : (x : Option DdState) (dd : Option DdPlan) (step : StepPlan) (m : Move) (d : ℕ) → Gains fixed a s (asks_dd x dd step m d s)
  ask_dd_gains None dd step m d = still _ refl refl
  ask_dd_gains (Some x) None step m d = still _ refl refl
  ask_dd_gains (Some x) (Some dd) step m d = ask_of_gains step m d x dd

  ask_gains : (d : Option ℕ) (step : StepPlan) (m : Move) → Gains fixed a s (asks_at d step m s)
  ask_gains None step m = still _ refl refl
  ask_gains (Some d) step m = ask_dd_gains (slice_get s.own.dds d) (slice_get step.dds d) step m d

  append_gains : (t : Option TakenSet) (text : List ℕ) → GainsNone s.store (appended_at t text s.store)
  append_gains None text = unchanged s.store
  append_gains (Some t) text =
      rewritten s.store t.key t.serial (s.store.set t.key t.serial) (appended text (or_nothing (s.store.set t.key t.serial))) refl
      (appended_tracks text (s.store.set t.key t.serial))

  append_dd_gains : (x : Option DdState) (text : List ℕ) → GainsNone s.store (store_appended x text s.store)
  append_dd_gains None text = unchanged s.store
  append_dd_gains (Some x) text = append_gains x.taken text

  receive_gains : (d : Due) → Gains fixed a s (received_now d s)
  receive_gains (due.Data name text) = still _ refl refl
  receive_gains (due.Put name d text) = none (append_dd_gains (slice_get s.own.dds d) text) refl

  due_gains : (d : Option Due) → Gains fixed a s (received_due d s)
  due_gains None = still _ refl refl
  due_gains (Some d) = uncancelled (received_now d s) (receive_gains d)

  -- ends and dispositions
  finish_gains : (n : ℕ) (over : Option Outcome) → Gains fixed a s (finishes n over s)
  finish_gains n (Some o) = still _ refl refl
  finish_gains n None = either (cancel_due s.answers.cancels s.own.lines) _ _ (still _ refl refl) (still _ refl refl)

  disposed_gains : (n dd : ℕ) (name : Option (List ℕ)) (p : SetPlan) (t : TakenSet) (d : Disposed) → Gains fixed a s (set_disposed fixed n dd name p t s d)
  disposed_gains n dd name p t d =
      none (chained s.store (changed d.change s.store t.key t.serial fixed.date)
      (tracks_released (releases p.space) t.key t.serial (changed d.change s.store t.key t.serial fixed.date)) (changes d.change s.store t.key t.serial fixed.date)
      (cut_if (releases p.space) (changed d.change s.store t.key t.serial fixed.date) t.key t.serial)) refl

  dispose_set_gains : (n dd : ℕ) (name : Option (List ℕ)) (p : SetPlan) (t : Option TakenSet) → Gains fixed a s (set_disposes fixed n dd name p t s)
  dispose_set_gains n dd name p None = still _ refl refl
  dispose_set_gains n dd name p (Some t) = disposed_gains n dd name p t _

  dispose_at_gains : (n dd : ℕ) (name : Option (List ℕ)) (kind : DdKind) (x : DdState) → Gains fixed a s (disposes_at fixed n dd name kind x s)
  dispose_at_gains n dd name (Sysout class) x = still _ refl refl
  dispose_at_gains n dd name Dummy x = still _ refl refl
  dispose_at_gains n dd name (Cards cards) x = still _ refl refl
  dispose_at_gains n dd name (Set p) x = dispose_set_gains n dd name p x.taken

  dispose_gains : (x : Option DdState) (n dd : ℕ) (name : Option (List ℕ)) (kind : DdKind) → Gains fixed a s (disposes x fixed n dd name kind s)
  dispose_gains None n dd name kind = still _ refl refl
  dispose_gains (Some x) n dd name kind = dispose_at_gains n dd name kind x

  leave_gains : (n dd : ℕ) (name : Option (List ℕ)) (p : SetPlan) (q : Option Passed) → Gains fixed a s (leaves fixed n dd name p q s)
  leave_gains n dd name p None = still _ refl refl
  leave_gains n dd name p (Some q) = none (changes _ s.store q.key q.serial fixed.date) refl

  left_gains : (n dd : ℕ) (name : Option (List ℕ)) (kind : DdKind) → Gains fixed a s (left_at fixed n dd name kind s)
  left_gains n dd name (Sysout class) = still _ refl refl
  left_gains n dd name Dummy = still _ refl refl
  left_gains n dd name (Cards cards) = still _ refl refl
  left_gains n dd name (Set p) = leave_gains n dd name p (passed_by s.own.passed n dd)

pub act_gains : (fixed : Fixed) (a : Action) (s : State) → Gains fixed a s (act fixed a s)
unfolding act
act_gains fixed (Start n step) s = still fixed (Start n step) s _ refl refl
act_gains fixed (Take n dd d) s =
    if_running fixed (Take n dd d) s s.own.runs (takes fixed n dd d.name d.kind s) (take_gains fixed (Take n dd d) s n dd d d.kind refl refl)
act_gains fixed (Ask step move) s =
    if_running fixed (Ask step move) s (asks_open s.own) _
    (uncancelled fixed (Ask step move) s _ (ask_gains fixed (Ask step move) s (dd_of step.dds (dd_name move)) step move))
act_gains fixed Receive s = if_running fixed Receive s (asks_open s.own) _ (due_gains fixed Receive s s.own.due)
act_gains fixed (Finish n) s = either fixed (Finish n) s s.own.runs _ _ (finish_gains fixed (Finish n) s n s.own.over) (still fixed (Finish n) s _ refl refl)
act_gains fixed (Dispose n dd d) s =
    if_running fixed (Dispose n dd d) s s.own.runs _ (dispose_gains fixed (Dispose n dd d) s (slice_get s.own.dds (dd - 1)) n dd d.name d.kind)
act_gains fixed (Left n dd d) s = left_gains fixed (Left n dd d) s n dd d.name d.kind
act_gains fixed Over s = still fixed Over s _ refl refl
