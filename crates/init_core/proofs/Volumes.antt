-- The sets that a job took are on configured volumes, and so are the operations that it starts.
use Rattle.std.proofs.Common.{◌≡◌, ◌-◌, ◌+◌, ◌||◌, ◌==◌, ℕ, zero, suc, Bool, true, false, cond, List, [], ◌∷◌, ◌++◌, All, Option, Some, None, drop, length, nat_lt, is_some, slice_get, refl, sym, ap, ◌∙◌, subst}
use Rattle.std.specs.Prelude.{IfSome, slice_set}
use Rattle.std.specs.List.{Contains}
use Rattle.std.specs.Option.{unwrap_or}
use Rattle.std.proofs.lemmas.List.Elements.{All-append, All-cons, All-get_or, All-head, All-nil, All-set, All-tail}
use Rattle.std.proofs.lemmas.Option.{get_or_from_slice_get, slice_get_within}
use Rattle.jname_core.specs.declared.key.Key.{Key}
use Rattle.jcl_plan.specs.declared.entry.JobLine.{JobLine}
use Rattle.jcl_plan.specs.declared.outcome.Abend.{Abend}
use Rattle.jcl_plan.specs.declared.outcome.Abend.TheVariants as abend
use Rattle.jcl_plan.specs.declared.outcome.Outcome.{Outcome}
use Rattle.jcl_plan.specs.declared.outcome.Outcome.TheVariants as outcome
use Rattle.jcl_plan.specs.declared.plan.DdKind.{DdKind}
use Rattle.jcl_plan.specs.declared.plan.DdKind.TheVariants.{Sysout, Dummy, Cards, Set}
use Rattle.jcl_plan.specs.declared.plan.DdPlan.{DdPlan}
use Rattle.jcl_plan.specs.declared.plan.JobPlan.{JobPlan}
use Rattle.jcl_plan.specs.declared.plan.SetPlan.{SetPlan}
use Rattle.jcl_plan.specs.declared.plan.StepPlan.{StepPlan}
use Rattle.jcl_meaning.specs.declared.program.Move.{Move}
use Rattle.jcl_meaning.specs.declared.program.Move.TheVariants.{From, To}
use Rattle.jcl_meaning.specs.declared.source.FoundRecord.{FoundRecord}
use Rattle.jcl_meaning.specs.declared.source.Source.{Source}
use Rattle.jcl_meaning.specs.declared.state.DdState.{DdState}
use Rattle.jcl_meaning.specs.declared.state.Due.{Due}
use Rattle.jcl_meaning.specs.declared.state.Due.TheVariants as due
use Rattle.jcl_meaning.specs.declared.state.Own.{Own}
use Rattle.jcl_meaning.specs.declared.state.Passed.{Passed}
use Rattle.jcl_meaning.specs.declared.state.Resolution.{Resolution}
use Rattle.jcl_meaning.specs.declared.state.Resolution.TheVariants.{Means, Fails}
use Rattle.jcl_meaning.specs.declared.state.TakenSet.{TakenSet}
use Rattle.jcl_meaning.specs.declared.store.DataSet.{DataSet}
use Rattle.jcl_meaning.specs.declared.take.Decision.{Decision}
use Rattle.jcl_meaning.specs.declared.take.Decision.TheVariants.{Refuses, Takes}
use Rattle.jcl_meaning.specs.declared.take.How.{How}
use Rattle.jcl_meaning.specs.declared.take.How.TheVariants as how
use Rattle.jcl_meaning.specs.declared.take.Target.{Target}
use Rattle.jcl_meaning.specs.declared.take.Target.TheVariants as target
use Rattle.jcl_meaning.specs.Acts.{act}
use Rattle.jcl_meaning.specs.Agendas.{Action}
use Rattle.jcl_meaning.specs.EndActs.{as_ending, disposes, disposes_at, end_line, finishes, leaves, left_at, passed_by, set_disposes}
use Rattle.jcl_meaning.specs.Programs.{at_source, dd_of, emptied, empties, is_concatenated, is_full, is_read_only, located, members_at, or_nothing, source_of, sources_from, taken_at, taken_by}
use Rattle.jcl_meaning.specs.RequestActs.{asks_at, asks_dd, asks_of, dd_name, gets_by, head_or, put_grows, put_to_set, puts, puts_in, puts_unless, reads, received_due, received_now}
use Rattle.jcl_meaning.specs.Resolutions.{meaning_at}
use Rattle.jcl_meaning.specs.States.{Answers, Done, Fixed, State, abended_by, asks_open, cancel_due, if_runs, silent, unless_cancelled}
use Rattle.jcl_meaning.specs.Stores.{Store}
use Rattle.jcl_meaning.specs.TakeActs.{decided, decision_at, new_dd, takes, takes_set, target_at}
use Rattle.jcl_meaning.specs.Takes.{decide, is_known, is_there, looked_at, secondary_of, taken}
use Rattle.world_meaning.specs.Turns.{Advanced, advance, answers_due, state_in, unless_silent}
use Rattle.turn_core.specs.Standing.{JobActs, count_at, undone}
use Rattle.turn_core.specs.Performing.{volume_started}
use Rattle.turn_core.specs.Turning.{Around}
use Rattle.turn_core.specs.declared.walk.Acted.{Acted}
use Rattle.turn_core.specs.declared.walk.Walk.{Walk}
use Rattle.init_core.specs.Running.{AreOn, IsTakenOn}

-- sets stand on configured volumes alone
abbrev pub StandOn : List (List ℕ) → Store → Type 0
StandOn volumes store = (key : Key) (serial : List ℕ) → is_some (store.set key serial) ≡ true → Contains volumes serial

abbrev pub IsOnOne : List (List ℕ) → Option (List ℕ) → Type 0
IsOnOne volumes serial = IfSome serial (λ v. Contains volumes v)

record IsFine (volumes : List (List ℕ)) (s : State) (d : Done) : Type 0 where
  on : AreOn volumes d.state.own.dds
  starts : IsOnOne volumes (volume_started d.lines)
  quiet : d.lines ≡ [] → d.state.store ≡ s.store

no_line : (l : JobLine) (ls : List JobLine) → l ∷ ls ≡ [] → ⊥
no_line l ls e = absurd cc

either : (volumes : List (List ℕ)) (s : State) (b : Bool) (d e : Done) → IsFine volumes s d → IsFine volumes s e → IsFine volumes s (cond b d e)
either volumes s true d e p q = p
either volumes s false d e p q = q

got : (volumes : List (List ℕ)) (dds : List DdState) (i : ℕ) → AreOn volumes dds → IfSome (slice_get dds i) (λ x. IsTakenOn volumes x.taken)
got volumes dds i all = by_option (slice_get dds i) refl
  where
    by_option : (o : Option DdState) → slice_get dds i ≡ o → IfSome o (λ x. IsTakenOn volumes x.taken)
    by_option None e = tt
    by_option (Some x) e =
        subst (λ (y : DdState). IsTakenOn volumes y.taken) (get_or_from_slice_get dds i x x e)
        (All-get_or (λ (y : DdState). IsTakenOn volumes y.taken) dds i x (slice_get_within dds i x e) all)

-- the sources that a GET reads
source_on : (volumes : List (List ℕ)) (store : Store) (kind : DdKind) (t : Option TakenSet) → IsTakenOn volumes t → IsOnOne volumes (source_of store kind t).serial
source_on volumes store (Sysout class) t on = tt
source_on volumes store Dummy t on = tt
source_on volumes store (Cards cards) t on = tt
source_on volumes store (Set p) None on = tt
source_on volumes store (Set p) (Some t) on = on

taken_on : (volumes : List (List ℕ)) (o : Option DdState) → IfSome o (λ x. IsTakenOn volumes x.taken) → IsTakenOn volumes (taken_by o)
taken_on volumes None on = tt
taken_on volumes (Some x) on = on

sources_on : (volumes : List (List ℕ)) (store : Store) (dds : List DdPlan) (states : List DdState) (n : ℕ) → AreOn volumes states →
    All (λ x. IsOnOne volumes x.serial) (sources_from store dds states n)
sources_on volumes store [] states n all = All-nil (λ x. IsOnOne volumes x.serial)
sources_on volumes store (dd ∷ dds) states n all =
    All-cons (λ x. IsOnOne volumes x.serial) (source_of store dd.kind (taken_at states n)) (sources_from store dds states (n + 1))
    (source_on volumes store dd.kind (taken_at states n) (taken_on volumes (slice_get states n) (got volumes states n all)))
    (sources_on volumes store dds states (n + 1) all)

dropped_on : (volumes : List (List ℕ)) (n : ℕ) (xs : List Source) → All (λ x. IsOnOne volumes x.serial) xs → All (λ x. IsOnOne volumes x.serial) (drop n xs)
dropped_on volumes zero xs all = all
dropped_on volumes (suc n) [] all = all
dropped_on volumes (suc n) (x ∷ xs) all = dropped_on volumes n xs (All-tail (λ x. IsOnOne volumes x.serial) x xs all)

one_found : (volumes : List (List ℕ)) (b : Bool) (x y : FoundRecord) → IsOnOne volumes x.serial → IsOnOne volumes y.serial → IsOnOne volumes (cond b x y).serial
one_found volumes true x y p q = p
one_found volumes false x y p q = q

located_on : (volumes : List (List ℕ)) (xs : List Source) (member position : ℕ) → All (λ x. IsOnOne volumes x.serial) xs → IsOnOne volumes (located xs member position).serial
located_on volumes [] member position all = tt
located_on volumes (x ∷ []) member position all = All-head (λ x. IsOnOne volumes x.serial) x [] all
located_on volumes (x ∷ y ∷ rest) member position all =
    let here : IsOnOne volumes x.serial = All-head (λ x. IsOnOne volumes x.serial) x (y ∷ rest) all in
    one_found volumes (nat_lt position (length x.records)) (at_source x member position) _ here
    (one_found volumes x.read_past (located (y ∷ rest) (member + 1) 0) (at_source x member position)
    (located_on volumes (y ∷ rest) (member + 1) 0 (All-tail (λ x. IsOnOne volumes x.serial) x (y ∷ rest) all)) here)

-- what a taking decides on
DecidesOn : List (List ℕ) → Decision → Type 0
DecidesOn volumes (Refuses fault) = Unit {0}
DecidesOn volumes (Takes serial h) = Contains volumes serial

decides_on : (volumes : List (List ℕ)) (t : Target) (known there space granted : Bool) → (known ≡ true → IsOnOne volumes (looked_at t)) →
    (there ≡ true → IsOnOne volumes (looked_at t)) → DecidesOn volumes (decide t known there space granted)
unfolding DecidesOn
decides_on volumes (target.Makes None) known there space granted k h = tt
decides_on volumes (target.Makes (Some serial)) false there space granted k h = tt
decides_on volumes (target.Makes (Some serial)) true true space granted k h = tt
decides_on volumes (target.Makes (Some serial)) true false false granted k h = tt
decides_on volumes (target.Makes (Some serial)) true false true false k h = tt
decides_on volumes (target.Makes (Some serial)) true false true true k h = k refl
decides_on volumes (target.Finds serial) false there space granted k h = tt
decides_on volumes (target.Finds serial) true false space granted k h = tt
decides_on volumes (target.Finds serial) true true space granted k h = k refl
decides_on volumes (target.Receives p) known false space granted k h = tt
decides_on volumes (target.Receives p) known true space granted k h = h refl
decides_on volumes (target.FindsByCatalog serial) known false space granted k h = tt
decides_on volumes (target.FindsByCatalog serial) known true space granted k h = h refl
decides_on volumes target.Misses known there space granted k h = tt

there_on : (volumes : List (List ℕ)) (store : Store) (key : Key) (serial : Option (List ℕ)) → StandOn volumes store → is_there store key serial ≡ true → IsOnOne volumes serial
there_on volumes store key None stand h = tt
there_on volumes store key (Some serial) stand h = stand key serial h

taken_there : (volumes : List (List ℕ)) (key : Key) (serial : List ℕ) (h : How) → Contains volumes serial → Contains volumes (taken key serial h).serial
taken_there volumes key serial how.Made on = on
taken_there volumes key serial how.Found on = on
taken_there volumes key serial how.FoundByCatalog on = on
taken_there volumes key serial (how.Received made by_catalog) on = on

module _ (volumes : List (List ℕ)) (s : State) (on : AreOn volumes s.own.dds) (stand : StandOn volumes s.store) where
  -- a line that starts no operation, and the same DDs
  says : (d : Done) (l : JobLine) (ls : List JobLine) → d.lines ≡ l ∷ ls → IsOnOne volumes (volume_started (l ∷ ls)) → AreOn volumes d.state.own.dds → IsFine volumes s d
  says d l ls e starts there = record {
    on = there;
    starts = subst (λ lines. IsOnOne volumes (volume_started lines)) (sym e) starts;
    quiet = λ silent. absurd (no_line l ls (sym e ∙ silent));
  }

  no_word : IsFine volumes s (silent s)
  no_word = record { on = on; starts = tt; quiet = λ e. refl }

  runs : (b : Bool) (d : Done) → IsFine volumes s d → IsFine volumes s (if_runs b s d)
  runs true d p = p
  runs false d p = no_word

  one_more : (x : DdState) → IsTakenOn volumes x.taken → AreOn volumes (s.own.dds ++ x ∷ [])
  one_more x there = All-append (λ (y : DdState). IsTakenOn volumes y.taken) s.own.dds (x ∷ []) on
      (All-cons (λ (y : DdState). IsTakenOn volumes y.taken) x [] there (All-nil (λ (y : DdState). IsTakenOn volumes y.taken)))

  changed : (d : ℕ) (x : DdState) → IsTakenOn volumes x.taken → AreOn volumes (slice_set s.own.dds d x)
  changed d x there = All-set (λ (y : DdState). IsTakenOn volumes y.taken) s.own.dds d x there on

  none_taken : AreOn volumes []
  none_taken = All-nil (λ (y : DdState). IsTakenOn volumes y.taken)

  decided_fine : (fixed : Fixed) (n dd : ℕ) (name : Option (List ℕ)) (p : SetPlan) (key : Key) (d : Decision) → DecidesOn volumes d → IsFine volumes s (decided fixed n dd name p key s d)
  unfolding DecidesOn
  decided_fine fixed n dd name p key (Refuses fault) h = says _ _ _ refl tt none_taken
  decided_fine fixed n dd name p key (Takes serial how) h = says _ _ _ refl tt (one_more (new_dd dd name (Some (taken key serial how))) (taken_there volumes key serial how h))

  take_set_fine : (fixed : Fixed) → ((serial : Option (List ℕ)) → is_known fixed.volumes serial ≡ true → IsOnOne volumes serial) →
      (n dd : ℕ) (name : Option (List ℕ)) (p : SetPlan) (r : Resolution) → IsFine volumes s (takes_set fixed n dd name p s r)
  take_set_fine fixed known n dd name p (Fails fault) = says _ _ _ refl tt none_taken
  take_set_fine fixed known n dd name p (Means key) =
      let t : Target = target_at fixed n dd p key s in
      decided_fine fixed n dd name p key (decision_at fixed p key s t)
      (decides_on volumes t (is_known fixed.volumes (looked_at t)) (is_there s.store key (looked_at t)) (is_some p.space) s.answers.primary
      (known (looked_at t)) (there_on volumes s.store key (looked_at t) stand))

  take_fine : (fixed : Fixed) → ((serial : Option (List ℕ)) → is_known fixed.volumes serial ≡ true → IsOnOne volumes serial) →
      (n dd : ℕ) (name : Option (List ℕ)) (kind : DdKind) → IsFine volumes s (takes fixed n dd name kind s)
  take_fine fixed known n dd name (Sysout class) = says _ _ _ refl tt (one_more (new_dd dd name None) tt)
  take_fine fixed known n dd name Dummy = says _ _ _ refl tt (one_more (new_dd dd name None) tt)
  take_fine fixed known n dd name (Cards cards) = says _ _ _ refl tt (one_more (new_dd dd name None) tt)
  take_fine fixed known n dd name (Set p) = take_set_fine fixed known n dd name p (meaning_at fixed.meanings n dd)

  -- requests
  abended : (a : Abend) → IsFine volumes s (abended_by a s)
  abended a = says _ _ _ refl tt on

  get_fine : (name : List ℕ) (d : ℕ) (x : DdState) (m p : ℕ) (text serial : Option (List ℕ)) → IsTakenOn volumes x.taken → IsOnOne volumes serial → IsFine volumes s (gets_by name d x s m p text serial)
  get_fine name d x m p None serial there found = says _ _ _ refl tt (changed d _ there)
  get_fine name d x m p (Some text) None there found = says _ _ _ refl tt (changed d _ there)
  get_fine name d x m p (Some text) (Some serial) there found = says _ _ _ refl found (changed d _ there)

  growth_fine : (granted : Bool) (name text : List ℕ) (d : ℕ) (x : DdState) (t : TakenSet) (n : ℕ) (set : DataSet) → IsTakenOn volumes x.taken → Contains volumes t.serial →
      IsFine volumes s (put_grows granted name text d x t n set s)
  growth_fine true name text d x t n set there serial = says _ _ _ refl serial (changed d _ there)
  growth_fine false name text d x t n set there serial = says _ _ _ refl tt on

  put_set_fine : (name text : List ℕ) (d : ℕ) (x : DdState) (t : TakenSet) (n : ℕ) (set : DataSet) → IsTakenOn volumes x.taken → Contains volumes t.serial →
      IsFine volumes s (put_to_set name text d x t n set s)
  put_set_fine name text d x t n set there serial =
      either volumes s (is_full set) _ _
      (either volumes s (n == 0) _ _ (says _ _ _ refl tt on) (growth_fine (head_or true s.answers.grants) name text d x t n set there serial))
      (says _ _ _ refl serial (changed d _ there))

  put_in_fine : (name text : List ℕ) (d : ℕ) (x : DdState) (p : SetPlan) (t : Option TakenSet) → IsTakenOn volumes x.taken → IsTakenOn volumes t → IsFine volumes s (puts_in name text d x p t s)
  put_in_fine name text d x p None there serial = abended abend.SFF1
  put_in_fine name text d x p (Some t) there serial =
      put_set_fine name text d x t (secondary_of p.space) (emptied (empties p.status x.written) (or_nothing (s.store.set t.key t.serial))) there serial

  put_fine : (name text : List ℕ) (d : ℕ) (x : DdState) (kind : DdKind) → IsTakenOn volumes x.taken → IsFine volumes s (puts name text d x kind s)
  put_fine name text d x (Sysout class) there = says _ _ _ refl tt (changed d _ there)
  put_fine name text d x Dummy there = says _ _ _ refl tt on
  put_fine name text d x (Cards cards) there = abended abend.SFF1
  put_fine name text d x (Set p) there = put_in_fine name text d x p x.taken there there

  put_unless_fine : (b : Bool) (name text : List ℕ) (d : ℕ) (x : DdState) (kind : DdKind) → IsTakenOn volumes x.taken → IsFine volumes s (puts_unless b name text d x kind s)
  put_unless_fine true name text d x kind there = abended abend.SFF1
  put_unless_fine false name text d x kind there = put_fine name text d x kind there

  ask_of_fine : (step : StepPlan) (m : Move) (d : ℕ) (x : DdState) (dd : DdPlan) → IsTakenOn volumes x.taken → IsFine volumes s (asks_of step m d x dd s)
  ask_of_fine step (From name) d x dd there =
      let found : FoundRecord = reads step d x s in
      get_fine name d x found.member found.position found.text found.serial there
      (located_on volumes (drop x.member (sources_from s.store (members_at (drop d step.dds)) s.own.dds d)) x.member x.position
      (dropped_on volumes x.member (sources_from s.store (members_at (drop d step.dds)) s.own.dds d) (sources_on volumes s.store (members_at (drop d step.dds)) s.own.dds d on)))
  ask_of_fine step (To name text) d x dd there = put_unless_fine (is_read_only dd.kind || is_concatenated (drop d step.dds)) name text d x dd.kind there

  ask_dd_fine : (x : Option DdState) (dd : Option DdPlan) (step : StepPlan) (m : Move) (d : ℕ) → IfSome x (λ y. IsTakenOn volumes y.taken) → IsFine volumes s (asks_dd x dd step m d s)
  ask_dd_fine None dd step m d there = abended abend.SFF0
  ask_dd_fine (Some x) None step m d there = abended abend.SFF0
  ask_dd_fine (Some x) (Some dd) step m d there = ask_of_fine step m d x dd there

  ask_at_fine : (d : Option ℕ) (step : StepPlan) (m : Move) → IsFine volumes s (asks_at d step m s)
  ask_at_fine None step m = abended abend.SFF0
  ask_at_fine (Some d) step m = ask_dd_fine (slice_get s.own.dds d) (slice_get step.dds d) step m d (got volumes s.own.dds d on)

  uncancelled : (d : Done) → IsFine volumes s d → IsFine volumes s (unless_cancelled s d)
  uncancelled d p = either volumes s (cancel_due s.answers.cancels s.own.lines) _ d (abended abend.S222) p

  receipt_fine : (d : Due) → IsFine volumes s (received_now d s)
  receipt_fine (due.Data name text) = says _ _ _ refl tt on
  receipt_fine (due.Put name d text) = says _ _ _ refl tt on

  due_fine : (d : Option Due) → IsFine volumes s (received_due d s)
  due_fine None = no_word
  due_fine (Some d) = uncancelled (received_now d s) (receipt_fine d)

  -- ends and dispositions
  end_said : (o : Outcome) → IsOnOne volumes (volume_started (end_line (as_ending o) ∷ []))
  end_said (outcome.Code code) = tt
  end_said (outcome.Abend a) = tt
  end_said outcome.Bypassed = tt
  end_said outcome.Flushed = tt

  finish_fine : (n : ℕ) (over : Option Outcome) → IsFine volumes s (finishes n over s)
  finish_fine n (Some o) = record { on = on; starts = tt; quiet = λ e. refl }
  finish_fine n None = either volumes s (cancel_due s.answers.cancels s.own.lines) _ _ (says _ _ _ refl tt on) (says _ _ _ refl (end_said (head_or (outcome.Code 0) s.answers.outcomes)) on)

  set_disposed_fine : (fixed : Fixed) (n dd : ℕ) (name : Option (List ℕ)) (p : SetPlan) (t : Option TakenSet) → IsFine volumes s (set_disposes fixed n dd name p t s)
  set_disposed_fine fixed n dd name p None = says _ _ _ refl tt on
  set_disposed_fine fixed n dd name p (Some t) = says _ _ _ refl tt on

  disposed_fine : (fixed : Fixed) (n dd : ℕ) (name : Option (List ℕ)) (kind : DdKind) (x : DdState) → IsFine volumes s (disposes_at fixed n dd name kind x s)
  disposed_fine fixed n dd name (Sysout class) x = says _ _ _ refl tt on
  disposed_fine fixed n dd name Dummy x = says _ _ _ refl tt on
  disposed_fine fixed n dd name (Cards cards) x = says _ _ _ refl tt on
  disposed_fine fixed n dd name (Set p) x = set_disposed_fine fixed n dd name p x.taken

  disposition_fine : (x : Option DdState) (fixed : Fixed) (n dd : ℕ) (name : Option (List ℕ)) (kind : DdKind) → IsFine volumes s (disposes x fixed n dd name kind s)
  disposition_fine None fixed n dd name kind = no_word
  disposition_fine (Some x) fixed n dd name kind = disposed_fine fixed n dd name kind x

  leave_fine : (fixed : Fixed) (n dd : ℕ) (name : Option (List ℕ)) (p : SetPlan) (q : Option Passed) → IsFine volumes s (leaves fixed n dd name p q s)
  leave_fine fixed n dd name p None = no_word
  leave_fine fixed n dd name p (Some q) = says _ _ _ refl tt on

  left_fine : (fixed : Fixed) (n dd : ℕ) (name : Option (List ℕ)) (kind : DdKind) → IsFine volumes s (left_at fixed n dd name kind s)
  left_fine fixed n dd name (Sysout class) = no_word
  left_fine fixed n dd name Dummy = no_word
  left_fine fixed n dd name (Cards cards) = no_word
  left_fine fixed n dd name (Set p) = leave_fine fixed n dd name p (passed_by s.own.passed n dd)

  act_fine : (fixed : Fixed) → ((serial : Option (List ℕ)) → is_known fixed.volumes serial ≡ true → IsOnOne volumes serial) → (a : Action) → IsFine volumes s (act fixed a s)
  unfolding act
  act_fine fixed known (Action.Start n step) = says _ _ _ refl tt none_taken
  act_fine fixed known (Action.Take n dd d) = runs s.own.runs _ (take_fine fixed known n dd d.name d.kind)
  act_fine fixed known (Action.Ask step move) = runs (asks_open s.own) _ (uncancelled _ (ask_at_fine (dd_of step.dds (dd_name move)) step move))
  act_fine fixed known Action.Receive = runs (asks_open s.own) _ (due_fine s.own.due)
  act_fine fixed known (Action.Finish n) = either volumes s s.own.runs _ _ (finish_fine n s.own.over) (record { on = on; starts = tt; quiet = λ e. refl })
  act_fine fixed known (Action.Dispose n dd d) = runs s.own.runs _ (disposition_fine (slice_get s.own.dds (dd - 1)) fixed n dd d.name d.kind)
  act_fine fixed known (Action.Left n dd d) = left_fine fixed n dd d.name d.kind
  act_fine fixed known Action.Over = says _ _ _ refl tt on

-- a turn
record TurnsOn (volumes : List (List ℕ)) (x : Advanced) : Type 0 where
  on : AreOn volumes x.done.state.own.dds
  starts : IsOnOne volumes (volume_started x.done.lines)

by_lines : (volumes : List (List ℕ)) (lines said : List JobLine) (here x : Advanced) (further : Option Advanced) → said ≡ lines → TurnsOn volumes here →
    (said ≡ [] → further ≡ Some x → TurnsOn volumes x) → unless_silent lines here further ≡ Some x → TurnsOn volumes x
by_lines volumes [] said here x further is h go e = go is e
by_lines volumes (l ∷ ls) said here x further is h go e = subst (TurnsOn volumes) (ap (λ o. unwrap_or o here) e) h

turns_on : (volumes : List (List ℕ)) (fixed : Fixed) → ((serial : Option (List ℕ)) → is_known fixed.volumes serial ≡ true → IsOnOne volumes serial) →
    (answers : Action → Own → Answers) (actions : List Action) (s : State) (count : ℕ) (x : Advanced) → AreOn volumes s.own.dds → StandOn volumes s.store →
    advance answers fixed actions s count ≡ Some x → TurnsOn volumes x
unfolding advance
turns_on volumes fixed known answers [] s count x on stand e = absurd cc
turns_on volumes fixed known answers (a ∷ actions) s count x on stand e =
    let here : State = record s { answers = answers a s.own } in
    let done : Done = act fixed a here in
    let f : IsFine volumes here done = act_fine volumes here on stand fixed known a in
    by_lines volumes done.lines done.lines (record { action = a; before = here; done = done; count = suc count }) x
    (advance answers fixed actions done.state (suc count)) refl (record { on = f.on; starts = f.starts })
    (λ silent. turns_on volumes fixed known answers actions done.state (suc count) x f.on (subst (StandOn volumes) (sym (f.quiet silent)) stand)) e

-- so it is of a turn that wrote lines
pub acted_on : (volumes : List (List ℕ)) (w : Around) (plan : JobPlan) (old new : Store) (before after : Walk) (told : Acted) →
    ((serial : Option (List ℕ)) → is_known w.fixed.volumes serial ≡ true → IsOnOne volumes serial) → AreOn volumes before.course.own.dds → StandOn volumes old →
    JobActs w plan old new before after told → AreOn volumes after.course.own.dds × IsOnOne volumes told.starts
acted_on volumes w plan old new before after told known on stand t =
    let x : TurnsOn volumes t.acts.its_turn = turns_on volumes w.fixed known
    (answers_due w.programs w.steps (record { cancel = w.cancel; growth = t.acts.growth; primary = t.acts.primary }))
    (undone plan w.programs before.todo) (state_in old before.course.own) (count_at plan w.programs before.todo) t.acts.its_turn on stand t.acts.advances in
    (subst (λ (own : Own). AreOn volumes own.dds) t.acts.own x.on, subst (IsOnOne volumes) (sym t.acts.starts) x.starts)
