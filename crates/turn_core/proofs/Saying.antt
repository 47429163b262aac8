-- What an action says that is not passed over: at least one line, and which volume its first needs idle.
use Rattle.std.proofs.Common.{◌≡◌, sym, subst, ◌≤◌, suc, arith, length-append, ◌-◌, ◌==◌, ◌||◌, ◌&&◌, ℕ, Bool, true, false, not, List, [], ◌∷◌, drop, Option, Some, None, is_some, slice_get, length, refl, ap, ◌∙◌, if◌then◌else◌}
use Rattle.jname_core.specs.declared.key.Key.{Key}
use Rattle.jcl_plan.specs.declared.entry.JobLine.{JobLine}
use Rattle.jcl_plan.specs.declared.entry.JobLine.TheVariants as line
use Rattle.jcl_plan.specs.declared.outcome.Abend.TheVariants as abend
use Rattle.jcl_plan.specs.declared.outcome.Outcome.{Outcome}
use Rattle.jcl_plan.specs.declared.outcome.Outcome.TheVariants as outcome
use Rattle.jcl_plan.specs.declared.plan.DdKind.{DdKind}
use Rattle.jcl_plan.specs.declared.plan.DdKind.TheVariants.{Sysout, Dummy, Cards, Set}
use Rattle.jcl_plan.specs.declared.plan.DdPlan.{DdPlan}
use Rattle.jcl_plan.specs.declared.plan.SetPlan.{SetPlan}
use Rattle.jcl_plan.specs.declared.plan.StepPlan.{StepPlan}
use Rattle.jcl_meaning.specs.declared.program.Move.{Move}
use Rattle.jcl_meaning.specs.declared.program.Move.TheVariants.{From, To}
use Rattle.jcl_meaning.specs.declared.state.DdState.{DdState}
use Rattle.jcl_meaning.specs.declared.state.Due.{Due}
use Rattle.jcl_meaning.specs.declared.state.Due.TheVariants as due
use Rattle.jcl_meaning.specs.declared.state.Own.{Own}
use Rattle.jcl_meaning.specs.declared.state.Passed.{Passed}
use Rattle.jcl_meaning.specs.declared.state.Resolution.{Resolution}
use Rattle.jcl_meaning.specs.declared.state.Resolution.TheVariants.{Means, Fails}
use Rattle.jcl_meaning.specs.declared.state.TakenSet.{TakenSet}
use Rattle.jcl_meaning.specs.declared.store.DataSet.{DataSet}
use Rattle.jcl_meaning.specs.declared.take.Decision.{Decision}
use Rattle.jcl_meaning.specs.declared.take.Decision.TheVariants.{Refuses, Takes}
use Rattle.jcl_meaning.specs.Acts.{act}
use Rattle.jcl_meaning.specs.Agendas.{Action, Start, Take, Ask, Receive, Finish, Dispose, Left, Over}
use Rattle.jcl_meaning.specs.EndActs.{as_ending, disposes, end_line, finishes, leaves, left_at, passed_by, set_disposes}
use Rattle.jcl_meaning.specs.declared.program.Request.{Request}
use Rattle.jcl_meaning.specs.declared.program.Request.TheVariants.{Get, Put, End, Abend as AbendRequest}
use Rattle.jcl_meaning.specs.declared.program.SoloProgram.{SoloProgram}
use Rattle.jcl_meaning.specs.Programs.{dd_of, emptied, empties, ending_by, ending_in, ending_of, is_concatenated, is_full, is_iefbr14, is_read_only, or_nothing, program_of}
use Rattle.jcl_meaning.specs.RequestActs.{asks_at, asks_dd, asks_of, dd_name, gets_by, head_or, put_grows, put_to_set, puts, puts_in, puts_unless, reads, received_due, received_now}
use Rattle.jcl_meaning.specs.Resolutions.{meaning_at}
use Rattle.jcl_meaning.specs.States.{Done, Fixed, State, asks_open, cancel_due, goes, if_runs, unless_cancelled, with_answers_used}
use Rattle.jcl_meaning.specs.Takes.{secondary_of}
use Rattle.jcl_meaning.specs.TakeActs.{back_line, back_lines, decided, takes, takes_set}
use Rattle.world_meaning.specs.Turns.{is_cancelled, is_result, must_wait, volume_asked, volume_needed, volume_of_dd, volume_taken}
use Rattle.prog_core.specs.declared.units.Operation.{Operation}
use Rattle.prog_core.specs.Operations.{has_operation, is_busy}
use Rattle.turn_core.specs.Ending.{ended_at, number_over}
use Rattle.turn_core.specs.Passing.{is_idle, is_left}
use Rattle.turn_core.specs.Performing.{volume_started}
use Rattle.request_core.specs.Requests.{here_at}
use Rattle.turn_core.specs.Waiting.{volume_at, volume_at_dd, volume_by, volume_due, volume_of, volume_put, volume_unless, waits_at}

pub record Says (lines : List JobLine) (a : Action) (own : Own) (volume : Option (List ℕ)) (cancels : Bool) : Type 0 where
  pub first : JobLine
  pub others : List JobLine
  pub are : lines ≡ first ∷ others
  pub needs : volume_needed lines a own ≡ volume
  pub few : length others ≤ length own.dds
  pub acts : is_cancelled lines ≡ cancels

none_more : (n : ℕ) → 0 ≤ n
none_more n = omega arith

-- of the sets that are given back one line each, at most
one_back : (x : DdState) (t : Option TakenSet) → length (back_line (record x { taken = t })) ≤ 1
one_back x None = none_more 1
one_back x (Some t) = omega arith

few_backs : (dds : List DdState) → length (back_lines dds) ≤ length dds
few_backs [] = none_more 0
few_backs (x ∷ dds) =
    omega (arith, length-append (back_line x) (back_lines dds), one_back x x.taken, few_backs dds)

-- where a step runs
says_running : (runs : Bool) (s : State) (done : Done) (a : Action) (own : Own) (v : Option (List ℕ)) (k : Bool) → not runs ≡ false → Says done.lines a own v k →
    Says (if_runs runs s done).lines a own v k
says_running true s done a own v k h q = q
says_running false s done a own v k h q = absurd cc

-- where no cancel stands in its place
says_uncancelled : (b : Bool) (s : State) (done : Done) (a : Action) (own : Own) (v : Option (List ℕ)) → cancel_due s.answers.cancels s.own.lines ≡ b →
    Says done.lines a own v false → Says (unless_cancelled s done).lines a own (if b then None else v) b
says_uncancelled true s done a own v e q = rw e (record { first = line.Abend abend.S222; others = []; are = refl; needs = refl; few = none_more _; acts = refl })
says_uncancelled false s done a own v e q = rw e q

-- the taking of a DD
says_decided : (d : Decision) (fixed : Fixed) (n dd : ℕ) (name : Option (List ℕ)) (p : SetPlan) (key : Key) (s : State) (a : Action) →
    Says (decided fixed n dd name p key s d).lines a s.own None false
says_decided (Refuses fault) fixed n dd name p key s a = record { first = _; others = _; are = refl; needs = refl; few = few_backs s.own.dds; acts = refl }
says_decided (Takes serial h) fixed n dd name p key s a = record { first = _; others = _; are = refl; needs = refl; few = none_more _; acts = refl }

says_set_taken : (m : Resolution) (fixed : Fixed) (n dd : ℕ) (name : Option (List ℕ)) (p : SetPlan) (s : State) (a : Action) →
    Says (takes_set fixed n dd name p s m).lines a s.own None false
says_set_taken (Fails fault) fixed n dd name p s a = record { first = _; others = _; are = refl; needs = refl; few = few_backs s.own.dds; acts = refl }
says_set_taken (Means key) fixed n dd name p s a = says_decided _ fixed n dd name p key s a

says_taken : (kind : DdKind) (fixed : Fixed) (n dd : ℕ) (name : Option (List ℕ)) (s : State) (a : Action) →
    Says (takes fixed n dd name kind s).lines a s.own None false
says_taken (Sysout class) fixed n dd name s a = record { first = _; others = _; are = refl; needs = refl; few = none_more _; acts = refl }
says_taken Dummy fixed n dd name s a = record { first = _; others = _; are = refl; needs = refl; few = none_more _; acts = refl }
says_taken (Cards cards) fixed n dd name s a = record { first = _; others = _; are = refl; needs = refl; few = none_more _; acts = refl }
says_taken (Set p) fixed n dd name s a = says_set_taken (meaning_at fixed.meanings n dd) fixed n dd name p s a

-- a GET
says_got : (text serial : Option (List ℕ)) (name : List ℕ) (d : ℕ) (x : DdState) (s : State) (member position : ℕ) (a : Action) (own : Own) →
    Says (gets_by name d x s member position text serial).lines a own (volume_by text serial) false
says_got None serial name d x s member position a own = record { first = _; others = _; are = refl; needs = refl; few = none_more _; acts = refl }
says_got (Some text) None name d x s member position a own = record { first = _; others = _; are = refl; needs = refl; few = none_more _; acts = refl }
says_got (Some text) (Some serial) name d x s member position a own = record { first = _; others = _; are = refl; needs = refl; few = none_more _; acts = refl }

-- a PUT to a set: where it is an ABEND the action at hand needs the volume of its DD's set
says_grown : (granted : Bool) (name text : List ℕ) (d : ℕ) (x : DdState) (t : TakenSet) (secondary : ℕ) (set : DataSet) (s : State) (a : Action) (own : Own) →
    volume_asked a own ≡ Some t.serial → Says (put_grows granted name text d x t secondary set s).lines a own (Some t.serial) false
says_grown true name text d x t secondary set s a own q = record { first = _; others = _; are = refl; needs = refl; few = none_more _; acts = refl }
says_grown false name text d x t secondary set s a own q = record { first = _; others = _; are = refl; needs = q; few = none_more _; acts = refl }

says_put_by : (full none : Bool) (name text : List ℕ) (d : ℕ) (x : DdState) (t : TakenSet) (secondary : ℕ) (set : DataSet) (s : State) (a : Action) (own : Own) →
    is_full set ≡ full → (secondary == 0) ≡ none → volume_asked a own ≡ Some t.serial → Says (put_to_set name text d x t secondary set s).lines a own (Some t.serial) false
says_put_by false none name text d x t secondary set s a own e f q = rw e (record { first = _; others = _; are = refl; needs = refl; few = none_more _; acts = refl })
says_put_by true true name text d x t secondary set s a own e f q = rw (e, f) (record { first = _; others = _; are = refl; needs = q; few = none_more _; acts = refl })
says_put_by true false name text d x t secondary set s a own e f q = rw (e, f) (says_grown (head_or true s.answers.grants) name text d x t secondary set s a own q)

says_put_in : (t : Option TakenSet) (name text : List ℕ) (d : ℕ) (x : DdState) (p : SetPlan) (s : State) (a : Action) (own : Own) →
    volume_asked a own ≡ volume_taken t → Says (puts_in name text d x p t s).lines a own (volume_taken t) false
says_put_in None name text d x p s a own q = record { first = _; others = _; are = refl; needs = refl; few = none_more _; acts = refl }
says_put_in (Some t) name text d x p s a own q =
    let set : DataSet = emptied (empties p.status x.written) (or_nothing (s.store.set t.key t.serial)) in
    says_put_by (is_full set) (secondary_of p.space == 0) name text d x t (secondary_of p.space) set s a own refl refl q

says_put : (kind : DdKind) (name text : List ℕ) (d : ℕ) (x : DdState) (s : State) (a : Action) (own : Own) →
    volume_asked a own ≡ volume_taken x.taken → Says (puts name text d x kind s).lines a own (volume_put kind x.taken) false
says_put (Sysout class) name text d x s a own q = record { first = _; others = _; are = refl; needs = refl; few = none_more _; acts = refl }
says_put Dummy name text d x s a own q = record { first = _; others = _; are = refl; needs = refl; few = none_more _; acts = refl }
says_put (Cards cards) name text d x s a own q = record { first = _; others = _; are = refl; needs = refl; few = none_more _; acts = refl }
says_put (Set p) name text d x s a own q = says_put_in x.taken name text d x p s a own q

says_put_unless : (refused : Bool) (name text : List ℕ) (d : ℕ) (x : DdState) (kind : DdKind) (s : State) (a : Action) (own : Own) →
    volume_asked a own ≡ volume_taken x.taken → Says (puts_unless refused name text d x kind s).lines a own (volume_unless refused kind x.taken) false
says_put_unless true name text d x kind s a own q = record { first = _; others = _; are = refl; needs = refl; few = none_more _; acts = refl }
says_put_unless false name text d x kind s a own q = says_put kind name text d x s a own q

-- a request
says_asked_of : (wants : Move) (step : StepPlan) (d : ℕ) (x : DdState) (dd : DdPlan) (s : State) (a : Action) →
    volume_asked a s.own ≡ volume_taken x.taken → Says (asks_of step wants d x dd s).lines a s.own (volume_of step wants (here_at d x) dd s.store s.own.dds) false
says_asked_of (From name) step d x dd s a q = says_got (reads step d x s).text (reads step d x s).serial name d x s (reads step d x s).member (reads step d x s).position a s.own
says_asked_of (To name text) step d x dd s a q = says_put_unless (is_read_only dd.kind || is_concatenated (drop d step.dds)) name text d x dd.kind s a s.own q

says_asked_dd : (o : Option DdState) (p : Option DdPlan) (wants : Move) (step : StepPlan) (d : ℕ) (s : State) (a : Action) →
    volume_asked a s.own ≡ volume_of_dd o → Says (asks_dd o p step wants d s).lines a s.own (volume_at_dd o p step wants d s.store s.own.dds) false
says_asked_dd None p wants step d s a q = record { first = _; others = _; are = refl; needs = refl; few = none_more _; acts = refl }
says_asked_dd (Some x) None wants step d s a q = record { first = _; others = _; are = refl; needs = refl; few = none_more _; acts = refl }
says_asked_dd (Some x) (Some dd) wants step d s a q = says_asked_of wants step d x dd s a q

says_asked_at : (o : Option ℕ) (wants : Move) (step : StepPlan) (s : State) → dd_of step.dds (dd_name wants) ≡ o →
    Says (asks_at o step wants s).lines (Ask step wants) s.own (volume_at o step wants s.store s.own.dds) false
says_asked_at None wants step s e = record { first = _; others = _; are = refl; needs = refl; few = none_more _; acts = refl }
says_asked_at (Some d) wants step s e = says_asked_dd (slice_get s.own.dds d) (slice_get step.dds d) wants step d s (Ask step wants) (rw e refl)

-- what is due
says_due : (d : Due) (s : State) (a : Action) (own : Own) → Says (received_now d s).lines a own None false
says_due (due.Data name text) s a own = record { first = _; others = _; are = refl; needs = refl; few = none_more _; acts = refl }
says_due (due.Put name d text) s a own = record { first = _; others = _; are = refl; needs = refl; few = none_more _; acts = refl }

says_unless_cancelled : (b : Bool) (d : Due) (s : State) (own : Own) → cancel_due s.answers.cancels s.own.lines ≡ b → Says (unless_cancelled s (received_now d s)).lines Receive own None b
says_unless_cancelled true d s own e = rw e (record { first = line.Abend abend.S222; others = []; are = refl; needs = refl; few = none_more _; acts = refl })
says_unless_cancelled false d s own e = rw e (says_due d s Receive own)

says_received : (goes_on : Bool) (d : Option Due) (s : State) (own : Own) → not (goes_on && is_some d) ≡ false → Says (if_runs goes_on s (received_due d s)).lines Receive own None (cancel_due s.answers.cancels s.own.lines)
says_received false d s own h = absurd cc
says_received true None s own h = absurd cc
says_received true (Some d) s own h = says_unless_cancelled (cancel_due s.answers.cancels s.own.lines) d s own refl

-- the end of a program
abbrev pub cancels_end : Bool → State → Bool
cancels_end cancelled s = if cancelled then true else is_cancelled (end_line (as_ending (head_or (outcome.Code 0) s.answers.outcomes)) ∷ [])

says_ending : (o : Outcome) (n : ℕ) (own : Own) → Says (end_line o ∷ []) (Finish n) own None (is_cancelled (end_line o ∷ []))
says_ending (outcome.Code code) n own = record { first = _; others = _; are = refl; needs = refl; few = none_more _; acts = refl }
says_ending (outcome.Abend abend.S222) n own = record { first = _; others = _; are = refl; needs = refl; few = none_more _; acts = refl }
says_ending (outcome.Abend abend.S806) n own = record { first = _; others = _; are = refl; needs = refl; few = none_more _; acts = refl }
says_ending (outcome.Abend abend.SB37) n own = record { first = _; others = _; are = refl; needs = refl; few = none_more _; acts = refl }
says_ending (outcome.Abend abend.SD37) n own = record { first = _; others = _; are = refl; needs = refl; few = none_more _; acts = refl }
says_ending (outcome.Abend abend.SFF0) n own = record { first = _; others = _; are = refl; needs = refl; few = none_more _; acts = refl }
says_ending (outcome.Abend abend.SFF1) n own = record { first = _; others = _; are = refl; needs = refl; few = none_more _; acts = refl }
says_ending (outcome.Abend (abend.User code)) n own = record { first = _; others = _; are = refl; needs = refl; few = none_more _; acts = refl }
says_ending outcome.Bypassed n own = record { first = _; others = _; are = refl; needs = refl; few = none_more _; acts = refl }
says_ending outcome.Flushed n own = record { first = _; others = _; are = refl; needs = refl; few = none_more _; acts = refl }

says_finishing : (b : Bool) (n : ℕ) (s : State) (own : Own) → cancel_due s.answers.cancels s.own.lines ≡ b → Says (finishes n None s).lines (Finish n) own None (cancels_end b s)
says_finishing true n s own e = rw e (record { first = line.Abend abend.S222; others = []; are = refl; needs = refl; few = none_more _; acts = refl })
says_finishing false n s own e = rw e (says_ending (as_ending (head_or (outcome.Code 0) s.answers.outcomes)) n own)

says_finished : (runs : Bool) (o : Option Outcome) (n : ℕ) (s : State) (own : Own) → not runs ≡ false → number_over o n ≡ None →
    Says (if runs then finishes n o s else goes [] (record { store = s.store; own = s.own; answers = with_answers_used s.answers })).lines (Finish n) own None (cancels_end (cancel_due s.answers.cancels s.own.lines) s)
says_finished false o n s own h k = absurd cc
says_finished true (Some o) n s own h k = absurd cc
says_finished true None n s own h k = says_finishing (cancel_due s.answers.cancels s.own.lines) n s own refl

-- a disposition
says_set_disposed : (t : Option TakenSet) (fixed : Fixed) (n dd : ℕ) (name : Option (List ℕ)) (p : SetPlan) (s : State) (a : Action) (own : Own) →
    Says (set_disposes fixed n dd name p t s).lines a own None false
says_set_disposed None fixed n dd name p s a own = record { first = _; others = _; are = refl; needs = refl; few = none_more _; acts = refl }
says_set_disposed (Some t) fixed n dd name p s a own = record { first = _; others = _; are = refl; needs = refl; few = none_more _; acts = refl }

says_disposed : (runs : Bool) (x : Option DdState) (kind : DdKind) (fixed : Fixed) (n dd : ℕ) (name : Option (List ℕ)) (s : State) (a : Action) (own : Own) →
    not (runs && is_some x) ≡ false → Says (if_runs runs s (disposes x fixed n dd name kind s)).lines a own None false
says_disposed false x kind fixed n dd name s a own h = absurd cc
says_disposed true None kind fixed n dd name s a own h = absurd cc
says_disposed true (Some x) (Sysout class) fixed n dd name s a own h = record { first = _; others = _; are = refl; needs = refl; few = none_more _; acts = refl }
says_disposed true (Some x) Dummy fixed n dd name s a own h = record { first = _; others = _; are = refl; needs = refl; few = none_more _; acts = refl }
says_disposed true (Some x) (Cards cards) fixed n dd name s a own h = record { first = _; others = _; are = refl; needs = refl; few = none_more _; acts = refl }
says_disposed true (Some x) (Set p) fixed n dd name s a own h = says_set_disposed x.taken fixed n dd name p s a own

says_set_left : (q : Option Passed) (fixed : Fixed) (n dd : ℕ) (name : Option (List ℕ)) (p : SetPlan) (s : State) (a : Action) (own : Own) →
    not (is_some q) ≡ false → Says (leaves fixed n dd name p q s).lines a own None false
says_set_left None fixed n dd name p s a own h = absurd cc
says_set_left (Some q) fixed n dd name p s a own h = record { first = _; others = _; are = refl; needs = refl; few = none_more _; acts = refl }

says_left : (kind : DdKind) (fixed : Fixed) (n dd : ℕ) (name : Option (List ℕ)) (s : State) (a : Action) (own : Own) →
    not (is_left kind (passed_by s.own.passed n dd)) ≡ false → Says (left_at fixed n dd name kind s).lines a own None false
says_left (Sysout class) fixed n dd name s a own h = absurd cc
says_left Dummy fixed n dd name s a own h = absurd cc
says_left (Cards cards) fixed n dd name s a own h = absurd cc
says_left (Set p) fixed n dd name s a own h = says_set_left (passed_by s.own.passed n dd) fixed n dd name p s a own h

-- whether a cancel acts
abbrev pub cancels_at : Bool → Action → State → Bool
cancels_at cancelled (Ask step wants) s = cancelled
cancels_at cancelled Receive s = cancelled
cancels_at cancelled (Finish n) s = cancels_end cancelled s
cancels_at cancelled other s = false

-- an action that is not passed over
pub says : (fixed : Fixed) (a : Action) (s : State) (cancelled : Bool) → is_idle a s.own ≡ false → ended_at a s.own ≡ None →
    cancel_due s.answers.cancels s.own.lines ≡ cancelled → Says (act fixed a s).lines a s.own (volume_due cancelled a s.store s.own) (cancels_at cancelled a s)
unfolding act
says fixed (Start n step) s cancelled h k e = record { first = _; others = _; are = refl; needs = refl; few = none_more _; acts = refl }
says fixed (Take n dd d) s cancelled h k e = says_running s.own.runs s _ (Take n dd d) s.own None false h (says_taken d.kind fixed n dd d.name s (Take n dd d))
says fixed (Ask step wants) s cancelled h k e = says_running (asks_open s.own) s _ (Ask step wants) s.own _ cancelled h
    (says_uncancelled cancelled s _ (Ask step wants) s.own _ e (says_asked_at (dd_of step.dds (dd_name wants)) wants step s refl))
says fixed Receive s cancelled h k e =
    subst (Says (act fixed Receive s).lines Receive s.own None) e (says_received (asks_open s.own) s.own.due s s.own h)
says fixed (Finish n) s cancelled h k e =
    subst (λ b. Says (act fixed (Finish n) s).lines (Finish n) s.own None (cancels_end b s)) e (says_finished s.own.runs s.own.over n s s.own h k)
says fixed (Dispose n dd d) s cancelled h k e = says_disposed s.own.runs (slice_get s.own.dds (dd - 1)) d.kind fixed n dd d.name s (Dispose n dd d) s.own h
says fixed (Left n dd d) s cancelled h k e = says_left d.kind fixed n dd d.name s (Left n dd d) s.own h
says fixed Over s cancelled h k e = record { first = _; others = _; are = refl; needs = refl; few = none_more _; acts = refl }

-- and how many lines
pub few_lines : (fixed : Fixed) (a : Action) (s : State) → is_idle a s.own ≡ false → ended_at a s.own ≡ None → length (act fixed a s).lines ≤ suc (length s.own.dds)
few_lines fixed a s h k =
    let q = says fixed a s (cancel_due s.answers.cancels s.own.lines) h k refl in
    omega (arith, ap (length {A = JobLine}) q.are, q.few)

-- a result waits unless a cancel acts
results : (a : Action) (s : State) (lines : List JobLine) (cancelled other : Bool) → is_cancelled lines ≡ cancels_at cancelled a s →
    (is_result a && not (is_cancelled lines) && other) ≡ (is_result a && not cancelled && other)
results (Start n step) s lines cancelled other e = refl
results (Take n dd d) s lines cancelled other e = refl
results (Ask step wants) s lines cancelled other e = refl
results Receive s lines cancelled other e = ap (λ b. not b && other) e
results (Finish n) s lines cancelled other e = refl
results (Dispose n dd d) s lines cancelled other e = refl
results (Left n dd d) s lines cancelled other e = refl
results Over s lines cancelled other e = refl

-- whether an action must wait can be told before
pub waits_as_told : (operations : List Operation) (job : ℕ) (fixed : Fixed) (a : Action) (s : State) (cancelled : Bool) (count : ℕ) →
    is_idle a s.own ≡ false → ended_at a s.own ≡ None → cancel_due s.answers.cancels s.own.lines ≡ cancelled →
    must_wait operations job (record { action = a; before = s; done = act fixed a s; count = count }) ≡ waits_at operations job cancelled a s.store s.own
waits_as_told operations job fixed a s cancelled count h k e =
    let q = says fixed a s cancelled h k e in
    ap (λ v. is_busy operations v || (is_result a && not (is_cancelled (act fixed a s).lines) && has_operation operations job)) q.needs
    ∙ ap (λ b. is_busy operations (volume_due cancelled a s.store s.own) || b) (results a s (act fixed a s).lines cancelled (has_operation operations job) q.acts)

-- an operation starts on the volume that is needed
needs_none : (lines : List JobLine) (a : Action) (own : Own) → volume_needed lines a own ≡ None → volume_started lines ≡ None
needs_none [] a own e = refl
needs_none (line.GetStart name serial ∷ lines) a own e = absurd cc
needs_none (line.PutStart name serial grown ∷ lines) a own e = absurd cc
needs_none (l ∷ lines) a own e = refl

pub starts_none : (fixed : Fixed) (a : Action) (s : State) (cancelled : Bool) → is_idle a s.own ≡ false → ended_at a s.own ≡ None →
    cancel_due s.answers.cancels s.own.lines ≡ cancelled → volume_due cancelled a s.store s.own ≡ None → None ≡ volume_started (act fixed a s).lines
starts_none fixed a s cancelled h k c e = sym (needs_none (act fixed a s).lines a s.own ((says fixed a s cancelled h k c).needs ∙ e))

-- a program that ends by itself is not cancelled
ends_by_itself : (requests : List Request) → is_cancelled (end_line (as_ending (ending_in requests)) ∷ []) ≡ false
ends_by_itself [] = refl
ends_by_itself (Get dd ∷ requests) = ends_by_itself requests
ends_by_itself (Put dd text ∷ requests) = ends_by_itself requests
ends_by_itself (End code ∷ requests) = refl
ends_by_itself (AbendRequest code ∷ requests) = refl

ends_found : (o : Option (List Request)) → is_cancelled (end_line (as_ending (ending_by o)) ∷ []) ≡ false
ends_found None = refl
ends_found (Some requests) = ends_by_itself requests

ends_if : (b : Bool) (o : Option (List Request)) → is_cancelled (end_line (as_ending (if b then outcome.Code 0 else ending_by o)) ∷ []) ≡ false
ends_if true o = refl
ends_if false o = ends_found o

cancelled_alone : (b c : Bool) → c ≡ false → (if b then true else c) ≡ b
cancelled_alone true c e = refl
cancelled_alone false c e = e

pub cancels_of_program : (programs : List SoloProgram) (name : List ℕ) (s : State) (cancelled : Bool) →
    head_or (outcome.Code 0) s.answers.outcomes ≡ ending_of programs name → cancels_end cancelled s ≡ cancelled
cancels_of_program programs name s cancelled e =
    cancelled_alone cancelled _ (ap (λ o. is_cancelled (end_line (as_ending o) ∷ [])) e ∙ ends_if (is_iefbr14 name) (program_of programs name))
