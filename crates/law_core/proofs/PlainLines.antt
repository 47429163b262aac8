-- No action but the job's end writes END, and none what only a job's admission or its reading does.
use Rattle.std.proofs.Common.{◌≡◌, ℕ, ◌-◌, Bool, true, false, cond, List, [], ◌∷◌, Option, Some, None, refl, ap, ◌∙◌}
use Rattle.std.specs.Prelude.{◌||◌, drop, slice_get}
use Rattle.std.specs.List.{list_any}
use Rattle.std.proofs.lemmas.List.Folds.{list_any-append}
use Rattle.jname_core.specs.declared.key.Key.{Key}
use Rattle.jcl_plan.specs.declared.entry.JobLine.{JobLine}
use Rattle.jcl_plan.specs.declared.fault.Fault.{Fault}
use Rattle.jcl_plan.specs.declared.outcome.Outcome.{Outcome}
use Rattle.jcl_plan.specs.declared.outcome.Outcome.TheVariants as outcome
use Rattle.jcl_plan.specs.declared.plan.DdKind.{DdKind}
use Rattle.jcl_plan.specs.declared.plan.DdKind.TheVariants.{Sysout, Dummy, Cards, Set}
use Rattle.jcl_plan.specs.declared.plan.DdPlan.{DdPlan}
use Rattle.jcl_plan.specs.declared.plan.SetPlan.{SetPlan}
use Rattle.jcl_plan.specs.declared.plan.StepPlan.{StepPlan}
use Rattle.jcl_meaning.specs.declared.program.Move.{Move}
use Rattle.jcl_meaning.specs.declared.program.Move.TheVariants.{From, To}
use Rattle.jcl_meaning.specs.declared.state.DdState.{DdState}
use Rattle.jcl_meaning.specs.declared.state.Due.{Due}
use Rattle.jcl_meaning.specs.declared.state.Due.TheVariants as due
use Rattle.jcl_meaning.specs.declared.state.Passed.{Passed}
use Rattle.jcl_meaning.specs.declared.state.Resolution.{Resolution}
use Rattle.jcl_meaning.specs.declared.state.Resolution.TheVariants.{Means, Fails}
use Rattle.jcl_meaning.specs.declared.state.TakenSet.{TakenSet}
use Rattle.jcl_meaning.specs.declared.store.DataSet.{DataSet}
use Rattle.jcl_meaning.specs.declared.take.Decision.{Decision}
use Rattle.jcl_meaning.specs.declared.take.Decision.TheVariants.{Refuses, Takes}
use Rattle.jcl_meaning.specs.Acts.{act}
use Rattle.jcl_meaning.specs.Agendas.{Action, Start, Take, Ask, Receive, Finish, Dispose, Left, Over}
use Rattle.jcl_meaning.specs.EndActs.{as_ending, disposes, disposes_at, end_line, finishes, leaves, left_at, passed_by, set_disposes}
use Rattle.jcl_meaning.specs.Programs.{dd_of, emptied, empties, is_concatenated, is_read_only, or_nothing}
use Rattle.jcl_meaning.specs.RequestActs.{asks_at, asks_dd, asks_of, dd_name, gets_by, head_or, put_grows, put_to_set, puts, puts_in, puts_unless, reads, received_due, received_now}
use Rattle.jcl_meaning.specs.Resolutions.{meaning_at}
use Rattle.jcl_meaning.specs.States.{Done, Fixed, State, goes, if_runs, unless_cancelled}
use Rattle.jcl_meaning.specs.Takes.{secondary_of}
use Rattle.jcl_meaning.specs.TakeActs.{back_line, back_lines, decided, refused, takes, takes_set}
use Rattle.jcl_plan.specs.declared.entry.JobLine.TheVariants as line
use Rattle.world_meaning.specs.Headlines.{is_end}
use Rattle.law_core.specs.Waits.{is_wait}

abbrev pub is_assured : JobLine → Bool
is_assured (line.Assured tracks actions) = true
is_assured other = false

abbrev pub is_risk : JobLine → Bool
is_risk (line.Risk fault step dd path) = true
is_risk other = false

abbrev pub is_too_many : JobLine → Bool
is_too_many (line.TooMany step) = true
is_too_many other = false

abbrev pub is_broken : JobLine → Bool
is_broken (line.Broken n) = true
is_broken other = false

-- what only a job's turns before its admission or at it write, and what they or the job's end do
abbrev pub is_of_admission : JobLine → Bool
is_of_admission l = is_assured l || (is_risk l || (is_wait l || (is_too_many l || is_broken l)))

abbrev pub is_special : JobLine → Bool
is_special l = is_end l || is_of_admission l

pub record IsPlain (done : Done) : Type 0 where
  pub plain : list_any is_special done.lines ≡ false

none : (s : State) → IsPlain (goes [] s)
none s = record { plain = refl }

one : (l : JobLine) (s : State) → is_special l ≡ false → IsPlain (goes (l ∷ []) s)
one l s h = record { plain = ap (λ b. b || false) h }

chosen : (b : Bool) (x y : Done) → IsPlain x → IsPlain y → IsPlain (cond b x y)
chosen true x y p q = p
chosen false x y p q = q

running : (b : Bool) (s : State) (x : Done) → IsPlain x → IsPlain (if_runs b s x)
running true s x p = p
running false s x p = none s

-- the lines of a fault
plain_back : (x : DdState) (t : Option TakenSet) → list_any is_special (back_line (record x { taken = t })) ≡ false
plain_back x None = refl
plain_back x (Some t) = refl

plain_backs : (xs : List DdState) → list_any is_special (back_lines xs) ≡ false
plain_backs [] = refl
plain_backs (x ∷ xs) = list_any-append is_special (back_line x) (back_lines xs) ∙ (λ i. plain_back x x.taken i || plain_backs xs i)

plain_refusal : (n dd : ℕ) (f : Fault) (s : State) → IsPlain (refused n dd f s)
plain_refusal n dd f s = record { plain = plain_backs s.own.dds }

plain_end : (o : Outcome) → is_special (end_line o) ≡ false
plain_end (outcome.Code code) = refl
plain_end (outcome.Abend a) = refl
plain_end outcome.Bypassed = refl
plain_end outcome.Flushed = refl

-- each action
plain_decision : (fixed : Fixed) (n dd : ℕ) (name : Option (List ℕ)) (p : SetPlan) (key : Key) (s : State) (d : Decision) → IsPlain (decided fixed n dd name p key s d)
plain_decision fixed n dd name p key s (Refuses f) = plain_refusal n dd f s
plain_decision fixed n dd name p key s (Takes serial h) = record { plain = refl }

plain_take_set : (fixed : Fixed) (n dd : ℕ) (name : Option (List ℕ)) (p : SetPlan) (s : State) (r : Resolution) → IsPlain (takes_set fixed n dd name p s r)
plain_take_set fixed n dd name p s (Fails f) = plain_refusal n dd f s
plain_take_set fixed n dd name p s (Means key) = plain_decision fixed n dd name p key s _

plain_take : (fixed : Fixed) (n dd : ℕ) (name : Option (List ℕ)) (kind : DdKind) (s : State) → IsPlain (takes fixed n dd name kind s)
plain_take fixed n dd name (Sysout class) s = one _ _ refl
plain_take fixed n dd name Dummy s = one _ _ refl
plain_take fixed n dd name (Cards cards) s = one _ _ refl
plain_take fixed n dd name (Set p) s = plain_take_set fixed n dd name p s (meaning_at fixed.meanings n dd)

plain_get : (name : List ℕ) (d : ℕ) (x : DdState) (s : State) (m p : ℕ) (text serial : Option (List ℕ)) → IsPlain (gets_by name d x s m p text serial)
plain_get name d x s m p None serial = one _ _ refl
plain_get name d x s m p (Some text) None = one _ _ refl
plain_get name d x s m p (Some text) (Some serial) = one _ _ refl

plain_grow : (granted : Bool) (name text : List ℕ) (d : ℕ) (x : DdState) (t : TakenSet) (n : ℕ) (set : DataSet) (s : State) → IsPlain (put_grows granted name text d x t n set s)
plain_grow true name text d x t n set s = one _ _ refl
plain_grow false name text d x t n set s = one _ _ refl

plain_put_to_set : (name text : List ℕ) (d : ℕ) (x : DdState) (t : TakenSet) (n : ℕ) (set : DataSet) (s : State) → IsPlain (put_to_set name text d x t n set s)
plain_put_to_set name text d x t n set s = chosen _ _ _ (chosen _ _ _ (one _ _ refl) (plain_grow (head_or true s.answers.grants) name text d x t n set s)) (one _ _ refl)

plain_put_in : (name text : List ℕ) (d : ℕ) (x : DdState) (p : SetPlan) (t : Option TakenSet) (s : State) → IsPlain (puts_in name text d x p t s)
plain_put_in name text d x p None s = one _ _ refl
plain_put_in name text d x p (Some t) s = plain_put_to_set name text d x t (secondary_of p.space) (emptied (empties p.status x.written) (or_nothing (s.store.set t.key t.serial))) s

plain_put : (name text : List ℕ) (d : ℕ) (x : DdState) (kind : DdKind) (s : State) → IsPlain (puts name text d x kind s)
plain_put name text d x (Sysout class) s = one _ _ refl
plain_put name text d x Dummy s = one _ _ refl
plain_put name text d x (Cards cards) s = one _ _ refl
plain_put name text d x (Set p) s = plain_put_in name text d x p x.taken s

plain_put_unless : (b : Bool) (name text : List ℕ) (d : ℕ) (x : DdState) (kind : DdKind) (s : State) → IsPlain (puts_unless b name text d x kind s)
plain_put_unless true name text d x kind s = one _ _ refl
plain_put_unless false name text d x kind s = plain_put name text d x kind s

plain_ask_of : (step : StepPlan) (m : Move) (d : ℕ) (x : DdState) (dd : DdPlan) (s : State) → IsPlain (asks_of step m d x dd s)
plain_ask_of step (From name) d x dd s = let found = reads step d x s in plain_get name d x s found.member found.position found.text found.serial
plain_ask_of step (To name text) d x dd s = plain_put_unless (is_read_only dd.kind || is_concatenated (drop d step.dds)) name text d x dd.kind s

plain_ask_dd : (x : Option DdState) (dd : Option DdPlan) (step : StepPlan) (m : Move) (d : ℕ) (s : State) → IsPlain (asks_dd x dd step m d s)
plain_ask_dd None dd step m d s = one _ _ refl
plain_ask_dd (Some x) None step m d s = one _ _ refl
plain_ask_dd (Some x) (Some dd) step m d s = plain_ask_of step m d x dd s

plain_ask_at : (d : Option ℕ) (step : StepPlan) (m : Move) (s : State) → IsPlain (asks_at d step m s)
plain_ask_at None step m s = one _ _ refl
plain_ask_at (Some d) step m s = plain_ask_dd (slice_get s.own.dds d) (slice_get step.dds d) step m d s

plain_unless : (s : State) (x : Done) → IsPlain x → IsPlain (unless_cancelled s x)
plain_unless s x p = chosen _ _ _ (one _ _ refl) p

plain_receipt : (d : Due) (s : State) → IsPlain (received_now d s)
plain_receipt (due.Data name text) s = one _ _ refl
plain_receipt (due.Put name d text) s = one _ _ refl

plain_due : (d : Option Due) (s : State) → IsPlain (received_due d s)
plain_due None s = none s
plain_due (Some d) s = plain_unless s _ (plain_receipt d s)

plain_finish : (n : ℕ) (o : Option Outcome) (s : State) → IsPlain (finishes n o s)
plain_finish n (Some o) s = none _
plain_finish n None s = chosen _ _ _ (one _ _ refl) (one _ _ (plain_end (as_ending (head_or (outcome.Code 0) s.answers.outcomes))))

plain_set_dispose : (fixed : Fixed) (n dd : ℕ) (name : Option (List ℕ)) (p : SetPlan) (t : Option TakenSet) (s : State) → IsPlain (set_disposes fixed n dd name p t s)
plain_set_dispose fixed n dd name p None s = one _ _ refl
plain_set_dispose fixed n dd name p (Some t) s = record { plain = refl }

plain_dispose_at : (fixed : Fixed) (n dd : ℕ) (name : Option (List ℕ)) (kind : DdKind) (x : DdState) (s : State) → IsPlain (disposes_at fixed n dd name kind x s)
plain_dispose_at fixed n dd name (Sysout class) x s = one _ _ refl
plain_dispose_at fixed n dd name Dummy x s = one _ _ refl
plain_dispose_at fixed n dd name (Cards cards) x s = one _ _ refl
plain_dispose_at fixed n dd name (Set p) x s = plain_set_dispose fixed n dd name p x.taken s

plain_dispose : (x : Option DdState) (fixed : Fixed) (n dd : ℕ) (name : Option (List ℕ)) (kind : DdKind) (s : State) → IsPlain (disposes x fixed n dd name kind s)
plain_dispose None fixed n dd name kind s = none s
plain_dispose (Some x) fixed n dd name kind s = plain_dispose_at fixed n dd name kind x s

plain_leave : (fixed : Fixed) (n dd : ℕ) (name : Option (List ℕ)) (p : SetPlan) (q : Option Passed) (s : State) → IsPlain (leaves fixed n dd name p q s)
plain_leave fixed n dd name p None s = none s
plain_leave fixed n dd name p (Some q) s = record { plain = refl }

plain_left : (fixed : Fixed) (n dd : ℕ) (name : Option (List ℕ)) (kind : DdKind) (s : State) → IsPlain (left_at fixed n dd name kind s)
plain_left fixed n dd name (Sysout class) s = none s
plain_left fixed n dd name Dummy s = none s
plain_left fixed n dd name (Cards cards) s = none s
plain_left fixed n dd name (Set p) s = plain_leave fixed n dd name p (passed_by s.own.passed n dd) s

abbrev pub is_last : Action → Bool
is_last Over = true
is_last other = false

pub plain_act : (fixed : Fixed) (a : Action) (s : State) → is_last a ≡ false → IsPlain (act fixed a s)
unfolding act
plain_act fixed (Start n step) s other = one _ _ refl
plain_act fixed (Take n dd d) s other = running _ s _ (plain_take fixed n dd d.name d.kind s)
plain_act fixed (Ask step m) s other = running _ s _ (plain_unless s _ (plain_ask_at (dd_of step.dds (dd_name m)) step m s))
plain_act fixed Receive s other = running _ s _ (plain_due s.own.due s)
plain_act fixed (Finish n) s other = chosen _ _ _ (plain_finish n s.own.over s) (none _)
plain_act fixed (Dispose n dd d) s other = running _ s _ (plain_dispose (slice_get s.own.dds (dd - 1)) fixed n dd d.name d.kind s)
plain_act fixed (Left n dd d) s other = plain_left fixed n dd d.name d.kind s
plain_act fixed Over s other = absurd cc
