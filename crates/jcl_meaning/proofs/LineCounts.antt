-- An action writes at most one line, beside those of a fault.
use Rattle.std.proofs.Common.{◌≡◌, ℕ, ◌-◌, ◌≤◌, ◌==◌, ◌++◌, Bool, true, false, not, cond, List, [], ◌∷◌, Option, Some, None, length, map, refl, sym, ap, ◌∙◌, arith, length-append, eqb-true}
use Rattle.std.specs.Prelude.{◌||◌, drop, slice_get}
use Rattle.std.specs.List.{list_any}
use Rattle.std.proofs.lemmas.List.{length-map}
use Rattle.std.proofs.lemmas.List.Elements.{filter-append}
use Rattle.std.proofs.lemmas.List.Folds.{list_any-append}
use Rattle.std.proofs.lemmas.List.Sums.{count_by-le-length, length-filter}
use Rattle.jname_core.specs.declared.key.Key.{Key}
use Rattle.jcl_plan.specs.declared.entry.JobLine.{JobLine}
use Rattle.jcl_plan.specs.declared.fault.Fault.{Fault}
use Rattle.jcl_plan.specs.declared.outcome.Outcome.{Outcome}
use Rattle.jcl_plan.specs.declared.plan.DdKind.{DdKind}
use Rattle.jcl_plan.specs.declared.plan.DdKind.TheVariants.{Sysout, Dummy, Cards, Set}
use Rattle.jcl_plan.specs.declared.plan.DdPlan.{DdPlan}
use Rattle.jcl_plan.specs.declared.plan.SetPlan.{SetPlan}
use Rattle.jcl_plan.specs.declared.plan.StepPlan.{StepPlan}
use Rattle.jcl_meaning.specs.declared.program.Move.{Move}
use Rattle.jcl_meaning.specs.declared.program.Move.TheVariants.{From, To}
use Rattle.jcl_meaning.specs.declared.state.DdState.{DdState}
use Rattle.jcl_meaning.specs.declared.state.Due.{Due}
use Rattle.jcl_meaning.specs.declared.state.Due.TheVariants as due
use Rattle.jcl_meaning.specs.declared.state.Passed.{Passed}
use Rattle.jcl_meaning.specs.declared.state.Resolution.{Resolution}
use Rattle.jcl_meaning.specs.declared.state.Resolution.TheVariants.{Means, Fails}
use Rattle.jcl_meaning.specs.declared.state.TakenSet.{TakenSet}
use Rattle.jcl_meaning.specs.declared.store.DataSet.{DataSet}
use Rattle.jcl_meaning.specs.declared.take.Decision.{Decision}
use Rattle.jcl_meaning.specs.declared.take.Decision.TheVariants.{Refuses, Takes}
use Rattle.jcl_meaning.specs.Acts.{act}
use Rattle.jcl_meaning.specs.Agendas.{Action, Start, Take, Ask, Receive, Finish, Dispose, Left, Over}
use Rattle.jcl_plan.specs.declared.outcome.Outcome.TheVariants.{Abend, Bypassed, Code, Flushed}
use Rattle.jcl_meaning.specs.EndActs.{as_ending, disposes, disposes_at, end_line, finishes, leaves, left_at, passed_by, set_disposes}
use Rattle.jcl_meaning.specs.LineCounts.{beside_faults, is_of_fault}
use Rattle.jcl_meaning.specs.Programs.{dd_of, emptied, empties, is_concatenated, is_read_only, or_nothing}
use Rattle.jcl_meaning.specs.RequestActs.{asks_at, asks_dd, asks_of, dd_name, gets_by, head_or, put_grows, put_to_set, puts, puts_in, puts_unless, reads, received_due, received_now}
use Rattle.jcl_meaning.specs.Solo.{Met, is_clean, later, met_first, run}
use Rattle.jcl_meaning.specs.Resolutions.{meaning_at}
use Rattle.jcl_meaning.specs.States.{Done, Fixed, State, goes, if_runs, no_fault, unless_cancelled}
use Rattle.jcl_meaning.specs.Takes.{secondary_of}
use Rattle.jcl_meaning.specs.TakeActs.{back_line, back_lines, decided, refused, takes, takes_set}

-- at most one line beside those of a fault, and without a fault at most one, which is none of a fault
record IsShort (done : Done) : Type 0 where
  beside : length (beside_faults done.lines) ≤ 1
  clean : no_fault done.meets ≡ true → length done.lines ≤ 1
  plain : no_fault done.meets ≡ true → list_any is_of_fault done.lines ≡ false

beside-le : (lines : List JobLine) → length (beside_faults lines) ≤ length lines
beside-le lines = omega (arith, length-filter (λ (l : JobLine). not (is_of_fault l)) lines, count_by-le-length (λ (l : JobLine). not (is_of_fault l)) lines)

short : (done : Done) → length done.lines ≤ 1 → list_any is_of_fault done.lines ≡ false → IsShort done
short done h p = record { beside = omega (arith, beside-le done.lines); clean = λ _. h; plain = λ _. p }

none : (s : State) → IsShort (goes [] s)
none s = short (goes [] s) (omega arith) refl

one : (l : JobLine) (s : State) → list_any is_of_fault (l ∷ []) ≡ false → IsShort (goes (l ∷ []) s)
one l s p = short (goes (l ∷ []) s) (omega arith) p

chosen : (b : Bool) (x y : Done) → IsShort x → IsShort y → IsShort (cond b x y)
chosen true x y p q = p
chosen false x y p q = q

running : (b : Bool) (s : State) (x : Done) → IsShort x → IsShort (if_runs b s x)
running true s x p = p
running false s x p = none s

-- the lines of a fault
no_back : (x : DdState) (t : Option TakenSet) → beside_faults (back_line (record x { taken = t })) ≡ []
no_back x None = refl
no_back x (Some t) = refl

no_backs : (xs : List DdState) → beside_faults (back_lines xs) ≡ []
no_backs [] = refl
no_backs (x ∷ xs) =
    filter-append (λ (l : JobLine). not (is_of_fault l)) (back_line x) (back_lines xs)
    ∙ (λ i. no_back x x.taken i ++ no_backs xs i)

short_refusal : (n dd : ℕ) (f : Fault) (s : State) → IsShort (refused n dd f s)
short_refusal n dd f s = record { beside = omega (arith, ap length (no_backs s.own.dds)); clean = λ h. absurd cc; plain = λ h. absurd cc }

-- each action
short_decision : (fixed : Fixed) (n dd : ℕ) (name : Option (List ℕ)) (p : SetPlan) (key : Key) (s : State) (d : Decision) → IsShort (decided fixed n dd name p key s d)
short_decision fixed n dd name p key s (Refuses f) = short_refusal n dd f s
short_decision fixed n dd name p key s (Takes serial h) = short (decided fixed n dd name p key s (Takes serial h)) (omega arith) refl

short_take_set : (fixed : Fixed) (n dd : ℕ) (name : Option (List ℕ)) (p : SetPlan) (s : State) (r : Resolution) → IsShort (takes_set fixed n dd name p s r)
short_take_set fixed n dd name p s (Fails f) = short_refusal n dd f s
short_take_set fixed n dd name p s (Means key) = short_decision fixed n dd name p key s _

short_take : (fixed : Fixed) (n dd : ℕ) (name : Option (List ℕ)) (kind : DdKind) (s : State) → IsShort (takes fixed n dd name kind s)
short_take fixed n dd name (Sysout class) s = one _ _ refl
short_take fixed n dd name Dummy s = one _ _ refl
short_take fixed n dd name (Cards cards) s = one _ _ refl
short_take fixed n dd name (Set p) s = short_take_set fixed n dd name p s (meaning_at fixed.meanings n dd)

short_get : (name : List ℕ) (d : ℕ) (x : DdState) (s : State) (m p : ℕ) (text serial : Option (List ℕ)) → IsShort (gets_by name d x s m p text serial)
short_get name d x s m p None serial = one _ _ refl
short_get name d x s m p (Some text) None = one _ _ refl
short_get name d x s m p (Some text) (Some serial) = one _ _ refl

short_grow : (granted : Bool) (name text : List ℕ) (d : ℕ) (x : DdState) (t : TakenSet) (n : ℕ) (set : DataSet) (s : State) → IsShort (put_grows granted name text d x t n set s)
short_grow true name text d x t n set s = one _ _ refl
short_grow false name text d x t n set s = one _ _ refl

short_put_to_set : (name text : List ℕ) (d : ℕ) (x : DdState) (t : TakenSet) (n : ℕ) (set : DataSet) (s : State) → IsShort (put_to_set name text d x t n set s)
short_put_to_set name text d x t n set s = chosen _ _ _ (chosen _ _ _ (one _ _ refl) (short_grow (head_or true s.answers.grants) name text d x t n set s)) (one _ _ refl)

short_put_in : (name text : List ℕ) (d : ℕ) (x : DdState) (p : SetPlan) (t : Option TakenSet) (s : State) → IsShort (puts_in name text d x p t s)
short_put_in name text d x p None s = one _ _ refl
short_put_in name text d x p (Some t) s = short_put_to_set name text d x t (secondary_of p.space) (emptied (empties p.status x.written) (or_nothing (s.store.set t.key t.serial))) s

short_put : (name text : List ℕ) (d : ℕ) (x : DdState) (kind : DdKind) (s : State) → IsShort (puts name text d x kind s)
short_put name text d x (Sysout class) s = one _ _ refl
short_put name text d x Dummy s = one _ _ refl
short_put name text d x (Cards cards) s = one _ _ refl
short_put name text d x (Set p) s = short_put_in name text d x p x.taken s

short_put_unless : (b : Bool) (name text : List ℕ) (d : ℕ) (x : DdState) (kind : DdKind) (s : State) → IsShort (puts_unless b name text d x kind s)
short_put_unless true name text d x kind s = one _ _ refl
short_put_unless false name text d x kind s = short_put name text d x kind s

short_ask_of : (step : StepPlan) (m : Move) (d : ℕ) (x : DdState) (dd : DdPlan) (s : State) → IsShort (asks_of step m d x dd s)
short_ask_of step (From name) d x dd s = let found = reads step d x s in short_get name d x s found.member found.position found.text found.serial
short_ask_of step (To name text) d x dd s = short_put_unless (is_read_only dd.kind || is_concatenated (drop d step.dds)) name text d x dd.kind s

short_ask_dd : (x : Option DdState) (dd : Option DdPlan) (step : StepPlan) (m : Move) (d : ℕ) (s : State) → IsShort (asks_dd x dd step m d s)
short_ask_dd None dd step m d s = one _ _ refl
short_ask_dd (Some x) None step m d s = one _ _ refl
short_ask_dd (Some x) (Some dd) step m d s = short_ask_of step m d x dd s

short_ask_at : (d : Option ℕ) (step : StepPlan) (m : Move) (s : State) → IsShort (asks_at d step m s)
short_ask_at None step m s = one _ _ refl
short_ask_at (Some d) step m s = short_ask_dd (slice_get s.own.dds d) (slice_get step.dds d) step m d s

short_unless : (s : State) (x : Done) → IsShort x → IsShort (unless_cancelled s x)
short_unless s x p = chosen _ _ _ (one _ _ refl) p

short_receipt : (d : Due) (s : State) → IsShort (received_now d s)
short_receipt (due.Data name text) s = one _ _ refl
short_receipt (due.Put name d text) s = one _ _ refl

short_due : (d : Option Due) (s : State) → IsShort (received_due d s)
short_due None s = none s
short_due (Some d) s = short_unless s _ (short_receipt d s)

no_fault_ends : (o : Outcome) → list_any is_of_fault (end_line o ∷ []) ≡ false
no_fault_ends (Code code) = refl
no_fault_ends (Abend a) = refl
no_fault_ends Bypassed = refl
no_fault_ends Flushed = refl

short_finish : (n : ℕ) (o : Option Outcome) (s : State) → IsShort (finishes n o s)
short_finish n (Some o) s = none _
short_finish n None s = chosen _ _ _ (one _ _ refl) (one _ _ (no_fault_ends (as_ending (head_or (Code 0) s.answers.outcomes))))

short_set_dispose : (fixed : Fixed) (n dd : ℕ) (name : Option (List ℕ)) (p : SetPlan) (t : Option TakenSet) (s : State) → IsShort (set_disposes fixed n dd name p t s)
short_set_dispose fixed n dd name p None s = one _ _ refl
short_set_dispose fixed n dd name p (Some t) s = short _ (omega arith) refl

short_dispose_at : (fixed : Fixed) (n dd : ℕ) (name : Option (List ℕ)) (kind : DdKind) (x : DdState) (s : State) → IsShort (disposes_at fixed n dd name kind x s)
short_dispose_at fixed n dd name (Sysout class) x s = one _ _ refl
short_dispose_at fixed n dd name Dummy x s = one _ _ refl
short_dispose_at fixed n dd name (Cards cards) x s = one _ _ refl
short_dispose_at fixed n dd name (Set p) x s = short_set_dispose fixed n dd name p x.taken s

short_dispose : (x : Option DdState) (fixed : Fixed) (n dd : ℕ) (name : Option (List ℕ)) (kind : DdKind) (s : State) → IsShort (disposes x fixed n dd name kind s)
short_dispose None fixed n dd name kind s = none s
short_dispose (Some x) fixed n dd name kind s = short_dispose_at fixed n dd name kind x s

short_leave : (fixed : Fixed) (n dd : ℕ) (name : Option (List ℕ)) (p : SetPlan) (q : Option Passed) (s : State) → IsShort (leaves fixed n dd name p q s)
short_leave fixed n dd name p None s = none s
short_leave fixed n dd name p (Some q) s = short _ (omega arith) refl

short_left : (fixed : Fixed) (n dd : ℕ) (name : Option (List ℕ)) (kind : DdKind) (s : State) → IsShort (left_at fixed n dd name kind s)
short_left fixed n dd name (Sysout class) s = none s
short_left fixed n dd name Dummy s = none s
short_left fixed n dd name (Cards cards) s = none s
short_left fixed n dd name (Set p) s = short_leave fixed n dd name p (passed_by s.own.passed n dd) s

short_act : (fixed : Fixed) (a : Action) (s : State) → IsShort (act fixed a s)
unfolding act
short_act fixed (Start n step) s = one _ _ refl
short_act fixed (Take n dd d) s = running _ s _ (short_take fixed n dd d.name d.kind s)
short_act fixed (Ask step m) s = running _ s _ (short_unless s _ (short_ask_at (dd_of step.dds (dd_name m)) step m s))
short_act fixed Receive s = running _ s _ (short_due s.own.due s)
short_act fixed (Finish n) s = chosen _ _ _ (short_finish n s.own.over s) (none _)
short_act fixed (Dispose n dd d) s = running _ s _ (short_dispose (slice_get s.own.dds (dd - 1)) fixed n dd d.name d.kind s)
short_act fixed (Left n dd d) s = short_left fixed n dd d.name d.kind s
short_act fixed Over s = one _ _ refl

-- a run
pub run-beside : (fixed : Fixed) (actions : List Action) (s : State) → length (beside_faults (run fixed actions s).lines) ≤ length actions
unfolding run
run-beside fixed [] s = omega arith
run-beside fixed (a ∷ actions) s =
    let done = act fixed a s in
    let rest = (run fixed actions done.state).lines in
    omega (
      arith,
      (short_act fixed a s).beside,
      run-beside fixed actions done.state,
      ap length (filter-append (λ (l : JobLine). not (is_of_fault l)) done.lines rest),
      length-append (beside_faults done.lines) (beside_faults rest),
    )

clean_parts : (m : Option Fault) (rest : List Met) → (length (met_first m (map later rest)) == 0) ≡ true → (no_fault m ≡ true) × ((length rest == 0) ≡ true)
clean_parts None rest h = (refl, ap (λ n. n == 0) (sym (length-map rest later)) ∙ h)
clean_parts (Some f) rest h =
    let e : length (met_first (Some f) (map later rest)) ≡ 0 = eqb-true (length (met_first (Some f) (map later rest))) 0 h in
    absurd (omega arith)

pub run-clean : (fixed : Fixed) (actions : List Action) (s : State) → is_clean (run fixed actions s) ≡ true → length (run fixed actions s).lines ≤ length actions
unfolding run
run-clean fixed [] s h = omega arith
run-clean fixed (a ∷ actions) s h =
    let done = act fixed a s in
    let ran = run fixed actions done.state in
    let parts : (no_fault done.meets ≡ true) × ((length ran.faults == 0) ≡ true) = clean_parts done.meets ran.faults h in
    omega (arith, (short_act fixed a s).clean parts.0, run-clean fixed actions done.state parts.1, length-append done.lines ran.lines)

-- it writes no line of a fault
pub run-plain : (fixed : Fixed) (actions : List Action) (s : State) → is_clean (run fixed actions s) ≡ true → list_any is_of_fault (run fixed actions s).lines ≡ false
unfolding run
run-plain fixed [] s h = refl
run-plain fixed (a ∷ actions) s h =
    let done = act fixed a s in
    let ran = run fixed actions done.state in
    let parts : (no_fault done.meets ≡ true) × ((length ran.faults == 0) ≡ true) = clean_parts done.meets ran.faults h in
    list_any-append is_of_fault done.lines ran.lines ∙ (λ i. (short_act fixed a s).plain parts.0 i || run-plain fixed actions done.state parts.1 i)

-- one action writes at most one line beside those of a fault
pub act-beside : (fixed : Fixed) (a : Action) (s : State) → length (beside_faults (act fixed a s).lines) ≤ 1
act-beside fixed a s = (short_act fixed a s).beside
