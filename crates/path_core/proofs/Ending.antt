-- The lines of a path up to its fault end in the line of that fault.
use Rattle.std.proofs.Common.{◌≡◌, ◌-◌, ◌++◌, ◌<◌, ℕ, zero, suc, Bool, true, false, cond, List, [], ◌∷◌, Option, Some, None, length, refl, sym, ap, ◌∙◌, subst, arith, append_assoc}
use Rattle.std.specs.Prelude.{◌||◌, All, slice_get}
use Rattle.std.specs.List.{list_any}
use Rattle.std.proofs.lemmas.Bool.{or_parts}
use Rattle.std.proofs.lemmas.List.Elements.{All-head, All-tail}
use Rattle.jname_core.specs.declared.key.Key.{Key}
use Rattle.jcl_plan.specs.declared.entry.JobLine.{JobLine}
use Rattle.jcl_plan.specs.declared.entry.JobLine.TheVariants as line
use Rattle.jcl_plan.specs.declared.fault.Fault.{Fault}
use Rattle.jcl_plan.specs.declared.outcome.Outcome.{Outcome}
use Rattle.jcl_plan.specs.declared.outcome.Outcome.TheVariants as outcome
use Rattle.jcl_plan.specs.declared.plan.DdKind.{DdKind}
use Rattle.jcl_plan.specs.declared.plan.DdKind.TheVariants.{Cards, Dummy, Set, Sysout}
use Rattle.jcl_plan.specs.declared.plan.JobPlan.{JobPlan}
use Rattle.jcl_plan.specs.declared.plan.SetPlan.{SetPlan}
use Rattle.jcl_plan.specs.declared.words.DispWord.{DispWord}
use Rattle.jcl_plan.specs.declared.words.DispWord.TheVariants as disp
use Rattle.jcl_meaning.specs.declared.state.DdState.{DdState}
use Rattle.jcl_meaning.specs.declared.state.Passed.{Passed}
use Rattle.jcl_meaning.specs.declared.state.Resolution.{Resolution}
use Rattle.jcl_meaning.specs.declared.state.Resolution.TheVariants.{Fails, Means}
use Rattle.jcl_meaning.specs.declared.state.TakenSet.{TakenSet}
use Rattle.jcl_meaning.specs.declared.take.Decision.{Decision}
use Rattle.jcl_meaning.specs.declared.take.Decision.TheVariants.{Refuses, Takes}
use Rattle.jcl_meaning.specs.Acts.{act}
use Rattle.jcl_meaning.specs.Agendas.{Action, Ask, Dispose, Finish, Left, Over, Receive, Start, Take, path_agenda}
use Rattle.jcl_meaning.specs.Dispositions.{fault_in}
use Rattle.jcl_meaning.specs.EndActs.{as_ending, disposes, disposes_at, end_line, finishes, leaves, left_at, passed_by, set_disposes}
use Rattle.jcl_meaning.specs.Names.{names_of}
use Rattle.jcl_meaning.specs.RequestActs.{head_or}
use Rattle.jcl_meaning.specs.Resolutions.{meaning_at}
use Rattle.jcl_meaning.specs.Solo.{at_start, given, nothing_own, run}
use Rattle.jcl_meaning.specs.States.{Done, Fixed, State, goes, if_runs}
use Rattle.jcl_meaning.specs.Stores.{Store}
use Rattle.jcl_meaning.specs.TakeActs.{decided, takes, takes_set}
use Rattle.part_laws.specs.Fits.{Fits}
use Rattle.path_meaning.specs.Explanations.{path_lines, tells_fault, up_to_fault}
use Rattle.path_meaning.specs.Paths.{FaultPlace, fault_place}
use Rattle.path_meaning.specs.Verdicts.{IsEarliest}
use Rattle.solo_core.specs.Meets.{meets_in}
use Rattle.start_laws.proofs.Lines.{IsGiven, path_given}
use Rattle.path_core.specs.Endings.{EndsIn, TellsFault}
use Rattle.path_core.proofs.Passing.{first_fault}

-- the step and the DD of an action
abbrev step_at : Action → ℕ
step_at (Take n dd d) = n
step_at (Dispose n dd d) = n
step_at (Left n dd d) = n
step_at other = 0

abbrev dd_at : Action → ℕ
dd_at (Take n dd d) = dd
dd_at (Dispose n dd d) = dd
dd_at (Left n dd d) = dd
dd_at other = 0

-- the first line of what was done tells the fault that was met
record Told (fault : Fault) (n dd : ℕ) (lines : List JobLine) : Type 0 where
  first : JobLine
  rest : List JobLine
  is : lines ≡ first ∷ rest
  is_fault : tells_fault first ≡ true
  tells : TellsFault first fault n dd

abbrev TellsWhatIsMet : ℕ → ℕ → List JobLine → Option Fault → Type 0
TellsWhatIsMet n dd lines None = list_any tells_fault lines ≡ false
TellsWhatIsMet n dd lines (Some fault) = Told fault n dd lines

record Tells (n dd : ℕ) (done : Done) : Type 0 where
  met : TellsWhatIsMet n dd done.lines done.meets

none : (n dd : ℕ) (s : State) → Tells n dd (goes [] s)
none n dd s = record { met = refl }

one : (n dd : ℕ) (l : JobLine) (s : State) → tells_fault l ≡ false → Tells n dd (goes (l ∷ []) s)
one n dd l s h = record { met = ap (λ b. b || false) h }

chosen : (n dd : ℕ) (b : Bool) (x y : Done) → Tells n dd x → Tells n dd y → Tells n dd (cond b x y)
chosen n dd true x y p q = p
chosen n dd false x y p q = q

running : (n dd : ℕ) (b : Bool) (s : State) (x : Done) → Tells n dd x → Tells n dd (if_runs b s x)
running n dd true s x p = p
running n dd false s x p = record { met = refl }

-- each action
module _ (fixed : Fixed) (n dd : ℕ) where
  told_decided : (name : Option (List ℕ)) (p : SetPlan) (key : Key) (s : State) (d : Decision) → Tells n dd (decided fixed n dd name p key s d)
  told_decided name p key s (Refuses fault) = record { met = record { first = line.Fault fault n dd; rest = _; is = refl; is_fault = refl; tells = (refl, refl, refl) } }
  told_decided name p key s (Takes serial h) = record { met = refl }

  told_set : (name : Option (List ℕ)) (p : SetPlan) (s : State) (r : Resolution) → Tells n dd (takes_set fixed n dd name p s r)
  told_set name p s (Fails fault) = record { met = record { first = line.Fault fault n dd; rest = _; is = refl; is_fault = refl; tells = (refl, refl, refl) } }
  told_set name p s (Means key) = told_decided name p key s _

  told_take : (name : Option (List ℕ)) (kind : DdKind) (s : State) → Tells n dd (takes fixed n dd name kind s)
  told_take name (Sysout class) s = record { met = refl }
  told_take name Dummy s = record { met = refl }
  told_take name (Cards cards) s = record { met = refl }
  told_take name (Set p) s = told_set name p s (meaning_at fixed.meanings n dd)

  -- a disposition's word
  word_disp : (name : Option (List ℕ)) (w : DispWord) → TellsWhatIsMet n dd (line.Disp dd name w ∷ []) (fault_in w)
  word_disp name disp.F3 = record { first = line.Disp dd name disp.F3; rest = []; is = refl; is_fault = refl; tells = (refl, refl) }
  word_disp name disp.F4 = record { first = line.Disp dd name disp.F4; rest = []; is = refl; is_fault = refl; tells = (refl, refl) }
  word_disp name disp.F8 = record { first = line.Disp dd name disp.F8; rest = []; is = refl; is_fault = refl; tells = (refl, refl) }
  word_disp name disp.Kept = refl
  word_disp name disp.Deleted = refl
  word_disp name disp.Passed = refl
  word_disp name disp.Cataloged = refl
  word_disp name disp.Uncataloged = refl
  word_disp name disp.Unexpired = refl
  word_disp name (disp.Spooled count) = refl
  word_disp name disp.Nothing = refl

  word_left : (name : Option (List ℕ)) (w : DispWord) → TellsWhatIsMet n dd (line.Left n dd name w ∷ []) (fault_in w)
  word_left name disp.F3 = record { first = line.Left n dd name disp.F3; rest = []; is = refl; is_fault = refl; tells = (refl, refl, refl) }
  word_left name disp.F4 = record { first = line.Left n dd name disp.F4; rest = []; is = refl; is_fault = refl; tells = (refl, refl, refl) }
  word_left name disp.F8 = record { first = line.Left n dd name disp.F8; rest = []; is = refl; is_fault = refl; tells = (refl, refl, refl) }
  word_left name disp.Kept = refl
  word_left name disp.Deleted = refl
  word_left name disp.Passed = refl
  word_left name disp.Cataloged = refl
  word_left name disp.Uncataloged = refl
  word_left name disp.Unexpired = refl
  word_left name (disp.Spooled count) = refl
  word_left name disp.Nothing = refl

  told_set_disposed : (name : Option (List ℕ)) (p : SetPlan) (t : Option TakenSet) (s : State) → Tells n dd (set_disposes fixed n dd name p t s)
  told_set_disposed name p None s = record { met = refl }
  told_set_disposed name p (Some t) s = record { met = word_disp name _ }

  told_disposed_at : (name : Option (List ℕ)) (kind : DdKind) (x : DdState) (s : State) → Tells n dd (disposes_at fixed n dd name kind x s)
  told_disposed_at name (Sysout class) x s = record { met = refl }
  told_disposed_at name Dummy x s = record { met = refl }
  told_disposed_at name (Cards cards) x s = record { met = refl }
  told_disposed_at name (Set p) x s = told_set_disposed name p x.taken s

  told_disposed : (x : Option DdState) (name : Option (List ℕ)) (kind : DdKind) (s : State) → Tells n dd (disposes x fixed n dd name kind s)
  told_disposed None name kind s = record { met = refl }
  told_disposed (Some x) name kind s = told_disposed_at name kind x s

  told_set_left : (name : Option (List ℕ)) (p : SetPlan) (q : Option Passed) (s : State) → Tells n dd (leaves fixed n dd name p q s)
  told_set_left name p None s = record { met = refl }
  told_set_left name p (Some q) s = record { met = word_left name _ }

  told_left : (name : Option (List ℕ)) (kind : DdKind) (s : State) → Tells n dd (left_at fixed n dd name kind s)
  told_left name (Sysout class) s = record { met = refl }
  told_left name Dummy s = record { met = refl }
  told_left name (Cards cards) s = record { met = refl }
  told_left name (Set p) s = told_set_left name p (passed_by s.own.passed n dd) s

no_fault_ends : (o : Outcome) → tells_fault (end_line o) ≡ false
no_fault_ends (outcome.Code code) = refl
no_fault_ends (outcome.Abend a) = refl
no_fault_ends outcome.Bypassed = refl
no_fault_ends outcome.Flushed = refl

told_finished : (n : ℕ) (o : Option Outcome) (s : State) → Tells 0 0 (finishes n o s)
told_finished n (Some o) s = none 0 0 _
told_finished n None s =
    chosen 0 0 _ _ _ (one 0 0 _ _ refl) (one 0 0 _ _ (no_fault_ends (as_ending (head_or (outcome.Code 0) s.answers.outcomes))))

told_act : (fixed : Fixed) (a : Action) (s : State) → IsGiven a → Tells (step_at a) (dd_at a) (act fixed a s)
unfolding act
told_act fixed (Start n step) s h = record { met = refl }
told_act fixed (Take n dd d) s h = running n dd _ s _ (told_take fixed n dd d.name d.kind s)
told_act fixed (Ask step move) s h = absurd h
told_act fixed Receive s h = absurd h
told_act fixed (Finish n) s h = chosen 0 0 _ _ _ (told_finished n s.own.over s) (none 0 0 _)
told_act fixed (Dispose n dd d) s h = running n dd _ s _ (told_disposed fixed n dd (slice_get s.own.dds (dd - 1)) d.name d.kind s)
told_act fixed (Left n dd d) s h = told_left fixed n dd d.name d.kind s
told_act fixed Over s h = record { met = refl }

-- what is kept of lines
stops : (l : JobLine) (rest : List JobLine) → tells_fault l ≡ true → up_to_fault (l ∷ rest) ≡ l ∷ []
stops l rest told = ap (λ (b : Bool). cond b (l ∷ []) (l ∷ up_to_fault rest)) told

passes_on : (xs ys : List JobLine) → list_any tells_fault xs ≡ false → up_to_fault (xs ++ ys) ≡ xs ++ up_to_fault ys
passes_on [] ys h = refl
passes_on (x ∷ xs) ys h =
    let both : (tells_fault x ≡ false) × (list_any tells_fault xs ≡ false) = or_parts (tells_fault x) (list_any tells_fault xs) h in
    ap (λ (b : Bool). cond b (x ∷ []) (x ∷ up_to_fault (xs ++ ys))) both.0 ∙ ap (λ (zs : List JobLine). x ∷ zs) (passes_on xs ys both.1)

behind_these : (xs ys : List JobLine) (fault : Fault) (n dd : ℕ) → EndsIn ys fault n dd → EndsIn (xs ++ ys) fault n dd
behind_these xs ys fault n dd e = record {
  before = xs ++ e.before;
  last = e.last;
  is = ap (λ (zs : List JobLine). xs ++ zs) e.is ∙ sym (append_assoc xs e.before (e.last ∷ []));
  tells = e.tells;
}

-- a run, up to the first fault that it meets
module _ (fixed : Fixed) (fault : Fault) where
  ends_here : (n dd : ℕ) (lines more : List JobLine) (m : Option Fault) → m ≡ Some fault → TellsWhatIsMet n dd lines m → EndsIn (up_to_fault (lines ++ more)) fault n dd
  ends_here n dd lines more None e t = absurd cc
  ends_here n dd lines more (Some f) e t =
      let same : f ≡ fault = cc in record {
        before = [];
        last = t.first;
        is = ap (λ (xs : List JobLine). up_to_fault (xs ++ more)) t.is ∙ stops t.first (t.rest ++ more) t.is_fault;
        tells = subst (λ (g : Fault). TellsFault t.first g n dd) same t.tells;
      }

  goes_on : (n dd k d : ℕ) (lines more : List JobLine) (m : Option Fault) → ((f : Fault) → m ≡ Some f → ⊥) → TellsWhatIsMet n dd lines m →
      EndsIn (up_to_fault more) fault k d → EndsIn (up_to_fault (lines ++ more)) fault k d
  goes_on n dd k d lines more None never t later =
      subst (λ (xs : List JobLine). EndsIn xs fault k d) (sym (passes_on lines more t)) (behind_these lines (up_to_fault more) fault k d later)
  goes_on n dd k d lines more (Some f) never t later = absurd (never f refl)

  run_ends : (actions : List Action) (s : State) (place : ℕ) (a : Action) → All IsGiven actions → slice_get actions place ≡ Some a →
      slice_get (meets_in fixed actions s) place ≡ Some (Some fault) →
      ((k : ℕ) (f : Fault) → k < place → slice_get (meets_in fixed actions s) k ≡ Some (Some f) → ⊥) →
      EndsIn (up_to_fault (run fixed actions s).lines) fault (step_at a) (dd_at a)
  unfolding run
  run_ends [] s place a quiet due met none = absurd cc
  run_ends (b ∷ actions) s zero a quiet due met none =
      let same : b ≡ a = cc in
      let meets : (act fixed b s).meets ≡ Some fault = cc in
      subst (λ (x : Action). EndsIn (up_to_fault (run fixed (b ∷ actions) s).lines) fault (step_at x) (dd_at x)) same
      (ends_here (step_at b) (dd_at b) (act fixed b s).lines (run fixed actions (act fixed b s).state).lines (act fixed b s).meets meets
      (told_act fixed b s (All-head IsGiven b actions quiet)).met)
  run_ends (b ∷ actions) s (suc n) a quiet due met none =
      goes_on (step_at b) (dd_at b) (step_at a) (dd_at a) (act fixed b s).lines (run fixed actions (act fixed b s).state).lines (act fixed b s).meets
      (λ f e. none 0 f (omega arith) (ap (λ (m : Option Fault). Some m) e))
      (told_act fixed b s (All-head IsGiven b actions quiet)).met
      (run_ends actions (act fixed b s).state n a (All-tail IsGiven b actions quiet) due met (λ k f less e. none (suc k) f (omega (arith, less)) e))

at_place : (steps : ℕ) (a : Action) (p : FaultPlace) → fault_place steps a ≡ Some p → (step_at a ≡ p.step) × (dd_at a ≡ p.dd)
at_place steps (Start n step) p e = absurd cc
at_place steps (Take n dd d) p e = let same : record { step = n; dd = dd; ended = n - 1 } ≡ p = cc in (ap (λ (q : FaultPlace). q.step) same, ap (λ (q : FaultPlace). q.dd) same)
at_place steps (Ask step move) p e = absurd cc
at_place steps Receive p e = absurd cc
at_place steps (Finish n) p e = absurd cc
at_place steps (Dispose n dd d) p e = let same : record { step = n; dd = dd; ended = n } ≡ p = cc in (ap (λ (q : FaultPlace). q.step) same, ap (λ (q : FaultPlace). q.dd) same)
at_place steps (Left n dd d) p e = let same : record { step = n; dd = dd; ended = steps } ≡ p = cc in (ap (λ (q : FaultPlace). q.step) same, ap (λ (q : FaultPlace). q.dd) same)
at_place steps Over p e = absurd cc

module _ (fixed : Fixed) (plan : JobPlan) (store : Store) (limit : ℕ) (fault : Fault) (step dd : ℕ) (path : List Outcome)
    (job : fixed.job_tests ≡ plan.tests.items) (fits : Fits (names_of plan) fixed.meanings (path_agenda plan) nothing_own)
    (earliest : IsEarliest fixed plan store limit fault step dd path) where
  pub ends : EndsIn (path_lines fixed plan store path) fault step dd
  ends =
      let first = first_fault fixed plan store job fits limit fault step dd path earliest in
      let at = at_place (length plan.steps) earliest.meets.action _ earliest.meets.at in
      let it = run_ends fixed fault (path_agenda plan) (at_start store (given path)) earliest.meets.place earliest.meets.action (path_given plan) earliest.meets.due first.0 first.1 in
      subst (λ n. EndsIn (path_lines fixed plan store path) fault n dd) at.0
      (subst (λ d. EndsIn (path_lines fixed plan store path) fault (step_at earliest.meets.action) d) at.1 it)
