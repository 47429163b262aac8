-- What each action looks at of its answers.
use Rattle.std.proofs.Common.{◌≡◌, ℕ, ◌+◌, ◌-◌, ◌==◌, Bool, true, false, ◌&&◌, ◌||◌, cond, List, [], ◌∷◌, drop, Option, Some, None, refl, sym, ap, ◌∙◌, subst}
use Rattle.std.specs.Prelude.{is_none, is_some, slice_get}
use Rattle.jname_core.specs.declared.key.Key.{Key}
use Rattle.jcl_plan.specs.declared.entry.JobLine.{JobLine}
use Rattle.jcl_plan.specs.declared.entry.JobLine.TheVariants as line
use Rattle.jcl_plan.specs.declared.fault.Fault.{Fault}
use Rattle.jcl_plan.specs.declared.outcome.Abend.{Abend}
use Rattle.jcl_plan.specs.declared.outcome.Outcome.{Outcome}
use Rattle.jcl_plan.specs.declared.outcome.Outcome.TheVariants as outcome
use Rattle.jcl_plan.specs.declared.outcome.Abend.TheVariants as abend
use Rattle.jcl_plan.specs.declared.plan.DdKind.{DdKind}
use Rattle.jcl_plan.specs.declared.plan.DdKind.TheVariants.{Cards, Dummy, Set, Sysout}
use Rattle.jcl_plan.specs.declared.plan.DdPlan.{DdPlan}
use Rattle.jcl_plan.specs.declared.plan.SetPlan.{SetPlan}
use Rattle.jcl_plan.specs.declared.plan.StepPlan.{StepPlan}
use Rattle.jcl_meaning.specs.declared.program.Move.{Move}
use Rattle.jcl_meaning.specs.declared.program.Move.TheVariants.{From, To}
use Rattle.jcl_meaning.specs.declared.source.FoundRecord.{FoundRecord}
use Rattle.jcl_meaning.specs.declared.state.DdState.{DdState}
use Rattle.jcl_meaning.specs.declared.state.Due.{Due}
use Rattle.jcl_meaning.specs.declared.state.Due.TheVariants as due
use Rattle.jcl_meaning.specs.declared.state.Own.{Own}
use Rattle.jcl_meaning.specs.declared.state.Passed.{Passed}
use Rattle.jcl_meaning.specs.declared.state.Place.{Place}
use Rattle.jcl_meaning.specs.declared.state.Resolution.{Resolution}
use Rattle.jcl_meaning.specs.declared.state.Resolution.TheVariants.{Fails, Means}
use Rattle.jcl_meaning.specs.declared.state.TakenSet.{TakenSet}
use Rattle.jcl_meaning.specs.declared.store.DataSet.{DataSet}
use Rattle.jcl_meaning.specs.declared.take.Decision.{Decision}
use Rattle.jcl_meaning.specs.declared.take.Decision.TheVariants.{Refuses, Takes}
use Rattle.jcl_meaning.specs.declared.take.Target.{Target}
use Rattle.jcl_meaning.specs.Acts.{act}
use Rattle.jcl_meaning.specs.Agendas.{Action}
use Rattle.jcl_meaning.specs.EndActs.{as_ending, disposes, end_line, ended_with, finishes, leaves, left_at, passed_by, set_disposes}
use Rattle.jcl_meaning.specs.Programs.{dd_of, emptied, empties, is_concatenated, is_full, is_read_only, or_nothing}
use Rattle.jcl_meaning.specs.RequestActs.{asked, asks_at, asks_dd, asks_of, dd_name, gets_by, head_or, put_grows, put_to_set, puts, puts_in, put_starts, puts_unless, reads, received_due, received_now, with_set_at}
use Rattle.jcl_meaning.specs.Resolutions.{meaning_at}
use Rattle.jcl_meaning.specs.States.{Answers, Done, Fixed, State, abended_by, asks_open, cancel_due, goes, if_runs, silent, unless_cancelled, with_answers_used, wrote}
use Rattle.jcl_meaning.specs.Stores.{Store, with_set_there}
use Rattle.jcl_meaning.specs.TakeActs.{decided, started, takes, takes_set, target_at}
use Rattle.jcl_meaning.specs.Takes.{decide, is_known, is_there, looked_at, secondary_of}
use Rattle.world_laws.specs.Looks.{IsCounted, Looks, Tells, answers_left, grants_left, is_request}

abbrev pub with : Store → Own → Answers → State
with store own a = record { store = store; own = own; answers = a }

-- what is done, but for the answers that are left
pub record Does (f : Answers → Done) : Type 0 where
  pub lines : List JobLine
  pub store : Store
  pub own : Own
  pub meets : Option Fault
  pub made : List Place
  pub is : (a : Answers) → f a ≡ record { lines = lines; state = with store own a; meets = meets; made = made }

-- one that looks at nothing does what it does for any
nothing_granted : Answers
nothing_granted = record { outcomes = []; cancels = []; grants = []; primary = true }

abbrev same_for_all : (f : Answers → Done) → Done → Type 0
same_for_all f d = (a : Answers) → f a ≡ record { lines = d.lines; state = with d.state.store d.state.own a; meets = d.meets; made = d.made }

does_by : (f : Answers → Done) (d : Done) → same_for_all f d → Does f
does_by f d h = record { lines = d.lines; store = d.state.store; own = d.state.own; meets = d.meets; made = d.made; is = h }

either : (b : Bool) (f g : Answers → Done) → Does f → Does g → Does (λ a. cond b (f a) (g a))
either true f g d e = d
either false f g d e = e

-- the same for one that may ask a growth
pub record Asks (growth : Bool) (n : ℕ) (f : Answers → Done) : Type 0 where
  pub used : Bool
  pub lines : List JobLine
  pub store : Store
  pub own : Own
  pub next : own.lines ≡ n + 1
  pub is : (a : Answers) → (used ≡ true → head_or true a.grants ≡ growth) → f a ≡ goes lines (with store own (grants_left used a))

quiet : (growth : Bool) (n : ℕ) (f : Answers → Done) (lines : List JobLine) (now : Store) (left : Own) → left.lines ≡ n + 1 →
    ((a : Answers) → f a ≡ goes lines (with now left a)) → Asks growth n f
quiet growth n f lines now left next h = record { used = false; lines = lines; store = now; own = left; next = next; is = λ a g. h a }

abends : (growth : Bool) (a : Abend) (now : Store) (own : Own) → Asks growth own.lines (λ b. abended_by a (with now own b))
abends growth a now own =
    quiet growth own.lines (λ b. abended_by a (with now own b)) (line.Abend a ∷ []) now
    (record own { over = Some (outcome.Abend a); due = None; lines = own.lines + 1 }) refl (λ b. refl)

either_asks : (growth : Bool) (n : ℕ) (b : Bool) (f g : Answers → Done) → Asks growth n f → Asks growth n g → Asks growth n (λ a. cond b (f a) (g a))
either_asks growth n true f g d e = d
either_asks growth n false f g d e = e

module _ (growth : Bool) (store : Store) (own : Own) where
  starts_ask : (name text : List ℕ) (d : ℕ) (x : DdState) (t : TakenSet) (grown : Option ℕ) (set : DataSet) →
      Asks growth own.lines (λ a. put_starts name text d x t grown (with_set_at (with store own a) t set))
  starts_ask name text d x t grown set =
      quiet growth own.lines (λ a. put_starts name text d x t grown (with_set_at (with store own a) t set)) _ _ _ refl (λ a. refl)

  grows_ask : (b : Bool) (name text : List ℕ) (d : ℕ) (x : DdState) (t : TakenSet) (secondary : ℕ) (set : DataSet) → growth ≡ b →
      Asks growth own.lines (λ a. put_grows (head_or true a.grants) name text d x t secondary set (with store own a))
  grows_ask true name text d x t secondary set e = record {
    used = true;
    lines = _;
    store = _;
    own = _;
    next = refl;
    is = λ a g. ap (λ b. put_grows b name text d x t secondary set (with store own a)) (g refl ∙ e);
  }
  grows_ask false name text d x t secondary set e = record {
    used = true;
    lines = _;
    store = _;
    own = _;
    next = refl;
    is = λ a g. ap (λ b. put_grows b name text d x t secondary set (with store own a)) (g refl ∙ e);
  }

  to_set_ask : (name text : List ℕ) (d : ℕ) (x : DdState) (t : TakenSet) (secondary : ℕ) (set : DataSet) →
      Asks growth own.lines (λ a. put_to_set name text d x t secondary set (with store own a))
  to_set_ask name text d x t secondary set =
      either_asks growth own.lines (is_full set)
      (λ a. cond (secondary == 0) (abended_by abend.SD37 (with_set_at (with store own a) t set))
      (put_grows (head_or true a.grants) name text d x t secondary set (with store own a)))
      (λ a. put_starts name text d x t None (with_set_at (with store own a) t set))
      (either_asks growth own.lines (secondary == 0) (λ a. abended_by abend.SD37 (with_set_at (with store own a) t set))
      (λ a. put_grows (head_or true a.grants) name text d x t secondary set (with store own a))
      (abends growth abend.SD37 (with_set_there (store.set t.key t.serial) set store t.key t.serial) own)
      (grows_ask growth name text d x t secondary set refl))
      (starts_ask name text d x t None set)

  puts_in_ask : (name text : List ℕ) (d : ℕ) (x : DdState) (p : SetPlan) (taken : Option TakenSet) →
      Asks growth own.lines (λ a. puts_in name text d x p taken (with store own a))
  puts_in_ask name text d x p None = abends growth abend.SFF1 store own
  puts_in_ask name text d x p (Some t) =
      to_set_ask name text d x t (secondary_of p.space) (emptied (empties p.status x.written) (or_nothing (store.set t.key t.serial)))

  puts_ask : (name text : List ℕ) (d : ℕ) (x : DdState) (kind : DdKind) → Asks growth own.lines (λ a. puts name text d x kind (with store own a))
  puts_ask name text d x (Sysout class) = quiet growth own.lines (λ a. puts name text d x (Sysout class) (with store own a)) _ _ _ refl (λ a. refl)
  puts_ask name text d x Dummy = quiet growth own.lines (λ a. puts name text d x Dummy (with store own a)) _ _ _ refl (λ a. refl)
  puts_ask name text d x (Cards cards) = abends growth abend.SFF1 store own
  puts_ask name text d x (Set p) = puts_in_ask name text d x p x.taken

  puts_unless_ask : (b : Bool) (name text : List ℕ) (d : ℕ) (x : DdState) (kind : DdKind) →
      Asks growth own.lines (λ a. puts_unless b name text d x kind (with store own a))
  puts_unless_ask true name text d x kind = abends growth abend.SFF1 store own
  puts_unless_ask false name text d x kind = puts_ask name text d x kind

  gets_ask : (name : List ℕ) (d : ℕ) (x : DdState) (member position : ℕ) (text : Option (List ℕ)) (serial : Option (List ℕ)) →
      Asks growth own.lines (λ a. gets_by name d x (with store own a) member position text serial)
  gets_ask name d x member position None serial =
      quiet growth own.lines (λ a. gets_by name d x (with store own a) member position None serial) _ _ _ refl (λ a. refl)
  gets_ask name d x member position (Some text) None =
      quiet growth own.lines (λ a. gets_by name d x (with store own a) member position (Some text) None) _ _ _ refl (λ a. refl)
  gets_ask name d x member position (Some text) (Some serial) =
      quiet growth own.lines (λ a. gets_by name d x (with store own a) member position (Some text) (Some serial)) _ _ _ refl (λ a. refl)

  of_ask : (step : StepPlan) (move : Move) (d : ℕ) (x : DdState) (dd : DdPlan) → Asks growth own.lines (λ a. asks_of step move d x dd (with store own a))
  of_ask step (From name) d x dd =
      let found : FoundRecord = reads step d x (with store own nothing_granted) in gets_ask name d x found.member found.position found.text found.serial
  of_ask step (To name text) d x dd = puts_unless_ask (is_read_only dd.kind || is_concatenated (drop d step.dds)) name text d x dd.kind

  dd_ask : (x : Option DdState) (dd : Option DdPlan) (step : StepPlan) (move : Move) (d : ℕ) → Asks growth own.lines (λ a. asks_dd x dd step move d (with store own a))
  dd_ask None dd step move d = abends growth abend.SFF0 store own
  dd_ask (Some x) None step move d = abends growth abend.SFF0 store own
  dd_ask (Some x) (Some dd) step move d = of_ask step move d x dd

  at_ask : (d : Option ℕ) (step : StepPlan) (move : Move) → Asks growth own.lines (λ a. asks_at d step move (with store own a))
  at_ask None step move = abends growth abend.SFF0 store own
  at_ask (Some d) step move = dd_ask (slice_get own.dds d) (slice_get step.dds d) step move d

-- a request, by whether the program goes on and is cancelled
pub record Requests (goes_on cancel growth : Bool) (own : Own) (f : Answers → Done) : Type 0 where
  pub used : Bool
  pub lines : List JobLine
  pub store : Store
  pub left : Own
  pub counted : IsCounted goes_on cancel own left
  pub is : (a : Answers) → (goes_on ≡ true → cancel_due a.cancels own.lines ≡ cancel) → (used ≡ true → head_or true a.grants ≡ growth) →
      f a ≡ goes lines (with store left (grants_left used a))

closed : (cancel : Bool) (own : Own) → IsCounted false cancel own own
closed cancel own = record { unchanged = λ e. refl; ended = λ e. absurd cc; more = λ e. absurd cc }

written : (own left : Own) → left.lines ≡ own.lines + 1 → IsCounted true false own left
written own left e = record { unchanged = λ no. absurd cc; ended = λ yes no. absurd cc; more = λ yes no. e }

not_open : (b : Bool) → (b && false) ≡ false
not_open true = refl
not_open false = refl

abended : (own : Own) → IsCounted true true own (record own { over = Some (outcome.Abend abend.S222); due = None; lines = own.lines + 1 })
abended own = record { unchanged = λ no. absurd cc; ended = λ yes cancels. not_open own.runs; more = λ yes no. absurd cc }

requests_by : (goes_on cancel growth : Bool) (store : Store) (own : Own) (f : Answers → Done) → Asks growth own.lines f →
    Requests goes_on cancel growth own (λ a. if_runs goes_on (with store own a) (unless_cancelled (with store own a) (f a)))
requests_by false cancel growth store own f d = record {
  used = false;
  lines = [];
  store = store;
  left = own;
  counted = closed cancel own;
  is = λ a c g. refl;
}
requests_by true true growth store own f d = record {
  used = false;
  lines = line.Abend abend.S222 ∷ [];
  store = store;
  left = record own { over = Some (outcome.Abend abend.S222); due = None; lines = own.lines + 1 };
  counted = abended own;
  is = λ a c g. ap (λ b. cond b (abended_by abend.S222 (with store own a)) (f a)) (c refl);
}
requests_by true false growth store own f d = record {
  used = d.used;
  lines = d.lines;
  store = d.store;
  left = d.own;
  counted = written own d.own d.next;
  is = λ a c g. ap (λ b. cond b (abended_by abend.S222 (with store own a)) (f a)) (c refl) ∙ d.is a g;
}

module _ (fixed : Fixed) (store : Store) (own : Own) (cancel growth : Bool) (end : Outcome) where
  as_looks : (action : Action) → (is_request action ≡ true → ⊥) → ((a : Answers) → answers_left false action a ≡ a) → (g : Answers → Done) → Does g →
      ((a : Answers) → Tells action own false cancel growth end a → act fixed action (with store own a) ≡ g a) → Looks fixed action store own cancel growth end
  as_looks action aside all g d h = record {
    used = false;
    lines = d.lines;
    left_store = d.store;
    left_own = d.own;
    meets = d.meets;
    made = d.made;
    counted = λ e. absurd (aside e);
    does = λ a t. h a t ∙ (d.is a ∙ (λ i. record { lines = d.lines; state = with d.store d.own (sym (all a) i); meets = d.meets; made = d.made }));
  }

  -- a take, where the primary is granted
  pub record TakesSo (f : Answers → Done) : Type 0 where
    pub g : Answers → Done
    pub does : Does g
    pub so : (a : Answers) → a.primary ≡ true → f a ≡ g a

  decided_does : (n dd : ℕ) (name : Option (List ℕ)) (p : SetPlan) (key : Key) (d : Decision) → Does (λ a. decided fixed n dd name p key (with store own a) d)
  decided_does n dd name p key (Refuses fault) =
      does_by (λ a. decided fixed n dd name p key (with store own a) (Refuses fault))
      (decided fixed n dd name p key (with store own nothing_granted) (Refuses fault)) (λ a. refl)
  decided_does n dd name p key (Takes serial h) =
      does_by (λ a. decided fixed n dd name p key (with store own a) (Takes serial h))
      (decided fixed n dd name p key (with store own nothing_granted) (Takes serial h)) (λ a. refl)

  takes_set_so : (n dd : ℕ) (name : Option (List ℕ)) (p : SetPlan) (r : Resolution) → TakesSo (λ a. takes_set fixed n dd name p (with store own a) r)
  takes_set_so n dd name p (Fails fault) = record {
    g = λ a. takes_set fixed n dd name p (with store own a) (Fails fault);
    does = does_by (λ a. takes_set fixed n dd name p (with store own a) (Fails fault)) (takes_set fixed n dd name p (with store own nothing_granted) (Fails fault)) (λ a. refl);
    so = λ a h. refl;
  }
  takes_set_so n dd name p (Means key) =
      let t : Target = target_at fixed n dd p key (with store own nothing_granted) in
      let decision : Bool → Decision = λ b. decide t (is_known fixed.volumes (looked_at t)) (is_there store key (looked_at t)) (is_some p.space) b in
      record {
        g = λ a. decided fixed n dd name p key (with store own a) (decision true);
        does = decided_does n dd name p key (decision true);
        so = λ a h. ap (λ b. decided fixed n dd name p key (with store own a) (decision b)) h;
      }

  takes_so : (n dd : ℕ) (name : Option (List ℕ)) (kind : DdKind) → TakesSo (λ a. takes fixed n dd name kind (with store own a))
  takes_so n dd name (Sysout class) = record {
    g = λ a. takes fixed n dd name (Sysout class) (with store own a);
    does = does_by (λ a. takes fixed n dd name (Sysout class) (with store own a)) (takes fixed n dd name (Sysout class) (with store own nothing_granted)) (λ a. refl);
    so = λ a h. refl;
  }
  takes_so n dd name Dummy = record {
    g = λ a. takes fixed n dd name Dummy (with store own a);
    does = does_by (λ a. takes fixed n dd name Dummy (with store own a)) (takes fixed n dd name Dummy (with store own nothing_granted)) (λ a. refl);
    so = λ a h. refl;
  }
  takes_so n dd name (Cards cards) = record {
    g = λ a. takes fixed n dd name (Cards cards) (with store own a);
    does = does_by (λ a. takes fixed n dd name (Cards cards) (with store own a)) (takes fixed n dd name (Cards cards) (with store own nothing_granted)) (λ a. refl);
    so = λ a h. refl;
  }
  takes_so n dd name (Set p) = takes_set_so n dd name p (meaning_at fixed.meanings n dd)

  silently : Does (λ a. silent (with store own a))
  silently = does_by (λ a. silent (with store own a)) (silent (with store own nothing_granted)) (λ a. refl)

  set_disposes_does : (n dd : ℕ) (name : Option (List ℕ)) (p : SetPlan) (t : Option TakenSet) → Does (λ a. set_disposes fixed n dd name p t (with store own a))
  set_disposes_does n dd name p None =
      does_by (λ a. set_disposes fixed n dd name p None (with store own a)) (set_disposes fixed n dd name p None (with store own nothing_granted)) (λ a. refl)
  set_disposes_does n dd name p (Some t) =
      does_by (λ a. set_disposes fixed n dd name p (Some t) (with store own a))
      (set_disposes fixed n dd name p (Some t) (with store own nothing_granted)) (λ a. refl)

  disposes_does : (x : Option DdState) (n dd : ℕ) (name : Option (List ℕ)) (kind : DdKind) → Does (λ a. disposes x fixed n dd name kind (with store own a))
  disposes_does None n dd name kind = silently
  disposes_does (Some x) n dd name (Sysout class) =
      does_by (λ a. disposes (Some x) fixed n dd name (Sysout class) (with store own a))
      (disposes (Some x) fixed n dd name (Sysout class) (with store own nothing_granted)) (λ a. refl)
  disposes_does (Some x) n dd name Dummy =
      does_by (λ a. disposes (Some x) fixed n dd name Dummy (with store own a))
      (disposes (Some x) fixed n dd name Dummy (with store own nothing_granted)) (λ a. refl)
  disposes_does (Some x) n dd name (Cards cards) =
      does_by (λ a. disposes (Some x) fixed n dd name (Cards cards) (with store own a))
      (disposes (Some x) fixed n dd name (Cards cards) (with store own nothing_granted)) (λ a. refl)
  disposes_does (Some x) n dd name (Set p) = set_disposes_does n dd name p x.taken

  leaves_does : (n dd : ℕ) (name : Option (List ℕ)) (p : SetPlan) (q : Option Passed) → Does (λ a. leaves fixed n dd name p q (with store own a))
  leaves_does n dd name p None = silently
  leaves_does n dd name p (Some q) =
      does_by (λ a. leaves fixed n dd name p (Some q) (with store own a)) (leaves fixed n dd name p (Some q) (with store own nothing_granted)) (λ a. refl)

  left_does : (n dd : ℕ) (name : Option (List ℕ)) (kind : DdKind) → Does (λ a. left_at fixed n dd name kind (with store own a))
  left_does n dd name (Sysout class) = silently
  left_does n dd name Dummy = silently
  left_does n dd name (Cards cards) = silently
  left_does n dd name (Set p) = leaves_does n dd name p (passed_by own.passed n dd)

  -- a step's end
  record Ends (runs : Bool) (over : Option Outcome) (n : ℕ) : Type 0 where
    lines : List JobLine
    left : Own
    is : (a : Answers) → ((runs && is_none over) ≡ true → cancel_due a.cancels own.lines ≡ cancel) → head_or (outcome.Code 0) a.outcomes ≡ end →
        cond runs (finishes n over (with store own a)) (goes [] (with store own (with_answers_used a))) ≡ goes lines (with store left (with_answers_used a))

  ends_so : (runs : Bool) (over : Option Outcome) (n : ℕ) (b : Bool) → cancel ≡ b → Ends runs over n
  ends_so false over n b e = record { lines = []; left = own; is = λ a c h. refl }
  ends_so true (Some o) n b e = record { lines = []; left = _; is = λ a c h. refl }
  ends_so true None n true e = record {
    lines = line.Abend abend.S222 ∷ [];
    left = (ended_with n (outcome.Abend abend.S222) (with store own nothing_granted)).own;
    is = λ a c h. ap (λ t. cond t (goes (line.Abend abend.S222 ∷ []) (ended_with n (outcome.Abend abend.S222) (with store own a)))
        (goes (end_line (as_ending (head_or (outcome.Code 0) a.outcomes)) ∷ []) (ended_with n (as_ending (head_or (outcome.Code 0) a.outcomes)) (with store own a))))
        (c refl ∙ e);
  }
  ends_so true None n false e = record {
    lines = end_line (as_ending end) ∷ [];
    left = (ended_with n (as_ending end) (with store own nothing_granted)).own;
    is = λ a c h. ap (λ t. cond t (goes (line.Abend abend.S222 ∷ []) (ended_with n (outcome.Abend abend.S222) (with store own a)))
        (goes (end_line (as_ending (head_or (outcome.Code 0) a.outcomes)) ∷ []) (ended_with n (as_ending (head_or (outcome.Code 0) a.outcomes)) (with store own a))))
        (c refl ∙ e) ∙ ap (λ z. goes (end_line (as_ending z) ∷ []) (ended_with n (as_ending z) (with store own a))) h;
  }

  -- what is due
  received_asks : (d : Due) → Asks growth own.lines (λ a. received_now d (with store own a))
  received_asks (due.Data name text) = quiet growth own.lines (λ a. received_now (due.Data name text) (with store own a)) _ _ _ refl (λ a. refl)
  received_asks (due.Put name d text) = quiet growth own.lines (λ a. received_now (due.Put name d text) (with store own a)) _ _ _ refl (λ a. refl)

  -- it asks no growth
  record Receives (goes_on : Bool) (d : Option Due) : Type 0 where
    lines : List JobLine
    now : Store
    left : Own
    counted : IsCounted (goes_on && is_some d) cancel own left
    is : (a : Answers) → ((goes_on && is_some d) ≡ true → cancel_due a.cancels own.lines ≡ cancel) →
        if_runs goes_on (with store own a) (received_due d (with store own a)) ≡ goes lines (with now left a)

  receives_so : (goes_on : Bool) (d : Option Due) (b : Bool) → cancel ≡ b → Receives goes_on d
  receives_so false d b e = record { lines = []; now = store; left = own; counted = closed cancel own; is = λ a c. refl }
  receives_so true None b e = record { lines = []; now = store; left = own; counted = closed cancel own; is = λ a c. refl }
  receives_so true (Some d) true e = record {
    lines = line.Abend abend.S222 ∷ [];
    now = store;
    left = record own { over = Some (outcome.Abend abend.S222); due = None; lines = own.lines + 1 };
    counted = subst (λ t. IsCounted true t own (record own { over = Some (outcome.Abend abend.S222); due = None; lines = own.lines + 1 })) (sym e) (abended own);
    is = λ a c. ap (λ t. cond t (abended_by abend.S222 (with store own a)) (received_now d (with store own a))) (c refl ∙ e);
  }
  receives_so true (Some (due.Data name text)) false e = record {
    lines = _;
    now = _;
    left = wrote own;
    counted = subst (λ t. IsCounted true t own (wrote own)) (sym e) (written own (wrote own) refl);
    is = λ a c. ap (λ t. cond t (abended_by abend.S222 (with store own a)) (received_now (due.Data name text) (with store own a))) (c refl ∙ e);
  }
  receives_so true (Some (due.Put name d text)) false e = record {
    lines = _;
    now = _;
    left = wrote own;
    counted = subst (λ t. IsCounted true t own (wrote own)) (sym e) (written own (wrote own) refl);
    is = λ a c. ap (λ t. cond t (abended_by abend.S222 (with store own a)) (received_now (due.Put name d text) (with store own a))) (c refl ∙ e);
  }

  if_runs_does : (b : Bool) (g : Answers → Done) → Does g → Does (λ a. if_runs b (with store own a) (g a))
  if_runs_does true g d = d
  if_runs_does false g d = silently

  pub act_looks : (action : Action) → Looks fixed action store own cancel growth end
  unfolding act
  act_looks (Action.Start n step) =
      as_looks (Action.Start n step) (λ e. absurd cc) (λ a. refl) (λ a. started fixed n step (with store own a))
      (does_by (λ a. started fixed n step (with store own a)) (started fixed n step (with store own nothing_granted)) (λ a. refl)) (λ a t. refl)
  act_looks (Action.Take n dd d) =
      let t : TakesSo (λ a. takes fixed n dd d.name d.kind (with store own a)) = takes_so n dd d.name d.kind in
      as_looks (Action.Take n dd d) (λ e. absurd cc) (λ a. refl) (λ a. if_runs own.runs (with store own a) (t.g a))
      (if_runs_does own.runs t.g t.does) (λ a told. ap (if_runs own.runs (with store own a)) (t.so a told.primary))
  act_looks (Action.Ask step move) =
      let q : Requests (asks_open own) cancel growth own (λ a. asked step move (with store own a))
      = requests_by (asks_open own) cancel growth store own _ (at_ask growth store own (dd_of step.dds (dd_name move)) step move) in
      record {
        used = q.used;
        lines = q.lines;
        left_store = q.store;
        left_own = q.left;
        meets = None;
        made = [];
        counted = λ e. q.counted;
        does = λ a t. q.is a t.cancelled (t.granted step move refl);
      }
  act_looks Action.Receive =
      let q : Receives (asks_open own) own.due = receives_so (asks_open own) own.due cancel refl in
      record {
        used = false;
        lines = q.lines;
        left_store = q.now;
        left_own = q.left;
        meets = None;
        made = [];
        counted = λ e. q.counted;
        does = λ a t. q.is a t.cancelled;
      }
  act_looks (Action.Finish n) =
      let q : Ends own.runs own.over n = ends_so own.runs own.over n cancel refl in
      record {
        used = false;
        lines = q.lines;
        left_store = store;
        left_own = q.left;
        meets = None;
        made = [];
        counted = λ e. absurd cc;
        does = λ a t. q.is a t.cancelled (t.ended n refl);
      }
  act_looks (Action.Dispose n dd d) =
      as_looks (Action.Dispose n dd d) (λ e. absurd cc) (λ a. refl) (λ a. if_runs own.runs (with store own a) (disposes (slice_get own.dds (dd - 1)) fixed n dd d.name d.kind (with store own a)))
      (if_runs_does own.runs (λ a. disposes (slice_get own.dds (dd - 1)) fixed n dd d.name d.kind (with store own a))
      (disposes_does (slice_get own.dds (dd - 1)) n dd d.name d.kind)) (λ a t. refl)
  act_looks (Action.Left n dd d) =
      as_looks (Action.Left n dd d) (λ e. absurd cc) (λ a. refl) (λ a. left_at fixed n dd d.name d.kind (with store own a)) (left_does n dd d.name d.kind) (λ a t. refl)
  act_looks Action.Over =
      as_looks Action.Over (λ e. absurd cc) (λ a. refl) (λ a. goes (line.End ∷ []) (with store own a))
      (does_by (λ a. goes (line.End ∷ []) (with store own a)) (goes (line.End ∷ []) (with store own nothing_granted)) (λ a. refl)) (λ a t. refl)
