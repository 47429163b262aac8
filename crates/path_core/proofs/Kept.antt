-- A job that at most keeps sets which are there does nothing to the store and meets no fault, so that what it sees behind a step, where it has no test, is whether an
-- ABEND came.
use Rattle.std.proofs.Common.{◌≡◌, ◌+◌, ◌-◌, ◌≤◌, ◌<◌, ◌++◌, ℕ, zero, suc, Bool, true, false, cond, List, [], ◌∷◌, Option, Some, None, length, map, take, drop, refl, sym, ap, ◌∙◌, subst, arith}
use Rattle.std.specs.Prelude.{◌==◌, ◌||◌, All, is_some, slice_get, slice_index_or}
use Rattle.std.specs.List.{Contains, list_any}
use Rattle.std.proofs.lemmas.List.Elements.{All-append, All-cons, All-drop, All-head, All-nil, All-tail}
use Rattle.jname_core.specs.declared.key.Key.{Key}
use Rattle.jname_core.specs.declared.key.Key.TheVariants.{Named}
use Rattle.jcl_plan.specs.declared.entry.JobLine.TheVariants as line
use Rattle.jcl_plan.specs.declared.outcome.Abend.TheVariants as abend
use Rattle.jcl_plan.specs.declared.outcome.Outcome.{Outcome}
use Rattle.jcl_plan.specs.declared.outcome.Outcome.TheVariants as outcome
use Rattle.jcl_plan.specs.declared.plan.ConditionalWord.{ConditionalWord}
use Rattle.jcl_plan.specs.declared.plan.ConditionalWord.TheVariants as conditional
use Rattle.jcl_plan.specs.declared.plan.DdKind.{DdKind}
use Rattle.jcl_plan.specs.declared.plan.DdKind.TheVariants.{Cards, Dummy, Set, Sysout}
use Rattle.jcl_plan.specs.declared.plan.DdPlan.{DdPlan}
use Rattle.jcl_plan.specs.declared.plan.JobPlan.{JobPlan}
use Rattle.jcl_plan.specs.declared.plan.SetPlan.{SetPlan}
use Rattle.jcl_plan.specs.declared.plan.Status.{Status}
use Rattle.jcl_plan.specs.declared.plan.Status.TheVariants.{New, Old, Shr, Mod}
use Rattle.jcl_plan.specs.declared.plan.StepPlan.{StepPlan}
use Rattle.jcl_plan.specs.declared.plan.Test.{Test}
use Rattle.jcl_plan.specs.declared.plan.Word.{Word}
use Rattle.jcl_plan.specs.declared.plan.Word.TheVariants as word
use Rattle.jcl_plan.specs.declared.words.DispWord.TheVariants as disp
use Rattle.jcl_meaning.specs.declared.state.Change.TheVariants as change
use Rattle.jcl_meaning.specs.declared.program.Move.{Move}
use Rattle.jcl_meaning.specs.declared.state.DdState.{DdState}
use Rattle.jcl_meaning.specs.declared.state.Ended.{Ended}
use Rattle.jcl_meaning.specs.declared.state.Passed.{Passed}
use Rattle.jcl_meaning.specs.declared.state.Place.{Place}
use Rattle.jcl_meaning.specs.declared.state.TakenSet.{TakenSet}
use Rattle.jcl_meaning.specs.declared.take.Decision.TheVariants.{Takes}
use Rattle.jcl_meaning.specs.declared.take.How.TheVariants as how
use Rattle.jcl_meaning.specs.declared.take.Target.TheVariants as target
use Rattle.jcl_meaning.specs.Acts.{act}
use Rattle.jcl_meaning.specs.Agendas.{Action, disposes_from, left_by, lefts_from, lefts_in, path_agenda, step_actions, steps_from, takes_from}
use Rattle.jcl_meaning.specs.Dispositions.{does, disposed_by, unless_gone}
use Rattle.jcl_meaning.specs.EndActs.{after_abend, as_ending, disposes, end_line, ended_with, finishes, later_than, leaves, left_at, passed_after, passed_by, set_disposed, set_disposes, tracks_released}
use Rattle.jcl_meaning.specs.History.{abended, is_abend, satisfied}
use Rattle.jcl_meaning.specs.Names.{names_of, is_temporary}
use Rattle.jcl_meaning.specs.Parts.{part_of}
use Rattle.jcl_meaning.specs.Plans.{conditional_meaning, normal_meaning, passes, word_done}
use Rattle.jcl_meaning.specs.Programs.{is_iefbr14, moves_of}
use Rattle.jcl_meaning.specs.RequestActs.{head_or}
use Rattle.jcl_meaning.specs.Resolutions.{place_of}
use Rattle.jcl_meaning.specs.Solo.{at_start, given, later, met_first, run}
use Rattle.jcl_meaning.specs.States.{Done, Fixed, State, cancel_due, goes, if_runs, with_answers_used}
use Rattle.jcl_meaning.specs.Stores.{Store, catalogued}
use Rattle.jcl_meaning.specs.TakeActs.{decided, decision_at, new_dd, takes, takes_set, target_at}
use Rattle.jcl_meaning.specs.Takes.{dd_volume, decide, first_passed, found_or_made, is_known, is_there, releases, taken, target_of, where_of}
use Rattle.jcl_meaning.specs.Views.{View, kind_refers, ran_to, refers, shown_set, steps_refer, view_at}
use Rattle.path_core.specs.KeptSets.{AtMostKeeps, IsAtMostKept, IsKept, is_new, keeps, keeps_after_abend}
use Rattle.path_core.specs.Untested.{HasNoTests}
use Rattle.path_meaning.specs.Verdicts.{IsFree}
use Rattle.path_laws.specs.Paths.{AreAllViews, AreFew}

-- a set that was taken, was not made, and is there
record StandsTaken (store : Store) (t : TakenSet) : Type 0 where
  unmade : t.made ≡ false
  lasting : is_temporary t.key ≡ false
  there : is_some (store.set t.key t.serial) ≡ true

abbrev IfTaken : Store → Option TakenSet → Type 0
IfTaken store None = Unit {0}
IfTaken store (Some t) = StandsTaken store t

abbrev IsStanding : Store → DdState → Type 0
IsStanding store x = IfTaken store x.taken

-- nothing was done to the store, no set was passed, and those that the step has taken are there
record IsStill (store : Store) (s : State) : Type 0 where
  stored : s.store ≡ store
  unpassed : s.own.passed ≡ []
  standing : All (IsStanding store) s.own.dds

-- an action that met no fault, made nothing, and left all as it was
record IsCalm (store : Store) (done : Done) : Type 0 where
  still : IsStill store done.state
  faultless : done.meets ≡ None
  idle : done.made ≡ []

calm_silent : {store : Store} (s : State) → IsStill store s → IsCalm store (goes [] s)
calm_silent s i = record { still = i; faultless = refl; idle = refl }

either : {store : Store} (b : Bool) (d e : Done) → IsCalm store d → IsCalm store e → IsCalm store (cond b d e)
either true d e p q = p
either false d e p q = q

running : {store : Store} (b : Bool) (s : State) (d : Done) → IsStill store s → IsCalm store d → IsCalm store (if_runs b s d)
running true s d i p = p
running false s d i p = calm_silent s i

-- a take
with_dd : {store : Store} (s : State) (x : DdState) → IsStill store s → IsStanding store x → All (IsStanding store) (s.own.dds ++ x ∷ [])
with_dd {store} s x i new =
    All-append (IsStanding store) s.own.dds (x ∷ []) i.standing (All-cons (IsStanding store) x [] new (All-nil (IsStanding store)))

by_status : (status : Status) (serial : List ℕ) (place : Option (List ℕ)) → is_new status ≡ false →
    found_or_made status None (Some serial) place ≡ target.FindsByCatalog serial
by_status New serial place h = absurd cc
by_status Old serial place h = refl
by_status Shr serial place h = refl
by_status Mod serial place h = refl

module _ (fixed : Fixed) (store : Store) (n dd : ℕ) (name : Option (List ℕ)) (p : SetPlan) (kept : IsKept fixed.meanings store n dd p) (s : State) (i : IsStill store s) where
  abbrev key : Key
  key = Named kept.named.name

  abbrev serial : List ℕ
  serial = kept.named.stands.serial

  abbrev place : Option (List ℕ)
  place = place_of fixed.places n dd

  target_is : target_at fixed n dd p key s ≡ target.FindsByCatalog serial
  target_is =
      ap (λ v. target_of p.status (where_of v s.store s.own.passed s.own.volumes) (first_passed s.own.passed key) (catalogued s.store key) place) kept.anywhere
      ∙ ap (λ passed. found_or_made p.status (first_passed passed key) (catalogued s.store key) place) i.unpassed
      ∙ ap (λ (other : Store). found_or_made p.status None (catalogued other key) place) i.stored
      ∙ ap (λ entered. found_or_made p.status None entered place) kept.named.stands.entered
      ∙ by_status p.status serial place kept.old

  there_is : is_there s.store key (Some serial) ≡ true
  there_is = ap (λ (other : Store). is_some (other.set key serial)) i.stored ∙ kept.named.stands.there

  decision_is : decision_at fixed p key s (target_at fixed n dd p key s) ≡ Takes serial how.FoundByCatalog
  decision_is =
      ap (λ t. decision_at fixed p key s t) target_is
      ∙ ap (λ b. decide (target.FindsByCatalog serial) (is_known fixed.volumes (Some serial)) b (is_some p.space) s.answers.primary) there_is

  take_is : takes fixed n dd name (Set p) s ≡ decided fixed n dd name p key s (Takes serial how.FoundByCatalog)
  take_is =
      ap (λ m. takes_set fixed n dd name p s m) kept.named.is
      ∙ ap (λ d. decided fixed n dd name p key s d) decision_is

  calm_taken : IsCalm store (decided fixed n dd name p key s (Takes serial how.FoundByCatalog))
  calm_taken = record {
    still = record {
      stored = i.stored;
      unpassed = i.unpassed;
      standing = with_dd s (new_dd dd name (Some (taken key serial how.FoundByCatalog))) i (record { unmade = refl; lasting = refl; there = kept.named.stands.there });
    };
    faultless = refl;
    idle = refl;
  }

  calm_set : IsCalm store (takes fixed n dd name (Set p) s)
  calm_set = subst (IsCalm store) (sym take_is) calm_taken

calm_no_set : {store : Store} (dd : ℕ) (name : Option (List ℕ)) (s : State) → IsStill store s →
    IsStill store (record { store = s.store; own = record s.own { dds = s.own.dds ++ new_dd dd name None ∷ [] }; answers = s.answers })
calm_no_set dd name s i = record { stored = i.stored; unpassed = i.unpassed; standing = with_dd s (new_dd dd name None) i tt }

calm_take : {store : Store} (fixed : Fixed) (n dd : ℕ) (name : Option (List ℕ)) (kind : DdKind) (s : State) → IsAtMostKept fixed.meanings store n dd kind →
    IsStill store s → IsCalm store (takes fixed n dd name kind s)
calm_take fixed n dd name (Sysout class) s h i = record { still = calm_no_set dd name s i; faultless = refl; idle = refl }
calm_take fixed n dd name Dummy s h i = record { still = calm_no_set dd name s i; faultless = refl; idle = refl }
calm_take fixed n dd name (Cards cards) s h i = record { still = calm_no_set dd name s i; faultless = refl; idle = refl }
calm_take {store} fixed n dd name (Set p) s h i = calm_set fixed store n dd name p h s i

-- a disposition
word_is : (normal : Option Word) (after : Option ConditionalWord) (came : Bool) → keeps normal ≡ true → keeps_after_abend after ≡ true →
    word_done (normal_meaning false normal) (conditional_meaning false after) came false ≡ word.Keep
word_is None None true h k = refl
word_is None None false h k = refl
word_is None (Some conditional.Keep) true h k = refl
word_is None (Some conditional.Keep) false h k = refl
word_is (Some word.Keep) None true h k = refl
word_is (Some word.Keep) None false h k = refl
word_is (Some word.Keep) (Some conditional.Keep) true h k = refl
word_is (Some word.Keep) (Some conditional.Keep) false h k = refl
word_is normal (Some conditional.Delete) came h k = absurd cc
word_is normal (Some conditional.Catlg) came h k = absurd cc
word_is normal (Some conditional.Uncatlg) came h k = absurd cc
word_is (Some word.Delete) after came h k = absurd cc
word_is (Some word.Pass) after came h k = absurd cc
word_is (Some word.Catlg) after came h k = absurd cc
word_is (Some word.Uncatlg) after came h k = absurd cc

module _ (fixed : Fixed) (store : Store) (n dd : ℕ) (name : Option (List ℕ)) (p : SetPlan) (whole : releases p.space ≡ false) (normal : keeps p.normal ≡ true)
    (after : keeps_after_abend p.conditional ≡ true) (t : TakenSet) (stands : StandsTaken store t) (s : State) (i : IsStill store s) where
  abbrev came : Bool
  came = after_abend s.own.over

  word_kept : word_done (normal_meaning (is_temporary t.key) p.normal) (conditional_meaning (is_temporary t.key) p.conditional) came t.made ≡ word.Keep
  word_kept =
      ap (λ b. word_done (normal_meaning b p.normal) (conditional_meaning b p.conditional) came t.made) stands.lasting
      ∙ ap (λ b. word_done (normal_meaning false p.normal) (conditional_meaning false p.conditional) came b) stands.unmade
      ∙ word_is p.normal p.conditional came normal after

  there_still : is_some (s.store.set t.key t.serial) ≡ true
  there_still = ap (λ (other : Store). is_some (other.set t.key t.serial)) i.stored ∙ stands.there

  kept_by : disposed_by (word_done (normal_meaning (is_temporary t.key) p.normal) (conditional_meaning (is_temporary t.key) p.conditional) came t.made) s.store t fixed.date
      ≡ disposed_by word.Keep s.store t fixed.date
  kept_by = ap (λ w. disposed_by w s.store t fixed.date) word_kept

  kept_there : disposed_by word.Keep s.store t fixed.date ≡ does disp.Kept change.Nothing
  kept_there = ap (λ b. unless_gone b (does disp.Kept change.Nothing)) there_still

  disposed_is : set_disposes fixed n dd name p (Some t) s ≡ set_disposed fixed n dd name p t s (does disp.Kept change.Nothing)
  disposed_is = ap (λ d. set_disposed fixed n dd name p t s d) (kept_by ∙ kept_there)

  calm_kept : IsCalm store (set_disposed fixed n dd name p t s (does disp.Kept change.Nothing))
  calm_kept = record {
    still = record { stored = ap (λ b. tracks_released b t.key t.serial s.store) whole ∙ i.stored; unpassed = i.unpassed; standing = i.standing };
    faultless = refl;
    idle = refl;
  }

  calm_set_disposed : IsCalm store (set_disposes fixed n dd name p (Some t) s)
  calm_set_disposed = subst (IsCalm store) (sym disposed_is) calm_kept

-- a DD's words keep a set, if it is for one
abbrev KeepsKind : DdKind → Type 0
KeepsKind (Sysout class) = Unit {0}
KeepsKind Dummy = Unit {0}
KeepsKind (Cards cards) = Unit {0}
KeepsKind (Set p) = (releases p.space ≡ false) × (keeps p.normal ≡ true) × (keeps_after_abend p.conditional ≡ true)

words_keep : (store : Store) (fixed : Fixed) (n dd : ℕ) (kind : DdKind) → IsAtMostKept fixed.meanings store n dd kind → KeepsKind kind
words_keep store fixed n dd (Sysout class) h = tt
words_keep store fixed n dd Dummy h = tt
words_keep store fixed n dd (Cards cards) h = tt
words_keep store fixed n dd (Set p) h = (h.whole, h.normal, h.after_abend)

calm_set_disposes : {store : Store} (fixed : Fixed) (n dd : ℕ) (name : Option (List ℕ)) (p : SetPlan) (t : Option TakenSet) (s : State) → KeepsKind (Set p) →
    IfTaken store t → IsStill store s → IsCalm store (set_disposes fixed n dd name p t s)
calm_set_disposes fixed n dd name p None s h stands i = record { still = i; faultless = refl; idle = refl }
calm_set_disposes {store} fixed n dd name p (Some t) s h stands i = calm_set_disposed fixed store n dd name p h.0 h.1 h.2 t stands s i

abbrev IfStanding : Store → Option DdState → Type 0
IfStanding store None = Unit {0}
IfStanding store (Some x) = IsStanding store x

calm_disposition : {store : Store} (x : Option DdState) (fixed : Fixed) (n dd : ℕ) (name : Option (List ℕ)) (kind : DdKind) (s : State) → KeepsKind kind →
    IfStanding store x → IsStill store s → IsCalm store (disposes x fixed n dd name kind s)
calm_disposition None fixed n dd name kind s h stands i = calm_silent s i
calm_disposition (Some x) fixed n dd name (Sysout class) s h stands i =
    record { still = record { stored = i.stored; unpassed = i.unpassed; standing = i.standing }; faultless = refl; idle = refl }
calm_disposition (Some x) fixed n dd name Dummy s h stands i = record { still = i; faultless = refl; idle = refl }
calm_disposition (Some x) fixed n dd name (Cards cards) s h stands i = record { still = i; faultless = refl; idle = refl }
calm_disposition (Some x) fixed n dd name (Set p) s h stands i = calm_set_disposes fixed n dd name p x.taken s h stands i

standing_at : (store : Store) (list : List DdState) (k : ℕ) → All (IsStanding store) list → IfStanding store (slice_get list k)
standing_at store [] k all = tt
standing_at store (x ∷ list) zero all = All-head (IsStanding store) x list all
standing_at store (x ∷ list) (suc k) all = standing_at store list k (All-tail (IsStanding store) x list all)

-- the end of a step
none_passed : (b : Bool) (n : ℕ) → cond {A = List Passed} b (map (later_than n) []) [] ≡ []
none_passed true n = refl
none_passed false n = refl

calm_end : {store : Store} (n : ℕ) (o : Outcome) (s : State) → IsStill store s → IsStill store (ended_with n o s)
calm_end n o s i = record {
  stored = i.stored;
  unpassed = ap (λ p. passed_after o n p) i.unpassed ∙ none_passed (is_abend o) n;
  standing = i.standing;
}

calm_finish : {store : Store} (n : ℕ) (over : Option Outcome) (s : State) → IsStill store s → IsCalm store (finishes n over s)
calm_finish n (Some o) s i = record { still = calm_end n o s i; faultless = refl; idle = refl }
calm_finish n None s i =
    let o = as_ending (head_or (outcome.Code 0) s.answers.outcomes) in
    let cancelled = outcome.Abend abend.S222 in
    either (cancel_due s.answers.cancels s.own.lines) (goes (line.Abend abend.S222 ∷ []) (ended_with n cancelled s)) (goes (end_line o ∷ []) (ended_with n o s))
    (record { still = calm_end n cancelled s i; faultless = refl; idle = refl }) (record { still = calm_end n o s i; faultless = refl; idle = refl })

-- the job's end: nothing was passed
calm_left : {store : Store} (fixed : Fixed) (n dd : ℕ) (name : Option (List ℕ)) (kind : DdKind) (s : State) → IsStill store s → IsCalm store (left_at fixed n dd name kind s)
calm_left fixed n dd name (Sysout class) s i = calm_silent s i
calm_left fixed n dd name Dummy s i = calm_silent s i
calm_left fixed n dd name (Cards cards) s i = calm_silent s i
calm_left {store} fixed n dd name (Set p) s i =
    let none : left_at fixed n dd name (Set p) s ≡ goes [] s = ap (λ passed. leaves fixed n dd name p (passed_by passed n dd) s) i.unpassed in
    subst (IsCalm store) (sym none) (calm_silent s i)

-- the end of a step that does not run
abbrev passed_over : State → State
passed_over s = record { store = s.store; own = s.own; answers = with_answers_used s.answers }

-- an action of a job that at most keeps sets, along given outcomes
abbrev Keeps : Fixed → Store → Action → Type 0
Keeps fixed store (Action.Start n step) = Unit {0}
Keeps fixed store (Action.Take n dd d) = IsAtMostKept fixed.meanings store n dd d.kind
Keeps fixed store (Action.Ask step move) = ⊥
Keeps fixed store Action.Receive = ⊥
Keeps fixed store (Action.Finish n) = Unit {0}
Keeps fixed store (Action.Dispose n dd d) = KeepsKind d.kind
Keeps fixed store (Action.Left n dd d) = Unit {0}
Keeps fixed store Action.Over = Unit {0}

calm_act : {store : Store} (fixed : Fixed) (a : Action) (s : State) → Keeps fixed store a → IsStill store s → IsCalm store (act fixed a s)
unfolding act
calm_act {store} fixed (Action.Start n step) s h i =
    record { still = record { stored = i.stored; unpassed = i.unpassed; standing = All-nil (IsStanding store) }; faultless = refl; idle = refl }
calm_act fixed (Action.Take n dd d) s h i = running s.own.runs s _ i (calm_take fixed n dd d.name d.kind s h i)
calm_act fixed (Action.Ask step move) s h i = absurd h
calm_act fixed Action.Receive s h i = absurd h
calm_act fixed (Action.Finish n) s h i =
    either s.own.runs (finishes n s.own.over s) (goes [] (passed_over s)) (calm_finish n s.own.over s i)
    (record { still = record { stored = i.stored; unpassed = i.unpassed; standing = i.standing }; faultless = refl; idle = refl })
calm_act {store} fixed (Action.Dispose n dd d) s h i =
    running s.own.runs s _ i (calm_disposition (slice_get s.own.dds (dd - 1)) fixed n dd d.name d.kind s h (standing_at store s.own.dds (dd - 1) i.standing) i)
calm_act fixed (Action.Left n dd d) s h i = calm_left fixed n dd d.name d.kind s i
calm_act fixed Action.Over s h i = record { still = i; faultless = refl; idle = refl }

-- all of them
still_run : {store : Store} (fixed : Fixed) (actions : List Action) (s : State) → All (Keeps fixed store) actions → IsStill store s → IsStill store (run fixed actions s).state
unfolding run
still_run fixed [] s all i = i
still_run {store} fixed (a ∷ actions) s all i =
    still_run fixed actions (act fixed a s).state (All-tail (Keeps fixed store) a actions all) (calm_act fixed a s (All-head (Keeps fixed store) a actions all) i).still

faultless_run : {store : Store} (fixed : Fixed) (actions : List Action) (s : State) → All (Keeps fixed store) actions → IsStill store s → (run fixed actions s).faults ≡ []
unfolding run
faultless_run fixed [] s all i = refl
faultless_run {store} fixed (a ∷ actions) s all i =
    let calm = calm_act fixed a s (All-head (Keeps fixed store) a actions all) i in
    ap (λ m. met_first m (map later (run fixed actions (act fixed a s).state).faults)) calm.faultless
    ∙ ap (map later) (faultless_run fixed actions (act fixed a s).state (All-tail (Keeps fixed store) a actions all) calm.still)

idle_run : {store : Store} (fixed : Fixed) (actions : List Action) (s : State) → All (Keeps fixed store) actions → IsStill store s → (run fixed actions s).made ≡ []
unfolding run
idle_run fixed [] s all i = refl
idle_run {store} fixed (a ∷ actions) s all i =
    let calm = calm_act fixed a s (All-head (Keeps fixed store) a actions all) i in
    ap (λ m. m ++ (run fixed actions (act fixed a s).state).made) calm.idle
    ∙ idle_run fixed actions (act fixed a s).state (All-tail (Keeps fixed store) a actions all) calm.still

-- the agenda
module _ (fixed : Fixed) (store : Store) where
  abbrev AllKeep : List Action → Type 0
  AllKeep actions = All (Keeps fixed store) actions

  -- DDs from this number on
  abbrev DdsKeep : ℕ → ℕ → List DdPlan → Type 0
  DdsKeep n from dds = (k m : ℕ) (d : DdPlan) → m ≡ from + k → k < length dds → IsAtMostKept fixed.meanings store n m (slice_index_or dds k d).kind

  dds_left : (n from : ℕ) (d : DdPlan) (dds : List DdPlan) → DdsKeep n from (d ∷ dds) → DdsKeep n (from + 1) dds
  dds_left n from d dds h = λ k m e is less. h (suc k) m e (omega (arith, is)) (omega (arith, less))

  dd_first : (n from : ℕ) (d : DdPlan) (dds : List DdPlan) → DdsKeep n from (d ∷ dds) → IsAtMostKept fixed.meanings store n from d.kind
  dd_first n from d dds h = h 0 from d (omega arith) (omega arith)

  takes_keep : (n from : ℕ) (dds : List DdPlan) → DdsKeep n from dds → AllKeep (takes_from n from dds)
  takes_keep n from [] h = All-nil (Keeps fixed store)
  takes_keep n from (d ∷ dds) h =
      All-cons (Keeps fixed store) (Action.Take n from d) (takes_from n (from + 1) dds) (dd_first n from d dds h) (takes_keep n (from + 1) dds (dds_left n from d dds h))

  disposes_keep : (n from : ℕ) (dds : List DdPlan) → DdsKeep n from dds → AllKeep (disposes_from n from dds)
  disposes_keep n from [] h = All-nil (Keeps fixed store)
  disposes_keep n from (d ∷ dds) h =
      All-cons (Keeps fixed store) (Action.Dispose n from d) (disposes_from n (from + 1) dds) (words_keep store fixed n from d.kind (dd_first n from d dds h))
      (disposes_keep n (from + 1) dds (dds_left n from d dds h))

  no_moves : (b : Bool) → cond {A = List Move} b [] [] ≡ []
  no_moves true = refl
  no_moves false = refl

  step_keeps : (n : ℕ) (step : StepPlan) → DdsKeep n 1 step.dds → AllKeep (step_actions n step (moves_of [] step.program))
  step_keeps n step h =
      subst (λ (moves : List Move). AllKeep (step_actions n step moves)) (sym (no_moves (is_iefbr14 step.program)))
      (All-cons (Keeps fixed store) (Action.Start n step) (takes_from n 1 step.dds ++ (Action.Finish n ∷ disposes_from n 1 step.dds)) tt
      (All-append (Keeps fixed store) (takes_from n 1 step.dds) (Action.Finish n ∷ disposes_from n 1 step.dds) (takes_keep n 1 step.dds h)
      (All-cons (Keeps fixed store) (Action.Finish n) (disposes_from n 1 step.dds) tt (disposes_keep n 1 step.dds h))))

  -- steps from this number on
  abbrev StepsKeep : ℕ → List StepPlan → Type 0
  StepsKeep from steps = (k m : ℕ) (step : StepPlan) → m ≡ from + k → k < length steps → DdsKeep m 1 (slice_index_or steps k step).dds

  steps_left : (from : ℕ) (step : StepPlan) (steps : List StepPlan) → StepsKeep from (step ∷ steps) → StepsKeep (from + 1) steps
  steps_left from step steps h = λ k m e is less. h (suc k) m e (omega (arith, is)) (omega (arith, less))

  step_first : (from : ℕ) (step : StepPlan) (steps : List StepPlan) → StepsKeep from (step ∷ steps) → DdsKeep from 1 step.dds
  step_first from step steps h = h 0 from step (omega arith) (omega arith)

  steps_keep : (from : ℕ) (steps : List StepPlan) → StepsKeep from steps → AllKeep (steps_from (moves_of []) from steps)
  steps_keep from [] h = All-nil (Keeps fixed store)
  steps_keep from (step ∷ steps) h =
      All-append (Keeps fixed store) (step_actions from step (moves_of [] step.program)) (steps_from (moves_of []) (from + 1) steps)
      (step_keeps from step (step_first from step steps h)) (steps_keep (from + 1) steps (steps_left from step steps h))

  first_steps_keep : (from k : ℕ) (steps : List StepPlan) → StepsKeep from steps → AllKeep (steps_from (moves_of []) from (take k steps))
  first_steps_keep from zero steps h = All-nil (Keeps fixed store)
  first_steps_keep from (suc k) [] h = All-nil (Keeps fixed store)
  first_steps_keep from (suc k) (step ∷ steps) h =
      All-append (Keeps fixed store) (step_actions from step (moves_of [] step.program)) (steps_from (moves_of []) (from + 1) (take k steps))
      (step_keeps from step (step_first from step steps h)) (first_steps_keep (from + 1) k steps (steps_left from step steps h))

  one_or_none : (b : Bool) (a : Action) → Keeps fixed store a → AllKeep (cond b (a ∷ []) [])
  one_or_none true a h = All-cons (Keeps fixed store) a [] h (All-nil (Keeps fixed store))
  one_or_none false a h = All-nil (Keeps fixed store)

  lefts_in_keep : (n dd : ℕ) (dds : List DdPlan) → AllKeep (lefts_in n dd dds)
  lefts_in_keep n dd [] = All-nil (Keeps fixed store)
  lefts_in_keep n dd (d ∷ dds) =
      All-append (Keeps fixed store) (left_by n dd d) (lefts_in n (dd + 1) dds) (one_or_none (passes d.kind) (Action.Left n dd d) tt) (lefts_in_keep n (dd + 1) dds)

  lefts_keep : (n : ℕ) (steps : List StepPlan) → AllKeep (lefts_from n steps)
  lefts_keep n [] = All-nil (Keeps fixed store)
  lefts_keep n (step ∷ steps) =
      All-append (Keeps fixed store) (lefts_in n 1 step.dds) (lefts_from (n + 1) steps) (lefts_in_keep n 1 step.dds) (lefts_keep (n + 1) steps)

  agenda_keeps : (plan : JobPlan) → StepsKeep 1 plan.steps → AllKeep (path_agenda plan)
  agenda_keeps plan h =
      All-append (Keeps fixed store) (steps_from (moves_of []) 1 plan.steps) (lefts_from 1 plan.steps ++ (Action.Over ∷ [])) (steps_keep 1 plan.steps h)
      (All-append (Keeps fixed store) (lefts_from 1 plan.steps) (Action.Over ∷ []) (lefts_keep 1 plan.steps)
      (All-cons (Keeps fixed store) Action.Over [] tt (All-nil (Keeps fixed store))))

  from_one : (plan : JobPlan) → AtMostKeeps fixed.meanings store plan → StepsKeep 1 plan.steps
  from_one plan h = λ k m step is less j q d at within.
      let step_of : k + 1 ≡ m = omega (arith, is) in
      let dd_of : j + 1 ≡ q = omega (arith, at) in
      let at_own : IsAtMostKept fixed.meanings store (k + 1) (j + 1) (slice_index_or (slice_index_or plan.steps k step).dds j d).kind = h k step less j d within in
      subst (λ (r : ℕ). IsAtMostKept fixed.meanings store r q (slice_index_or (slice_index_or plan.steps k step).dds j d).kind) step_of
      (subst (λ (r : ℕ). IsAtMostKept fixed.meanings store (k + 1) r (slice_index_or (slice_index_or plan.steps k step).dds j d).kind) dd_of at_own)

still_start : (store : Store) (outcomes : List Outcome) → IsStill store (at_start store (given outcomes))
still_start store outcomes = record { stored = refl; unpassed = refl; standing = All-nil (IsStanding store) }

still_to : (fixed : Fixed) (plan : JobPlan) (store : Store) (k : ℕ) (outcomes : List Outcome) → AtMostKeeps fixed.meanings store plan →
    IsStill store (ran_to fixed plan store k outcomes).state
still_to fixed plan store k outcomes h =
    still_run fixed (steps_from (moves_of []) 1 (take k plan.steps)) (at_start store (given outcomes))
    (first_steps_keep fixed store 1 k plan.steps (from_one fixed store plan h)) (still_start store outcomes)

-- no DD of such a job refers to the volume of another
kind_unreferring : (store : Store) (fixed : Fixed) (n dd : ℕ) (kind : DdKind) → IsAtMostKept fixed.meanings store n dd kind → (a b : ℕ) → kind_refers kind a b ≡ false
kind_unreferring store fixed n dd (Sysout class) h a b = refl
kind_unreferring store fixed n dd Dummy h a b = refl
kind_unreferring store fixed n dd (Cards cards) h a b = refl
kind_unreferring store fixed n dd (Set p) h a b = ap (λ v. refers v a b) h.anywhere

module _ (fixed : Fixed) (store : Store) (a b : ℕ) where
  abbrev asks : DdPlan → Bool
  asks d = kind_refers d.kind a b

  dds_unreferring : (n from : ℕ) (dds : List DdPlan) → DdsKeep fixed store n from dds → list_any asks dds ≡ false
  dds_unreferring n from [] h = refl
  dds_unreferring n from (d ∷ dds) h =
      ap (λ x. x || list_any asks dds) (kind_unreferring store fixed n from d.kind (dd_first fixed store n from d dds h) a b)
      ∙ dds_unreferring n (from + 1) dds (dds_left fixed store n from d dds h)

  steps_unreferring : (k from : ℕ) (steps : List StepPlan) → StepsKeep fixed store from steps → steps_refer (drop k steps) a b ≡ false
  steps_unreferring zero from [] h = refl
  steps_unreferring zero from (step ∷ steps) h =
      ap (λ x. x || steps_refer steps a b) (dds_unreferring from 1 step.dds (step_first fixed store from step steps h))
      ∙ all_unreferring (from + 1) steps (steps_left fixed store from step steps h)
    where
      all_unreferring : (from : ℕ) (steps : List StepPlan) → StepsKeep fixed store from steps → steps_refer steps a b ≡ false
      all_unreferring from [] h = refl
      all_unreferring from (step ∷ steps) h =
          ap (λ x. x || steps_refer steps a b) (dds_unreferring from 1 step.dds (step_first fixed store from step steps h))
          ∙ all_unreferring (from + 1) steps (steps_left fixed store from step steps h)
  steps_unreferring (suc k) from [] h = refl
  steps_unreferring (suc k) from (step ∷ steps) h = steps_unreferring k (from + 1) steps (steps_left fixed store from step steps h)

-- what is seen behind the k-th step, where the store is as it was and no test is there
abbrev view_with : JobPlan → ℕ → ℕ → Store → List Passed → (ℕ → ℕ → Option (List ℕ)) → List Bool → List (List Bool) → Bool → View
view_with plan k date store passed volumes of_job of_steps came = record {
  sets = λ key serial. shown_set ((part_of (names_of plan) store).set key serial) date;
  catalog = (part_of (names_of plan) store).catalog;
  passed = passed;
  volumes = volumes;
  abended = came;
  job_tests = of_job;
  step_tests = of_steps;
}

abbrev bare_view : JobPlan → ℕ → ℕ → Store → Bool → View
bare_view plan k date store came = view_with plan k date store [] (λ step dd. None) [] (map (λ step. []) (drop k plan.steps)) came

none_met : (ended : List Ended) (steps : List StepPlan) → All (λ step. step.tests.items ≡ []) steps →
    map (λ (step : StepPlan). map (satisfied ended) step.tests.items) steps ≡ map (λ (step : StepPlan). []) steps
none_met ended [] all = refl
none_met ended (step ∷ steps) all =
    ap (λ (tests : List Test). map (satisfied ended) tests ∷ map (λ (other : StepPlan). map (satisfied ended) other.tests.items) steps)
    (All-head (λ (other : StepPlan). other.tests.items ≡ []) step steps all)
    ∙ ap (λ (met : List (List Bool)). [] ∷ met) (none_met ended steps (All-tail (λ (other : StepPlan). other.tests.items ≡ []) step steps all))

is_bare : (fixed : Fixed) (plan : JobPlan) (k : ℕ) (store : Store) (s : State) → AtMostKeeps fixed.meanings store plan → HasNoTests plan → IsStill store s →
    view_at plan k fixed.date s ≡ bare_view plan k fixed.date store (abended s.own.ended)
is_bare fixed plan k store s keeps h i =
    let date = fixed.date in
    let ended = s.own.ended in
    let came = abended ended in
    let of_job = map (satisfied ended) plan.tests.items in
    let of_steps = map (λ (step : StepPlan). map (satisfied ended) step.tests.items) (drop k plan.steps) in
    let asked : ℕ → ℕ → Option (List ℕ) = λ step dd. cond (steps_refer (drop k plan.steps) step dd) (dd_volume s.own.volumes step dd) None in
    let unasked : asked ≡ (λ step dd. None) =
    λ j step dd. cond (steps_unreferring fixed store step dd k 1 plan.steps (from_one fixed store plan keeps) j) (dd_volume s.own.volumes step dd) None in
    ap (λ (other : Store). view_with plan k date other s.own.passed asked of_job of_steps came) i.stored
    ∙ ap (λ (passed : List Passed). view_with plan k date store passed asked of_job of_steps came) i.unpassed
    ∙ ap (λ (volumes : ℕ → ℕ → Option (List ℕ)). view_with plan k date store [] volumes of_job of_steps came) unasked
    ∙ ap (λ (tests : List Test). view_with plan k date store [] (λ step dd. None) (map (satisfied ended) tests) of_steps came) h.of_job
    ∙ ap (λ (met : List (List Bool)). view_with plan k date store [] (λ step dd. None) [] met came)
    (none_met ended (drop k plan.steps) (All-drop (λ (step : StepPlan). step.tests.items ≡ []) k plan.steps h.of_steps))

-- both views behind a step
abbrev bare_views : JobPlan → ℕ → ℕ → Store → List View
bare_views plan k date store = bare_view plan k date store true ∷ bare_view plan k date store false ∷ []

one_of_both : (plan : JobPlan) (k date : ℕ) (store : Store) (came : Bool) → Contains (bare_views plan k date store) (bare_view plan k date store came)
one_of_both plan k date store true = (0, omega arith, refl)
one_of_both plan k date store false = (1, omega arith, refl)

are_all : (fixed : Fixed) (plan : JobPlan) (store : Store) (k : ℕ) → AtMostKeeps fixed.meanings store plan → HasNoTests plan →
    AreAllViews fixed plan store k (bare_views plan k fixed.date store)
are_all fixed plan store k keeps tests = λ outcomes within clean.
    let s = (ran_to fixed plan store k outcomes).state in
    subst (Contains (bare_views plan k fixed.date store)) (sym (is_bare fixed plan k store s keeps tests (still_to fixed plan store k outcomes keeps)))
    (one_of_both plan k fixed.date store (abended s.own.ended))

in_none : (p : Place) → Contains [] p → ⊥
in_none p (n, less, is) = omega (arith, less)

-- such a job is free
pub is_free : AreFew → (fixed : Fixed) (plan : JobPlan) (store : Store) (limit : ℕ) → AtMostKeeps fixed.meanings store plan → HasNoTests plan → 2 ≤ limit →
    IsFree fixed plan store limit []
is_free few fixed plan store limit keeps tests enough =
    let all = agenda_keeps fixed store plan (from_one fixed store plan keeps) in
    record {
      safe = λ outcomes within. ap (λ faults. length faults == 0) (faultless_run fixed (path_agenda plan) (at_start store (given outcomes)) all (still_start store outcomes));
      few = λ n from to more. few fixed plan store n limit (bare_views plan n fixed.date store) (are_all fixed plan store n keeps tests) enough more;
      made = record {
        made = All-nil _;
        all = λ p makes. absurd (in_none p (subst (λ (made : List Place). Contains made p)
            (idle_run fixed (path_agenda plan) (at_start store (given makes.outcomes)) all (still_start store makes.outcomes)) makes.made));
        rising = tt;
      };
    }
