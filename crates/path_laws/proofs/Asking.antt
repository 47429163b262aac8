-- What a program's requests leave: the same sets with the same days, the same DDs.
use Rattle.std.proofs.Common.{◌≡◌, ◌==◌, ℕ, Bool, true, false, cond, List, [], Option, Some, None, refl, sym, ap, ◌∙◌, subst}
use Rattle.std.specs.Prelude.{All, ◌||◌, drop, slice_get}
use Rattle.jcl_plan.specs.declared.entry.JobLine.{JobLine}
use Rattle.jcl_plan.specs.declared.outcome.Abend.{Abend}
use Rattle.jcl_plan.specs.declared.outcome.Abend.TheVariants as abend
use Rattle.jcl_plan.specs.declared.outcome.Outcome.{Outcome}
use Rattle.jcl_plan.specs.declared.plan.DdKind.{DdKind}
use Rattle.jcl_plan.specs.declared.plan.DdKind.TheVariants.{Sysout, Dummy, Cards, Set}
use Rattle.jcl_plan.specs.declared.plan.DdPlan.{DdPlan}
use Rattle.jcl_plan.specs.declared.plan.SetPlan.{SetPlan}
use Rattle.jcl_plan.specs.declared.plan.StepPlan.{StepPlan}
use Rattle.jcl_meaning.specs.declared.program.Move.{Move}
use Rattle.jcl_meaning.specs.declared.program.Move.TheVariants.{From, To}
use Rattle.jcl_meaning.specs.declared.state.DdState.{DdState}
use Rattle.jcl_meaning.specs.declared.state.Due.{Due}
use Rattle.jcl_meaning.specs.declared.state.Due.TheVariants as due
use Rattle.jcl_meaning.specs.declared.state.Own.{Own}
use Rattle.jcl_meaning.specs.declared.state.TakenSet.{TakenSet}
use Rattle.jcl_meaning.specs.declared.store.DataSet.{DataSet}
use Rattle.jcl_meaning.specs.Acts.{act}
use Rattle.jcl_meaning.specs.Agendas.{Ask, Receive}
use Rattle.jcl_meaning.specs.History.{IsStepOutcome}
use Rattle.jcl_meaning.specs.Programs.{appended, dd_of, emptied, empties, grown_by, is_concatenated, is_full, is_read_only, or_nothing}
use Rattle.jcl_meaning.specs.RequestActs.{appended_at, asks_at, asks_dd, asks_of, dd_name, gets_by, head_or, put_grows, put_starts, put_to_set, puts, puts_in, puts_unless, reads, received_due, received_now, store_appended, with_set_at}
use Rattle.jcl_meaning.specs.States.{Answers, Done, Fixed, State, abended_by, cancel_due, goes, if_runs, silent, unless_cancelled}
use Rattle.jcl_meaning.specs.Stores.{Store}
use Rattle.jcl_meaning.specs.Takes.{secondary_of}
use Rattle.path_laws.proofs.Alike.{AsEnded, Open, SameDds, dds_along, dds_same, dds_set}
use Rattle.path_laws.proofs.Shapes.{Shaped, shaped_along, shaped_same, there_shaped}

-- what is left of a state
pub record Kept (s u : State) : Type 0 where
  pub store : Shaped u.store s.store
  pub passed : u.own.passed ≡ s.own.passed
  pub ended : u.own.ended ≡ s.own.ended
  pub faulted : u.own.faulted ≡ s.own.faulted
  pub volumes : u.own.volumes ≡ s.own.volumes
  pub runs : u.own.runs ≡ s.own.runs
  pub dds : SameDds u.own.dds s.own.dds
  pub granted : u.answers.primary ≡ s.answers.primary
  pub outcomes : u.answers.outcomes ≡ s.answers.outcomes
  pub over : AsEnded s.own.over → AsEnded u.own.over

-- no fault is met
pub record IsQuiet (s : State) (done : Done) : Type 0 where
  pub meets : done.meets ≡ None
  pub kept : Kept s done.state

chosen : (s : State) (b : Bool) (x y : Done) → IsQuiet s x → IsQuiet s y → IsQuiet s (cond b x y)
chosen s true x y p q = p
chosen s false x y p q = q

running : (s : State) (b : Bool) (x : Done) → IsQuiet s x → IsQuiet s (if_runs b s x)
running s true x p = p
running s false x p = none s
  where
    none : (s : State) → IsQuiet s (silent s)
    none s = record {
      meets = refl;
      kept = record {
        store = shaped_same s.store;
        passed = refl;
        ended = refl;
        faulted = refl;
        volumes = refl;
        runs = refl;
        dds = dds_same s.own.dds;
        granted = refl;
        outcomes = refl;
        over = λ h. h;
      };
    }

-- the own state goes on with other DDs
owns : (s : State) (lines : List JobLine) (store : Store) (answers : Answers) (own : Own) → Shaped store s.store → own.passed ≡ s.own.passed →
    own.ended ≡ s.own.ended → own.faulted ≡ s.own.faulted → own.volumes ≡ s.own.volumes → own.runs ≡ s.own.runs → SameDds own.dds s.own.dds →
    answers.primary ≡ s.answers.primary → answers.outcomes ≡ s.answers.outcomes → (AsEnded s.own.over → AsEnded own.over) →
    IsQuiet s (goes lines (record { store = store; own = own; answers = answers }))
owns s lines store answers own a b c d e f g h i j = record {
  meets = refl;
  kept = record { store = a; passed = b; ended = c; faulted = d; volumes = e; runs = f; dds = g; granted = h; outcomes = i; over = j };
}

-- an ABEND, in a store with the same sets
abends : (s : State) (a : Abend) (u : State) → Shaped u.store s.store → u.own ≡ s.own → u.answers.primary ≡ s.answers.primary →
    u.answers.outcomes ≡ s.answers.outcomes → IsQuiet s (abended_by a u)
abends s a u shaped own granted outcomes = record {
  meets = refl;
  kept = record {
    store = shaped;
    passed = ap (λ (o : Own). o.passed) own;
    ended = ap (λ (o : Own). o.ended) own;
    faulted = ap (λ (o : Own). o.faulted) own;
    volumes = ap (λ (o : Own). o.volumes) own;
    runs = ap (λ (o : Own). o.runs) own;
    dds = subst (λ (o : Own). SameDds o.dds s.own.dds) (sym own) (dds_same s.own.dds);
    granted = granted;
    outcomes = outcomes;
    over = λ h. (refl, tt);
  };
}

abends_here : (s : State) (a : Abend) → IsQuiet s (abended_by a s)
abends_here s a = abends s a s (shaped_same s.store) refl refl refl

gets_quiet : (name : List ℕ) (d : ℕ) (x : DdState) (s : State) (member position : ℕ) (text serial : Option (List ℕ)) → slice_get s.own.dds d ≡ Some x →
    IsQuiet s (gets_by name d x s member position text serial)
gets_quiet name d x s member position None serial e =
    owns s _ s.store s.answers _ (shaped_same s.store) refl refl refl refl refl (dds_set s.own.dds d x _ e refl) refl refl (λ h. h)
gets_quiet name d x s member position (Some text) None e =
    owns s _ s.store s.answers _ (shaped_same s.store) refl refl refl refl refl (dds_set s.own.dds d x _ e refl) refl refl (λ h. h)
gets_quiet name d x s member position (Some text) (Some serial) e =
    owns s _ s.store s.answers _ (shaped_same s.store) refl refl refl refl refl (dds_set s.own.dds d x _ e refl) refl refl (λ h. h)

-- a set that is written keeps its day
abbrev KeepsDay : State → TakenSet → DataSet → Type 0
KeepsDay s t set = (old : DataSet) → s.store.set t.key t.serial ≡ Some old → set.expires ≡ old.expires

written_shaped : (s : State) (t : TakenSet) (set : DataSet) → KeepsDay s t set → Shaped (with_set_at s t set).store s.store
written_shaped s t set day = there_shaped s.store t.key t.serial (s.store.set t.key t.serial) set refl day

module _ (name text : List ℕ) (d : ℕ) (x : DdState) (s : State) (e : slice_get s.own.dds d ≡ Some x) where
  starts_quiet : (t : TakenSet) (set : DataSet) (grown : Option ℕ) (answers : Answers) → KeepsDay s t set → answers.primary ≡ s.answers.primary →
      answers.outcomes ≡ s.answers.outcomes →
      IsQuiet s (put_starts name text d x t grown (record { store = (with_set_at s t set).store; own = s.own; answers = answers }))
  starts_quiet t set grown answers day g o =
      owns s _ (with_set_at s t set).store answers _ (written_shaped s t set day) refl refl refl refl refl (dds_set s.own.dds d x _ e refl) g o (λ h. h)

  grows_quiet : (granted : Bool) (t : TakenSet) (n : ℕ) (set : DataSet) → KeepsDay s t set → IsQuiet s (put_grows granted name text d x t n set s)
  grows_quiet true t n set day = starts_quiet t (grown_by n set) (Some n) _ day refl refl
  grows_quiet false t n set day = abends s abend.SB37 _ (written_shaped s t set day) refl refl refl

  to_set_quiet : (t : TakenSet) (n : ℕ) (set : DataSet) → KeepsDay s t set → IsQuiet s (put_to_set name text d x t n set s)
  to_set_quiet t n set day =
      chosen s (is_full set) _ _ (chosen s (n == 0) _ _ (abends s abend.SD37 _ (written_shaped s t set day) refl refl refl)
      (grows_quiet (head_or true s.answers.grants) t n set day)) (starts_quiet t set None s.answers day refl refl)

  day_of_emptied : (b : Bool) (set : DataSet) → (emptied b set).expires ≡ set.expires
  day_of_emptied true set = refl
  day_of_emptied false set = refl

  puts_in_quiet : (p : SetPlan) (t : Option TakenSet) → IsQuiet s (puts_in name text d x p t s)
  puts_in_quiet p None = abends_here s abend.SFF1
  puts_in_quiet p (Some t) =
      to_set_quiet t (secondary_of p.space) (emptied (empties p.status x.written) (or_nothing (s.store.set t.key t.serial)))
      (λ old is. day_of_emptied (empties p.status x.written) (or_nothing (s.store.set t.key t.serial)) ∙ ap (λ (z : Option DataSet). (or_nothing z).expires) is)

  puts_quiet : (kind : DdKind) → IsQuiet s (puts name text d x kind s)
  puts_quiet (Sysout class) =
      owns s _ s.store s.answers _ (shaped_same s.store) refl refl refl refl refl (dds_set s.own.dds d x _ e refl) refl refl (λ h. h)
  puts_quiet Dummy = owns s _ s.store s.answers _ (shaped_same s.store) refl refl refl refl refl (dds_same s.own.dds) refl refl (λ h. h)
  puts_quiet (Cards cards) = abends_here s abend.SFF1
  puts_quiet (Set p) = puts_in_quiet p x.taken

  puts_unless_quiet : (b : Bool) (kind : DdKind) → IsQuiet s (puts_unless b name text d x kind s)
  puts_unless_quiet true kind = abends_here s abend.SFF1
  puts_unless_quiet false kind = puts_quiet kind

asks_of_quiet : (step : StepPlan) (m : Move) (d : ℕ) (x : DdState) (dd : DdPlan) (s : State) → slice_get s.own.dds d ≡ Some x → IsQuiet s (asks_of step m d x dd s)
asks_of_quiet step (From name) d x dd s e =
    gets_quiet name d x s (reads step d x s).member (reads step d x s).position (reads step d x s).text (reads step d x s).serial e
asks_of_quiet step (To name text) d x dd s e =
    puts_unless_quiet name text d x s e (is_read_only dd.kind || is_concatenated (drop d step.dds)) dd.kind

asks_dd_quiet : (o : Option DdState) (dd : Option DdPlan) (step : StepPlan) (m : Move) (d : ℕ) (s : State) → slice_get s.own.dds d ≡ o →
    IsQuiet s (asks_dd o dd step m d s)
asks_dd_quiet None dd step m d s e = abends_here s abend.SFF0
asks_dd_quiet (Some x) None step m d s e = abends_here s abend.SFF0
asks_dd_quiet (Some x) (Some dd) step m d s e = asks_of_quiet step m d x dd s e

asks_at_quiet : (d : Option ℕ) (step : StepPlan) (m : Move) (s : State) → IsQuiet s (asks_at d step m s)
asks_at_quiet None step m s = abends_here s abend.SFF0
asks_at_quiet (Some d) step m s = asks_dd_quiet (slice_get s.own.dds d) (slice_get step.dds d) step m d s refl

unless_quiet : (s : State) (done : Done) → IsQuiet s done → IsQuiet s (unless_cancelled s done)
unless_quiet s done q = chosen s (cancel_due s.answers.cancels s.own.lines) _ done (abends_here s abend.S222) q

appended_shaped : (o : Option TakenSet) (text : List ℕ) (s : Store) → Shaped (appended_at o text s) s
appended_shaped None text s = shaped_same s
appended_shaped (Some t) text s =
    there_shaped s t.key t.serial (s.set t.key t.serial) (appended text (or_nothing (s.set t.key t.serial))) refl
    (λ old is. ap (λ (z : Option DataSet). (or_nothing z).expires) is)

store_shaped : (o : Option DdState) (text : List ℕ) (s : Store) → Shaped (store_appended o text s) s
store_shaped None text s = shaped_same s
store_shaped (Some x) text s = appended_shaped x.taken text s

receipt_quiet : (d : Due) (s : State) → IsQuiet s (received_now d s)
receipt_quiet (due.Data name text) s = owns s _ s.store s.answers _ (shaped_same s.store) refl refl refl refl refl (dds_same s.own.dds) refl refl (λ h. h)
receipt_quiet (due.Put name d text) s =
    owns s _ (store_appended (slice_get s.own.dds d) text s.store) s.answers _ (store_shaped (slice_get s.own.dds d) text s.store) refl refl refl refl refl
    (dds_same s.own.dds) refl refl (λ h. h)

due_quiet : (d : Option Due) (s : State) → IsQuiet s (received_due d s)
due_quiet None s = owns s [] s.store s.answers s.own (shaped_same s.store) refl refl refl refl refl (dds_same s.own.dds) refl refl (λ h. h)
due_quiet (Some d) s = unless_quiet s (received_now d s) (receipt_quiet d s)

pub ask_quiet : (fixed : Fixed) (step : StepPlan) (m : Move) (s : State) → IsQuiet s (act fixed (Ask step m) s)
unfolding act
ask_quiet fixed step m s = running s _ _ (unless_quiet s _ (asks_at_quiet (dd_of step.dds (dd_name m)) step m s))

pub receive_quiet : (fixed : Fixed) (s : State) → IsQuiet s (act fixed Receive s)
unfolding act
receive_quiet fixed s = running s _ _ (due_quiet s.own.due s)

-- an open step stays so
pub stays_open : (outs : List Outcome) (s u t : State) → Open outs s t → Kept s u → Open outs u t
stays_open outs s u t o k = record {
  same = record {
    store = shaped_along u.store s.store t.store k.store o.same.store;
    passed = k.passed ∙ o.same.passed;
    ended = k.ended ∙ o.same.ended;
    faulted = k.faulted ∙ o.same.faulted;
    volumes = k.volumes ∙ o.same.volumes;
    runs = k.runs ∙ o.same.runs;
    dds = dds_along u.own.dds s.own.dds t.own.dds k.dds o.same.dds;
    granted = k.granted ∙ o.same.granted;
    granted_too = o.same.granted_too;
    no_cancel = o.same.no_cancel;
    given = o.same.given;
    good = subst (All IsStepOutcome) (sym k.outcomes) o.same.good;
  };
  over = k.over o.over;
  over_there = o.over_there;
}
