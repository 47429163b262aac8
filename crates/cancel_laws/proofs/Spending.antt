-- A DD taken and a request write S222 only where a cancel is due, and then nothing else.
use Rattle.std.proofs.Common.{◌≡◌, ℕ, Bool, true, false, cond, List, [], ◌∷◌, Option, Some, None, refl, ◌∙◌}
use Rattle.std.specs.Prelude.{◌||◌, ◌==◌, drop, slice_get}
use Rattle.std.specs.List.{list_any}
use Rattle.std.proofs.lemmas.Bool.{cond_both}
use Rattle.std.proofs.lemmas.List.Folds.{list_any-append}
use Rattle.jcl_plan.specs.declared.entry.JobLine.TheVariants as line
use Rattle.jcl_plan.specs.declared.outcome.Abend.TheVariants.{S222}
use Rattle.jcl_plan.specs.declared.plan.DdKind.{DdKind}
use Rattle.jcl_plan.specs.declared.plan.DdKind.TheVariants.{Sysout, Dummy, Cards, Set}
use Rattle.jcl_plan.specs.declared.plan.DdPlan.{DdPlan}
use Rattle.jcl_plan.specs.declared.plan.SetPlan.{SetPlan}
use Rattle.jcl_plan.specs.declared.plan.StepPlan.{StepPlan}
use Rattle.jcl_meaning.specs.declared.program.Move.{Move}
use Rattle.jcl_meaning.specs.declared.program.Move.TheVariants.{From, To}
use Rattle.jcl_meaning.specs.declared.state.DdState.{DdState}
use Rattle.jcl_meaning.specs.declared.state.Due.{Due}
use Rattle.jcl_meaning.specs.declared.state.Due.TheVariants as due
use Rattle.jcl_meaning.specs.declared.state.Resolution.{Resolution}
use Rattle.jcl_meaning.specs.declared.state.Resolution.TheVariants.{Means, Fails}
use Rattle.jcl_meaning.specs.declared.state.TakenSet.{TakenSet}
use Rattle.jcl_meaning.specs.declared.store.DataSet.{DataSet}
use Rattle.jcl_meaning.specs.declared.take.Decision.{Decision}
use Rattle.jcl_meaning.specs.declared.take.Decision.TheVariants.{Refuses, Takes}
use Rattle.jcl_meaning.specs.Programs.{emptied, empties, is_concatenated, is_full, is_read_only, or_nothing}
use Rattle.jcl_meaning.specs.RequestActs.{asks_at, asks_dd, asks_of, gets_by, head_or, put_grows, put_to_set, puts, puts_in, puts_unless, reads, received_due, received_now}
use Rattle.jcl_meaning.specs.Resolutions.{meaning_at}
use Rattle.jcl_meaning.specs.States.{Done, Fixed, State, cancel_due, if_runs, unless_cancelled}
use Rattle.jcl_meaning.specs.TakeActs.{back_line, back_lines, decided, takes, takes_set}
use Rattle.jcl_meaning.specs.Takes.{secondary_of}
use Rattle.cancel_laws.specs.Cancels.{is_s222}

-- no line of an action is S222, or its one line is, where a cancel is due
pub data Spends (s : State) (d : Done) : Type 0 where
  plain : list_any is_s222 d.lines ≡ false → Spends s d
  used : d.lines ≡ line.Abend S222 ∷ [] → cancel_due s.answers.cancels s.own.lines ≡ true → Spends s d

-- what was given back
plain_back : (x : DdState) (t : Option TakenSet) → list_any is_s222 (back_line (record x { taken = t })) ≡ false
plain_back x None = refl
plain_back x (Some t) = refl

plain_backs : (xs : List DdState) → list_any is_s222 (back_lines xs) ≡ false
plain_backs [] = refl
plain_backs (x ∷ xs) = list_any-append is_s222 (back_line x) (back_lines xs) ∙ (λ i. plain_back x x.taken i || plain_backs xs i)

module _ (s : State) where
  pub chosen : (b : Bool) (d e : Done) → Spends s d → Spends s e → Spends s (cond b d e)
  chosen true d e p q = p
  chosen false d e p q = q

  pub running : (b : Bool) (d : Done) → Spends s d → Spends s (if_runs b s d)
  running true d p = p
  running false d p = plain refl

  -- where a cancel is due it stands in the place of the line
  pub at_line : (d : Done) → Spends s d → Spends s (unless_cancelled s d)
  at_line d p = cond_both (cancel_due s.answers.cancels s.own.lines) _ d (Spends s) (λ is. used refl is) (λ none. p)

  -- DDs taken
  decision : (fixed : Fixed) (n dd : ℕ) (name : Option (List ℕ)) (p : SetPlan) (key : _) (d : Decision) → Spends s (decided fixed n dd name p key s d)
  decision fixed n dd name p key (Refuses f) = plain (plain_backs s.own.dds)
  decision fixed n dd name p key (Takes serial h) = plain refl

  take_set : (fixed : Fixed) (n dd : ℕ) (name : Option (List ℕ)) (p : SetPlan) (r : Resolution) → Spends s (takes_set fixed n dd name p s r)
  take_set fixed n dd name p (Fails f) = plain (plain_backs s.own.dds)
  take_set fixed n dd name p (Means key) = decision fixed n dd name p key _

  pub take : (fixed : Fixed) (n dd : ℕ) (name : Option (List ℕ)) (kind : DdKind) → Spends s (takes fixed n dd name kind s)
  take fixed n dd name (Sysout class) = plain refl
  take fixed n dd name Dummy = plain refl
  take fixed n dd name (Cards cards) = plain refl
  take fixed n dd name (Set p) = take_set fixed n dd name p (meaning_at fixed.meanings n dd)

  -- requests
  get : (name : List ℕ) (d : ℕ) (x : DdState) (m p : ℕ) (text serial : Option (List ℕ)) → Spends s (gets_by name d x s m p text serial)
  get name d x m p None serial = plain refl
  get name d x m p (Some text) None = plain refl
  get name d x m p (Some text) (Some serial) = plain refl

  grow : (granted : Bool) (name text : List ℕ) (d : ℕ) (x : DdState) (t : TakenSet) (n : ℕ) (set : DataSet) →
      Spends s (put_grows granted name text d x t n set s)
  grow true name text d x t n set = plain refl
  grow false name text d x t n set = plain refl

  put_set : (name text : List ℕ) (d : ℕ) (x : DdState) (t : TakenSet) (n : ℕ) (set : DataSet) → Spends s (put_to_set name text d x t n set s)
  put_set name text d x t n set =
      chosen (is_full set) _ _ (chosen (n == 0) _ _ (plain refl) (grow (head_or true s.answers.grants) name text d x t n set)) (plain refl)

  put_in : (name text : List ℕ) (d : ℕ) (x : DdState) (p : SetPlan) (t : Option TakenSet) → Spends s (puts_in name text d x p t s)
  put_in name text d x p None = plain refl
  put_in name text d x p (Some t) =
      put_set name text d x t (secondary_of p.space) (emptied (empties p.status x.written) (or_nothing (s.store.set t.key t.serial)))

  put : (name text : List ℕ) (d : ℕ) (x : DdState) (kind : DdKind) → Spends s (puts name text d x kind s)
  put name text d x (Sysout class) = plain refl
  put name text d x Dummy = plain refl
  put name text d x (Cards cards) = plain refl
  put name text d x (Set p) = put_in name text d x p x.taken

  put_unless : (b : Bool) (name text : List ℕ) (d : ℕ) (x : DdState) (kind : DdKind) → Spends s (puts_unless b name text d x kind s)
  put_unless true name text d x kind = plain refl
  put_unless false name text d x kind = put name text d x kind

  ask_of : (step : StepPlan) (m : Move) (d : ℕ) (x : DdState) (dd : DdPlan) → Spends s (asks_of step m d x dd s)
  ask_of step (From name) d x dd = let found = reads step d x s in get name d x found.member found.position found.text found.serial
  ask_of step (To name text) d x dd = put_unless (is_read_only dd.kind || is_concatenated (drop d step.dds)) name text d x dd.kind

  ask_dd : (x : Option DdState) (dd : Option DdPlan) (step : StepPlan) (m : Move) (d : ℕ) → Spends s (asks_dd x dd step m d s)
  ask_dd None dd step m d = plain refl
  ask_dd (Some x) None step m d = plain refl
  ask_dd (Some x) (Some dd) step m d = ask_of step m d x dd

  pub ask_at : (d : Option ℕ) (step : StepPlan) (m : Move) → Spends s (asks_at d step m s)
  ask_at None step m = plain refl
  ask_at (Some d) step m = ask_dd (slice_get s.own.dds d) (slice_get step.dds d) step m d

  receipt : (d : Due) → Spends s (received_now d s)
  receipt (due.Data name text) = plain refl
  receipt (due.Put name d text) = plain refl

  pub receive : (d : Option Due) → Spends s (received_due d s)
  receive None = plain refl
  receive (Some d) = at_line _ (receipt d)
