-- Of a DD taken no SB37 is told, and of a request it is the one line.
use Rattle.std.proofs.Common.{◌≡◌, ℕ, Bool, true, false, cond, List, [], ◌∷◌, Option, Some, None, refl, ◌∙◌}
use Rattle.std.specs.Prelude.{◌||◌, ◌==◌, drop, slice_get}
use Rattle.std.specs.List.{list_any}
use Rattle.std.proofs.lemmas.List.Folds.{list_any-append}
use Rattle.jcl_plan.specs.declared.entry.JobLine.{JobLine}
use Rattle.jcl_plan.specs.declared.entry.JobLine.TheVariants as line
use Rattle.jcl_plan.specs.declared.outcome.Abend.TheVariants.{SB37}
use Rattle.jcl_plan.specs.declared.plan.DdKind.{DdKind}
use Rattle.jcl_plan.specs.declared.plan.DdKind.TheVariants.{Sysout, Dummy, Cards, Set}
use Rattle.jcl_plan.specs.declared.plan.DdPlan.{DdPlan}
use Rattle.jcl_plan.specs.declared.plan.SetPlan.{SetPlan}
use Rattle.jcl_plan.specs.declared.plan.StepPlan.{StepPlan}
use Rattle.jcl_meaning.specs.declared.program.Move.{Move}
use Rattle.jcl_meaning.specs.declared.program.Move.TheVariants.{From, To}
use Rattle.jcl_meaning.specs.declared.state.DdState.{DdState}
use Rattle.jcl_meaning.specs.declared.state.Resolution.{Resolution}
use Rattle.jcl_meaning.specs.declared.state.Resolution.TheVariants.{Means, Fails}
use Rattle.jcl_meaning.specs.declared.state.TakenSet.{TakenSet}
use Rattle.jcl_meaning.specs.declared.store.DataSet.{DataSet}
use Rattle.jcl_meaning.specs.declared.take.Decision.{Decision}
use Rattle.jcl_meaning.specs.declared.take.Decision.TheVariants.{Refuses, Takes}
use Rattle.jcl_meaning.specs.Programs.{emptied, empties, is_concatenated, is_full, is_read_only, or_nothing}
use Rattle.jcl_meaning.specs.RequestActs.{asks_at, asks_dd, asks_of, gets_by, head_or, put_grows, put_to_set, puts, puts_in, puts_unless, reads}
use Rattle.jcl_meaning.specs.Resolutions.{meaning_at}
use Rattle.jcl_meaning.specs.States.{Done, Fixed, State, cancel_due, if_runs, unless_cancelled}
use Rattle.jcl_meaning.specs.TakeActs.{back_line, back_lines, decided, takes, takes_set}
use Rattle.jcl_meaning.specs.Takes.{secondary_of}

abbrev pub is_sb37 : JobLine → Bool
is_sb37 (line.Abend SB37) = true
is_sb37 other = false

-- no line is SB37, or, where a request asks, it is the one line
pub data Tells (asks : Bool) (d : Done) : Type 0 where
  quiet : list_any is_sb37 d.lines ≡ false → Tells asks d
  alone : asks ≡ true → d.lines ≡ line.Abend SB37 ∷ [] → Tells asks d

-- what was given back
quiet_back : (x : DdState) (t : Option TakenSet) → list_any is_sb37 (back_line (record x { taken = t })) ≡ false
quiet_back x None = refl
quiet_back x (Some t) = refl

quiet_backs : (xs : List DdState) → list_any is_sb37 (back_lines xs) ≡ false
quiet_backs [] = refl
quiet_backs (x ∷ xs) = list_any-append is_sb37 (back_line x) (back_lines xs) ∙ (λ i. quiet_back x x.taken i || quiet_backs xs i)

module _ (asks : Bool) (s : State) where
  pub chosen : (b : Bool) (d e : Done) → Tells asks d → Tells asks e → Tells asks (cond b d e)
  chosen true d e p q = p
  chosen false d e p q = q

  pub running : (b : Bool) (d : Done) → Tells asks d → Tells asks (if_runs b s d)
  running true d p = p
  running false d p = quiet refl

  -- a cancel tells S222 in the place of the line
  pub at_line : (d : Done) → Tells asks d → Tells asks (unless_cancelled s d)
  at_line d p = chosen (cancel_due s.answers.cancels s.own.lines) _ d (quiet refl) p

-- DDs taken
module _ (s : State) where
  decision : (fixed : Fixed) (n dd : ℕ) (name : Option (List ℕ)) (p : SetPlan) (key : _) (d : Decision) → Tells false (decided fixed n dd name p key s d)
  decision fixed n dd name p key (Refuses f) = quiet (quiet_backs s.own.dds)
  decision fixed n dd name p key (Takes serial h) = quiet refl

  take_set : (fixed : Fixed) (n dd : ℕ) (name : Option (List ℕ)) (p : SetPlan) (r : Resolution) → Tells false (takes_set fixed n dd name p s r)
  take_set fixed n dd name p (Fails f) = quiet (quiet_backs s.own.dds)
  take_set fixed n dd name p (Means key) = decision fixed n dd name p key _

  pub take : (fixed : Fixed) (n dd : ℕ) (name : Option (List ℕ)) (kind : DdKind) → Tells false (takes fixed n dd name kind s)
  take fixed n dd name (Sysout class) = quiet refl
  take fixed n dd name Dummy = quiet refl
  take fixed n dd name (Cards cards) = quiet refl
  take fixed n dd name (Set p) = take_set fixed n dd name p (meaning_at fixed.meanings n dd)

-- requests
module _ (s : State) where
  get : (name : List ℕ) (d : ℕ) (x : DdState) (m p : ℕ) (text serial : Option (List ℕ)) → Tells true (gets_by name d x s m p text serial)
  get name d x m p None serial = quiet refl
  get name d x m p (Some text) None = quiet refl
  get name d x m p (Some text) (Some serial) = quiet refl

  grow : (granted : Bool) (name text : List ℕ) (d : ℕ) (x : DdState) (t : TakenSet) (n : ℕ) (set : DataSet) →
      Tells true (put_grows granted name text d x t n set s)
  grow true name text d x t n set = quiet refl
  grow false name text d x t n set = alone refl refl

  put_set : (name text : List ℕ) (d : ℕ) (x : DdState) (t : TakenSet) (n : ℕ) (set : DataSet) → Tells true (put_to_set name text d x t n set s)
  put_set name text d x t n set =
      chosen true s (is_full set) _ _ (chosen true s (n == 0) _ _ (quiet refl) (grow (head_or true s.answers.grants) name text d x t n set)) (quiet refl)

  put_in : (name text : List ℕ) (d : ℕ) (x : DdState) (p : SetPlan) (t : Option TakenSet) → Tells true (puts_in name text d x p t s)
  put_in name text d x p None = quiet refl
  put_in name text d x p (Some t) =
      put_set name text d x t (secondary_of p.space) (emptied (empties p.status x.written) (or_nothing (s.store.set t.key t.serial)))

  put : (name text : List ℕ) (d : ℕ) (x : DdState) (kind : DdKind) → Tells true (puts name text d x kind s)
  put name text d x (Sysout class) = quiet refl
  put name text d x Dummy = quiet refl
  put name text d x (Cards cards) = quiet refl
  put name text d x (Set p) = put_in name text d x p x.taken

  put_unless : (b : Bool) (name text : List ℕ) (d : ℕ) (x : DdState) (kind : DdKind) → Tells true (puts_unless b name text d x kind s)
  put_unless true name text d x kind = quiet refl
  put_unless false name text d x kind = put name text d x kind

  ask_of : (step : StepPlan) (m : Move) (d : ℕ) (x : DdState) (dd : DdPlan) → Tells true (asks_of step m d x dd s)
  ask_of step (From name) d x dd = let found = reads step d x s in get name d x found.member found.position found.text found.serial
  ask_of step (To name text) d x dd = put_unless (is_read_only dd.kind || is_concatenated (drop d step.dds)) name text d x dd.kind

  ask_dd : (x : Option DdState) (dd : Option DdPlan) (step : StepPlan) (m : Move) (d : ℕ) → Tells true (asks_dd x dd step m d s)
  ask_dd None dd step m d = quiet refl
  ask_dd (Some x) None step m d = quiet refl
  ask_dd (Some x) (Some dd) step m d = ask_of step m d x dd

  pub ask_at : (d : Option ℕ) (step : StepPlan) (m : Move) → Tells true (asks_at d step m s)
  ask_at None step m = quiet refl
  ask_at (Some d) step m = ask_dd (slice_get s.own.dds d) (slice_get step.dds d) step m d
