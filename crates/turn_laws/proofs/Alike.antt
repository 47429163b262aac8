-- An action, and the same with other grants: both write or neither does, both need the same volume, and a cancel acts in both or in neither.
use Rattle.std.proofs.Common.{◌≡◌, ◌-◌, ℕ, Bool, true, false, cond, List, [], ◌∷◌, Option, Some, None, refl, sym, ap, ◌∙◌}
use Rattle.std.specs.Prelude.{◌||◌, ◌==◌, drop, slice_get}
use Rattle.jname_core.specs.declared.key.Key.{Key}
use Rattle.jcl_plan.specs.declared.entry.JobLine.{JobLine}
use Rattle.jcl_plan.specs.declared.outcome.Outcome.{Outcome}
use Rattle.jcl_plan.specs.declared.plan.DdKind.{DdKind}
use Rattle.jcl_plan.specs.declared.plan.DdKind.TheVariants.{Cards, Dummy, Set, Sysout}
use Rattle.jcl_plan.specs.declared.plan.DdPlan.{DdPlan}
use Rattle.jcl_plan.specs.declared.plan.SetPlan.{SetPlan}
use Rattle.jcl_plan.specs.declared.plan.StepPlan.{StepPlan}
use Rattle.jcl_meaning.specs.declared.program.Move.{Move}
use Rattle.jcl_meaning.specs.declared.program.Move.TheVariants.{From, To}
use Rattle.jcl_meaning.specs.declared.state.DdState.{DdState}
use Rattle.jcl_meaning.specs.declared.state.Due.{Due}
use Rattle.jcl_meaning.specs.declared.state.Due.TheVariants as due
use Rattle.jcl_meaning.specs.declared.state.Own.{Own}
use Rattle.jcl_meaning.specs.declared.state.Passed.{Passed}
use Rattle.jcl_meaning.specs.declared.state.Resolution.{Resolution}
use Rattle.jcl_meaning.specs.declared.state.Resolution.TheVariants.{Means, Fails}
use Rattle.jcl_meaning.specs.declared.state.TakenSet.{TakenSet}
use Rattle.jcl_meaning.specs.declared.store.DataSet.{DataSet}
use Rattle.jcl_meaning.specs.declared.take.Decision.{Decision}
use Rattle.jcl_meaning.specs.declared.take.Decision.TheVariants.{Refuses, Takes}
use Rattle.jcl_meaning.specs.Acts.{act}
use Rattle.jcl_meaning.specs.Agendas.{Action, Ask, Dispose, Finish, Left, Over, Receive, Start, Take}
use Rattle.jcl_meaning.specs.EndActs.{disposes, finishes, leaves, left_at, passed_by, set_disposes}
use Rattle.jcl_meaning.specs.Programs.{dd_of, emptied, empties, is_concatenated, is_full, is_read_only, or_nothing}
use Rattle.jcl_meaning.specs.RequestActs.{asks_at, asks_dd, dd_name, gets_by, put_grows, put_to_set, puts_in, puts_unless, reads, received_due}
use Rattle.jcl_meaning.specs.Resolutions.{meaning_at}
use Rattle.jcl_meaning.specs.States.{Done, Fixed, State, asks_open, cancel_due, if_runs, unless_cancelled}
use Rattle.jcl_meaning.specs.Stores.{Store}
use Rattle.jcl_meaning.specs.TakeActs.{decided, takes, takes_set}
use Rattle.jcl_meaning.specs.Takes.{secondary_of}
use Rattle.world_meaning.specs.Turns.{is_cancelled, volume_asked, volume_asked_at, volume_needed, volume_of_dd, volume_taken}

abbrev pub writes : List JobLine → Bool
writes [] = false
writes (line ∷ lines) = true

-- what an action did, with the answers that another left
abbrev pub left_with : Done → Done → Done
left_with e d = record e { state = record e.state { answers = d.state.answers } }

pub record IsAlike (a : Action) (own : Own) (d e : Done) : Type 0 where
  pub writing : writes d.lines ≡ writes e.lines
  pub needs : volume_needed d.lines a own ≡ volume_needed e.lines a own
  pub stops : is_cancelled d.lines ≡ is_cancelled e.lines
  pub silent : writes d.lines ≡ false → d ≡ left_with e d

module _ (a : Action) (own : Own) (fixed : Fixed) (store : Store) (outcomes : List Outcome) (cancels : List (Option ℕ))
    (growth primary other another : Bool) where
  -- a state, and the same with other grants
  abbrev s : State
  s = record { store = store; own = own; answers = record { outcomes = outcomes; cancels = cancels; grants = growth ∷ []; primary = primary } }

  abbrev t : State
  t = record { store = store; own = own; answers = record { outcomes = outcomes; cancels = cancels; grants = other ∷ []; primary = another } }

  -- no grant is looked at
  unasked : (d e : Done) → d ≡ left_with e d → IsAlike a own d e
  unasked d e is = record {
    writing = ap (λ (x : Done). writes x.lines) is;
    needs = ap (λ (x : Done). volume_needed x.lines a own) is;
    stops = ap (λ (x : Done). is_cancelled x.lines) is;
    silent = λ none. is;
  }

  -- lines are written, by what is granted
  both_told : (d e : Done) → writes d.lines ≡ true → writes e.lines ≡ true → volume_needed d.lines a own ≡ volume_needed e.lines a own →
      is_cancelled d.lines ≡ is_cancelled e.lines → IsAlike a own d e
  both_told d e some more needs stops =
      record { writing = some ∙ sym more; needs = needs; stops = stops; silent = λ none. absurd cc }

  by_test : (b : Bool) (d e f g : Done) → IsAlike a own d f → IsAlike a own e g → IsAlike a own (cond b d e) (cond b f g)
  by_test true d e f g h k = h
  by_test false d e f g h k = k

  in_running : (b : Bool) (d e : Done) → IsAlike a own d e → IsAlike a own (if_runs b s d) (if_runs b t e)
  in_running true d e h = h
  in_running false d e h = unasked _ _ refl

  at_line : (d e : Done) → IsAlike a own d e → IsAlike a own (unless_cancelled s d) (unless_cancelled t e)
  at_line d e h = by_test (cancel_due cancels own.lines) _ d _ e (unasked _ _ refl) h

  -- a DD taken writes, whatever is decided
  decision_alike : (n dd : ℕ) (name : Option (List ℕ)) (p : SetPlan) (key : Key) (x y : Decision) →
      IsAlike a own (decided fixed n dd name p key s x) (decided fixed n dd name p key t y)
  decision_alike n dd name p key (Refuses fault) (Refuses further) = both_told _ _ refl refl refl refl
  decision_alike n dd name p key (Refuses fault) (Takes serial h) = both_told _ _ refl refl refl refl
  decision_alike n dd name p key (Takes serial h) (Refuses fault) = both_told _ _ refl refl refl refl
  decision_alike n dd name p key (Takes serial h) (Takes volume k) = both_told _ _ refl refl refl refl

  meaning_alike : (n dd : ℕ) (name : Option (List ℕ)) (p : SetPlan) (r : Resolution) →
      IsAlike a own (takes_set fixed n dd name p s r) (takes_set fixed n dd name p t r)
  meaning_alike n dd name p (Fails fault) = unasked _ _ refl
  meaning_alike n dd name p (Means key) = decision_alike n dd name p key _ _

  taking_alike : (n dd : ℕ) (name : Option (List ℕ)) (kind : DdKind) → IsAlike a own (takes fixed n dd name kind s) (takes fixed n dd name kind t)
  taking_alike n dd name (Sysout class) = unasked _ _ refl
  taking_alike n dd name Dummy = unasked _ _ refl
  taking_alike n dd name (Cards cards) = unasked _ _ refl
  taking_alike n dd name (Set p) = meaning_alike n dd name p (meaning_at fixed.meanings n dd)

  -- a PUT that asks for tracks needs the volume of its set, whether it starts there or SB37 stands in its place
  growth_alike : (b c : Bool) (name text : List ℕ) (d : ℕ) (x : DdState) (k : TakenSet) (n : ℕ) (set : DataSet) → volume_asked a own ≡ Some k.serial →
      IsAlike a own (put_grows b name text d x k n set s) (put_grows c name text d x k n set t)
  growth_alike true true name text d x k n set at = both_told _ _ refl refl refl refl
  growth_alike true false name text d x k n set at = both_told _ _ refl refl (sym at) refl
  growth_alike false true name text d x k n set at = both_told _ _ refl refl at refl
  growth_alike false false name text d x k n set at = both_told _ _ refl refl refl refl

  full_set_alike : (name text : List ℕ) (d : ℕ) (x : DdState) (k : TakenSet) (n : ℕ) (set : DataSet) → volume_asked a own ≡ Some k.serial →
      IsAlike a own (put_to_set name text d x k n set s) (put_to_set name text d x k n set t)
  full_set_alike name text d x k n set at =
      by_test (is_full set) _ _ _ _ (by_test (n == 0) _ _ _ _ (unasked _ _ refl) (growth_alike growth other name text d x k n set at)) (unasked _ _ refl)

  put_set_alike : (name text : List ℕ) (d : ℕ) (x : DdState) (p : SetPlan) (k : Option TakenSet) → volume_asked a own ≡ volume_taken k →
      IsAlike a own (puts_in name text d x p k s) (puts_in name text d x p k t)
  put_set_alike name text d x p None at = unasked _ _ refl
  put_set_alike name text d x p (Some k) at =
      full_set_alike name text d x k (secondary_of p.space) (emptied (empties p.status x.written) (or_nothing (store.set k.key k.serial))) at

  put_alike : (b : Bool) (name text : List ℕ) (d : ℕ) (x : DdState) (kind : DdKind) → volume_asked a own ≡ volume_taken x.taken →
      IsAlike a own (puts_unless b name text d x kind s) (puts_unless b name text d x kind t)
  put_alike true name text d x kind at = unasked _ _ refl
  put_alike false name text d x (Sysout class) at = unasked _ _ refl
  put_alike false name text d x Dummy at = unasked _ _ refl
  put_alike false name text d x (Cards cards) at = unasked _ _ refl
  put_alike false name text d x (Set p) at = put_set_alike name text d x p x.taken at

  -- the other requests
  get_alike : (name : List ℕ) (d : ℕ) (x : DdState) (m p : ℕ) (text serial : Option (List ℕ)) →
      IsAlike a own (gets_by name d x s m p text serial) (gets_by name d x t m p text serial)
  get_alike name d x m p None serial = unasked _ _ refl
  get_alike name d x m p (Some text) None = unasked _ _ refl
  get_alike name d x m p (Some text) (Some serial) = unasked _ _ refl

  request_alike : (x : Option DdState) (dd : Option DdPlan) (step : StepPlan) (m : Move) (d : ℕ) → volume_asked a own ≡ volume_of_dd x →
      IsAlike a own (asks_dd x dd step m d s) (asks_dd x dd step m d t)
  request_alike None dd step m d at = unasked _ _ refl
  request_alike (Some x) None step m d at = unasked _ _ refl
  request_alike (Some x) (Some dd) step (From name) d at = let f = reads step d x t in get_alike name d x f.member f.position f.text f.serial
  request_alike (Some x) (Some dd) step (To name text) d at =
      put_alike (is_read_only dd.kind || is_concatenated (drop d step.dds)) name text d x dd.kind at

  asked_alike : (d : Option ℕ) (step : StepPlan) (m : Move) → volume_asked a own ≡ volume_asked_at d own →
      IsAlike a own (asks_at d step m s) (asks_at d step m t)
  asked_alike None step m at = unasked _ _ refl
  asked_alike (Some d) step m at = request_alike (slice_get own.dds d) (slice_get step.dds d) step m d at

  result_alike : (d : Option Due) → IsAlike a own (received_due d s) (received_due d t)
  result_alike None = unasked _ _ refl
  result_alike (Some (due.Data name text)) = at_line _ _ (unasked _ _ refl)
  result_alike (Some (due.Put name d text)) = at_line _ _ (unasked _ _ refl)

  -- ends and dispositions
  end_alike : (n : ℕ) (over : Option Outcome) → IsAlike a own (finishes n over s) (finishes n over t)
  end_alike n (Some o) = unasked _ _ refl
  end_alike n None = by_test (cancel_due cancels own.lines) _ _ _ _ (unasked _ _ refl) (unasked _ _ refl)

  disposed_set_alike : (n dd : ℕ) (name : Option (List ℕ)) (p : SetPlan) (k : Option TakenSet) →
      IsAlike a own (set_disposes fixed n dd name p k s) (set_disposes fixed n dd name p k t)
  disposed_set_alike n dd name p None = unasked _ _ refl
  disposed_set_alike n dd name p (Some k) = unasked _ _ refl

  disposition_alike : (x : Option DdState) (n dd : ℕ) (name : Option (List ℕ)) (kind : DdKind) →
      IsAlike a own (disposes x fixed n dd name kind s) (disposes x fixed n dd name kind t)
  disposition_alike None n dd name kind = unasked _ _ refl
  disposition_alike (Some x) n dd name (Sysout class) = unasked _ _ refl
  disposition_alike (Some x) n dd name Dummy = unasked _ _ refl
  disposition_alike (Some x) n dd name (Cards cards) = unasked _ _ refl
  disposition_alike (Some x) n dd name (Set p) = disposed_set_alike n dd name p x.taken

  passed_alike : (n dd : ℕ) (name : Option (List ℕ)) (p : SetPlan) (q : Option Passed) →
      IsAlike a own (leaves fixed n dd name p q s) (leaves fixed n dd name p q t)
  passed_alike n dd name p None = unasked _ _ refl
  passed_alike n dd name p (Some q) = unasked _ _ refl

  left_alike : (n dd : ℕ) (name : Option (List ℕ)) (kind : DdKind) → IsAlike a own (left_at fixed n dd name kind s) (left_at fixed n dd name kind t)
  left_alike n dd name (Sysout class) = unasked _ _ refl
  left_alike n dd name Dummy = unasked _ _ refl
  left_alike n dd name (Cards cards) = unasked _ _ refl
  left_alike n dd name (Set p) = passed_alike n dd name p (passed_by own.passed n dd)

  alike_at : (b : Action) → a ≡ b → IsAlike a own (act fixed b s) (act fixed b t)
  unfolding act
  alike_at (Start n step) is = unasked _ _ refl
  alike_at (Take n dd d) is = in_running own.runs _ _ (taking_alike n dd d.name d.kind)
  alike_at (Ask step move) is =
      in_running (asks_open own) _ _ (at_line _ _ (asked_alike (dd_of step.dds (dd_name move)) step move (ap (λ (x : Action). volume_asked x own) is)))
  alike_at Receive is = in_running (asks_open own) _ _ (result_alike own.due)
  alike_at (Finish n) is = by_test own.runs _ _ _ _ (end_alike n own.over) (unasked _ _ refl)
  alike_at (Dispose n dd d) is = in_running own.runs _ _ (disposition_alike (slice_get own.dds (dd - 1)) n dd d.name d.kind)
  alike_at (Left n dd d) is = left_alike n dd d.name d.kind
  alike_at Over is = unasked _ _ refl

  pub acts_alike : IsAlike a own (act fixed a s) (act fixed a t)
  acts_alike = alike_at a refl
