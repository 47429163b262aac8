-- Of all actions of a job only a request tells SB37, and then alone.
use Rattle.std.proofs.Common.{◌≡◌, ◌-◌, ℕ, Bool, true, false, cond, List, [], ◌∷◌, Option, Some, None, refl, ap, ◌∙◌}
use Rattle.std.specs.Prelude.{◌||◌, drop, slice_get}
use Rattle.std.specs.List.{list_any}
use Rattle.jcl_plan.specs.declared.entry.JobLine.TheVariants as line
use Rattle.jcl_plan.specs.declared.outcome.Abend.TheVariants.{SB37}
use Rattle.jcl_plan.specs.declared.outcome.Outcome.{Outcome}
use Rattle.jcl_plan.specs.declared.outcome.Outcome.TheVariants as outcome
use Rattle.jcl_plan.specs.declared.plan.DdKind.{DdKind}
use Rattle.jcl_plan.specs.declared.plan.DdKind.TheVariants.{Sysout, Dummy, Cards, Set}
use Rattle.jcl_plan.specs.declared.plan.JobPlan.{JobPlan}
use Rattle.jcl_plan.specs.declared.plan.SetPlan.{SetPlan}
use Rattle.jcl_plan.specs.declared.plan.StepPlan.{StepPlan}
use Rattle.jcl_meaning.specs.declared.program.Move.{Move}
use Rattle.jcl_meaning.specs.declared.program.Request.{Request}
use Rattle.jcl_meaning.specs.declared.program.Request.TheVariants.{Get, Put, End, Abend}
use Rattle.jcl_meaning.specs.declared.program.SoloProgram.{SoloProgram}
use Rattle.jcl_meaning.specs.declared.state.DdState.{DdState}
use Rattle.jcl_meaning.specs.declared.state.Due.{Due}
use Rattle.jcl_meaning.specs.declared.state.Due.TheVariants as due
use Rattle.jcl_meaning.specs.declared.state.Own.{Own}
use Rattle.jcl_meaning.specs.declared.state.Passed.{Passed}
use Rattle.jcl_meaning.specs.declared.state.TakenSet.{TakenSet}
use Rattle.jcl_meaning.specs.Acts.{act}
use Rattle.jcl_meaning.specs.Agendas.{Action, Start, Take, Ask, Receive, Finish, Dispose, Left, Over, agenda}
use Rattle.jcl_meaning.specs.EndActs.{as_ending, disposes, disposes_at, end_line, finishes, leaves, left_at, passed_by, set_disposes}
use Rattle.jcl_meaning.specs.Programs.{dd_of, ending_by, ending_in, ending_of, is_iefbr14, program_of}
use Rattle.jcl_meaning.specs.RequestActs.{dd_name, head_or, received_due, received_now}
use Rattle.jcl_meaning.specs.States.{Answers, Done, Fixed, State, asks_open, cancel_due}
use Rattle.world_meaning.specs.Lenses.{seen}
use Rattle.world_meaning.specs.Turns.{Advanced, advanced, answers_due, end_of, granting, outcomes_due, state_in}
use Rattle.world_meaning.specs.Worlds.{Admission, Config, Shared}
use Rattle.machine_laws.proofs.ActionFacts.{Did, advance_did}
use Rattle.machine_laws.proofs.RefusedLines.{Tells, alone, ask_at, at_line, chosen, is_sb37, quiet, running, take}

-- how a program ends by itself is no SB37: by a code, a user's ABEND or S806
abbrev IsOtherEnd : Outcome → Type 0
IsOtherEnd o = is_sb37 (end_line (as_ending o)) ≡ false

requests_end : (requests : List Request) → IsOtherEnd (ending_in requests)
requests_end [] = refl
requests_end (Get dd ∷ requests) = requests_end requests
requests_end (Put dd text ∷ requests) = requests_end requests
requests_end (End code ∷ requests) = refl
requests_end (Abend code ∷ requests) = refl

found_end : (requests : Option (List Request)) → IsOtherEnd (ending_by requests)
found_end None = refl
found_end (Some requests) = requests_end requests

program_end : (programs : List SoloProgram) (name : List ℕ) → IsOtherEnd (ending_of programs name)
program_end programs name = by (is_iefbr14 name) (ending_by (program_of programs name)) (found_end (program_of programs name))
  where
    by : (b : Bool) (o : Outcome) → IsOtherEnd o → IsOtherEnd (cond b (outcome.Code 0) o)
    by true o p = refl
    by false o p = p

step_end : (programs : List SoloProgram) (step : Option StepPlan) → IsOtherEnd (head_or (outcome.Code 0) (end_of programs step))
step_end programs None = refl
step_end programs (Some step) = program_end programs step.program

due_end : (programs : List SoloProgram) (steps : List StepPlan) (a : Action) → IsOtherEnd (head_or (outcome.Code 0) (outcomes_due programs steps a))
due_end programs steps (Start n step) = refl
due_end programs steps (Take n dd d) = refl
due_end programs steps (Ask step m) = refl
due_end programs steps Receive = refl
due_end programs steps (Finish n) = step_end programs (slice_get steps (n - 1))
due_end programs steps (Dispose n dd d) = refl
due_end programs steps (Left n dd d) = refl
due_end programs steps Over = refl

abbrev asks : Action → Bool
asks (Ask step m) = true
asks other = false

-- results, ends and dispositions
module _ (s : State) where
  receipt : (d : Due) → Tells false (received_now d s)
  receipt (due.Data name text) = quiet refl
  receipt (due.Put name d text) = quiet refl

  receive : (d : Option Due) → Tells false (received_due d s)
  receive None = quiet refl
  receive (Some d) = at_line false s _ (receipt d)

  finish : (n : ℕ) (o : Option Outcome) → IsOtherEnd (head_or (outcome.Code 0) s.answers.outcomes) → Tells false (finishes n o s)
  finish n (Some o) ends = quiet refl
  finish n None ends = chosen false s (cancel_due s.answers.cancels s.own.lines) _ _ (quiet refl) (quiet (ap (λ b. b || false) ends))

  dispose_set : (fixed : Fixed) (n dd : ℕ) (name : Option (List ℕ)) (p : SetPlan) (t : Option TakenSet) → Tells false (set_disposes fixed n dd name p t s)
  dispose_set fixed n dd name p None = quiet refl
  dispose_set fixed n dd name p (Some t) = quiet refl

  dispose_at : (fixed : Fixed) (n dd : ℕ) (name : Option (List ℕ)) (kind : DdKind) (x : DdState) → Tells false (disposes_at fixed n dd name kind x s)
  dispose_at fixed n dd name (Sysout class) x = quiet refl
  dispose_at fixed n dd name Dummy x = quiet refl
  dispose_at fixed n dd name (Cards cards) x = quiet refl
  dispose_at fixed n dd name (Set p) x = dispose_set fixed n dd name p x.taken

  dispose : (x : Option DdState) (fixed : Fixed) (n dd : ℕ) (name : Option (List ℕ)) (kind : DdKind) → Tells false (disposes x fixed n dd name kind s)
  dispose None fixed n dd name kind = quiet refl
  dispose (Some x) fixed n dd name kind = dispose_at fixed n dd name kind x

  leave : (fixed : Fixed) (n dd : ℕ) (name : Option (List ℕ)) (p : SetPlan) (q : Option Passed) → Tells false (leaves fixed n dd name p q s)
  leave fixed n dd name p None = quiet refl
  leave fixed n dd name p (Some q) = quiet refl

  left : (fixed : Fixed) (n dd : ℕ) (name : Option (List ℕ)) (kind : DdKind) → Tells false (left_at fixed n dd name kind s)
  left fixed n dd name (Sysout class) = quiet refl
  left fixed n dd name Dummy = quiet refl
  left fixed n dd name (Cards cards) = quiet refl
  left fixed n dd name (Set p) = leave fixed n dd name p (passed_by s.own.passed n dd)

  act_tells : (fixed : Fixed) (a : Action) → IsOtherEnd (head_or (outcome.Code 0) s.answers.outcomes) → Tells (asks a) (act fixed a s)
  unfolding act
  act_tells fixed (Start n step) ends = quiet refl
  act_tells fixed (Take n dd d) ends = running false s s.own.runs _ (take s fixed n dd d.name d.kind)
  act_tells fixed (Ask step m) ends = running true s (asks_open s.own) _ (at_line true s _ (ask_at s (dd_of step.dds (dd_name m)) step m))
  act_tells fixed Receive ends = running false s (asks_open s.own) _ (receive s.own.due)
  act_tells fixed (Finish n) ends = chosen false s s.own.runs _ _ (finish n s.own.over ends) (quiet refl)
  act_tells fixed (Dispose n dd d) ends = running false s s.own.runs _ (dispose (slice_get s.own.dds (dd - 1)) fixed n dd d.name d.kind)
  act_tells fixed (Left n dd d) ends = left fixed n dd d.name d.kind
  act_tells fixed Over ends = quiet refl

-- the action that a turn comes to tells none, or is a request with SB37 alone
pub data Asks (x : Advanced) : Type 0 where
  none : list_any is_sb37 x.done.lines ≡ false → Asks x
  one : (step : StepPlan) (move : Move) → x.action ≡ Ask step move → x.done.lines ≡ line.Abend SB37 ∷ [] → Asks x

request_of : (a : Action) → asks a ≡ true → (step : StepPlan) × (move : Move) × (a ≡ Ask step move)
request_of (Start n step) h = absurd cc
request_of (Take n dd d) h = absurd cc
request_of (Ask step m) h = (step, m, refl)
request_of Receive h = absurd cc
request_of (Finish n) h = absurd cc
request_of (Dispose n dd d) h = absurd cc
request_of (Left n dd d) h = absurd cc
request_of Over h = absurd cc

pub turn_asks : (c : Config) (s : Shared) (job : ℕ) (plan : JobPlan) (a : Admission) (count : ℕ) (own : Own) (growth primary : Bool) (x : Advanced) →
    advanced c s job plan a count own growth primary ≡ Some x → Asks x
turn_asks c s job plan a count own growth primary x e = by (act_tells x.before a.fixed x.action ends)
  where
    d : Did (answers_due c.programs plan.steps (granting s job growth primary)) a.fixed x
    d =
        advance_did (answers_due c.programs plan.steps (granting s job growth primary)) a.fixed (drop count (agenda plan c.programs))
        (state_in (seen job s.store) own) count x e

    ends : IsOtherEnd (head_or (outcome.Code 0) x.before.answers.outcomes)
    ends = ap (λ (z : Answers). is_sb37 (end_line (as_ending (head_or (outcome.Code 0) z.outcomes)))) d.answers_so ∙ due_end c.programs plan.steps x.action

    by : Tells (asks x.action) (act a.fixed x.action x.before) → Asks x
    by (quiet h) = none (ap (λ (z : Done). list_any is_sb37 z.lines) d.done ∙ h)
    by (alone is h) = let r = request_of x.action is in one r.0 r.1 r.2 (ap (λ (z : Done). z.lines) d.done ∙ h)
