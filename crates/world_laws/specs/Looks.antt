-- What an action looks at of what the job does not decide itself, and what it uses up.
use Rattle.std.specs.Prelude.{◌≡◌, ℕ, ◌+◌, ◌&&◌, Bool, true, false, is_some, List, Option, if◌then◌else◌}
use Rattle.jcl_plan.specs.declared.entry.JobLine.{JobLine}
use Rattle.jcl_plan.specs.declared.fault.Fault.{Fault}
use Rattle.jcl_plan.specs.declared.outcome.Outcome.{Outcome}
use Rattle.jcl_plan.specs.declared.outcome.Outcome.TheVariants as outcome
use Rattle.jcl_plan.specs.declared.plan.StepPlan.{StepPlan}
use Rattle.jcl_meaning.specs.declared.program.Move.{Move}
use Rattle.jcl_meaning.specs.declared.state.Own.{Own}
use Rattle.jcl_meaning.specs.declared.state.Place.{Place}
use Rattle.jcl_meaning.specs.Acts.{act}
use Rattle.jcl_meaning.specs.Agendas.{Action, Ask, Dispose, Finish, Left, Over, Receive, Start, Take}
use Rattle.jcl_meaning.specs.RequestActs.{head_or}
use Rattle.jcl_meaning.specs.States.{Answers, Fixed, asks_open, cancel_due, others, with_answers_used}
use Rattle.jcl_meaning.specs.Stores.{Store}

-- a growth that is asked uses its answer up, and a step's end its own
abbrev pub grants_left : Bool → Answers → Answers
grants_left used a = if used then record a { grants = others a.grants } else a

abbrev pub answers_left : Bool → Action → Answers → Answers
answers_left used (Start n step) a = a
answers_left used (Take n dd d) a = a
answers_left used (Ask step move) a = grants_left used a
answers_left used Receive a = a
answers_left used (Finish n) a = with_answers_used a
answers_left used (Dispose n dd d) a = a
answers_left used (Left n dd d) a = a
answers_left used Over a = a

-- a cancel acts at a program's next line: at a request, at what is due, or at the end
abbrev pub looks_at_cancel : Action → Own → Bool
looks_at_cancel (Start n step) own = false
looks_at_cancel (Take n dd d) own = false
looks_at_cancel (Ask step move) own = asks_open own
looks_at_cancel Receive own = asks_open own && is_some own.due
looks_at_cancel (Finish n) own = asks_open own
looks_at_cancel (Dispose n dd d) own = false
looks_at_cancel (Left n dd d) own = false
looks_at_cancel Over own = false

abbrev pub is_request : Action → Bool
is_request (Start n step) = false
is_request (Take n dd d) = false
is_request (Ask step move) = true
is_request Receive = true
is_request (Finish n) = false
is_request (Dispose n dd d) = false
is_request (Left n dd d) = false
is_request Over = false

-- Answers that tell an action this: the primary is granted; whether a cancel acts; where a growth is asked, whether it is granted; and how
-- the step ends.
pub record Tells (action : Action) (own : Own) (used cancel growth : Bool) (end : Outcome) (a : Answers) : Type 0 where
  pub primary : a.primary ≡ true
  pub cancelled : looks_at_cancel action own ≡ true → cancel_due a.cancels own.lines ≡ cancel
  pub granted : (step : StepPlan) (move : Move) → action ≡ Ask step move → used ≡ true → head_or true a.grants ≡ growth
  pub ended : (n : ℕ) → action ≡ Finish n → head_or (outcome.Code 0) a.outcomes ≡ end

-- a request that looks at a cancel writes a program line, or ends the program; another one changes nothing of the job
pub record IsCounted (looks cancel : Bool) (own left : Own) : Type 0 where
  pub unchanged : looks ≡ false → left ≡ own
  pub ended : looks ≡ true → cancel ≡ true → asks_open left ≡ false
  pub more : looks ≡ true → cancel ≡ false → left.lines ≡ own.lines + 1

-- What an action does is the same for all answers that tell the same. Whether it asks a growth is told first.
pub record Looks (fixed : Fixed) (action : Action) (store : Store) (own : Own) (cancel growth : Bool) (end : Outcome) : Type 0 where
  pub used : Bool
  pub lines : List JobLine
  pub left_store : Store
  pub left_own : Own
  pub meets : Option Fault
  pub made : List Place
  pub counted : is_request action ≡ true → IsCounted (looks_at_cancel action own) cancel own left_own
  pub does : (a : Answers) → Tells action own used cancel growth end a → act fixed action (record { store = store; own = own; answers = a })
      ≡ record { lines = lines; state = record { store = left_store; own = left_own; answers = answers_left used action a }; meets = meets; made = made }

abbrev pub ActLooks : Type 0
ActLooks = (fixed : Fixed) (action : Action) (store : Store) (own : Own) (cancel growth : Bool) (end : Outcome) → Looks fixed action store own cancel growth end
