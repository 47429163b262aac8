-- A deck that is cut: the statement with which a refusal of its calls or of its plan comes is found by what is refused without the statements behind it.
use Rattle.std.specs.Prelude.{◌≡◌, ◌⊎◌, ◌<◌, ℕ, ◌+◌, ◌-◌, Bool, true, false, ◌||◌, ◌==◌, nat_lt, List, [], ◌∷◌, length, is_err, Result, Ok, Err}
use Rattle.card_core.specs.declared.statement.Statement.{Statement}
use Rattle.jcl_deck.specs.declared.deck.Deck.{Deck}
use Rattle.jcl_deck.specs.declared.operation.Operation.{Operation}
use Rattle.jcl_deck.specs.declared.operation.Operation.TheVariants.{IsDd, IsExec, IsJob, IsOther, IsPend, IsProc}
use Rattle.jcl_deck.specs.Decks.{deck_of, operation_of}
use Rattle.jcl_plan.specs.declared.fault.Cause.{Cause}
use Rattle.jcl_plan.specs.declared.fault.Cause.TheVariants as cause
use Rattle.jcl_plan.specs.declared.fault.StatementFault.{StatementFault}
use Rattle.jcl_plan.specs.declared.fault.StatementFault.TheVariants.{TooManyNames, TooManySteps, UnknownUnit}
use Rattle.jcl_plan.specs.declared.plan.JobPlan.{JobPlan}
use Rattle.jcl_procs.specs.declared.step.FlatStep.{FlatStep}
use Rattle.jcl_procs.specs.Expansions.{flat_of}
use Rattle.jcl_refs.specs.Plans.{plan_of}
use Rattle.proc_library.specs.declared.library.LibraryProcedure.{LibraryProcedure}
use Rattle.deck_places.specs.declared.part.Part.{Part}
use Rattle.deck_places.specs.declared.part.Part.TheVariants.{Calls, Plan}

-- inside a procedure: from its PROC statement to its PEND statement
abbrev pub inside_by : Operation → Bool → Bool
inside_by IsProc inside = true
inside_by IsPend inside = false
inside_by IsJob inside = inside
inside_by IsExec inside = inside
inside_by IsDd inside = inside
inside_by IsOther inside = inside

abbrev pub inside_behind : Statement → Bool → Bool
inside_behind s inside = inside_by (operation_of s.operation) inside

-- the first of a deck's statements, and of those behind them the procedures: what a call finds stays
abbrev pub keeps : Bool → Statement → List Statement → List Statement
keeps true s statements = s ∷ statements
keeps false s statements = statements

abbrev pub cut_from : Bool → ℕ → List Statement → List Statement
cut_from inside count [] = []
cut_from inside count (s ∷ statements) =
    keeps (nat_lt 0 count || inside || inside_behind s inside) s (cut_from (inside_behind s inside) (count - 1) statements)

abbrev pub cut : ℕ → List Statement → List Statement
cut count statements = cut_from false count statements

-- the parts of a plan, each of which is looked at when those before it are not refused: how many steps there are; their tests and DDs; names; units
abbrev pub plan_part_by : StatementFault → ℕ
plan_part_by TooManySteps = 1
plan_part_by TooManyNames = 3
plan_part_by UnknownUnit = 4
plan_part_by other = 2

abbrev pub plan_part : Cause → ℕ
plan_part (cause.P fault) = plan_part_by fault
plan_part other = 2

abbrev pub is_refused_in : ℕ → Result JobPlan Cause → Bool
is_refused_in part (Ok plan) = false
is_refused_in part (Err fault) = plan_part fault == part

abbrev pub by_deck : Result Deck Cause → (Deck → Bool) → Bool
by_deck (Err fault) refuses = false
by_deck (Ok deck) refuses = refuses deck

abbrev pub by_steps : Result (List FlatStep) Cause → (List FlatStep → Bool) → Bool
by_steps (Err fault) refuses = false
by_steps (Ok steps) refuses = refuses steps

-- whether a deck is refused by its calls, or by a part of its plan
abbrev pub refuses_deck : Part → List (List ℕ) → List LibraryProcedure → Deck → Bool
refuses_deck Calls units library deck = is_err (flat_of library deck)
refuses_deck (Plan part) units library deck = by_steps (flat_of library deck) (λ steps. is_refused_in part (plan_of units deck.job steps))

-- the same of the deck that statements are, if they are one
abbrev pub refuses : Part → List (List ℕ) → List LibraryProcedure → List Statement → Bool
refuses part units library statements = by_deck (deck_of statements) (refuses_deck part units library)

-- the deck that is cut behind this statement is refused so; and cut before it, it is not, unless it is the first
pub record BringsRefusal (part : Part) (units : List (List ℕ)) (library : List LibraryProcedure) (statements : List Statement) (k : ℕ) : Type 0 where
  pub there : k < length statements
  pub before : (k ≡ 0) ⊎ (refuses part units library (cut k statements) ≡ false)
  pub behind : refuses part units library (cut (k + 1) statements) ≡ true
