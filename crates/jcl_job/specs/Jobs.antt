-- The job that a deck denotes, or its first refusal: its cards give statements, these a deck, its calls steps, and these a plan. (This profile)
use Rattle.std.specs.Prelude.{ℕ, List, Result, Ok, Err}
use Rattle.proc_library.specs.declared.library.LibraryProcedure.{LibraryProcedure}
use Rattle.card_core.specs.declared.fault.CardFault.{CardFault}
use Rattle.card_core.specs.declared.statement.Statement.{Statement}
use Rattle.card_core.specs.Deck.{statements_of}
use Rattle.card_core.specs.RefusalNumbers.{number_of}
use Rattle.jcl_plan.specs.declared.fault.Cause.{Cause}
use Rattle.jcl_plan.specs.declared.fault.Cause.TheVariants.{C}
use Rattle.jcl_plan.specs.declared.plan.JobPlan.{JobPlan}
use Rattle.jcl_deck.specs.declared.deck.Deck.{Deck}
use Rattle.jcl_deck.specs.Decks.{deck_of}
use Rattle.jcl_procs.specs.Expansions.{and_then, flat_of}
use Rattle.jcl_refs.specs.Plans.{plan_of}

abbrev pub statements_in : List (List ℕ) → Result (List Statement) Cause
statements_in lines = by (statements_of lines)
  where
    by : Result (List Statement) CardFault → Result (List Statement) Cause
    by (Err fault) = Err (C (number_of fault))
    by (Ok statements) = Ok statements

abbrev pub job_in : List (List ℕ) → List LibraryProcedure → Deck → Result JobPlan Cause
job_in units library deck = and_then (flat_of library deck) (plan_of units deck.job)

abbrev pub job_of : List (List ℕ) → List LibraryProcedure → List (List ℕ) → Result JobPlan Cause
job_of units library lines = and_then (statements_in lines) (λ statements. and_then (deck_of statements) (job_in units library))
