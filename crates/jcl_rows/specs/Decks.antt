-- Decks, DDs behind a call, and what references mean: `deck_of`, `override_dds` and the readers of references answer these definitions. (jcl_deck,
-- jcl_procs, jcl_refs)
use Rattle.std.specs.Prelude.{◌≡◌, ℕ, ◌++◌, ◌∷◌, [], List, length, map, codes, Option, Some, None, Result, Ok, Err}
use Prim.Native.String.{String}
use Rattle.std.specs.List.{flat_map}
use Rattle.jcl_plan.specs.declared.fault.Cause.{Cause}
use Rattle.jcl_plan.specs.declared.fault.Cause.TheVariants.{P}
use Rattle.jcl_plan.specs.declared.fault.StatementFault.TheVariants.{DdBeforeExec, ExcludeOneAnother, ForwardReference, MissingPend, NoStep, NoSuchProcedureStep, NotOneJob, NothingToContinue, OverrideOutOfOrder, ReferenceToNothing, TooManyProcedures, UnknownOperation}
use Rattle.list_values.specs.Conditions.{no_condition}
use Rattle.value_core.specs.declared.reference.DdReference.TheVariants as dd
use Rattle.value_core.specs.declared.reference.StepReference.TheVariants as step
use Rattle.jcl_deck.specs.declared.deck.Deck.{Deck}
use Rattle.jcl_deck.specs.declared.deck.DeckStep.{DeckStep}
use Rattle.jcl_deck.specs.Decks.{deck_of}
use Rattle.jcl_procs.specs.declared.step.FlatStep.{FlatStep}
use Rattle.jcl_procs.specs.Expansions.{and_then}
use Rattle.jcl_procs.specs.Overrides.{dds_overridden}
use Rattle.jcl_refs.specs.Targets.{earlier_step, target_of}
use Rattle.jcl_job.specs.Jobs.{statements_in}
use Rattle.jcl_rows.specs.Jobs.{cards, times}

abbrev pub deck_in : List (List ℕ) → Result Deck Cause
deck_in lines = and_then (statements_in lines) deck_of

-- what is compared of a deck
pub record ProcedureCounts : Type 0 where
  pub name : List ℕ
  pub symbols : ℕ
  pub statements : ℕ

pub record DeckCounts : Type 0 where
  pub job : List ℕ
  pub procedures : List ProcedureCounts
  pub dds : List ℕ

abbrev pub deck : List (List ℕ) → Result DeckCounts Cause
deck lines = and_then (deck_in lines) (λ d. Ok (record {
  job = d.job.name;
  procedures = map (λ p. record { name = p.name; symbols = length p.symbols; statements = length p.statements }) d.procedures;
  dds = map (λ step. length step.dds) d.steps;
}))

-- two steps, which a call brought, or none
abbrev pub two_steps : List (List ℕ)
two_steps = cards "//J JOB\n//A EXEC PGM=X\n//IN DD DSN=A\n// DD DSN=B\n//OUT DD SYSOUT=A\n//B EXEC PGM=X\n//IN DD DUMMY"

abbrev pub flat : Option ℕ → DeckStep → FlatStep
flat call s = record { name = s.exec.name; procedure_step = s.exec.name; call = call; program = codes "X"; condition = no_condition; dds = s.dds }

abbrev pub steps_in_deck : Result Deck Cause → List DeckStep
steps_in_deck (Ok d) = d.steps
steps_in_deck (Err cause) = []

abbrev pub steps_of : Option ℕ → List FlatStep
steps_of call = map (flat call) (steps_in_deck (deck_in two_steps))

-- how many DDs each step has with these overrides
abbrev pub overridden : String → Result (List ℕ) Cause
overridden dds = and_then (dds_overridden (steps_of (Some 1)) (flat_map (λ s. s.dds) (steps_in_deck (deck_in (cards "//J JOB\n//C EXEC P" ++ cards dds)))))
    (λ steps. Ok (map (λ s. length s.dds) steps))

-- Decks: `read_deck` answers this of a deck's statements; here the job's name, how many symbols and statements each procedure has, and how many DDs each step.
pub record ReadsDecks : Type 0 where
  pub whole : deck (cards "//J JOB 1\n//P PROC A=B\n//S EXEC PGM=&A\n//O DD SYSOUT=A\n// PEND\n//JOBLIB DD DSN=L\n// DD DSN=M\n//ONE EXEC P\n//D DD DUMMY\n// DD DUMMY\n//TWO EXEC PGM=X")
      ≡ Ok (record { job = codes "J"; procedures = record { name = codes "P"; symbols = 1; statements = 2 } ∷ []; dds = 2 ∷ 0 ∷ [] })
  pub no_job : deck (cards "//S EXEC PGM=X") ≡ Err (P NotOneJob)
  pub second_job : deck (cards "//J JOB\n//S EXEC PGM=X\n//K JOB") ≡ Err (P NotOneJob)
  pub second_job_in_a_procedure : deck (cards "//J JOB\n//P PROC\n//K JOB") ≡ Err (P NotOneJob)
  pub no_step : deck (cards "//J JOB") ≡ Err (P NoStep)
  pub unknown_operation : deck (cards "//J JOB\n//S XX") ≡ Err (P UnknownOperation)
  pub pend_of_nothing : deck (cards "//J JOB\n//S PEND") ≡ Err (P UnknownOperation)
  pub unknown_operation_in_a_procedure : deck (cards "//J JOB\n//P PROC\n//S XX") ≡ Err (P UnknownOperation)
  pub dd_before_exec : deck (cards "//J JOB\n//D DD DUMMY") ≡ Err (P DdBeforeExec)
  pub unnamed_dd_before_exec : deck (cards "//J JOB\n// DD DUMMY") ≡ Err (P DdBeforeExec)
  pub nothing_to_continue : deck (cards "//J JOB\n//S EXEC PGM=X\n// DD DUMMY") ≡ Err (P NothingToContinue)
  pub procedure_within : deck (cards "//J JOB\n//P PROC\n//Q PROC") ≡ Err (P MissingPend)
  pub missing_pend : deck (cards "//J JOB\n//S EXEC PGM=X\n//P PROC") ≡ Err (P MissingPend)
  pub procedures_15 : deck (cards "//J JOB" ++ times 15 (cards "//P PROC\n// PEND")) ≡ Err (P NoStep)
  pub procedures_16 : deck (cards "//J JOB" ++ times 16 (cards "//P PROC\n// PEND")) ≡ Err (P TooManyProcedures)

-- DDs behind a call: `override_dds` gives these steps; here how many DDs each has.
pub record OverridesDds : Type 0 where
  pub two_qualified : overridden "//A.OUT DD SYSOUT=B\n//B.IN DD SYSOUT=C" ≡ Ok (3 ∷ 1 ∷ [])
  pub unqualified : overridden "//OUT DD SYSOUT=B" ≡ Ok (3 ∷ 1 ∷ [])
  pub added : overridden "//A.NEW DD DUMMY\n//B.NEW DD DUMMY\n// DD DUMMY" ≡ Ok (4 ∷ 3 ∷ [])
  pub concatenation : overridden "//A.IN DD DSN=C\n// DD DSN=D\n// DD DSN=E" ≡ Ok (4 ∷ 1 ∷ [])
  pub out_of_order : overridden "//B.IN DD DUMMY\n//A.IN DD DUMMY" ≡ Err (P OverrideOutOfOrder)
  pub no_such_step : overridden "//Z.IN DD DUMMY" ≡ Err (P NoSuchProcedureStep)
  pub status_of_a_class : overridden "//A.OUT DD DISP=OLD" ≡ Err (P ExcludeOneAnother)

-- The earlier step that a test means: `earlier_step` gives this.
pub record FindsSteps : Type 0 where
  pub earlier : earlier_step None (step.Step (codes "A")) 2 (steps_of None) ≡ Some 1
  pub itself : earlier_step None (step.Step (codes "A")) 1 (steps_of None) ≡ None
  pub later : earlier_step None (step.Step (codes "B")) 2 (steps_of None) ≡ None

-- The earlier DD that a reference means: `target_of` gives this.
pub record FindsDds : Type 0 where
  pub of_an_earlier_step : target_of None 2 1 (steps_of None) (dd.OfStep (codes "A") (codes "OUT")) ≡ Ok (record { step = 1; dd = 3 })
  pub of_the_same_step : target_of None 1 2 (steps_of None) (dd.Dd (codes "IN")) ≡ Ok (record { step = 1; dd = 1 })
  pub later_in_the_step : target_of None 1 1 (steps_of None) (dd.Dd (codes "OUT")) ≡ Err (P ForwardReference)
  pub of_a_later_step : target_of None 1 1 (steps_of None) (dd.OfStep (codes "B") (codes "IN")) ≡ Err (P ForwardReference)
  pub none_in_the_step : target_of None 2 1 (steps_of None) (dd.Dd (codes "OUT")) ≡ Err (P ReferenceToNothing)
  pub none_of_a_step : target_of None 2 1 (steps_of None) (dd.OfStep (codes "B") (codes "OUT")) ≡ Err (P ReferenceToNothing)
