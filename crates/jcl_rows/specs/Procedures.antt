-- Procedures of the library, the conditions that a call leaves their steps, and decks with their steps: `ProcLibrary`'s calls, `override_conditions`
-- and `expand` answer these definitions. (proc_library, jcl_procs)
use Rattle.std.specs.Prelude.{◌≡◌, ℕ, ◌∷◌, [], Bool, true, false, List, length, map, codes, Option, Some, None, Result, Ok, Err, is_some}
use Rattle.jcl_plan.specs.declared.fault.Cause.{Cause}
use Rattle.jcl_plan.specs.declared.fault.Cause.TheVariants.{C, P}
use Rattle.jcl_plan.specs.declared.fault.StatementFault.TheVariants.{NoSuchProcedure, NoSuchProcedureStep}
use Rattle.jcl_plan.specs.declared.plan.AfterAbend.{AfterAbend}
use Rattle.jcl_plan.specs.declared.plan.AfterAbend.TheVariants.{Even, Only, Unsaid}
use Rattle.proc_library.specs.declared.library.LibraryProcedure.{LibraryProcedure}
use Rattle.proc_library.specs.Libraries.{has_procedure, in_library}
use Rattle.list_values.specs.Conditions.{no_condition}
use Rattle.jcl_cards.specs.ExecCards.{exec_card}
use Rattle.jcl_procs.specs.declared.step.FlatStep.{FlatStep}
use Rattle.jcl_procs.specs.Examples.{steps_in}
use Rattle.jcl_procs.specs.Expansions.{and_then}
use Rattle.jcl_procs.specs.Overrides.{conditions_overridden}
use Rattle.jcl_rows.specs.Jobs.{cards, procedure}

-- three procedures of a library
abbrev pub three : List LibraryProcedure
three = procedure (codes "B") "one" ∷ procedure (codes "A") "one\ntwo" ∷ procedure (codes "C") "" ∷ []

abbrev pub lines_of : Option LibraryProcedure → Option ℕ
lines_of None = None
lines_of (Some p) = Some (length p.lines)

-- a step of a procedure
abbrev pub step_of : List ℕ → FlatStep
step_of name = record { name = None; procedure_step = Some name; call = Some 1; program = codes "X"; condition = no_condition; dds = [] }

abbrev pub is_even : AfterAbend → Bool
is_even Even = true
is_even Only = false
is_even Unsaid = false

-- how many tests each step has, and whether EVEN
abbrev pub conditions_of : List ℕ → Result (List (ℕ × Bool)) Cause
conditions_of operand = and_then (conditions_overridden (step_of (codes "A") ∷ step_of (codes "B") ∷ []) (exec_card (codes "S") operand).value)
    (λ steps. Ok (map (λ step. (length step.condition.tests.items, is_even step.condition.after_abend)) steps))

-- with one procedure in the library, whose card is continued by none
abbrev pub expanded : List (List ℕ) → Result (List (Bool × ℕ)) Cause
expanded lines = and_then (steps_in (procedure (codes "BAD") "//S EXEC PGM=X," ∷ []) lines)
    (λ steps. Ok (map (λ step. (is_some step.call, length step.dds)) steps))

-- `ProcLibrary::find` gives this procedure; here the number of its lines.
pub record FindsProcedures : Type 0 where
  pub first : lines_of (in_library three (codes "A")) ≡ Some 2
  pub second : lines_of (in_library three (codes "B")) ≡ Some 1
  pub of_an_empty_line : lines_of (in_library three (codes "C")) ≡ Some 1
  pub none : lines_of (in_library three (codes "D")) ≡ None

-- `ProcLibrary::has` gives this.
pub record HasProcedures : Type 0 where
  pub first : has_procedure three (codes "A") ≡ true
  pub second : has_procedure three (codes "B") ≡ true
  pub of_an_empty_line : has_procedure three (codes "C") ≡ true
  pub none : has_procedure three (codes "D") ≡ false

-- COND of a call, for the steps A and B of its procedure: `override_conditions` gives these steps; here how many tests each has, and whether EVEN.
pub record OverridesConditions : Type 0 where
  pub nothing : conditions_of (codes "P") ≡ Ok ((0, false) ∷ (0, false) ∷ [])
  pub all_steps : conditions_of (codes "P,COND=(4,LT)") ≡ Ok ((1, false) ∷ (1, false) ∷ [])
  pub one_step : conditions_of (codes "P,COND.B=EVEN") ≡ Ok ((0, false) ∷ (0, true) ∷ [])
  pub one_step_and_all : conditions_of (codes "P,COND.A=EVEN,COND=((4,LT),(8,EQ))") ≡ Ok ((0, true) ∷ (2, false) ∷ [])
  pub no_such_step : conditions_of (codes "P,PARM.C=X") ≡ Err (P NoSuchProcedureStep)

-- The steps of a deck: `expand` gives them; here whether a call brought each, and how many DDs it has.
pub record ExpandsDecks : Type 0 where
  pub without_a_call : expanded (cards "//J JOB\n//A EXEC PGM=X,COND=EVEN\n//D DD DUMMY\n//E DD DUMMY\n//B EXEC PGM=Y") ≡ Ok ((false, 2) ∷ (false, 0) ∷ [])
  pub no_such_procedure : expanded (cards "//J JOB\n//A EXEC P") ≡ Err (P NoSuchProcedure)
  pub faults_of_its_cards : expanded (cards "//J JOB\n//A EXEC BAD") ≡ Err (C 3)
  pub override_of_a_program : expanded (cards "//J JOB\n//A EXEC PGM=X\n//B.D DD DUMMY") ≡ Err (P NoSuchProcedureStep)
