-- The statements of a procedure as they are read at a call, part by part.
use Rattle.std.specs.Prelude.{◌≡◌, ◌≤◌, ℕ, ◌+◌, List, length, Option, None, Some, Err}
use Rattle.card_core.specs.declared.statement.Statement.{Statement}
use Rattle.jcl_plan.specs.declared.fault.Cause.{Cause}
use Rattle.jcl_plan.specs.declared.fault.Cause.TheVariants.{P}
use Rattle.jcl_plan.specs.declared.fault.StatementFault.TheVariants.{NoStep}
use Rattle.jcl_procs.specs.Calls.{Call, steps_of}
use Rattle.deck_places.specs.Called.{IsFirstRefused, IsRefusedTo}
use Rattle.deck_places.specs.Short.{StandFor}
use Rattle.deck_places.specs.declared.called.Refusal.{Refusal}
use Rattle.deck_places.specs.declared.called.Tried.{Tried}
use Rattle.deck_places.specs.declared.called.Tried.TheVariants.{Refused, Taken}

-- want of a step is told at their end alone, and so of no statement
abbrev pub WantsStep : Cause → Type 0
WantsStep cause = P NoStep ≡ cause

-- they are taken so far, and others stand for them; or they are refused
abbrev pub AreTried : Call → List Statement → Tried → Type 0
AreTried call statements (Taken short) =
    ((cause : Cause) → steps_of call statements ≡ Err cause → WantsStep cause) × StandFor call short.items statements
AreTried call statements (Refused cause) = (steps_of call statements ≡ Err cause) × (WantsStep cause → ⊥)

-- the first of them with which they are refused, and for what, or none
abbrev pub IsRefusal : Call → List Statement → Option Refusal → Type 0
IsRefusal call statements (Some refusal) = IsFirstRefused call statements refusal.cause refusal.statement × (WantsStep refusal.cause → ⊥)
IsRefusal call statements None = (cause : Cause) → steps_of call statements ≡ Err cause → WantsStep cause

-- with so many they are refused for this, or none was found with which they are
abbrev pub IsHigh : Call → List Statement → ℕ → Option Cause → Type 0
IsHigh call statements high None = high ≡ length statements + 1
IsHigh call statements high (Some cause) = (high ≤ length statements) × IsRefusedTo call statements cause high × (WantsStep cause → ⊥)
