-- Which of a statement's faults is told.
use Rattle.std.specs.Prelude.{ℕ, ◌+◌, ◌==◌, Bool, nat_lt, List, [], ◌∷◌, ◌++◌, length, Option, Some, None, Result, Ok, Err, if◌then◌else◌}
use Rattle.jcl_plan.specs.declared.fault.Cause.{Cause}
use Rattle.jcl_plan.specs.declared.fault.Cause.TheVariants.{C, N, P, Q, B, A}
use Rattle.jcl_plan.specs.declared.fault.StatementFault.TheVariants.{OperandTooLong}
use Rattle.jcl_plan.specs.RefusalNumbers as refusal
use Rattle.jname_core.specs.declared.fault.NameFault.{NameFault}
use Rattle.jname_core.specs.Faults.{name8_fault}
use Rattle.jname_core.specs.RefusalNumbers.{number_of}

-- names before statements, then the lowest number; numbers are below 256
abbrev pub rank : Cause → ℕ
rank (C n) = n
rank (N n) = 256 + n
rank (P fault) = 512 + refusal.number_of fault
rank (Q fault) = 768 + refusal.queue_number fault
rank (B n) = 1024 + n
rank (A fault) = 1280 + refusal.event_number fault

abbrev pub lower : Cause → Cause → Cause
lower a b = if nat_lt (rank b) (rank a) then b else a

-- of two faults, either of which may be absent
abbrev pub earlier : Option Cause → Option Cause → Option Cause
earlier None other = other
earlier (Some a) None = Some a
earlier (Some a) (Some b) = Some (lower a b)

-- the fault that is told of all that a statement has
abbrev pub told : List Cause → Option Cause
told [] = None
told (fault ∷ faults) = earlier (Some fault) (told faults)

abbrev pub when : Bool → Cause → List Cause
when holds fault = if holds then fault ∷ [] else []

abbrev pub as_cause : Option NameFault → List Cause
as_cause None = []
as_cause (Some fault) = N (number_of fault) ∷ []

-- a text that has to be a name of at most eight characters
abbrev pub name_faults : List ℕ → List Cause
name_faults text = as_cause (name8_fault text)

-- a name that may be absent
abbrev pub written_name_faults : List ℕ → List Cause
written_name_faults name = if length name == 0 then [] else name_faults name

-- an operand that is too long stops the reading: of the other faults those of the name stay
abbrev pub long_faults : List Cause → List Cause
long_faults names = names ++ P OperandTooLong ∷ []

-- a card, where no fault is told
abbrev pub or_fault : {X : Type 0} → Option Cause → X → Result X Cause
or_fault None card = Ok card
or_fault (Some fault) card = Err fault

abbrev pub read_name_faults : Option (List ℕ) → List Cause
read_name_faults None = []
read_name_faults (Some value) = name_faults value

-- a name, or none where the field is empty
abbrev pub written_name : List ℕ → Option (List ℕ)
written_name [] = None
written_name (c ∷ cs) = Some (c ∷ cs)
