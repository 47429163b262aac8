-- A value as it is read: what it means, and its faults. Where it has a fault it means nothing. Want of a place is no fault here: a value that
-- is not coded is not read.
use Rattle.std.specs.Prelude.{◌≡◌, ℕ, List, [], ◌∷◌, ◌++◌, Option, Some, None, Result, Ok, Err, map}
use Rattle.std.specs.List.{flat_map}
use Rattle.jcl_plan.specs.declared.fault.Cause.{Cause}
use Rattle.operand_core.specs.Faults.{lower, name_faults, or_fault, told}
use Rattle.value_core.specs.declared.refusal.ReadError.{ReadError}
use Rattle.value_core.specs.declared.refusal.ReadError.TheVariants.{Refused, Memory}

pub record Read (A : Type 0) : Type 0 where
  pub value : A
  pub faults : List Cause

abbrev pub good : {A : Type 0} → A → Read A
good value = record { value = value; faults = [] }

abbrev pub bad : {A : Type 0} → A → Cause → Read A
bad value fault = record { value = value; faults = fault ∷ [] }

-- with more faults
abbrev pub and_faults : {A : Type 0} → Read A → List Cause → Read A
and_faults r faults = record { value = r.value; faults = r.faults ++ faults }

abbrev pub mapped : {A B : Type 0} → (A → B) → Read A → Read B
mapped f r = record { value = f r.value; faults = r.faults }

-- all of a list, with the faults of each
abbrev pub all_of : {A : Type 0} → List (Read A) → Read (List A)
all_of rs = record { value = map (λ r. r.value) rs; faults = flat_map (λ r. r.faults) rs }

-- what a reader answers: the value, or the fault that is told
abbrev pub answer : {A : Type 0} → Read A → Result A Cause
answer r = or_fault (told r.faults) r.value

abbrev pub IsRead : {A : Type 0} → Result A Cause → Read A → Type 0
IsRead result r = result ≡ answer r

-- and one that takes memory, want of it apart
abbrev pub Gives : {A : Type 0} → Result A ReadError → Result A Cause → Type 0
Gives (Ok a) given = given ≡ Ok a
Gives (Err (Refused fault)) given = given ≡ Err fault
Gives (Err Memory) given = Unit {0}

-- two answers as one
abbrev pub both : {A B : Type 0} → Result A Cause → Result B Cause → Result (A × B) Cause
both (Ok a) (Ok b) = Ok (a, b)
both (Ok a) (Err fault) = Err fault
both (Err fault) (Ok b) = Err fault
both (Err fault) (Err other) = Err (lower fault other)

-- an answer with one more fault, which may be absent
abbrev pub with_fault : {A : Type 0} → Result A Cause → Option Cause → Result A Cause
with_fault (Ok a) None = Ok a
with_fault (Ok a) (Some fault) = Err fault
with_fault (Err fault) None = Err fault
with_fault (Err fault) (Some other) = Err (lower fault other)

-- a name
abbrev pub name : List ℕ → Read (List ℕ)
name text = record { value = text; faults = name_faults text }
