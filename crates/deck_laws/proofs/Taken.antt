-- A statement that is taken: what is told of it, and of its place.
use Rattle.std.proofs.Common.{◌≡◌, ℕ, Bool, true, false, cond, ◌==◌, List, [], ◌∷◌, ◌++◌, length, Option, Some, None, Ok, refl, sym, ap, subst}
use Rattle.jcl_plan.specs.declared.fault.Cause.{Cause}
use Rattle.operand_core.specs.Faults.{long_faults, or_fault, told, written_name}
use Rattle.operand_core.specs.Keywords.{is_long}
use Rattle.operand_core.specs.Operands.{operand_of}
use Rattle.operand_core.specs.Qualified.{is_qualified}
use Rattle.operand_core.proofs.Faultless.{none_behind, told_none_behind, told_none_in_front}
use Rattle.operand_core.proofs.Told.{told-none}
use Rattle.value_core.specs.Reads.{Read}
use Rattle.jcl_dds.specs.declared.dd.DdCard.{DdCard}
use Rattle.jcl_dds.specs.DdCards.{behind_period, dd_card, dd_name_faults, dd_name_of, dd_with}
use Rattle.deck_laws.specs.Sound.{IsNamed}

-- no fault is told, and the card is the value
pub from_or : {A : Type 0} (fault : Option Cause) (value card : A) → or_fault fault value ≡ Ok card → (fault ≡ None) × (card ≡ value)
from_or None value card h = (refl, cc)
from_or (Some fault) value card h = absurd (cc)

-- nothing is told of what is read, nor of its place where the operand is not too long
pub own_told : (long : Bool) (own others : List Cause) → told (cond long own (own ++ others)) ≡ None →
    (told own ≡ None) × (long ≡ false → told others ≡ None)
own_told true own others h = (h, λ e. absurd (let no : true ≡ false = e in cc))
own_told false own others h = (told_none_in_front own others h, λ e. told_none_behind own others h)

-- of one that is too long something is told
not_long : {A : Type 0} (long : Bool) (names : List Cause) (r : Read A) →
    told (cond long (record { value = r.value; faults = long_faults names }) r).faults ≡ None → long ≡ false
not_long false names r h = refl
not_long true names r h = absurd (let none = none_behind names _ (told-none (long_faults names) h) in cc)

same_value : {A : Type 0} (long : Bool) (names : List Cause) (r : Read A) →
    (cond long (record { value = r.value; faults = long_faults names }) r).value ≡ r.value
same_value true names r = refl
same_value false names r = refl

pub dd_not_long : (name operand : List ℕ) (cards : Option (List (List ℕ))) → told (dd_card name operand cards).faults ≡ None → is_long operand ≡ false
dd_not_long name operand cards h = not_long (is_long operand) (dd_name_faults name) (dd_with name (operand_of 1 operand) cards) h

-- a DD has a name where the field is not empty
dd_name_is : (name operand : List ℕ) (cards : Option (List (List ℕ))) → (dd_card name operand cards).value.name ≡ dd_name_of name
dd_name_is name operand cards =
    ap (λ (dd : DdCard). dd.name) (same_value (is_long operand) (dd_name_faults name) (dd_with name (operand_of 1 operand) cards))

either_named : (qualified : Bool) (behind : List ℕ) (c : ℕ) (cs : List ℕ) → IsNamed (cond qualified (Some behind) (written_name (c ∷ cs)))
either_named true behind c cs = tt
either_named false behind c cs = tt

named : (c : ℕ) (cs : List ℕ) → IsNamed (dd_name_of (c ∷ cs))
named c cs = either_named (is_qualified (c ∷ cs)) (behind_period (c ∷ cs)) c cs

pub name_there : (name operand : List ℕ) (cards : Option (List (List ℕ))) → (length name == 0) ≡ false → IsNamed (dd_card name operand cards).value.name
name_there [] operand cards some = absurd (let no : true ≡ false = some in cc)
name_there (c ∷ cs) operand cards some = subst IsNamed (sym (dd_name_is (c ∷ cs) operand cards)) (named c cs)
