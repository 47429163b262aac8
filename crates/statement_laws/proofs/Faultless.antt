-- What is read without a fault has a property, where each of its parts has it.
use Rattle.std.proofs.Common.{◌≡◌, ℕ, Bool, true, false, cond, List, [], ◌∷◌, Option, Some, None, refl}
use Rattle.jname_core.specs.declared.fault.NameFault.{NameFault}
use Rattle.jname_core.specs.Faults.{ds_name_fault, name8_fault}
use Rattle.jname_core.specs.Grammar.{IsDsNameWithin, IsName8}
use Rattle.jname_core.proofs.Components.{ds_name_from_none}
use Rattle.jname_core.proofs.Names.{name8_from_none}
use Rattle.jcl_plan.specs.declared.fault.Cause.{Cause}
use Rattle.operand_core.specs.Faults.{as_cause, long_faults, name_faults, told, when}
use Rattle.operand_core.specs.Keywords.{is_long}
use Rattle.operand_core.specs.Operands.{Keyword}
use Rattle.operand_core.proofs.Faultless.{none_in_front, own_from_long}
use Rattle.operand_core.proofs.Told.{told-none}
use Rattle.value_core.specs.Reads.{Read}
use Rattle.jcl_cards.specs.declared.coded.Coded.{Coded}
use Rattle.jcl_cards.specs.declared.coded.Coded.TheVariants.{NotGiven, Nullified, Value}
use Rattle.jcl_cards.specs.Keywords.{and_later, coded_in, coded_text, read_or, unless_long, value_in}

-- read without a fault, it has the property
abbrev pub ReadIs : {A : Type 0} → (A → Type 0) → Read A → Type 0
ReadIs P r = r.faults ≡ [] → P r.value

-- of two readings one is taken
pub either_is : {A : Type 0} (P : A → Type 0) (b : Bool) (r s : Read A) → (b ≡ true → ReadIs P r) → (b ≡ false → ReadIs P s) → ReadIs P (cond b r s)
either_is P true r s first second = first refl
either_is P false r s first second = second refl

-- no fault of two tests
pub when_none : (holds : Bool) (fault : Cause) → when holds fault ≡ [] → holds ≡ false
when_none false fault h = refl
when_none true fault h = absurd (cc)

pub as_cause_none : (fault : Option NameFault) → as_cause fault ≡ [] → fault ≡ None
as_cause_none None h = refl
as_cause_none (Some fault) h = absurd (cc)

-- names
pub name_is : (text : List ℕ) → name_faults text ≡ [] → IsName8 text
name_is text none = name8_from_none text (as_cause_none (name8_fault text) none)

pub ds_name_is : (limit : ℕ) (text : List ℕ) → as_cause (ds_name_fault limit text) ≡ [] → IsDsNameWithin limit text
ds_name_is limit text none = ds_name_from_none limit text (as_cause_none (ds_name_fault limit text) none)

-- a statement of which no fault is told
long_is : {A : Type 0} (P : A → Type 0) (long : Bool) (names : List Cause) (r : Read A) → ReadIs P r →
    told (cond long (record { value = r.value; faults = long_faults names }) r).faults ≡ None →
    P (cond long (record { value = r.value; faults = long_faults names }) r).value
long_is P true names r is none = is (told-none r.faults (own_from_long true names r.faults none))
long_is P false names r is none = is (told-none r.faults none)

pub told_is : {A : Type 0} (P : A → Type 0) (names : List Cause) (operand : List ℕ) (r : Read A) → ReadIs P r →
    told (unless_long names operand r).faults ≡ None → P (unless_long names operand r).value
told_is P names operand r is none = long_is P (is_long operand) names r is none

-- the first keyword of a key
or_is : {A : Type 0} (P : A → Type 0) (read : List ℕ → Read A) (other : A) (text : Option (List ℕ)) → P other →
    ((text : List ℕ) → ReadIs P (read text)) → ReadIs P (read_or read other text)
or_is P read other None o is none = o
or_is P read other (Some text) o is none = is text none

first_value : {A : Type 0} (P : A → Type 0) (here : Bool) (r later : Read A) → ReadIs P r → ReadIs P later → ReadIs P (cond here (and_later r later) later)
first_value P true r later is behind none = is (none_in_front r.faults later.faults none)
first_value P false r later is behind none = behind none

pub value_is : {A : Type 0} (P : A → Type 0) (is_key : List ℕ → Bool) (read : List ℕ → Read A) (other : A) → P other →
    ((text : List ℕ) → ReadIs P (read text)) → (keywords : List Keyword) → ReadIs P (value_in is_key read other keywords)
value_is P is_key read other o is [] none = o
value_is P is_key read other o is (k ∷ keywords) none =
    first_value P (is_key k.key) (read_or read other k.value) (value_in is_key read other keywords) (or_is P read other k.value o is)
    (value_is P is_key read other o is keywords) none

-- and on a DD, where it may have no value
text_is : {A : Type 0} (P : Coded A → Type 0) (read : List ℕ → Read A) → P NotGiven → P Nullified →
    ((text : List ℕ) → ReadIs (λ a. P (Value a)) (read text)) → (text : Option (List ℕ)) → ReadIs P (coded_text read text)
text_is P read not_given nullified is None none = not_given
text_is P read not_given nullified is (Some []) none = nullified
text_is P read not_given nullified is (Some (c ∷ cs)) none = is (c ∷ cs) none

pub coded_is : {A : Type 0} (P : Coded A → Type 0) (is_key : List ℕ → Bool) (read : List ℕ → Read A) → P NotGiven → P Nullified →
    ((text : List ℕ) → ReadIs (λ a. P (Value a)) (read text)) → (keywords : List Keyword) → ReadIs P (coded_in is_key read keywords)
coded_is P is_key read not_given nullified is [] none = not_given
coded_is P is_key read not_given nullified is (k ∷ keywords) none =
    first_value P (is_key k.key) (coded_text read k.value) (coded_in is_key read keywords) (text_is P read not_given nullified is k.value)
    (coded_is P is_key read not_given nullified is keywords) none
