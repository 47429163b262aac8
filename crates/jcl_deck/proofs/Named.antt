-- a PROC statement of which no fault is told has a name
use Rattle.std.proofs.Common.{◌≡◌, ℕ, Bool, true, false, cond, List, [], ◌∷◌, Option, Some, None, Result, Ok, refl, sym, ◌∙◌, subst}
use Rattle.std.specs.Option.{IsSome}
use Rattle.jcl_plan.specs.declared.fault.Cause.{Cause}
use Rattle.jcl_plan.specs.declared.fault.Cause.TheVariants.{P}
use Rattle.jcl_plan.specs.declared.fault.StatementFault.TheVariants.{OperandTooLong}
use Rattle.operand_core.specs.Faults.{earlier, long_faults, or_fault, told, written_name_faults}
use Rattle.operand_core.specs.Keywords.{is_long}
use Rattle.operand_core.specs.Operands.{Operand, operand_of}
use Rattle.operand_core.proofs.Told.{told_append, told-none}
use Rattle.value_core.specs.declared.refusal.ReadError.{ReadError}
use Rattle.value_core.specs.Reads.{Gives, Read, answer, with_fault}
use Rattle.jcl_cards.specs.declared.procedure.ProcedureCard.{ProcedureCard}
use Rattle.jcl_cards.specs.ProcedureCards.{procedure_card, procedure_with}

nothing_told : (f g : Option Cause) (value card : ProcedureCard) → with_fault (or_fault f value) g ≡ Ok card → f ≡ None
nothing_told None g value card h = refl
nothing_told (Some f) None value card h = cc
nothing_told (Some f) (Some g) value card h = cc

value_is : (f g : Option Cause) (value card : ProcedureCard) → with_fault (or_fault f value) g ≡ Ok card → value ≡ card
value_is None None value card h = cc
value_is None (Some g) value card h = cc
value_is (Some f) None value card h = cc
value_is (Some f) (Some g) value card h = cc

some_behind : (a : Option Cause) (b : Cause) → earlier a (Some b) ≡ None → ⊥
some_behind None b h = cc
some_behind (Some a) b h = cc

own_named : (name : List ℕ) (operand : Operand) → told (procedure_with true name operand).faults ≡ None →
    IsSome (procedure_with true name operand).value.name
own_named [] operand none = absurd (let h = told-none (procedure_with true [] operand).faults none in cc)
own_named (c ∷ name) operand none = refl

any_named : (long : Bool) (name : List ℕ) (operand : Operand) →
    let r = procedure_with true name operand in
    let card : Read ProcedureCard = cond long (record { value = r.value; faults = long_faults (written_name_faults name) }) r in
    told card.faults ≡ None → IsSome card.value.name
any_named true name operand none =
    absurd (some_behind (told (written_name_faults name)) (P OperandTooLong) (sym (told_append (written_name_faults name) (P OperandTooLong ∷ [])) ∙ none))
any_named false name operand none = own_named name operand none

pub named : (name operand : List ℕ) (fault : Option Cause) (read : Result ProcedureCard ReadError) (card : ProcedureCard) →
    Gives read (answer (procedure_card true name operand)) →
    ((given : Result ProcedureCard Cause) → Gives read given → with_fault given fault ≡ Ok card) → IsSome card.name
named name operand fault read card gives had =
    let r = procedure_card true name operand in
    let is = had (answer r) gives in
    let Q : ProcedureCard → Type 0 = λ p. IsSome p.name in
    subst Q (value_is (told r.faults) fault r.value card is)
    (any_named (is_long operand) name (operand_of 0 operand) (nothing_told (told r.faults) fault r.value card is))
