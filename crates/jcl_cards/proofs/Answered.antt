-- what is answered of a statement: its card, or the fault that is told
use Rattle.std.proofs.Common.{◌≡◌, Bool, true, cond, List, [], ◌∷◌, ◌++◌, Option, Some, None, Result, Ok, Err, refl, sym, ap, ◌∙◌, subst}
use Rattle.jcl_plan.specs.declared.fault.Cause.{Cause}
use Rattle.jcl_plan.specs.declared.fault.Cause.TheVariants.{P}
use Rattle.jcl_plan.specs.declared.fault.StatementFault.TheVariants.{OperandTooLong}
use Rattle.operand_core.specs.Faults.{earlier, long_faults, or_fault, told}
use Rattle.operand_core.proofs.Told.{told_append}
use Rattle.value_core.specs.declared.refusal.ReadError.{ReadError}
use Rattle.value_core.specs.declared.refusal.ReadError.TheVariants.{Refused}
use Rattle.value_core.specs.Reads.{Gives, IsRead, Read, answer}

pub refused : {A : Type 0} (r : Read A) {fault : Cause} {one : Option Cause} → one ≡ told r.faults → one ≡ Some fault → answer r ≡ Err fault
refused {A} r is some = ap (λ f. let s : Result A Cause = or_fault f r.value in s) (sym is ∙ some)

pub read : {A : Type 0} (r : Read A) {x : A} → told r.faults ≡ None → r.value ≡ x → answer r ≡ Ok x
read {A} r {x} none is = ap (λ f. let s : Result A Cause = or_fault f r.value in s) none ∙ ap (λ v. let s : Result A Cause = Ok v in s) is

-- an operand that is too long
pub long_refused : {A : Type 0} (long : Bool) (names : List Cause) (r : Read A) {name : Option Cause} {fault : Cause} → long ≡ true → name ≡ told names →
    Some fault ≡ earlier name (Some (P OperandTooLong)) → answer (cond long (record { value = r.value; faults = long_faults names }) r) ≡ Err fault
long_refused {A} long names r {name} {fault} is name_is told_is =
    let whole : Read A = record { value = r.value; faults = long_faults names } in
    let Q : Bool → Type 0 = λ b. answer (cond b whole r) ≡ Err fault in
    let one : told (names ++ P OperandTooLong ∷ []) ≡ Some fault =
    told_append names (P OperandTooLong ∷ []) ∙ ap (λ n. earlier n (Some (P OperandTooLong))) (sym name_is) ∙ sym told_is in
    subst Q (sym is) (refused whole (sym one) refl)

-- the fault of an answer, handed on
pub gives_refused : {A : Type 0} (r : Read A) {s : Result A ReadError} {given : Result A Cause} {e : Cause} → IsRead given r → given ≡ Err e →
    (d : ReadError) × (s ≡ Err d) × (d ≡ Refused e) → Gives s (answer r)
gives_refused {A} r {s} {given} {e} is was exit =
    let Q : Result A ReadError → Type 0 = λ x. Gives x (answer r) in
    subst Q (sym (exit.1 ∙ ap (λ d. let x : Result A ReadError = Err d in x) exit.2)) (sym is ∙ was)
