-- answers put together
use Rattle.std.proofs.Common.{◌≡◌, List, ◌++◌, Option, Some, None, Result, Ok, Err, Bool, true, false, cond, refl, sym, ap, ◌∙◌, subst}
use Rattle.jcl_plan.specs.declared.fault.Cause.{Cause}
use Rattle.operand_core.specs.Faults.{earlier, or_fault, told}
use Rattle.operand_core.proofs.Told.{told_append}
use Rattle.value_core.specs.Reads.{IsRead, Read, and_faults, both, with_fault}

abbrev pub pair_of : {A B : Type 0} → Read A → Read B → Read (A × B)
pair_of p q = record { value = (p.value, q.value); faults = p.faults ++ q.faults }

both_told : {A B : Type 0} (f g : Option Cause) (x : A) (y : B) → both (or_fault f x) (or_fault g y) ≡ or_fault (earlier f g) (x, y)
both_told None None x y = refl
both_told None (Some g) x y = refl
both_told (Some f) None x y = refl
both_told (Some f) (Some g) x y = refl

pub both_is : {A B : Type 0} (p : Read A) (q : Read B) {a : Result A Cause} {b : Result B Cause} {r : Result (A × B) Cause} →
    IsRead a p → IsRead b q → r ≡ both a b → IsRead r (pair_of p q)
both_is {A} {B} p q {a} {b} a_is b_is is =
    is
    ∙ ap (λ answer. both answer b) a_is
    ∙ ap (both (or_fault (told p.faults) p.value)) b_is
    ∙ both_told (told p.faults) (told q.faults) p.value q.value
    ∙ ap (λ f. let r : Result (A × B) Cause = or_fault f (p.value, q.value) in r) (sym (told_append p.faults q.faults))

with_fault_told : {A : Type 0} (f g : Option Cause) (x : A) → with_fault (or_fault f x) g ≡ or_fault (earlier f g) x
with_fault_told None None x = refl
with_fault_told None (Some g) x = refl
with_fault_told (Some f) None x = refl
with_fault_told (Some f) (Some g) x = refl

pub with_fault_is : {A : Type 0} (p : Read A) (faults : List Cause) {a : Result A Cause} {fault : Option Cause} {r : Result A Cause} →
    IsRead a p → fault ≡ told faults → r ≡ with_fault a fault → IsRead r (and_faults p faults)
with_fault_is {A} p faults {a} {fault} a_is fault_is is =
    is
    ∙ ap (λ answer. with_fault answer fault) a_is
    ∙ ap (with_fault (or_fault (told p.faults) p.value)) fault_is
    ∙ with_fault_told (told p.faults) (told faults) p.value
    ∙ ap (λ f. let r : Result A Cause = or_fault f p.value in r) (sym (told_append p.faults faults))

-- what is made from a value that was read
ok_cases : {A B : Type 0} (g : A → B) (f : Option Cause) (x y : A) → or_fault f x ≡ Ok y → Ok (g y) ≡ or_fault f (g x)
ok_cases g None x y h = cc
ok_cases g (Some fault) x y h = cc

pub ok_is : {A B : Type 0} (g : A → B) (p : Read A) (q : Read B) {r : Result A Cause} {y : A} →
    IsRead r p → r ≡ Ok y → told q.faults ≡ told p.faults → q.value ≡ g p.value → IsRead (Ok (g y)) q
ok_is {A} {B} g p q {r} {y} is was same value_is =
    ok_cases g (told p.faults) p.value y (sym is ∙ was)
    ∙ ap (λ fault. let r : Result B Cause = or_fault fault (g p.value) in r) (sym same)
    ∙ ap (λ value. let r : Result B Cause = or_fault (told q.faults) value in r) (sym value_is)

-- and where none was
err_cases : {A B : Type 0} (f : Option Cause) (x : A) (z : B) (e : Cause) → or_fault f x ≡ Err e → Err e ≡ or_fault f z
err_cases None x z e h = cc
err_cases (Some fault) x z e h = cc

pub err_is : {A B : Type 0} (p : Read A) (q : Read B) {r : Result A Cause} {e : Cause} {s : Result B Cause} →
    IsRead r p → r ≡ Err e → told q.faults ≡ told p.faults → (d : Cause) × (s ≡ Err d) × (d ≡ e) → IsRead s q
err_is {A} {B} p q {r} {e} is was same exit =
    exit.1
    ∙ ap (λ d. let r : Result B Cause = Err d in r) exit.2
    ∙ err_cases (told p.faults) p.value q.value e (sym is ∙ was)
    ∙ ap (λ fault. let r : Result B Cause = or_fault fault q.value in r) (sym same)

-- what is read in one of two ways
pub at_true : {A : Type 0} (b : Bool) (p q : Read A) {r : Result A Cause} → b ≡ true → IsRead r p → IsRead r (cond b p q)
at_true b p q {r} is h = subst (λ (x : Bool). IsRead r (cond x p q)) (sym is) h

pub at_false : {A : Type 0} (b : Bool) (p q : Read A) {r : Result A Cause} → b ≡ false → IsRead r q → IsRead r (cond b p q)
at_false b p q {r} is h = subst (λ (x : Bool). IsRead r (cond x p q)) (sym is) h

-- a text that is the value and has no fault
pub whole_is : {A : Type 0} (q : Read A) {x : A} → x ≡ q.value → told q.faults ≡ None → IsRead (Ok x) q
whole_is {A} q {x} same none =
    ap (λ value. let r : Result A Cause = Ok value in r) same ∙ ap (λ fault. let r : Result A Cause = or_fault fault q.value in r) (sym none)

-- a value with a fault
pub refused_is : {A : Type 0} (q : Read A) {fault : Cause} → told q.faults ≡ Some fault → IsRead (Err fault) q
refused_is {A} q same = ap (λ fault. let r : Result A Cause = or_fault fault q.value in r) (sym same)
