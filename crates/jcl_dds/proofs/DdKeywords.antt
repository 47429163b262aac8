-- a keyword's value put before what the later ones code
use Rattle.std.proofs.Common.{◌≡◌, Option, Some, None, OnOk, Result, Ok, Err, sym, ap, ◌∙◌}
use Rattle.jcl_plan.specs.declared.fault.Cause.{Cause}
use Rattle.operand_core.specs.Faults.{earlier, told}
use Rattle.operand_core.proofs.Told.{told_append}
use Rattle.value_core.specs.Reads.{IsRead, Read}
use Rattle.jcl_cards.specs.declared.coded.Coded.{Coded}
use Rattle.jcl_dds.specs.DdKeys.{IsPut}
use Rattle.jcl_dds.proofs.Beside.{err_told, ok_told, ok_value}

some_fault : (own : Cause) (fault : Option Cause) → earlier (Some own) fault ≡ None → ⊥
some_fault own None h = cc
some_fault own (Some other) h = cc

-- a value without a fault
pub put_good : {A : Type 0} (here : Read (Coded A)) {coded : Coded A} {fault : Option Cause} {found : Coded A} → None ≡ told here.faults → found ≡ here.value →
    IsPut here coded fault found fault
put_good here none value_is = λ behind is. record {
  is_told = is.is_told ∙ ap (λ first. earlier first (told behind.faults)) none ∙ sym (told_append here.faults behind.faults);
  counts = λ no_fault. value_is;
}

-- and one with a fault
pub put_bad : {A : Type 0} (here : Read (Coded A)) {coded : Coded A} {fault new : Option Cause} {own : Cause} → Some own ≡ told here.faults →
    new ≡ earlier (Some own) fault → IsPut here coded fault coded new
put_bad here {coded} {fault} {new} {own} some new_is = λ behind is. record {
  is_told =
      new_is ∙ ap (earlier (Some own)) is.is_told ∙ ap (λ first. earlier first (told behind.faults)) some ∙ sym (told_append here.faults behind.faults);
  counts = λ no_fault. absurd (some_fault own fault (sym new_is ∙ no_fault));
}

pub put_ok : {A : Type 0} (here : Read (Coded A)) {coded : Coded A} {fault : Option Cause} {given : Result (Coded A) Cause} {found : Coded A} →
    IsRead given here → given ≡ Ok found → IsPut here coded fault found fault
put_ok here is was = put_good here (ok_told here is was) (ok_value here is was)

pub put_err : {A : Type 0} (here : Read (Coded A)) {coded : Coded A} {fault new : Option Cause} {given : Result (Coded A) Cause} {own : Cause} →
    IsRead given here → given ≡ Err own → new ≡ earlier (Some own) fault → IsPut here coded fault coded new
put_err here is was new_is = put_bad here (err_told here is was) new_is

pub on_ok : {A E P Q : Type 0} (result : Result A E) → (P → Q) → OnOk result P → OnOk result Q
on_ok (Ok done) f holds = f holds
on_ok (Err error) f holds = holds
