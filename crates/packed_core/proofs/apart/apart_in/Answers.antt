use Rattle.std.proofs.Common.{◌≡◌, inr, ◌∙◌, ℕ, List, Some, Vec, ap, arith, length, subst, sym}
use Rattle.std.specs.Global.{Global}
use Rattle.std.specs.Prelude.{slice_get}
use Rattle.std.proofs.lemmas.Option.{same_Some}
use Rattle.view_core.proofs.Numbered.{ok_weaker}
use Rattle.packed_core.specs.declared.classes.Class.{Class}
use Rattle.packed_core.specs.Ways.{AreApartFrom}
use Rattle.packed_core.proofs.Places.{got_read}
use Rattle.packed_core.proofs.apart.apart_in.Goals as goal

pub returns-then-nested : goal.returns-then-nested
returns-then-nested c class at = record {
  below = λ k d h. absurd (omega (arith, h, ap (λ (l : List ℕ). length l) c.new.ensures.items));
  others = λ j other to. inr (c.requires.nested c.if-nested.true c.args.i j class other at to);
}

pub returns-else-nested : goal.returns-else-nested
returns-else-nested c =
    let list : List Class = c.args.list.now in
    let x : Class = c.index-list-i.result in
    ok_weaker c.apart_from.result (λ (numbers : Vec ℕ Global). AreApartFrom list x numbers.items)
    (λ (numbers : Vec ℕ Global). (class : Class) → slice_get list c.args.i ≡ Some class → AreApartFrom list class numbers.items)
    (λ numbers are class at. subst (λ (k : Class). AreApartFrom list k numbers.items)
    (same_Some x class (sym (got_read list c.args.i x c.requires.there c.index-list-i.is) ∙ at)) are) c.apart_from.ensures
