use Rattle.std.proofs.Common.{◌≡◌, ◌∙◌, ◌<◌, ℕ, List, Some, Vec, ap, arith, length, subst, sym}
use Rattle.std.specs.Global.{Global}
use Rattle.std.specs.Prelude.{slice_get}
use Rattle.packed_core.specs.declared.classes.Classes.{Classes}
use Rattle.packed_core.specs.Ways.{AreOffered}
use Rattle.packed_core.proofs.Places.{got_read}
use Rattle.packed_core.proofs.Skipping.{all_offered, skips}
use Rattle.packed_core.proofs.ways.Ways.offered.Goals as goal

pub returns-in_default : goal.returns-in_default
returns-in_default c =
    let classes : Classes = c.args.self.now.classes.value in
    let is : c.as_slice.result.now ≡ classes.every.items = c.as_slice.ensures.value ∙ ap (λ (x : Classes). x.every.items) c.deref.ensures in
    subst (AreOffered c.args.rows.now classes.list.items c.args.base.now) (sym is) (all_offered c.args.rows.now classes c.args.base.now c.requires.kept.compared)

pub returns-then-c-len : goal.returns-then-c-len
returns-then-c-len c =
    let classes : Classes = c.args.self.now.classes.value in
    let is : c.as_slice-then-c-len.result.now ≡ classes.every.items =
    c.as_slice-then-c-len.ensures.value ∙ ap (λ (x : Classes). x.every.items) c.deref-then-c-len.ensures in
    subst (AreOffered c.args.rows.now classes.list.items c.args.base.now) (sym is) (all_offered c.args.rows.now classes c.args.base.now c.requires.kept.compared)

pub returns : goal.returns
returns c =
    let classes : Classes = c.args.self.now.classes.value in
    let number : ℕ = c.in-Some.c in
    let apart : List (Vec ℕ Global) = c.deref-3.result.now.apart.items in
    let numbers : Vec ℕ Global = c.index.result.now in
    let many : c.len.result ≡ length c.deref-2.result.now.apart.items = omega (arith, c.len.ensures) in
    let below : number < length apart =
    omega (arith, c.if-c-len.false, many, ap (λ (x : Classes). length x.apart.items) (c.deref-2.ensures ∙ sym c.deref-3.ensures)) in
    let at : slice_get classes.apart.items number ≡ Some numbers =
    ap (λ (x : Classes). slice_get x.apart.items number) (sym c.deref-3.ensures) ∙ got_read apart number numbers below c.index.ensures in
    let noted = c.in-Some.ensures in
    subst (AreOffered c.args.rows.now classes.list.items c.args.base.now) (sym c.as_slice-2.ensures.value)
    (skips c.args.rows.now classes noted.0 number c.args.base.now numbers c.requires.kept.compared (c.requires.kept.notes noted.0 number noted.2) noted.1 at)
