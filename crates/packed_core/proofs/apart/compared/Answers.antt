use Rattle.std.proofs.Common.{◌≡◌, inl, inr, ◌++◌, ◌∷◌, ◌∙◌, ◌+◌, ◌<◌, ℕ, List, [], Some, Vec, ap, arith, length, length-append, subst, sym}
use Rattle.std.specs.Global.{Global}
use Rattle.std.specs.Prelude.{slice_get}
use Rattle.std.proofs.lemmas.Bool.{cases_lt}
use Rattle.std.proofs.lemmas.List.Elements.{All-weaker}
use Rattle.std.proofs.lemmas.Option.{same_Some}
use Rattle.packed_core.specs.declared.classes.Class.{Class}
use Rattle.packed_core.specs.Ways.{AreAllNested, AreApartFrom}
use Rattle.packed_core.proofs.Places.{got_back, got_below, got_last}
use Rattle.packed_core.proofs.apart.compared.Goals as goal

pub apart_in-requires-clause-nested : goal.apart_in-requires-clause-nested
apart_in-requires-clause-nested c e =
    subst AreAllNested (c.as_slice.ensures.value ∙ sym c.as_slice-in-loop-i.ensures.value) (c.are_all_nested-nested.ensures e)

pub loop-i-preserved : goal.loop-i-preserved
loop-i-preserved c =
    let i : ℕ = c.loop-i.i in
    let list : List Class = c.args.list.items in
    let old : List (Vec ℕ Global) = c.loop-i.apart.items in
    let x : Vec ℕ Global = c.in_ok-apart_in.field-0 in
    let pushed : c.push.new.self.items ≡ old ++ x ∷ [] = c.in_ok-push.ensures.items in
    let value : c.as_slice-in-loop-i.result.now ≡ list = c.as_slice-in-loop-i.ensures.value in
    record {
      many = ap (λ (l : List (Vec ℕ Global)). length l) pushed ∙ length-append old (x ∷ []) ∙ ap (λ (n : ℕ). n + 1) c.loop-i.invariant.many;
      so = λ j class numbers at to.
          let there : slice_get (old ++ x ∷ []) j ≡ Some numbers = ap (λ (l : List (Vec ℕ Global)). slice_get l j) (sym pushed) ∙ to in
          elim (cases_lt j i) [
            | inl h ↦ c.loop-i.invariant.so j class numbers at (got_back old x j numbers (omega (arith, h, c.loop-i.invariant.many)) there)
            | inr h ↦
                let within : j < length (old ++ x ∷ []) = got_below (old ++ x ∷ []) j numbers there in
                let last : j ≡ length old = omega (arith, h, within, length-append old (x ∷ []), c.loop-i.invariant.many) in
                let own : j ≡ i = omega (arith, last, c.loop-i.invariant.many) in
                let one : x ≡ numbers = same_Some x numbers (sym (got_last old x) ∙ ap (slice_get (old ++ x ∷ [])) (sym last) ∙ there) in
                subst (λ (v : Vec ℕ Global). AreApartFrom list class v.items) one
                (subst (λ (l : List Class). AreApartFrom l class x.items) value
                (c.in_ok-apart_in.ensures class (ap (λ (l : List Class). slice_get l i) value ∙ ap (slice_get list) (sym own) ∙ at)))
          ];
    }

pub returns-clause-compared : goal.returns-clause-compared
returns-clause-compared c =
    let list : List Class = c.args.list.items in
    let many : c.len.result ≡ length list = omega (arith, c.len.ensures) in
    record {
      below = All-weaker (λ (j : ℕ). j < c.len.result) (λ (j : ℕ). j < length list) (λ j h. omega (arith, h, many)) c.in_ok-every.every.items
          c.in_ok-every.ensures.below;
      every = λ j h. c.in_ok-every.ensures.every j (omega (arith, h, many));
      apart = c.loop-i.invariant.so;
    }
