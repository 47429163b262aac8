use Rattle.std.proofs.Common.{◌≡◌, inl, inr, ◌∷◌, ◌∙◌, ◌<◌, ℕ, List, [], ap, arith, length, subst, sym}
use Rattle.std.specs.Prelude.{◌⊎◌, All, Contains, slice_get}
use Rattle.std.proofs.lemmas.Bool.{cases_lt}
use Rattle.std.proofs.lemmas.List.Elements.{All-push, Contains-append_left, Contains-push}
use Rattle.std.proofs.lemmas.Option.{same_Some}
use Rattle.packed_core.specs.declared.classes.Class.{Class}
use Rattle.packed_core.specs.Ways.{AreNested, IsNotedApart}
use Rattle.packed_core.proofs.Places.{got_below, got_read}
use Rattle.packed_core.proofs.apart.apart_from.Goals as goal

below_more : (n i : ℕ) (old new a b : List ℕ) → i < n → IsNotedApart old new i a b → All (λ j. j < n) old → All (λ j. j < n) new
below_more n i old new a b h (inl e) all = subst (All (λ (j : ℕ). j < n)) (sym e) (All-push (λ (j : ℕ). j < n) old i all h)
below_more n i old new a b h (inr e) all = subst (All (λ (j : ℕ). j < n)) (sym e.0) all

still_has : (i j : ℕ) (old new a b : List ℕ) → IsNotedApart old new i a b → Contains old j → Contains new j
still_has i j old new a b (inl e) h = subst (λ (l : List ℕ). Contains l j) (sym e) (Contains-append_left old (i ∷ []) j h)
still_has i j old new a b (inr e) h = subst (λ (l : List ℕ). Contains l j) (sym e.0) h

has_now : (i : ℕ) (old new a b : List ℕ) → IsNotedApart old new i a b → Contains new i ⊎ AreNested a b
has_now i old new a b (inl e) = inl (subst (λ (l : List ℕ). Contains l i) (sym e) (Contains-push old i))
has_now i old new a b (inr e) = inr e.1

pub loop-i-init : goal.loop-i-init
loop-i-init c = record {
  below = λ k d h. absurd (omega (arith, h, ap (λ (l : List ℕ). length l) c.new-numbers.ensures.items));
  others = λ j other h. absurd (omega arith);
}

pub loop-i-preserved : goal.loop-i-preserved
loop-i-preserved c =
    let i : ℕ = c.loop-i.i in
    let list : List Class = c.args.list.now in
    let old : List ℕ = c.loop-i.numbers.items in
    let new : List ℕ = c.note_apart.new.numbers.items in
    let a : List ℕ = c.as_slice.result.now in
    let b : List ℕ = c.as_slice-in-loop-i.result.now in
    let within : i < length list = omega (arith, c.loop-i-test.true) in
    let noted : IsNotedApart old new i a b = c.in_ok-note_apart.ensures in
    record {
      below = below_more (length list) i old new a b within noted c.loop-i.invariant.below;
      others = λ j other h at. elim (cases_lt j i) [
        | inl l ↦ elim (c.loop-i.invariant.others j other l at) [
          | inl g ↦ inl (still_has i j old new a b noted g)
          | inr g ↦ inr g
        ]
        | inr l ↦
            let same : j ≡ i = omega arith in
            let class : Class = c.index-list-i.result in
            let one : class ≡ other =
            same_Some class other (sym (got_read list i class within c.index-list-i.is) ∙ ap (slice_get list) (sym same) ∙ at) in
            let own : a ≡ c.args.class.now.mask.items = c.as_slice.ensures.value in
            let its : b ≡ other.mask.items = c.as_slice-in-loop-i.ensures.value ∙ ap (λ (x : Class). x.mask.items) one in
            elim (has_now i old new a b noted) [
              | inl g ↦ inl (subst (Contains new) (sym same) g)
              | inr g ↦ inr (subst (λ (m : List ℕ). AreNested m other.mask.items) own (subst (AreNested a) its g))
            ]
      ];
    }

pub returns : goal.returns
returns c = record {
  below = c.loop-i.invariant.below;
  others = λ j other at. c.loop-i.invariant.others j other (omega (arith, c.loop-i-test.false, got_below c.args.list.now j other at)) at;
}
