use Rattle.std.proofs.Common.{◌≡◌, ◌++◌, ◌∷◌, ◌∙◌, ◌<◌, ℕ, zero, suc, List, [], Some, add-one, ap, arith, length, map, refl, set, subst, sym, take}
use Rattle.std.specs.Prelude.{All, slice_get}
use Rattle.std.proofs.lemmas.List.{get_or_default, take_all}
use Rattle.std.proofs.lemmas.List.Elements.{All-push}
use Rattle.std.proofs.lemmas.Option.{same_Some}
use Rattle.packed_core.specs.declared.ways.Looked.{Looked}
use Rattle.packed_core.specs.Ways.{IsThere}
use Rattle.packed_core.proofs.Places.{got_read}
use Rattle.packed_core.proofs.ways.place_all.Goals as goal

length_set : (l : List Looked) (i : ℕ) (x : Looked) → length (set l i x) ≡ length l
length_set [] i x = refl
length_set (y ∷ l) zero x = refl
length_set (y ∷ l) (suc i) x = ap suc (length_set l i x)

none_taken : (l : List Looked) → take 0 l ≡ []
none_taken [] = refl
none_taken (y ∷ l) = refl

take_set : (l : List Looked) (i : ℕ) (x : Looked) → i < length l → take (suc i) (set l i x) ≡ take i l ++ x ∷ []
take_set [] i x h = absurd (omega arith)
take_set (y ∷ l) zero x h = ap (λ (r : List Looked). x ∷ r) (none_taken l)
take_set (y ∷ l) (suc i) x h = ap (λ (r : List Looked). y ∷ r) (take_set l i x (omega arith))

map_set : (l : List Looked) (i : ℕ) (x y : Looked) → slice_get l i ≡ Some y → y.class ≡ x.class → map (λ k. k.class) (set l i x) ≡ map (λ k. k.class) l
map_set [] i x y at same = absurd cc
map_set (z ∷ l) zero x y at same =
    ap (λ (n : ℕ). n ∷ map (λ (k : Looked). k.class) l) (sym same ∙ sym (ap (λ (k : Looked). k.class) (same_Some z y at)))
map_set (z ∷ l) (suc i) x y at same = ap (λ (r : List ℕ). z.class ∷ r) (map_set l i x y at same)

pub loop-i-preserved : goal.loop-i-preserved
loop-i-preserved c =
    let old : List Looked = c.loop-i.looked.items in
    let i : ℕ = c.loop-i.i in
    let a : Looked = c.index.result.now in
    let b : Looked = c.index-in-loop-i.result.now in
    let x : Looked = record { class = a.class; row = c.in-Some.row } in
    let P : Looked → Type 0 = IsThere c.args.rows.now c.args.list.now c.args.base.now in
    let within : i < length old = omega (arith, c.loop-i-test.true, c.len-i-end.ensures, c.loop-i.invariant.many) in
    let one : a ≡ b = c.index.ensures ∙ get_or_default old i a b within ∙ sym c.index-in-loop-i.ensures in
    let there : P x = subst (λ (k : Looked). P (record { class = k.class; row = c.in-Some.row })) (sym one) c.in-Some.ensures in
    record {
      many = length_set old i x ∙ c.loop-i.invariant.many;
      there = subst (All P) (sym (ap (λ (n : ℕ). take n (set old i x)) (add-one i) ∙ take_set old i x within))
          (All-push P (take i old) x c.loop-i.invariant.there there);
      same = map_set old i x a (got_read old i a within c.index.ensures) refl ∙ c.loop-i.invariant.same;
    }

pub returns-clause-there : goal.returns-clause-there
returns-clause-there c e =
    let looked : List Looked = c.loop-i.looked.items in
    subst (All (IsThere c.args.rows.now c.args.list.now c.args.base.now))
    (take_all c.loop-i.i looked (omega (arith, c.loop-i-test.false, c.len-i-end.ensures, c.loop-i.invariant.many)))
    c.loop-i.invariant.there
