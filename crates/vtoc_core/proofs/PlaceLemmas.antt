-- Keys in order: which are the same, and that the order tells all others apart.
use Rattle.std.proofs.Common.{◌≡◌, ◌↔◌, ℕ, true, ◌&&◌, ◌==◌, List, refl, ap, sym, ◌∙◌}
use Rattle.std.specs.Cmp.{IsTotalOrder, tied_itself}
use Rattle.std.specs.FinMap.{IsAntisymmetric, nat_cmp-IsAntisymmetric}
use Rattle.std.specs.Ordering.{nat_cmp, ordering_reverse, ordering_then}
use Rattle.std.specs.Str.{bytes_eq}
use Rattle.std.specs.declared.cmp.Ordering.{Ordering}
use Rattle.std.specs.declared.cmp.Ordering.TheVariants.{Less, Equal, Greater}
use Rattle.std.proofs.lemmas.Bool.{and_parts, eq-eqb, eqb-true}
use Rattle.std.proofs.lemmas.Map.Lookups.{exact_bytes}
use Rattle.std.proofs.lemmas.Slice.Eq.{bytes_eq-Decides}
use Rattle.vtoc_core.specs.declared.entry.SetKey.{SetKey}
use Rattle.vtoc_core.specs.declared.entry.SetKey.TheVariants.{Named, Temporary, Unnamed}
use Rattle.vtoc_core.specs.contracts.entry.SetKeyOrd.TheImpl as ord
use Rattle.vtoc_core.specs.contracts.entry.SetKeyOrd.TheImpl.Laws as law
use Rattle.vtoc_core.specs.Entries.{key_cmp, name_cmp, same_key}

-- keys are the same exactly where the test says so
same_bytes : (a b : List ℕ) → bytes_eq a b ≡ true → a ≡ b
same_bytes a b h = (bytes_eq-Decides a b).0 h

pub keys_same : (a b : SetKey) → same_key a b ≡ true → a ≡ b
keys_same (Named a) (Named b) h = ap Named (same_bytes a b h)
keys_same (Named a) (Temporary j b) h = cc
keys_same (Named a) (Unnamed j t e) h = cc
keys_same (Temporary i a) (Named b) h = cc
keys_same (Temporary i a) (Temporary j b) h =
    let p = and_parts (i == j) (bytes_eq a b) h in
    let q : i ≡ j = eqb-true i j p.0 in
    let r : a ≡ b = same_bytes a b p.1 in
    cc
keys_same (Temporary i a) (Unnamed j t e) h = cc
keys_same (Unnamed i s d) (Named b) h = cc
keys_same (Unnamed i s d) (Temporary j b) h = cc
keys_same (Unnamed i s d) (Unnamed j t e) h =
    let p = and_parts (i == j && s == t) (d == e) h in
    let q = and_parts (i == j) (s == t) p.0 in
    let k : i ≡ j = eqb-true i j q.0 in
    let l : s ≡ t = eqb-true s t q.1 in
    let m : d ≡ e = eqb-true d e p.1 in
    cc

pub key_same_itself : (a : SetKey) → same_key a a ≡ true
key_same_itself (Named a) = (bytes_eq-Decides a a).1 refl
key_same_itself (Temporary i a) = simp ((bytes_eq-Decides a a).1 refl, eq-eqb i i refl) refl
key_same_itself (Unnamed i s d) = simp (eq-eqb i i refl, eq-eqb s s refl, eq-eqb d d refl) refl

then_equal : (x y : Ordering) → ordering_then x y ≡ Equal → (x ≡ Equal) × (y ≡ Equal)
then_equal Less y h = cc
then_equal Equal y h = (refl, h)
then_equal Greater y h = cc

-- no two keys tie
pub keys_tie : IsAntisymmetric key_cmp
keys_tie (Named a) (Named b) h = ap Named (exact_bytes a b h)
keys_tie (Named a) (Temporary j b) h = cc
keys_tie (Named a) (Unnamed j t e) h = cc
keys_tie (Temporary i a) (Named b) h = cc
keys_tie (Temporary i a) (Temporary j b) h =
    let p = then_equal (nat_cmp i j) (name_cmp a b) h in
    let q : i ≡ j = nat_cmp-IsAntisymmetric i j p.0 in
    let r : a ≡ b = exact_bytes a b p.1 in
    cc
keys_tie (Temporary i a) (Unnamed j t e) h = cc
keys_tie (Unnamed i s d) (Named b) h = cc
keys_tie (Unnamed i s d) (Temporary j b) h = cc
keys_tie (Unnamed i s d) (Unnamed j t e) h =
    let p = then_equal (nat_cmp i j) (ordering_then (nat_cmp s t) (nat_cmp d e)) h in
    let q = then_equal (nat_cmp s t) (nat_cmp d e) p.1 in
    let k : i ≡ j = nat_cmp-IsAntisymmetric i j p.0 in
    let l : s ≡ t = nat_cmp-IsAntisymmetric s t q.0 in
    let m : d ≡ e = nat_cmp-IsAntisymmetric d e q.1 in
    cc

-- the order that is derived is the one defined
pub order_is : (a b : SetKey) → ord.ghosts.cmp a b ≡ key_cmp a b
order_is (Named a) (Named b) = refl
order_is (Named a) (Temporary j b) = refl
order_is (Named a) (Unnamed j t e) = refl
order_is (Temporary i a) (Named b) = refl
order_is (Temporary i a) (Temporary j b) = refl
order_is (Temporary i a) (Unnamed j t e) = refl
order_is (Unnamed i s d) (Named b) = refl
order_is (Unnamed i s d) (Temporary j b) = refl
order_is (Unnamed i s d) (Unnamed j t e) = refl

pub key_total : IsTotalOrder key_cmp
key_total = record {
  antisymm = λ a b. sym (order_is a b) ∙ law.total-law.antisymm a b ∙ ap ordering_reverse (order_is b a);
  trans = λ a b c p q. sym (order_is a c) ∙ law.total-law.trans a b c (order_is a b ∙ p) (order_is b c ∙ q);
  congr = λ a b c p. sym (order_is a c) ∙ law.total-law.congr a b c (order_is a b ∙ p) ∙ order_is b c;
}

-- a key is the same as another where they do not differ in order
pub order_tells : (a b : SetKey) → (same_key a b ≡ true) ↔ (key_cmp a b ≡ Equal)
order_tells a b = (
  (λ h. ap (key_cmp a) (sym (keys_same a b h)) ∙ tied_itself key_total a),
  (λ h. ap (same_key a) (sym (keys_tie a b h)) ∙ key_same_itself a),
)
