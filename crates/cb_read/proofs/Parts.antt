-- Tests that are read one behind the other.
use Rattle.std.proofs.Common.{◌≡◌, ℕ, zero, suc, ◌-◌, ◌<◌, List, [], ◌∷◌, ◌++◌, map, take, drop, min, All, sym, ap, ◌∙◌, arith}
use Rattle.std.proofs.lemmas.List.{append_assoc}
use Rattle.std.proofs.lemmas.List.Elements.{All-head, All-same, All-tail}
use Rattle.cb_meaning.specs.Walks.{in_parts}

take_parts : (k n m width : ℕ) (bytes : List ℕ) → m ≡ min k n → take k (in_parts n width bytes) ≡ in_parts m width bytes
take_parts zero n m width bytes e = let none : 0 ≡ m = omega (arith, e) in ap (λ x. in_parts x width bytes) none
take_parts (suc k) zero m width bytes e = let none : 0 ≡ m = omega (arith, e) in ap (λ x. in_parts x width bytes) none
take_parts (suc k) (suc n) m width bytes e =
    let one : suc (m - 1) ≡ m = omega (arith, e) in
    ap (λ xs. take width bytes ∷ xs) (take_parts k n (m - 1) width (drop width bytes) (omega (arith, e))) ∙ ap (λ x. in_parts x width bytes) one

module _ {A : Type 0} (read : List ℕ → A) (width : ℕ) where
  abbrev pub parts_read : ℕ → List ℕ → List A
  parts_read n bytes = map read (in_parts n width bytes)

  pub first_parts : (k n m : ℕ) (bytes : List ℕ) → m ≡ min k n → map read (take k (in_parts n width bytes)) ≡ parts_read m bytes
  first_parts k n m bytes e = ap (map read) (take_parts k n m width bytes e)

  module _ (left : ℕ) (bytes : List ℕ) (some : 0 < left) where
    one_part : parts_read left bytes ≡ read (take width bytes) ∷ parts_read (left - 1) (drop width bytes)
    one_part =
        let one : left ≡ suc (left - 1) = omega (arith, some) in
        ap (λ n. parts_read n bytes) one

    pub part_in_range : (P : A → Type 0) → All P (parts_read left bytes) → P (read (take width bytes))
    part_in_range P h =
        All-head P (read (take width bytes)) (parts_read (left - 1) (drop width bytes))
        (All-same P (read (take width bytes) ∷ parts_read (left - 1) (drop width bytes)) (parts_read left bytes) (sym one_part) h)

    pub rest_in_range : (P : A → Type 0) → All P (parts_read left bytes) → (behind : List ℕ) → behind ≡ drop width bytes → All P (parts_read (left - 1) behind)
    rest_in_range P h behind is =
        let rest = parts_read (left - 1) (drop width bytes) in
        All-same P (parts_read (left - 1) behind) rest (ap (parts_read (left - 1)) is)
        (All-tail P (read (take width bytes)) rest (All-same P (read (take width bytes) ∷ rest) (parts_read left bytes) (sym one_part) h))

    pub one_added : (whole items : List A) → whole ≡ items ++ parts_read left bytes → (more : List A) (behind : List ℕ) →
        more ≡ items ++ read (take width bytes) ∷ [] → behind ≡ drop width bytes → whole ≡ more ++ parts_read (left - 1) behind
    one_added whole items is more behind added rest =
        is ∙ ap (λ xs. items ++ xs) one_part ∙ sym (append_assoc items (read (take width bytes) ∷ []) (parts_read (left - 1) (drop width bytes)))
        ∙ (λ i. sym added i ++ parts_read (left - 1) (sym rest i))
