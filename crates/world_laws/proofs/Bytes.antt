-- Records that agree but for what is open tell the same.
use Rattle.std.proofs.Common.{◌≡◌, ◌≤◌, ◌<◌, ◌+◌, ◌==◌, arith, ℕ, zero, suc, Bool, true, false, ◌&&◌, ◌||◌, cond, List, [], ◌∷◌, length, Some, refl, sym, ap, ◌∙◌, subst}
use Rattle.std.specs.Prelude.{slice_get}
use Rattle.std.specs.List.{list_any}
use Rattle.std.proofs.lemmas.Bool.{and_left, and_right, le-ltb, lt-leb, or_from, or_parts}
use Rattle.cb_meaning.specs.declared.layout.Field.{Field}
use Rattle.cb_meaning.specs.declared.layout.Layout.{Layout}
use Rattle.cb_meaning.specs.Fields.{byte_at, is_in, is_zero_but, number_at, number_of, part, zero_from}
use Rattle.cb_meaning.specs.Spelled.{status_bytes}
use Rattle.world_meaning.specs.Records.{AgreeBut}
use Rattle.world_meaning.specs.Records.{IsQueueLayout, IsBetween}

-- bytes in a row
pub part_agrees : (r s : List ℕ) (at width : ℕ) → length s ≡ length r → ((k : ℕ) → at ≤ k → k < at + width → byte_at s k ≡ byte_at r k) →
    part s at width ≡ part r at width
part_agrees [] [] at width size h = refl
part_agrees [] (y ∷ s) at width size h = absurd cc
part_agrees (x ∷ r) [] at width size h = absurd cc
part_agrees (x ∷ r) (y ∷ s) zero zero size h = refl
part_agrees (x ∷ r) (y ∷ s) zero (suc width) size h =
    let size_rest : length s ≡ length r = cc in
    let first : y ≡ x = h 0 (omega arith) (omega arith) in
    let rest : part s zero width ≡ part r zero width =
    part_agrees r s zero width size_rest (λ k low high. h (suc k) (omega arith) (omega (arith, high))) in
    (λ i. first i ∷ rest i)
part_agrees (x ∷ r) (y ∷ s) (suc at) width size h =
    let size_rest : length s ≡ length r = cc in
    part_agrees r s at width size_rest (λ k low high. h (suc k) (omega (arith, low)) (omega (arith, high)))

zero_agrees : (named : List Field) (r s : List ℕ) (at : ℕ) → length s ≡ length r →
    ((j k : ℕ) → k ≡ at + j → list_any (λ f. is_in f k) named ≡ false → byte_at s j ≡ byte_at r j) → zero_from named at s ≡ zero_from named at r
zero_agrees named [] [] at size h = refl
zero_agrees named [] (y ∷ s) at size h = absurd cc
zero_agrees named (x ∷ r) [] at size h = absurd cc
zero_agrees named (x ∷ r) (y ∷ s) at size h =
    let size_rest : length s ≡ length r = cc in
    let rest : zero_from named (at + 1) s ≡ zero_from named (at + 1) r =
    zero_agrees named r s (at + 1) size_rest (λ j k e. h (suc j) k (omega (arith, e))) in
    let first : (list_any (λ f. is_in f at) named || y == 0) ≡ (list_any (λ f. is_in f at) named || x == 0) =
    by_test (list_any (λ f. is_in f at) named) refl in
    (λ i. first i && rest i)
  where
    by_test : (b : Bool) → list_any (λ f. is_in f at) named ≡ b → (list_any (λ f. is_in f at) named || y == 0) ≡ (list_any (λ f. is_in f at) named || x == 0)
    by_test true e = ap (λ t. t || y == 0) e ∙ sym (ap (λ t. t || x == 0) e)
    by_test false e = let is : y ≡ x = h 0 at (omega arith) e in ap (λ z. list_any (λ f. is_in f at) named || z == 0) is

any_false_at : {X : Type 0} (p : X → Bool) (xs : List X) (i : ℕ) (x : X) → slice_get xs i ≡ Some x → list_any p xs ≡ false → p x ≡ false
any_false_at p [] i x at h = absurd cc
any_false_at p (y ∷ xs) zero x at h = let is : y ≡ x = cc in subst (λ z. p z ≡ false) is (or_parts (p y) (list_any p xs) h).0
any_false_at p (y ∷ xs) (suc i) x at h = any_false_at p xs i x at (or_parts (p y) (list_any p xs) h).1

-- what is open in a record of a kind that has status bytes, and of one that has none
abbrev pub opened : Layout → Bool → List Field
opened l has = l.link ∷ (cond has (status_bytes ∷ []) [])

below_field : (f : Field) (k : ℕ) → k < f.at → is_in f k ≡ false
below_field f k low = and_left _ _ (lt-leb f.at k low)

above_field : (f : Field) (k : ℕ) → f.at + f.width ≤ k → is_in f k ≡ false
above_field f k high = and_right _ _ (le-ltb k (f.at + f.width) high)

not_status : (has : Bool) (k : ℕ) → (has ≡ true → k < 168) → list_any (λ f. is_in f k) (cond has (status_bytes ∷ []) []) ≡ false
not_status true k low = or_from _ _ (below_field status_bytes k (low refl)) refl
not_status false k low = refl

module _ (l : Layout) (own : IsQueueLayout l) (has : Bool) (r s : List ℕ) (agree : AgreeBut (opened l has) r s) where
  pub low_byte : (k : ℕ) → k < 4 → byte_at s k ≡ byte_at r k
  low_byte k low =
      agree.bytes k (or_from _ _ (below_field l.link k (omega (arith, low, own.link_from))) (not_status has k (λ e. omega (arith, low))))

  pub told_byte : (k : ℕ) → 8 ≤ k → (has ≡ true → k < 168) → byte_at s k ≡ byte_at r k
  told_byte k from to = agree.bytes k (or_from _ _ (above_field l.link k (omega (arith, from, own.link_to))) (not_status has k to))

  pub low_part : (at width : ℕ) → at + width ≤ 4 → part s at width ≡ part r at width
  low_part at width to = part_agrees r s at width agree.size (λ k a b. low_byte k (omega (arith, b, to)))

  pub told_part : (at width : ℕ) → 8 ≤ at → at + width ≤ 168 → part s at width ≡ part r at width
  told_part at width from to = part_agrees r s at width agree.size (λ k a b. told_byte k (omega (arith, a, from)) (λ e. omega (arith, b, to)))

  pub open_part : (at width : ℕ) → 8 ≤ at → has ≡ false → part s at width ≡ part r at width
  open_part at width from none =
      part_agrees r s at width agree.size (λ k a b. told_byte k (omega (arith, a, from)) (λ e. let no : true ≡ false = sym e ∙ none in absurd cc))

  pub told_number : (f : Field) → IsBetween f → number_at s f ≡ number_at r f
  told_number f b = ap number_of (told_part f.at f.width b.from b.to)

  pub unused_same : (named : List Field) (i : ℕ) → slice_get named 2 ≡ Some l.link → (has ≡ true → slice_get named i ≡ Some status_bytes) →
      is_zero_but named s ≡ is_zero_but named r
  unused_same named i link status = zero_agrees named r s 0 agree.size (λ j k e out.
      let is : k ≡ j = omega (arith, e) in
      agree.bytes j (subst (λ z. list_any (λ f. is_in f z) (opened l has) ≡ false) is
      (or_from _ _ (any_false_at (λ f. is_in f k) named 2 l.link link out) (out_of has k refl out))))
    where
      out_of : (b : Bool) (k : ℕ) → has ≡ b → list_any (λ f. is_in f k) named ≡ false → list_any (λ f. is_in f k) (cond has (status_bytes ∷ []) []) ≡ false
      out_of true k e out =
          ap (λ t. list_any (λ f. is_in f k) (cond t (status_bytes ∷ []) [])) e
          ∙ or_from _ _ (any_false_at (λ f. is_in f k) named i status_bytes (status e) out) refl
      out_of false k e out = ap (λ t. list_any (λ f. is_in f k) (cond t (status_bytes ∷ []) [])) e
