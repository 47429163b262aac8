-- Fields of no bytes among others change nothing.
use Rattle.std.proofs.Common.{◌≡◌, ℕ, ◌+◌, ◌==◌, Bool, true, false, ◌&&◌, ◌||◌, List, [], ◌∷◌, ◌++◌, append_assoc, refl, sym, ap, ◌∙◌, arith}
use Rattle.std.specs.List.{list_any}
use Rattle.std.proofs.lemmas.Bool.{and_right, le-ltb}
use Rattle.cb_meaning.specs.declared.layout.Field.{Field}
use Rattle.cb_meaning.specs.declared.layout.Layout.{Layout}
use Rattle.cb_meaning.specs.Fields.{byte_at, field, is_in, is_zero_but, zero_from}
use Rattle.cb_meaning.specs.Walks.{fields_if, has_cards, is_set, is_sysout, siot_fields_used}
use Rattle.cb_walk.specs.Used.{field_if, fields_or_none}

in_none : (k : ℕ) → is_in (field 0 0) k ≡ false
in_none k = and_right _ _ (le-ltb k 0 (omega arith))

same_in : (fs gs : List Field) → ((k : ℕ) → list_any (λ f. is_in f k) fs ≡ list_any (λ f. is_in f k) gs) → (k : ℕ) (bytes : List ℕ) →
    zero_from fs k bytes ≡ zero_from gs k bytes
same_in fs gs same k [] = refl
same_in fs gs same k (b ∷ bytes) =
    ap (λ x. (x || b == 0) && zero_from fs (k + 1) bytes) (same k)
    ∙ ap (λ x. (list_any (λ f. is_in f k) gs || b == 0) && x) (same_in fs gs same (k + 1) bytes)

one : (p : Field → Bool) → p (field 0 0) ≡ false → (used : Bool) (f : Field) (xs ys : List Field) → list_any p xs ≡ list_any p ys →
    list_any p (field_if used f ∷ xs) ≡ list_any p (fields_if used (f ∷ []) ++ ys)
one p none true f xs ys h = ap (λ x. p f || x) h
one p none false f xs ys h = ap (λ x. x || list_any p xs) none ∙ h

four : (p : Field → Bool) → p (field 0 0) ≡ false → (used : Bool) (f g h i : Field) (xs ys : List Field) → list_any p xs ≡ list_any p ys →
    list_any p (field_if used f ∷ field_if used g ∷ field_if used h ∷ field_if used i ∷ xs) ≡ list_any p (fields_if used (f ∷ g ∷ h ∷ i ∷ []) ++ ys)
four p none true f g h i xs ys e = ap (λ x. p f || (p g || (p h || (p i || x)))) e
four p none false f g h i xs ys e = ap (λ x. x || (x || (x || (x || list_any p xs)))) none ∙ e

two : (p : Field → Bool) → p (field 0 0) ≡ false → (used : Bool) (f g : Field) →
    list_any p (field_if used f ∷ field_if used g ∷ []) ≡ list_any p (fields_if used (f ∷ g ∷ []))
two p none true f g = refl
two p none false f g = ap (λ x. x || (x || false)) none

any_same : (p : Field → Bool) → p (field 0 0) ≡ false → (l : Layout) (r : List ℕ) →
    list_any p (fields_or_none l (is_set r) (is_set r && byte_at r 28 == 3) (is_sysout r) (has_cards r)) ≡ list_any p (siot_fields_used l r)
any_same p none l r =
    let set : List Field = fields_if (is_set r) (l.below ∷ field 13 3 ∷ field 28 1 ∷ field 34 6 ∷ []) in
    let referred : List Field = fields_if (is_set r && byte_at r 28 == 3) (field 30 4 ∷ []) in
    let sysout : List Field = fields_if (is_sysout r) (field 25 1 ∷ []) in
    let cards : List Field = fields_if (has_cards r) (l.below ∷ l.cards ∷ []) in
    let last = two p none (has_cards r) l.below l.cards in
    let third = one p none (is_sysout r) (field 25 1) (field_if (has_cards r) l.below ∷ field_if (has_cards r) l.cards ∷ []) cards last in
    let second = one p none (is_set r && byte_at r 28 == 3) (field 30 4)
    (field_if (is_sysout r) (field 25 1) ∷ field_if (has_cards r) l.below ∷ field_if (has_cards r) l.cards ∷ []) (sysout ++ cards) third in
    let first = four p none (is_set r) l.below (field 13 3) (field 28 1) (field 34 6)
    (field_if (is_set r && byte_at r 28 == 3) (field 30 4) ∷ field_if (is_sysout r) (field 25 1) ∷ field_if (has_cards r) l.below
    ∷ field_if (has_cards r) l.cards ∷ []) (referred ++ (sysout ++ cards)) second in
    let order = append_assoc (set ++ referred) sysout cards ∙ append_assoc set referred (sysout ++ cards) in
    ap (λ x. p (field 0 1) || (p (field 2 2) || (p l.link || (p l.next_dd || (p (field 12 1) || (p (field 16 9) || (p (field 168 8) || x)))))))
    (first ∙ ap (list_any p) (sym order))

pub used_alike : (l : Layout) (r : List ℕ) →
    is_zero_but (fields_or_none l (is_set r) (is_set r && byte_at r 28 == 3) (is_sysout r) (has_cards r)) r ≡ is_zero_but (siot_fields_used l r) r
used_alike l r =
    same_in (fields_or_none l (is_set r) (is_set r && byte_at r 28 == 3) (is_sysout r) (has_cards r)) (siot_fields_used l r)
    (λ k. any_same (λ f. is_in f k) (in_none k) l r) 0 r
