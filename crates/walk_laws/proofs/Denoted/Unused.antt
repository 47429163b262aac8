-- Where fewer fields are used, the bytes of the others are zero.
use Rattle.std.proofs.Common.{◌≡◌, ◌==◌, ◌+◌, ◌≤◌, ◌<◌, ◌⊎◌, ◌&&◌, ◌||◌, arith, ℕ, zero, suc, Bool, true, List, [], ◌∷◌, ◌++◌, get_or, Some, refl, sym, ap, ◌∙◌, inl, inr}
use Rattle.std.specs.Prelude.{nat_le, nat_lt, slice_get}
use Rattle.std.specs.List.{list_all, list_any}
use Rattle.std.proofs.lemmas.Bool.{and_from, and_parts, cases_lt, eq-eqb, le-leb, leb-true, lt-ltb, ltb-true, or_cases, or_left, or_right, true≢false}
use Rattle.cb_meaning.specs.declared.layout.Field.{Field}
use Rattle.cb_meaning.specs.declared.layout.Layout.{Layout}
use Rattle.cb_meaning.specs.Fields.{byte_at, field, is_in, is_zero_but, number_at, part, zero_from}
use Rattle.cb_meaning.specs.Spelled.{common, status_bytes}
use Rattle.cb_meaning.specs.Walks.{fields_if, has_cards, is_set, is_sysout, siot_fields_used}
use Rattle.walk_laws.proofs.Denoted.Bytes.{zero_byte, zeros_of}

abbrev is_used : List Field → ℕ → Bool
is_used used k = list_any (λ f. is_in f k) used

abbrev pub Covered : List Field → List ℕ → Field → Type 0
Covered used r f = (k : ℕ) → is_in f k ≡ true → (is_used used k ≡ true) ⊎ (byte_at r k ≡ 0)

abbrev pub AreCovered : List Field → List ℕ → List Field → Type 0
AreCovered used r [] = Unit {0}
AreCovered used r (f ∷ fields) = Covered used r f × AreCovered used r fields

one_covers : (used : List Field) (r : List ℕ) (fields : List Field) (k : ℕ) → AreCovered used r fields → is_used fields k ≡ true →
    (is_used used k ≡ true) ⊎ (byte_at r k ≡ 0)
one_covers used r [] k h e = absurd (true≢false (sym e))
one_covers used r (f ∷ fields) k h e =
    elim (or_cases (is_in f k) (is_used fields k) e) [
      | inl here ↦ h.0 k here
      | inr behind ↦ one_covers used r fields k h.1 behind
    ]

zero_fewer : (all used : List Field) (r bytes : List ℕ) (k : ℕ) → ((i : ℕ) → byte_at r (k + i) ≡ get_or bytes i 0) → AreCovered used r all →
    zero_from all k bytes ≡ true → zero_from used k bytes ≡ true
zero_fewer all used r [] k same h e = refl
zero_fewer all used r (b ∷ bytes) k same h e =
    let parts = and_parts (is_used all k || b == 0) (zero_from all (k + 1) bytes) e in
    let place : k + 0 ≡ k = omega arith in
    let here : byte_at r k ≡ b = ap (λ n. byte_at r n) (sym place) ∙ same 0 in
    let one : (is_used used k || b == 0) ≡ true =
    elim (or_cases (is_used all k) (b == 0) parts.0) [
      | inl in_all ↦
          elim (one_covers used r all k h in_all) [
            | inl in_used ↦ or_left (is_used used k) (b == 0) in_used
            | inr is_zero ↦ or_right (is_used used k) (b == 0) (eq-eqb b 0 (sym here ∙ is_zero))
          ]
      | inr is_zero ↦ or_right (is_used used k) (b == 0) is_zero
    ] in
    and_from (is_used used k || b == 0) (zero_from used (k + 1) bytes) one
    (zero_fewer all used r bytes (k + 1)
    (λ i. let next : k + 1 + i ≡ k + suc i = omega arith in ap (λ n. byte_at r n) next ∙ same (suc i)) h parts.1)

pub zero_but_fewer : (all used : List Field) (r : List ℕ) → AreCovered used r all → is_zero_but all r ≡ true → is_zero_but used r ≡ true
zero_but_fewer all used r h e =
    zero_fewer all used r r 0 (λ i. let place : 0 + i ≡ i = omega arith in ap (λ n. byte_at r n) place) h e

-- how a field is covered: it is used, its bytes are zero, or both hold of parts
in_range : (f : Field) (k : ℕ) → is_in f k ≡ true → (f.at ≤ k) × (k < f.at + f.width)
in_range f k h =
    let parts = and_parts (nat_le f.at k) (nat_lt k (f.at + f.width)) h in (leb-true f.at k parts.0, ltb-true k (f.at + f.width) parts.1)

from_range : (f : Field) (k : ℕ) → f.at ≤ k → k < f.at + f.width → is_in f k ≡ true
from_range f k low high = and_from (nat_le f.at k) (nat_lt k (f.at + f.width)) (le-leb f.at k low) (lt-ltb k (f.at + f.width) high)

at_place : (used : List Field) (i : ℕ) (f : Field) → slice_get used i ≡ Some f → (k : ℕ) → is_in f k ≡ true → is_used used k ≡ true
at_place [] i f e k h = absurd cc
at_place (g ∷ used) zero f e k h = let is : g ≡ f = cc in or_left (is_in g k) (is_used used k) (ap (λ (x : Field). is_in x k) is ∙ h)
at_place (g ∷ used) (suc i) f e k h = or_right (is_in g k) (is_used used k) (at_place used i f e k h)

module _ (used : List Field) (r : List ℕ) where
  pub by_use : (i : ℕ) (f : Field) → slice_get used i ≡ Some f → Covered used r f
  by_use i f e k h = inl (at_place used i f e k h)

  pub by_zeros : (f : Field) → list_all (λ b. b == 0) (part r f.at f.width) ≡ true → Covered used r f
  by_zeros f zeros k h = let range = in_range f k h in inr (zero_byte r f.at f.width k zeros range.0 range.1)

  pub by_number : (f : Field) → number_at r f ≡ 0 → Covered used r f
  by_number f e = by_zeros f (zeros_of r f e)

  pub by_byte : (at : ℕ) → byte_at r at ≡ 0 → Covered used r (field at 1)
  by_byte at e k h =
      let range = in_range (field at 1) k h in
      let low : at ≤ k = range.0 in
      let high : k < at + 1 = range.1 in
      let is : k ≡ at = omega (arith, low, high) in
      inr (ap (λ n. byte_at r n) is ∙ e)

  pub by_parts : (at m n : ℕ) → Covered used r (field at m) → Covered used r (field (at + m) n) → Covered used r (field at (m + n))
  by_parts at m n first second k h =
      let range = in_range (field at (m + n)) k h in
      let low : at ≤ k = range.0 in
      let high : k < at + (m + n) = range.1 in
      elim (cases_lt k (at + m)) [
        | inl less ↦ first k (from_range (field at m) k low less)
        | inr more ↦ second k (from_range (field (at + m) n) k more (omega (arith, high)))
      ]

-- the fields of an SIOT, and those that a kind uses
abbrev pub siot_fields : Layout → List Field
siot_fields l =
    common l ++ l.next_dd ∷ l.below ∷ field 12 4 ∷ field 16 10 ∷ l.cards ∷ field 28 1 ∷ field 30 10 ∷ status_bytes ∷ []

abbrev pub used_by : Layout → Bool → Bool → Bool → Bool → List Field
used_by l set referred sysout cards =
    common l ++ l.next_dd ∷ field 12 1 ∷ field 16 9 ∷ status_bytes
    ∷ (fields_if set (l.below ∷ field 13 3 ∷ field 28 1 ∷ field 34 6 ∷ [])
    ++ fields_if referred (field 30 4 ∷ [])
    ++ fields_if sysout (field 25 1 ∷ [])
    ++ fields_if cards (l.below ∷ l.cards ∷ []))

pub zero_but_used : (l : Layout) (r : List ℕ) (set referred sysout cards : Bool) → is_set r ≡ set → (is_set r && byte_at r 28 == 3) ≡ referred →
    is_sysout r ≡ sysout →
    has_cards r ≡ cards → is_zero_but (used_by l set referred sysout cards) r ≡ true → is_zero_but (siot_fields_used l r) r ≡ true
zero_but_used l r set referred sysout cards e f g h rest = (λ i. is_zero_but (used_by l (e i) (f i) (g i) (h i)) r) ∙ rest

-- what each kind uses is covered, and so the rest is left
module _ (l : Layout) (r : List ℕ) (set referred sysout cards : Bool) where
  abbrev fields : List Field
  fields = used_by l set referred sysout cards

  pub zero_but_these : Covered fields r l.below → Covered fields r (field 13 3) → Covered fields r (field 25 1) → Covered fields r l.cards →
      Covered fields r (field 28 1) → Covered fields r (field 30 10) → is_zero_but (siot_fields l) r ≡ true → is_zero_but fields r ≡ true
  zero_but_these below words class count volume numbers e =
      let kind : Covered fields r (field 12 4) = by_parts fields r 12 1 3 (by_use fields r 4 (field 12 1) refl) words in
      let name : Covered fields r (field 16 10) = by_parts fields r 16 9 1 (by_use fields r 5 (field 16 9) refl) class in
      let later : AreCovered fields r (l.cards ∷ field 28 1 ∷ field 30 10 ∷ status_bytes ∷ []) =
      (count, (volume, (numbers, (by_use fields r 6 status_bytes refl, tt)))) in
      let middle : AreCovered fields r (l.next_dd ∷ l.below ∷ field 12 4 ∷ field 16 10 ∷ l.cards ∷ field 28 1 ∷ field 30 10 ∷ status_bytes ∷ []) =
      (by_use fields r 3 l.next_dd refl, (below, (kind, (name, later)))) in
      let all : AreCovered fields r (siot_fields l) =
      (by_use fields r 0 (field 0 1) refl, (by_use fields r 1 (field 2 2) refl, (by_use fields r 2 l.link refl, middle))) in
      zero_but_fewer (siot_fields l) fields r all e
