-- Parts of a record that are written.
use Rattle.std.proofs.Common.{◌≡◌, ◌≢◌, ℕ, zero, suc, ◌+◌, ◌-◌, ◌<◌, ◌≤◌, ◌⊎◌, inl, inr, true, false, ◌&&◌, List, All, ◌++◌, length, get_or, take, drop, replicate, arith, ◌∙◌, ap, sym, refl, length-append, length-drop}
use Rattle.std.specs.Prelude.{nat_le, nat_lt}
use Rattle.std.proofs.lemmas.Bool.{and_left, and_parts, and_right, cases_Bool, le-ltb, leb-false, leb-true, lt-leb, ltb-false, ltb-true}
use Rattle.std.proofs.lemmas.Grind.{same_number_lists}
use Rattle.std.proofs.lemmas.List.{get_or-append_right, get_or-drop, get_or-take, get_or_append_left, length-replicate, length-take-le}
use Rattle.cb_meaning.specs.declared.layout.Field.{Field}
use Rattle.cb_meaning.specs.declared.layout.Layout.{Layout}
use Rattle.cb_meaning.specs.Fields.{field, is_in, number_at, number_of, part, two_bytes, with_part}
use Rattle.cb_meaning.specs.Spelled.{status_bytes}
use Rattle.cb_records.proofs.Kept.{part_stays}
use Rattle.cb_records.specs.Laws.{AreApart}
use Rattle.cb_records.specs.Writes.{ChangesOnly}
use Rattle.cb_queue.specs.RecordQueues.{HasOwnLink, IsInUse, unlinked, zero_record}

module _ (r : List ℕ) (at : ℕ) (bytes : List ℕ) (fits : at + length bytes ≤ length r) where
  front : length (take at r) ≡ at
  front = length-take-le at r (omega (arith, fits))

  pub length_with : length (with_part r at bytes) ≡ length r
  length_with =
      let all = length-append (take at r) (bytes ++ drop (at + length bytes) r) in
      let rest = length-append bytes (drop (at + length bytes) r) in
      let back = length-drop (at + length bytes) r in
      omega (arith, fits, front, all, rest, back)

  pub byte_inside : (k : ℕ) → k < length bytes → get_or (with_part r at bytes) (at + k) 0 ≡ get_or bytes k 0
  byte_inside k h =
      let is : at + k - at ≡ k = omega arith in
      get_or-append_right (take at r) (bytes ++ drop (at + length bytes) r) at (at + k) 0 front (omega arith)
      ∙ ap (λ i. get_or (bytes ++ drop (at + length bytes) r) i 0) is ∙ get_or_append_left bytes (drop (at + length bytes) r) 0 k h

  byte_before : (k : ℕ) → k < at → get_or (with_part r at bytes) k 0 ≡ get_or r k 0
  byte_before k h =
      get_or_append_left (take at r) (bytes ++ drop (at + length bytes) r) 0 k (omega (arith, front, h)) ∙ get_or-take at r k 0 h

  byte_behind : (k : ℕ) → at + length bytes ≤ k → get_or (with_part r at bytes) k 0 ≡ get_or r k 0
  byte_behind k h =
      let is : at + length bytes + (k - at - length bytes) ≡ k = omega (arith, h) in
      get_or-append_right (take at r) (bytes ++ drop (at + length bytes) r) at k 0 front (omega (arith, h))
      ∙ get_or-append_right bytes (drop (at + length bytes) r) (length bytes) (k - at) 0 refl (omega (arith, h))
      ∙ get_or-drop (at + length bytes) r (k - at - length bytes) 0 ∙ ap (λ i. get_or r i 0) is

-- a byte that is in no field stands before it or behind
aside : (f : Field) (k : ℕ) → is_in f k ≡ false → (k < f.at) ⊎ (f.at + f.width ≤ k)
aside f k out =
    elim (cases_Bool (nat_le f.at k)) [
      | inl from ↦ inr (ltb-false k (f.at + f.width) (sym (ap (λ b. b && nat_lt k (f.at + f.width)) from) ∙ out))
      | inr before ↦ inl (leb-false f.at k before)
    ]

-- what is written in a field changes nothing else
module _ (f : Field) (r bytes : List ℕ) (within : f.at + f.width ≤ length r) (size : length bytes ≡ f.width) where
  fits : f.at + length bytes ≤ length r
  fits = omega (arith, within, size)

  pub only : ChangesOnly f r (with_part r f.at bytes)
  only = record {
    size = length_with r f.at bytes fits;
    others = λ k out.
        elim (aside f k out) [
          | inl before ↦ byte_before r f.at bytes fits k before
          | inr behind ↦ byte_behind r f.at bytes fits k (omega (arith, behind, size))
        ];
  }

  -- a record that has these bytes in the field, and is the same elsewhere
  pub with_part_is : (new : List ℕ) → part new f.at f.width ≡ bytes → ChangesOnly f r new → new ≡ with_part r f.at bytes
  with_part_is new value change =
      same_number_lists new (with_part r f.at bytes) (change.size ∙ sym (length_with r f.at bytes fits)) (λ k _. by k (cases_Bool (is_in f k)))
    where
      in_field : (k j : ℕ) → j < f.width → f.at + j ≡ k → get_or new k 0 ≡ get_or (with_part r f.at bytes) k 0
      in_field k j h is =
          ap (λ i. get_or new i 0) (sym is) ∙ sym (get_or-take f.width (drop f.at new) j 0 h ∙ get_or-drop f.at new j 0)
          ∙ ap (λ b. get_or b j 0) value ∙ sym (byte_inside r f.at bytes fits j (omega (arith, h, size)))
          ∙ ap (λ i. get_or (with_part r f.at bytes) i 0) is

      by : (k : ℕ) → (is_in f k ≡ true) ⊎ (is_in f k ≡ false) → get_or new k 0 ≡ get_or (with_part r f.at bytes) k 0
      by k (inl in_it) =
          let parts = and_parts _ _ in_it in
          let from : f.at ≤ k = leb-true f.at k parts.0 in
          let below : k < f.at + f.width = ltb-true k (f.at + f.width) parts.1 in
          in_field k (k - f.at) (omega (arith, from, below)) (omega (arith, from))
      by k (inr out) = change.others k out ∙ sym (only.others k out)

-- a byte of a field is in none that is apart
pub not_in : (f g : Field) (k : ℕ) → AreApart f g → is_in f k ≡ true → is_in g k ≡ false
not_in f g k apart in_it =
    let parts = and_parts _ _ in_it in
    let from : f.at ≤ k = leb-true f.at k parts.0 in
    let below : k < f.at + f.width = ltb-true k (f.at + f.width) parts.1 in
    elim apart [
      | inl before ↦ and_left _ _ (lt-leb g.at k (omega (arith, before, below)))
      | inr behind ↦ and_right _ _ (le-ltb k (g.at + g.width) (omega (arith, behind, from)))
    ]

-- each byte of zeros is zero, and past their end
pub zero_at : (n k : ℕ) → get_or (replicate {A = ℕ} n 0) k 0 ≡ 0
zero_at zero k = refl
zero_at (suc n) zero = refl
zero_at (suc n) (suc k) = zero_at n k

-- records in use
module _ (l : Layout) (own : HasOwnLink l) where
  pub in_use_put : (r : List ℕ) → length r ≡ 176 → number_at r (field 2 2) ≢ 0 → All (λ b. b < 256) (unlinked l r) → IsInUse l (unlinked l r)
  in_use_put r whole owner bytes =
      let size : length (replicate l.link.width 0) ≡ l.link.width = length-replicate {A = ℕ} l.link.width 0 in
      let within : l.link.at + l.link.width ≤ length r = (let w = own.fits.link.within in omega (arith, w, whole)) in
      let change = only l.link r (replicate l.link.width 0) within size in
      record {
        size = change.size ∙ whole;
        bytes = bytes;
        owner = λ none. owner (sym (ap number_of (part_stays l.link (field 2 2) r (unlinked l r) change own.owner)) ∙ none);
        link = λ k in_it.
            let parts = and_parts _ _ in_it in
            let from : l.link.at ≤ k = leb-true l.link.at k parts.0 in
            let below : k < l.link.at + l.link.width = ltb-true k (l.link.at + l.link.width) parts.1 in
            let is : l.link.at + (k - l.link.at) ≡ k = omega (arith, from) in
            ap (λ i. get_or (unlinked l r) i 0) (sym is)
            ∙ byte_inside r l.link.at (replicate l.link.width 0) (omega (arith, within, size)) (k - l.link.at) (omega (arith, from, below, size))
            ∙ zero_at l.link.width (k - l.link.at);
      }

  pub owner_put : (r : List ℕ) → length r ≡ 176 → number_at (unlinked l r) (field 2 2) ≡ number_at r (field 2 2)
  owner_put r whole =
      let size : length (replicate l.link.width 0) ≡ l.link.width = length-replicate {A = ℕ} l.link.width 0 in
      let within : l.link.at + l.link.width ≤ length r = (let w = own.fits.link.within in omega (arith, w, whole)) in
      ap number_of (part_stays l.link (field 2 2) r (unlinked l r) (only l.link r (replicate l.link.width 0) within size) own.owner)

  module _ (r status : List ℕ) (used : IsInUse l r) (size : length status ≡ 8) where
    change : ChangesOnly status_bytes r (with_part r 168 status)
    change = only status_bytes r status (let whole = used.size in omega (arith, whole)) size

    pub owner_status : number_at (with_part r 168 status) (field 2 2) ≡ number_at r (field 2 2)
    owner_status = ap number_of (part_stays status_bytes (field 2 2) r (with_part r 168 status) change (inr (omega arith)))

    pub in_use_status : All (λ b. b < 256) (with_part r 168 status) → IsInUse l (with_part r 168 status)
    in_use_status bytes = record {
      size = change.size ∙ used.size;
      bytes = bytes;
      owner = λ none. used.owner (sym owner_status ∙ none);
      link = λ k in_it. change.others k (not_in l.link status_bytes k own.status in_it) ∙ used.link k in_it;
    }

  pub owner_zero : (owner : ℕ) → number_at (zero_record owner) (field 2 2) ≡ owner
  owner_zero owner = let is : part (zero_record owner) 2 2 ≡ two_bytes owner = refl in ap number_of is ∙ omega arith

  pub in_use_zero : (owner : ℕ) → owner ≢ 0 → All (λ b. b < 256) (zero_record owner) → IsInUse l (zero_record owner)
  in_use_zero owner h bytes =
      let change = only (field 2 2) (replicate 176 0) (two_bytes owner) (let size = length-replicate {A = ℕ} 176 0 in omega (arith, size)) refl in
      record {
        size = change.size ∙ length-replicate {A = ℕ} 176 0;
        bytes = bytes;
        owner = λ none. h (sym (owner_zero owner) ∙ none);
        link = λ k in_it. change.others k (not_in l.link (field 2 2) k own.owner in_it) ∙ zero_at 176 k;
      }
