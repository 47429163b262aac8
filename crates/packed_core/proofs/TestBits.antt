-- The bits of tests that are kept.
use Rattle.std.proofs.Common.{◌≡◌, inl, inr, ◌∙◌, ◌+◌, ◌-◌, ◌/◌, ◌<◌, ◌≤◌, ℕ, zero, suc, Bool, true, false, List, Some, length, get_or, map, refl}
use Rattle.std.proofs.Common.{sym, ap, arith, length-append}
use Rattle.std.specs.Prelude.{if◌then◌else◌, ◌||◌, nat_lt, slice_get}
use Rattle.std.proofs.Math.Seq.{get_or-append_right}
use Rattle.std.proofs.lemmas.Bool.{cases_lt, lt-ltb, ltb-true}
use Rattle.std.proofs.lemmas.List.{get_or_append_left, length-map, same_lists}
use Rattle.std.proofs.lemmas.Option.{same_Some}
use Rattle.jcl_plan.specs.declared.outcome.Outcome.TheVariants as outcome
use Rattle.jcl_plan.specs.declared.plan.Test.{Test}
use Rattle.jcl_meaning.specs.History.{met_by}
use Rattle.packed_core.specs.declared.room.Room.{Room}
use Rattle.packed_core.specs.Classes.{IsMask, bit_at}
use Rattle.packed_core.specs.Words.{AreWords, bit, bits_from, met_of}
use Rattle.packed_core.proofs.Places.{got_image, got_or, got_there}
use Rattle.packed_core.proofs.Rows.{length-bits}

not_below : (i n : ℕ) → n ≤ i → nat_lt i n ≡ false
not_below i n h = by (nat_lt i n) refl
  where
    by : (b : Bool) → nat_lt i n ≡ b → nat_lt i n ≡ false
    by true e = absurd (omega (arith, ltb-true i n e))
    by false e = e

-- where bits stand
pub in_job : (room : Room) (i : ℕ) → i < room.job → bit_at room i ≡ i + 1
in_job room i h = ap (λ (b : Bool). if b then i + 1 else i + room.passed + 1) (lt-ltb i room.job h)

pub in_steps : (room : Room) (i : ℕ) → room.job ≤ i → bit_at room i ≡ i + room.passed + 1
in_steps room i h = ap (λ (b : Bool). if b then i + 1 else i + room.passed + 1) (not_below i room.job h)

pub apart : (room : Room) (i j : ℕ) → bit_at room i ≡ bit_at room j → i ≡ j
apart room i j e =
    elim (cases_lt i room.job) [
      | inl h ↦ elim (cases_lt j room.job) [
        | inl g ↦ omega (arith, e, in_job room i h, in_job room j g)
        | inr g ↦ absurd (omega (arith, e, in_job room i h, in_steps room j g))
      ]
      | inr h ↦ elim (cases_lt j room.job) [
        | inl g ↦ absurd (omega (arith, e, in_steps room i h, in_job room j g))
        | inr g ↦ omega (arith, e, in_steps room i h, in_steps room j g)
      ]
    ]

-- one of so many bits
bits_at : (n s i : ℕ) (row : List ℕ) (d : Bool) → i < n → get_or (bits_from n s row) i d ≡ bit row (s + i)
bits_at zero s i row d h = absurd (omega arith)
bits_at (suc n) s zero row d h = ap (bit row) (let e : s ≡ s + 0 = omega arith in e)
bits_at (suc n) s (suc i) row d h = bits_at n (suc s) i row d (omega arith) ∙ ap (bit row) (let e : suc s + i ≡ s + suc i = omega arith in e)

length-met : (room : Room) (row : List ℕ) → length (met_of room row) ≡ room.job + room.left
length-met room row =
    length-append (bits_from room.job 1 row) (bits_from room.left (room.job + room.passed + 1) row)
    ∙ (λ i. length-bits room.job 1 row i + length-bits room.left (room.job + room.passed + 1) row i)

met_at : (room : Room) (row : List ℕ) (i : ℕ) (d : Bool) → i < room.job + room.left → get_or (met_of room row) i d ≡ bit row (bit_at room i)
met_at room row i d h =
    let front : List Bool = bits_from room.job 1 row in
    let back : List Bool = bits_from room.left (room.job + room.passed + 1) row in
    let many : length front ≡ room.job = length-bits room.job 1 row in
    elim (cases_lt i room.job) [
      | inl g ↦ get_or_append_left front back d i (omega (arith, many)) ∙ bits_at room.job 1 i row d g
          ∙ ap (bit row) (let e : 1 + i ≡ bit_at room i = omega (arith, in_job room i g) in e)
      | inr g ↦ get_or-append_right front back i d (omega (arith, many))
          ∙ bits_at room.left (room.job + room.passed + 1) (i - length front) row d (omega (arith, many))
          ∙ ap (bit row) (let e : room.job + room.passed + 1 + (i - length front) ≡ bit_at room i = omega (arith, many, in_steps room i g) in e)
    ]

-- the bits of the tests before one of them
pub record ArePart (n : ℕ) (tests : List Test) (room : Room) (code i : ℕ) (mask : List ℕ) : Type 0 where
  pub size : length mask ≡ 2 + (room.job + room.passed + room.left) / 64
  pub within : AreWords mask
  pub first : get_or mask 0 0 ≡ 0
  pub done : (j : ℕ) (t : Test) → j < i → slice_get tests j ≡ Some t → bit mask (bit_at room j) ≡ met_by t n (outcome.Code code)
  pub rest : (k : ℕ) → ((j : ℕ) → j < i → bit_at room j ≡ k → ⊥) → bit mask k ≡ false

module _ (n : ℕ) (tests : List Test) (room : Room) (code i : ℕ) (old new : List ℕ) (met : Bool) (t : Test) (here : slice_get tests i ≡ Some t)
    (is : met ≡ met_by t n (outcome.Code code)) (marked : bit new (bit_at room i) ≡ (met || bit old (bit_at room i)))
    (kept : (k : ℕ) → (k ≡ bit_at room i → ⊥) → bit new k ≡ bit old k) (part : ArePart n tests room code i old) where
  or_false : (b : Bool) → (b || false) ≡ b
  or_false true = refl
  or_false false = refl

  done_more : (j : ℕ) (u : Test) → j < i + 1 → slice_get tests j ≡ Some u → bit new (bit_at room j) ≡ met_by u n (outcome.Code code)
  done_more j u below at =
      elim (cases_lt j i) [
        | inl g ↦ kept (bit_at room j) (λ e. omega (arith, g, apart room j i e)) ∙ part.done j u g at
        | inr g ↦ let same : j ≡ i = omega arith in
            ap (λ k. bit new (bit_at room k)) same ∙ marked
            ∙ ap (λ b. met || b) (part.rest (bit_at room i) (λ k before e. omega (arith, before, apart room k i e))) ∙ or_false met ∙ is
            ∙ ap (λ v. met_by v n (outcome.Code code)) (same_Some t u (sym here ∙ ap (slice_get tests) (sym same) ∙ at))
      ]

  rest_more : (k : ℕ) → ((j : ℕ) → j < i + 1 → bit_at room j ≡ k → ⊥) → bit new k ≡ false
  rest_more k h = kept k (λ e. h i (omega arith) (sym e)) ∙ part.rest k (λ j before e. h j (omega arith) e)

  pub part_more : length new ≡ length old → AreWords new → get_or new 0 0 ≡ get_or old 0 0 → ArePart n tests room code (i + 1) new
  part_more size within first = record {
    size = size ∙ part.size;
    within = within;
    first = first ∙ part.first;
    done = done_more;
    rest = rest_more;
  }

module _ (n : ℕ) (tests : List Test) (room : Room) (code : ℕ) (mask : List ℕ) (kept : length tests ≡ room.job + room.left)
    (done : (j : ℕ) (t : Test) → slice_get tests j ≡ Some t → bit mask (bit_at room j) ≡ met_by t n (outcome.Code code))
    (rest : (k : ℕ) → ((j : ℕ) → j < length tests → bit_at room j ≡ k → ⊥) → bit mask k ≡ false) where
  abbrev met : Test → Bool
  met t = met_by t n (outcome.Code code)

  met_so : met_of room mask ≡ map met tests
  met_so =
      same_lists (met_of room mask) (map met tests) (length-met room mask ∙ sym kept ∙ sym (length-map tests met))
      (λ i d h.
      let below : i < room.job + room.left = omega (arith, length-met room mask) in
      let there : (t : Test) × (slice_get tests i ≡ Some t) = got_there tests i (omega (arith, kept)) in
      met_at room mask i d below ∙ done i there.0 there.1 ∙ sym (got_or (map met tests) i (met there.0) d (got_image met tests i there.0 there.1)))

  none_at : (k : ℕ) → ((j : ℕ) → j < room.job + room.left → bit_at room j ≡ k → ⊥) → bit mask k ≡ false
  none_at k h = rest k (λ j below e. h j (omega (arith, kept)) e)

  pub mask_is : length mask ≡ 2 + (room.job + room.passed + room.left) / 64 → AreWords mask → get_or mask 0 0 ≡ 0 → IsMask n tests room code mask
  mask_is size within first = record {
    row = record {
      size = size;
      within = within;
      gap = λ i low high. none_at i (λ j below e. elim (cases_lt j room.job) [
        | inl g ↦ omega (arith, e, in_job room j g)
        | inr g ↦ omega (arith, e, in_steps room j g)
      ]);
      beyond = λ i high. none_at i (λ j below e. elim (cases_lt j room.job) [
        | inl g ↦ omega (arith, e, in_job room j g)
        | inr g ↦ omega (arith, e, in_steps room j g)
      ]);
    };
    unnumbered = first;
    calm = none_at 0 (λ j below e. elim (cases_lt j room.job) [
      | inl g ↦ omega (arith, e, in_job room j g)
      | inr g ↦ omega (arith, e, in_steps room j g)
    ]);
    met = met_so;
  }
