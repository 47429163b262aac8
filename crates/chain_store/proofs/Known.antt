-- The records of a queue, as one changes.
use Rattle.std.proofs.Common.{◌≡◌, ◌≢◌, ℕ, zero, suc, ◌+◌, ◌<◌, ◌≤◌, true, cond, List, [], ◌∷◌, ◌++◌, Option, None, Some, get_or, drop, length, map, replicate, arith, ◌∙◌, ap, sym, refl, inl, inr}
use Rattle.std.specs.Prelude.{is_some, slice_set}
use Rattle.std.proofs.lemmas.Bool.{cases_lt, ne_eqb}
use Rattle.std.proofs.lemmas.List.{get_or-map, get_or_past, map-set, replicate-append-replicate, set-append_left}
use Rattle.cb_queue.specs.RecordQueues.{owner_in}
use Rattle.cb_queue.specs.Stored.{seen_record, seen_records}
use Rattle.cb_queue.proofs.Storing.{seen_at, seen_set}

pub length-known : (os : List ℕ) (rs : List (List ℕ)) → length os ≤ length rs → length (seen_records os rs) ≡ length os
length-known [] rs h = refl
length-known (o ∷ os) [] h = absurd (omega (arith, h))
length-known (o ∷ os) (r ∷ rs) h = ap suc (length-known os rs (omega (arith, h)))

none_behind : (k i : ℕ) → get_or (replicate {A = Option (List ℕ)} k None) i None ≡ None
none_behind zero i = refl
none_behind (suc k) zero = refl
none_behind (suc k) (suc i) = none_behind k i

-- behind those that are known there are none
pub known_at : (xs : List (Option (List ℕ))) (k i : ℕ) → get_or (xs ++ replicate k None) i None ≡ get_or xs i None
known_at [] k i = none_behind k i
known_at (x ∷ xs) k zero = refl
known_at (x ∷ xs) k (suc i) = known_at xs k i

pub owned_record : (o : ℕ) (r : List ℕ) → o ≢ 0 → seen_record o r ≡ Some r
owned_record o r some = ap (λ b. cond b None (Some r)) (ne_eqb o 0 some)

module _ (os : List ℕ) (rs : List (List ℕ)) (k : ℕ) (room : length os ≤ length rs) where
  abbrev all : List (Option (List ℕ))
  all = seen_records os rs ++ replicate k None

  pub known_set : (i o : ℕ) (r : List ℕ) → i < length os → seen_records (slice_set os i o) (slice_set rs i r) ++ replicate k None ≡ slice_set all i (seen_record o r)
  known_set i o r here =
      ap (λ xs. xs ++ replicate k None) (seen_set os rs i o r)
      ∙ sym (set-append_left (seen_records os rs) (replicate k None) i (seen_record o r) (let size = length-known os rs room in omega (arith, size, here)))

  pub record_known : (i : ℕ) → i < length os → get_or all i None ≡ seen_record (get_or os i 0) (get_or rs i [])
  record_known i here = known_at (seen_records os rs) k i ∙ seen_at os rs i here (omega (arith, here, room))

  module _ (owned : map owner_in (seen_records os rs) ≡ os) where
    -- the owner of any record
    pub owner_known : (i : ℕ) → get_or os i 0 ≡ owner_in (get_or all i None)
    owner_known i =
        elim (cases_lt i (length os)) [
          | inl here ↦
              ap (λ xs. get_or xs i 0) (sym owned)
              ∙ get_or-map owner_in (seen_records os rs) i None 0 (let size = length-known os rs room in omega (arith, size, here))
              ∙ ap owner_in (sym (known_at (seen_records os rs) k i))
          | inr past ↦
              get_or_past os i 0 past
              ∙ sym (ap owner_in (known_at (seen_records os rs) k i ∙ get_or_past (seen_records os rs) i None (let size = length-known os rs room in omega (arith, size, past))))
        ]

    -- a record that is in use stands in the table, with an owner
    pub used_here : (i : ℕ) → is_some (get_or all i None) ≡ true → i < length os
    used_here i used =
        elim (cases_lt i (length os)) [
          | inl here ↦ here
          | inr past ↦
              (let none : get_or all i None ≡ None = known_at (seen_records os rs) k i ∙ get_or_past (seen_records os rs) i None (let size = length-known os rs room in omega (arith, size, past)) in
              let false_true = sym (ap is_some none) ∙ used in cc)
        ]

    pub owned_set : (i o : ℕ) (r : List ℕ) → owner_in (seen_record o r) ≡ o → map owner_in (seen_records (slice_set os i o) (slice_set rs i r)) ≡ slice_set os i o
    owned_set i o r is =
        ap (map owner_in) (seen_set os rs i o r) ∙ map-set owner_in (seen_records os rs) i (seen_record o r) ∙ ap (λ n. slice_set (map owner_in (seen_records os rs)) i n) is
        ∙ ap (λ xs. slice_set xs i o) owned

-- records of which no owner is known yet
none_owned : (n : ℕ) (rs : List (List ℕ)) → n ≤ length rs → seen_records (replicate n 0) rs ≡ replicate n None
none_owned zero rs h = refl
none_owned (suc n) [] h = absurd (omega (arith, h))
none_owned (suc n) (r ∷ rs) h = ap (λ xs. None ∷ xs) (none_owned n rs (omega (arith, h)))

pub known_more : (os : List ℕ) (rs new : List (List ℕ)) (n k m : ℕ) → length os ≤ length rs → length os + n ≤ length new →
    ((i : ℕ) → i < length rs → get_or new i [] ≡ get_or rs i []) → k ≡ n + m →
    seen_records (os ++ replicate n 0) new ++ replicate m None ≡ seen_records os rs ++ replicate k None
known_more [] rs new n k m room fits same is =
    ap (λ xs. xs ++ replicate m None) (none_owned n new (omega (arith, fits))) ∙ replicate-append-replicate n m None ∙ ap (λ c. replicate c None) (sym is)
known_more (o ∷ os) [] new n k m room fits same is = absurd (omega (arith, room))
known_more (o ∷ os) (r ∷ rs) [] n k m room fits same is = absurd (omega (arith, fits))
known_more (o ∷ os) (r ∷ rs) (s ∷ new) n k m room fits same is =
    ap (λ x. seen_record o x ∷ (seen_records (os ++ replicate n 0) new ++ replicate m None)) (same 0 (omega arith))
    ∙ ap (λ xs. seen_record o r ∷ xs)
    (known_more os rs new n k m (omega (arith, room)) (omega (arith, fits)) (λ i here. same (suc i) (omega (arith, here))) is)

no_owners : (n : ℕ) → map owner_in (replicate n None) ≡ replicate n 0
no_owners zero = refl
no_owners (suc n) = ap (λ xs. 0 ∷ xs) (no_owners n)

-- and their owners
pub owned_more : (os : List ℕ) (rs new : List (List ℕ)) (n : ℕ) → length os ≤ length rs → length os + n ≤ length new →
    ((i : ℕ) → i < length rs → get_or new i [] ≡ get_or rs i []) → map owner_in (seen_records os rs) ≡ os →
    map owner_in (seen_records (os ++ replicate n 0) new) ≡ os ++ replicate n 0
owned_more [] rs new n room fits same owned = ap (map owner_in) (none_owned n new (omega (arith, fits))) ∙ no_owners n
owned_more (o ∷ os) [] new n room fits same owned = absurd (omega (arith, room))
owned_more (o ∷ os) (r ∷ rs) [] n room fits same owned = absurd (omega (arith, fits))
owned_more (o ∷ os) (r ∷ rs) (s ∷ new) n room fits same owned =
    ap (λ x. owner_in (seen_record o x) ∷ map owner_in (seen_records (os ++ replicate n 0) new)) (same 0 (omega arith))
    ∙ ap (λ xs. owner_in (seen_record o r) ∷ xs)
    (owned_more os rs new n (omega (arith, room)) (omega (arith, fits)) (λ i here. same (suc i) (omega (arith, here))) (ap (drop 1) owned))
    ∙ ap (λ x. x ∷ (os ++ replicate n 0)) (ap (λ xs. get_or xs 0 0) owned)
