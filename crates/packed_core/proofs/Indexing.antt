-- An index of one row more.
use Rattle.std.proofs.Common.{◌≡◌, inl, inr, ◌++◌, ◌∷◌, ◌∙◌, ◌+◌, ◌<◌, ◌≤◌, ℕ, zero, suc, List, [], length, get_or, map, set, replicate, refl, sym, ap, subst, arith, length-append}
use Rattle.std.proofs.Common.{get_or-set_same, get_or-set_other}
use Rattle.std.proofs.lemmas.Bool.{cases_eq, cases_lt}
use Rattle.std.proofs.lemmas.List.{get_or_append_left, length-map, map-append}
use Rattle.packed_core.specs.declared.index.Index.{Index}
use Rattle.packed_core.specs.Indexed.{IsIndexOf, IsIndexed, hash_at, hash_from, place_in}
use Rattle.packed_core.specs.Rows.{row_at}
use Rattle.packed_core.proofs.Bits.{zeros}

-- none is known yet
pub none_indexed : (hashes : List ℕ) (places : ℕ) → 0 < places → IsIndexed hashes 0 (replicate places 0) []
none_indexed hashes places some = record {
  some = let many : length (replicate {A = ℕ} places 0) ≡ places = length_of places in omega (arith, many, some);
  size = refl;
  within = λ b. omega (arith, zeros places b);
  back = λ j h. absurd (omega arith);
  first = λ i h. absurd (omega arith);
  later = λ i j l h e. absurd (omega arith);
  at_head = λ i b e. absurd (omega (arith, e, zeros places b));
  at_next = λ i j h e. absurd (omega arith);
}
  where
    length_of : (n : ℕ) → length (replicate {A = ℕ} n 0) ≡ n
    length_of zero = refl
    length_of (suc n) = ap suc (length_of n)

-- rows behind those that are indexed
module _ (hashes more : List ℕ) (n : ℕ) (heads next : List ℕ) (all : n ≤ length hashes) (is : IsIndexed hashes n heads next) where
  abbrev here : ℕ → ℕ
  here i = place_in (length heads) (hash_at hashes i)

  abbrev there : ℕ → ℕ
  there i = place_in (length heads) (hash_at (hashes ++ more) i)

  as_before : (i : ℕ) → i < n → there i ≡ here i
  as_before i h = ap (place_in (length heads)) (get_or_append_left hashes more 0 i (omega arith))

  pub still_indexed : IsIndexed (hashes ++ more) n heads next
  still_indexed = record {
    some = is.some;
    size = is.size;
    within = is.within;
    back = is.back;
    first = λ i h. let f : i < get_or heads (here i) 0 = is.first i h in
        omega (arith, f, ap (λ (k : ℕ). get_or heads k 0) (as_before i h));
    later = λ i j l h e. is.later i j l h (sym (as_before i (omega arith)) ∙ e ∙ as_before j h);
    at_head = λ i b e. as_before i (omega (arith, e, is.within b)) ∙ is.at_head i b e;
    at_next = λ i j h e. as_before i (omega (arith, e, is.back j h)) ∙ is.at_next i j h e ∙ sym (as_before j h);
  }

-- one more is linked
module _ (hashes : List ℕ) (n : ℕ) (heads next : List ℕ) (is : IsIndexed hashes n heads next) (more longer : List ℕ) (same : length more ≡ length heads)
    (place : ℕ) (its : place ≡ place_in (length heads) (hash_at hashes n)) (now : get_or more place 0 ≡ n + 1)
    (others : (b : ℕ) → (b ≡ place → ⊥) → get_or more b 0 ≡ get_or heads b 0) (count : length longer ≡ n + 1)
    (before : (j : ℕ) → j < n → get_or longer j 0 ≡ get_or next j 0) (last : get_or longer n 0 ≡ get_or heads place 0) where
  abbrev old : ℕ → ℕ
  old i = place_in (length heads) (hash_at hashes i)

  abbrev new : ℕ → ℕ
  new i = place_in (length more) (hash_at hashes i)

  to : (i : ℕ) → new i ≡ old i
  to i = ap (λ (m : ℕ). place_in m (hash_at hashes i)) same

  is_last : (j : ℕ) → j < n + 1 → n ≤ j → j ≡ n
  is_last j h g = omega arith

  within_more : (b : ℕ) → get_or more b 0 ≤ n + 1
  within_more b =
      elim (cases_eq b place) [
        | inl e ↦ let at : get_or more b 0 ≡ n + 1 = ap (λ (k : ℕ). get_or more k 0) e ∙ now in omega (arith, at)
        | inr e ↦ omega (arith, others b e, is.within b)
      ]

  back_more : (j : ℕ) → j < n + 1 → get_or longer j 0 ≤ j
  back_more j h =
      elim (cases_lt j n) [
        | inl g ↦ omega (arith, before j g, is.back j g)
        | inr g ↦ let e : j ≡ n = is_last j h g in
            let at : get_or longer j 0 ≡ get_or heads place 0 = ap (λ (k : ℕ). get_or longer k 0) e ∙ last in
            omega (arith, at, is.within place, e)
      ]

  first_more : (i : ℕ) → i < n + 1 → i < get_or more (new i) 0
  first_more i h =
      elim (cases_eq (new i) place) [
        | inl e ↦ let at : get_or more (new i) 0 ≡ n + 1 = ap (λ (k : ℕ). get_or more k 0) e ∙ now in omega (arith, at, h)
        | inr e ↦ elim (cases_lt i n) [
          | inl g ↦ let at : get_or more (new i) 0 ≡ get_or heads (old i) 0 = others (new i) e ∙ ap (λ (k : ℕ). get_or heads k 0) (to i) in
              let f : i < get_or heads (old i) 0 = is.first i g in
              omega (arith, at, f)
          | inr g ↦ absurd (e (to i ∙ ap old (is_last i h g) ∙ sym its))
        ]
      ]

  later_more : (i j : ℕ) → i < j → j < n + 1 → new i ≡ new j → i < get_or longer j 0
  later_more i j l h e =
      elim (cases_lt j n) [
        | inl g ↦ let f : i < get_or next j 0 = is.later i j l g (sym (to i) ∙ e ∙ to j) in omega (arith, f, before j g)
        | inr g ↦ let s : j ≡ n = is_last j h g in
            let at : get_or longer j 0 ≡ get_or heads (old i) 0 = ap (λ (k : ℕ). get_or longer k 0) s ∙ last
            ∙ ap (λ (k : ℕ). get_or heads k 0) (its ∙ ap old (sym s) ∙ sym (to j) ∙ sym e ∙ to i) in
            let f : i < get_or heads (old i) 0 = is.first i (omega (arith, l, s)) in
            omega (arith, at, f)
      ]

  at_head_more : (i b : ℕ) → get_or more b 0 ≡ i + 1 → new i ≡ b
  at_head_more i b e =
      elim (cases_eq b place) [
        | inl s ↦ let at : get_or more b 0 ≡ n + 1 = ap (λ (k : ℕ). get_or more k 0) s ∙ now in
            let one : i ≡ n = omega (arith, at, e) in
            to i ∙ ap old one ∙ sym its ∙ sym s
        | inr s ↦ to i ∙ is.at_head i b (sym (others b s) ∙ e)
      ]

  at_next_more : (i j : ℕ) → j < n + 1 → get_or longer j 0 ≡ i + 1 → new i ≡ new j
  at_next_more i j h e =
      elim (cases_lt j n) [
        | inl g ↦ to i ∙ is.at_next i j g (sym (before j g) ∙ e) ∙ sym (to j)
        | inr g ↦ let s : j ≡ n = is_last j h g in
            let at : get_or longer j 0 ≡ get_or heads place 0 = ap (λ (k : ℕ). get_or longer k 0) s ∙ last in
            to i ∙ is.at_head i place (sym at ∙ e) ∙ its ∙ ap old (sym s) ∙ sym (to j)
      ]

  pub indexed_more : IsIndexed hashes (n + 1) more longer
  indexed_more = record {
    some = omega (arith, same, is.some);
    size = count;
    within = within_more;
    back = back_more;
    first = first_more;
    later = later_more;
    at_head = at_head_more;
    at_next = at_next_more;
  }

-- as it is written
length-set : (xs : List ℕ) (k v : ℕ) → length (set xs k v) ≡ length xs
length-set [] k v = refl
length-set (x ∷ xs) zero v = refl
length-set (x ∷ xs) (suc k) v = ap suc (length-set xs k v)

last_of : (xs : List ℕ) (x : ℕ) → get_or (xs ++ x ∷ []) (length xs) 0 ≡ x
last_of [] x = refl
last_of (y ∷ xs) x = last_of xs x

pub linked : (hashes : List ℕ) (n : ℕ) (heads next : List ℕ) (hash : ℕ) → IsIndexed hashes n heads next → hash_at hashes n ≡ hash → (more longer : List ℕ) →
    longer ≡ next ++ get_or heads (place_in (length heads) hash) 0 ∷ [] → more ≡ set heads (place_in (length heads) hash) (length next + 1) →
    IsIndexed hashes (n + 1) more longer
linked hashes n heads next hash is here more longer puts sets =
    let place : ℕ = place_in (length heads) hash in
    let within : place < length heads = omega (arith, is.some) in
    indexed_more hashes n heads next is more longer (ap (λ (l : List ℕ). length l) sets ∙ length-set heads place (length next + 1)) place
    (ap (place_in (length heads)) (sym here))
    (ap (λ (l : List ℕ). get_or l place 0) sets ∙ get_or-set_same heads place (length next + 1) 0 within ∙ ap (λ (k : ℕ). k + 1) is.size)
    (λ b apart. ap (λ (l : List ℕ). get_or l b 0) sets ∙ get_or-set_other heads place b (length next + 1) 0 apart)
    (ap (λ (l : List ℕ). length l) puts ∙ length-append next (get_or heads place 0 ∷ []) ∙ ap (λ (k : ℕ). k + 1) is.size)
    (λ j h. ap (λ (l : List ℕ). get_or l j 0) puts ∙ get_or_append_left next (get_or heads place 0 ∷ []) 0 j (omega (arith, h, is.size)))
    (ap (λ (l : List ℕ). get_or l n 0) puts ∙ ap (λ (k : ℕ). get_or (next ++ get_or heads place 0 ∷ []) k 0) (sym is.size) ∙ last_of next (get_or heads place 0))

-- an index of no row
pub index_of_none : (index : Index) (places : ℕ) → 0 < places → index.hashes.items ≡ [] → index.heads.items ≡ replicate places 0 → index.next.items ≡ [] →
    IsIndexOf [] index
index_of_none index places some hashes heads next = record {
  hashes = hashes;
  places = subst (λ (l : List ℕ). IsIndexed index.hashes.items 0 index.heads.items l) (sym next)
      (subst (λ (l : List ℕ). IsIndexed index.hashes.items 0 l []) (sym heads) (none_indexed index.hashes.items places some));
}

-- and of rows and one more
module _ (rows : List (List ℕ)) (row : List ℕ) (old new : Index) (is : IsIndexOf rows old) (hash : ℕ) (its : hash ≡ hash_from 0 row)
    (puts : new.hashes.items ≡ old.hashes.items ++ hash ∷ [])
    (next : new.next.items ≡ old.next.items ++ get_or old.heads.items (place_in (length old.heads.items) hash) 0 ∷ [])
    (heads : new.heads.items ≡ set old.heads.items (place_in (length old.heads.items) hash) (length old.next.items + 1)) where
  hashes_more : new.hashes.items ≡ map (hash_from 0) (rows ++ row ∷ [])
  hashes_more = puts ∙ (λ i. is.hashes i ++ its i ∷ []) ∙ sym (map-append (hash_from 0) rows (row ∷ []))

  many : length old.hashes.items ≡ length rows
  many = ap (λ (l : List ℕ). length l) is.hashes ∙ length-map rows (hash_from 0)

  last_hash : hash_at (old.hashes.items ++ hash ∷ []) (length rows) ≡ hash
  last_hash = ap (hash_at (old.hashes.items ++ hash ∷ [])) (sym many) ∙ last_of old.hashes.items hash

  all_linked : IsIndexed (old.hashes.items ++ hash ∷ []) (length rows + 1) new.heads.items new.next.items
  all_linked =
      linked (old.hashes.items ++ hash ∷ []) (length rows) old.heads.items old.next.items hash
      (still_indexed old.hashes.items (hash ∷ []) (length rows) old.heads.items old.next.items (omega (arith, many)) is.places) last_hash
      new.heads.items new.next.items next heads

  pub index_linked : IsIndexOf (rows ++ row ∷ []) new
  index_linked = record {
    hashes = hashes_more;
    places = subst (λ (n : ℕ). IsIndexed new.hashes.items n new.heads.items new.next.items) (sym (length-append rows (row ∷ [])))
        (subst (λ (l : List ℕ). IsIndexed l (length rows + 1) new.heads.items new.next.items) (sym puts) all_linked);
  }

-- what the words of one of the rows come to
pub hash_there : (rows : List (List ℕ)) (index : Index) → IsIndexOf rows index → (n : ℕ) → n < length rows → hash_at index.hashes.items n ≡ hash_from 0 (row_at rows n)
hash_there rows index is n h = ap (λ (l : List ℕ). hash_at l n) is.hashes ∙ at rows n h
  where
    at : (rows : List (List ℕ)) (n : ℕ) → n < length rows → get_or (map (hash_from 0) rows) n 0 ≡ hash_from 0 (row_at rows n)
    at [] n h = absurd (omega arith)
    at (r ∷ rows) zero h = refl
    at (r ∷ rows) (suc n) h = at rows n (omega arith)
