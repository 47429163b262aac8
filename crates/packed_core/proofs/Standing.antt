-- A row among others, and what it shows among what they show.
use Rattle.std.proofs.Common.{◌≡◌, ◌++◌, ◌∷◌, ◌<◌, ℕ, zero, suc, Bool, true, false, List, [], length, get_or, map, nat_eq, refl, sym, ap, subst, arith}
use Rattle.std.specs.Prelude.{◌||◌, Contains, Err, Ok, OnErr, OnOk, Result}
use Rattle.std.proofs.lemmas.Bool.{and_parts, eqb-true, or_left, or_right}
use Rattle.std.proofs.lemmas.Cmp.{nat_list_eq_equiv}
use Rattle.packed_core.specs.Rows.{has_row, row_at, same_words}

pub words_same : (a b : List ℕ) → same_words a b ≡ true → a ≡ b
words_same [] [] e = refl
words_same [] (y ∷ ys) e = absurd cc
words_same (x ∷ xs) [] e = absurd cc
words_same (x ∷ xs) (y ∷ ys) e =
    let both : (nat_eq x y ≡ true) × (same_words xs ys ≡ true) = and_parts (nat_eq x y) (same_words xs ys) e in
    λ i. eqb-true x y both.0 i ∷ words_same xs ys both.1 i

module _ {Y : Type 0} (f : List ℕ → Y) (row : List ℕ) where
  stands_turn : (r : List ℕ) (rows : List (List ℕ)) → (has_row row rows ≡ true → Contains (map f rows) (f row)) → (b : Bool) → same_words row r ≡ b →
      (b || has_row row rows) ≡ true → Contains (map f (r ∷ rows)) (f row)
  stands_turn r rows more true e h = (0, omega arith, ap f (sym (words_same row r e)))
  stands_turn r rows more false e h = let rest : Contains (map f rows) (f row) = more h in (suc rest.0, omega arith, rest.2)

  pub stands : (rows : List (List ℕ)) → has_row row rows ≡ true → Contains (map f rows) (f row)
  stands [] h = absurd cc
  stands (r ∷ rows) h = stands_turn r rows (stands rows) (same_words row r) refl h

  -- where rows that show the same are one, a row that shows what stands is among them
  found_at : (rows : List (List ℕ)) (k : ℕ) → k < length (map f rows) → get_or (map f rows) k (f row) ≡ f row →
      ((n : ℕ) → n < length rows → f (row_at rows n) ≡ f row → row_at rows n ≡ row) → has_row row rows ≡ true
  found_at [] k h e one = absurd (omega arith)
  found_at (r ∷ rows) zero h e one =
      or_left (same_words row r) (has_row row rows) (subst (λ x. same_words row x ≡ true) (sym (one 0 (omega arith) e)) (nat_list_eq_equiv.refl row))
  found_at (r ∷ rows) (suc k) h e one =
      or_right (same_words row r) (has_row row rows) (found_at rows k (omega arith) e (λ n l s. one (suc n) (omega arith) s))

  pub is_new : (rows : List (List ℕ)) → has_row row rows ≡ false → ((n : ℕ) → n < length rows → f (row_at rows n) ≡ f row → row_at rows n ≡ row) →
      Contains (map f rows) (f row) → ⊥
  is_new rows none one c = let e : has_row row rows ≡ true = found_at rows c.0 c.1 c.2 one in absurd cc

-- what holds of each row, after one more or none
each_more : (Q : List ℕ → Type 0) (rows : List (List ℕ)) (row : List ℕ) → ((n : ℕ) → n < length rows → Q (row_at rows n)) → Q row →
    (n : ℕ) → n < length (rows ++ row ∷ []) → Q (row_at (rows ++ row ∷ []) n)
each_more Q [] row h here zero l = here
each_more Q [] row h here (suc n) l = absurd (omega arith)
each_more Q (r ∷ rows) row h here zero l = h 0 (omega arith)
each_more Q (r ∷ rows) row h here (suc n) l = each_more Q rows row (λ m k. h (suc m) (omega arith)) here n (omega arith)

pub each_pushed : {T E : Type 0} (r : Result T E) (Q : List ℕ → Type 0) (old new : List (List ℕ)) (row : List ℕ) →
    OnOk r (new ≡ old ++ row ∷ []) → OnErr r (new ≡ old) →
    ((n : ℕ) → n < length old → Q (row_at old n)) → Q row → (n : ℕ) → n < length new → Q (row_at new n)
each_pushed (Ok x) Q old new row put kept h here =
    subst (λ (rows : List (List ℕ)). (n : ℕ) → n < length rows → Q (row_at rows n)) (sym put) (each_more Q old row h here)
each_pushed (Err x) Q old new row put kept h here = subst (λ (rows : List (List ℕ)). (n : ℕ) → n < length rows → Q (row_at rows n)) (sym kept) h
