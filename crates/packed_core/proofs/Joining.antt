-- Rows beside masks, word by word.
use Rattle.std.proofs.Common.{◌≡◌, ◌++◌, ◌∷◌, ◌∙◌, ◌<◌, ℕ, zero, suc, true, false, Bool, List, [], length, get_or, max, bit_or, refl, sym, ap, arith}
use Rattle.std.specs.Prelude.{◌||◌}
use Rattle.std.specs.Int.{bit_at}
use Rattle.std.proofs.lemmas.Cmp.{nat_list_eq_equiv}
use Rattle.std.proofs.lemmas.Nat.{or_comm}
use Rattle.std.proofs.lemmas.Nat.Bits.{bit_at_or, same_from_bits}
use Rattle.packed_core.specs.Indexed.{hash_from, mixed}
use Rattle.packed_core.specs.Rows.{has_row, row_at, same_words}
use Rattle.packed_core.specs.Words.{joined_words}
use Rattle.packed_core.proofs.Standing.{words_same}

max_assoc : (x y z : ℕ) → max (max x y) z ≡ max x (max y z)
max_assoc x y z = omega arith

max_same : (x : ℕ) → max x x ≡ x
max_same x = omega arith

or_assoc : (a b c : ℕ) → bit_or (bit_or a b) c ≡ bit_or a (bit_or b c)
or_assoc a b c =
    same_from_bits (bit_or (bit_or a b) c) (bit_or a (bit_or b c))
    (λ i. bit_at_or (bit_or a b) c i ∙ ap (λ (x : ℕ). max x (bit_at c i)) (bit_at_or a b i) ∙ max_assoc (bit_at a i) (bit_at b i) (bit_at c i)
    ∙ sym (bit_at_or a (bit_or b c) i ∙ ap (max (bit_at a i)) (bit_at_or b c i)))

or_same : (a : ℕ) → bit_or a a ≡ a
or_same a = same_from_bits (bit_or a a) a (λ i. bit_at_or a a i ∙ max_same (bit_at a i))

pub joined_assoc : (a b c : List ℕ) → joined_words (joined_words a b) c ≡ joined_words a (joined_words b c)
joined_assoc [] b c = refl
joined_assoc (x ∷ a) [] c = refl
joined_assoc (x ∷ a) (y ∷ b) [] = refl
joined_assoc (x ∷ a) (y ∷ b) (z ∷ c) = λ i. or_assoc x y z i ∷ joined_assoc a b c i

pub joined_comm : (a b : List ℕ) → joined_words a b ≡ joined_words b a
joined_comm [] [] = refl
joined_comm [] (y ∷ b) = refl
joined_comm (x ∷ a) [] = refl
joined_comm (x ∷ a) (y ∷ b) = λ i. or_comm x y i ∷ joined_comm a b i

pub joined_self : (a : List ℕ) → joined_words a a ≡ a
joined_self [] = refl
joined_self (x ∷ a) = λ i. or_same x i ∷ joined_self a i

pub length-joined : (a b : List ℕ) → length b ≡ length a → length (joined_words a b) ≡ length a
length-joined [] b e = refl
length-joined (x ∷ a) [] e = absurd cc
length-joined (x ∷ a) (y ∷ b) e = ap suc (length-joined a b (let h : length b ≡ length a = omega (arith, e) in h))

pub joined_at : (a b : List ℕ) (j : ℕ) → length b ≡ length a → j < length a → get_or (joined_words a b) j 0 ≡ bit_or (get_or a j 0) (get_or b j 0)
joined_at [] b j e h = absurd (omega arith)
joined_at (x ∷ a) [] j e h = absurd cc
joined_at (x ∷ a) (y ∷ b) zero e h = refl
joined_at (x ∷ a) (y ∷ b) (suc j) e h = joined_at a b j (let g : length b ≡ length a = omega (arith, e) in g) (omega arith)

-- a list with each word
same_at : (xs ys : List ℕ) → length xs ≡ length ys → ((j : ℕ) → j < length xs → get_or xs j 0 ≡ get_or ys j 0) → xs ≡ ys
same_at [] [] e h = refl
same_at [] (y ∷ ys) e h = absurd cc
same_at (x ∷ xs) [] e h = absurd cc
same_at (x ∷ xs) (y ∷ ys) e h = λ i. h 0 (omega arith) i
    ∷ same_at xs ys (let g : length xs ≡ length ys = omega (arith, e) in g) (λ j l. h (suc j) (omega arith)) i

pub words_are : (a b all : List ℕ) → length b ≡ length a → length all ≡ length a →
    ((j : ℕ) → j < length a → get_or all j 0 ≡ bit_or (get_or a j 0) (get_or b j 0)) → all ≡ joined_words a b
words_are a b all e f each =
    same_at all (joined_words a b) (f ∙ sym (length-joined a b e))
    (λ j l. let h : j < length a = omega (arith, f) in each j h ∙ sym (joined_at a b j e h))

-- rows that are the same or not, by a test
pub words_alike : (a b : List ℕ) → a ≡ b → same_words a b ≡ true
words_alike a b e = ap (same_words a) (sym e) ∙ nat_list_eq_equiv.refl a

pub words_apart : (a b : List ℕ) → (a ≡ b → ⊥) → same_words a b ≡ false
words_apart a b apart = by (same_words a b) refl
  where
    by : (t : Bool) → same_words a b ≡ t → same_words a b ≡ false
    by true e = absurd (apart (words_same a b e))
    by false e = e

-- one word more is mixed in
pub hash_more : (h : ℕ) (row : List ℕ) (w : ℕ) → hash_from h (row ++ w ∷ []) ≡ mixed (hash_from h row) w
hash_more h [] w = refl
hash_more h (x ∷ row) w = hash_more (mixed h x) row w

-- a row that is none of these
pub none_there : (row : List ℕ) (rows : List (List ℕ)) → ((i : ℕ) → i < length rows → row_at rows i ≡ row → ⊥) → has_row row rows ≡ false
none_there row [] h = refl
none_there row (r ∷ rows) h = λ i. words_apart row r (λ e. h 0 (omega arith) (sym e)) i || none_there row rows (λ n l e. h (suc n) (omega arith) e) i
