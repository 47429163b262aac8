-- Bytes compared eight at a time, and texts compared together with the zeros after them.
use Rattle.std.proofs.Common.{◌≡◌, ◌≢◌, ℕ, zero, suc, ◌<◌, ◌≤◌, ◌+◌, ◌*◌, ◌^◌, List, [], ◌∷◌, ◌++◌, length, get_or, take, drop, replicate, Ordering, Less, Equal, Greater, ◌⊎◌, ⊎_elim, inl, inr, ap, ◌∙◌, sym, refl, arith, subst}
use Rattle.std.specs.Int.{from_be_bytes, w64}
use Rattle.std.specs.Ordering.{MatchOrdering, nat_cmp, ordering_then}
use Rattle.std.specs.Cmp.Lexicographic.{slice_cmp}
use Rattle.std.proofs.Math.Nat.{mul-le-mul_right, pow-suc}
use Rattle.std.proofs.lemmas.Cmp.{ranked}
use Rattle.std.proofs.lemmas.List.{drop-drop, drop_more, get_or-drop, length-append, length-drop, length-take-le, take-append-drop, length-replicate}
use Rattle.std.proofs.lemmas.Nat.{mul-add-lt}
use Rattle.plain.specs.Words.{worth}
use Rattle.plain.proofs.Orders.{decided, from_rank, next, passed}

abbrev pub AreBytes : List ℕ → Type 0
AreBytes xs = (k : ℕ) → get_or xs k 0 < 256

then_assoc : (o p q : Ordering) → ordering_then (ordering_then o p) q ≡ ordering_then o (ordering_then p q)
then_assoc Less p q = refl
then_assoc Equal p q = refl
then_assoc Greater p q = refl

-- of two lists whose fronts are as long
pub cmp_append : (xs ys us vs : List ℕ) → length xs ≡ length ys →
    slice_cmp nat_cmp (xs ++ us) (ys ++ vs) ≡ ordering_then (slice_cmp nat_cmp xs ys) (slice_cmp nat_cmp us vs)
cmp_append [] [] us vs e = refl
cmp_append [] (y ∷ ys) us vs e = absurd (omega (arith, e))
cmp_append (x ∷ xs) [] us vs e = absurd (omega (arith, e))
cmp_append (x ∷ xs) (y ∷ ys) us vs e =
    ap (ordering_then (nat_cmp x y)) (cmp_append xs ys us vs (omega (arith, e)))
    ∙ sym (then_assoc (nat_cmp x y) (slice_cmp nat_cmp xs ys) (slice_cmp nat_cmp us vs))

pub cmp_self : (xs : List ℕ) → slice_cmp nat_cmp xs xs ≡ Equal
cmp_self [] = refl
cmp_self (x ∷ xs) = passed x x xs xs refl ∙ cmp_self xs

-- ---- eight bytes as one number

bytes_front : (n : ℕ) (xs : List ℕ) → AreBytes xs → AreBytes (take n xs)
bytes_front zero xs h k = omega arith
bytes_front (suc n) [] h k = omega arith
bytes_front (suc n) (x ∷ xs) h zero = h 0
bytes_front (suc n) (x ∷ xs) h (suc k) = bytes_front n xs (λ j. h (suc j)) k

pub bytes_within : (n i : ℕ) (xs : List ℕ) → AreBytes xs → AreBytes (take n (drop i xs))
bytes_within n i xs h = bytes_front n (drop i xs) (λ k. rw get_or-drop (h (i + k)))

worth_below : (xs : List ℕ) → AreBytes xs → worth xs < 256 ^ length xs
worth_below [] h = omega arith
worth_below (x ∷ xs) h =
    let below : x * 256 ^ length xs + worth xs < 256 ^ length xs * 256 = mul-add-lt x (256 ^ length xs) (worth xs) 256 (h 0) (worth_below xs (λ k. h (suc k))) in
    rw pow-suc below

cmp_shift : (n a b : ℕ) → nat_cmp (n + a) (n + b) ≡ nat_cmp a b
cmp_shift n a b = by (nat_cmp a b) (ranked a b (nat_cmp a b) refl)
  where
    by : (o : Ordering) → MatchOrdering o (a < b) (a ≡ b) (b < a) → nat_cmp (n + a) (n + b) ≡ o
    by Less h = from_rank (n + a) (n + b) Less (omega (arith, h))
    by Equal h = from_rank (n + a) (n + b) Equal (omega (arith, h))
    by Greater h = from_rank (n + a) (n + b) Greater (omega (arith, h))

-- the first digit decides, and else what is after it
digit_decides : (p x y u v : ℕ) → x < y → u < p → x * p + u < y * p + v
digit_decides p x y u v h k =
    let up : x * p + p ≤ y * p = row_up in
    omega (arith, up, k)
  where
    row_up : x * p + p ≤ y * p
    row_up = omega (arith, mul-le-mul_right p h)

first_digits : (p x y u v : ℕ) (rest : Ordering) → u < p → v < p → nat_cmp u v ≡ rest →
    nat_cmp (x * p + u) (y * p + v) ≡ ordering_then (nat_cmp x y) rest
first_digits p x y u v rest k l is = by (nat_cmp x y) (ranked x y (nat_cmp x y) refl)
  where
    by : (o : Ordering) → MatchOrdering o (x < y) (x ≡ y) (y < x) → nat_cmp (x * p + u) (y * p + v) ≡ ordering_then o rest
    by Less h = from_rank (x * p + u) (y * p + v) Less (digit_decides p x y u v h k)
    by Equal h = ap (λ n. nat_cmp (x * p + u) (n * p + v)) (sym h) ∙ cmp_shift (x * p) u v ∙ is
    by Greater h = from_rank (x * p + u) (y * p + v) Greater (digit_decides p y x v u h l)

pub worth_cmp : (xs ys : List ℕ) → length xs ≡ length ys → AreBytes xs → AreBytes ys → nat_cmp (worth xs) (worth ys) ≡ slice_cmp nat_cmp xs ys
worth_cmp [] [] e g h = from_rank 0 0 Equal refl
worth_cmp [] (y ∷ ys) e g h = absurd (omega (arith, e))
worth_cmp (x ∷ xs) [] e g h = absurd (omega (arith, e))
worth_cmp (x ∷ xs) (y ∷ ys) e g h =
    let as_long : length xs ≡ length ys = omega (arith, e) in
    let as_much : 256 ^ length ys ≡ 256 ^ length xs = ap (λ n. 256 ^ n) (sym as_long) in
    let below : worth ys < 256 ^ length xs = subst (λ n. worth ys < n) as_much (worth_below ys (λ k. h (suc k))) in
    ap (λ n. nat_cmp (x * 256 ^ length xs + worth xs) (y * n + worth ys)) as_much
    ∙ first_digits (256 ^ length xs) x y (worth xs) (worth ys) (slice_cmp nat_cmp xs ys) (worth_below xs (λ k. g (suc k))) below
    (worth_cmp xs ys as_long (λ k. g (suc k)) (λ k. h (suc k)))

-- what a word that differs says of all that is left
pub word_decides : (xs ys us vs : List ℕ) → length xs ≡ length ys → AreBytes xs → AreBytes ys → worth xs ≢ worth ys →
    slice_cmp nat_cmp (xs ++ us) (ys ++ vs) ≡ nat_cmp (worth xs) (worth ys)
word_decides xs ys us vs e g h apart =
    cmp_append xs ys us vs e ∙ ap (λ o. ordering_then o (slice_cmp nat_cmp us vs)) (sym (worth_cmp xs ys e g h))
    ∙ decided (worth xs) (worth ys) (slice_cmp nat_cmp us vs) apart

-- and one that does not
pub word_passes : (xs ys us vs : List ℕ) → length xs ≡ length ys → AreBytes xs → AreBytes ys → worth xs ≡ worth ys →
    slice_cmp nat_cmp (xs ++ us) (ys ++ vs) ≡ slice_cmp nat_cmp us vs
word_passes xs ys us vs e g h same =
    cmp_append xs ys us vs e
    ∙ ap (λ o. ordering_then o (slice_cmp nat_cmp us vs)) (sym (worth_cmp xs ys e g h) ∙ from_rank (worth xs) (worth ys) Equal same)

next_at : (bs : List ℕ) (i j : ℕ) → j ≡ i + 1 → i < length bs → drop i bs ≡ get_or bs i 0 ∷ drop j bs
next_at bs i j e h = drop_more bs i 0 h ∙ ap (λ n. get_or bs i 0 ∷ drop n bs) (sym e)

pub eight_at : (bs : List ℕ) (i : ℕ) → i + 8 ≤ length bs →
    take 8 (drop i bs) ≡ get_or bs i 0 ∷ get_or bs (i + 1) 0 ∷ get_or bs (i + 2) 0 ∷ get_or bs (i + 3) 0 ∷ get_or bs (i + 4) 0 ∷ get_or bs (i + 5) 0 ∷ get_or bs (i + 6) 0 ∷ get_or bs (i + 7) 0 ∷ []
eight_at bs i h =
    ap (take 8)
    (next_at bs i (i + 1) refl (omega arith)
    ∙ ap (λ r. get_or bs i 0 ∷ r) (next_at bs (i + 1) (i + 2) (omega arith) (omega arith)
    ∙ ap (λ r. get_or bs (i + 1) 0 ∷ r) (next_at bs (i + 2) (i + 3) (omega arith) (omega arith)
    ∙ ap (λ r. get_or bs (i + 2) 0 ∷ r) (next_at bs (i + 3) (i + 4) (omega arith) (omega arith)
    ∙ ap (λ r. get_or bs (i + 3) 0 ∷ r) (next_at bs (i + 4) (i + 5) (omega arith) (omega arith)
    ∙ ap (λ r. get_or bs (i + 4) 0 ∷ r) (next_at bs (i + 5) (i + 6) (omega arith) (omega arith)
    ∙ ap (λ r. get_or bs (i + 5) 0 ∷ r) (next_at bs (i + 6) (i + 7) (omega arith) (omega arith)
    ∙ ap (λ r. get_or bs (i + 6) 0 ∷ r) (next_at bs (i + 7) (i + 8) (omega arith) (omega arith)))))))))

pub worth_of_eight : (a b c d e f g h : ℕ) →
    from_be_bytes w64 (a ∷ b ∷ c ∷ d ∷ e ∷ f ∷ g ∷ h ∷ []) ≡ worth (a ∷ b ∷ c ∷ d ∷ e ∷ f ∷ g ∷ h ∷ [])
worth_of_eight a b c d e f g h = omega arith

-- ---- texts with the zeros after them

zeros_first : (zs : List ℕ) (n : ℕ) → length zs ≡ n → (slice_cmp nat_cmp (replicate n 0) zs ≡ Less) ⊎ (slice_cmp nat_cmp (replicate n 0) zs ≡ Equal)
zeros_first [] n e = subst (λ m. (slice_cmp nat_cmp (replicate m 0) [] ≡ Less) ⊎ (slice_cmp nat_cmp (replicate m 0) [] ≡ Equal)) e (inr refl)
zeros_first (z ∷ zs) n e = subst (λ m. (slice_cmp nat_cmp (replicate m 0) (z ∷ zs) ≡ Less) ⊎ (slice_cmp nat_cmp (replicate m 0) (z ∷ zs) ≡ Equal)) e (by z (zeros_first zs (length zs) refl))
  where
    by : (z : ℕ) → (slice_cmp nat_cmp (replicate (length zs) 0) zs ≡ Less) ⊎ (slice_cmp nat_cmp (replicate (length zs) 0) zs ≡ Equal) → (slice_cmp nat_cmp (0 ∷ replicate (length zs) 0) (z ∷ zs) ≡ Less) ⊎ (slice_cmp nat_cmp (0 ∷ replicate (length zs) 0) (z ∷ zs) ≡ Equal)
    by zero h = ⊎_elim (λ l. inl (passed 0 0 (replicate (length zs) 0) zs refl ∙ l)) (λ s. inr (passed 0 0 (replicate (length zs) 0) zs refl ∙ s)) h
    by (suc k) h = inl (ap (λ o. ordering_then o (slice_cmp nat_cmp (replicate (length zs) 0) zs)) (from_rank 0 (suc k) Less (omega arith)))

zeros_last : (zs : List ℕ) (n : ℕ) → length zs ≡ n → (slice_cmp nat_cmp zs (replicate n 0) ≡ Greater) ⊎ (slice_cmp nat_cmp zs (replicate n 0) ≡ Equal)
zeros_last [] n e = subst (λ m. (slice_cmp nat_cmp [] (replicate m 0) ≡ Greater) ⊎ (slice_cmp nat_cmp [] (replicate m 0) ≡ Equal)) e (inr refl)
zeros_last (z ∷ zs) n e = subst (λ m. (slice_cmp nat_cmp (z ∷ zs) (replicate m 0) ≡ Greater) ⊎ (slice_cmp nat_cmp (z ∷ zs) (replicate m 0) ≡ Equal)) e (by z (zeros_last zs (length zs) refl))
  where
    by : (z : ℕ) → (slice_cmp nat_cmp zs (replicate (length zs) 0) ≡ Greater) ⊎ (slice_cmp nat_cmp zs (replicate (length zs) 0) ≡ Equal) → (slice_cmp nat_cmp (z ∷ zs) (0 ∷ replicate (length zs) 0) ≡ Greater) ⊎ (slice_cmp nat_cmp (z ∷ zs) (0 ∷ replicate (length zs) 0) ≡ Equal)
    by zero h = ⊎_elim (λ l. inl (passed 0 0 zs (replicate (length zs) 0) refl ∙ l)) (λ s. inr (passed 0 0 zs (replicate (length zs) 0) refl ∙ s)) h
    by (suc k) h = inl (ap (λ o. ordering_then o (slice_cmp nat_cmp zs (replicate (length zs) 0))) (from_rank (suc k) 0 Greater (omega arith)))

then_less : (o p : Ordering) → (o ≡ Less) ⊎ (o ≡ Equal) → p ≡ Less → ordering_then o p ≡ Less
then_less o p h e = ⊎_elim (λ l. ap (λ x. ordering_then x p) l) (λ s. ap (λ x. ordering_then x p) s ∙ e) h

then_greater : (o p : Ordering) → (o ≡ Greater) ⊎ (o ≡ Equal) → p ≡ Greater → ordering_then o p ≡ Greater
then_greater o p h e = ⊎_elim (λ l. ap (λ x. ordering_then x p) l) (λ s. ap (λ x. ordering_then x p) s ∙ e) h

pub padded : (xs ys : List ℕ) (p q : ℕ) → length xs + p ≡ length ys + q →
    ordering_then (slice_cmp nat_cmp (xs ++ replicate p 0) (ys ++ replicate q 0)) (nat_cmp (length xs) (length ys)) ≡ slice_cmp nat_cmp xs ys
padded [] [] p q e =
    let same : q ≡ p = omega (arith, e) in
    ap (λ n. ordering_then (slice_cmp nat_cmp (replicate p 0) (replicate n 0)) (nat_cmp 0 0)) same
    ∙ ap (λ o. ordering_then o (nat_cmp 0 0)) (cmp_self (replicate p 0)) ∙ from_rank 0 0 Equal refl
padded [] (y ∷ ys) p q e =
    then_less (slice_cmp nat_cmp (replicate p 0) (y ∷ ys ++ replicate q 0)) (nat_cmp 0 (suc (length ys)))
    (zeros_first (y ∷ ys ++ replicate q 0) p (omega (arith, e, length-append ys (replicate q 0), length-replicate {A = ℕ} q 0)))
    (from_rank 0 (suc (length ys)) Less (omega arith))
padded (x ∷ xs) [] p q e =
    then_greater (slice_cmp nat_cmp (x ∷ xs ++ replicate p 0) (replicate q 0)) (nat_cmp (suc (length xs)) 0)
    (zeros_last (x ∷ xs ++ replicate p 0) q (omega (arith, e, length-append xs (replicate p 0), length-replicate {A = ℕ} p 0)))
    (from_rank (suc (length xs)) 0 Greater (omega arith))
padded (x ∷ xs) (y ∷ ys) p q e =
    then_assoc (nat_cmp x y) (slice_cmp nat_cmp (xs ++ replicate p 0) (ys ++ replicate q 0)) (nat_cmp (suc (length xs)) (suc (length ys)))
    ∙ ap (ordering_then (nat_cmp x y))
    (ap (ordering_then (slice_cmp nat_cmp (xs ++ replicate p 0) (ys ++ replicate q 0))) (next (length xs) (length ys)) ∙ padded xs ys p q (omega (arith, e)))

-- ---- the same, of what is left of two texts

two_words : (w i : ℕ) (a b : List ℕ) → slice_cmp nat_cmp (drop i a) (drop i b) ≡ slice_cmp nat_cmp (take w (drop i a) ++ drop w (drop i a)) (take w (drop i b) ++ drop w (drop i b))
two_words w i a b = λ k. slice_cmp nat_cmp (sym (take-append-drop w (drop i a)) k) (sym (take-append-drop w (drop i b)) k)

as_long_words : (w i : ℕ) (a b : List ℕ) → i + w ≤ length a → length a ≡ length b → length (take w (drop i a)) ≡ length (take w (drop i b))
as_long_words w i a b h e =
    let in_a : w ≤ length (drop i a) = simp length-drop (omega arith) in
    let in_b : w ≤ length (drop i b) = simp length-drop (omega arith) in
    length-take-le w (drop i a) in_a ∙ sym (length-take-le w (drop i b) in_b)

pub word_decides_at : (w i : ℕ) (a b : List ℕ) → i + w ≤ length a → length a ≡ length b → AreBytes a → AreBytes b → worth (take w (drop i a)) ≢ worth (take w (drop i b)) →
    slice_cmp nat_cmp (drop i a) (drop i b) ≡ nat_cmp (worth (take w (drop i a))) (worth (take w (drop i b)))
word_decides_at w i a b h e f g apart =
    two_words w i a b
    ∙ word_decides (take w (drop i a)) (take w (drop i b)) (drop w (drop i a)) (drop w (drop i b)) (as_long_words w i a b h e) (bytes_within w i a f) (bytes_within w i b g) apart

pub word_passes_at : (w i : ℕ) (a b : List ℕ) → i + w ≤ length a → length a ≡ length b → AreBytes a → AreBytes b → worth (take w (drop i a)) ≡ worth (take w (drop i b)) →
    slice_cmp nat_cmp (drop i a) (drop i b) ≡ slice_cmp nat_cmp (drop (i + w) a) (drop (i + w) b)
word_passes_at w i a b h e f g same =
    two_words w i a b
    ∙ word_passes (take w (drop i a)) (take w (drop i b)) (drop w (drop i a)) (drop w (drop i b)) (as_long_words w i a b h e) (bytes_within w i a f) (bytes_within w i b g) same
    ∙ (λ k. slice_cmp nat_cmp (drop-drop w i a k) (drop-drop w i b k))
