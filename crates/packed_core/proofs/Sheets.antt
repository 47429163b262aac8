-- Rows one behind another in one list of words.
use Rattle.std.proofs.Common.{◌≡◌, ◌++◌, ◌∷◌, ◌∙◌, ◌+◌, ◌-◌, ◌*◌, ◌<◌, ◌≤◌, ℕ, zero, suc, List, [], length, length-take-le, take, drop, refl, sym, ap, arith, subst}
use Rattle.std.proofs.lemmas.List.{drop-append-le, length-drop, take-append-le, take_all}
use Rattle.std.proofs.Math.Nat.{mul-le-mul_right, suc-mul}
use Rattle.std.specs.Simd.{first_chunks}
use Rattle.packed_core.specs.Rows.{AreAsLong, row_at}

pub length-chunks : (width count : ℕ) (words : List ℕ) → length (first_chunks width count words) ≡ count
length-chunks width zero words = refl
length-chunks width (suc count) words = ap suc (length-chunks width count (drop width words))

all_words : (words : List ℕ) → drop 0 words ≡ words
all_words [] = refl
all_words (w ∷ words) = refl

none_left : (n : ℕ) → drop {A = ℕ} n [] ≡ []
none_left zero = refl
none_left (suc n) = refl

drop_twice : (a b : ℕ) (words : List ℕ) → drop a (drop b words) ≡ drop (b + a) words
drop_twice a zero words = ap (drop a) (all_words words) ∙ ap (λ (n : ℕ). drop n words) (let e : a ≡ 0 + a = omega arith in e)
drop_twice a (suc b) [] = none_left a ∙ sym (none_left (suc b + a))
drop_twice a (suc b) (w ∷ words) = drop_twice a b words ∙ ap (λ (n : ℕ). drop n (w ∷ words)) (let e : suc (b + a) ≡ suc b + a = omega arith in e)

-- the row of a number
pub chunk_at : (width count n : ℕ) (words : List ℕ) → n < count → row_at (first_chunks width count words) n ≡ take width (drop (n * width) words)
chunk_at width zero n words h = absurd (omega arith)
chunk_at width (suc count) zero words h =
    ap (take width) (sym (all_words words)) ∙ ap (λ (k : ℕ). take width (drop k words)) (let e : 0 ≡ 0 * width = omega arith in e)
chunk_at width (suc count) (suc n) words h =
    chunk_at width count n (drop width words) (omega arith) ∙ ap (take width) (drop_twice (n * width) width words)
    ∙ ap (λ (k : ℕ). take width (drop k words)) (let m : suc n * width ≡ n * width + width = suc-mul n width in
    let e : width + n * width ≡ suc n * width = omega (arith, m) in e)

-- one more
pub chunk_more : (width count : ℕ) (words row : List ℕ) → length words ≡ count * width → length row ≡ width →
    first_chunks width (suc count) (words ++ row) ≡ first_chunks width count words ++ row ∷ []
chunk_more width zero [] row many wide = λ i. take_all width row (omega (arith, wide)) i ∷ []
chunk_more width zero (w ∷ words) row many wide = absurd (omega (arith, many))
chunk_more width (suc count) words row many wide =
    let more : suc count * width ≡ count * width + width = suc-mul count width in
    let within : width ≤ length words = omega (arith, many, more) in
    let rest : length (drop width words) ≡ count * width = length-drop width words ∙ (let e : length words - width ≡ count * width = omega (arith, many, more) in e) in
    λ i. take-append-le width words row within i
    ∷ (ap (first_chunks width (suc count)) (drop-append-le width words row within) ∙ chunk_more width count (drop width words) row rest wide) i

-- rows of so many words may be taken as long as that
pub same_chunks : (width count : ℕ) (words : List ℕ) (n : ℕ) → length words ≡ count * width → AreAsLong (first_chunks width count words) n →
    (first_chunks n count words ≡ first_chunks width count words) × (length words ≡ count * n)
same_chunks width zero words n many long = (refl, omega (arith, many))
same_chunks width (suc count) words n many long =
    let more : suc count * width ≡ count * width + width = suc-mul count width in
    let within : width ≤ length words = omega (arith, many, more) in
    let first : width ≡ n = sym (length-take-le width words within) ∙ long zero (omega arith) in
    subst (λ (k : ℕ). (first_chunks k (suc count) words ≡ first_chunks width (suc count) words) × (length words ≡ suc count * k)) first (refl, many)

-- it stands within
pub row_within : (width count n many : ℕ) → n < count → many ≡ count * width → n * width + width ≤ many
row_within width count n many h e =
    let up : suc n * width ≤ count * width = mul-le-mul_right width (omega arith) in
    omega (arith, e, up, suc-mul n width)
