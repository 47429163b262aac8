-- Bytes that are put one behind the other, with zeros behind them.
use Rattle.std.proofs.Common.{◌≡◌, ℕ, ◌+◌, ◌-◌, ◌*◌, ◌≤◌, ◌<◌, List, [], ◌∷◌, ◌++◌, length, take, drop, replicate, get_or, arith, ap, ◌∙◌, sym}
use Rattle.std.proofs.Common.{length-append, mul-le-mul_left}
use Rattle.std.specs.List.{flat_map}
use Rattle.std.proofs.lemmas.List.{append_assoc, drop-replicate, drop_at, length-replicate, length-take-le, take_at, take_more, flat_map_more}
use Rattle.cb_meaning.specs.Fields.{then_zeros}

pub put_behind_is : (n at k : ℕ) (done bytes own : List ℕ) → length done ≡ at → k ≡ length bytes → own ≡ then_zeros n done →
    take at own ++ (bytes ++ drop k (drop at own)) ≡ then_zeros n (done ++ bytes)
put_behind_is n at k done bytes own size width is =
    let zs = replicate {A = ℕ} (n - length done) 0 in
    let front : take at own ≡ done = ap (λ xs. take at xs) is ∙ take_at done zs at size in
    let left : n - length done - k ≡ n - length (done ++ bytes) = omega (arith, length-append done bytes) in
    let behind : drop k (drop at own) ≡ replicate (n - length (done ++ bytes)) 0 =
    ap (λ xs. drop k (drop at xs)) is ∙ ap (λ xs. drop k xs) (drop_at done zs at size) ∙ drop-replicate {X = ℕ} k (n - length done) 0
    ∙ ap (λ m. replicate {A = ℕ} m 0) left in
    ap (λ xs. xs ++ (bytes ++ drop k (drop at own))) front ∙ ap (λ xs. done ++ (bytes ++ xs)) behind
    ∙ sym (append_assoc done bytes (replicate {A = ℕ} (n - length (done ++ bytes)) 0))

-- as many bytes of each item
pub length_flat_map : {X : Type 0} → (f : X → List ℕ) (n : ℕ) → ((x : X) → length (f x) ≡ n) → (xs : List X) → length (flat_map f xs) ≡ n * length xs
length_flat_map f n h [] = omega arith
length_flat_map f n h (x ∷ xs) = omega (arith, length-append (f x) (flat_map f xs), h x, length_flat_map f n h xs)

-- one item more
pub flat_map_take : {X : Type 0} → (f : X → List ℕ) (xs : List X) (i : ℕ) (d : X) → i < length xs → flat_map f (take i xs) ++ f (get_or xs i d) ≡ flat_map f
    (take (i + 1) xs)
flat_map_take f xs i d h =
    flat_map_more f [] (take i xs) (get_or xs i d) ∙ ap (flat_map f) (sym (take_more xs i d h))

length_then_zeros : (n : ℕ) (xs : List ℕ) → length xs ≤ n → length (then_zeros n xs) ≡ n
length_then_zeros n xs h = omega (arith, length-append xs (replicate {A = ℕ} (n - length xs) 0), length-replicate {A = ℕ} (n - length xs) 0)

-- the bytes of one item more are put behind those of the items before it
pub more_put : {X : Type 0} → (f : X → List ℕ) (w n : ℕ) (xs : List X) (i : ℕ) (x : X) (own new bytes : List ℕ) → ((y : X) → length (f y) ≡ w) →
    w * length xs ≤ n → i < length xs → x ≡ get_or xs i x → bytes ≡ f x → own ≡ then_zeros n (flat_map f (take i xs)) →
    ((done : List ℕ) → length done ≡ w * i → own ≡ then_zeros (length own) done → new ≡ then_zeros (length own) (done ++ bytes)) →
    new ≡ then_zeros n (flat_map f (take (i + 1) xs))
more_put f w n xs i x own new bytes wide room below read is was step =
    let done = flat_map f (take i xs) in
    let size : length done ≡ w * i = length_flat_map f w wide (take i xs) ∙ ap (λ k. w * k) (length-take-le i xs (omega (arith, below))) in
    let fits : w * i ≤ w * length xs = mul-le-mul_left w (omega (arith, below)) in
    let long : length own ≡ n = ap length was ∙ length_then_zeros n done (omega (arith, size, fits, room)) in
    step done size (was ∙ ap (λ m. then_zeros m done) (sym long)) ∙ ap (λ m. then_zeros m (done ++ bytes)) long
    ∙ ap (λ ys. then_zeros n (done ++ ys)) (is ∙ ap f read) ∙ ap (then_zeros n) (flat_map_take f xs i x below)
