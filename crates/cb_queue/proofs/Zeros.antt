-- records of zeros, some more of them
use Rattle.std.proofs.Common.{◌≡◌, ℕ, ◌+◌, ◌≤◌, List, ◌++◌, length, replicate, take, sym, ap, ◌∙◌}
use Rattle.std.proofs.lemmas.List.{length-replicate, replicate-append-replicate, take-replicate}

added : (z y : List ℕ) (records new : List (List ℕ)) (some : ℕ) → records ≡ replicate (length records) z → some ≤ 16 → y ≡ z →
    new ≡ records ++ take some (replicate 16 y) → new ≡ replicate (length records + some) z
added z y records new some is few same new_is =
    new_is
    ∙ ap (λ (r : List ℕ). records ++ take some (replicate 16 r)) same
    ∙ ap (λ (tail : List (List ℕ)). records ++ tail) (take-replicate some 16 z few)
    ∙ ap (λ (front : List (List ℕ)). front ++ replicate some z) is
    ∙ replicate-append-replicate (length records) some z

pub more_size : (z y : List ℕ) (records new : List (List ℕ)) (some : ℕ) → records ≡ replicate (length records) z → some ≤ 16 → y ≡ z →
    new ≡ records ++ take some (replicate 16 y) → length new ≡ length records + some
more_size z y records new some is few same new_is = ap length (added z y records new some is few same new_is) ∙ length-replicate (length records + some) z

pub more_zeros : (z y : List ℕ) (records new : List (List ℕ)) (some : ℕ) → records ≡ replicate (length records) z → some ≤ 16 → y ≡ z →
    new ≡ records ++ take some (replicate 16 y) → new ≡ replicate (length new) z
more_zeros z y records new some is few same new_is =
    added z y records new some is few same new_is ∙ ap (λ n. replicate n z) (sym (more_size z y records new some is few same new_is))
