-- Marks of which none is set, some more of them.
use Rattle.std.proofs.Common.{◌≡◌, ℕ, ◌+◌, ◌≤◌, List, ◌++◌, length, replicate, take, sym, ap, ◌∙◌}
use Rattle.std.proofs.lemmas.List.{length-replicate, replicate-append-replicate, take-replicate}

module _ (marks new : List ℕ) (piece some : ℕ) (is : marks ≡ replicate (length marks) 0) (few : some ≤ piece)
    (new_is : new ≡ marks ++ take some (replicate piece 0)) where
  added : new ≡ replicate (length marks + some) 0
  added =
      new_is ∙ ap (λ (tail : List ℕ). marks ++ tail) (take-replicate some piece 0 few)
      ∙ ap (λ (front : List ℕ). front ++ replicate some 0) is ∙ replicate-append-replicate (length marks) some 0

  pub more_size : length new ≡ length marks + some
  more_size = ap length added ∙ length-replicate (length marks + some) 0

  pub more_unset : new ≡ replicate (length new) 0
  more_unset = added ∙ ap (λ n. replicate n 0) (sym more_size)
