-- Texts that were pushed, one behind the other.
use Rattle.std.proofs.lemmas.List.{append-nil}
use Rattle.std.proofs.Common.{◌≡◌, ℕ, List, [], ◌++◌, Result, Ok, Err, OnErr, OnOk, ap, ◌∙◌, append_assoc}

pub of_any : {T E P : Type 0} (r : Result T E) → P → OnErr r P
of_any (Ok x) p = tt
of_any (Err e) p = p

pub ok_then : {T E P Q : Type 0} (r : Result T E) → (P → Q) → OnOk r P → OnOk r Q
ok_then (Ok x) f p = f p
ok_then (Err e) f p = tt

pub err_then : {T E P Q : Type 0} (r : Result T E) → (P → Q) → OnErr r P → OnErr r Q
err_then (Ok x) f p = tt
err_then (Err e) f p = f p

pub joined : (o p q a b : List ℕ) → p ≡ o ++ a → q ≡ p ++ b → q ≡ o ++ (a ++ b)
joined o p q a b first then = then ∙ ap (λ xs. xs ++ b) first ∙ append_assoc o a b

pub joined_four : (o p q r s a b c d : List ℕ) → p ≡ o ++ a → q ≡ p ++ b → r ≡ q ++ c → s ≡ r ++ d → s ≡ o ++ (a ++ b ++ c ++ d)
joined_four o p q r s a b c d h i j k = joined o r s (a ++ b ++ c) d (joined o q r (a ++ b) c (joined o p q a b h i) j) k

pub right_four : (t a u w h : List ℕ) → t ++ a ++ u ++ (w ++ h) ≡ t ++ (a ++ (u ++ (w ++ (h ++ []))))
right_four t a u w h = simp (append_assoc, append-nil)

pub middle_four : (t a w h u : List ℕ) → t ++ a ++ (w ++ h) ++ u ≡ t ++ (a ++ (w ++ (h ++ (u ++ []))))
middle_four t a w h u = simp (append_assoc, append-nil)
