-- A text without the blanks at its end, and those blanks after it.
use Rattle.std.proofs.Common.{◌≡◌, ℕ, suc, ◌-◌, ◌==◌, true, false, cond, Bool, List, [], ◌∷◌, ◌++◌, length, take, replicate, refl, ap, ◌∙◌, sym, arith}
use Rattle.std.proofs.lemmas.Bool.{eqb-true}
use Rattle.jcl_plan.specs.Texts.{trimmed, onto_text}
use Rattle.set_core.specs.Texts.{filled}

-- one character more before a text that is trimmed
onto : (c : ℕ) (cs ts : List ℕ) → ts ++ replicate (length cs - length ts) 32 ≡ cs → onto_text c ts ++ replicate (suc (length cs) - length (onto_text c ts)) 32 ≡ c ∷ cs
onto c cs [] e = by (c == 32) refl
  where
    blank : suc (length cs) - 0 ≡ suc (length cs - 0)
    blank = omega arith

    other : suc (length cs) - 1 ≡ length cs - 0
    other = omega arith

    by : (b : Bool) → (c == 32) ≡ b → (cond b [] (c ∷ [])) ++ replicate (suc (length cs) - length (cond b [] (c ∷ []))) 32 ≡ c ∷ cs
    by true h =
        ap (λ (k : ℕ). replicate k 32) blank ∙ ap (λ (d : ℕ). d ∷ replicate (length cs - 0) 32) (sym (eqb-true c 32 h)) ∙ ap (λ (ds : List ℕ). c ∷ ds) e
    by false h = ap (λ (k : ℕ). c ∷ replicate k 32) other ∙ ap (λ (ds : List ℕ). c ∷ ds) e
onto c cs (t ∷ ts) e =
    let fewer : suc (length cs) - suc (suc (length ts)) ≡ length cs - suc (length ts) = omega arith in
    ap (λ (k : ℕ). c ∷ t ∷ ts ++ replicate k 32) fewer ∙ ap (λ (ds : List ℕ). c ∷ ds) e

pub untrimmed : (xs : List ℕ) → trimmed xs ++ replicate (length xs - length (trimmed xs)) 32 ≡ xs
untrimmed [] = refl
untrimmed (x ∷ xs) = onto x xs (trimmed xs) (untrimmed xs)

-- where the front of a record is its text, the record is that text, filled
pub filled_front : (xs : List ℕ) (n : ℕ) → length xs ≡ 80 → take n xs ≡ trimmed xs → xs ≡ filled (take n xs)
filled_front xs n whole e = rw e (sym (ap (λ (k : ℕ). trimmed xs ++ replicate (k - length (trimmed xs)) 32) (sym whole) ∙ untrimmed xs))
