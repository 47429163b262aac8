-- Tests that all fail, and faults of which none is told.
use Rattle.std.proofs.Common.{◌≡◌, ◌||◌, ℕ, Bool, false, ◌++◌, None, ap, ◌∙◌}
use Rattle.std.proofs.lemmas.Bool.{or_from}
use Rattle.cb_meaning.specs.Walks.{lowest, told_if}

pub no_three : (a b c : Bool) → a ≡ false → b ≡ false → c ≡ false → (a || b || c) ≡ false
no_three a b c h i j = or_from (a || b) c (or_from a b h i) j

pub no_four : (a b c d : Bool) → a ≡ false → b ≡ false → c ≡ false → d ≡ false → (a || b || c || d) ≡ false
no_four a b c d h i j k = or_from (a || b || c) d (no_three a b c h i j) k

pub no_five : (a b c d e : Bool) → a ≡ false → b ≡ false → c ≡ false → d ≡ false → e ≡ false → (a || b || c || d || e) ≡ false
no_five a b c d e h i j k l = or_from (a || b || c || d) e (no_four a b c d h i j k) l

pub no_six : (a b c d e f : Bool) → a ≡ false → b ≡ false → c ≡ false → d ≡ false → e ≡ false → f ≡ false → (a || b || c || d || e || f) ≡ false
no_six a b c d e f h i j k l m = or_from (a || b || c || d || e) f (no_five a b c d e h i j k l) m

pub one_none : (n : ℕ) (a : Bool) → a ≡ false → lowest (told_if n a) ≡ None
one_none n a h = ap (λ x. lowest (told_if n x)) h

pub three_none : (n o p : ℕ) (a b c : Bool) → a ≡ false → b ≡ false → c ≡ false → lowest (told_if n a ++ told_if o b ++ told_if p c) ≡ None
three_none n o p a b c h i j =
    ap (λ x. lowest (told_if n x ++ told_if o b ++ told_if p c)) h
    ∙ (ap (λ x. lowest (told_if n false ++ told_if o x ++ told_if p c)) i ∙ ap (λ x. lowest (told_if n false ++ told_if o false ++ told_if p x)) j)

pub four_none : (n o p q : ℕ) (a b c d : Bool) → a ≡ false → b ≡ false → c ≡ false → d ≡ false →
    lowest (told_if n a ++ told_if o b ++ told_if p c ++ told_if q d) ≡ None
four_none n o p q a b c d h i j k =
    ap (λ x. lowest (told_if n x ++ told_if o b ++ told_if p c ++ told_if q d)) h
    ∙ (ap (λ x. lowest (told_if n false ++ told_if o x ++ told_if p c ++ told_if q d)) i
    ∙ (ap (λ x. lowest (told_if n false ++ told_if o false ++ told_if p x ++ told_if q d)) j
    ∙ ap (λ x. lowest (told_if n false ++ told_if o false ++ told_if p false ++ told_if q x)) k))
