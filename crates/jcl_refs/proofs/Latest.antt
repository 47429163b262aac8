-- The latest step, looked for one step after another.
use Rattle.std.proofs.Common.{sym, ap, ◌∙◌, refl, ◌≡◌, ℕ, ◌+◌, ◌<◌, ◌≤◌, Bool, true, false, List, [], ◌∷◌, Option, Some, None, if◌then◌else◌}
use Rattle.std.proofs.lemmas.Bool.{lt-ltb, le-ltb}
use Rattle.jcl_procs.specs.declared.step.FlatStep.{FlatStep}
use Rattle.jcl_refs.specs.Targets.{latest_from, or_else}

pub or_none : (found : Option ℕ) → or_else found None ≡ found
or_none None = refl
or_none (Some n) = refl

or_associates : (x y z : Option ℕ) → or_else (or_else x y) z ≡ or_else x (or_else y z)
or_associates None y z = refl
or_associates (Some n) y z = refl

abbrev here : Bool → ℕ → Option ℕ
here b n = if b then Some n else None

here_or : (b : Bool) (n : ℕ) (found : Option ℕ) → or_else (here b n) found ≡ (if b then Some n else found)
here_or true n found = refl
here_or false n found = refl

pub one_more : (holds : FlatStep → Bool) (n k : ℕ) (s : FlatStep) (rest : List FlatStep) (found next : Option ℕ) → n < k
    → next ≡ (if holds s then Some n else found)
    → or_else (latest_from holds (n + 1) k rest) next ≡ or_else (latest_from holds n k (s ∷ rest)) found
one_more holds n k s rest found next before is =
    ap (or_else (latest_from holds (n + 1) k rest)) (is ∙ sym (here_or (holds s) n found))
    ∙ sym (or_associates (latest_from holds (n + 1) k rest) (here (holds s) n) found)
    ∙ ap (λ b. or_else (if b then or_else (latest_from holds (n + 1) k rest) (here (holds s) n) else None) found) (sym (lt-ltb n k before))

pub none_left : (holds : FlatStep → Bool) (n k : ℕ) (steps : List FlatStep) → k ≤ n → latest_from holds n k steps ≡ None
none_left holds n k [] past = refl
none_left holds n k (s ∷ steps) past =
    ap (λ b. if b then or_else (latest_from holds (n + 1) k steps) (here (holds s) n) else None) (le-ltb n k past)
