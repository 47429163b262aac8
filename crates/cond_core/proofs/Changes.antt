-- Where the answer of a test changes.
use Rattle.std.proofs.Common.{◌≡◌, ℕ, zero, suc, ◌+◌, ◌<◌, ◌⊎◌, Bool, true, false, ◌&&◌}
use Rattle.std.proofs.Common.{nat_lt, [], ◌∷◌, get_or, Contains, arith, refl, sym, inl, inr, lit≤, subst}
use Rattle.std.proofs.lemmas.Bool.Decides.{nat_tests}
use Rattle.std.proofs.lemmas.Bool.{and_parts, lt-ltb}
use Rattle.std.proofs.lemmas.List.Elements.{Contains-append_cases, Contains-append_left, Contains-append_right}
use Rattle.jcl_plan.specs.declared.plan.Operator.{Operator}
use Rattle.jcl_plan.specs.declared.plan.Operator.TheVariants.{Gt, Ge, Eq, Lt, Le, Ne}
use Rattle.jcl_meaning.specs.History.{holds}
use Rattle.cond_core.specs.Breaks.{breaks_at, changes_at, changes_behind, listed_if}

-- what is listed under a condition
pub listed : (b : Bool) (n : ℕ) → b ≡ true → Contains (listed_if b n) n
listed true n e = (0, lit≤ tt, refl)
listed false n e = absurd cc

pub of_listed : (b : Bool) (n x : ℕ) → Contains (listed_if b n) x → (b ≡ true) × (x ≡ n)
of_listed true n x h = (refl, only h.0 h.1 h.2)
  where
    only : (k : ℕ) → k < 1 → get_or (n ∷ []) k x ≡ x → x ≡ n
    only zero p e = sym e
    only (suc k) p e = absurd (omega arith)
of_listed false n x h = absurd (omega (arith, h.1))

-- a break is at the code, or behind it
pub is_break_at : (o : Operator) (code : ℕ) → changes_at o ≡ true → Contains (breaks_at o code) code
is_break_at o code e = Contains-append_left _ _ code (listed (changes_at o) code e)

pub is_break_behind : (o : Operator) (code : ℕ) → changes_behind o ≡ true → code < 4095 → Contains (breaks_at o code) (code + 1)
is_break_behind o code e h = Contains-append_right _ _ (code + 1) (listed (changes_behind o && nat_lt code 4095) (code + 1) (rw (e, lt-ltb code 4095 h) refl))

pub break_cases : (o : Operator) (code r : ℕ) → Contains (breaks_at o code) r →
    ((changes_at o ≡ true) × (r ≡ code)) ⊎ ((changes_behind o ≡ true) × (r ≡ code + 1))
break_cases o code r h =
    elim (Contains-append_cases (listed_if (changes_at o) code) (listed_if (changes_behind o && nat_lt code 4095) (code + 1)) r h) [
      | inl left ↦ inl (of_listed (changes_at o) code r left)
      | inr right ↦ let parts = of_listed (changes_behind o && nat_lt code 4095) (code + 1) r right in
          inr ((and_parts (changes_behind o) (nat_lt code 4095) parts.0).0, parts.1)
    ]

-- between breaks the answer stays
pub alike_before : (o : Operator) (code c : ℕ) → c < 4095 → ¬ (Contains (breaks_at o code) (c + 1)) → holds o code c ≡ holds o code (c + 1)
alike_before o code c h none = by_operator o (λ e at. none (rw at (is_break_at o code e))) (λ e at. none (rw at (is_break_behind o code e (omega (arith, at)))))
  where
    by_operator : (o : Operator) → (changes_at o ≡ true → c + 1 ≡ code → ⊥) → (changes_behind o ≡ true → c + 1 ≡ code + 1 → ⊥) →
        holds o code c ≡ holds o code (c + 1)
    by_operator Gt at behind = let apart : c + 1 ≡ code → ⊥ = at refl in grind (arith, nat_tests)
    by_operator Ge at behind = let apart : c + 1 ≡ code + 1 → ⊥ = behind refl in grind (arith, nat_tests)
    by_operator Eq at behind = let apart : c + 1 ≡ code → ⊥ = at refl in let over : c + 1 ≡ code + 1 → ⊥ = behind refl in grind (arith, nat_tests)
    by_operator Lt at behind = let apart : c + 1 ≡ code + 1 → ⊥ = behind refl in grind (arith, nat_tests)
    by_operator Le at behind = let apart : c + 1 ≡ code → ⊥ = at refl in grind (arith, nat_tests)
    by_operator Ne at behind = let apart : c + 1 ≡ code → ⊥ = at refl in let over : c + 1 ≡ code + 1 → ⊥ = behind refl in grind (arith, nat_tests)

-- at a break it changes
pub apart_at : (o : Operator) (c : ℕ) → changes_at o ≡ true → holds o (c + 1) c ≡ holds o (c + 1) (c + 1) → ⊥
apart_at Gt c e same = grind (arith, nat_tests)
apart_at Ge c e same = cc
apart_at Eq c e same = grind (arith, nat_tests)
apart_at Lt c e same = cc
apart_at Le c e same = grind (arith, nat_tests)
apart_at Ne c e same = grind (arith, nat_tests)

pub apart_behind : (o : Operator) (code : ℕ) → changes_behind o ≡ true → holds o code code ≡ holds o code (code + 1) → ⊥
apart_behind Gt code e same = cc
apart_behind Ge code e same = grind (arith, nat_tests)
apart_behind Eq code e same = grind (arith, nat_tests)
apart_behind Lt code e same = grind (arith, nat_tests)
apart_behind Le code e same = cc
apart_behind Ne code e same = grind (arith, nat_tests)

pub apart_before : (o : Operator) (code c : ℕ) → Contains (breaks_at o code) (c + 1) → holds o code c ≡ holds o code (c + 1) → ⊥
apart_before o code c h same =
    elim (break_cases o code (c + 1) h) [
      | inl at ↦ (let P : ℕ → Type 0 = λ n. holds o n c ≡ holds o n (c + 1) in apart_at o c at.0 (subst P (sym at.1) same))
      | inr behind ↦ (let is : c ≡ code = omega (arith, behind.1) in let P : ℕ →
          Type 0 = λ n. holds o code n ≡ holds o code (n + 1) in apart_behind o code behind.0 (subst P is same))
    ]
