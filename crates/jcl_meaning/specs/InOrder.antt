-- What is said of a job's DDs, in the order of steps and DDs. (This profile)
use Rattle.std.specs.Prelude.{◌≡◌, ℕ, Bool, true, ◌&&◌, ◌||◌, ◌==◌, nat_lt, List, [], ◌∷◌, Option, None, Some, if◌then◌else◌}

-- whether the one of a step and a DD stands before this DD
abbrev pub is_before : ℕ → ℕ → ℕ → ℕ → Bool
is_before n d step dd = nat_lt n step || (n == step && nat_lt d dd)

-- each stands before the next
abbrev pub AreInOrder : {A : Type 0} → (A → ℕ) → (A → ℕ) → List A → Type 0
AreInOrder step_of dd_of [] = Unit {0}
AreInOrder step_of dd_of (x ∷ []) = Unit {0}
AreInOrder step_of dd_of (x ∷ next ∷ xs) =
    (is_before (step_of x) (dd_of x) (step_of next) (dd_of next) ≡ true) × AreInOrder step_of dd_of (next ∷ xs)

-- the first that is said of a DD
abbrev pub first_of : {A : Type 0} → (A → ℕ) → (A → ℕ) → List A → ℕ → ℕ → Option A
first_of step_of dd_of [] step dd = None
first_of step_of dd_of (x ∷ xs) step dd = if step_of x == step && dd_of x == dd then Some x else first_of step_of dd_of xs step dd
