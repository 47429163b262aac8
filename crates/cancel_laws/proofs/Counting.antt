-- Lines counted, and the cancels of a job that have not acted.
use Rattle.std.proofs.Common.{◌≡◌, ◌≤◌, ◌+◌, ◌==◌, ◌⊎◌, inl, inr, ℕ, Bool, true, false, cond, List, [], ◌∷◌, arith, refl, ap, ◌∙◌}
use Rattle.std.specs.Prelude.{◌||◌, filter, length, map, not}
use Rattle.std.specs.List.{list_any}
use Rattle.std.proofs.lemmas.Bool.{cases_Bool, or_from, or_right}
use Rattle.std.proofs.lemmas.List.{length-append}
use Rattle.std.proofs.lemmas.List.Elements.{filter-append}
use Rattle.std.proofs.lemmas.List.Folds.{list_any-append}
use Rattle.jcl_plan.specs.declared.entry.Entry.{Entry}
use Rattle.jcl_plan.specs.declared.entry.Entry.TheVariants as entry
use Rattle.jcl_plan.specs.declared.entry.JobLine.{JobLine}
use Rattle.world_meaning.specs.Holdings.{cancels_without}
use Rattle.world_meaning.specs.Transitions.{told_with}
use Rattle.world_meaning.specs.Turns.{has_cancel}
use Rattle.world_meaning.specs.Worlds.{of_job}
use Rattle.cancel_laws.specs.Cancels.{count_in, is_s222, is_s222_of}

-- how many lines are so
abbrev pub count : (Entry → Bool) → List Entry → ℕ
count p lines = length (filter p lines)

-- a cancel that has not acted counts as one
abbrev pub left : List ℕ → ℕ → ℕ
left cancels job = cond (has_cancel cancels job) 1 0

pub counted_behind : (p : Entry → Bool) (lines : List Entry) (more : List (List Entry)) → count_in p (lines ∷ more) ≡ count p lines + count_in p more
counted_behind p lines more = ap length (filter-append p lines _) ∙ length-append (filter p lines) _

-- where none is so
pub none_counted : (p : Entry → Bool) (lines : List Entry) → list_any p lines ≡ false → count p lines ≡ 0
none_counted p [] h = refl
none_counted p (l ∷ lines) h = by (p l) h (none_counted p lines)
  where
    by : (b : Bool) → (b || list_any p lines) ≡ false → (list_any p lines ≡ false → count p lines ≡ 0) →
        length (cond b (l ∷ filter p lines) (filter p lines)) ≡ 0
    by true h rest = absurd cc
    by false h rest = rest h

-- Lines of a job are told as they are, and with a path between them.
none_of_job : (job other : ℕ) (lines : List JobLine) → list_any is_s222 lines ≡ false → list_any (is_s222_of job) (of_job other lines) ≡ false
none_of_job job other [] h = refl
none_of_job job other (l ∷ lines) h = by (other == job) (is_s222 l) h (none_of_job job other lines)
  where
    by : (b s : Bool) → (s || list_any is_s222 lines) ≡ false → (list_any is_s222 lines ≡ false → list_any (is_s222_of job) (of_job other lines) ≡ false) →
        (cond b s false || list_any (is_s222_of job) (of_job other lines)) ≡ false
    by true true h rest = absurd cc
    by true false h rest = rest h
    by false true h rest = absurd cc
    by false false h rest = rest h

none_of_path : (job other : ℕ) (path : List JobLine) → list_any (is_s222_of job) (map (entry.Path other) path) ≡ false
none_of_path job other [] = refl
none_of_path job other (l ∷ path) = none_of_path job other path

pub none_told : (job other : ℕ) (lines path : List JobLine) → list_any is_s222 lines ≡ false → list_any (is_s222_of job) (told_with other lines path) ≡ false
none_told job other lines [] h = none_of_job job other lines h
none_told job other [] (l ∷ path) h = none_of_path job other (l ∷ path)
none_told job other (first ∷ lines) (l ∷ path) h =
    ap (λ b. first_is || b) (list_any-append (is_s222_of job) (map (entry.Path other) (l ∷ path)) (of_job other lines)
    ∙ ap (λ b. b || list_any (is_s222_of job) (of_job other lines)) (none_of_path job other (l ∷ path)))
    ∙ none_of_job job other (first ∷ lines) h
  where
    first_is : Bool
    first_is = is_s222_of job (entry.Job other first)

-- Of the cancels those of one job are taken out: none of these is left, and no other is new.
pub none_left : (job : ℕ) (cancels : List ℕ) → has_cancel (cancels_without cancels job) job ≡ false
none_left job [] = refl
none_left job (n ∷ cancels) = by (cancels_without cancels job) (cases_Bool (n == job)) (none_left job cancels)
  where
    by : (rest : List ℕ) → ((n == job) ≡ true) ⊎ ((n == job) ≡ false) → has_cancel rest job ≡ false →
        has_cancel (cond (not (n == job)) (n ∷ rest) rest) job ≡ false
    by rest (inl is) h = ap (λ b. has_cancel (cond (not b) (n ∷ rest) rest) job) is ∙ h
    by rest (inr is) h = ap (λ b. has_cancel (cond (not b) (n ∷ rest) rest) job) is ∙ or_from (n == job) (has_cancel rest job) is h

kept_or : (a b c : Bool) → (b ≡ true → c ≡ true) → (a || b) ≡ true → (a || c) ≡ true
kept_or true b c h is = refl
kept_or false b c h is = h is

was_left : (other job : ℕ) (cancels : List ℕ) → has_cancel (cancels_without cancels other) job ≡ true → has_cancel cancels job ≡ true
was_left other job [] h = absurd cc
was_left other job (n ∷ cancels) h = by (n == other) (cancels_without cancels other) h (was_left other job cancels)
  where
    by : (b : Bool) (rest : List ℕ) → has_cancel (cond (not b) (n ∷ rest) rest) job ≡ true → (has_cancel rest job ≡ true → has_cancel cancels job ≡ true) →
        ((n == job) || has_cancel cancels job) ≡ true
    by true rest h before = or_right (n == job) (has_cancel cancels job) (before h)
    by false rest h before = kept_or (n == job) (has_cancel rest job) (has_cancel cancels job) before h

as_one : (b c : Bool) → (b ≡ true → c ≡ true) → cond b 1 0 ≤ cond c 1 0
as_one true true h = omega (arith)
as_one true false h = let is : false ≡ true = h refl in absurd cc
as_one false true h = omega (arith)
as_one false false h = omega (arith)

pub left_without : (other job : ℕ) (cancels : List ℕ) → left (cancels_without cancels other) job ≤ left cancels job
left_without other job cancels = as_one (has_cancel (cancels_without cancels other) job) (has_cancel cancels job) (was_left other job cancels)
