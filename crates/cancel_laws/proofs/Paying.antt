-- What an event uses up of a job's cancels.
use Rattle.std.proofs.Common.{◌≡◌, ◌≤◌, ◌+◌, ◌==◌, ◌++◌, ℕ, Bool, true, false, cond, List, [], ◌∷◌, arith, refl, sym, ap, ◌∙◌, subst}
use Rattle.std.specs.Prelude.{◌||◌, length}
use Rattle.std.specs.List.{list_any}
use Rattle.std.proofs.lemmas.Bool.{eqb-true}
use Rattle.std.proofs.lemmas.List.Folds.{list_any-append}
use Rattle.jcl_plan.specs.declared.entry.Entry.{Entry}
use Rattle.jcl_plan.specs.declared.entry.Entry.TheVariants as entry
use Rattle.jcl_plan.specs.declared.entry.JobLine.{JobLine}
use Rattle.jcl_plan.specs.declared.entry.JobLine.TheVariants as line
use Rattle.jcl_plan.specs.declared.outcome.Abend.TheVariants.{S222}
use Rattle.world_meaning.specs.Cancels.{with_cancel}
use Rattle.world_meaning.specs.Holdings.{cancels_without}
use Rattle.world_meaning.specs.Turns.{cancels_after, has_cancel, is_cancelled}
use Rattle.world_meaning.specs.Worlds.{Shared, of_job}
use Rattle.cancel_laws.specs.Cancels.{is_cancel_of, is_s222_of}
use Rattle.cancel_laws.proofs.Advancing.{Uses, none, one}
use Rattle.cancel_laws.proofs.Counting.{count, left, left_without, none_counted, none_left, none_told}

-- Each S222 of the job uses a cancel that the event brings, or that was left.
abbrev pub IsPaid : ℕ → List Entry → List ℕ → List ℕ → Type 0
IsPaid job lines old new = count (is_s222_of job) lines + left new job ≤ count (is_cancel_of job) lines + left old job

at_most : (s a c b : ℕ) → s ≡ 0 → a ≤ b → s + a ≤ c + b
at_most s a c b empty few = omega (arith, empty, few)

-- no S222, and no cancel that is new
pub free_of_charge : (job : ℕ) (lines : List Entry) (old new : List ℕ) → list_any (is_s222_of job) lines ≡ false → left new job ≤ left old job →
    IsPaid job lines old new
free_of_charge job lines old new quiet few =
    at_most (count (is_s222_of job) lines) (left new job) (count (is_cancel_of job) lines) (left old job) (none_counted (is_s222_of job) lines quiet) few

pub same_left : (n : ℕ) → n ≤ n
same_left n = omega (arith)

pub nothing_used : (job : ℕ) (lines : List Entry) (old new : List ℕ) → list_any (is_s222_of job) lines ≡ false → new ≡ old → IsPaid job lines old new
nothing_used job lines old new quiet is =
    free_of_charge job lines old new quiet (subst (λ (c : List ℕ). left c job ≤ left old job) (sym is) (same_left (left old job)))

-- an action of a job
module _ (job other : ℕ) (old : List ℕ) where
  after_few : (b : Bool) → left (cond b (cancels_without old other) old) job ≤ left old job
  after_few true = left_without other job old
  after_few false = same_left (left old job)

  one_used : has_cancel old other ≡ true → IsPaid job (of_job other (line.Abend S222 ∷ [])) old (cancels_without old other)
  one_used has = by (other == job) (left (cancels_without old other) job) (left old job) (λ is. mine (eqb-true other job is)) (left_without other job old)
    where
      mine : other ≡ job → (left (cancels_without old other) job ≡ 0) × (left old job ≡ 1)
      mine is = (
        ap (λ (n : ℕ). left (cancels_without old n) job) is ∙ ap (λ b. cond b 1 0) (none_left job old),
        ap (λ b. cond b 1 0) (ap (has_cancel old) (sym is) ∙ has),
      )

      spent : (x y : ℕ) → x ≡ 0 → y ≡ 1 → 1 + x ≤ 0 + y
      spent x y is so = omega (arith, is, so)

      no_other : (x y : ℕ) → x ≤ y → 0 + x ≤ 0 + y
      no_other x y few = omega (arith, few)

      by : (b : Bool) (x y : ℕ) → (b ≡ true → (x ≡ 0) × (y ≡ 1)) → x ≤ y →
          length (cond (cond b true false) (entry.Job other (line.Abend S222) ∷ []) []) + x ≤ 0 + y
      by true x y h few = spent x y (h refl).0 (h refl).1
      by false x y h few = no_other x y few

  pub action_paid : (lines : List JobLine) → Uses (has_cancel old other) lines → IsPaid job (of_job other lines) old (cancels_after old other lines)
  action_paid lines (none quiet) = free_of_charge job (of_job other lines) old _ (none_told job other lines [] quiet) (after_few (is_cancelled lines))
  action_paid lines (one is has) =
      subst (λ (ls : List JobLine). IsPaid job (of_job other ls) old (cancels_after old other ls)) (sym is) (one_used has)

-- A cancel that is taken is one more, or one is left already.
pub cancel_paid : (job other : ℕ) (s : Shared) → IsPaid job (entry.Cancel other ∷ []) s.cancels (with_cancel s other).cancels
cancel_paid job other s = by (has_cancel s.cancels other)
  where
    more : (n x y : ℕ) → x ≤ y → 0 + x ≤ n + y
    more n x y few = omega (arith, few)

    one_more : (b h : Bool) → 0 + cond (h || (b || false)) 1 0 ≤ length (cond b (entry.Cancel other ∷ []) []) + cond h 1 0
    one_more true true = omega (arith)
    one_more true false = omega (arith)
    one_more false true = omega (arith)
    one_more false false = omega (arith)

    by : (b : Bool) → IsPaid job (entry.Cancel other ∷ []) s.cancels (cond b s (record s { cancels = s.cancels ++ other ∷ [] })).cancels
    by true = more (count (is_cancel_of job) (entry.Cancel other ∷ [])) (left s.cancels job) (left s.cancels job) (same_left (left s.cancels job))
    by false =
        subst (λ (b : Bool). 0 + cond b 1 0 ≤ count (is_cancel_of job) (entry.Cancel other ∷ []) + left s.cancels job)
        (sym (list_any-append (λ n. n == job) s.cancels (other ∷ []))) (one_more (other == job) (has_cancel s.cancels job))
