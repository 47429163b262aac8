-- A set that is made has the tracks that were kept for it.
use Rattle.std.proofs.Common.{◌≡◌, ◌≤◌, ◌+◌, ◌==◌, ◌⊎◌, inl, inr, ℕ, Bool, true, false, not, cond, List, [], ◌∷◌, arith, eqb-true, refl, sym, ap, subst}
use Rattle.std.specs.Prelude.{◌&&◌, ◌||◌, filter, sum_by}
use Rattle.std.specs.List.{list_any}
use Rattle.std.specs.Str.{bytes_eq}
use Rattle.std.proofs.lemmas.Bool.{and_from, and_parts, or_cases}
use Rattle.std.proofs.lemmas.List.Sums.{sum_by-cons}
use Rattle.jcl_plan.specs.declared.plan.JobPlan.{JobPlan}
use Rattle.jcl_meaning.specs.declared.state.Place.{Place}
use Rattle.cb_meaning.specs.Writable.{kind_at}
use Rattle.part_laws.proofs.SameWrites.{same_bytes}
use Rattle.world_meaning.specs.Admissions.{primary_asked}
use Rattle.world_meaning.specs.Tracks.{is_kept_for, kept_on, kept_unless_made}
use Rattle.world_meaning.specs.Worlds.{Kept}
use Rattle.case_laws.specs.Cases.{HasTracks, is_asked}
use Rattle.case_laws.proofs.Sums.{sum_filter}

used_up : (all rest here few more : ℕ) → all ≡ here + rest → few ≤ rest → here ≡ more → few + more ≤ all
used_up all rest here few more e f g = omega (arith, e, f, g)

still_kept : (all rest here left few more : ℕ) → all ≡ here + rest → left ≡ here + few → few + more ≤ rest → left + more ≤ all
still_kept all rest here left few more e f g = omega (arith, e, f, g)

passed_over : (all rest here few more : ℕ) → all ≡ here + rest → few + more ≤ rest → few + more ≤ all
passed_over all rest here few more e g = omega (arith, e, g)

no_more : (few all : ℕ) → few ≤ all → few + 0 ≤ all
no_more few all e = omega (arith, e)

module _ (plan : JobPlan) (job : ℕ) (p : Place) (v : List ℕ) where
  abbrev asked : ℕ
  asked = primary_asked (kind_at plan.steps p.step p.dd)

  abbrev stays : Kept → Bool
  stays k = not (is_kept_for job p v k || false)

  abbrev all_in : List Kept → ℕ
  all_in kept = sum_by (λ k. k.tracks) kept

  fewer_left : (kept : List Kept) → all_in (filter stays kept) ≤ all_in kept
  fewer_left kept = sum_filter (λ k. k.tracks) stays kept

  module _ (there : bytes_eq v p.serial ≡ true) where
    not_staying : (k : Kept) → is_asked plan job p k ≡ true → stays k ≡ false
    not_staying k e =
        let its : is_kept_for job p p.serial k ≡ true = (and_parts (is_kept_for job p p.serial k) (k.tracks == asked) e).0 in
        let dd : (k.job == job && k.step == p.step && k.dd == p.dd) ≡ true =
        (and_parts (k.job == job && k.step == p.step && k.dd == p.dd) (bytes_eq p.serial p.serial) its).0 in
        ap (λ (b : Bool). not (b || false)) (and_from (k.job == job && k.step == p.step && k.dd == p.dd) (bytes_eq v p.serial) dd there)

    here_fits : (kept : List Kept) → HasTracks kept plan job p → all_in (filter stays kept) + asked ≤ all_in kept
    here_fits [] h = absurd cc
    here_fits (k ∷ kept) h = by_place (or_cases (is_asked plan job p k) (list_any (is_asked plan job p) kept) h) (here_fits kept)
      where
        by_test : (b : Bool) → all_in (filter stays kept) + asked ≤ all_in kept →
            all_in (cond b (k ∷ filter stays kept) (filter stays kept)) + asked ≤ all_in (k ∷ kept)
        by_test true f =
            still_kept (all_in (k ∷ kept)) (all_in kept) k.tracks (all_in (k ∷ filter stays kept)) (all_in (filter stays kept)) asked
            (sum_by-cons (λ (x : Kept). x.tracks) k kept) (sum_by-cons (λ (x : Kept). x.tracks) k (filter stays kept)) f
        by_test false f =
            passed_over (all_in (k ∷ kept)) (all_in kept) k.tracks (all_in (filter stays kept)) asked (sum_by-cons (λ (x : Kept). x.tracks) k kept) f

        by_place : (is_asked plan job p k ≡ true) ⊎ (list_any (is_asked plan job p) kept ≡ true) →
            (HasTracks kept plan job p → all_in (filter stays kept) + asked ≤ all_in kept) → all_in (filter stays (k ∷ kept)) + asked ≤ all_in (k ∷ kept)
        by_place (inl here) more =
            subst (λ (b : Bool). all_in (cond b (k ∷ filter stays kept) (filter stays kept)) + asked ≤ all_in (k ∷ kept)) (sym (not_staying k here))
            (used_up (all_in (k ∷ kept)) (all_in kept) k.tracks (all_in (filter stays kept)) asked (sum_by-cons (λ (x : Kept). x.tracks) k kept)
            (fewer_left kept) (eqb-true k.tracks asked (and_parts (is_kept_for job p p.serial k) (k.tracks == asked) here).1))
        by_place (inr later) more = by_test (stays k) (more later)

  pub made_fits : (kept : List ℕ → List Kept) → HasTracks (kept p.serial) plan job p →
      kept_on (kept_unless_made kept job (p ∷ [])) v + cond (bytes_eq v p.serial) asked 0 ≤ kept_on kept v
  made_fits kept h = by_volume (bytes_eq v p.serial) refl
    where
      by_volume : (b : Bool) → bytes_eq v p.serial ≡ b → all_in (filter stays (kept v)) + cond b asked 0 ≤ all_in (kept v)
      by_volume true e = here_fits e (kept v) (subst (λ (x : List ℕ). HasTracks (kept x) plan job p) (sym (same_bytes v p.serial e)) h)
      by_volume false e = no_more (all_in (filter stays (kept v))) (all_in (kept v)) (fewer_left (kept v))
