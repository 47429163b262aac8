-- A job's turn: what it uses up of the cancels.
use Rattle.std.proofs.Common.{◌≡◌, ◌≤◌, ◌+◌, ℕ, false, List, [], ◌∷◌, Option, arith, refl, sym, ap, ◌∙◌, subst}
use Rattle.std.specs.List.{list_any}
use Rattle.std.proofs.lemmas.Bool.{or_from}
use Rattle.jcl_plan.specs.declared.entry.JobLine.{JobLine}
use Rattle.jcl_plan.specs.declared.entry.JobLine.TheVariants as line
use Rattle.jcl_plan.specs.declared.plan.JobPlan.{JobPlan}
use Rattle.jcl_meaning.specs.States.{Fixed}
use Rattle.world_meaning.specs.Admissions.{Answered, MayFail, assured, explained, fixed_at, no_space, refused, risk, risky, too_many}
use Rattle.world_meaning.specs.Holdings.{Holds, ReadsRecords, blocked, broken, cancels_without, held, read}
use Rattle.world_meaning.specs.Lenses.{seen}
use Rattle.world_meaning.specs.Transitions.{GoesOn, explained_by, told_with}
use Rattle.world_meaning.specs.Turns.{acts, cancels_after, ends, waits}
use Rattle.world_meaning.specs.Worlds.{Admitted, Config, Named, Running, Selected, Shared, Stage, Wanting, of_job}
use Rattle.cancel_laws.specs.Cancels.{is_cancel_of, is_s222, is_s222_of}
use Rattle.cancel_laws.proofs.Advancing.{turn_uses}
use Rattle.cancel_laws.proofs.Counting.{count, left, left_without, none_told}
use Rattle.cancel_laws.proofs.Paying.{IsPaid, action_paid, free_of_charge, same_left}

-- no S222, and no cancel that is new
pub record IsQuiet (job : ℕ) (old : Shared) (lines : List JobLine) (new : Shared) : Type 0 where
  pub quiet : list_any is_s222 lines ≡ false
  pub few : left new.cancels job ≤ left old.cancels job

module _ (job : ℕ) (old : Shared) (lines : List JobLine) (new : Shared) where
  as_before : (told : List JobLine) → lines ≡ told → list_any is_s222 told ≡ false → new.cancels ≡ old.cancels → IsQuiet job old lines new
  as_before told t quiet is = record {
    quiet = ap (list_any is_s222) t ∙ quiet;
    few = subst (λ (c : List ℕ). left c job ≤ left old.cancels job) (sym is) (same_left (left old.cancels job));
  }

  given_back : (told : List JobLine) (other : ℕ) → lines ≡ told → list_any is_s222 told ≡ false → new.cancels ≡ cancels_without old.cancels other →
      IsQuiet job old lines new
  given_back told other t quiet is = record {
    quiet = ap (list_any is_s222) t ∙ quiet;
    few = subst (λ (c : List ℕ). left c job ≤ left old.cancels job) (sym is) (left_without other job old.cancels);
  }

-- turns before the first action
module _ (job : ℕ) (c : Config) (old : Shared) (r : Running) (lines : List JobLine) (new : Shared) (runs : Option Running) where
  holds_quiet : (plan : JobPlan) → Holds old r plan lines new runs → IsQuiet job old lines new
  holds_quiet plan (held free t n on) = as_before job old lines new _ t refl (ap (λ (s : Shared). s.cancels) n)
  holds_quiet plan (blocked by is t n on) = as_before job old lines new _ t refl (ap (λ (s : Shared). s.cancels) n)

  reads_quiet : (first : ℕ) → ReadsRecords c old r first lines new runs → IsQuiet job old lines new
  reads_quiet first (broken n free f t e conserved gone) = given_back job old lines new _ r.job t refl (ap (λ (s : Shared). s.cancels) e)
  reads_quiet first (read plan rest denoted g) = holds_quiet plan g

  either : (told : JobLine) (more : List JobLine) → is_s222 told ≡ false → list_any is_s222 more ≡ false → list_any is_s222 (told ∷ more) ≡ false
  either told more plain rest = or_from (is_s222 told) (list_any is_s222 more) plain rest

  may_fail_quiet : (plan : JobPlan) (fixed : Fixed) (told : JobLine) → is_s222 told ≡ false → MayFail c old r plan fixed told lines new runs →
      IsQuiet job old lines new
  may_fail_quiet plan fixed told plain (risky b t n on) = as_before job old lines new _ t (either told [] plain refl) (ap (λ (s : Shared). s.cancels) n)
  may_fail_quiet plan fixed told plain (refused free b t n conserved gone) =
      given_back job old lines new _ r.job t (either told (line.Refused ∷ []) plain refl) (ap (λ (s : Shared). s.cancels) n)

  answered_quiet : (plan : JobPlan) (fixed : Fixed) → Answered c old r plan fixed lines new runs → IsQuiet job old lines new
  answered_quiet plan fixed (assured places kept free safe are_made are others t n conserved on) =
      as_before job old lines new _ t refl (ap (λ (s : Shared). s.cancels) n)
  answered_quiet plan fixed (no_space serial there t n on) = as_before job old lines new _ t refl (ap (λ (s : Shared). s.cancels) n)
  answered_quiet plan fixed (risk fault step dd path meets m) = may_fail_quiet plan fixed _ refl m
  answered_quiet plan fixed (too_many step low high views m) = may_fail_quiet plan fixed _ refl m

  quiet_paid : (path : List JobLine) → IsQuiet job old lines new → IsPaid job (told_with r.job lines path) old.cancels new.cancels
  quiet_paid path q = free_of_charge job (told_with r.job lines path) old.cancels new.cancels (none_told job r.job lines path q.quiet) q.few

  -- what was left behind an action may go with the job
  less : (s a b cancels before : ℕ) → s + a ≤ cancels + before → b ≤ a → s + b ≤ cancels + before
  less s a b cancels before h few = omega (arith, h, few)

  pub goes_paid : (stage : Stage) (g : GoesOn c old r stage lines new runs) →
      IsPaid job (told_with r.job lines (explained_by c old r stage lines new runs g)) old.cancels new.cancels
  goes_paid (Selected first) g = quiet_paid [] (reads_quiet first g)
  goes_paid (Wanting plan) g = quiet_paid [] (holds_quiet plan g)
  goes_paid (Named plan) g =
      quiet_paid (explained c.explains (fixed_at c old r.job plan g.places) plan (seen r.job old.store) lines)
      (answered_quiet plan (fixed_at c old r.job plan g.places) g.answers)
  goes_paid (Admitted plan a count own) (waits x growth primary e must t n on) =
      quiet_paid [] (as_before job old lines new _ t refl (ap (λ (s : Shared). s.cancels) n))
  goes_paid (Admitted plan a n own) (acts x growth primary free e grants goes more t is conserved on) =
      subst (λ (ls : List JobLine). IsPaid job (of_job r.job ls) old.cancels new.cancels) (sym t)
      (subst (IsPaid job (of_job r.job x.done.lines) old.cancels) (sym (ap (λ (s : Shared). s.cancels) is))
      (action_paid job r.job old.cancels x.done.lines (turn_uses c old r.job plan a n own growth primary x e)))
  goes_paid (Admitted plan a n own) (ends x growth primary free e grants goes last t is conserved gone) =
      let behind : List ℕ = cancels_after old.cancels r.job x.done.lines in
      subst (λ (ls : List JobLine). IsPaid job (of_job r.job ls) old.cancels new.cancels) (sym t)
      (subst (IsPaid job (of_job r.job x.done.lines) old.cancels) (sym (ap (λ (s : Shared). s.cancels) is))
      (less (count (is_s222_of job) (of_job r.job x.done.lines)) (left behind job) (left (cancels_without behind r.job) job)
      (count (is_cancel_of job) (of_job r.job x.done.lines)) (left old.cancels job)
      (action_paid job r.job old.cancels x.done.lines (turn_uses c old r.job plan a n own growth primary x e)) (left_without r.job job behind)))
