-- Before each S222 of a job in the lines of a run, one cancel more than S222s was told of it.
use Rattle.std.proofs.Common.{◌≡◌, ◌≤◌, ◌<◌, ◌+◌, ◌⊎◌, inl, inr, ◌++◌, ℕ, suc, Bool, true, false, cond, List, [], ◌∷◌, arith, refl, sym, ap, ◌∙◌, subst}
use Rattle.std.specs.Prelude.{filter, length}
use Rattle.std.specs.List.{flat_map}
use Rattle.std.proofs.lemmas.Bool.{eq-eqb}
use Rattle.std.proofs.lemmas.List.{length-append}
use Rattle.std.proofs.lemmas.List.Elements.{filter-append}
use Rattle.jcl_plan.specs.declared.entry.Entry.{Entry}
use Rattle.jcl_plan.specs.declared.entry.Entry.TheVariants as entry
use Rattle.jcl_plan.specs.declared.entry.JobLine.TheVariants as line
use Rattle.jcl_plan.specs.declared.outcome.Abend.TheVariants.{S222}
use Rattle.world_meaning.specs.declared.event.Event.{Event}
use Rattle.world_meaning.specs.Readings.{Denoting}
use Rattle.world_meaning.specs.Transitions.{Runs}
use Rattle.world_meaning.specs.Worlds.{World}
use Rattle.cancel_laws.specs.Cancels.{CancelsComeFirst, is_cancel_of, is_s222_of}
use Rattle.cancel_laws.proofs.Apart.{IsApart, event_apart}
use Rattle.cancel_laws.proofs.Counting.{count, left, none_counted}
use Rattle.cancel_laws.proofs.Events.{event_paid}
use Rattle.cancel_laws.proofs.Paying.{IsPaid}

-- where two lists are joined a line stands in the first of them, or behind it
cut : (lines more before : List Entry) (x : Entry) (after : List Entry) → lines ++ more ≡ before ++ x ∷ after →
    ((v : List Entry) × (lines ≡ before ++ x ∷ v)) ⊎ ((v : List Entry) × (before ≡ lines ++ v) × (more ≡ v ++ x ∷ after))
cut [] more before x after e = inr (before, refl, e)
cut (l ∷ lines) more [] x after e = inl (lines, cc)
cut (l ∷ lines) more (b ∷ before) x after e = on (cut lines more before x after cc)
  where
    on : ((v : List Entry) × (lines ≡ before ++ x ∷ v)) ⊎ ((v : List Entry) × (before ≡ lines ++ v) × (more ≡ v ++ x ∷ after)) →
        ((v : List Entry) × (l ∷ lines ≡ b ∷ before ++ x ∷ v)) ⊎ ((v : List Entry) × (b ∷ before ≡ l ∷ lines ++ v) × (more ≡ v ++ x ∷ after))
    on (inl s) = inl (s.0, cc)
    on (inr s) = inr (s.0, cc, s.2)

-- of two lists the counts are added
counted_both : (p : Entry → Bool) (xs ys : List Entry) → count p (xs ++ ys) ≡ count p xs + count p ys
counted_both p xs ys = ap length (filter-append p xs ys) ∙ length-append (filter p xs) (filter p ys)

-- in no lines stands no line
no_such : (before : List Entry) (x : Entry) (after : List Entry) → [] ≡ before ++ x ∷ after → ⊥
no_such [] x after e = cc
no_such (b ∷ before) x after e = cc

module _ (job : ℕ) where
  abbrev its_s222 : Entry
  its_s222 = entry.Job job (line.Abend S222)

  -- the S222 at hand is one more than those before it
  one_at_least : (before after : List Entry) → count (is_s222_of job) before < count (is_s222_of job) (before ++ its_s222 ∷ after)
  one_at_least before after =
      more (count (is_s222_of job) before) (count (is_s222_of job) after) (count (is_s222_of job) (its_s222 ∷ after))
      (count (is_s222_of job) (before ++ its_s222 ∷ after)) (counted_both (is_s222_of job) before (its_s222 ∷ after))
      (ap (λ b. length (cond (cond b true false) (its_s222 ∷ filter (is_s222_of job) after) (filter (is_s222_of job) after))) (eq-eqb job job refl))
    where
      more : (n k with_it all : ℕ) → all ≡ n + with_it → with_it ≡ suc k → n < all
      more n k with_it all whole one = omega (arith, whole, one)

  -- within an event: it was paid by a cancel that was left
  due_before : (s told cancels cancel_front new old : ℕ) → s < told → told + new ≤ cancels + old → cancels ≡ 0 → s < cancel_front + old
  due_before s told cancels cancel_front new old here paid none = omega (arith, here, paid, none)

  -- where an event tells none, none stands in it
  none_here : (s told : ℕ) → s < told → told ≡ 0 → ⊥
  none_here s told here none = omega (arith, here, none)

  -- so it is for each front of its lines that an S222 ends
  front_paid : (lines before after : List Entry) (old new : List ℕ) → IsPaid job lines old new → IsApart job lines → lines ≡ before ++ its_s222 ∷ after →
      count (is_s222_of job) before < count (is_cancel_of job) before + left old job
  front_paid lines before after old new paid apart e = by apart
    where
      here : count (is_s222_of job) before < count (is_s222_of job) lines
      here = subst (λ (ls : List Entry). count (is_s222_of job) before < count (is_s222_of job) ls) (sym e) (one_at_least before after)

      by : IsApart job lines → count (is_s222_of job) before < count (is_cancel_of job) before + left old job
      by (inl none) =
          due_before (count (is_s222_of job) before) (count (is_s222_of job) lines) (count (is_cancel_of job) lines) (count (is_cancel_of job) before)
          (left new job) (left old job) here paid (none_counted (is_cancel_of job) lines none)
      by (inr none) =
          absurd (none_here (count (is_s222_of job) before) (count (is_s222_of job) lines) here (none_counted (is_s222_of job) lines none))

  -- behind an event: what it used up was paid, and what is used later is due
  due_behind : (s c new old v w all every : ℕ) → s + new ≤ c + old → v < w + new → all ≡ s + v → every ≡ c + w → all < every + old
  due_behind s c new old v w all every paid later whole each = omega (arith, paid, later, whole, each)

  -- and for each such front of a run's
  run_fronts : (job_of : Denoting) (w end : World) (es : List Event) (told : List (List Entry)) (before after : List Entry) → Runs job_of w es told end →
      flat_map (λ lines. lines) told ≡ before ++ its_s222 ∷ after →
      count (is_s222_of job) before < count (is_cancel_of job) before + left w.shared.cancels job
  run_fronts job_of w end [] [] before after runs e = absurd (no_such before its_s222 after e)
  run_fronts job_of w end [] (lines ∷ more) before after runs e = absurd runs
  run_fronts job_of w end (event ∷ es) [] before after runs e = absurd runs
  run_fronts job_of w end (event ∷ es) (lines ∷ more) before after runs e =
      by (cut lines (flat_map (λ lines. lines) more) before its_s222 after e) (λ v so. run_fronts job_of runs.0 end es more v after runs.2 so)
    where
      paid : IsPaid job lines w.shared.cancels runs.0.shared.cancels
      paid = event_paid job job_of w runs.0 event lines runs.1

      by : ((v : List Entry) × (lines ≡ before ++ its_s222 ∷ v)) ⊎ ((v : List Entry) × (before ≡ lines ++ v)
          × (flat_map (λ lines. lines) more ≡ v ++ its_s222 ∷ after)) →
          ((v : List Entry) → flat_map (λ lines. lines) more ≡ v ++ its_s222 ∷ after →
          count (is_s222_of job) v < count (is_cancel_of job) v + left runs.0.shared.cancels job) →
          count (is_s222_of job) before < count (is_cancel_of job) before + left w.shared.cancels job
      by (inl s) later =
          front_paid lines before s.0 w.shared.cancels runs.0.shared.cancels paid (event_apart job job_of w runs.0 event lines runs.1) s.1
      by (inr s) later =
          due_behind (count (is_s222_of job) lines) (count (is_cancel_of job) lines) (left runs.0.shared.cancels job) (left w.shared.cancels job)
          (count (is_s222_of job) s.0) (count (is_cancel_of job) s.0) (count (is_s222_of job) before) (count (is_cancel_of job) before) paid
          (later s.0 s.2) (ap (count (is_s222_of job)) s.1 ∙ counted_both (is_s222_of job) lines s.0)
          (ap (count (is_cancel_of job)) s.1 ∙ counted_both (is_cancel_of job) lines s.0)

-- at the start no cancel is left
none_before : (s c old : ℕ) → old ≡ 0 → s < c + old → s < c
none_before s c old none h = omega (arith, none, h)

pub cancels_come_first : CancelsComeFirst
cancels_come_first job_of start end events told job before after s runs e =
    none_before (count (is_s222_of job) before) (count (is_cancel_of job) before) (left start.shared.cancels job)
    (ap (λ (c : List ℕ). left c job) s.unused.cancels) (run_fronts job job_of start end events told before after runs e)
