-- The first job of a class.
use Rattle.std.proofs.Common.{◌≡◌, ◌≤◌, ℕ, Bool, true, false, List, [], ◌∷◌, Option, Some, None, All, refl, sym, ap, ◌∙◌, arith}
use Rattle.std.specs.Prelude.{IfNone, IfSome, get_or, slice_get}
use Rattle.std.specs.BTreeMap.{BTreeMap, get, values}
use Rattle.std.specs.BTreeMap.Range.{IsLeBy}
use Rattle.std.specs.BTreeSet.{BTreeSet, IsKeyInRange, IsKeyRangeOf, contains}
use Rattle.std.specs.declared.ops.Bound.TheVariants.{Included, Unbounded}
use Rattle.std.specs.List.{Contains}
use Rattle.std.specs.Ordering.{is_gt, nat_cmp}
use Rattle.std.proofs.lemmas.Bool.{both_ways}
use Rattle.std.proofs.lemmas.Cmp.{eq_by_cmp_equiv, nat_cmp_total}
use Rattle.std.proofs.lemmas.Map.Keys.{IsDistinct-from_sorted}
use Rattle.std.proofs.lemmas.Map.Views.{All-values_from_lookup}
use Rattle.queue_core.specs.declared.queue.Queued.{Queued}
use Rattle.queue_core.specs.declared.queue.Rank.{Rank}
use Rattle.queue_core.specs.Queues.{HasNoneOf, IsFirstOf, IsJobOf}
use Rattle.queue_core.specs.Ranks.{AreBounded, IsLeast, IsRanked, IsVacant, queued_of, rank_cmp, rank_of}
use Rattle.queue_core.proofs.Numbered.{numbered_at, value_found}
use Rattle.queue_core.proofs.Orders.{class_upto, first_job, first_priority, lowest_first}
use Rattle.queue_core.proofs.Ranking.{if_some, not_some, number_of, some_is}

module _ (jobs : BTreeMap ℕ Queued) (ranks : BTreeSet Rank) (occupied : List Bool) (h : IsRanked jobs ranks occupied) where
  -- what holds of each job that a number finds
  of_each : (P : Queued → Type 0) → ((k : ℕ) (x : Queued) → get nat_cmp jobs k ≡ Some x → P x) → All P (values jobs)
  of_each P each = All-values_from_lookup (eq_by_cmp_equiv nat_cmp_total) P jobs.entries (IsDistinct-from_sorted nat_cmp _ h.ordered)
      (λ k. if_some P (get nat_cmp jobs k) (each k))

  pub not_marked : (class : ℕ) → get_or occupied class false ≡ false → HasNoneOf (values jobs) class
  not_marked class e = of_each (λ x. x.class ≡ class → ⊥)
      (λ k x found same. both_ways (get_or occupied x.class false) (ap (λ c. get_or occupied c false) same ∙ e) (some_is (λ y. get_or occupied y.class false ≡ true) (get nat_cmp jobs k) x (h.marked k) found))

  there : (k : ℕ) (x : Queued) → get nat_cmp jobs k ≡ Some x → contains rank_cmp ranks (rank_of x) ≡ true
  there k x found = some_is (λ y. contains rank_cmp ranks (rank_of y) ≡ true) (get nat_cmp jobs k) x (h.ranked k) found

  pub vacant : (class : ℕ) → IsVacant ranks class → HasNoneOf (values jobs) class
  vacant class none = of_each (λ x. x.class ≡ class → ⊥)
      (λ k x found same. both_ways (contains rank_cmp ranks (rank_of x)) (none (rank_of x) same) (there k x found))

  held : (q : Queued) → contains rank_cmp ranks (rank_of q) ≡ true → Contains (values jobs) q
  held q e = value_found jobs q.job q (h.queued (rank_of q) e)

  -- the job of a number
  pub job_found : (job : ℕ) (q : Queued) → get nat_cmp jobs job ≡ Some q → IsJobOf (values jobs) job q
  job_found job q e = (held q (there job q e), numbered_at number_of jobs job q h.numbered e)

  pub no_job : (job : ℕ) → get nat_cmp jobs job ≡ None → All (λ x. x.job ≡ job → ⊥) (values jobs)
  no_job job none = of_each (λ x. x.job ≡ job → ⊥)
      (λ k x found same. not_some (get nat_cmp jobs k) x (ap (get nat_cmp jobs) (sym (numbered_at number_of jobs k x h.numbered found) ∙ same) ∙ none) found)

  pub first_is : (class : ℕ) (q : Queued) → IsLeast ranks class q → IsFirstOf (values jobs) class q
  first_is class q l = record {
    contained = held q l.there;
    of_class = l.of_class;
    highest = of_each (λ x. x.class ≡ class → x.priority ≤ q.priority)
        (λ k x found same. first_priority (rank_of q) (rank_of x) (l.of_class ∙ sym same) (l.least (rank_of x) (there k x found) same));
    earliest = of_each (λ x. x.class ≡ class → x.priority ≡ q.priority → q.job ≤ x.job)
        (λ k x found same equal. first_job (rank_of q) (rank_of x) (l.of_class ∙ sym same) equal (l.least (rank_of x) (there k x found) same));
  }

  pub first_some : (class : ℕ) (o : Option Queued) → IfSome o (IsLeast ranks class) → IfSome o (IsFirstOf (values jobs) class)
  first_some class None l = tt
  first_some class (Some q) l = first_is class q l

  pub first_none : (class : ℕ) (o : Option Queued) → IfNone o (IsVacant ranks class) → IfNone o (HasNoneOf (values jobs) class)
  first_none class None l = vacant class l
  first_none class (Some q) l = tt

-- what stands in the set of ranks from a class on
abbrev pub lowest_of : ℕ → Rank
lowest_of class = record { class = class; priority = record { 0 = 255 }; job = 0; jct = 0 }

module _ (ranks : BTreeSet Rank) (class : ℕ) (part : List Rank) (h : IsKeyRangeOf rank_cmp (Included (lowest_of class)) Unbounded ranks part) (bounded : AreBounded ranks) where
  vacant_unless : ((r : Rank) → contains rank_cmp ranks r ≡ true → r.class ≡ class → ⊥) → IsVacant ranks class
  vacant_unless none = λ r same. by r same (contains rank_cmp ranks r) refl
    where
      by : (r : Rank) → r.class ≡ class → (b : Bool) → contains rank_cmp ranks r ≡ b → contains rank_cmp ranks r ≡ false
      by r same true e = absurd (none r e same)
      by r same false e = e

  in_range : (r : Rank) → contains rank_cmp ranks r ≡ true → r.class ≡ class → is_gt (rank_cmp (lowest_of class) r) ≡ false
  in_range r e same = lowest_first class r (bounded r e) same

  pub none_in_range : part ≡ [] → IsVacant ranks class
  none_in_range empty = vacant_unless (λ r e same. both_ways (contains rank_cmp ranks r) (h.5 empty r (in_range r e same, tt)) e)

  module _ (rank : Rank) (rest : List Rank) (is : part ≡ rank ∷ rest) where
    least : (r : Rank) → contains rank_cmp ranks r ≡ true → r.class ≡ class → is_gt (rank_cmp rank r) ≡ false
    least r e same = some_is (λ k. IsLeBy rank_cmp k r) (slice_get part 0) rank (h.2 r (in_range r e same, tt) e) (ap (λ l. slice_get l 0) is)

    from_class : is_gt (rank_cmp (lowest_of class) rank) ≡ false
    from_class = (some_is (λ k. IsKeyInRange rank_cmp (Included (lowest_of class)) Unbounded ranks k) (slice_get part 0) rank h.1 (ap (λ l. slice_get l 0) is)).0.0

    pub none_of_class : (rank.class ≡ class → ⊥) → IsVacant ranks class
    none_of_class other = vacant_unless (λ r e same. other (between r (class_upto (lowest_of class) rank from_class) (class_upto rank r (least r e same)) same))
      where
        between : (r : Rank) → class ≤ rank.class → rank.class ≤ r.class → r.class ≡ class → rank.class ≡ class
        between r a b c = omega arith

    pub is_least : rank.class ≡ class → IsLeast ranks class (queued_of rank)
    is_least same = record {
      there = (some_is (λ k. IsKeyInRange rank_cmp (Included (lowest_of class)) Unbounded ranks k) (slice_get part 0) rank h.1 (ap (λ l. slice_get l 0) is)).1;
      of_class = same;
      least = least;
    }
