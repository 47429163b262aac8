-- What two readings of a deck from one machine have in common.
use Rattle.std.proofs.Common.{◌≡◌, ◌≤◌, ◌<◌, ◌+◌, ◌++◌, arith, ℕ, List, [], ◌∷◌, length, Ok, Err, sym, ap, ◌∙◌, subst}
use Rattle.std.specs.Prelude.{All}
use Rattle.std.proofs.lemmas.List.{length-append}
use Rattle.jcl_plan.specs.declared.entry.Entry.{Entry}
use Rattle.jcl_plan.specs.declared.entry.JobLine.TheVariants as line
use Rattle.jcl_plan.specs.declared.fault.Cause.{Cause}
use Rattle.jcl_plan.specs.declared.plan.JobPlan.{JobPlan}
use Rattle.cb_meaning.specs.Needs.{IsPacked, records_needed}
use Rattle.cb_meaning.specs.Spelled.{Denotes, Records}
use Rattle.machine_meaning.specs.declared.machine.TheConstants.{MOST_JOBS}
use Rattle.walk_laws.specs.WalkLaws.{AreRecords}
use Rattle.world_meaning.specs.Readings.{Denoting, IsWritten, Reads, full, no_number, read, read_line, rejected, waits}
use Rattle.world_meaning.specs.Records.{IsQueueLayout, SameRecords}
use Rattle.world_meaning.specs.Worlds.{World, of_job}
use Rattle.open_laws.specs.Open.{IsSameness}
use Rattle.spelled_laws.proofs.Below.{front_same}
use Rattle.spelled_laws.proofs.Taken.{written_twice}

-- the same machine but for its records
abbrev pub IsBeside : World → World → Type 0
IsBeside m k = k ≡ record m { shared = record m.shared { records = k.shared.records } }

module _ (job_of : Denoting) (w : World) (deck : List (List ℕ)) (own : IsQueueLayout w.config.layout) (kept : IsSameness w.config.layout)
    (new again : Records) (records : AreRecords new) (records_too : AreRecords again) where
  -- what two readings have in common
  abbrev pub Common : (lines more : List Entry) (m k : World) → Type 0
  Common lines more m k = (more ≡ lines) × IsBeside m k × SameRecords w.config.layout new again

  -- they lead to one machine
  one_machine : (lines more : List Entry) (m k : World) → more ≡ lines → k ≡ m → SameRecords w.config.layout m.shared.records new →
      SameRecords w.config.layout k.shared.records again → Common lines more m k
  one_machine lines more m k told e a b = (
    told,
    e ∙ ap (λ q. record m { shared = record m.shared { records = q } }) (sym (ap (λ x. x.shared.records) e)),
    kept.on new m.shared.records again (kept.back m.shared.records new a) (subst (λ x. SameRecords w.config.layout x.shared.records again) e b),
  )

  -- they wrote the job
  both_write : (plan : JobPlan) (first other : ℕ) (q r : Records) →
      IsWritten w.config w.shared.records q (w.jobs + 1) plan first → IsWritten w.config w.shared.records r (w.jobs + 1) plan other →
      SameRecords w.config.layout q new → SameRecords w.config.layout r again → (first ≡ other) × SameRecords w.config.layout new again
  both_write plan first other q r x y a b =
      let size : length (first ∷ x.behind) ≡ length (other ∷ y.behind) = x.needed ∙ sym y.needed in
      let parts = front_same (first ∷ x.behind) (other ∷ y.behind) q.free r.free size (sym x.taken ∙ y.taken) in
      let numbers : first ∷ x.behind ≡ other ∷ y.behind = parts.0 in
      let heads : first ≡ other = cc in (
        heads,
        written_twice w.config.layout own kept (length w.config.units) (w.jobs + 1) plan (first ∷ x.behind) w.shared.records q new r again
            a b records records_too x.denoted (subst (λ ns. Denotes w.config.layout (length w.config.units) r (w.jobs + 1) ns plan) (sym numbers) y.denoted)
            x.packed (subst (λ ns. All (λ n. IsPacked w.config.layout (r.at n)) ns) (sym numbers) y.packed)
            x.taken (sym parts.1) x.others y.others,
      )

  -- a job is written once where it is to have enough records, and not where it has too few
  too_few : (plan other : JobPlan) (first : ℕ) (q : Records) → other ≡ plan → length w.shared.records.free < records_needed plan →
      IsWritten w.config w.shared.records q (w.jobs + 1) other first → ⊥
  too_few plan other first q same few x =
      let all : length w.shared.records.free ≡ length (first ∷ x.behind) + length q.free =
      ap length x.taken ∙ length-append (first ∷ x.behind) q.free in
      let needed : length (first ∷ x.behind) ≡ records_needed plan = x.needed ∙ ap records_needed same in
      omega (arith, few, all, needed)

  -- a deck denotes one job, or is rejected
  one_plan : (plan other : JobPlan) → job_of deck ≡ Ok plan → job_of deck ≡ Ok other → other ≡ plan
  one_plan plan other a b = let same : Ok other ≡ Ok plan = sym b ∙ a in cc

  one_cause : (cause other : Cause) → job_of deck ≡ Err cause → job_of deck ≡ Err other → other ≡ cause
  one_cause cause other a b = let same : Err other ≡ Err cause = sym b ∙ a in cc

  not_both : {X : Type 0} (cause : Cause) (plan : JobPlan) → job_of deck ≡ Err cause → job_of deck ≡ Ok plan → X
  not_both cause plan a b = let clash : Err cause ≡ Ok plan = sym a ∙ b in absurd cc

  no_room : {X : Type 0} → MOST_JOBS ≤ w.jobs → w.jobs < MOST_JOBS → X
  no_room high low = absurd (omega (arith, high, low))

  pub in_common : (lines more : List Entry) (m k : World) → Reads job_of w deck lines m → Reads job_of w deck more k →
      SameRecords w.config.layout m.shared.records new → SameRecords w.config.layout k.shared.records again → Common lines more m k
  in_common lines more m k (no_number high told leads) (no_number high_too told_too leads_too) a b =
      one_machine lines more m k (told_too ∙ sym told) (leads_too ∙ sym leads) a b
  in_common lines more m k (no_number high told leads) (rejected cause low is told_too leads_too) a b = no_room high low
  in_common lines more m k (no_number high told leads) (full plan low is few told_too leads_too) a b = no_room high low
  in_common lines more m k (no_number high told leads) (read plan first q low is written told_too leads_too) a b = no_room high low
  in_common lines more m k (rejected cause low is told leads) (no_number high told_too leads_too) a b = no_room high low
  in_common lines more m k (full plan low is few told leads) (no_number high told_too leads_too) a b = no_room high low
  in_common lines more m k (read plan first q low is written told leads) (no_number high told_too leads_too) a b = no_room high low
  in_common lines more m k (rejected cause low is told leads) (rejected other low_too is_too told_too leads_too) a b =
      one_machine lines more m k
      (told_too ∙ (ap (λ c. of_job (w.jobs + 1) (line.Rejected c ∷ [])) (one_cause cause other is is_too) ∙ sym told)) (leads_too ∙ sym leads) a b
  in_common lines more m k (full plan low is few told leads) (full other low_too is_too few_too told_too leads_too) a b =
      one_machine lines more m k (told_too ∙ sym told) (leads_too ∙ sym leads) a b
  in_common lines more m k (rejected cause low is told leads) (full plan low_too is_too few told_too leads_too) a b = not_both cause plan is is_too
  in_common lines more m k (rejected cause low is told leads) (read plan first q low_too is_too written told_too leads_too) a b = not_both cause plan is is_too
  in_common lines more m k (full plan low is few told leads) (rejected cause low_too is_too told_too leads_too) a b = not_both cause plan is_too is
  in_common lines more m k (read plan first q low is written told leads) (rejected cause low_too is_too told_too leads_too) a b = not_both cause plan is_too is
  in_common lines more m k (full plan low is few told leads) (read other first q low_too is_too written told_too leads_too) a b =
      absurd (too_few plan other first q (one_plan plan other is is_too) few written)
  in_common lines more m k (read other first q low is written told leads) (full plan low_too is_too few told_too leads_too) a b =
      absurd (too_few plan other first q (one_plan plan other is_too is) few written)
  in_common lines more m k (read plan first q low is written told leads) (read other begins r low_too is_too written_too told_too leads_too) a b =
      let same : other ≡ plan = one_plan plan other is is_too in
      let both = both_write plan first begins q r written
      (subst (λ p. IsWritten w.config w.shared.records r (w.jobs + 1) p begins) same written_too)
      (subst (λ x. SameRecords w.config.layout x.shared.records new) leads a) (subst (λ x. SameRecords w.config.layout x.shared.records again) leads_too b) in (
        told_too ∙ (ap (λ p. of_job (w.jobs + 1) (read_line p ∷ [])) same ∙ sym told),
        leads_too ∙ ((λ i. record w {
          jobs = w.jobs + 1;
          waiting = w.waiting ++ waits (w.jobs + 1) (sym both.0 i) (same i) ∷ [];
          shared = record w.shared { records = r };
        }) ∙ sym (λ i. record (leads i) { shared = record (leads i).shared { records = (leads_too i).shared.records } })),
        both.1,
      )
