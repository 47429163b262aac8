-- A case for each event that is no turn.
use Rattle.std.proofs.Common.{◌≡◌, ◌≢◌, ◌≤◌, ◌<◌, ◌⊎◌, inl, inr, ℕ, Bool, true, false, List, [], Some, Result, Ok, Err, All, length, refl, subst}
use Rattle.std.specs.List.{Contains}
use Rattle.std.specs.Str.{bytes_eq}
use Rattle.std.proofs.lemmas.Bool.{cases_Bool, cases_lt}
use Rattle.std.proofs.lemmas.Slice.Eq.{bytes_eq-Decides}
use Rattle.jcl_plan.specs.declared.entry.Entry.{Entry}
use Rattle.jcl_plan.specs.declared.fault.Cause.{Cause}
use Rattle.jcl_plan.specs.declared.plan.JobPlan.{JobPlan}
use Rattle.cb_meaning.specs.Needs.{records_needed}
use Rattle.cb_meaning.specs.Walks.{owner_of}
use Rattle.machine_meaning.specs.declared.machine.TheConstants.{MOST_JOBS}
use Rattle.machine_meaning.specs.Spools.{HasNoSet}
use Rattle.prog_core.specs.Operations.{is_busy}
use Rattle.world_meaning.specs.Cancels.{CancelsJob, admitted, is_admitted, no_job, selected, waiting}
use Rattle.world_meaning.specs.Devices.{EndsDevice, Writes, ended, idle, no_volume, nothing_written, wrote}
use Rattle.world_meaning.specs.Displays.{SetsDate, set}
use Rattle.world_meaning.specs.Readings.{Denoting, Reads, full, no_number, read, rejected}
use Rattle.world_meaning.specs.Worlds.{World}
use Rattle.world_meaning.specs.Zaps.{ZapsRecord, has_initiator, may_be_zapped, not_owned, selected as zaps_selected, zapped}
use Rattle.world_meaning.specs.Cancels.{RunsNot}
use Rattle.case_laws.specs.Cases.{CanBeWritten}
use Rattle.date_core.proofs.Dates.{Dated, dated}
use Rattle.case_laws.proofs.Finding.{Found, Has, contains_at, found_or_none, running_of, waiting_of}
use Rattle.case_laws.proofs.Freed.{freed, released_conserves}
use Rattle.case_laws.proofs.Spools.{Given, given_or_none}

-- some lines, and a machine behind them
abbrev pub Done : (List Entry → World → Type 0) → Type 0
Done allows = (lines : List Entry) × (new : World) × allows lines new

module _ (job_of : Denoting) (w : World) (deck : List (List ℕ)) (can : CanBeWritten job_of w) where
  by_room : (plan : JobPlan) → job_of deck ≡ Ok plan → w.jobs < MOST_JOBS →
      (length w.shared.records.free < records_needed plan) ⊎ (records_needed plan ≤ length w.shared.records.free) → Done (Reads job_of w deck)
  by_room plan e less (inl few) = (_, _, full plan less e few refl refl)
  by_room plan e less (inr room) = let h = can deck plan e room in (_, _, read plan h.first h.records less e h.written refl refl)

  by_denoted : (r : Result JobPlan Cause) → job_of deck ≡ r → (w.jobs < MOST_JOBS) ⊎ (MOST_JOBS ≤ w.jobs) → Done (Reads job_of w deck)
  by_denoted r e (inr more) = (_, _, no_number more refl refl)
  by_denoted (Err cause) e (inl less) = (_, _, rejected cause less e refl refl)
  by_denoted (Ok plan) e (inl less) = by_room plan e less (cases_lt (length w.shared.records.free) (records_needed plan))

  pub reads : Done (Reads job_of w deck)
  reads = by_denoted (job_of deck) refl (cases_lt w.jobs MOST_JOBS)

module _ (w : World) where
  known : (serial v : List ℕ) (b : Bool) → bytes_eq v serial ≡ b → (v ≢ serial) ⊎ (v ≡ serial)
  known serial v true e = inr ((bytes_eq-Decides v serial).0 e)
  known serial v false e = inl (λ same. both_ways (bytes_eq v serial) e ((bytes_eq-Decides v serial).1 same))
    where
      both_ways : (b : Bool) → b ≡ false → b ≡ true → ⊥
      both_ways b e f = cc

  there : (serial : List ℕ) → Found (λ v. v ≡ serial) w.config.volumes → Contains w.config.volumes serial
  there serial f = subst (Contains w.config.volumes) f.is (contains_at w.config.volumes f.place f.it f.at)

  by_device : (serial : List ℕ) → (All (λ v. v ≢ serial) w.config.volumes) ⊎ Found (λ v. v ≡ serial) w.config.volumes →
      (is_busy w.shared.operations (Some serial) ≡ true) ⊎ (is_busy w.shared.operations (Some serial) ≡ false) → Done (EndsDevice w serial)
  by_device serial (inl none) b = (_, _, no_volume none refl refl)
  by_device serial (inr f) (inl busy) = (_, _, ended (there serial f) busy refl refl)
  by_device serial (inr f) (inr isnt) = (_, _, idle (there serial f) isnt refl refl)

  pub ends_device : (serial : List ℕ) → Done (EndsDevice w serial)
  ends_device serial =
      by_device serial (found_or_none (λ v. v ≢ serial) (λ v. v ≡ serial) (λ v. known serial v (bytes_eq v serial) refl) w.config.volumes)
      (cases_Bool (is_busy w.shared.operations (Some serial)))

  by_spool : (class : ℕ) → HasNoSet w.shared.spool class ⊎ Given w.shared.spool class → Done (Writes w class)
  by_spool class (inl none) = (_, _, nothing_written none refl refl)
  by_spool class (inr g) = (_, _, wrote g.job g.line g.left g.takes refl refl)

  pub writes : (class : ℕ) → All (λ set. set.lines ≢ []) w.shared.spool → Done (Writes w class)
  writes class some = by_spool class (given_or_none w.shared.spool class some)

  by_stage : (job : ℕ) (f : Found (Has job) w.initiators) → (is_admitted f.is.running.stage ≡ true) ⊎ (is_admitted f.is.running.stage ≡ false) →
      Done (CancelsJob w job)
  by_stage job f (inl is) = (_, _, admitted f.place f.it f.is.running f.at f.is.runs f.is.of_job is refl refl)
  by_stage job f (inr isnt) =
      (_, _, selected f.place f.it f.is.running (freed w.shared job) f.at f.is.runs f.is.of_job isnt refl refl (released_conserves w.config w.shared job))

  by_job : (job : ℕ) → (All (λ x. x.job ≢ job) w.waiting) ⊎ Found (λ x. x.job ≡ job) w.waiting →
      (All (λ x. RunsNot x.running job) w.initiators) ⊎ Found (Has job) w.initiators → Done (CancelsJob w job)
  by_job job (inr f) more =
      (_, _, waiting f.it (freed w.shared job) (contains_at w.waiting f.place f.it f.at) f.is refl refl (released_conserves w.config w.shared job))
  by_job job (inl none) (inl runs) = (_, _, no_job (record { waits_not = none; runs_not = runs }) refl refl)
  by_job job (inl none) (inr f) = by_stage job f (cases_Bool (is_admitted f.is.running.stage))

  pub cancels : (job : ℕ) → Done (CancelsJob w job)
  cancels job = by_job job (waiting_of w.waiting job) (running_of w.initiators job)

  by_owner : (n offset : ℕ) (bytes : List ℕ) →
      (may_be_zapped w n offset (length bytes) ≡ true) ⊎ (may_be_zapped w n offset (length bytes) ≡ false) →
      (has_initiator w (owner_of w.shared.records n) ≡ true) ⊎ (has_initiator w (owner_of w.shared.records n) ≡ false) → Done (ZapsRecord w n offset bytes)
  by_owner n offset bytes (inr isnt) has = (_, _, not_owned isnt refl refl)
  by_owner n offset bytes (inl may) (inl has) = (_, _, zaps_selected may has refl refl)
  by_owner n offset bytes (inl may) (inr isnt) = (_, _, zapped may isnt refl refl)

  pub zaps : (n offset : ℕ) (bytes : List ℕ) → Done (ZapsRecord w n offset bytes)
  zaps n offset bytes =
      by_owner n offset bytes (cases_Bool (may_be_zapped w n offset (length bytes))) (cases_Bool (has_initiator w (owner_of w.shared.records n)))

  pub sets_date : (day : ℕ) → Done (SetsDate w day)
  sets_date day = let d : Dated day = dated day in (_, _, set d.years d.of_year d.is refl refl)
