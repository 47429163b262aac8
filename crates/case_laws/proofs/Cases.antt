-- A case for every event.
use Rattle.std.proofs.Common.{◌≡◌, ◌≤◌, ◌<◌, ◌⊎◌, inl, inr, ℕ, false, List, [], ◌∷◌, Option, Some, None, All, length, refl}
use Rattle.std.proofs.lemmas.Bool.{cases_lt}
use Rattle.jcl_plan.specs.declared.entry.Entry.TheVariants as entry
use Rattle.jcl_plan.specs.declared.fault.Cause.TheVariants.{A}
use Rattle.jcl_plan.specs.declared.fault.EventFault.TheVariants.{PastLimit}
use Rattle.machine_meaning.specs.declared.machine.TheConstants.{MOST_EVENTS}
use Rattle.jcl_plan.specs.declared.plan.JobPlan.{JobPlan}
use Rattle.jcl_meaning.specs.WellFormed.{IsWellFormedPlan}
use Rattle.world_meaning.specs.declared.event.Event.{Event}
use Rattle.world_meaning.specs.declared.event.Event.TheVariants as event
use Rattle.world_meaning.specs.Readings.{Denoting}
use Rattle.world_meaning.specs.Selections.{HasNone, IsSelected, Selects, nothing, selected}
use Rattle.world_meaning.specs.Tracks.{kept_of}
use Rattle.world_meaning.specs.Transitions.{Acts, Does, Happens, Turns, acts, past, shown, taken, unknown}
use Rattle.world_meaning.specs.Worlds.{Admitted, HasNoInitiator, Initiator, IsAt, Named, Running, Selected, Stage, Waiting, Wanting, World, counted}
use Rattle.law_core.specs.Soundness.{IsSound, RunsAt, plan_read}
use Rattle.law_core.proofs.Reading.{plan_formed}
use Rattle.case_laws.specs.Cases.{CanBeWritten, CanGoOn, HasCase, HasWholeQueue, IsSupplied, is_assured_at}
use Rattle.case_laws.proofs.Advancing.{advances}
use Rattle.case_laws.proofs.Events.{Done, cancels, ends_device, reads, sets_date, writes, zaps}
use Rattle.case_laws.proofs.Finding.{Found, initiator_of}
use Rattle.case_laws.proofs.KeptAlone.{none_before}
use Rattle.case_laws.proofs.Queues.{selected_or_none}
use Rattle.case_laws.proofs.Turning.{WentOn, admits, holds, reads_records}

module _ (w : World) (s : IsSound w) (supplied : IsSupplied w) (queue : HasWholeQueue w) where
  abbrev HasNothingKept : ℕ → Type 0
  HasNothingKept job = (serial : List ℕ) → kept_of job w.shared.kept serial ≡ []

  goes_on : (r : Running) (stage : Stage) → CanGoOn w.config w.shared r.job stage → (is_assured_at stage ≡ false → HasNothingKept r.job) →
      ((plan : JobPlan) → plan_read stage ≡ Some plan → IsWellFormedPlan plan) → WentOn w.config w.shared r stage
  goes_on r (Selected first) can none formed = reads_records w.config w.shared r first queue.fields queue.records
  goes_on r (Wanting plan) can none formed = holds w.config w.shared r plan
  goes_on r (Named plan) can none formed =
      admits w.config w.shared r plan (formed plan refl) (s.groups r.job) (none refl)
  goes_on r (Admitted plan a count own) can none formed = advances w.config w.shared r plan a count own s.programs can.0 can.1

  by_queue : (place : ℕ) (x : Initiator) → (All (HasNone w.waiting) x.classes) ⊎ ((v : Waiting) × IsSelected w.waiting x.classes v) →
      Done (Selects (counted w) place x)
  by_queue place x (inl none) = (_, _, nothing none refl refl)
  by_queue place x (inr (v, is)) = (_, _, selected v is refl refl)

  by_running : (place : ℕ) (x : Initiator) (o : Option Running) → IsAt w place x → x.running ≡ o → Done (Acts (counted w) place x o)
  by_running place x None at e = by_queue place x (selected_or_none w.waiting x.classes)
  by_running place x (Some r) at e =
      let run : RunsAt w place r = record { it = x; at = at; running = e } in
      let went : WentOn w.config w.shared r r.stage = goes_on r r.stage (supplied.running place r run) (none_before w s supplied.kept place r run)
      (λ plan e. let d = s.denoted place r plan run e in plan_formed w.config.layout.most_steps (length w.config.units) plan d.denoted.in_range) in
      (_, _, record { job_lines = went.0; shared = went.1; runs = went.2; goes = went.3; told = refl; leaves = refl })

  by_initiator : (number : ℕ) → HasNoInitiator w number ⊎ Found (λ x. x.number ≡ number) w.initiators → Done (Turns (counted w) number)
  by_initiator number (inl none) = (_, _, unknown none refl refl)
  by_initiator number (inr f) =
      let did : Done (Acts (counted w) f.place f.it f.it.running) = by_running f.place f.it f.it.running f.at refl in
      (did.0, did.1, acts f.place f.it f.at f.is did.2)

  does : (job_of : Denoting) (e : Event) → CanBeWritten job_of w → Done (Does job_of (counted w) e)
  does job_of (event.Read deck) can = reads job_of (counted w) deck can
  does job_of (event.Turn number) can = by_initiator number (initiator_of w.initiators number)
  does job_of (event.DeviceEnd serial) can = ends_device (counted w) serial
  does job_of (event.Write class) can = writes (counted w) class supplied.spooled
  does job_of (event.Cancel job) can = cancels (counted w) job
  does job_of (event.Zap n offset bytes) can = zaps (counted w) n offset bytes
  does job_of event.Display can = (_, _, shown refl refl)
  does job_of (event.Date day) can = sets_date (counted w) day

  -- nothing that is open differs
  happens : (job_of : Denoting) (e : Event) (done : Done (Does job_of (counted w) e)) → Happens job_of (counted w) e done.0 done.1
  happens job_of e done = record {
    middle = done.1;
    does = done.2;
    reopened = record {
      records = done.1.shared.records;
      same = record { free = refl; used = λ n isnt. record { size = refl; bytes = λ k out. refl } };
      rest = refl;
    };
    rest = refl;
  }

  by_count : (job_of : Denoting) (e : Event) → CanBeWritten job_of w → (w.events < MOST_EVENTS) ⊎ (MOST_EVENTS ≤ w.events) → HasCase job_of w e
  by_count job_of e can (inl less) =
      let done : Done (Does job_of (counted w) e) = does job_of e can in
      record { lines = done.0; new = done.1; follows = taken less (happens job_of e done) }
  by_count job_of e can (inr more) = record { lines = entry.Refused (A PastLimit) ∷ []; new = w; follows = past more refl refl }

pub has_case : (job_of : Denoting) (w : World) (e : Event) → IsSound w → IsSupplied w → HasWholeQueue w → CanBeWritten job_of w →
    HasCase job_of w e
has_case job_of w e s supplied queue can = by_count w s supplied queue job_of e can (cases_lt w.events MOST_EVENTS)
