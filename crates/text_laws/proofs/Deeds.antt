-- An event that is no job's turn writes printable lines, and leaves a printable machine.
use Rattle.std.proofs.Common.{◌++◌, ◌+◌, ◌==◌, ◌∷◌, ◌≡◌, ◌≤◌, All, List, None, Option, Some, [], ℕ, arith, not, subst, sym}
use Rattle.std.specs.Prelude.{IfSome, map}
use Rattle.std.proofs.lemmas.List.Elements.{All-append, All-cons, All-contains, All-filter, All-map, All-same, All-set}
use Rattle.jcl_plan.specs.declared.entry.JobLine.TheVariants as line
use Rattle.jcl_plan.specs.declared.entry.Entry.{Entry}
use Rattle.jcl_plan.specs.declared.entry.Entry.TheVariants as entry
use Rattle.machine_meaning.specs.declared.machine.TheConstants.{MOST_JOBS}
use Rattle.world_meaning.specs.Transitions.{Shows}
use Rattle.world_meaning.specs.Worlds.{Initiator, IsAt, Running, Waiting, World, with_running, without_waiting}
use Rattle.world_meaning.specs.Cancels.{CancelsJob, cancelled_lines}
use Rattle.world_meaning.specs.Devices.{EndsDevice, Writes}
use Rattle.world_meaning.specs.Displays.{SetsDate, queue_line, shown_lines, volume_line}
use Rattle.world_meaning.specs.Readings.{Denoting, Reads, read_line, waits}
use Rattle.world_meaning.specs.Selections.{Selects, taken_by}
use Rattle.world_meaning.specs.Zaps.{ZapsRecord}
use Rattle.line_laws.specs.Printable.{IsPrintableEntry, IsPrintableLine}
use Rattle.print_laws.specs.Printable.{IsPrintablePlan}
use Rattle.print_laws.specs.PrintLaws.{WritableIsPrintable}
use Rattle.print_laws.specs.Texts.{ArePrintableTexts, IsPrintableRunning, IsPrintableWaiting}
use Rattle.text_laws.specs.TextLaws.{AreTextsKept}
use Rattle.text_laws.proofs.Elements.{at_place, of_one}
use Rattle.text_laws.proofs.Shares.{IsPrintableInitiator, cancel_printable, released_printable, shared_of, texts_with, with_jobs, with_shared}
use Rattle.text_laws.proofs.Spooling.{IsPrintableTaking, takes_printable}
use Rattle.text_laws.proofs.Telling.{none_told, one_told}

module _ (old new : World) (lines : List Entry) (h : ArePrintableTexts old) where
  abbrev Kept : Type 0
  Kept = AreTextsKept new lines

  pub as_new : (at : World) → new ≡ at → ArePrintableTexts at → ArePrintableTexts new
  as_new at is texts = subst ArePrintableTexts (sym is) texts

  -- an event that writes one line, or none, and changes no text
  pub tells_one : (e : Entry) → lines ≡ e ∷ [] → IsPrintableEntry e → new ≡ old → Kept
  tells_one e told is same = record { texts = as_new old same h; told = one_told lines e told is }

  tells_none : lines ≡ [] → new ≡ old → Kept
  tells_none told same = record { texts = as_new old same h; told = none_told lines told }

  -- a deck is read
  pub reads_kept : WritableIsPrintable → (job_of : Denoting) (deck : List (List ℕ)) → Reads job_of old deck lines new → Kept
  reads_kept writable job_of deck (Reads.no_number many told same) = tells_one _ told tt same
  reads_kept writable job_of deck (Reads.rejected cause few is told same) =
      record { texts = as_new _ same (with_jobs old (old.jobs + 1) h (omega arith)); told = one_told lines _ told (omega arith, tt) }
  reads_kept writable job_of deck (Reads.full plan few is none told same) =
      record { texts = as_new _ same (with_jobs old (old.jobs + 1) h (omega arith)); told = one_told lines _ told (omega arith, tt) }
  reads_kept writable job_of deck (Reads.read plan first records few is written told same) =
      let within : old.jobs + 1 ≤ MOST_JOBS = omega arith in
      let p : IsPrintablePlan plan = writable _ _ plan written.denoted.in_range in
      record {
        texts = as_new _ same
            (texts_with old (record old.shared { records = records }) old.initiators (old.waiting ++ waits (old.jobs + 1) first plan ∷ []) (old.jobs + 1) h
            (record { store = h.store; holds = h.holds; spool = h.spool }) h.running
            (All-append IsPrintableWaiting old.waiting (waits (old.jobs + 1) first plan ∷ []) h.waiting
            (of_one IsPrintableWaiting (waits (old.jobs + 1) first plan)
            (record { numbered = within; listing = of_one IsPrintableLine (read_line plan) (p.name, p.class) })))
            within);
        told = one_told lines _ told (within, (p.name, p.class));
      }

  -- an initiator selects a job
  pub running_with : (place : ℕ) (x : Initiator) (runs : Option Running) → IfSome runs IsPrintableRunning →
      All IsPrintableInitiator (with_running old.initiators place x runs)
  running_with place x runs is = All-set IsPrintableInitiator old.initiators place (record x { running = runs }) is h.running

  still_waiting : (job : ℕ) → All IsPrintableWaiting (without_waiting old.waiting job)
  still_waiting job = All-filter (λ (w : Waiting). not (w.job == job)) IsPrintableWaiting old.waiting h.waiting

  pub selects_kept : (place : ℕ) (x : Initiator) → Selects old place x lines new → Kept
  selects_kept place x (Selects.nothing none told same) = tells_none told same
  selects_kept place x (Selects.selected w is told same) =
      let its : IsPrintableWaiting w = All-contains IsPrintableWaiting old.waiting w h.waiting is.first.contained in
      let r : IsPrintableRunning (taken_by x.number w) = record {
        numbered = its.numbered;
        listing = All-append IsPrintableLine w.listing (line.Selected x.number ∷ []) its.listing (of_one IsPrintableLine (line.Selected x.number) tt);
        stage = tt;
      } in
      record {
        texts = as_new _ same
            (texts_with old old.shared (with_running old.initiators place x (Some (taken_by x.number w))) (without_waiting old.waiting w.job) old.jobs h
            (shared_of old h) (running_with place x (Some (taken_by x.number w)) r) (still_waiting w.job) h.jobs);
        told = one_told lines _ told (its.numbered, tt);
      }

  -- a device ends, a writer writes
  pub ends_kept : (serial : List ℕ) → EndsDevice old serial lines new → Kept
  ends_kept serial (EndsDevice.no_volume none told same) = tells_one _ told tt same
  ends_kept serial (EndsDevice.idle there is told same) = tells_one _ told tt same
  ends_kept serial (EndsDevice.ended there is told same) =
      record { texts = as_new _ same (with_shared old _ h (record { store = h.store; holds = h.holds; spool = h.spool })); told = none_told lines told }

  pub writes_kept : (class : ℕ) → Writes old class lines new → Kept
  writes_kept class (Writes.nothing_written none told same) = tells_none told same
  writes_kept class (Writes.wrote job l left takes told same) =
      let t : IsPrintableTaking class l left = takes_printable old.shared.spool class job l left h.spool takes in
      record {
        texts = as_new _ same (with_shared old _ h (record { store = h.store; holds = h.holds; spool = t.is_left }));
        told = one_told lines _ told (t.of_class, t.its);
      }

  -- a job is cancelled
  cancelled_told : (job : ℕ) → job ≤ MOST_JOBS → lines ≡ cancelled_lines job → All IsPrintableEntry lines
  cancelled_told job few told =
      All-same IsPrintableEntry lines (cancelled_lines job) told
      (All-cons IsPrintableEntry (entry.Cancel job) (entry.Job job line.Cancelled ∷ []) tt (of_one IsPrintableEntry (entry.Job job line.Cancelled) (few, tt)))

  running_at : (place : ℕ) (x : Initiator) (r : Running) → IsAt old place x → x.running ≡ Some r → IsPrintableRunning r
  running_at place x r at runs =
      subst (λ (o : Option Running). IfSome o IsPrintableRunning) runs (at_place IsPrintableInitiator old.initiators place x h.running at)

  pub cancels_kept : (job : ℕ) → CancelsJob old job lines new → Kept
  cancels_kept job (CancelsJob.no_job none told same) = tells_one _ told tt same
  cancels_kept job (CancelsJob.waiting w free there is told same conserves) =
      let its : IsPrintableWaiting w = All-contains IsPrintableWaiting old.waiting w h.waiting there in
      record {
        texts = as_new _ same
            (texts_with old _ old.initiators (without_waiting old.waiting job) old.jobs h (released_printable old.config old.shared job free (shared_of old h))
            h.running (still_waiting job) h.jobs);
        told = cancelled_told job (subst (λ (n : ℕ). n ≤ MOST_JOBS) is its.numbered) told;
      }
  cancels_kept job (CancelsJob.selected place x r free at runs is not_yet told same conserves) = record {
    texts = as_new _ same
        (texts_with old _ (with_running old.initiators place x None) old.waiting old.jobs h
        (released_printable old.config old.shared job free (shared_of old h)) (running_with place x None tt) h.waiting h.jobs);
    told = cancelled_told job (subst (λ (n : ℕ). n ≤ MOST_JOBS) is (running_at place x r at runs).numbered) told;
  }
  cancels_kept job (CancelsJob.admitted place x r at runs is yet told same) =
      record { texts = as_new _ same (with_shared old _ h (cancel_printable old.shared job (shared_of old h))); told = one_told lines _ told tt }

  -- a record is zapped, the machine is shown, the date is set
  pub zaps_kept : (n offset : ℕ) (bytes : List ℕ) → ZapsRecord old n offset bytes lines new → Kept
  zaps_kept n offset bytes (ZapsRecord.not_owned is told same) = tells_one _ told tt same
  zaps_kept n offset bytes (ZapsRecord.selected is has told same) = tells_one _ told tt same
  zaps_kept n offset bytes (ZapsRecord.zapped is has told same) =
      record { texts = as_new _ same (with_shared old _ h (record { store = h.store; holds = h.holds; spool = h.spool })); told = none_told lines told }

  pub shows_kept : Shows old lines new → Kept
  shows_kept (Shows.shown told same) = record {
    texts = as_new old same h;
    told = All-same IsPrintableEntry lines (shown_lines old) told
        (All-append IsPrintableEntry (map (volume_line old.shared) old.config.volumes) (queue_line old ∷ [])
        (All-map IsPrintableEntry (volume_line old.shared) old.config.volumes h.volumes) (of_one IsPrintableEntry (queue_line old) tt));
  }

  pub date_kept : (day : ℕ) → SetsDate old day lines new → Kept
  date_kept day (SetsDate.set years of_year is told same) =
      record { texts = as_new _ same (with_shared old _ h (record { store = h.store; holds = h.holds; spool = h.spool })); told = one_told lines _ told tt }
