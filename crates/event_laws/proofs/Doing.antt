-- What an event does but a reading leaves one machine, but for the free tracks.
use Rattle.std.proofs.Common.{◌≡◌, ◌≢◌, ◌+◌, ◌⊎◌, inl, inr, ℕ, List, [], ◌∷◌, Option, Some, None, All, refl, sym, ap, ◌∙◌, subst}
use Rattle.std.specs.List.{Contains}
use Rattle.std.proofs.lemmas.Bool.{both_ways}
use Rattle.std.proofs.lemmas.List.Elements.{All-contains}
use Rattle.date_core.specs.Dates.{days_before}
use Rattle.date_core.proofs.Dates.{one_day, one_year}
use Rattle.jcl_plan.specs.declared.entry.Entry.{Entry}
use Rattle.jcl_plan.specs.declared.entry.Entry.TheVariants as entry
use Rattle.machine_meaning.specs.declared.machine.SpoolSet.{SpoolSet}
use Rattle.prog_core.specs.Operations.{is_busy}
use Rattle.turn_core.specs.Performing.{StoreAnswers}
use Rattle.world_meaning.specs.declared.event.Event.{Event}
use Rattle.world_meaning.specs.declared.event.Event.TheVariants as event
use Rattle.world_meaning.specs.Cancels.{CancelsJob, RunsNot, admitted, is_admitted, no_job, selected, waiting}
use Rattle.world_meaning.specs.Choices.{choice_of_event}
use Rattle.world_meaning.specs.Devices.{EndsDevice, Writes, ended, idle, no_volume, nothing_written, wrote}
use Rattle.world_meaning.specs.Displays.{SetsDate, set}
use Rattle.world_meaning.specs.Holdings.{released}
use Rattle.world_meaning.specs.Readings.{Denoting}
use Rattle.world_meaning.specs.Transitions.{Does, shown}
use Rattle.world_meaning.specs.Worlds.{Initiator, IsAt, Running, Waiting, World, counted, with_running, without_waiting}
use Rattle.world_meaning.specs.Zaps.{ZapsRecord, not_owned, selected as is_selected, zapped}
use Rattle.world_laws.proofs.Beside.{one_there}
use Rattle.law_core.specs.Soundness.{IsSound, RunsAt}
use Rattle.turn_laws.specs.Decided.{IsDecidedBy, TurnsAreDecided}
use Rattle.event_laws.proofs.FirstSets.{none_taken, one_taken}
use Rattle.event_laws.proofs.Splits.{holds_at}
use Rattle.event_laws.proofs.Turning.{IsSameDone, both_do, same_but, turns_alike}

-- the event reads no deck
abbrev pub ReadsNoDeck : Event → Type 0
ReadsNoDeck (event.Read deck) = ⊥
ReadsNoDeck (event.Turn number) = Unit {0}
ReadsNoDeck (event.DeviceEnd serial) = Unit {0}
ReadsNoDeck (event.Write class) = Unit {0}
ReadsNoDeck (event.Cancel job) = Unit {0}
ReadsNoDeck (event.Zap n offset bytes) = Unit {0}
ReadsNoDeck event.Display = Unit {0}
ReadsNoDeck (event.Date day) = Unit {0}

-- an event that reads one
pub record IsReading (e : Event) : Type 0 where
  pub deck : List (List ℕ)
  pub is : e ≡ event.Read deck

pub reads_or_not : (e : Event) → IsReading e ⊎ ReadsNoDeck e
reads_or_not (event.Read deck) = inl (record { deck = deck; is = refl })
reads_or_not (event.Turn number) = inr tt
reads_or_not (event.DeviceEnd serial) = inr tt
reads_or_not (event.Write class) = inr tt
reads_or_not (event.Cancel job) = inr tt
reads_or_not (event.Zap n offset bytes) = inr tt
reads_or_not event.Display = inr tt
reads_or_not (event.Date day) = inr tt

module _ (w : World) (s : IsSound w) (l m : List Entry) (a b : World) where
  abbrev old : World
  old = counted w

  no_such : (serial : List ℕ) → All (λ v. v ≢ serial) w.config.volumes → Contains w.config.volumes serial → ⊥
  no_such serial none there = All-contains (λ v. v ≢ serial) w.config.volumes serial none there refl

  ends_alike : (serial : List ℕ) → EndsDevice old serial l a → EndsDevice old serial m b → IsSameDone l m a b
  ends_alike serial (no_volume none t n) (no_volume none_too u o) = both_do l m _ a b old t u n o
  ends_alike serial (no_volume none t n) (idle there still u o) = absurd (no_such serial none there)
  ends_alike serial (no_volume none t n) (ended there busy u o) = absurd (no_such serial none there)
  ends_alike serial (idle there still t n) (no_volume none u o) = absurd (no_such serial none there)
  ends_alike serial (idle there still t n) (idle there_too still_too u o) = both_do l m _ a b old t u n o
  ends_alike serial (idle there still t n) (ended there_too busy u o) = absurd (both_ways (is_busy w.shared.operations (Some serial)) still busy)
  ends_alike serial (ended there busy t n) (no_volume none u o) = absurd (no_such serial none there)
  ends_alike serial (ended there busy t n) (idle there_too still u o) = absurd (both_ways (is_busy w.shared.operations (Some serial)) still busy)
  ends_alike serial (ended there busy t n) (ended there_too busy_too u o) = both_do l m _ a b _ t u n o

  writes_alike : (class : ℕ) → Writes old class l a → Writes old class m b → IsSameDone l m a b
  writes_alike class (nothing_written none t n) (nothing_written none_too u o) = both_do l m _ a b old t u n o
  writes_alike class (nothing_written none t n) (wrote job line left is u o) = absurd (none_taken w.shared.spool class job line left none is)
  writes_alike class (wrote job line left is t n) (nothing_written none u o) = absurd (none_taken w.shared.spool class job line left none is)
  writes_alike class (wrote job line left is t n) (wrote other that rest is_too u o) =
      let one = one_taken w.shared.spool class job other line that left rest is is_too in
      both_do l m (entry.Writer class job line ∷ []) a b (record old { shared = record old.shared { spool = left } }) t
      (u ∙ (λ i. entry.Writer class (one.0 i) (one.1 i) ∷ [])) n
      (o ∙ ap (λ (spool : List SpoolSet). record old { shared = record old.shared { spool = spool } }) one.2)

  -- an initiator that has the job
  module _ (job place : ℕ) (x : Initiator) (r : Running) (at : IsAt w place x) (runs : x.running ≡ Some r) (is : r.job ≡ job) where
    run : RunsAt w place r
    run = record { it = x; at = at; running = runs }

    runs_it : All (λ y. RunsNot y.running job) w.initiators → ⊥
    runs_it none = subst (λ (o : Option Running). RunsNot o job) runs (holds_at (λ y. RunsNot y.running job) w.initiators place x none at) is

    waits_not : (v : Waiting) → Contains w.waiting v → v.job ≡ job → ⊥
    waits_not v there same = All-contains (λ y. y.job ≢ r.job) w.waiting v (s.alone place r run).not_waiting there (same ∙ sym is)

    -- it is one place, one initiator and one job
    module _ (other : ℕ) (y : Initiator) (q : Running) (at_other : IsAt w other y) (runs_too : y.running ≡ Some q) (so : q.job ≡ job) where
      one_at : other ≡ place
      one_at = (s.alone place r run).alone other q (record { it = y; at = at_other; running = runs_too }) (so ∙ sym is)

      one_it : y ≡ x
      one_it = one_there w.initiators other place y x one_at at_other at

      one_stage : is_admitted r.stage ≡ is_admitted q.stage
      one_stage =
          let both : Some r ≡ Some q = sym runs ∙ ap (λ (z : Initiator). z.running) (sym one_it) ∙ runs_too in
          let one : r ≡ q = cc in
          ap (λ (z : Running). is_admitted z.stage) one

  cancels_alike : (job : ℕ) → CancelsJob old job l a → CancelsJob old job m b → IsSameDone l m a b
  cancels_alike job (no_job none t n) (no_job none_too u o) = both_do l m _ a b old t u n o
  cancels_alike job (no_job none t n) (waiting v free there is u o conserved) = absurd (All-contains (λ y. y.job ≢ job) w.waiting v none.waits_not there is)
  cancels_alike job (no_job none t n) (selected place x r free at runs is early u o conserved) = absurd (runs_it job place x r at runs is none.runs_not)
  cancels_alike job (no_job none t n) (admitted place x r at runs is late u o) = absurd (runs_it job place x r at runs is none.runs_not)
  cancels_alike job (waiting v free there is t n conserved) (no_job none u o) = absurd (All-contains (λ y. y.job ≢ job) w.waiting v none.waits_not there is)
  cancels_alike job (waiting v free there is t n conserved) (waiting v_too free_too there_too is_too u o conserved_too) =
      record { lines = u ∙ sym t; rest = same_but a b (unqueued free) (unqueued free_too) n o refl }
    where
      unqueued : (List ℕ → ℕ) → World
      unqueued free = record old { waiting = without_waiting old.waiting job; shared = released old.config old.shared job free }
  cancels_alike job (waiting v free there is t n conserved) (selected place x r free_too at runs so early u o conserved_too) =
      absurd (waits_not job place x r at runs so v there is)
  cancels_alike job (waiting v free there is t n conserved) (admitted place x r at runs so late u o) = absurd (waits_not job place x r at runs so v there is)
  cancels_alike job (selected place x r free at runs is early t n conserved) (no_job none u o) = absurd (runs_it job place x r at runs is none.runs_not)
  cancels_alike job (selected place x r free at runs is early t n conserved) (waiting v free_too there so u o conserved_too) =
      absurd (waits_not job place x r at runs is v there so)
  cancels_alike job (selected place x r free at runs is early t n conserved)
      (selected other y q free_too at_other runs_too so early_too u o conserved_too) =
      record {
        lines = u ∙ sym t;
        rest = same_but a b (left place x free) (left place x free_too) n
            (o ∙ (λ i. left (one_at job place x r at runs is other y q at_other runs_too so i)
            (one_it job place x r at runs is other y q at_other runs_too so i) free_too)) refl;
      }
    where
      left : ℕ → Initiator → (List ℕ → ℕ) → World
      left place x free =
          record old { initiators = with_running old.initiators place x None; shared = released old.config old.shared job free }
  cancels_alike job (selected place x r free at runs is early t n conserved) (admitted other y q at_other runs_too so late u o) =
      absurd (both_ways (is_admitted q.stage) (sym (one_stage job place x r at runs is other y q at_other runs_too so) ∙ early) late)
  cancels_alike job (admitted place x r at runs is late t n) (no_job none u o) = absurd (runs_it job place x r at runs is none.runs_not)
  cancels_alike job (admitted place x r at runs is late t n) (waiting v free there so u o conserved) =
      absurd (waits_not job place x r at runs is v there so)
  cancels_alike job (admitted place x r at runs is late t n) (selected other y q free at_other runs_too so early u o conserved) =
      absurd (both_ways (is_admitted r.stage) (one_stage job place x r at runs is other y q at_other runs_too so ∙ early) late)
  cancels_alike job (admitted place x r at runs is late t n) (admitted other y q at_other runs_too so late_too u o) = both_do l m _ a b _ t u n o

  zaps_alike : (n offset : ℕ) (bytes : List ℕ) → ZapsRecord old n offset bytes l a → ZapsRecord old n offset bytes m b → IsSameDone l m a b
  zaps_alike n offset bytes (not_owned isnt t k) (not_owned isnt_too u o) = both_do l m _ a b old t u k o
  zaps_alike n offset bytes (not_owned isnt t k) (is_selected may has u o) = absurd (both_ways _ isnt may)
  zaps_alike n offset bytes (not_owned isnt t k) (zapped may hasnt u o) = absurd (both_ways _ isnt may)
  zaps_alike n offset bytes (is_selected may has t k) (not_owned isnt u o) = absurd (both_ways _ isnt may)
  zaps_alike n offset bytes (is_selected may has t k) (is_selected may_too has_too u o) = both_do l m _ a b old t u k o
  zaps_alike n offset bytes (is_selected may has t k) (zapped may_too hasnt u o) = absurd (both_ways _ hasnt has)
  zaps_alike n offset bytes (zapped may hasnt t k) (not_owned isnt u o) = absurd (both_ways _ isnt may)
  zaps_alike n offset bytes (zapped may hasnt t k) (is_selected may_too has u o) = absurd (both_ways _ hasnt has)
  zaps_alike n offset bytes (zapped may hasnt t k) (zapped may_too hasnt_too u o) = both_do l m _ a b _ t u k o

  dates_alike : (day : ℕ) → SetsDate old day l a → SetsDate old day m b → IsSameDone l m a b
  dates_alike day (set y n is t k) (set z d so u o) =
      let year : z ≡ y = one_year day z d y n so is in
      let of_year : d ≡ n = one_day day (days_before y) d n (so.counts ∙ ap (λ x. days_before x + d) year) is.counts in
      both_do l m (entry.Date (1900 + y) n ∷ []) a b _ t (u ∙ (λ i. entry.Date (1900 + year i) (of_year i) ∷ [])) k o

  pub does_alike : TurnsAreDecided → (grants : ℕ → StoreAnswers) (job_of : Denoting) (e : Event) → ReadsNoDeck e → (p : Does job_of old e l a)
      (q : Does job_of old e m b) → IsDecidedBy grants (choice_of_event job_of old e l a p) → IsDecidedBy grants (choice_of_event job_of old e m b q) →
      IsSameDone l m a b
  does_alike law grants job_of (event.Read deck) none p q by by_too = absurd none
  does_alike law grants job_of (event.Turn number) none p q by by_too = turns_alike law grants w s l m a b number p q by by_too
  does_alike law grants job_of (event.DeviceEnd serial) none p q by by_too = ends_alike serial p q
  does_alike law grants job_of (event.Write class) none p q by by_too = writes_alike class p q
  does_alike law grants job_of (event.Cancel job) none p q by by_too = cancels_alike job p q
  does_alike law grants job_of (event.Zap n offset bytes) none p q by by_too = zaps_alike n offset bytes p q
  does_alike law grants job_of event.Display none (shown t n) (shown u o) by by_too = both_do l m _ a b old t u n o
  does_alike law grants job_of (event.Date day) none p q by by_too = dates_alike day p q
