-- Each event does alike where records differ in what is open alone.
use Rattle.std.proofs.Common.{◌≡◌, ◌<◌, ℕ, List, length, ap, ◌∙◌, subst}
use Rattle.jcl_plan.specs.declared.entry.Entry.{Entry}
use Rattle.cb_meaning.specs.Needs.{records_needed}
use Rattle.cb_meaning.specs.Spelled.{Records}
use Rattle.world_meaning.specs.declared.event.Event.{Event}
use Rattle.world_meaning.specs.declared.event.Event.TheVariants as event
use Rattle.world_meaning.specs.Choices.{Closed, choice_of_event}
use Rattle.world_meaning.specs.Devices.{EndsDevice, Writes, ended, idle, no_volume, nothing_written, wrote}
use Rattle.world_meaning.specs.Displays.{SetsDate, set, shown_lines}
use Rattle.world_meaning.specs.Readings.{Denoting, Reads}
use Rattle.world_meaning.specs.Readings as reading
use Rattle.world_meaning.specs.Records.{IsQueueLayout, SameRecords}
use Rattle.world_meaning.specs.Transitions.{Does, Shows, shown}
use Rattle.world_meaning.specs.Worlds.{World}
use Rattle.world_laws.specs.RecordsKept.{DenotesStill}
use Rattle.open_laws.specs.Open.{SamenessIsKept}
use Rattle.open_laws.specs.Reading.{FirstFaultStays}
use Rattle.alike_laws.proofs.Same.{written_same}
use Rattle.alike_laws.proofs.Doing.{DoesTo, config_in, on_records, records_in, stays, takes}
use Rattle.alike_laws.proofs.Changing.{cancels_so, zaps_so}
use Rattle.alike_laws.proofs.Turning.{turns_so}

module _ (old : World) (own : IsQueueLayout old.config.layout) (r : Records) (same : SameRecords old.config.layout old.shared.records r) where
  abbrev q : Records
  q = old.shared.records

  abbrev beside : World
  beside = on_records old r

  abbrev back : World → World
  back w = on_records w q

  -- a deck
  read_so : SamenessIsKept → (job_of : Denoting) (deck : List (List ℕ)) (lines : List Entry) (new : World) → Reads job_of beside deck lines new →
      DoesTo old (Reads job_of old deck lines) (λ w d. Closed) new Closed
  read_so kept job_of deck lines new (reading.no_number many told e) =
      stays old r same (Reads job_of old deck lines) new (reading.no_number many told (ap back e)) (ap records_in e) (ap config_in e)
  read_so kept job_of deck lines new (reading.rejected cause few is told e) =
      stays old r same (Reads job_of old deck lines) new (reading.rejected cause few is told (ap back e)) (ap records_in e) (ap config_in e)
  read_so kept job_of deck lines new (reading.full plan few is none told e) =
      stays old r same (Reads job_of old deck lines) new
      (reading.full plan few is (subst (λ fs. length fs < records_needed plan) same.free none) told (ap back e))
      (ap records_in e) (ap config_in e)
  read_so kept job_of deck lines new (reading.read plan first p few is written told e) =
      takes old (Reads job_of old deck lines) new p p
      (reading.read plan first p few is (written_same old.config own q r same kept p _ plan first written) told (ap (λ w. on_records w p) e))
      ((kept old.config.layout own).itself p) (ap records_in e) (ap config_in e)

  -- a device's end
  ends_so : (serial : List ℕ) (lines : List Entry) (new : World) → EndsDevice beside serial lines new →
      DoesTo old (EndsDevice old serial lines) (λ w d. Closed) new Closed
  ends_so serial lines new (no_volume none told e) =
      stays old r same (EndsDevice old serial lines) new (no_volume none told (ap back e)) (ap records_in e) (ap config_in e)
  ends_so serial lines new (idle there is told e) =
      stays old r same (EndsDevice old serial lines) new (idle there is told (ap back e)) (ap records_in e) (ap config_in e)
  ends_so serial lines new (ended there is told e) =
      stays old r same (EndsDevice old serial lines) new (ended there is told (ap back e)) (ap records_in e) (ap config_in e)

  -- the writers
  writes_so : (class : ℕ) (lines : List Entry) (new : World) → Writes beside class lines new →
      DoesTo old (Writes old class lines) (λ w d. Closed) new Closed
  writes_so class lines new (nothing_written none told e) =
      stays old r same (Writes old class lines) new (nothing_written none told (ap back e)) (ap records_in e) (ap config_in e)
  writes_so class lines new (wrote job line left takes told e) =
      stays old r same (Writes old class lines) new (wrote job line left takes told (ap back e)) (ap records_in e) (ap config_in e)

  -- what is shown counts free records
  lines_same : shown_lines beside ≡ shown_lines old
  lines_same = ap (λ fs. shown_lines (record old { shared = record old.shared { records = record q { free = fs } } })) same.free

  -- the state is shown
  shows_so : (lines : List Entry) (new : World) → Shows beside lines new → DoesTo old (Shows old lines) (λ w d. Closed) new Closed
  shows_so lines new (shown told e) =
      stays old r same (Shows old lines) new (shown (told ∙ lines_same) (ap back e)) (ap records_in e) (ap config_in e)

  -- a date
  sets_so : (day : ℕ) (lines : List Entry) (new : World) → SetsDate beside day lines new → DoesTo old (SetsDate old day lines) (λ w d. Closed) new Closed
  sets_so day lines new (set years of_year is told e) =
      stays old r same (SetsDate old day lines) new (set years of_year is told (ap back e)) (ap records_in e) (ap config_in e)

  -- any event
  pub does_so : FirstFaultStays → DenotesStill → SamenessIsKept → (job_of : Denoting) (e : Event) (lines : List Entry) (new : World)
      (d : Does job_of beside e lines new) →
      DoesTo old (Does job_of old e lines) (choice_of_event job_of old e lines) new (choice_of_event job_of beside e lines new d)
  does_so faults denotes kept job_of (event.Read deck) lines new d = read_so kept job_of deck lines new d
  does_so faults denotes kept job_of (event.Turn number) lines new d = turns_so old own r same faults denotes kept number lines new d
  does_so faults denotes kept job_of (event.DeviceEnd serial) lines new d = ends_so serial lines new d
  does_so faults denotes kept job_of (event.Write class) lines new d = writes_so class lines new d
  does_so faults denotes kept job_of (event.Cancel job) lines new d = cancels_so old own r same job lines new d
  does_so faults denotes kept job_of (event.Zap n offset bytes) lines new d = zaps_so old own r same n offset bytes lines new d
  does_so faults denotes kept job_of event.Display lines new d = shows_so lines new d
  does_so faults denotes kept job_of (event.Date day) lines new d = sets_so day lines new d
