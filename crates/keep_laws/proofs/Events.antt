-- At an event that assures no job nothing is kept that was not.
use Rattle.std.proofs.Common.{◌≡◌, ◌∷◌, ◌++◌, ℕ, Bool, true, false, cond, List, [], Option, Some, None, refl, sym, ap, ◌∙◌, subst}
use Rattle.jcl_plan.specs.declared.entry.Entry.{Entry}
use Rattle.world_meaning.specs.declared.event.Event.{Event}
use Rattle.world_meaning.specs.declared.event.Event.TheVariants as event
use Rattle.world_meaning.specs.Cancels.{CancelsJob, with_cancel}
use Rattle.world_meaning.specs.Cancels as cancel
use Rattle.world_meaning.specs.Choices.{choice_of_acting, choice_of_event, choice_of_turn}
use Rattle.world_meaning.specs.Devices.{EndsDevice, Writes, ended, idle, no_volume, nothing_written, wrote}
use Rattle.world_meaning.specs.Displays.{SetsDate, set}
use Rattle.world_meaning.specs.Readings.{Denoting, Reads}
use Rattle.world_meaning.specs.Readings as reading
use Rattle.world_meaning.specs.Selections.{Selects}
use Rattle.world_meaning.specs.Selections as selection
use Rattle.world_meaning.specs.Transitions.{Acts, Does, Shows, Turns, acts, past, shown, taken, unknown}
use Rattle.world_meaning.specs.Turns.{has_cancel}
use Rattle.world_meaning.specs.Worlds.{Initiator, Kept, Running, World, counted}
use Rattle.world_meaning.specs.Zaps.{ZapsRecord}
use Rattle.world_meaning.specs.Zaps as zap
use Rattle.keep_laws.specs.Keeping.{AssuresNone, EventsKeepNoMore, KeepsNoMore}
use Rattle.keep_laws.proofs.Turning.{as_was, goes_no_more, kept_by, without}

abbrev kept_then : World → List ℕ → List Kept
kept_then w = w.shared.kept

module _ (old new : World) (lines : List Entry) where
  abbrev NoneMore : Type 0
  NoneMore = KeepsNoMore old.shared.kept new.shared.kept

  same_world : (at : World) → new ≡ at → at.shared.kept ≡ old.shared.kept → NoneMore
  same_world at is same = as_was old.shared.kept new.shared.kept (ap kept_then is ∙ same)

  selects_no_more : (place : ℕ) (x : Initiator) → Selects old place x lines new → NoneMore
  selects_no_more place x (selection.nothing none told same) = same_world _ same refl
  selects_no_more place x (selection.selected w is told same) = same_world _ same refl

  acts_no_more : (place : ℕ) (x : Initiator) (running : Option Running) (g : Acts old place x running lines new) →
      AssuresNone (choice_of_acting old place x running lines new g) → NoneMore
  acts_no_more place x None g none = selects_no_more place x g
  acts_no_more place x (Some r) g none =
      subst (λ (w : World). KeepsNoMore old.shared.kept w.shared.kept) (sym g.leaves)
      (goes_no_more old.config old.shared g.shared r g.job_lines g.runs r.stage g.goes none)

  turns_no_more : (number : ℕ) (g : Turns old number lines new) → AssuresNone (choice_of_turn g) → NoneMore
  turns_no_more number (unknown there told same) none = same_world _ same refl
  turns_no_more number (acts place x at numbered g) none = acts_no_more place x x.running g none

  -- the other events
  reads_deck_no_more : (job_of : Denoting) (deck : List (List ℕ)) → Reads job_of old deck lines new → NoneMore
  reads_deck_no_more job_of deck (reading.no_number many told same) = same_world _ same refl
  reads_deck_no_more job_of deck (reading.rejected cause few is told same) = same_world _ same refl
  reads_deck_no_more job_of deck (reading.full plan few is none told same) = same_world _ same refl
  reads_deck_no_more job_of deck (reading.read plan first records few is written told same) = same_world _ same refl

  ends_no_more : (serial : List ℕ) → EndsDevice old serial lines new → NoneMore
  ends_no_more serial (no_volume none told same) = same_world _ same refl
  ends_no_more serial (idle there_is is told same) = same_world _ same refl
  ends_no_more serial (ended there_is is told same) = same_world _ same refl

  writes_no_more : (class : ℕ) → Writes old class lines new → NoneMore
  writes_no_more class (nothing_written none told same) = same_world _ same refl
  writes_no_more class (wrote job line left takes told same) = same_world _ same refl

  noted : (job : ℕ) → (with_cancel old.shared job).kept ≡ old.shared.kept
  noted job = by (has_cancel old.shared.cancels job)
    where
      by : (b : Bool) → (cond b old.shared (record old.shared { cancels = old.shared.cancels ++ job ∷ [] })).kept ≡ old.shared.kept
      by true = refl
      by false = refl

  cancels_no_more : (job : ℕ) → CancelsJob old job lines new → NoneMore
  cancels_no_more job (cancel.no_job none told same) = same_world _ same refl
  cancels_no_more job (cancel.waiting w free waits its told same conserves) = without old.shared.kept job new.shared.kept (ap kept_then same)
  cancels_no_more job (cancel.selected place x r free at running its is told same conserves) =
      without old.shared.kept job new.shared.kept (ap kept_then same)
  cancels_no_more job (cancel.admitted place x r at running its is told same) = same_world _ same (noted job)

  zaps_no_more : (n offset : ℕ) (bytes : List ℕ) → ZapsRecord old n offset bytes lines new → NoneMore
  zaps_no_more n offset bytes (zap.not_owned is told same) = same_world _ same refl
  zaps_no_more n offset bytes (zap.selected is has told same) = same_world _ same refl
  zaps_no_more n offset bytes (zap.zapped is has told same) = same_world _ same refl

  shows_no_more : Shows old lines new → NoneMore
  shows_no_more (shown told same) = same_world _ same refl

  sets_no_more : (day : ℕ) → SetsDate old day lines new → NoneMore
  sets_no_more day (set years of_year is told same) = same_world _ same refl

  does_no_more : (job_of : Denoting) (e : Event) (d : Does job_of old e lines new) → AssuresNone (choice_of_event job_of old e lines new d) → NoneMore
  does_no_more job_of (event.Read deck) d none = reads_deck_no_more job_of deck d
  does_no_more job_of (event.Turn number) d none = turns_no_more number d none
  does_no_more job_of (event.DeviceEnd serial) d none = ends_no_more serial d
  does_no_more job_of (event.Write class) d none = writes_no_more class d
  does_no_more job_of (event.Cancel job) d none = cancels_no_more job d
  does_no_more job_of (event.Zap n offset bytes) d none = zaps_no_more n offset bytes d
  does_no_more job_of event.Display d none = shows_no_more d
  does_no_more job_of (event.Date day) d none = sets_no_more day d

-- records alone differ behind the case of the table
pub events_keep_no_more : EventsKeepNoMore
events_keep_no_more job_of old new e lines (past many told same) none = as_was old.shared.kept new.shared.kept (ap kept_then same)
events_keep_no_more job_of old new e lines (taken few h) none =
    subst (KeepsNoMore old.shared.kept) (sym (ap kept_by h.reopened.rest)) (does_no_more (counted old) h.middle lines job_of e h.does none)
