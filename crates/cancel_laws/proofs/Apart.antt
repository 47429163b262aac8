-- No event tells both a CANCEL and an S222 of a job.
use Rattle.std.proofs.Common.{◌≡◌, ◌⊎◌, inl, inr, ℕ, false, List, [], ◌∷◌, ◌++◌, map, Option, Some, None, refl, ap, ◌∙◌}
use Rattle.std.specs.Prelude.{◌||◌}
use Rattle.std.specs.List.{list_any}
use Rattle.std.proofs.lemmas.List.Folds.{list_any-append}
use Rattle.jcl_plan.specs.declared.entry.Entry.{Entry}
use Rattle.jcl_plan.specs.declared.entry.Entry.TheVariants as entry
use Rattle.jcl_plan.specs.declared.entry.JobLine.{JobLine}
use Rattle.jcl_plan.specs.declared.entry.JobLine.TheVariants as line
use Rattle.world_meaning.specs.declared.event.Event.{Event}
use Rattle.world_meaning.specs.declared.event.Event.TheVariants as event
use Rattle.world_meaning.specs.Cancels.{CancelsJob, admitted, cancelled_lines, no_job, selected as cancels_selected, waiting as cancels_waiting}
use Rattle.world_meaning.specs.Devices.{ended, idle, no_volume, nothing_written, wrote}
use Rattle.world_meaning.specs.Displays.{queue_line, set as dated, volume_line}
use Rattle.world_meaning.specs.Readings.{Denoting, full, no_number, read, rejected}
use Rattle.world_meaning.specs.Selections.{nothing, selected}
use Rattle.world_meaning.specs.Transitions.{Acts, Does, Transition, acts, explained_by, past, shown, taken, told_with, unknown}
use Rattle.world_meaning.specs.Worlds.{Initiator, Running, Shared, World, counted, of_job}
use Rattle.world_meaning.specs.Zaps.{not_owned, selected as zaps_selected, zapped}
use Rattle.cancel_laws.specs.Cancels.{is_cancel_of, is_s222_of}
use Rattle.cancel_laws.proofs.Counting.{none_told}

-- one of the two is not told
abbrev pub IsApart : ℕ → List Entry → Type 0
IsApart job lines = (list_any (is_cancel_of job) lines ≡ false) ⊎ (list_any (is_s222_of job) lines ≡ false)

module _ (job : ℕ) where
  -- a turn of a job tells no CANCEL
  no_cancel_of_job : (other : ℕ) (lines : List JobLine) → list_any (is_cancel_of job) (of_job other lines) ≡ false
  no_cancel_of_job other [] = refl
  no_cancel_of_job other (l ∷ lines) = no_cancel_of_job other lines

  no_cancel_of_path : (other : ℕ) (path : List JobLine) → list_any (is_cancel_of job) (map (entry.Path other) path) ≡ false
  no_cancel_of_path other [] = refl
  no_cancel_of_path other (l ∷ path) = no_cancel_of_path other path

  no_cancel_told : (other : ℕ) (lines path : List JobLine) → list_any (is_cancel_of job) (told_with other lines path) ≡ false
  no_cancel_told other lines [] = no_cancel_of_job other lines
  no_cancel_told other [] (l ∷ path) = no_cancel_of_path other path
  no_cancel_told other (first ∷ lines) (l ∷ path) =
      list_any-append (is_cancel_of job) (map (entry.Path other) (l ∷ path)) (of_job other lines)
      ∙ ap (λ b. b || list_any (is_cancel_of job) (of_job other lines)) (no_cancel_of_path other (l ∷ path))
      ∙ no_cancel_of_job other lines

  -- nor does a display
  no_cancel_shown : (s : Shared) (w : World) (serials : List (List ℕ)) →
      list_any (is_cancel_of job) (map (volume_line s) serials ++ queue_line w ∷ []) ≡ false
  no_cancel_shown s w [] = refl
  no_cancel_shown s w (serial ∷ serials) = no_cancel_shown s w serials

  -- so an event's lines are apart by the one or the other
  no_cancel : (lines told : List Entry) → lines ≡ told → list_any (is_cancel_of job) told ≡ false → IsApart job lines
  no_cancel lines told t none = inl (ap (list_any (is_cancel_of job)) t ∙ none)

  no_s222 : (lines told : List Entry) → lines ≡ told → list_any (is_s222_of job) told ≡ false → IsApart job lines
  no_s222 lines told t none = inr (ap (list_any (is_s222_of job)) t ∙ none)

  module _ (old new : World) where
    -- the table of events
    acts_apart : (place : ℕ) (x : Initiator) (o : Option Running) (lines : List Entry) → Acts old place x o lines new → IsApart job lines
    acts_apart place x None lines (nothing none t n) = no_cancel lines _ t refl
    acts_apart place x None lines (selected v s t n) = no_cancel lines _ t refl
    acts_apart place x (Some r) lines g =
        no_cancel lines _ g.told
        (no_cancel_told r.job g.job_lines (explained_by old.config old.shared r r.stage g.job_lines g.shared g.runs g.goes))

    its_cancel : (lines : List Entry) (other : ℕ) → lines ≡ cancelled_lines other → IsApart job lines
    its_cancel lines other t = no_s222 lines _ t (none_told job other (line.Cancelled ∷ []) [] refl)

    cancels_apart : (other : ℕ) (lines : List Entry) → CancelsJob old other lines new → IsApart job lines
    cancels_apart other lines (no_job none t n) = no_s222 lines _ t refl
    cancels_apart other lines (cancels_waiting v free there is t n conserved) = its_cancel lines other t
    cancels_apart other lines (cancels_selected place x r free at runs is not_yet t n conserved) = its_cancel lines other t
    cancels_apart other lines (admitted place x r at runs is yet t n) = no_s222 lines _ t refl

    does_apart : (job_of : Denoting) (e : Event) (lines : List Entry) → Does job_of old e lines new → IsApart job lines
    does_apart job_of (event.Read deck) lines (no_number more t n) = no_cancel lines _ t refl
    does_apart job_of (event.Read deck) lines (rejected cause less f t n) = no_cancel lines _ t refl
    does_apart job_of (event.Read deck) lines (full plan less f few t n) = no_cancel lines _ t refl
    does_apart job_of (event.Read deck) lines (read plan first records less f w t n) = no_cancel lines _ t refl
    does_apart job_of (event.Turn number) lines (unknown none t n) = no_cancel lines _ t refl
    does_apart job_of (event.Turn number) lines (acts place x at is a) = acts_apart place x x.running lines a
    does_apart job_of (event.DeviceEnd serial) lines (no_volume none t n) = no_cancel lines _ t refl
    does_apart job_of (event.DeviceEnd serial) lines (idle there not_busy t n) = no_cancel lines _ t refl
    does_apart job_of (event.DeviceEnd serial) lines (ended there is_busy t n) = no_cancel lines _ t refl
    does_apart job_of (event.Write class) lines (nothing_written none t n) = no_cancel lines _ t refl
    does_apart job_of (event.Write class) lines (wrote other line left took t n) = no_cancel lines _ t refl
    does_apart job_of (event.Cancel other) lines d = cancels_apart other lines d
    does_apart job_of (event.Zap n offset bytes) lines (not_owned fails t is) = no_cancel lines _ t refl
    does_apart job_of (event.Zap n offset bytes) lines (zaps_selected may has t is) = no_cancel lines _ t refl
    does_apart job_of (event.Zap n offset bytes) lines (zapped may has t is) = no_cancel lines _ t refl
    does_apart job_of event.Display lines (shown t n) = no_cancel lines _ t (no_cancel_shown old.shared old old.config.volumes)
    does_apart job_of (event.Date day) lines (dated years of_year is t n) = no_cancel lines _ t refl

  -- an event that is refused past the limit is told by one line, and another by what it does
  pub event_apart : (job_of : Denoting) (old new : World) (e : Event) (lines : List Entry) → Transition job_of old e lines new → IsApart job lines
  event_apart job_of old new e lines (past more t n) = no_cancel lines _ t refl
  event_apart job_of old new e lines (taken less p) = does_apart (counted old) p.middle job_of e lines p.does
