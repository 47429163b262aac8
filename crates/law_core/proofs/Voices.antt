-- Whose lines an event writes: those of a job that is read, of one that waits, or of one that an initiator has.
use Rattle.std.proofs.Common.{◌≡◌, ◌≢◌, ◌⊎◌, inl, inr, ◌++◌, ◌+◌, ℕ, false, cond, List, [], ◌∷◌, map, Option, Some, None, refl, sym, ap, ◌∙◌}
use Rattle.std.specs.List.{Contains, cons_option, filter_map}
use Rattle.std.proofs.lemmas.Bool.{cases_eq, eq-eqb, ne_eqb}
use Rattle.std.proofs.lemmas.List.Elements.{filter_map-append}
use Rattle.jcl_plan.specs.declared.entry.Entry.{Entry}
use Rattle.jcl_plan.specs.declared.entry.JobLine.{JobLine}
use Rattle.jcl_plan.specs.declared.entry.JobLine.TheVariants as line
use Rattle.jcl_plan.specs.declared.fault.Cause.TheVariants.{Q}
use Rattle.jcl_plan.specs.declared.fault.QueueFault.TheVariants.{Full}
use Rattle.world_meaning.specs.declared.event.Event.{Event}
use Rattle.world_meaning.specs.declared.event.Event.TheVariants as event
use Rattle.world_meaning.specs.Cancels.{CancelsJob, admitted as cancels_admitted, cancelled_lines, is_admitted, no_job, selected as cancels_selected, waiting as cancels_waiting}
use Rattle.world_meaning.specs.Devices.{ended, idle, no_volume, nothing_written, wrote}
use Rattle.world_meaning.specs.Displays.{queue_line, set, shown_lines, volume_line}
use Rattle.world_meaning.specs.Headlines.{line_of}
use Rattle.world_meaning.specs.Readings.{Denoting, Reads, full, no_number, read, read_line, rejected}
use Rattle.world_meaning.specs.Selections.{nothing, selected}
use Rattle.world_meaning.specs.Transitions.{Acts, Does, Transition, acts, past, shown, taken, unknown}
use Rattle.world_meaning.specs.Worlds.{Initiator, IsAt, Running, Shared, Waiting, World, counted, of_job}
use Rattle.world_meaning.specs.Zaps.{not_owned, selected as zaps_selected, zapped}
use Rattle.world_laws.specs.Beside.{IsTurnOf}
use Rattle.law_core.specs.Soundness.{RunsAt}
use Rattle.law_core.proofs.Explained.{heard_told}

-- lines of a job among entries
abbrev pub heard : ℕ → List Entry → List JobLine
heard job lines = filter_map (line_of job) lines

pub of_own : (job : ℕ) (ls : List JobLine) → heard job (of_job job ls) ≡ ls
of_own job [] = refl
of_own job (l ∷ ls) = λ i. cons_option (cond (eq-eqb job job refl i) (Some l) None) (of_own job ls i)

pub of_other : (job other : ℕ) → other ≢ job → (ls : List JobLine) → heard job (of_job other ls) ≡ []
of_other job other apart [] = refl
of_other job other apart (l ∷ ls) = λ i. cons_option (cond (ne_eqb other job apart i) (Some l) None) (of_other job other apart ls i)

-- Why a job is heard: it is read, it waits, it is its turn, or it is cancelled before its admission.
pub data Speaks (old : World) (e : Event) (job : ℕ) : Type 0 where
  is_read : job ≡ old.jobs + 1 → Speaks old e job
  waits : (v : Waiting) → Contains old.waiting v → v.job ≡ job → Speaks old e job
  has_turn : (place : ℕ) (x : Initiator) (r : Running) → IsAt old place x → IsTurnOf e x → x.running ≡ Some r → r.job ≡ job → Speaks old e job
  ends_early : (place : ℕ) (r : Running) → RunsAt old place r → r.job ≡ job → is_admitted r.stage ≡ false → Speaks old e job

abbrev pub Voice : World → Event → List Entry → ℕ → Type 0
Voice old e lines job = (heard job lines ≡ []) ⊎ Speaks old e job

quiet : (old : World) (e : Event) (job : ℕ) (lines told : List Entry) → lines ≡ told → heard job told ≡ [] → Voice old e lines job
quiet old e job lines told t h = inl (ap (heard job) t ∙ h)

-- lines of one job
of_one : (old : World) (e : Event) (job other : ℕ) (lines : List Entry) (ls : List JobLine) → heard job lines ≡ heard job (of_job other ls) →
    (other ≡ job → Speaks old e job) →
    Voice old e lines job
of_one old e job other lines ls t speaks = by_case (cases_eq other job)
  where
    by_case : (other ≡ job) ⊎ (other ≡ job → ⊥) → Voice old e lines job
    by_case (inl same) = inr (speaks same)
    by_case (inr apart) = inl (t ∙ of_other job other apart ls)

module _ (old : World) (job : ℕ) where
  reads_voice : (job_of : Denoting) (deck : List (List ℕ)) (lines : List Entry) (new : World) → Reads job_of old deck lines new →
      Voice old (event.Read deck) lines job
  reads_voice job_of deck lines new (no_number more t n) = quiet old _ job lines _ t refl
  reads_voice job_of deck lines new (rejected cause less f t n) = of_one old _ job (old.jobs + 1) lines (line.Rejected cause ∷ []) (ap (heard job) t) (λ same. is_read (sym same))
  reads_voice job_of deck lines new (full plan less f few t n) =
      of_one old _ job (old.jobs + 1) lines (line.Rejected (Q Full) ∷ []) (ap (heard job) t) (λ same. is_read (sym same))
  reads_voice job_of deck lines new (read plan first records less f w t n) =
      of_one old _ job (old.jobs + 1) lines (read_line plan ∷ []) (ap (heard job) t) (λ same. is_read (sym same))

  acts_voice : (number place : ℕ) (x : Initiator) (o : Option Running) (lines : List Entry) (new : World) → IsAt old place x → x.number ≡ number →
      x.running ≡ o → Acts old place x o lines new → Voice old (event.Turn number) lines job
  acts_voice number place x None lines new at is runs (nothing none t n) = quiet old _ job lines _ t refl
  acts_voice number place x None lines new at is runs (selected v s t n) =
      of_one old _ job v.job lines (line.Selected x.number ∷ []) (ap (heard job) t) (λ same. waits v s.first.contained same)
  acts_voice number place x (Some r) lines new at is runs g =
      of_one old _ job r.job lines g.job_lines (ap (heard job) g.told ∙ heard_told job r.job g.job_lines _) (λ same. has_turn place x r at is runs same)

  heard_cancelled : (other : ℕ) → (other ≡ job → ⊥) → heard job (cancelled_lines other) ≡ []
  heard_cancelled other apart = of_other job other apart (line.Cancelled ∷ [])

  cancelled_voice : (e : Event) (other : ℕ) (lines : List Entry) → lines ≡ cancelled_lines other → (other ≡ job → Speaks old e job) → Voice old e lines job
  cancelled_voice e other lines t speaks = by_case (cases_eq other job)
    where
      by_case : (other ≡ job) ⊎ (other ≡ job → ⊥) → Voice old e lines job
      by_case (inl same) = inr (speaks same)
      by_case (inr apart) = quiet old e job lines (cancelled_lines other) t (heard_cancelled other apart)

  cancels_voice : (other : ℕ) (lines : List Entry) (new : World) → CancelsJob old other lines new → Voice old (event.Cancel other) lines job
  cancels_voice other lines new (no_job none t n) = quiet old _ job lines _ t refl
  cancels_voice other lines new (cancels_waiting v free there is t n conserved) = cancelled_voice _ other lines t (λ same. waits v there (is ∙ same))
  cancels_voice other lines new (cancels_selected place x r free at runs is not_yet t n conserved) =
      cancelled_voice _ other lines t (λ same. ends_early place r (record { it = x; at = at; running = runs }) (is ∙ same) not_yet)
  cancels_voice other lines new (cancels_admitted place x r at runs is yet t n) = quiet old _ job lines _ t refl

  heard_volumes : (s : Shared) (serials : List (List ℕ)) → heard job (map (volume_line s) serials) ≡ []
  heard_volumes s [] = refl
  heard_volumes s (serial ∷ serials) = heard_volumes s serials

  heard_shown : (w : World) → heard job (shown_lines w) ≡ []
  heard_shown w =
      filter_map-append (line_of job) (map (volume_line w.shared) w.config.volumes) (queue_line w ∷ []) ∙ (λ i. heard_volumes w.shared w.config.volumes i ++ [])

  does_voice : (job_of : Denoting) (new : World) (e : Event) (lines : List Entry) → Does job_of old e lines new → Voice old e lines job
  does_voice job_of new (event.Read deck) lines d = reads_voice job_of deck lines new d
  does_voice job_of new (event.Turn number) lines (unknown none t n) = quiet old _ job lines _ t refl
  does_voice job_of new (event.Turn number) lines (acts place x at is a) = acts_voice number place x x.running lines new at is refl a
  does_voice job_of new (event.DeviceEnd serial) lines (no_volume none t n) = quiet old _ job lines _ t refl
  does_voice job_of new (event.DeviceEnd serial) lines (idle there not_busy t n) = quiet old _ job lines _ t refl
  does_voice job_of new (event.DeviceEnd serial) lines (ended there is_busy t n) = quiet old _ job lines _ t refl
  does_voice job_of new (event.Write class) lines (nothing_written none t n) = quiet old _ job lines _ t refl
  does_voice job_of new (event.Write class) lines (wrote j l left took t n) = quiet old _ job lines _ t refl
  does_voice job_of new (event.Cancel other) lines d = cancels_voice other lines new d
  does_voice job_of new (event.Zap n offset bytes) lines (not_owned fails t is) = quiet old _ job lines _ t refl
  does_voice job_of new (event.Zap n offset bytes) lines (zaps_selected may has t is) = quiet old _ job lines _ t refl
  does_voice job_of new (event.Zap n offset bytes) lines (zapped may has t is) = quiet old _ job lines _ t refl
  does_voice job_of new event.Display lines (shown t n) = quiet old _ job lines _ t (heard_shown old)
  does_voice job_of new (event.Date day) lines (set years of_year is t n) = quiet old _ job lines _ t refl

from_counted : (old : World) (e : Event) (lines : List Entry) (job : ℕ) → Voice (counted old) e lines job → Voice old e lines job
from_counted old e lines job (inl h) = inl h
from_counted old e lines job (inr (is_read h)) = inr (is_read h)
from_counted old e lines job (inr (waits v there is)) = inr (waits v there is)
from_counted old e lines job (inr (has_turn place x r at is runs same)) = inr (has_turn place x r at is runs same)
from_counted old e lines job (inr (ends_early place r at same stage)) =
    inr (ends_early place r (record { it = at.it; at = at.at; running = at.running }) same stage)

pub voice : (job_of : Denoting) (old new : World) (e : Event) (lines : List Entry) → Transition job_of old e lines new → (job : ℕ) → Voice old e lines job
voice job_of old new e lines (past more t n) job = quiet old e job lines _ t refl
voice job_of old new e lines (taken less h) job = from_counted old e lines job (does_voice (counted old) job job_of h.middle e lines h.does)
