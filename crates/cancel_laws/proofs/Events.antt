-- What each event uses up of a job's cancels, and with it any run.
use Rattle.std.proofs.Common.{◌≡◌, ◌≤◌, ◌+◌, ℕ, false, List, [], ◌∷◌, ◌++◌, map, Option, Some, None, arith, refl, sym, ap, ◌∙◌, subst}
use Rattle.std.specs.List.{list_any}
use Rattle.jcl_plan.specs.declared.entry.Entry.{Entry}
use Rattle.jcl_plan.specs.declared.entry.Entry.TheVariants as entry
use Rattle.jcl_plan.specs.declared.entry.JobLine.TheVariants as line
use Rattle.jcl_plan.specs.declared.fault.Cause.TheVariants.{Q}
use Rattle.jcl_plan.specs.declared.fault.QueueFault.TheVariants.{Full}
use Rattle.world_meaning.specs.declared.event.Event.{Event}
use Rattle.world_meaning.specs.declared.event.Event.TheVariants as event
use Rattle.world_meaning.specs.Cancels.{CancelsJob, admitted, cancelled_lines, no_job, selected as cancels_selected, waiting as cancels_waiting}
use Rattle.world_meaning.specs.Devices.{ended, idle, no_volume, nothing_written, wrote}
use Rattle.world_meaning.specs.Displays.{queue_line, set as dated, volume_line}
use Rattle.world_meaning.specs.Holdings.{cancels_without}
use Rattle.world_meaning.specs.Readings.{Denoting, full, no_number, read, read_line, rejected}
use Rattle.world_meaning.specs.Selections.{nothing, selected}
use Rattle.world_meaning.specs.Transitions.{Acts, Does, Runs, Transition, acts, explained_by, past, shown, taken, told_with, unknown}
use Rattle.world_meaning.specs.Worlds.{Initiator, Running, Shared, World, counted}
use Rattle.world_meaning.specs.Zaps.{not_owned, selected as zaps_selected, zapped}
use Rattle.cancel_laws.specs.Cancels.{CancelsAreUsedOnce, count_in, is_cancel_of, is_s222_of}
use Rattle.cancel_laws.proofs.Counting.{count, counted_behind, left, left_without, none_told}
use Rattle.cancel_laws.proofs.Paying.{IsPaid, cancel_paid, free_of_charge, nothing_used}
use Rattle.cancel_laws.proofs.Turning.{goes_paid}

module _ (job : ℕ) (old new : World) where
  -- these lines are told, and the cancels stay
  told_as : (lines told : List Entry) (at : World) → lines ≡ told → new ≡ at → list_any (is_s222_of job) told ≡ false →
      at.shared.cancels ≡ old.shared.cancels → IsPaid job lines old.shared.cancels new.shared.cancels
  told_as lines told at t n quiet is =
      nothing_used job lines old.shared.cancels new.shared.cancels (ap (list_any (is_s222_of job)) t ∙ quiet) (ap (λ (w : World). w.shared.cancels) n ∙ is)

  no_volume_line : (serials : List (List ℕ)) → list_any (is_s222_of job) (map (volume_line old.shared) serials ++ queue_line old ∷ []) ≡ false
  no_volume_line [] = refl
  no_volume_line (serial ∷ serials) = no_volume_line serials

  acts_paid : (place : ℕ) (x : Initiator) (o : Option Running) (lines : List Entry) → Acts old place x o lines new →
      IsPaid job lines old.shared.cancels new.shared.cancels
  acts_paid place x None lines (nothing none t n) = told_as lines [] old t n refl refl
  acts_paid place x None lines (selected v s t n) = told_as lines _ _ t n (none_told job v.job (line.Selected x.number ∷ []) [] refl) refl
  acts_paid place x (Some r) lines g =
      subst (λ (ls : List Entry). IsPaid job ls old.shared.cancels new.shared.cancels) (sym g.told)
      (subst (IsPaid job (told_with r.job g.job_lines (explained_by old.config old.shared r r.stage g.job_lines g.shared g.runs g.goes)) old.shared.cancels)
      (sym (ap (λ (w : World). w.shared.cancels) g.leaves)) (goes_paid job old.config old.shared r g.job_lines g.shared g.runs r.stage g.goes))

  -- a job that is cancelled before its admission has no more cancels
  cancelled_paid : (other : ℕ) (lines : List Entry) → lines ≡ cancelled_lines other → new.shared.cancels ≡ cancels_without old.shared.cancels other →
      IsPaid job lines old.shared.cancels new.shared.cancels
  cancelled_paid other lines t is =
      free_of_charge job lines old.shared.cancels new.shared.cancels
      (ap (list_any (is_s222_of job)) t ∙ none_told job other (line.Cancelled ∷ []) [] refl)
      (subst (λ (c : List ℕ). left c job ≤ left old.shared.cancels job) (sym is) (left_without other job old.shared.cancels))

  cancels_paid : (other : ℕ) (lines : List Entry) → CancelsJob old other lines new → IsPaid job lines old.shared.cancels new.shared.cancels
  cancels_paid other lines (no_job none t n) = told_as lines _ old t n refl refl
  cancels_paid other lines (cancels_waiting v free there is t n conserved) = cancelled_paid other lines t (ap (λ (w : World). w.shared.cancels) n)
  cancels_paid other lines (cancels_selected place x r free at runs is not_yet t n conserved) =
      cancelled_paid other lines t (ap (λ (w : World). w.shared.cancels) n)
  cancels_paid other lines (admitted place x r at runs is yet t n) =
      subst (λ (ls : List Entry). IsPaid job ls old.shared.cancels new.shared.cancels) (sym t)
      (subst (IsPaid job (entry.Cancel other ∷ []) old.shared.cancels) (sym (ap (λ (w : World). w.shared.cancels) n)) (cancel_paid job other old.shared))

  does_paid : (job_of : Denoting) (e : Event) (lines : List Entry) → Does job_of old e lines new → IsPaid job lines old.shared.cancels new.shared.cancels
  does_paid job_of (event.Read deck) lines (no_number more t n) = told_as lines _ old t n refl refl
  does_paid job_of (event.Read deck) lines (rejected cause less f t n) =
      told_as lines _ _ t n (none_told job (old.jobs + 1) (line.Rejected cause ∷ []) [] refl) refl
  does_paid job_of (event.Read deck) lines (full plan less f few t n) =
      told_as lines _ _ t n (none_told job (old.jobs + 1) (line.Rejected (Q Full) ∷ []) [] refl) refl
  does_paid job_of (event.Read deck) lines (read plan first records less f w t n) =
      told_as lines _ _ t n (none_told job (old.jobs + 1) (read_line plan ∷ []) [] refl) refl
  does_paid job_of (event.Turn number) lines (unknown none t n) = told_as lines _ old t n refl refl
  does_paid job_of (event.Turn number) lines (acts place x at is a) = acts_paid place x x.running lines a
  does_paid job_of (event.DeviceEnd serial) lines (no_volume none t n) = told_as lines _ old t n refl refl
  does_paid job_of (event.DeviceEnd serial) lines (idle there not_busy t n) = told_as lines _ old t n refl refl
  does_paid job_of (event.DeviceEnd serial) lines (ended there is_busy t n) = told_as lines _ _ t n refl refl
  does_paid job_of (event.Write class) lines (nothing_written none t n) = told_as lines _ old t n refl refl
  does_paid job_of (event.Write class) lines (wrote other line left took t n) = told_as lines _ _ t n refl refl
  does_paid job_of (event.Cancel other) lines d = cancels_paid other lines d
  does_paid job_of (event.Zap n offset bytes) lines (not_owned fails t is) = told_as lines _ old t is refl refl
  does_paid job_of (event.Zap n offset bytes) lines (zaps_selected may has t is) = told_as lines _ old t is refl refl
  does_paid job_of (event.Zap n offset bytes) lines (zapped may has t is) = told_as lines _ _ t is refl refl
  does_paid job_of event.Display lines (shown t n) = told_as lines _ old t n (no_volume_line old.config.volumes) refl
  does_paid job_of (event.Date day) lines (dated years of_year is t n) = told_as lines _ _ t n refl refl

pub event_paid : (job : ℕ) (job_of : Denoting) (old new : World) (e : Event) (lines : List Entry) → Transition job_of old e lines new →
    IsPaid job lines old.shared.cancels new.shared.cancels
event_paid job job_of old new e lines (past more t n) = told_as job old new lines _ old t n refl refl
event_paid job job_of old new e lines (taken less p) =
    subst (IsPaid job lines old.shared.cancels) (sym (ap (λ (s : Shared). s.cancels) p.reopened.rest))
    (does_paid job (counted old) p.middle job_of e lines p.does)

-- along a run
one_more : (s a c b more end others all every : ℕ) → all ≡ s + more → every ≡ c + others → s + a ≤ c + b → more + end ≤ others + a → all + end ≤ every + b
one_more s a c b more end others all every whole each here later = omega (arith, whole, each, here, later)

run_paid : (job : ℕ) (job_of : Denoting) (w end : World) (es : List Event) (told : List (List Entry)) → Runs job_of w es told end →
    count_in (is_s222_of job) told + left end.shared.cancels job ≤ count_in (is_cancel_of job) told + left w.shared.cancels job
run_paid job job_of w end [] [] runs = nothing_used job [] w.shared.cancels end.shared.cancels refl (ap (λ (x : World). x.shared.cancels) runs)
run_paid job job_of w end [] (lines ∷ more) runs = absurd runs
run_paid job job_of w end (e ∷ es) [] runs = absurd runs
run_paid job job_of w end (e ∷ es) (lines ∷ more) runs =
    one_more (count (is_s222_of job) lines) (left runs.0.shared.cancels job) (count (is_cancel_of job) lines) (left w.shared.cancels job)
    (count_in (is_s222_of job) more) (left end.shared.cancels job) (count_in (is_cancel_of job) more) (count_in (is_s222_of job) (lines ∷ more))
    (count_in (is_cancel_of job) (lines ∷ more)) (counted_behind (is_s222_of job) lines more) (counted_behind (is_cancel_of job) lines more)
    (event_paid job job_of w runs.0 e lines runs.1) (run_paid job job_of runs.0 end es more runs.2)

none_before : (n m a : ℕ) → a ≡ 0 → n ≤ m + a → n ≤ m
none_before n m a none h = omega (arith, none, h)

pub cancels_are_used_once : CancelsAreUsedOnce
cancels_are_used_once job_of start end events told job s runs =
    none_before (count_in (is_s222_of job) told + left end.shared.cancels job) (count_in (is_cancel_of job) told) (left start.shared.cancels job)
    (ap (λ (c : List ℕ). left c job) s.unused.cancels) (run_paid job job_of start end events told runs)
