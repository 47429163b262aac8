-- What each event changes of the initiators, of the store and of what is kept.
use Rattle.std.proofs.Common.{◌≡◌, ◌++◌, ℕ, Bool, true, false, cond, List, [], ◌∷◌, Option, Some, None, refl, sym, ap, ◌∙◌, subst}
use Rattle.std.specs.List.{Contains}
use Rattle.jcl_plan.specs.declared.entry.Entry.{Entry}
use Rattle.jcl_plan.specs.declared.entry.JobLine.{JobLine}
use Rattle.world_meaning.specs.declared.event.Event.{Event}
use Rattle.world_meaning.specs.declared.event.Event.TheVariants as event
use Rattle.world_meaning.specs.Cancels.{CancelsJob, admitted as cancels_admitted, is_admitted, no_job, selected as cancels_selected, waiting as cancels_waiting}
use Rattle.world_meaning.specs.Devices.{EndsDevice, Writes, ended, idle, no_volume, nothing_written, wrote}
use Rattle.world_meaning.specs.Displays.{SetsDate, set}
use Rattle.world_meaning.specs.Readings.{Denoting, Reads, full, no_number, read, rejected}
use Rattle.world_meaning.specs.Selections.{Selects, nothing, selected, taken_by}
use Rattle.world_meaning.specs.Tracks.{kept_without}
use Rattle.world_meaning.specs.Transitions.{Acts, Does, Goes, GoesOn, Happens, Shows, Transition, Turns, acts, past, shown, taken, unknown}
use Rattle.world_meaning.specs.Turns.{has_cancel}
use Rattle.world_meaning.specs.Worlds.{Initiator, IsAt, Running, Shared, Waiting, World, counted, with_running}
use Rattle.world_meaning.specs.Zaps.{ZapsRecord, not_owned, selected as zaps_selected, zapped}
use Rattle.world_laws.specs.Beside.{IsCancelOf, IsTurnOf}

-- an initiator selects a job, or its job goes on; a job is cancelled before it is selected, or before it is admitted; or nothing of these changes
pub data Effect (old : World) (e : Event) (new : World) : Type 0 where
  still : new.initiators ≡ old.initiators → new.shared.store ≡ old.shared.store → new.shared.kept ≡ old.shared.kept → Effect old e new
  picks : (place : ℕ) (x : Initiator) (first : ℕ) (r : Running) → IsAt old place x → IsTurnOf e x → x.running ≡ None → is_admitted r.stage ≡ false →
      new.initiators ≡ with_running old.initiators place x (Some r) → new.shared.store ≡ old.shared.store → new.shared.kept ≡ old.shared.kept → Effect old e new
  goes : (place : ℕ) (x : Initiator) (r : Running) (lines : List JobLine) (shared : Shared) (runs : Option Running) → IsAt old place x → IsTurnOf e x →
      x.running ≡ Some r → GoesOn old.config old.shared r r.stage lines shared runs → new.initiators ≡ with_running old.initiators place x runs →
      new.shared.store ≡ shared.store → new.shared.kept ≡ shared.kept → Effect old e new
  unqueued : (w : Waiting) → Contains old.waiting w → IsCancelOf e w.job → new.initiators ≡ old.initiators → new.shared.store ≡ old.shared.store →
      new.shared.kept ≡ kept_without old.shared.kept w.job → Effect old e new
  ended_early : (place : ℕ) (x : Initiator) (r : Running) → IsAt old place x → x.running ≡ Some r → IsCancelOf e r.job → is_admitted r.stage ≡ false →
      new.initiators ≡ with_running old.initiators place x None → new.shared.store ≡ old.shared.store →
      new.shared.kept ≡ kept_without old.shared.kept r.job → Effect old e new

-- an event that changes nothing of these
same : (old new : World) (e : Event) → new ≡ old → Effect old e new
same old new e n = still (ap (λ w. w.initiators) n) (ap (λ w. w.shared.store) n) (ap (λ w. w.shared.kept) n)

-- the case is that of a world which is this one but for the rest
as_new : (old new at : World) (e : Event) → new ≡ at → Effect old e at → Effect old e new
as_new old new at e n h = subst (Effect old e) (sym n) h

pub record Changes (old : World) (e : Event) (new : World) : Type 0 where
  pub config : new.config ≡ old.config
  pub effect : Effect old e new

changed : (old new at : World) (e : Event) → new ≡ at → Changes old e at → Changes old e new
changed old new at e n h = subst (Changes old e) (sym n) h

unchanged : (old : World) (e : Event) → Changes old e old
unchanged old e = record { config = refl; effect = still refl refl refl }

reads : (job_of : Denoting) (old new : World) (deck : List (List ℕ)) (lines : List Entry) → Reads job_of old deck lines new → Changes old (event.Read deck) new
reads job_of old new deck lines (no_number more t n) = changed old new old _ n (unchanged old _)
reads job_of old new deck lines (rejected cause less f t n) = changed old new _ _ n (record { config = refl; effect = still refl refl refl })
reads job_of old new deck lines (full plan less f few t n) = changed old new _ _ n (record { config = refl; effect = still refl refl refl })
reads job_of old new deck lines (read plan first records less f w t n) = changed old new _ _ n (record { config = refl; effect = still refl refl refl })

selects : (old new : World) (number place : ℕ) (x : Initiator) (lines : List Entry) → IsAt old place x → x.number ≡ number → x.running ≡ None →
    Selects old place x lines new → Changes old (event.Turn number) new
selects old new number place x lines at is idles (nothing none t n) = changed old new old _ n (unchanged old _)
selects old new number place x lines at is idles (selected w s t n) = changed old new _ _ n (record {
  config = refl;
  effect = picks place x w.first (taken_by x.number w) at is idles refl refl refl refl;
})

goes_on : (old new : World) (number place : ℕ) (x : Initiator) (r : Running) (lines : List Entry) → IsAt old place x → x.number ≡ number →
    x.running ≡ Some r → Goes old place x r lines new → Changes old (event.Turn number) new
goes_on old new number place x r lines at is runs g = changed old new _ _ g.leaves (record {
  config = refl;
  effect = goes place x r g.job_lines g.shared g.runs at is runs g.goes refl refl refl;
})

acts_by : (old new : World) (number place : ℕ) (x : Initiator) (o : Option Running) (lines : List Entry) → IsAt old place x → x.number ≡ number →
    x.running ≡ o → Acts old place x o lines new → Changes old (event.Turn number) new
acts_by old new number place x None lines at is runs a = selects old new number place x lines at is runs a
acts_by old new number place x (Some r) lines at is runs a = goes_on old new number place x r lines at is runs a

turns : (old new : World) (number : ℕ) (lines : List Entry) → Turns old number lines new → Changes old (event.Turn number) new
turns old new number lines (unknown none t n) = changed old new old _ n (unchanged old _)
turns old new number lines (acts place x at is a) = acts_by old new number place x x.running lines at is refl a

ends_device : (old new : World) (serial : List ℕ) (lines : List Entry) → EndsDevice old serial lines new → Changes old (event.DeviceEnd serial) new
ends_device old new serial lines (no_volume none t n) = changed old new old _ n (unchanged old _)
ends_device old new serial lines (idle there not_busy t n) = changed old new old _ n (unchanged old _)
ends_device old new serial lines (ended there is_busy t n) = changed old new _ _ n (record { config = refl; effect = still refl refl refl })

writes : (old new : World) (class : ℕ) (lines : List Entry) → Writes old class lines new → Changes old (event.Write class) new
writes old new class lines (nothing_written none t n) = changed old new old _ n (unchanged old _)
writes old new class lines (wrote job line left took t n) = changed old new _ _ n (record { config = refl; effect = still refl refl refl })

cancels : (old new : World) (job : ℕ) (lines : List Entry) → CancelsJob old job lines new → Changes old (event.Cancel job) new
cancels old new job lines (no_job none t n) = changed old new old _ n (unchanged old _)
cancels old new job lines (cancels_waiting w free there is t n conserved) =
    changed old new _ _ n (record { config = refl; effect = unqueued w there is refl refl (ap (kept_without old.shared.kept) (sym is)) })
cancels old new job lines (cancels_selected place x r free at runs is not_yet t n conserved) = changed old new _ _ n (record {
  config = refl;
  effect = ended_early place x r at runs is not_yet refl refl (ap (kept_without old.shared.kept) (sym is));
})
cancels old new job lines (cancels_admitted place x r at runs is yet t n) = changed old new _ _ n (record {
  config = refl;
  effect = still refl (either_store (has_cancel old.shared.cancels job)) (either_kept (has_cancel old.shared.cancels job));
})
  where
    more : Shared
    more = record old.shared { cancels = old.shared.cancels ++ job ∷ [] }

    either_store : (b : Bool) → (cond b old.shared more).store ≡ old.shared.store
    either_store true = refl
    either_store false = refl

    either_kept : (b : Bool) → (cond b old.shared more).kept ≡ old.shared.kept
    either_kept true = refl
    either_kept false = refl

zaps : (old new : World) (n offset : ℕ) (bytes : List ℕ) (lines : List Entry) (e : Event) → ZapsRecord old n offset bytes lines new → Changes old e new
zaps old new n offset bytes lines e (not_owned fails t is) = changed old new old e is (unchanged old e)
zaps old new n offset bytes lines e (zaps_selected may has t is) = changed old new old e is (unchanged old e)
zaps old new n offset bytes lines e (zapped may has t is) = changed old new _ e is (record { config = refl; effect = still refl refl refl })

shows : (old new : World) (lines : List Entry) → Shows old lines new → Changes old event.Display new
shows old new lines (shown t n) = changed old new old _ n (unchanged old _)

sets_date : (old new : World) (day : ℕ) (lines : List Entry) → SetsDate old day lines new → Changes old (event.Date day) new
sets_date old new day lines (set years of_year is t n) = changed old new _ _ n (record { config = refl; effect = still refl refl refl })

does_change : (job_of : Denoting) (old new : World) (e : Event) (lines : List Entry) → Does job_of old e lines new → Changes old e new
does_change job_of old new (event.Read deck) lines d = reads job_of old new deck lines d
does_change job_of old new (event.Turn number) lines d = turns old new number lines d
does_change job_of old new (event.DeviceEnd serial) lines d = ends_device old new serial lines d
does_change job_of old new (event.Write class) lines d = writes old new class lines d
does_change job_of old new (event.Cancel job) lines d = cancels old new job lines d
does_change job_of old new (event.Zap n offset bytes) lines d = zaps old new n offset bytes lines _ d
does_change job_of old new event.Display lines d = shows old new lines d
does_change job_of old new (event.Date day) lines d = sets_date old new day lines d

-- the effect is the same where open bytes differ, and where the count of events does
reopened : (old middle new : World) (e : Event) → new.initiators ≡ middle.initiators → new.shared.store ≡ middle.shared.store →
    new.shared.kept ≡ middle.shared.kept →
    Effect old e middle → Effect old e new
reopened old middle new e i s k (still a b c) = still (i ∙ a) (s ∙ b) (k ∙ c)
reopened old middle new e i s k (picks place x first r at is runs stage a b c) = picks place x first r at is runs stage (i ∙ a) (s ∙ b) (k ∙ c)
reopened old middle new e i s k (goes place x r lines shared runs at is running g a b c) =
    goes place x r lines shared runs at is running g (i ∙ a) (s ∙ b) (k ∙ c)
reopened old middle new e i s k (unqueued w there is a b c) = unqueued w there is (i ∙ a) (s ∙ b) (k ∙ c)
reopened old middle new e i s k (ended_early place x r at runs is stage a b c) = ended_early place x r at runs is stage (i ∙ a) (s ∙ b) (k ∙ c)

from_counted : (old new : World) (e : Event) → Effect (counted old) e new → Effect old e new
from_counted old new e (still a b c) = still a b c
from_counted old new e (picks place x first r at is runs stage a b c) = picks place x first r at is runs stage a b c
from_counted old new e (goes place x r lines shared runs at is running g a b c) = goes place x r lines shared runs at is running g a b c
from_counted old new e (unqueued w there is a b c) = unqueued w there is a b c
from_counted old new e (ended_early place x r at runs is stage a b c) = ended_early place x r at runs is stage a b c

happens : (job_of : Denoting) (old new : World) (e : Event) (lines : List Entry) → Happens job_of (counted old) e lines new → Changes old e new
happens job_of old new e lines h =
    let c : Changes (counted old) e h.middle = does_change job_of (counted old) h.middle e lines h.does in
    record {
      config = ap (λ w. w.config) h.rest ∙ c.config;
      effect = from_counted old new e (reopened (counted old) h.middle new e (ap (λ w. w.initiators) h.rest) (ap (λ s. s.store) h.reopened.rest)
          (ap (λ s. s.kept) h.reopened.rest) c.effect);
    }

pub changes : (job_of : Denoting) (old new : World) (e : Event) (lines : List Entry) → Transition job_of old e lines new → Changes old e new
changes job_of old new e lines (past more t n) = changed old new old e n (unchanged old e)
changes job_of old new e lines (taken less h) = happens job_of old new e lines h
