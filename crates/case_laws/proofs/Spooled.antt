-- A set that waits for a writer has a line, behind an event too.
use Rattle.std.proofs.Common.{◌≡◌, ◌≢◌, ◌==◌, ◌++◌, ℕ, Bool, true, false, not, cond, List, [], ◌∷◌, Option, Some, None, All, length, refl, sym, ap, ◌∙◌, subst}
use Rattle.std.specs.Prelude.{filter}
use Rattle.std.proofs.lemmas.List.Elements.{All-append, All-cons, All-head, All-nil, All-tail, All-weaker, filter_passes}
use Rattle.jcl_plan.specs.declared.entry.Entry.{Entry}
use Rattle.jcl_plan.specs.declared.entry.JobLine.{JobLine}
use Rattle.jcl_plan.specs.declared.entry.Written.{Written}
use Rattle.jcl_plan.specs.declared.plan.JobPlan.{JobPlan}
use Rattle.jcl_meaning.specs.States.{Fixed}
use Rattle.machine_meaning.specs.declared.machine.SpoolSet.{SpoolSet}
use Rattle.machine_meaning.specs.Spools.{Takes, has_lines, left_of, sets_of}
use Rattle.world_meaning.specs.declared.event.Event.{Event}
use Rattle.world_meaning.specs.declared.event.Event.TheVariants as event
use Rattle.world_meaning.specs.Admissions.{Answered, MayFail, assured, fixed_at, no_space, refused, risk, risky, too_many}
use Rattle.world_meaning.specs.Cancels.{CancelsJob, admitted as cancels_admitted, no_job, selected as cancels_selected, waiting as cancels_waiting}
use Rattle.world_meaning.specs.Devices.{ended, idle, no_volume, nothing_written, wrote}
use Rattle.world_meaning.specs.Displays.{set as dated}
use Rattle.world_meaning.specs.Holdings.{Holds, blocked, broken, held, read as reads_plan}
use Rattle.world_meaning.specs.Readings.{Denoting, full, no_number, read, rejected}
use Rattle.world_meaning.specs.Selections.{nothing, selected}
use Rattle.world_meaning.specs.Transitions.{Acts, Does, GoesOn, Transition, acts, past, shown, taken, unknown}
use Rattle.world_meaning.specs.Turns.{acts as does_act, ends, has_cancel, waits}
use Rattle.world_meaning.specs.Worlds.{Admitted, Config, Initiator, Named, Running, Selected, Shared, Stage, Wanting, World, counted}
use Rattle.world_meaning.specs.Zaps.{not_owned, selected as zaps_selected, zapped}

abbrev pub HasLines : SpoolSet → Type 0
HasLines set = set.lines ≢ []

abbrev AllHave : List SpoolSet → Type 0
AllHave spool = All HasLines spool

-- a job's listing and its sets, those without lines left out
some_lines : (set : SpoolSet) → has_lines set ≡ true → HasLines set
some_lines set e none = absurd (by_length (length set.lines == 0) e (ap (λ (lines : List Written). length lines == 0) none))
  where
    by_length : (b : Bool) → not b ≡ true → b ≡ true → ⊥
    by_length b e f = cc

put_in : (spool sets : List SpoolSet) → AllHave spool → AllHave (spool ++ filter has_lines sets)
put_in spool sets h =
    All-append HasLines spool (filter has_lines sets) h
    (All-weaker (λ (set : SpoolSet). has_lines set ≡ true) HasLines some_lines (filter has_lines sets) (filter_passes has_lines sets))

-- a set without its first line
left_part : (xs ys : List SpoolSet) → AllHave (xs ++ ys) → AllHave xs
left_part [] ys all = All-nil HasLines
left_part (x ∷ xs) ys all = All-cons HasLines x xs (All-head HasLines x (xs ++ ys) all) (left_part xs ys (All-tail HasLines x (xs ++ ys) all))

right_part : (xs ys : List SpoolSet) → AllHave (xs ++ ys) → AllHave ys
right_part [] ys all = all
right_part (x ∷ xs) ys all = right_part xs ys (All-tail HasLines x (xs ++ ys) all)

rest_of : (set : SpoolSet) (lines : List Written) → AllHave (left_of set lines)
rest_of set [] = All-nil HasLines
rest_of set (line ∷ lines) =
    All-cons HasLines (record { class = set.class; job = set.job; lines = line ∷ lines }) [] (λ none. absurd cc) (All-nil HasLines)

taken_from : (spool : List SpoolSet) (class job : ℕ) (line : Written) (left : List SpoolSet) → AllHave spool → Takes spool class job line left → AllHave left
taken_from spool class job line left h t =
    let whole : AllHave (t.before ++ t.set ∷ t.after) = subst AllHave t.stands h in
    subst AllHave (sym t.is_left)
    (All-append HasLines t.before (left_of t.set t.lines ++ t.after) (left_part t.before (t.set ∷ t.after) whole)
    (All-append HasLines (left_of t.set t.lines) t.after (rest_of t.set t.lines)
    (All-tail HasLines t.set t.after (right_part t.before (t.set ∷ t.after) whole))))

as_it_was : (old new at : Shared) → new ≡ at → at.spool ≡ old.spool → AllHave old.spool → AllHave new.spool
as_it_was old new at n e h = subst AllHave (sym (ap (λ (s : Shared). s.spool) n ∙ e)) h

module _ (c : Config) (old : Shared) (r : Running) (lines : List JobLine) (new : Shared) (runs : Option Running) (h : AllHave old.spool) where
  holds_spool : (plan : JobPlan) → Holds old r plan lines new runs → AllHave new.spool
  holds_spool plan (held free t n on) = as_it_was old new _ n refl h
  holds_spool plan (blocked by is t n on) = as_it_was old new _ n refl h

  may_fail_spool : (plan : JobPlan) (fixed : Fixed) (told : JobLine) → MayFail c old r plan fixed told lines new runs → AllHave new.spool
  may_fail_spool plan fixed told (risky b t n on) = as_it_was old new _ n refl h
  may_fail_spool plan fixed told (refused free b t n conserved gone) = as_it_was old new _ n refl h

  answered_spool : (plan : JobPlan) (fixed : Fixed) → Answered c old r plan fixed lines new runs → AllHave new.spool
  answered_spool plan fixed (assured places kept free safe are_made are others t n conserved on) = as_it_was old new _ n refl h
  answered_spool plan fixed (no_space serial there t n on) = as_it_was old new _ n refl h
  answered_spool plan fixed (risk fault step dd path meets m) = may_fail_spool plan fixed _ m
  answered_spool plan fixed (too_many step low high views m) = may_fail_spool plan fixed _ m

  goes_spool : (stage : Stage) → GoesOn c old r stage lines new runs → AllHave new.spool
  goes_spool (Selected first) (broken n free f t e conserved gone) = as_it_was old new _ e refl h
  goes_spool (Selected first) (reads_plan plan rest denoted g) = holds_spool plan g
  goes_spool (Wanting plan) g = holds_spool plan g
  goes_spool (Named plan) g = answered_spool plan (fixed_at c old r.job plan g.places) g.answers
  goes_spool (Admitted plan a count own) (waits x growth primary e must t n on) = as_it_was old new _ n refl h
  goes_spool (Admitted plan a count own) (does_act x growth primary free e grants goes more t n conserved on) = as_it_was old new _ n refl h
  goes_spool (Admitted plan a count own) (ends x growth primary free e grants goes last t n conserved gone) =
      subst (λ (s : Shared). AllHave s.spool) (sym n)
      (put_in old.spool (sets_of r.job plan.message_class (r.listing ++ x.done.lines) x.done.state.own.outputs) h)

module _ (old new : World) (h : AllHave old.shared.spool) where
  same : (at : World) → new ≡ at → at.shared.spool ≡ old.shared.spool → AllHave new.shared.spool
  same at n e = as_it_was old.shared new.shared at.shared (ap (λ (w : World). w.shared) n) e h

  acts_spool : (place : ℕ) (x : Initiator) (o : Option Running) (lines : List Entry) → Acts old place x o lines new → AllHave new.shared.spool
  acts_spool place x None lines (nothing none t n) = same old n refl
  acts_spool place x None lines (selected v s t n) = same _ n refl
  acts_spool place x (Some r) lines g =
      subst (λ (w : World). AllHave w.shared.spool) (sym g.leaves) (goes_spool old.config old.shared r g.job_lines g.shared g.runs h r.stage g.goes)

  cancels_spool : (job : ℕ) (lines : List Entry) → CancelsJob old job lines new → AllHave new.shared.spool
  cancels_spool job lines (no_job none t n) = same old n refl
  cancels_spool job lines (cancels_waiting v free there is t n conserved) = same _ n refl
  cancels_spool job lines (cancels_selected place x r free at runs is not_yet t n conserved) = same _ n refl
  cancels_spool job lines (cancels_admitted place x r at runs is yet t n) = same _ n (either (has_cancel old.shared.cancels job))
    where
      either : (b : Bool) → (cond b old.shared (record old.shared { cancels = old.shared.cancels ++ job ∷ [] })).spool ≡ old.shared.spool
      either true = refl
      either false = refl

  does_spool : (job_of : Denoting) (e : Event) (lines : List Entry) → Does job_of old e lines new → AllHave new.shared.spool
  does_spool job_of (event.Read deck) lines (no_number more t n) = same old n refl
  does_spool job_of (event.Read deck) lines (rejected cause less f t n) = same _ n refl
  does_spool job_of (event.Read deck) lines (full plan less f few t n) = same _ n refl
  does_spool job_of (event.Read deck) lines (read plan first records less f w t n) = same _ n refl
  does_spool job_of (event.Turn number) lines (unknown none t n) = same old n refl
  does_spool job_of (event.Turn number) lines (acts place x at is a) = acts_spool place x x.running lines a
  does_spool job_of (event.DeviceEnd serial) lines (no_volume none t n) = same old n refl
  does_spool job_of (event.DeviceEnd serial) lines (idle there not_busy t n) = same old n refl
  does_spool job_of (event.DeviceEnd serial) lines (ended there is_busy t n) = same _ n refl
  does_spool job_of (event.Write class) lines (nothing_written none t n) = same old n refl
  does_spool job_of (event.Write class) lines (wrote job line left took t n) =
      subst (λ (w : World). AllHave w.shared.spool) (sym n) (taken_from old.shared.spool class job line left h took)
  does_spool job_of (event.Cancel job) lines d = cancels_spool job lines d
  does_spool job_of (event.Zap n offset bytes) lines (not_owned fails t is) = same old is refl
  does_spool job_of (event.Zap n offset bytes) lines (zaps_selected may has t is) = same old is refl
  does_spool job_of (event.Zap n offset bytes) lines (zapped may has t is) = same _ is refl
  does_spool job_of event.Display lines (shown t n) = same old n refl
  does_spool job_of (event.Date day) lines (dated years of_year is t n) = same _ n refl

pub spooled_kept : (job_of : Denoting) (old new : World) (e : Event) (lines : List Entry) → AllHave old.shared.spool → Transition job_of old e lines new →
    AllHave new.shared.spool
spooled_kept job_of old new e lines h (past more t n) = subst (λ (w : World). AllHave w.shared.spool) (sym n) h
spooled_kept job_of old new e lines h (taken less p) =
    subst AllHave (sym (ap (λ (s : Shared). s.spool) p.reopened.rest)) (does_spool (counted old) p.middle h job_of e lines p.does)
