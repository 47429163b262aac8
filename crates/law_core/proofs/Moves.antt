-- What each event changes of the jobs: who waits, who runs, what is held, and how many numbers were given.
use Rattle.std.proofs.Common.{◌≡◌, ◌⊎◌, inl, inr, ◌++◌, ◌+◌, ℕ, Bool, true, false, cond, List, [], ◌∷◌, Option, Some, None, refl, sym, ap, ◌∙◌, subst}
use Rattle.std.specs.Prelude.{All}
use Rattle.std.specs.List.{Contains}
use Rattle.jcl_plan.specs.declared.entry.Entry.{Entry}
use Rattle.jcl_plan.specs.declared.entry.JobLine.{JobLine}
use Rattle.jcl_plan.specs.declared.plan.JobPlan.{JobPlan}
use Rattle.jcl_meaning.specs.States.{Fixed}
use Rattle.enq_core.specs.Holds.{holds_of, is_blocked, without_job}
use Rattle.world_meaning.specs.declared.event.Event.{Event}
use Rattle.world_meaning.specs.declared.event.Event.TheVariants as event
use Rattle.world_meaning.specs.Admissions.{Answered, MayFail, assured, fixed_at, no_space, refused, risk, risky, too_many}
use Rattle.world_meaning.specs.Cancels.{CancelsJob, admitted as cancels_admitted, no_job, selected as cancels_selected, waiting as cancels_waiting}
use Rattle.world_meaning.specs.Devices.{ended, idle, no_volume, nothing_written, wrote}
use Rattle.world_meaning.specs.Displays.{set}
use Rattle.world_meaning.specs.Holdings.{Holds, blocked, broken, held, read as reads_plan, wants_of}
use Rattle.world_meaning.specs.Readings.{Denoting, Reads, full, no_number, read, rejected, waits as waits_with}
use Rattle.world_meaning.specs.Selections.{nothing, selected, taken_by}
use Rattle.world_meaning.specs.Transitions.{Acts, Does, GoesOn, Happens, Transition, acts, past, shown, taken, unknown}
use Rattle.world_meaning.specs.Turns.{acts as does_act, ends, has_cancel, waits}
use Rattle.world_meaning.specs.Worlds.{Admitted, Config, Initiator, IsAt, Named, Running, Selected, Shared, Stage, Waiting, Wanting, World, counted, with_running, without_waiting}
use Rattle.world_meaning.specs.Zaps.{not_owned, selected as zaps_selected, zapped}
use Rattle.law_core.specs.Soundness.{IsDenoted, named_plan, plan_read}

-- a plan that was read before, or is read in this turn
abbrev pub ReadOrDenoted : Config → Shared → Running → Option JobPlan → Option JobPlan → Type 0
ReadOrDenoted c old r before after = (plan : JobPlan) → after ≡ Some plan → (before ≡ Some plan) ⊎ IsDenoted c old.records r.job plan

-- What a job's turn leaves at its initiator: the job is over and its names are free, it goes on, or it gets its names.
pub data Left (c : Config) (old : Shared) (r : Running) (new : Shared) (runs : Option Running) : Type 0 where
  over : runs ≡ None → new.holds ≡ without_job r.job old.holds → Left c old r new runs
  goes : (s : Running) → runs ≡ Some s → s.job ≡ r.job → named_plan s.stage ≡ named_plan r.stage →
      ReadOrDenoted c old r (plan_read r.stage) (plan_read s.stage) → new.holds ≡ old.holds → Left c old r new runs
  named : (s : Running) (plan : JobPlan) → runs ≡ Some s → s.job ≡ r.job → named_plan s.stage ≡ Some plan →
      ReadOrDenoted c old r (plan_read r.stage) (plan_read s.stage) → All (λ want. is_blocked old.holds want ≡ false) (wants_of plan) →
      new.holds ≡ old.holds ++ holds_of r.job (wants_of plan) → Left c old r new runs

module _ (c : Config) (old : Shared) (r : Running) where
  -- a stage with a plan that was read before
  as_read : (before after : Option JobPlan) → after ≡ before → ReadOrDenoted c old r before after
  as_read before after same plan is = inl (sym same ∙ is)

  now_read : (before : Option JobPlan) (plan : JobPlan) → IsDenoted c old.records r.job plan → ReadOrDenoted c old r before (Some plan)
  now_read before plan denoted other is = let same : plan ≡ other = cc in inr (subst (IsDenoted c old.records r.job) same denoted)

  holds_left : (plan : JobPlan) (lines : List JobLine) (new : Shared) (runs : Option Running) → named_plan r.stage ≡ None →
      ReadOrDenoted c old r (plan_read r.stage) (Some plan) → Holds old r plan lines new runs → Left c old r new runs
  holds_left plan lines new runs none before (held free t n on) =
      named _ plan on refl refl before free (ap (λ (s : Shared). s.holds) n)
  holds_left plan lines new runs none before (blocked by is t n on) = goes _ on refl (sym none) before (ap (λ (s : Shared). s.holds) n)

  may_fail_left : (plan : JobPlan) (fixed : Fixed) (told : JobLine) (lines : List JobLine) (new : Shared) (runs : Option Running) → r.stage ≡ Named plan →
      MayFail c old r plan fixed told lines new runs → Left c old r new runs
  may_fail_left plan fixed told lines new runs is (risky b t n on) =
      goes _ on refl (sym (ap named_plan is)) (as_read (plan_read r.stage) (Some plan) (sym (ap plan_read is))) (ap (λ (s : Shared). s.holds) n)
  may_fail_left plan fixed told lines new runs is (refused free b t n conserved gone) = over gone (ap (λ (s : Shared). s.holds) n)

  answered_left : (plan : JobPlan) (fixed : Fixed) (lines : List JobLine) (new : Shared) (runs : Option Running) → r.stage ≡ Named plan →
      Answered c old r plan fixed lines new runs → Left c old r new runs
  answered_left plan fixed lines new runs is (assured places kept free safe are_made are others t n conserved on) =
      goes _ on refl (sym (ap named_plan is)) (as_read (plan_read r.stage) (Some plan) (sym (ap plan_read is))) (ap (λ (s : Shared). s.holds) n)
  answered_left plan fixed lines new runs is (no_space serial there t n on) =
      goes _ on refl (sym (ap named_plan is)) (as_read (plan_read r.stage) (Some plan) (sym (ap plan_read is))) (ap (λ (s : Shared). s.holds) n)
  answered_left plan fixed lines new runs is (risk fault step dd path meets m) = may_fail_left plan fixed _ lines new runs is m
  answered_left plan fixed lines new runs is (too_many step low high views m) = may_fail_left plan fixed _ lines new runs is m

  pub turn_left : (stage : Stage) (lines : List JobLine) (new : Shared) (runs : Option Running) → r.stage ≡ stage → GoesOn c old r stage lines new runs →
      Left c old r new runs
  turn_left (Selected first) lines new runs is (broken n free f t e conserved gone) = over gone (ap (λ (s : Shared). s.holds) e)
  turn_left (Selected first) lines new runs is (reads_plan plan behind denoted h) =
      holds_left plan lines new runs (ap named_plan is) (now_read (plan_read r.stage) plan (record { numbers = first ∷ behind; denoted = denoted })) h
  turn_left (Wanting plan) lines new runs is h =
      holds_left plan lines new runs (ap named_plan is) (as_read (plan_read r.stage) (Some plan) (sym (ap plan_read is))) h
  turn_left (Named plan) lines new runs is g = answered_left plan (fixed_at c old r.job plan g.places) lines new runs is g.answers
  turn_left (Admitted plan a count own) lines new runs is (waits x growth primary e must t n on) =
      goes r on refl refl (as_read (plan_read r.stage) (plan_read r.stage) refl) (ap (λ (s : Shared). s.holds) n)
  turn_left (Admitted plan a count own) lines new runs is (does_act x growth primary free e grants further more t n conserved on) =
      goes _ on refl (sym (ap named_plan is)) (as_read (plan_read r.stage) (Some plan) (sym (ap plan_read is))) (ap (λ (s : Shared). s.holds) n)
  turn_left (Admitted plan a count own) lines new runs is (ends x growth primary free e grants further last t n conserved gone) =
      over gone (ap (λ (s : Shared). s.holds) n)

-- What an event moves. Nothing but perhaps the count of numbers; a job enters the queue; one is cancelled there; an idle initiator takes one; a job's
-- turn; one is cancelled before its admission.
pub data Moved (old new : World) : Type 0 where
  still : new.initiators ≡ old.initiators → new.waiting ≡ old.waiting → (new.jobs ≡ old.jobs) ⊎ (new.jobs ≡ old.jobs + 1) →
      new.shared.holds ≡ old.shared.holds → Moved old new
  enters : (v : Waiting) → v.job ≡ old.jobs + 1 → new.initiators ≡ old.initiators → new.waiting ≡ old.waiting ++ v ∷ [] → new.jobs ≡ old.jobs + 1 →
      new.shared.holds ≡ old.shared.holds → Moved old new
  unqueued : (v : Waiting) → Contains old.waiting v → new.initiators ≡ old.initiators → new.waiting ≡ without_waiting old.waiting v.job →
      new.jobs ≡ old.jobs → new.shared.holds ≡ without_job v.job old.shared.holds → Moved old new
  picks : (place : ℕ) (x : Initiator) (v : Waiting) (r : Running) → IsAt old place x → x.running ≡ None → Contains old.waiting v → r.job ≡ v.job →
      named_plan r.stage ≡ None → plan_read r.stage ≡ None → new.initiators ≡ with_running old.initiators place x (Some r) →
      new.waiting ≡ without_waiting old.waiting v.job → new.jobs ≡ old.jobs → new.shared.holds ≡ old.shared.holds → Moved old new
  turns : (place : ℕ) (x : Initiator) (r : Running) (lines : List JobLine) (shared : Shared) (runs : Option Running) → IsAt old place x →
      x.running ≡ Some r → GoesOn old.config old.shared r r.stage lines shared runs → new.initiators ≡ with_running old.initiators place x runs →
      new.waiting ≡ old.waiting → new.jobs ≡ old.jobs → new.shared.holds ≡ shared.holds → new.shared.store ≡ shared.store → Moved old new
  ended_early : (place : ℕ) (x : Initiator) (r : Running) → IsAt old place x → x.running ≡ Some r →
      new.initiators ≡ with_running old.initiators place x None → new.waiting ≡ old.waiting → new.jobs ≡ old.jobs →
      new.shared.holds ≡ without_job r.job old.shared.holds → Moved old new

unmoved : (old : World) → Moved old old
unmoved old = still refl refl (inl refl) refl

as_new : (old new at : World) → new ≡ at → Moved old at → Moved old new
as_new old new at n h = subst (Moved old) (sym n) h

reads_moved : (job_of : Denoting) (old new : World) (deck : List (List ℕ)) (lines : List Entry) → Reads job_of old deck lines new → Moved old new
reads_moved job_of old new deck lines (no_number more t n) = as_new old new old n (unmoved old)
reads_moved job_of old new deck lines (rejected cause less f t n) = as_new old new _ n (still refl refl (inr refl) refl)
reads_moved job_of old new deck lines (full plan less f few t n) = as_new old new _ n (still refl refl (inr refl) refl)
reads_moved job_of old new deck lines (read plan first records less f w t n) =
    as_new old new _ n (enters (waits_with (old.jobs + 1) first plan) refl refl refl refl refl)

acts_moved : (old new : World) (place : ℕ) (x : Initiator) (o : Option Running) (lines : List Entry) → IsAt old place x → x.running ≡ o →
    Acts old place x o lines new → Moved old new
acts_moved old new place x None lines at is (nothing none t n) = as_new old new old n (unmoved old)
acts_moved old new place x None lines at is (selected v s t n) =
    as_new old new _ n (picks place x v (taken_by x.number v) at is s.first.contained refl refl refl refl refl refl refl)
acts_moved old new place x (Some r) lines at is g =
    as_new old new _ g.leaves (turns place x r g.job_lines g.shared g.runs at is g.goes refl refl refl refl refl)

cancels_moved : (old new : World) (job : ℕ) (lines : List Entry) → CancelsJob old job lines new → Moved old new
cancels_moved old new job lines (no_job none t n) = as_new old new old n (unmoved old)
cancels_moved old new job lines (cancels_waiting v free there is t n conserved) =
    as_new old new _ n (unqueued v there refl (ap (without_waiting old.waiting) (sym is)) refl (ap (λ j. without_job j old.shared.holds) (sym is)))
cancels_moved old new job lines (cancels_selected place x r free at runs is not_yet t n conserved) =
    as_new old new _ n (ended_early place x r at runs refl refl refl (ap (λ j. without_job j old.shared.holds) (sym is)))
cancels_moved old new job lines (cancels_admitted place x r at runs is yet t n) =
    as_new old new _ n (still refl refl (inl refl) (either (has_cancel old.shared.cancels job)))
  where
    either : (b : Bool) → (cond b old.shared (record old.shared { cancels = old.shared.cancels ++ job ∷ [] })).holds ≡ old.shared.holds
    either true = refl
    either false = refl

does_move : (job_of : Denoting) (old new : World) (e : Event) (lines : List Entry) → Does job_of old e lines new → Moved old new
does_move job_of old new (event.Read deck) lines d = reads_moved job_of old new deck lines d
does_move job_of old new (event.Turn number) lines (unknown none t n) = as_new old new old n (unmoved old)
does_move job_of old new (event.Turn number) lines (acts place x at is a) = acts_moved old new place x x.running lines at refl a
does_move job_of old new (event.DeviceEnd serial) lines (no_volume none t n) = as_new old new old n (unmoved old)
does_move job_of old new (event.DeviceEnd serial) lines (idle there not_busy t n) = as_new old new old n (unmoved old)
does_move job_of old new (event.DeviceEnd serial) lines (ended there is_busy t n) = as_new old new _ n (still refl refl (inl refl) refl)
does_move job_of old new (event.Write class) lines (nothing_written none t n) = as_new old new old n (unmoved old)
does_move job_of old new (event.Write class) lines (wrote job line left took t n) = as_new old new _ n (still refl refl (inl refl) refl)
does_move job_of old new (event.Cancel job) lines d = cancels_moved old new job lines d
does_move job_of old new (event.Zap n offset bytes) lines (not_owned fails t is) = as_new old new old is (unmoved old)
does_move job_of old new (event.Zap n offset bytes) lines (zaps_selected may has t is) = as_new old new old is (unmoved old)
does_move job_of old new (event.Zap n offset bytes) lines (zapped may has t is) = as_new old new _ is (still refl refl (inl refl) refl)
does_move job_of old new event.Display lines (shown t n) = as_new old new old n (unmoved old)
does_move job_of old new (event.Date day) lines (set years of_year is t n) = as_new old new _ n (still refl refl (inl refl) refl)

-- the same where open bytes differ, and where the count of events does
pub record AgreeHere (mid new : World) : Type 0 where
  pub initiators : new.initiators ≡ mid.initiators
  pub waiting : new.waiting ≡ mid.waiting
  pub jobs : new.jobs ≡ mid.jobs
  pub holds : new.shared.holds ≡ mid.shared.holds
  pub store : new.shared.store ≡ mid.shared.store

reopened : (old mid new : World) → AgreeHere mid new → Moved (counted old) mid → Moved old new
reopened old mid new h (still a b (inl d) e) = still (h.initiators ∙ a) (h.waiting ∙ b) (inl (h.jobs ∙ d)) (h.holds ∙ e)
reopened old mid new h (still a b (inr d) e) = still (h.initiators ∙ a) (h.waiting ∙ b) (inr (h.jobs ∙ d)) (h.holds ∙ e)
reopened old mid new h (enters v is a b d e) = enters v is (h.initiators ∙ a) (h.waiting ∙ b) (h.jobs ∙ d) (h.holds ∙ e)
reopened old mid new h (unqueued v there a b d e) = unqueued v there (h.initiators ∙ a) (h.waiting ∙ b) (h.jobs ∙ d) (h.holds ∙ e)
reopened old mid new h (picks place x v r at is there job no_names no_plan a b d e) =
    picks place x v r at is there job no_names no_plan (h.initiators ∙ a) (h.waiting ∙ b) (h.jobs ∙ d) (h.holds ∙ e)
reopened old mid new h (turns place x r lines shared runs at is g a b d e f) =
    turns place x r lines shared runs at is g (h.initiators ∙ a) (h.waiting ∙ b) (h.jobs ∙ d) (h.holds ∙ e) (h.store ∙ f)
reopened old mid new h (ended_early place x r at is a b d e) =
    ended_early place x r at is (h.initiators ∙ a) (h.waiting ∙ b) (h.jobs ∙ d) (h.holds ∙ e)

pub agree_here : (job_of : Denoting) (old new : World) (e : Event) (lines : List Entry) (h : Happens job_of old e lines new) → AgreeHere h.middle new
agree_here job_of old new e lines h = record {
  initiators = ap (λ (w : World). w.initiators) h.rest;
  waiting = ap (λ (w : World). w.waiting) h.rest;
  jobs = ap (λ (w : World). w.jobs) h.rest;
  holds = ap (λ (s : Shared). s.holds) h.reopened.rest;
  store = ap (λ (s : Shared). s.store) h.reopened.rest;
}

pub moved : (job_of : Denoting) (old new : World) (e : Event) (lines : List Entry) → Transition job_of old e lines new → Moved old new
moved job_of old new e lines (past more t n) = as_new old new old n (unmoved old)
moved job_of old new e lines (taken less h) =
    reopened old h.middle new (agree_here job_of (counted old) new e lines h) (does_move job_of (counted old) h.middle e lines h.does)
