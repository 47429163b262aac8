-- An initiator that selects a job does so as the table says, and leaves the machine fit.
use Rattle.std.proofs.Common.{◌≡◌, ◌≤◌, ◌⊎◌, inl, inr, ℕ, List, [], ◌∷◌, ◌++◌, map, Some, None, slice_get, refl, sym, ap, ◌∙◌, subst}
use Rattle.std.specs.Prelude.{get_or, slice_set}
use Rattle.std.specs.List.{Contains}
use Rattle.std.proofs.lemmas.Bool.{cases_eq}
use Rattle.std.proofs.lemmas.Option.{get_or_from_slice_get}
use Rattle.enq_core.specs.declared.table.Hold.{Hold}
use Rattle.enq_core.specs.Holds.{HoldsNone}
use Rattle.jcl_plan.specs.declared.entry.Entry.{Entry}
use Rattle.jcl_plan.specs.declared.entry.JobLine.TheVariants as line
use Rattle.cb_queue.specs.RecordQueues as queue
use Rattle.cb_queue.specs.RecordQueues.{AreInOrder, RecordQueue}
use Rattle.queue_core.specs.declared.queue.Queued.{Queued}
use Rattle.machine_meaning.specs.declared.machine.TheConstants.{MOST_EVENTS, MOST_JOBS}
use Rattle.world_laws.proofs.Beside.{one_there, set_elsewhere}
use Rattle.world_meaning.specs.Selections as table
use Rattle.world_meaning.specs.Selections.{IsSelected, Selects, taken_by}
use Rattle.world_meaning.specs.Worlds as world
use Rattle.world_meaning.specs.Worlds.{Config, Waiting, World, of_job, with_running, without_waiting}
use Rattle.world_meaning.proofs.Following.{unopened}
use Rattle.queued_job.specs.Backlogs.{IsListingOf, told}
use Rattle.queued_job.specs.Listed.{AreListed, but_job, but_listing, waiting_in}
use Rattle.queued_job.specs.Selecting.{IsSelection, SelectsOf}
use Rattle.queued_job.specs.declared.backlog.Listing.{Listing}
use Rattle.queued_job.proofs.Listed.{one_listing, others, queued}
use Rattle.init_core.specs.Running.{IsReady, shown_running}
use Rattle.init_core.specs.declared.running.Running.{Running}
use Rattle.sched_core.specs.Events.{LeadsTo, SelectsAt}
use Rattle.sched_core.specs.Fits.{IsAtNone, IsFit, IsKept}
use Rattle.sched_core.specs.Machines.{RunsIn, shown_initiator, world_in}
use Rattle.sched_core.specs.Selecting.{IsIdleAt, Seats, nobody, queue_without, seated, selected_as}
use Rattle.sched_core.specs.declared.state.Initiator.{Initiator}
use Rattle.sched_core.specs.declared.state.State.{State}
use Rattle.sched_core.proofs.Seats.{RanIn, elsewhere, here, ran_cases, shown_at, shown_set}
use Rattle.sched_core.proofs.Unchanged.{good_with, same_fit, same_names, same_world, shown_with}
use Rattle.sched_core.proofs.Waits.{nameless, numbered}

-- what was read at a place is what stands there
pub read_at : (xs : List Initiator) (place : ℕ) (x y : Initiator) → slice_get xs place ≡ Some x → y ≡ get_or xs place y → y ≡ x
read_at xs place x y at is = is ∙ get_or_from_slice_get xs place x y at

-- a job took its seat
pub seats_job : (q : RecordQueue) (backlog : List Listing) (xs : List Initiator) (place : ℕ) (now : RecordQueue) (left : List Listing) (lines : List Entry)
    (x y z : Initiator) (classes : List ℕ) (number : ℕ) (job : Queued) (taken : Listing) (r : Running) → slice_get xs place ≡ Some x → classes ≡ x.classes →
    number ≡ x.number → SelectsOf q.waiting classes (Some job) → lines ≡ of_job job.job (line.Selected number ∷ []) →
    (l : Listing) × IsListingOf backlog job.job l × (taken ≡ told l (line.Selected number)) → now ≡ queue_without q job.job →
    left ≡ but_listing job.job backlog →
    r ≡ selected_as job taken.lines → y ≡ x → z ≡ record y { running = Some r } → Seats q backlog xs place now left (slice_set xs place z) lines
seats_job q backlog xs place now left lines x y z classes number job taken r at classed numbered selects is_told
    (l, its, with_line) queue_is backlog_is is same set =
    let runs : r ≡ selected_as job (l.lines ++ line.Selected x.number ∷ []) =
    is ∙ ap (selected_as job) (ap (λ (m : Listing). m.lines) with_line ∙ ap (λ n. l.lines ++ line.Selected n ∷ []) numbered) in
    seated x job l at (subst (λ cs. SelectsOf q.waiting cs (Some job)) classed selects) its (is_told ∙ ap (λ n. of_job job.job (line.Selected n ∷ [])) numbered)
    queue_is backlog_is (ap (slice_set xs place) (set ∙ (λ i. record (same i) { running = Some (runs i) })))

module _ {Q : Type 0} (queue_of : Q → RecordQueue) (c : Config) (s : State Q) (kept : IsKept queue_of c s) (order : AreInOrder (queue_of s.parts.queue).waiting)
    (place : ℕ) (idle : IsIdleAt s.initiators.items place) (new : State Q) (lines : List Entry)
    (parts : new.parts ≡ record s.parts { queue = new.parts.queue }) (jobs : new.jobs ≡ s.jobs) (events : new.events ≡ s.events) where
  abbrev w : World
  w = world_in queue_of c s

  -- what the initiator at the place may do it does
  at_place : (x : Initiator) → slice_get s.initiators.items place ≡ Some x → (then : World) →
      Selects w place (shown_initiator c (queue_of s.parts.queue) x) lines then →
      then ≡ world_in queue_of c new → LeadsTo (SelectsAt w place lines) (world_in queue_of c new)
  at_place x at then does is = record {
    middle = world_in queue_of c new;
    does_so = λ y there.
        subst (λ (z : world.Initiator). Selects w place z lines (world_in queue_of c new))
        (one_there w.initiators place place (shown_initiator c (queue_of s.parts.queue) x) y refl
        (shown_at c (queue_of s.parts.queue) s.initiators.items place x at) there)
        (subst (Selects w place (shown_initiator c (queue_of s.parts.queue) x) lines) is does);
    reopened = unopened c.layout (world_in queue_of c new).shared;
    rest = refl;
  }

  module _ (x : Initiator) (q : Queued) (l : Listing) (at : slice_get s.initiators.items place ≡ Some x)
      (selects : SelectsOf (queue_of s.parts.queue).waiting x.classes (Some q)) (its : IsListingOf s.backlog q.job l)
      (told : lines ≡ of_job q.job (line.Selected x.number ∷ [])) (queue_is : queue_of new.parts.queue ≡ queue_without (queue_of s.parts.queue) q.job)
      (backlog : new.backlog ≡ but_listing q.job s.backlog) where
    abbrev r : Running
    r = selected_as q (l.lines ++ line.Selected x.number ∷ [])

    module _ (after : new.initiators.items ≡ slice_set s.initiators.items place (record x { running = Some r })) where
      selection : IsSelection w.waiting x.classes (Some q)
      selection = selects w.waiting (queued (queue_of s.parts.queue).waiting s.backlog kept.fit.listed)

      abbrev v : Waiting
      v = selection.0

      is_v : IsSelected w.waiting x.classes v
      is_v = selection.1

      waits : Contains w.waiting v
      waits = is_v.first.contained

      same_job : v.job ≡ q.job
      same_job = ap (λ (y : Queued). y.job) selection.2

      same_first : v.first ≡ q.jct
      same_first = ap (λ (y : Queued). y.jct) selection.2

      same_lines : v.listing ≡ l.lines
      same_lines = one_listing (queue_of s.parts.queue).waiting s.backlog v l order kept.fit.listed waits
          (subst (λ n. IsListingOf s.backlog n l) (sym same_job) its)

      left : AreListed (but_job q.job (queue_of s.parts.queue).waiting) (but_listing q.job s.backlog)
          × (waiting_in (but_job q.job (queue_of s.parts.queue).waiting) (but_listing q.job s.backlog) ≡ without_waiting w.waiting q.job)
      left = others (queue_of s.parts.queue).waiting s.backlog q.job kept.fit.listed

      taken : Some (taken_by x.number v) ≡ Some (shown_running c (queue_of new.parts.queue) r)
      taken = λ i. Some (record { job = same_job i; listing = same_lines i ++ line.Selected x.number ∷ []; stage = world.Selected (same_first i) })

      waiting_now : without_waiting w.waiting v.job ≡ waiting_in (queue_of new.parts.queue).waiting new.backlog
      waiting_now =
          ap (without_waiting w.waiting) same_job
          ∙ (sym left.1 ∙ (λ i. waiting_in (sym queue_is i).waiting (sym backlog i)))

      initiators_now : with_running w.initiators place (shown_initiator c (queue_of s.parts.queue) x) (Some (taken_by x.number v))
          ≡ map (shown_initiator c (queue_of new.parts.queue)) new.initiators.items
      initiators_now =
          ap (with_running w.initiators place (shown_initiator c (queue_of s.parts.queue) x)) taken
          ∙ (sym (shown_set c (queue_of s.parts.queue) (queue_of new.parts.queue) s.initiators.items place (record x { running = Some r }))
          ∙ ap (map (shown_initiator c (queue_of new.parts.queue))) (sym after))

      abbrev then : World
      then = record w {
        waiting = without_waiting w.waiting v.job;
        initiators = with_running w.initiators place (shown_initiator c (queue_of s.parts.queue) x) (Some (taken_by x.number v));
      }

      then_is : then ≡ world_in queue_of c new
      then_is = λ i. record {
        config = c;
        shared = sym (shown_with queue_of c s.parts new.parts parts (ap queue.shown queue_is)) i;
        initiators = initiators_now i;
        waiting = waiting_now i;
        jobs = sym jobs i;
        events = sym events i;
      }

      leads_seated : LeadsTo (SelectsAt w place lines) (world_in queue_of c new)
      leads_seated =
          at_place x at then
          (table.selected v is_v (told ∙ ap (λ n. of_job n (line.Selected x.number ∷ [])) (sym same_job)) refl) then_is

      names_same : new.parts.names ≡ s.parts.names
      names_same = same_names queue_of c s.parts new.parts parts

      no_names : HoldsNone new.parts.names q.job
      no_names = subst (λ (hs : List Hold). HoldsNone hs q.job) (sym names_same)
          (subst (HoldsNone s.parts.names) same_job (nameless queue_of c s kept v waits))

      ready : (other : ℕ) (p : Running) → RunsIn new.initiators.items other p → IsReady c new.parts.names p
      ready other p h = by (ran_cases s.initiators.items new.initiators.items place x (Some r) at after other p h)
        where
          by : RanIn s.initiators.items place (Some r) other p → IsReady c new.parts.names p
          by (here same is) = let one : r ≡ p = cc in subst (IsReady c new.parts.names) one
              (record { some = λ zero. numbered queue_of c s kept v waits (same_job ∙ zero); at = no_names })
          by (elsewhere apart was) = subst (λ (hs : List Hold). IsReady c hs p) (sym names_same) (kept.fit.ready other p was)

      was_none : (job : ℕ) → IsAtNone new job → IsAtNone s job
      was_none job none other p h same = by (cases_eq other place)
        where
          by : (other ≡ place) ⊎ (other ≡ place → ⊥) → ⊥
          by (inl e) =
              let one : h.it ≡ idle.0 = one_there s.initiators.items other place h.it idle.0 e h.at idle.1 in
              let no : Some p ≡ None = sym h.running ∙ (ap (λ (y : Initiator). y.running) one ∙ idle.2) in absurd cc
          by (inr e) = none other p (record {
            it = h.it;
            at = ap (λ (ys : List Initiator). slice_get ys other) after
                ∙ (set_elsewhere s.initiators.items other place (record x { running = Some r }) e ∙ h.at);
            running = h.running;
          }) same

      fit_seated : IsFit queue_of c new
      fit_seated = record {
        good = good_with queue_of c s.parts new.parts parts (ap (λ (y : RecordQueue). y.layout) queue_is) kept.fit.good;
        holds = kept.fit.holds;
        days = kept.fit.days;
        listed = subst (λ (y : RecordQueue). AreListed y.waiting new.backlog) (sym queue_is)
            (subst (AreListed (but_job q.job (queue_of s.parts.queue).waiting)) (sym backlog) left.0);
        ready = ready;
        unnamed = λ job none. subst (λ (hs : List Hold). HoldsNone hs job) (sym names_same) (kept.fit.unnamed job (was_none job none));
        steps = kept.fit.steps;
        few_jobs = subst (λ n. n ≤ MOST_JOBS) (sym jobs) kept.fit.few_jobs;
        few_events = subst (λ n. n ≤ MOST_EVENTS) (sym events) kept.fit.few_events;
      }

  abbrev HasSeated : Type 0
  HasSeated = Seats (queue_of s.parts.queue) s.backlog s.initiators.items place (queue_of new.parts.queue) new.backlog new.initiators.items lines

  -- none of its classes waits
  no_job : (x : Initiator) → SelectsOf (queue_of s.parts.queue).waiting x.classes None → IsSelection w.waiting x.classes None
  no_job x selects = selects w.waiting (queued (queue_of s.parts.queue).waiting s.backlog kept.fit.listed)

  pub leads : HasSeated → LeadsTo (SelectsAt w place lines) (world_in queue_of c new)
  leads (nobody x at selects told queue_is backlog after) =
      at_place x at w (table.nothing (no_job x selects) told refl) (sym (same_world queue_of c s new parts queue_is backlog after jobs events))
  leads (seated x q l at selects its told queue_is backlog after) = leads_seated x q l at selects its told queue_is backlog after

  pub fit : HasSeated → IsFit queue_of c new
  fit (nobody x at selects told queue_is backlog after) = same_fit queue_of c s new parts queue_is backlog after jobs events kept.fit
  fit (seated x q l at selects its told queue_is backlog after) = fit_seated x q l at selects its told queue_is backlog after
