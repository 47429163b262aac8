-- The jobs that wait, as the machine has them.
use Rattle.std.proofs.Common.{◌≡◌, ◌≢◌, ◌<◌, ◌==◌, ◌||◌, ℕ, zero, suc, Bool, true, false, List, [], ◌∷◌, All, map, Some, arith, refl, sym, ap, ◌∙◌, subst}
use Rattle.std.specs.List.{Contains, list_any}
use Rattle.std.proofs.lemmas.Bool.{eqb-false, eqb-true}
use Rattle.std.proofs.lemmas.List.Elements.{All-cons, All-contains, All-map, All-nil, All-same, All-weaker}
use Rattle.enq_core.specs.Holds.{HoldsNone}
use Rattle.cb_queue.specs.RecordQueues.{RecordQueue}
use Rattle.queue_core.specs.declared.queue.Queued.{Queued}
use Rattle.queue_core.proofs.Numbered.{all_read}
use Rattle.world_meaning.specs.Starts.{AreInOrder}
use Rattle.world_meaning.specs.Worlds.{Config, Waiting, World}
use Rattle.queued_job.specs.Backlogs.{IsListingOf}
use Rattle.queued_job.specs.Listed.{AreListed, waiting_as, waiting_in}
use Rattle.queued_job.specs.Selecting.{SelectsOf, queued_as}
use Rattle.queued_job.specs.declared.backlog.Listing.{Listing}
use Rattle.queued_job.proofs.Listed.{queued}
use Rattle.init_core.specs.Running.{shown_running}
use Rattle.sched_core.specs.Fits.{IsAtNone, IsKept}
use Rattle.sched_core.specs.Machines.{world_in}
use Rattle.sched_core.specs.declared.state.State.{State}
use Rattle.sched_core.proofs.Seats.{runs_at}

above : (n : ℕ) (ws : List Waiting) → AreInOrder n ws → All (λ v. n < v.job) ws
above n [] h = All-nil (λ v. n < v.job)
above n (w ∷ ws) h =
    All-cons (λ v. n < v.job) w ws h.0 (All-weaker (λ v. w.job < v.job) (λ v. n < v.job) (λ v b. omega (arith, h.0, b)) ws (above w.job ws h.1))

-- what holds of the numbers of jobs that wait holds of those in the queue, and of those of the listings
module _ (queue : List Queued) (backlog : List Listing) (listed : AreListed queue backlog) (P : ℕ → Type 0) where
  pub in_queue : All (λ v. P v.job) (waiting_in queue backlog) → All (λ q. P q.job) queue
  in_queue all =
      All-same (λ q. P q.job) queue (map queued_as (waiting_in queue backlog)) (sym (queued queue backlog listed))
      (All-map (λ q. P q.job) queued_as (waiting_in queue backlog) all)

  pub in_backlog : All (λ q. P q.job) queue → All (λ l. P l.job) backlog
  in_backlog all =
      all_read P (λ (l : Listing). l.job) backlog
      (All-same P (map (λ (l : Listing). l.job) backlog) (map (λ (q : Queued). q.job) queue) (sym listed) (All-map P (λ (q : Queued). q.job) queue all))

  pub from_backlog : All (λ l. P l.job) backlog → All (λ v. P v.job) (waiting_in queue backlog)
  from_backlog all =
      all_read (λ q. P q.job) queued_as (waiting_in queue backlog)
      (All-same (λ q. P q.job) (map queued_as (waiting_in queue backlog)) queue (queued queue backlog listed)
      (all_read P (λ (q : Queued). q.job) queue
      (All-same P (map (λ (q : Queued). q.job) queue) (map (λ (l : Listing). l.job) backlog) listed (All-map P (λ (l : Listing). l.job) backlog all))))

-- whether a job has a listing is whether it waits
abbrev IsWaiting : List Queued → List Listing → ℕ → Type 0
IsWaiting queue backlog job = (v : Waiting) × Contains (waiting_in queue backlog) v × (v.job ≡ job)

behind : (q : Queued) (queue : List Queued) (l : Listing) (backlog : List Listing) (job : ℕ) → IsWaiting queue backlog job →
    IsWaiting (q ∷ queue) (l ∷ backlog) job
behind q queue l backlog job (v, (k, within, there), same) = (v, (suc k, omega (arith, within), there), same)

pub found_waiting : (queue : List Queued) (backlog : List Listing) (job : ℕ) → AreListed queue backlog → list_any (λ l. l.job == job) backlog ≡ true →
    IsWaiting queue backlog job
found_waiting [] [] job e h = cc
found_waiting [] (l ∷ backlog) job e h = cc
found_waiting (q ∷ queue) [] job e h = cc
found_waiting (q ∷ queue) (l ∷ backlog) job e h = by (l.job == job) refl (found_waiting queue backlog job cc)
  where
    first : q.job ≡ l.job
    first = cc

    by : (b : Bool) → (l.job == job) ≡ b → (list_any (λ (x : Listing). x.job == job) backlog ≡ true → IsWaiting queue backlog job) →
        IsWaiting (q ∷ queue) (l ∷ backlog) job
    by true is rest = (waiting_as q l, (0, omega arith, refl), first ∙ eqb-true l.job job is)
    by false is rest = behind q queue l backlog job (rest (sym (ap (λ b. b || list_any (λ (x : Listing). x.job == job) backlog) is) ∙ h))

pub none_waiting : (backlog : List Listing) (job : ℕ) → list_any (λ l. l.job == job) backlog ≡ false → All (λ l. l.job ≢ job) backlog
none_waiting [] job h = All-nil (λ l. l.job ≢ job)
none_waiting (l ∷ backlog) job h = by (l.job == job) refl (none_waiting backlog job)
  where
    by : (b : Bool) → (l.job == job) ≡ b → (list_any (λ (x : Listing). x.job == job) backlog ≡ false → All (λ x. x.job ≢ job) backlog) →
        All (λ x. x.job ≢ job) (l ∷ backlog)
    by true is rest = let no : true ≡ false = sym (ap (λ b. b || list_any (λ (x : Listing). x.job == job) backlog) is) ∙ h in absurd cc
    by false is rest =
        All-cons (λ x. x.job ≢ job) l backlog (eqb-false l.job job is)
        (rest (sym (ap (λ b. b || list_any (λ (x : Listing). x.job == job) backlog) is) ∙ h))

-- a job that waits has a listing
listing_of : (queue : List Queued) (backlog : List Listing) (v : Waiting) → AreListed queue backlog → Contains (waiting_in queue backlog) v →
    (l : Listing) × IsListingOf backlog v.job l
listing_of [] backlog v e c = absurd (omega (arith, c.1))
listing_of (q ∷ queue) [] v e c = absurd (omega (arith, c.1))
listing_of (q ∷ queue) (l ∷ backlog) v e (zero, within, is) =
    let first : q.job ≡ l.job = cc in
    (l, ((0, omega arith, refl), sym first ∙ ap (λ (x : Waiting). x.job) is))
listing_of (q ∷ queue) (l ∷ backlog) v e (suc k, within, is) =
    let (m, ((j, inside, that), same)) = listing_of queue backlog v (cc) (k, omega (arith, within), is) in
    (m, ((suc j, omega (arith, inside), that), same))

-- and so has one that is selected
pub listing_there : (queue : List Queued) (backlog : List Listing) (classes : List ℕ) (q : Queued) → AreListed queue backlog →
    SelectsOf queue classes (Some q) →
    (l : Listing) × IsListingOf backlog q.job l
listing_there queue backlog classes q listed selects =
    let (v, is, same) = selects (waiting_in queue backlog) (queued queue backlog listed) in
    subst (λ n. (l : Listing) × IsListingOf backlog n l) (ap (λ (x : Queued). x.job) same) (listing_of queue backlog v listed is.first.contained)

module _ {Q : Type 0} (queue_of : Q → RecordQueue) (c : Config) (s : State Q) (kept : IsKept queue_of c s) (v : Waiting)
    (waits : Contains (waiting_in (queue_of s.parts.queue).waiting s.backlog) v) where
  abbrev w : World
  w = world_in queue_of c s

  pub numbered : v.job ≢ 0
  numbered is =
      let some : 0 < v.job = All-contains (λ x. 0 < x.job) w.waiting v (above 0 w.waiting kept.sound.in_order) waits in
      absurd (omega (arith, some, is))

  pub at_none : IsAtNone s v.job
  at_none place r h same =
      All-contains (λ x. x.job ≢ r.job) w.waiting v
      (kept.sound.alone place (shown_running c (queue_of s.parts.queue) r) (runs_at queue_of c s place r h)).not_waiting waits (sym same)

  pub nameless : HoldsNone s.parts.names v.job
  nameless = kept.fit.unnamed v.job at_none
