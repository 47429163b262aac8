-- The jobs that wait, as the queue and the listings have them.
use Rattle.std.proofs.Common.{◌≡◌, ◌<◌, ℕ, zero, suc, ◌==◌, Bool, true, false, cond, not, List, [], ◌∷◌, ◌++◌, map, arith, ap, ◌∙◌, sym, refl}
use Rattle.std.specs.Prelude.{All}
use Rattle.std.specs.List.{Contains}
use Rattle.std.proofs.lemmas.List.Elements.{All-contains, All-map, All-same}
use Rattle.queue_core.specs.declared.queue.Queued.{Queued}
use Rattle.queue_core.proofs.Numbered.{all_read}
use Rattle.cb_queue.specs.RecordQueues.{AreInOrder}
use Rattle.world_meaning.specs.Worlds.{Waiting, without_waiting}
use Rattle.queued_job.specs.declared.backlog.Listing.{Listing}
use Rattle.queued_job.specs.Backlogs.{IsListingOf}
use Rattle.queued_job.specs.Listed.{AreListed, but_job, but_listing, waiting_as, waiting_in}
use Rattle.queued_job.specs.Selecting.{AreQueued, queued_as}

first_same : (x y : ℕ) (xs ys : List ℕ) → x ∷ xs ≡ y ∷ ys → x ≡ y
first_same x y xs ys e = cc

rest_same : (x y : ℕ) (xs ys : List ℕ) → x ∷ xs ≡ y ∷ ys → xs ≡ ys
rest_same x y xs ys e = cc

both_same : (x y : ℕ) (xs ys : List ℕ) → x ≡ y → xs ≡ ys → x ∷ xs ≡ y ∷ ys
both_same x y xs ys e f = λ i. e i ∷ f i

abbrev jobs : List Queued → List ℕ
jobs queue = map (λ (q : Queued). q.job) queue

abbrev numbers : List Listing → List ℕ
numbers backlog = map (λ (l : Listing). l.job) backlog

pub queued : (queue : List Queued) (backlog : List Listing) → AreListed queue backlog → AreQueued (waiting_in queue backlog) queue
queued [] backlog e = refl
queued (q ∷ queue) [] e = cc
queued (q ∷ queue) (l ∷ backlog) e = ap (λ xs. q ∷ xs) (queued queue backlog (rest_same q.job l.job (jobs queue) (numbers backlog) e))

pub last : (queue : List Queued) (backlog : List Listing) (q : Queued) (l : Listing) → AreListed queue backlog → q.job ≡ l.job →
    AreListed (queue ++ q ∷ []) (backlog ++ l ∷ []) × (waiting_in (queue ++ q ∷ []) (backlog ++ l ∷ []) ≡ waiting_in queue backlog ++ waiting_as q l ∷ [])
last [] [] q l e same = (ap (λ n. n ∷ []) same, refl)
last [] (m ∷ backlog) q l e same = cc
last (p ∷ queue) [] q l e same = cc
last (p ∷ queue) (m ∷ backlog) q l e same =
    let rest = last queue backlog q l (rest_same p.job m.job (jobs queue) (numbers backlog) e) same in (
      both_same p.job m.job (jobs (queue ++ q ∷ [])) (numbers (backlog ++ l ∷ [])) (first_same p.job m.job (jobs queue) (numbers backlog) e) rest.0,
      ap (λ ws. waiting_as p m ∷ ws) rest.1,
    )

module _ (q : Queued) (left : List Queued) (l : Listing) (listed : List Listing) (waiting : List Waiting) (head : q.job ≡ l.job) where
  -- what is left behind a job, by whether it stays
  kept : (a b : Bool) → a ≡ b → AreListed left listed × (waiting_in left listed ≡ waiting) →
      AreListed (cond a (q ∷ left) left) (cond b (l ∷ listed) listed)
      × (waiting_in (cond a (q ∷ left) left) (cond b (l ∷ listed) listed) ≡ cond a (waiting_as q l ∷ waiting) waiting)
  kept true true same rest = (both_same q.job l.job (jobs left) (numbers listed) head rest.0, ap (λ ws. waiting_as q l ∷ ws) rest.1)
  kept true false same rest = cc
  kept false true same rest = cc
  kept false false same rest = rest

pub others : (queue : List Queued) (backlog : List Listing) (job : ℕ) → AreListed queue backlog →
    AreListed (but_job job queue) (but_listing job backlog) × (waiting_in (but_job job queue) (but_listing job backlog) ≡ without_waiting (waiting_in queue backlog) job)
others [] [] job e = (refl, refl)
others [] (m ∷ backlog) job e = cc
others (q ∷ queue) [] job e = cc
others (q ∷ queue) (l ∷ backlog) job e =
    let head = first_same q.job l.job (jobs queue) (numbers backlog) e in
    kept q (but_job job queue) l (but_listing job backlog) (without_waiting (waiting_in queue backlog) job) head (not (q.job == job)) (not (l.job == job))
    (ap (λ n. not (n == job)) head) (others queue backlog job (rest_same q.job l.job (jobs queue) (numbers backlog) e))

-- all that wait behind a job have higher numbers
all_listed : (n : ℕ) (queue : List Queued) (backlog : List Listing) → AreListed queue backlog → All (λ y. n < y.job) queue → All (λ l. n < l.job) backlog
all_listed n queue backlog e h =
    all_read (λ m. n < m) (λ (l : Listing). l.job) backlog (All-same (λ m. n < m) (numbers backlog) (jobs queue) (sym e) (All-map (λ m. n < m) (λ (q : Queued). q.job) queue h))

all_waiting : (n : ℕ) (queue : List Queued) (backlog : List Listing) → AreListed queue backlog → All (λ y. n < y.job) queue → All (λ w. n < w.job) (waiting_in queue backlog)
all_waiting n queue backlog e h =
    all_read (λ q. n < q.job) queued_as (waiting_in queue backlog) (All-same (λ q. n < q.job) (map queued_as (waiting_in queue backlog)) queue (queued queue backlog e) h)

above_itself : (n m : ℕ) → n ≡ m → n < m → ⊥
above_itself n m e h = omega arith

pub one_listing : (queue : List Queued) (backlog : List Listing) (w : Waiting) (l : Listing) → AreInOrder queue → AreListed queue backlog →
    Contains (waiting_in queue backlog) w → IsListingOf backlog w.job l → w.listing ≡ l.lines
one_listing [] backlog w l o e c d = absurd (omega (arith, c.1))
one_listing (q ∷ queue) [] w l o e c d = absurd (omega (arith, c.1))
one_listing (q ∷ queue) (m ∷ backlog) w l o e (zero, within, is) ((zero, inside, that), same) =
    sym (ap (λ (x : Waiting). x.listing) is) ∙ ap (λ (x : Listing). x.lines) that
one_listing (q ∷ queue) (m ∷ backlog) w l o e (zero, within, is) ((suc k, inside, that), same) =
    let tail = rest_same q.job m.job (jobs queue) (numbers backlog) e in
    let behind : q.job < l.job = All-contains (λ x. q.job < x.job) backlog l (all_listed q.job queue backlog tail o.0) (k, omega (arith, inside), that) in
    absurd (above_itself q.job l.job (ap (λ (x : Waiting). x.job) is ∙ sym same) behind)
one_listing (q ∷ queue) (m ∷ backlog) w l o e (suc k, within, is) ((zero, inside, that), same) =
    let tail = rest_same q.job m.job (jobs queue) (numbers backlog) e in
    let head = first_same q.job m.job (jobs queue) (numbers backlog) e in
    let behind : q.job < w.job = All-contains (λ x. q.job < x.job) (waiting_in queue backlog) w (all_waiting q.job queue backlog tail o.0) (k, omega (arith, within), is) in
    absurd (above_itself q.job w.job (head ∙ ap (λ (x : Listing). x.job) that ∙ same) behind)
one_listing (q ∷ queue) (m ∷ backlog) w l o e (suc j, within, is) ((suc k, inside, that), same) =
    one_listing queue backlog w l o.1 (rest_same q.job m.job (jobs queue) (numbers backlog) e) (j, omega (arith, within), is) ((k, omega (arith, inside), that), same)
