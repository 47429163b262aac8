-- A queue in which jobs wait is one of a start.
use Rattle.std.proofs.Common.{◌≡◌, ◌≢◌, ◌≤◌, ◌<◌, ◌+◌, ◌||◌, ℕ, zero, suc, Bool, true, false, List, [], ◌∷◌, ◌++◌, ◌==◌, All, IfSome, Option, Some, None, is_none, if◌then◌else◌, length, get_or, map, replicate, slice_index_or, take, refl, sym, ap, ◌∙◌, subst, arith}
use Rattle.std.specs.List.{list_any}
use Rattle.std.proofs.lemmas.List.{take_more}
use Rattle.std.proofs.lemmas.List.Elements.{All-cons, All-head, All-map, All-nil, All-tail}
use Rattle.cb_meaning.specs.declared.layout.Layout.{Layout}
use Rattle.cb_meaning.specs.declared.layout.TheConstants.{RECORD_BYTES}
use Rattle.cb_meaning.specs.Fields.{field, number_at}
use Rattle.cb_meaning.specs.Spelled.{jct}
use Rattle.cb_meaning.specs.Walks.{is_free, kind_of, owner_of}
use Rattle.cb_queue.specs.RecordQueues as queue
use Rattle.cb_queue.specs.RecordQueues.{IsInUse, IsSoundQueue, RecordQueue, bytes_or_zeros, empty_queue, no_records, owner_at, owner_in, record_at, shown}
use Rattle.config_core.specs.Configs.{Configuration}
use Rattle.config_core.specs.Starts.{WaitAtStart, start_of, start_with}
use Rattle.queue_core.specs.declared.queue.Queued.{Queued}
use Rattle.queued_job.specs.Listed.{waiting_in}
use Rattle.queued_job.specs.Opening.{CanBegin}
use Rattle.queued_job.specs.declared.backlog.Listing.{Listing}
use Rattle.world_meaning.specs.Starts.{AreInOrder, AreOfWaiting, IsQueued, IsStart}
use Rattle.world_meaning.specs.Worlds.{Config, Waiting}
use Rattle.sched_core.specs.Starting.{AreRising, IsOpened, IsStarted, no_lines, start_in, waiting_at_start}
use Rattle.sched_core.specs.Systems.{Machine}
use Rattle.sched_core.specs.declared.start.TheConstants.{FIRST_DAY}

-- the numbers of the jobs that wait rise
pub rising : (xs : List Queued) → queue.AreInOrder xs → AreRising (map (λ x. x.job) xs)
rising [] order = tt
rising (x ∷ xs) order = (All-map (λ m. x.job < m) (λ (y : Queued). y.job) xs order.0, rising xs order.1)

later : (n : ℕ) (ns : List ℕ) (k : ℕ) → All (λ m. n < m) ns → k < length ns → n < get_or ns k 0
later n [] k h there = absurd (omega (arith, there))
later n (m ∷ ns) zero h there = All-head (λ x. n < x) m ns h
later n (m ∷ ns) (suc k) h there = later n ns k (All-tail (λ x. n < x) m ns h) (omega (arith, there))

-- those before one of rising numbers are less
pub less_before : (ns : List ℕ) (k : ℕ) → AreRising ns → k < length ns → All (λ (x : Listing). x.job < get_or ns k 0) (map no_lines (take k ns))
less_before [] k h there = absurd (omega (arith, there))
less_before (n ∷ ns) zero h there = All-nil _
less_before (n ∷ ns) (suc k) h there =
    All-cons (λ (x : Listing). x.job < get_or ns k 0) (no_lines n) (map no_lines (take k ns)) (later n ns k h.0 (omega (arith, there)))
    (less_before ns k h.1 (omega (arith, there)))

map_more : (f : ℕ → Listing) (xs : List ℕ) (y : ℕ) → map f (xs ++ y ∷ []) ≡ map f xs ++ f y ∷ []
map_more f [] y = refl
map_more f (x ∷ xs) y = ap (λ ls. f x ∷ ls) (map_more f xs y)

pub one_listed : (ns : List ℕ) (k : ℕ) → k < length ns → map no_lines (take (k + 1) ns) ≡ map no_lines (take k ns) ++ no_lines (get_or ns k 0) ∷ []
one_listed ns k there = ap (map no_lines) (take_more ns k 0 there) ∙ map_more no_lines (take k ns) (get_or ns k 0)

-- each waits with its listing, which has no line yet
pub all_listed : (xs : List Queued) → waiting_in xs (map no_lines (map (λ x. x.job) xs)) ≡ map waiting_at_start xs
all_listed [] = refl
all_listed (x ∷ xs) = ap (λ ws. waiting_at_start x ∷ ws) (all_listed xs)

pub jobs_listed : (xs : List Queued) → map (λ (l : Listing). l.job) (map no_lines (map (λ x. x.job) xs)) ≡ map (λ (x : Queued). x.job) xs
jobs_listed [] = refl
jobs_listed (x ∷ xs) = ap (λ ns. x.job ∷ ns) (jobs_listed xs)

any_shown : (n : ℕ) (xs : List Queued) → list_any (λ (w : Waiting). w.job == n) (map waiting_at_start xs) ≡ list_any (λ (x : Queued). x.job == n) xs
any_shown n [] = refl
any_shown n (x ∷ xs) = ap (λ b. x.job == n || b) (any_shown n xs)

owner_seen : (o : Option (List ℕ)) → number_at (bytes_or_zeros o) (field 2 2) ≡ owner_in o
owner_seen None = refl
owner_seen (Some r) = refl

there_is : (o : Option (List ℕ)) → is_none o ≡ false → (r : List ℕ) × (o ≡ Some r)
there_is None h = absurd cc
there_is (Some r) h = (r, refl)

owned_is : (o : Option (List ℕ)) → owner_in o ≢ 0 → is_none o ≡ false
owned_is None h = absurd (h refl)
owned_is (Some r) h = refl

within : (rs : List (Option (List ℕ))) (n : ℕ) → owner_in (slice_index_or rs n None) ≢ 0 → n < length rs
within [] zero h = absurd (h refl)
within [] (suc n) h = absurd (h refl)
within (r ∷ rs) zero h = omega arith
within (r ∷ rs) (suc n) h = let less = within rs n h in omega (arith, less)

module _ (q : RecordQueue) (last : ℕ) (sound : IsSoundQueue q) (can : CanBegin q last) where
  in_range : (n : ℕ) → owner_at q n ≢ 0 → (1 ≤ n) × (n ≤ q.layout.most_records)
  in_range zero h = absurd (h refl)
  in_range (suc n) h = let less = within q.records n h in (omega arith, omega (arith, less, sound.size))

  seen : (n : ℕ) → is_free (shown q) n ≡ false → owner_of (shown q) n ≡ owner_at q n
  seen n used = ap (λ b. if b then 0 else number_at (bytes_or_zeros (record_at q n)) (field 2 2)) used ∙ owner_seen (record_at q n)

  size_by : (o : Option (List ℕ)) → IfSome o (IsInUse q.layout) → length (bytes_or_zeros o) ≡ RECORD_BYTES
  size_by None h = refl
  size_by (Some r) h = h.size

  owner_by : (o : Option (List ℕ)) → is_none o ≡ false → IfSome o (IsInUse q.layout) → owner_in o ≢ 0
  owner_by None h used = absurd cc
  owner_by (Some r) h used = used.owner

  used_is : (n : ℕ) → 1 ≤ n → n ≤ q.layout.most_records → is_free (shown q) n ≡ false → owner_at q n ≢ 0
  used_is n from to used = owner_by (record_at q n) (sym (sound.free n from to) ∙ used) (sound.in_use n)

  module _ (c : Config) (same : c.layout ≡ q.layout) where
    as_many : c.layout.most_records ≡ q.layout.most_records
    as_many = ap (λ (l : Layout). l.most_records) same

    of_waiting : AreOfWaiting c (shown q) (map waiting_at_start q.waiting)
    of_waiting = record {
      once = sound.once;
      within = subst (λ most. All (λ n. (1 ≤ n) × (n ≤ most)) q.free) (sym as_many) sound.within;
      sizes = λ n used. size_by (record_at q n) (sound.in_use n);
      owned = λ n from to used.
          ap (λ m. list_any (λ (w : Waiting). w.job == m) (map waiting_at_start q.waiting)) (seen n used)
          ∙ any_shown (owner_at q n) q.waiting
          ∙ can.owned n (used_is n from (omega (arith, to, as_many)) used);
    }

    one_queued : (x : Queued) → queue.IsQueued q x → kind_of (shown q) x.jct ≡ jct → IsQueued c (shown q) (waiting_at_start x)
    one_queued x is kind =
        let owned : owner_at q x.jct ≢ 0 = λ e. is.job (sym is.owner ∙ e) in
        let here = in_range x.jct owned in
        let used = sound.free x.jct here.0 here.1 ∙ owned_is (record_at q x.jct) owned in
        record {
          within = (here.0, omega (arith, here.1, as_many));
          used = used;
          kind = kind;
          owner = seen x.jct used ∙ is.owner;
        }

    all_queued : (xs : List Queued) → All (queue.IsQueued q) xs → All (λ x. kind_of (shown q) x.jct ≡ jct) xs →
        All (IsQueued c (shown q)) (map waiting_at_start xs)
    all_queued [] are kinds = All-nil _
    all_queued (x ∷ xs) are kinds =
        All-cons (IsQueued c (shown q)) (waiting_at_start x) (map waiting_at_start xs)
        (one_queued x (All-head (queue.IsQueued q) x xs are) (All-head (λ (y : Queued). kind_of (shown q) y.jct ≡ jct) x xs kinds))
        (all_queued xs (All-tail (queue.IsQueued q) x xs are) (All-tail (λ (y : Queued). kind_of (shown q) y.jct ≡ jct) x xs kinds))

    first_later : (xs : List Queued) → All (queue.IsQueued q) xs → All (λ (x : Queued). 0 < x.job) xs
    first_later [] are = All-nil _
    first_later (x ∷ xs) are =
        let job = (All-head (queue.IsQueued q) x xs are).job in
        All-cons (λ (y : Queued). 0 < y.job) x xs (omega (arith, job)) (first_later xs (All-tail (queue.IsQueued q) x xs are))

    in_order : (n : ℕ) (xs : List Queued) → queue.AreInOrder xs → All (λ (x : Queued). n < x.job) xs → AreInOrder n (map waiting_at_start xs)
    in_order n [] order later = tt
    in_order n (x ∷ xs) order later = (All-head (λ (y : Queued). n < y.job) x xs later, in_order x.job xs order.1 order.0)

    pub waits : WaitAtStart c (shown q) (map waiting_at_start q.waiting) last
    waits = record {
      records = of_waiting;
      queued = all_queued q.waiting sound.queued can.kinds;
      in_order = in_order 0 q.waiting sound.in_order (first_later q.waiting sound.queued);
      numbered = All-map (λ (w : Waiting). w.job ≤ last) waiting_at_start q.waiting can.numbered;
    }

-- a queue of which no record is in use
none_at : (count n : ℕ) → (let rs : List (Option (List ℕ)) = replicate count None in slice_index_or rs n None) ≡ None
none_at zero n = refl
none_at (suc count) zero = refl
none_at (suc count) (suc n) = none_at count n

no_record : (l : Layout) (n : ℕ) → record_at (empty_queue l) n ≡ None
unfolding no_records
no_record l zero = refl
no_record l (suc n) = none_at l.most_records n

pub empty_can : (q : RecordQueue) → q ≡ empty_queue q.layout → CanBegin q 0
empty_can q empty = record {
  owned = λ n some. absurd (some (ap (λ x. owner_at x n) empty ∙ ap owner_in (no_record q.layout n)));
  kinds = subst (All (λ (x : Queued). kind_of (shown q) x.jct ≡ jct)) (sym nobody) (All-nil _);
  numbered = subst (All (λ (x : Queued). x.job ≤ 0)) (sym nobody) (All-nil _);
}
  where
    nobody : q.waiting ≡ []
    nobody = ap (λ (x : RecordQueue). x.waiting) empty

-- the start with it
module _ (c : Configuration) (refuses : Bool) (views : ℕ) (explains : Bool) (q : RecordQueue) (empty : q ≡ empty_queue q.layout) where
  same_start : start_in c refuses views explains q 0 ≡ start_of c refuses views explains q.layout FIRST_DAY
  same_start = ap (λ x. start_with c refuses views explains q.layout FIRST_DAY (shown x) (map waiting_at_start x.waiting) 0) empty

  pub begun : (m : Machine) → IsOpened c refuses views explains q 0 m → IsStarted c refuses views explains q.layout m
  begun m h = record {
    is_start = subst IsStart same_start h.is_start;
    world = h.world ∙ same_start;
    unit_names = h.unit_names;
    library = h.library;
    volumes = h.volumes;
  }
