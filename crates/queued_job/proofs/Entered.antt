-- A job that enters the queue.
use Rattle.std.proofs.Common.{◌≡◌, ◌≢◌, ℕ, zero, suc, ◌-◌, ◌≤◌, ◌==◌, true, false, List, [], ◌∷◌, ◌++◌, get_or, length, length-take-le, take, Option, None, Some, arith, ap, ◌∙◌, refl, sym, subst}
use Rattle.std.specs.Prelude.{All, IfSome, slice_get, slice_set}
use Rattle.std.specs.List.{list_any}
use Rattle.std.proofs.lemmas.List.{take-append-drop}
use Rattle.std.proofs.lemmas.List.Elements.{All-head, All-same, All-weaker}
use Rattle.std.proofs.lemmas.Option.{same_Some}
use Rattle.cb_meaning.specs.declared.layout.Layout.{Layout}
use Rattle.cb_meaning.specs.Needs.{IsPacked, records_needed}
use Rattle.cb_meaning.specs.Spelled.{Denotes}
use Rattle.cb_meaning.specs.Walks.{is_free}
use Rattle.cb_meaning.specs.Writable.{IsWritable}
use Rattle.cb_queue.specs.RecordQueues.{IsInUse, IsQueued, IsSoundQueue, RecordQueue, bytes_or_zeros, first_taken, given_back, next_free, owner_at, owner_in, record_at, shown, taken, zero_record}
use Rattle.cb_queue.proofs.Changing.{first_free}
use Rattle.cb_queue.proofs.Parts.{owner_zero}
use Rattle.cb_chain.specs.Taking.{IsReady, IsTaken, TakesIf}
use Rattle.cb_chain.specs.Written.{IsFresh, Written}
use Rattle.cb_chain.proofs.Among.{not_left}
use Rattle.cb_chain.proofs.Classes.{class_within}
use Rattle.cb_chain.proofs.Stored.{same_records}
use Rattle.queue_core.specs.declared.queue.Queued.{Queued}
use Rattle.jcl_plan.specs.declared.plan.JobPlan.{JobPlan}
use Rattle.world_meaning.specs.Readings.{IsWritten}
use Rattle.world_meaning.specs.Records.{AgreeBut, open_fields}
use Rattle.world_meaning.specs.Worlds.{Config}
use Rattle.queued_job.specs.Entering.{Enters, queued_of, with_queued}
use Rattle.queued_job.proofs.Owned.{agrees}

at_front : (k : ℕ) (xs : List ℕ) (a b : ℕ) → 1 ≤ k → slice_get xs 0 ≡ Some a → slice_get (take k xs) 0 ≡ Some b → a ≡ b
at_front zero xs a b some there here = absurd (omega (arith, some))
at_front (suc k) [] a b some there here = cc
at_front (suc k) (x ∷ xs) a b some there here = sym (same_Some x a there) ∙ same_Some x b here

-- the records of a job that waits already are written
module _ (job : ℕ) (plan : JobPlan) (old : RecordQueue) (first : ℕ) (number : ℕ) (next : next_free old ≡ Some number) (room : records_needed plan ≤ length old.free)
    (new : RecordQueue) (w : Written job plan (with_queued old (queued_of job plan number)) new first) where
  abbrev numbers : List ℕ
  numbers = take (records_needed plan) old.free

  all_free : old.free ≡ numbers ++ new.free
  all_free = sym (take-append-drop (records_needed plan) old.free) ∙ ap (λ xs. numbers ++ xs) (sym w.free)

  others : (l : Layout) (n : ℕ) → is_free (shown old) n ≡ false → AgreeBut (open_fields l ((shown old).at n)) ((shown old).at n) ((shown new).at n)
  others l n used =
      agrees l ((shown old).at n) ((shown new).at n)
      (ap bytes_or_zeros (w.others n (not_left n numbers new.free (sym (ap (list_any (λ f. f == n)) all_free) ∙ used))))

  is_first : number ≡ first
  is_first = at_front (records_needed plan) old.free number first (omega arith) next w.begins

  written : (c : Config) → c.layout ≡ old.layout → IsWritable old.layout.most_steps (length c.units) plan → IsWritten c (shown old) (shown new) job plan first
  written c same writable = by numbers w.begins all_free as_many packed (w.denotes (length c.units) writable)
    where
      as_many : length numbers ≡ records_needed plan
      as_many = length-take-le (records_needed plan) old.free room

      packed : All (λ n. IsPacked c.layout ((shown new).at n)) numbers
      packed =
          subst (λ l. All (λ n. IsPacked l ((shown new).at n)) numbers) (sym same)
          (All-weaker (λ n. IsFresh old.layout ((shown new).at n)) (λ n. IsPacked old.layout ((shown new).at n)) (λ n fresh. fresh.packed) numbers w.fresh)

      by : (xs : List ℕ) → slice_get xs 0 ≡ Some first → old.free ≡ xs ++ new.free → length xs ≡ records_needed plan →
          All (λ n. IsPacked c.layout ((shown new).at n)) xs → Denotes old.layout (length c.units) (shown new) job xs plan →
          IsWritten c (shown old) (shown new) job plan first
      by [] e is many two denotes = cc
      by (n ∷ behind) e is many two denotes =
          let one : n ≡ first = same_Some n first e in
          record {
            behind = behind;
            taken = is ∙ ap (λ m. m ∷ (behind ++ new.free)) one;
            needed = many;
            packed = subst (λ m. All (λ x. IsPacked c.layout ((shown new).at x)) (m ∷ behind)) one two;
            denoted = subst (λ m. Denotes c.layout (length c.units) (shown new) job (m ∷ behind) plan) one
                (subst (λ l. Denotes l (length c.units) (shown new) job (n ∷ behind) plan) (sym same) denotes);
            others = others c.layout;
          }

  pub enters : Enters job plan old new first
  enters = record {
    room = room;
    layout = w.layout;
    waiting = w.waiting ∙ ap (λ m. old.waiting ++ queued_of job plan m ∷ []) is_first;
    written = written;
  }

-- a job waits whose first record was taken
pub takes_queued : (job : ℕ) (old new : RecordQueue) (first : ℕ) (x : Queued) → TakesIf job true old new first →
    TakesIf job true (with_queued old x) (with_queued new x) first
takes_queued job old new first x takes = record {
  took = record {
    layout = takes.took.layout;
    waiting = ap (λ waiting. waiting ++ x ∷ []) takes.took.waiting;
    size = takes.took.size;
    free = takes.took.free;
    others = λ n out. same (with_queued new x) new n refl ∙ takes.took.others n out ∙ same old (with_queued old x) n refl;
  };
  is_held = record {
    zeros = same (with_queued new x) new first refl ∙ takes.is_held.zeros;
    in_use = takes.is_held.in_use;
    from_one = takes.is_held.from_one;
    within = takes.is_held.within;
  };
  most = takes.most;
}
  where
    same : (a b : RecordQueue) (n : ℕ) → a.records ≡ b.records → record_at a n ≡ record_at b n
    same a b n is = same_records a b n is

pub ready_queued : (q : RecordQueue) (x : Queued) → IsReady q → IsReady (with_queued q x)
ready_queued q x ready = record { holds = ready.holds; size = ready.size; once = ready.once; within = ready.within }

pub queued_well : (job : ℕ) (plan : JobPlan) (q : RecordQueue) (first units most : ℕ) → job ≢ 0 → IsReady q → IsTaken job q first → IsWritable most units plan →
    IsQueued q (queued_of job plan first)
queued_well job plan q first units most some ready taken writable = record {
  job = some;
  owner = ap owner_in taken.zeros ∙ owner_zero q.layout ready.holds.own_link job;
  class = class_within most units plan writable;
  priority = writable.priority;
}

-- the record that is taken next is free, and no job's first
module _ (q : RecordQueue) (sound : IsSoundQueue q) (first : ℕ) (next : Some first ≡ next_free q) where
  starts : (rest : List ℕ) → q.free ≡ first ∷ rest → (i : ℕ) × (first ≡ suc i)
  starts rest is =
      let n = All-head (λ n. (1 ≤ n) × (n ≤ q.layout.most_records)) first rest
      (All-same (λ n. (1 ≤ n) × (n ≤ q.layout.most_records)) (first ∷ rest) q.free (sym is) sound.within) in
      (first - 1, omega (arith, n.0))

  free_is : (rest : List ℕ) × (q.free ≡ first ∷ rest)
  free_is = by q.free refl next
    where
      by : (free : List ℕ) → q.free ≡ free → Some first ≡ slice_get free 0 → (rest : List ℕ) × (q.free ≡ first ∷ rest)
      by [] is e = cc
      by (n ∷ rest) is e = let same : n ≡ first = cc in (rest, is ∙ ap (λ m. m ∷ rest) same)

  unowned : owner_at q first ≡ 0
  unowned =
      let it = starts free_is.0 free_is.1 in
      ap (owner_at q) it.1 ∙ first_free q it.0 0 free_is.0 sound (free_is.1 ∙ ap (λ m. m ∷ free_is.0) it.1)

  pub unqueued : All (λ x. x.jct ≢ first) q.waiting
  unqueued = All-weaker (IsQueued q) (λ x. x.jct ≢ first) (λ x own is. own.job (sym own.owner ∙ ap (owner_at q) is ∙ unowned)) q.waiting sound.queued

  none_there : record_at q first ≡ None
  none_there = by (record_at q first) refl (sound.in_use first)
    where
      by : (o : Option (List ℕ)) → record_at q first ≡ o → IfSome o (IsInUse q.layout) → o ≡ None
      by None is used = refl
      by (Some r) is used = absurd (used.owner (sym (ap owner_in is) ∙ unowned))

  set_back : (rs : List (Option (List ℕ))) (i : ℕ) (o : Option (List ℕ)) → get_or rs i None ≡ None → slice_set (slice_set rs i o) i None ≡ rs
  set_back [] zero o e = refl
  set_back [] (suc i) o e = refl
  set_back (x ∷ rs) zero o e = ap (λ y. y ∷ rs) (sym e)
  set_back (x ∷ rs) (suc i) o e = ap (λ ys. x ∷ ys) (set_back rs i o e)

  -- it is as before once it is taken and given back
  pub put_back : (job : ℕ) → given_back (taken q job) first ≡ q
  put_back job =
      let rest = free_is.0 in
      let it = starts rest free_is.1 in
      let i = it.0 in
      let is : q.free ≡ suc i ∷ rest = free_is.1 ∙ ap (λ m. m ∷ rest) it.1 in
      let none : get_or q.records i None ≡ None = sym (ap (record_at q) it.1) ∙ none_there in
      let back : given_back (first_taken q job (suc i ∷ rest)) (suc i) ≡ q =
      (λ j. record q { records = set_back q.records i (Some (zero_record job)) none j; free = sym is j }) in
      ap (λ free. given_back (first_taken q job free) first) is ∙ ap (λ m. given_back (first_taken q job (suc i ∷ rest)) m) it.1 ∙ back
