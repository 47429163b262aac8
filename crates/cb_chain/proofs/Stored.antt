-- Records of a queue, one of which is written.
use Rattle.std.proofs.Common.{◌≡◌, ◌≢◌, ℕ, zero, suc, ◌≤◌, true, List, [], ◌∷◌, ◌++◌, length, None, Some, Option, arith, ap, ◌∙◌, sym, refl, subst}
use Rattle.std.specs.Prelude.{All, slice_get}
use Rattle.std.proofs.lemmas.List.{get_or-set_other, get_or-set_same, length-set}
use Rattle.std.proofs.lemmas.List.Elements.{All-head, All-same}
use Rattle.cb_queue.specs.RecordQueues.{RecordQueue, first_taken, next_free, record_at, taken, with_record_at, zero_record}
use Rattle.cb_chain.specs.Taking.{IsReady, TakesIf, Took}
use Rattle.cb_chain.specs.Written.{HoldsJobs}
use Rattle.cb_chain.proofs.Among.{all_right, different_head, different_right, not_head}
use Rattle.plain.specs.Lists.{are_different}

pub at_there : (q : RecordQueue) (n : ℕ) (r : Option (List ℕ)) → 1 ≤ n → n ≤ length q.records → record_at (with_record_at q n r) n ≡ r
at_there q zero r low high = absurd (omega (arith, low))
at_there q (suc n) r low high = get_or-set_same q.records n r None (omega (arith, high))

pub at_other : (q : RecordQueue) (n m : ℕ) (r : Option (List ℕ)) → m ≢ n → record_at (with_record_at q n r) m ≡ record_at q m
at_other q zero m r other = refl
at_other q (suc n) zero r other = refl
at_other q (suc n) (suc m) r other = get_or-set_other q.records n m r None (λ e. other (ap suc e))

pub put_layout : (q : RecordQueue) (n : ℕ) (r : Option (List ℕ)) → (with_record_at q n r).layout ≡ q.layout
put_layout q zero r = refl
put_layout q (suc n) r = refl

pub put_free : (q : RecordQueue) (n : ℕ) (r : Option (List ℕ)) → (with_record_at q n r).free ≡ q.free
put_free q zero r = refl
put_free q (suc n) r = refl

pub put_waiting : (q : RecordQueue) (n : ℕ) (r : Option (List ℕ)) → (with_record_at q n r).waiting ≡ q.waiting
put_waiting q zero r = refl
put_waiting q (suc n) r = refl

pub put_size : (q : RecordQueue) (n : ℕ) (r : Option (List ℕ)) → length (with_record_at q n r).records ≡ length q.records
put_size q zero r = refl
put_size q (suc n) r = length-set q.records n r

-- what the records are, whatever is free
pub same_records : (a b : RecordQueue) (n : ℕ) → a.records ≡ b.records → record_at a n ≡ record_at b n
same_records a b zero e = refl
same_records a b (suc n) e = ap (λ (rs : List (Option (List ℕ))). record_at (record a { records = rs }) (suc n)) e

-- the next free record is taken
first_takes : (q : RecordQueue) (job n : ℕ) (rest : List ℕ) → q.free ≡ n ∷ rest → IsReady q → TakesIf job true q (first_taken q job (n ∷ rest)) n
first_takes q job n rest is ready =
    let P : ℕ → Type 0 = λ m. (1 ≤ m) × (m ≤ q.layout.most_records) in
    let number = All-head P n rest (All-same P (n ∷ rest) q.free (sym is) ready.within) in
    let put = with_record_at q n (Some (zero_record job)) in
    let new = first_taken q job (n ∷ rest) in
    let room : n ≤ length q.records = (let size = ready.size in let high = number.1 in omega (arith, size, high)) in
    record {
      took = record {
        layout = put_layout q n (Some (zero_record job));
        waiting = put_waiting q n (Some (zero_record job));
        size = put_size q n (Some (zero_record job));
        free = is;
        others = λ m out. same_records new put m refl ∙ at_other q n m (Some (zero_record job)) (not_head m n [] out);
      };
      is_held = record {
        zeros = same_records new put n refl ∙ at_there q n (Some (zero_record job)) number.0 room;
        in_use = different_head n rest (sym (ap are_different is) ∙ ready.once);
        from_one = number.0;
        within = subst (λ l. n ≤ l) (sym (ap (λ l. l.most_records) (put_layout q n (Some (zero_record job))))) number.1;
      };
      most = number.1;
    }

pub takes : (q : RecordQueue) (job n : ℕ) → IsReady q → Some n ≡ next_free q → TakesIf job true q (taken q job) n
takes q job n ready e = by q.free refl e
  where
    by : (free : List ℕ) → q.free ≡ free → Some n ≡ slice_get free 0 → TakesIf job true q (first_taken q job free) n
    by [] is none = cc
    by (m ∷ rest) is some =
        let same : n ≡ m = cc in subst (λ k. TakesIf job true q (first_taken q job (m ∷ rest)) k) (sym same) (first_takes q job m rest is ready)

-- once records were taken the queue is as ready
pub ready_after : (numbers : List ℕ) (old new : RecordQueue) → IsReady old → Took numbers old new → IsReady new
ready_after numbers old new ready took =
    let most : new.layout.most_records ≡ old.layout.most_records = ap (λ l. l.most_records) took.layout in
    record {
      holds = subst HoldsJobs (sym took.layout) ready.holds;
      size = took.size ∙ ready.size ∙ sym most;
      once = different_right numbers new.free (sym (ap are_different took.free) ∙ ready.once);
      within = subst (λ m. All (λ n. (1 ≤ n) × (n ≤ m)) new.free) (sym most)
          (all_right (λ n. (1 ≤ n) × (n ≤ old.layout.most_records)) numbers new.free
          (All-same (λ n. (1 ≤ n) × (n ≤ old.layout.most_records)) (numbers ++ new.free) old.free (sym took.free) ready.within));
    }
