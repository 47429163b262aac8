-- A record of an image is put into the next record of a store.
use Rattle.std.proofs.Common.{◌≡◌, ◌≢◌, ◌⊎◌, ℕ, ◌+◌, ◌<◌, ◌≤◌, ◌==◌, ◌||◌, Bool, true, false, cond, List, [], ◌∷◌, ◌++◌, ◌*◌, ◌-◌, zero, suc, inl, length, replicate, Some, arith, inr, refl, sym, ap, ◌∙◌, subst}
use Rattle.std.specs.List.{list_any}
use Rattle.std.proofs.lemmas.Bool.{cases_eq, or_parts}
use Rattle.plain.specs.Lists.{numbers_from}
use Rattle.cb_meaning.specs.declared.layout.TheConstants.{LAYOUT_1}
use Rattle.cb_meaning.specs.Fields.{byte_at, field, is_in, number_at, number_of}
use Rattle.cb_records.specs.Writes.{ChangesOnly}
use Rattle.cb_records.proofs.Kept.{part_stays}
use Rattle.cb_queue.specs.RecordQueues.{HasOwnLink, RecordQueue, empty_queue, first_numbers, record_at, unlinked, with_record_at}
use Rattle.cb_queue.proofs.Changing.{sound_empty}
use Rattle.cb_queue.proofs.Parts.{only}
use Rattle.cb_chain.specs.Taking.{TakesIf}
use Rattle.cb_chain.proofs.Among.{not_cons}
use Rattle.cb_chain.proofs.Stored.{at_other, at_there, put_free, put_layout, put_size}
use Rattle.queue_images.specs.Images.{records_in}
use Rattle.queue_images.specs.Loading.{IsLoaded, IsLoadedAt, IsLoadedTo, IsRecordOf, LoadsNext, StandsFor, shown_owner}

-- a record with another owner, and with a link of zeros, stands for the one of the image
pub stands : (bytes rec : List ℕ) → length bytes ≡ 176 → number_at rec (field 2 2) ≡ shown_owner (number_at bytes (field 2 2)) →
    ChangesOnly (field 2 2) bytes rec → (number_at bytes (field 2 2) ≢ 0 → rec ≡ bytes) → StandsFor bytes (unlinked LAYOUT_1 rec)
stands bytes rec size owner change owned =
    let long : length rec ≡ 176 = change.size ∙ size in
    let linked : ChangesOnly LAYOUT_1.link rec (unlinked LAYOUT_1 rec) =
    only LAYOUT_1.link rec (replicate 2 0) (omega (arith, long)) refl in
    record {
      bytes = record {
        size = linked.size ∙ change.size;
        bytes = λ k out.
            let parts = or_parts (is_in (field 2 2) k) (is_in LAYOUT_1.link k || false) out in
            let link = or_parts (is_in LAYOUT_1.link k) false parts.1 in
            linked.others k link.0 ∙ change.others k parts.0;
      };
      owner = ap number_of (part_stays LAYOUT_1.link (field 2 2) rec (unlinked LAYOUT_1 rec) linked (inr (omega arith))) ∙ owner;
      owned = λ some. record {
        size = linked.size ∙ change.size;
        bytes = λ k out. linked.others k (or_parts (is_in LAYOUT_1.link k) false out).0 ∙ ap (λ r. byte_at r k) (owned some);
      };
    }

pub loaded : (bytes rec : List ℕ) (owner n : ℕ) (old mid new : RecordQueue) → StandsFor bytes (unlinked LAYOUT_1 rec) → old.layout ≡ LAYOUT_1 →
    length old.records ≡ old.layout.most_records → TakesIf owner true old mid n → new ≡ with_record_at mid n (Some (unlinked mid.layout rec)) →
    (m : ℕ) (rest : List ℕ) → old.free ≡ m ∷ rest → IsLoadedAt m rest bytes old new
loaded bytes rec owner n old mid new stands_for layout size takes put m rest free =
    let took = takes.took in
    let parts : m ∷ rest ≡ n ∷ mid.free = sym free ∙ took.free in
    let number : m ≡ n = cc in
    let left : mid.free ≡ rest = cc in
    let its : List ℕ = unlinked LAYOUT_1 rec in
    let made : new ≡ with_record_at mid n (Some its) = put ∙ ap (λ l. with_record_at mid n (Some (unlinked l rec))) (took.layout ∙ layout) in
    record {
      layout = ap (λ (q : RecordQueue). q.layout) made ∙ put_layout mid n (Some its) ∙ took.layout;
      size = ap (λ (q : RecordQueue). length q.records) made ∙ put_size mid n (Some its) ∙ took.size;
      free = ap (λ (q : RecordQueue). q.free) made ∙ put_free mid n (Some its) ∙ left;
      its = its;
      there = ap (λ q. record_at q m) made ∙ ap (record_at (with_record_at mid n (Some its))) number
          ∙ at_there mid n (Some its) takes.is_held.from_one (omega (arith, takes.most, size, took.size));
      stands = stands_for;
      others = λ k apart. ap (λ q. record_at q k) made ∙ at_other mid n k (Some its) (λ e. apart (e ∙ sym number))
          ∙ took.others k (not_cons k n [] (λ e. apart (e ∙ sym number)) refl);
    }

numbers_are : (count : ℕ) → first_numbers count ≡ numbers_from 1 count
unfolding first_numbers
numbers_are count = refl

pub next_number : (n count : ℕ) → 0 < count → numbers_from n count ≡ n ∷ numbers_from (n + 1) (count - 1)
next_number n zero h = absurd (omega (arith, h))
next_number n (suc count) h = ap (λ k. n ∷ numbers_from (n + 1) k) (let less : count ≡ suc count - 1 = omega arith in less)

numbers_long : (n count : ℕ) → length (numbers_from n count) ≡ count
numbers_long n zero = refl
numbers_long n (suc count) = ap suc (numbers_long (n + 1) count)

-- the records of an empty queue
pub all_free : (q : RecordQueue) → q ≡ empty_queue LAYOUT_1 → length q.free ≡ LAYOUT_1.most_records
all_free q empty =
    ap (λ (x : RecordQueue). length x.free) empty ∙ ap length (numbers_are LAYOUT_1.most_records) ∙ numbers_long 1 LAYOUT_1.most_records

pub first_loaded : (image : List ℕ) (q : RecordQueue) → q ≡ empty_queue LAYOUT_1 → HasOwnLink LAYOUT_1 → IsLoadedTo image 0 q
first_loaded image q empty own = record {
  layout = ap (λ (x : RecordQueue). x.layout) empty;
  size = ap (λ (x : RecordQueue). length x.records) empty ∙ (sound_empty LAYOUT_1 own).size;
  free = ap (λ (x : RecordQueue). x.free) empty ∙ numbers_are LAYOUT_1.most_records;
  records = λ n low high. absurd (omega (arith, low, high));
}

pub loaded_more : (image bytes : List ℕ) (k : ℕ) (old new : RecordQueue) → k < LAYOUT_1.most_records → IsLoadedTo image k old →
    bytes ≡ (records_in image).at (k + 1) → LoadsNext bytes old new → IsLoadedTo image (k + 1) new
loaded_more image bytes k old new h so_far are loads =
    let some : 0 < LAYOUT_1.most_records - k = omega (arith, h) in
    let rest : List ℕ = numbers_from (k + 1 + 1) (LAYOUT_1.most_records - k - 1) in
    let next = loads (k + 1) rest (so_far.free ∙ next_number (k + 1) (LAYOUT_1.most_records - k) some) in
    let left : LAYOUT_1.most_records - k - 1 ≡ LAYOUT_1.most_records - (k + 1) = omega (arith, h) in
    record {
      layout = next.layout ∙ so_far.layout;
      size = next.size ∙ so_far.size;
      free = next.free ∙ ap (numbers_from (k + 1 + 1)) left;
      records = λ n low high. by n low high (cases_eq n (k + 1)) next;
    }
  where
    by : (n : ℕ) → 1 ≤ n → n ≤ k + 1 → (n ≡ k + 1) ⊎ (n ≢ k + 1) →
        IsLoadedAt (k + 1) (numbers_from (k + 1 + 1) (LAYOUT_1.most_records - k - 1)) bytes old new → IsRecordOf image new n
    by n low high (inl is) next = record {
      its = next.its;
      there = ap (record_at new) is ∙ next.there;
      stands = subst (λ bs. StandsFor bs next.its) (are ∙ sym (ap (records_in image).at is)) next.stands;
    }
    by n low high (inr other) next =
        let before = so_far.records n low (omega (arith, high, other)) in
        record { its = before.its; there = next.others n other ∙ before.there; stands = before.stands }

pub all_loaded : (image : List ℕ) (k : ℕ) (q : RecordQueue) → k ≡ LAYOUT_1.most_records → IsLoadedTo image k q → IsLoaded image q
all_loaded image k q all so_far =
    let none : LAYOUT_1.most_records - k ≡ 0 = omega (arith, all) in
    record {
      layout = so_far.layout;
      size = so_far.size;
      free = so_far.free ∙ ap (numbers_from (k + 1)) none;
      records = λ n low high. so_far.records n low (omega (arith, high, all));
    }
