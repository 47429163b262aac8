-- What is read of a store into which an image was put is read of the image.
use Rattle.std.proofs.Common.{◌≡◌, ◌≢◌, ℕ, ◌+◌, ◌-◌, ◌<◌, ◌≤◌, ◌==◌, ◌||◌, Bool, true, false, cond, List, [], ◌∷◌, length, Option, None, Some, arith, refl, sym, ap, ◌∙◌, subst}
use Rattle.std.specs.Prelude.{is_some}
use Rattle.std.specs.List.{list_any}
use Rattle.std.proofs.lemmas.Bool.{eqb-true, ne_eqb, or_parts}
use Rattle.jcl_plan.specs.declared.plan.JobPlan.{JobPlan}
use Rattle.cb_meaning.specs.declared.layout.Layout.{Layout}
use Rattle.cb_meaning.specs.declared.layout.TheConstants.{LAYOUT_1}
use Rattle.cb_meaning.specs.Fields.{field, is_in, number_at}
use Rattle.cb_meaning.specs.Spelled.{Denotes, Records}
use Rattle.cb_meaning.specs.Walks.{first_fault, is_free, owner_of}
use Rattle.cb_queue.specs.RecordQueues.{IsSoundQueue, RecordQueue, bytes_or_zeros, owner_at, owner_in, record_at, shown}
use Rattle.cb_queue.proofs.Changing.{shows_owner, used_of}
use Rattle.cb_queue.proofs.Storing.{used_number}
use Rattle.world_meaning.specs.Records.{AgreeBut, IsQueueLayout, open_fields}
use Rattle.world_laws.specs.RecordsKept.{DenotesStill, KeepsRecords}
use Rattle.open_laws.specs.Reading.{AreAlikeFor, AreReadAlike, FirstFaultStays}
use Rattle.queue_images.specs.Images.{records_in}
use Rattle.queue_images.specs.Loading.{IsLoaded, IsRecordOf, StandsFor, shown_owner}

-- no job is the owner of a record that nobody owns
owner_is : (n job : ℕ) → 1 ≤ job → job ≤ 9999 → (b : Bool) → (n == 0) ≡ b → (shown_owner n == job) ≡ (n == job)
owner_is n job low high true none =
    let zero : n ≡ 0 = eqb-true n 0 none in
    ap (λ t. cond t 65535 n == job) none ∙ ne_eqb 65535 job (λ e. omega (arith, e, high)) ∙ sym (ne_eqb n job (λ e. omega (arith, e, zero, low)))
owner_is n job low high false some = ap (λ t. cond t 65535 n == job) some

owned_is : (n job : ℕ) → 1 ≤ job → job ≤ 9999 → (b : Bool) → (n == 0) ≡ b → shown_owner n ≡ job → n ≡ job
owned_is n job low high true none is =
    let other : 65535 ≡ job = sym (ap (λ t. cond t 65535 n) none) ∙ is in absurd (omega (arith, other, high))
owned_is n job low high false some is = sym (ap (λ t. cond t 65535 n) some) ∙ is

module _ (image : List ℕ) (q : RecordQueue) (loaded : IsLoaded image q) (job : ℕ) (low : 1 ≤ job) (high : job ≤ 9999) where
  none_free : (n : ℕ) → is_free (shown q) n ≡ false
  none_free n = ap (λ fs. list_any (λ f. f == n) fs) loaded.free

  alike_at : (n : ℕ) → IsRecordOf image q n → AreReadAlike LAYOUT_1 job ((records_in image).at n) ((shown q).at n)
  alike_at n of =
      let r : List ℕ = (records_in image).at n in
      let seen : bytes_or_zeros (record_at q n) ≡ of.its = ap bytes_or_zeros of.there in
      subst (AreReadAlike LAYOUT_1 job r) (sym seen) (record {
        bytes = record {
          size = of.stands.bytes.size;
          bytes = λ k out.
              let owner = or_parts (is_in (field 2 2) k) (list_any (λ f. is_in f k) (open_fields LAYOUT_1 r)) out in
              let link = or_parts (is_in LAYOUT_1.link k) _ owner.1 in
              of.stands.bytes.bytes k ((λ i. owner.0 i || (link.0 i || false)));
        };
        owner = ap (λ n. n == job) of.stands.owner ∙ owner_is (number_at r (field 2 2)) job low high (number_at r (field 2 2) == 0) refl;
      })

  pub alike : AreAlikeFor LAYOUT_1 job (records_in image) (shown q)
  alike = record {
    free = λ n from to. none_free n;
    used = λ n from to used. alike_at n (loaded.records n from to);
  }

  pub fault_same : FirstFaultStays → IsQueueLayout LAYOUT_1 → (units n : ℕ) →
      first_fault q.layout units (shown q) job n ≡ first_fault LAYOUT_1 units (records_in image) job n
  fault_same law own units n =
      ap (λ l. first_fault l units (shown q) job n) loaded.layout
      ∙ law LAYOUT_1 units job n (records_in image) (shown q) own alike

  keeps_at : (n : ℕ) → IsRecordOf image q n → owner_at q n ≡ job → AgreeBut (open_fields LAYOUT_1 ((shown q).at n)) ((shown q).at n) ((records_in image).at n)
  keeps_at n of is =
      let r : List ℕ = (records_in image).at n in
      let its : number_at of.its (field 2 2) ≡ job = sym (ap owner_in of.there) ∙ is in
      let owner : number_at r (field 2 2) ≡ job =
      owned_is (number_at r (field 2 2)) job low high (number_at r (field 2 2) == 0) refl (sym of.stands.owner ∙ its) in
      let same = of.stands.owned (λ e. omega (arith, sym owner ∙ e, low)) in
      let seen : bytes_or_zeros (record_at q n) ≡ of.its = ap bytes_or_zeros of.there in
      subst (λ s. AgreeBut (open_fields LAYOUT_1 s) s r) (sym seen) (record {
        size = sym same.size;
        bytes = λ k out. let link = or_parts (is_in LAYOUT_1.link k) _ out in sym (same.bytes k (λ i. link.0 i || false));
      })

  keeps : IsSoundQueue q → KeepsRecords LAYOUT_1 job (shown q) (records_in image)
  keeps sound n used owner =
      let is : owner_at q n ≡ job = sym (shows_owner q sound n) ∙ owner in
      let there = used_number q n (used_of (record_at q n) (λ e. omega (arith, sym is ∙ e, low))) in
      (refl, keeps_at n (loaded.records n there.0 (omega (arith, there.1, loaded.size))) is)

  pub denotes_image : DenotesStill → IsQueueLayout LAYOUT_1 → IsSoundQueue q → (units : ℕ) (numbers : List ℕ) (plan : JobPlan) →
      Denotes q.layout units (shown q) job numbers plan → Denotes LAYOUT_1 units (records_in image) job numbers plan
  denotes_image law own sound units numbers plan denotes =
      law LAYOUT_1 units (shown q) (records_in image) job numbers plan own (keeps sound)
      (subst (λ (l : Layout). Denotes l units (shown q) job numbers plan) loaded.layout denotes)
