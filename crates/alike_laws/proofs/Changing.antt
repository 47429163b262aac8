-- A cancel and a zap do alike where records differ in what is open alone.
use Rattle.std.proofs.Common.{◌≡◌, ◌≤◌, ◌+◌, ◌++◌, ◌∷◌, ◌&&◌, ◌||◌, not, ℕ, Bool, true, false, List, [], length, nat_le, refl, sym, ap, ◌∙◌}
use Rattle.std.proofs.lemmas.Bool.{and_parts, leb-true}
use Rattle.std.specs.Prelude.{if◌then◌else◌}
use Rattle.jcl_plan.specs.declared.entry.Entry.{Entry}
use Rattle.cb_meaning.specs.declared.layout.TheConstants.{RECORD_BYTES}
use Rattle.cb_meaning.specs.Fields.{with_part}
use Rattle.cb_meaning.specs.Spelled.{Records}
use Rattle.cb_meaning.specs.Walks.{owner_of}
use Rattle.world_meaning.specs.Cancels.{CancelsJob, admitted, no_job, selected, waiting, with_cancel}
use Rattle.world_meaning.specs.Choices.{Closed}
use Rattle.world_meaning.specs.Records.{IsQueueLayout, SameRecords, records_given_back, with_record}
use Rattle.world_meaning.specs.Turns.{has_cancel}
use Rattle.world_meaning.specs.Worlds.{World}
use Rattle.world_meaning.specs.Zaps.{ZapsRecord, has_initiator, is_owned, is_waiting, is_within, may_be_zapped, most_zapped}
use Rattle.world_meaning.specs.Zaps as zap
use Rattle.alike_laws.proofs.Holding.{still, with_records}
use Rattle.alike_laws.proofs.Same.{free_same, given_back, owner_same, zapped_same}
use Rattle.alike_laws.proofs.Doing.{DoesTo, config_in, on_records, records_in, stays, takes}

-- bytes 0 to 7 are not zapped
zapped_behind : (most n offset count : ℕ) (owned : Bool) → (is_within most n offset count && owned) ≡ true → 8 ≤ offset
zapped_behind most n offset count owned may =
    let inside = and_parts (is_within most n offset count) owned may in
    let a = and_parts _ (nat_le (offset + count) RECORD_BYTES) inside.0 in
    let b = and_parts _ (nat_le count most_zapped) a.0 in
    let d = and_parts _ (nat_le 1 count) b.0 in
    let e = and_parts _ (nat_le 8 offset) d.0 in
    leb-true 8 offset e.1

module _ (old : World) (own : IsQueueLayout old.config.layout) (r : Records) (same : SameRecords old.config.layout old.shared.records r) where
  abbrev q : Records
  q = old.shared.records

  abbrev beside : World
  beside = on_records old r

  abbrev back : World → World
  back w = on_records w q

  -- a cancel is noted, and the records stay
  cancel_noted : (job : ℕ) → with_records (with_cancel beside.shared job) q ≡ with_cancel old.shared job
  cancel_noted job = by (has_cancel old.shared.cancels job)
    where
      by : (b : Bool) → with_records (if b then beside.shared else record beside.shared { cancels = old.shared.cancels ++ job ∷ [] }) q
          ≡ (if b then old.shared else record old.shared { cancels = old.shared.cancels ++ job ∷ [] })
      by true = refl
      by false = refl

  cancel_stays : (job : ℕ) → (with_cancel beside.shared job).records ≡ r
  cancel_stays job = by (has_cancel old.shared.cancels job)
    where
      by : (b : Bool) → (if b then beside.shared else record beside.shared { cancels = old.shared.cancels ++ job ∷ [] }).records ≡ r
      by true = refl
      by false = refl

  -- a cancel
  pub cancels_so : (job : ℕ) (lines : List Entry) (new : World) → CancelsJob beside job lines new →
      DoesTo old (CancelsJob old job lines) (λ w d. Closed) new Closed
  cancels_so job lines new (no_job none told e) =
      stays old r same (CancelsJob old job lines) new (no_job (record { waits_not = none.waits_not; runs_not = none.runs_not }) told (ap back e))
      (ap records_in e) (ap config_in e)
  cancels_so job lines new (waiting w free waits its told e conserves) =
      takes old (CancelsJob old job lines) new (records_given_back old.config.layout q job) (records_given_back old.config.layout r job)
      (waiting w free waits its told (ap (λ v. on_records v (records_given_back old.config.layout q job)) e)
      (still old.shared new.shared r q (records_given_back old.config.layout q job) conserves))
      (given_back old.config own q r same job) (ap records_in e) (ap config_in e)
  cancels_so job lines new (selected place x run free at running its is told e conserves) =
      takes old (CancelsJob old job lines) new (records_given_back old.config.layout q job) (records_given_back old.config.layout r job)
      (selected place x run free at running its is told (ap (λ v. on_records v (records_given_back old.config.layout q job)) e)
      (still old.shared new.shared r q (records_given_back old.config.layout q job) conserves))
      (given_back old.config own q r same job) (ap records_in e) (ap config_in e)
  cancels_so job lines new (admitted place x run at running its is told e) =
      stays old r same (CancelsJob old job lines) new
      (admitted place x run at running its is told (ap back e ∙ ap (λ s. record old { shared = s }) (cancel_noted job)))
      (ap records_in e ∙ cancel_stays job) (ap config_in e)

  -- whether a record may be zapped, and whether its job has an initiator
  may_same : (n offset count : ℕ) → may_be_zapped beside n offset count ≡ may_be_zapped old n offset count
  may_same n offset count i =
      is_within old.config.layout.most_records n offset count
      && (not (free_same old.config own q r same n i)
      && (is_waiting old (owner_same old.config own q r same n i) || has_initiator old (owner_same old.config own q r same n i)))

  has_same : (n : ℕ) → has_initiator beside (owner_of r n) ≡ has_initiator old (owner_of q n)
  has_same n = ap (has_initiator old) (owner_same old.config own q r same n)

  -- a zap
  pub zaps_so : (n offset : ℕ) (bytes : List ℕ) (lines : List Entry) (new : World) → ZapsRecord beside n offset bytes lines new →
      DoesTo old (ZapsRecord old n offset bytes lines) (λ w d. Closed) new Closed
  zaps_so n offset bytes lines new (zap.not_owned is told e) =
      stays old r same (ZapsRecord old n offset bytes lines) new (zap.not_owned (sym (may_same n offset (length bytes)) ∙ is) told (ap back e))
      (ap records_in e) (ap config_in e)
  zaps_so n offset bytes lines new (zap.selected is has told e) =
      stays old r same (ZapsRecord old n offset bytes lines) new
      (zap.selected (sym (may_same n offset (length bytes)) ∙ is) (sym (has_same n) ∙ has) told (ap back e))
      (ap records_in e) (ap config_in e)
  zaps_so n offset bytes lines new (zap.zapped is has told e) =
      takes old (ZapsRecord old n offset bytes lines) new (with_record q n (with_part (q.at n) offset bytes))
      (with_record r n (with_part (r.at n) offset bytes))
      (zap.zapped (sym (may_same n offset (length bytes)) ∙ is) (sym (has_same n) ∙ has) told
      (ap (λ w. on_records w (with_record q n (with_part (q.at n) offset bytes))) e))
      (zapped_same old.config own q r same n offset bytes
      (zapped_behind old.config.layout.most_records n offset (length bytes) (is_owned beside n) is))
      (ap records_in e) (ap config_in e)
