-- A record of which bytes are overwritten, and who has it.
use Rattle.std.proofs.Common.{◌≡◌, ◌⊎◌, inl, inr, ◌+◌, ◌-◌, ◌<◌, ◌≤◌, ◌==◌, ◌||◌, ℕ, zero, suc, Bool, true, false, cond, List, [], ◌∷◌, length, get_or, replicate, Option, None, Some, arith, refl, sym, ap, ◌∙◌, subst, get_or-set_same, get_or-set_other}
use Rattle.std.specs.Prelude.{IfSome, is_none, is_some, nat_le, nat_lt, slice_set}
use Rattle.std.specs.List.{list_any}
use Rattle.std.proofs.lemmas.Bool.{and_parts, both_ways, cases_Bool, eqb-false, eqb-true, leb-true, ltb-true, or_parts}
use Rattle.std.proofs.lemmas.List.{length-replicate}
use Rattle.cb_meaning.specs.declared.layout.Field.{Field}
use Rattle.cb_meaning.specs.declared.layout.Layout.{Layout}
use Rattle.cb_meaning.specs.declared.layout.TheConstants.{RECORD_BYTES}
use Rattle.cb_meaning.specs.Fields.{byte_at, field, is_in, number_at, number_of, part, with_part}
use Rattle.cb_meaning.specs.Walks.{is_free, owner_of}
use Rattle.cb_records.proofs.Kept.{part_stays}
use Rattle.cb_records.specs.Writes.{ChangesOnly}
use Rattle.cb_queue.specs.RecordQueues.{IsInUse, IsLent, IsSoundQueue, RecordQueue, ShowsRecords, bytes_or_zeros, owner_at, owner_in, record_at, shown, unlinked, with_record_at}
use Rattle.cb_queue.proofs.Changing.{reaches}
use Rattle.cb_queue.proofs.Parts.{byte_inside, length_with, only, with_part_is}
use Rattle.world_meaning.specs.Records.{AgreeBut, open_fields, with_record}
use Rattle.queued_job.specs.Zapping.{IsOwner, Overwrites}

-- what is lent of a record stands for the record
pub record IsLentOf (q : RecordQueue) (n : ℕ) (lent : List ℕ) : Type 0 where
  pub its : List ℕ
  pub there : record_at q n ≡ Some its
  pub change : ChangesOnly q.layout.link its lent

pub lent_of : (q : RecordQueue) (n : ℕ) (lent : List ℕ) → IsLent q.layout (record_at q n) (Some lent) → IsLentOf q n lent
lent_of q n lent h = by (record_at q n) refl h
  where
    by : (o : Option (List ℕ)) → record_at q n ≡ o → IsLent q.layout o (Some lent) → IsLentOf q n lent
    by None e h = absurd h
    by (Some r) e h = record { its = r; there = e; change = h }

-- one of bytes that are written stands in the field, or it is as it was
in_field : (f : Field) (k : ℕ) → is_in f k ≡ true → (f.at ≤ k) × (k < f.at + f.width)
in_field f k h = let both = and_parts (nat_le f.at k) (nat_lt k (f.at + f.width)) h in (leb-true f.at k both.0, ltb-true k (f.at + f.width) both.1)

module _ (q : RecordQueue) (n offset : ℕ) (bytes lent : List ℕ) (sound : IsSoundQueue q) (of : IsLentOf q n lent) (behind : 4 ≤ offset)
    (within : offset + length bytes ≤ RECORD_BYTES) where
  abbrev zapped : Field
  zapped = field offset (length bytes)

  -- the record is whole
  in_use : IsInUse q.layout of.its
  in_use = subst (λ o. IfSome o (IsInUse q.layout)) of.there (sound.in_use n)

  size_lent : length lent ≡ RECORD_BYTES
  size_lent = of.change.size ∙ in_use.size

  pub owner_lent : number_at lent (field 2 2) ≡ owner_at q n
  owner_lent = ap number_of (part_stays q.layout.link (field 2 2) of.its lent of.change sound.own_link.owner) ∙ sym (ap owner_in of.there)

  module _ (written : List ℕ) (value : part written offset (length bytes) ≡ bytes) (others : ChangesOnly zapped lent written) where
    pub owner_written : number_at written (field 2 2) ≡ owner_at q n
    owner_written = ap number_of (part_stays zapped (field 2 2) lent written others (inr (omega (arith, behind)))) ∙ owner_lent

    written_is : written ≡ with_part lent offset bytes
    written_is = with_part_is zapped lent bytes (omega (arith, within, size_lent)) refl written value others

    abbrev stored : List ℕ
    stored = unlinked q.layout written

    size_written : length written ≡ RECORD_BYTES
    size_written = others.size ∙ size_lent

    unlinking : ChangesOnly q.layout.link written stored
    unlinking =
        only q.layout.link written (replicate q.layout.link.width 0)
        (let inside = sound.own_link.fits.link.within in omega (arith, inside, size_written)) (length-replicate {A = ℕ} q.layout.link.width 0)

    same_byte : (k : ℕ) → is_in q.layout.link k ≡ false → get_or written k 0 ≡ get_or (with_part of.its offset bytes) k 0
    same_byte k out = by (cases_Bool (is_in zapped k))
      where
        by : (is_in zapped k ≡ true) ⊎ (is_in zapped k ≡ false) → get_or written k 0 ≡ get_or (with_part of.its offset bytes) k 0
        by (inl inside) =
            let at = in_field zapped k inside in
            let from = at.0 in
            let below = at.1 in
            let place : offset + (k - offset) ≡ k = omega (arith, from) in
            let fits : offset + length bytes ≤ length lent = omega (arith, within, size_lent) in
            let whole = in_use.size in
            let fits_its : offset + length bytes ≤ length of.its = omega (arith, within, whole) in
            ap (λ r. get_or r k 0) written_is ∙ ap (λ j. get_or (with_part lent offset bytes) j 0) (sym place)
            ∙ byte_inside lent offset bytes fits (k - offset) (omega (arith, from, below))
            ∙ sym (byte_inside of.its offset bytes fits_its (k - offset) (omega (arith, from, below)))
            ∙ ap (λ j. get_or (with_part of.its offset bytes) j 0) place
        by (inr outside) =
            let whole = in_use.size in
            others.others k outside ∙ of.change.others k out
            ∙ sym ((only zapped of.its bytes (omega (arith, within, whole)) refl).others k outside)

    agrees : AgreeBut (open_fields q.layout (with_part of.its offset bytes)) (with_part of.its offset bytes) stored
    agrees = record {
      size = (let whole = in_use.size in
          unlinking.size ∙ (size_written ∙ sym (length_with of.its offset bytes (omega (arith, within, whole)) ∙ whole)));
      bytes = λ k out.
          let apart : is_in q.layout.link k ≡ false = (or_parts (is_in q.layout.link k) _ out).0 in unlinking.others k apart ∙ same_byte k apart;
    }

    -- the record where it stands, and others where they stood
    new_at : (m : ℕ) → is_some (record_at q n) ≡ true → (b : Bool) → (m == n) ≡ b →
        bytes_or_zeros (record_at (with_record_at q n (Some stored)) m) ≡ cond b stored (bytes_or_zeros (record_at q m))
    new_at m some b e = by_number n m some b e
      where
        by_number : (n m : ℕ) → is_some (record_at q n) ≡ true → (b : Bool) → (m == n) ≡ b →
            bytes_or_zeros (record_at (with_record_at q n (Some stored)) m) ≡ cond b stored (bytes_or_zeros (record_at q m))
        by_number zero m some b e = absurd cc
        by_number (suc i) zero some true e = let same : zero ≡ suc i = eqb-true zero (suc i) e in absurd (omega (arith, same))
        by_number (suc i) zero some false e = refl
        by_number (suc i) (suc j) some true e =
            let same : suc j ≡ suc i = eqb-true (suc j) (suc i) e in
            let is : j ≡ i = omega (arith, same) in
            ap (λ x. bytes_or_zeros (get_or (slice_set q.records i (Some stored)) x None)) is
            ∙ ap bytes_or_zeros (get_or-set_same q.records i (Some stored) None (reaches q.records i some))
        by_number (suc i) (suc j) some false e =
            ap bytes_or_zeros (get_or-set_other q.records i j (Some stored) None (λ is. eqb-false (suc j) (suc i) e (ap suc is)))

    there : is_some (record_at q n) ≡ true
    there = ap is_some of.there

    abbrev new : RecordQueue
    new = with_record_at q n (Some stored)

    same_but : (n : ℕ) → is_some (record_at q n) ≡ true → ((with_record_at q n (Some stored)).free ≡ q.free)
        × ((with_record_at q n (Some stored)).layout ≡ q.layout) × ((with_record_at q n (Some stored)).waiting ≡ q.waiting)
    same_but zero some = absurd cc
    same_but (suc i) some = (refl, refl, refl)

    agrees_at : (m : ℕ) (b : Bool) → (m == n) ≡ b →
        AgreeBut (open_fields q.layout (cond b (with_part ((shown q).at n) offset bytes) ((shown q).at m)))
        (cond b (with_part ((shown q).at n) offset bytes) ((shown q).at m)) ((shown new).at m)
    agrees_at m true e =
        subst (λ r. AgreeBut (open_fields q.layout (with_part r offset bytes)) (with_part r offset bytes) ((shown new).at m))
        (sym (ap bytes_or_zeros of.there))
        (subst (λ r. AgreeBut (open_fields q.layout (with_part of.its offset bytes)) (with_part of.its offset bytes) r) (sym (new_at m there true e)) agrees)
    agrees_at m false e = record {
      size = ap length (new_at m there false e);
      bytes = λ k out. ap (λ r. get_or r k 0) (new_at m there false e);
    }

    pub overwritten : Overwrites n offset bytes q new
    overwritten = record {
      records = record { free = (same_but n there).0; used = λ m isnt. agrees_at m (m == n) refl };
      layout = (same_but n there).1;
      waiting = (same_but n there).2;
    }

pub owns : ShowsRecords → (q : RecordQueue) (n : ℕ) (lent : List ℕ) → IsSoundQueue q → 1 ≤ n → n ≤ q.layout.most_records →
    IsLent q.layout (record_at q n) (Some lent) → IsOwner q n (number_at lent (field 2 2))
owns shows q n lent sound from to h =
    let of = lent_of q n lent h in
    record {
      there = ap is_some of.there;
      used = (shows q sound n).free from to ∙ ap is_none of.there;
      is = (shows q sound n).owner
          ∙ sym (ap number_of (part_stays q.layout.link (field 2 2) of.its lent of.change sound.own_link.owner) ∙ sym (ap owner_in of.there));
    }

pub none_owns : ShowsRecords → (q : RecordQueue) (n : ℕ) → IsSoundQueue q → 1 ≤ n → n ≤ q.layout.most_records → IsLent q.layout (record_at q n) None →
    is_free (shown q) n ≡ true
none_owns shows q n sound from to h = (shows q sound n).free from to ∙ by (record_at q n) h
  where
    by : (o : Option (List ℕ)) → IsLent q.layout o None → is_none o ≡ true
    by None h = refl
    by (Some r) h = absurd h
