-- A record but for its link.
use Rattle.std.proofs.Common.{◌≡◌, ◌≢◌, ℕ, suc, ◌+◌, ◌-◌, ◌<◌, ◌≤◌, ◌⊎◌, inl, inr, true, false, List, [], ◌++◌, All, get_or, drop, length, replicate, take, arith, ◌∙◌, ap, sym, refl, length-set, get_or-set_other, get_or-set_same}
use Rattle.std.specs.Prelude.{slice_set}
use Rattle.std.proofs.lemmas.Bool.{and_parts, cases_Bool, leb-true, ltb-true}
use Rattle.std.proofs.lemmas.Grind.{same_number_lists}
use Rattle.std.proofs.lemmas.List.{drop_at, get_or-map, get_or_read, length-replicate, length-take-le, map-set, take_at}
use Rattle.std.proofs.lemmas.List.Elements.{All-append, All-drop, All-replicate, All-same, All-set, All-take}
use Rattle.cb_meaning.specs.declared.layout.Field.{Field}
use Rattle.cb_meaning.specs.declared.layout.Layout.{Layout}
use Rattle.cb_meaning.specs.Fields.{is_in, number_at, number_of, part, with_part}
use Rattle.cb_meaning.specs.Spelled.{status_bytes}
use Rattle.cb_records.proofs.Kept.{part_stays}
use Rattle.cb_records.specs.Laws.{AreApart}
use Rattle.cb_records.specs.Writes.{ChangesOnly}
use Rattle.cb_queue.specs.RecordQueues.{HasOwnLink, IsInUse, unlinked, zero_record}
use Rattle.cb_queue.proofs.Parts.{byte_inside, in_use_zero, only, with_part_is, zero_at}
use Rattle.chain_store.specs.Links.{AreWhole, Changes, link_at, record_of, unlinked_all}

part_written : (r : List ℕ) (at : ℕ) (bytes : List ℕ) → at + length bytes ≤ length r → part (with_part r at bytes) at (length bytes) ≡ bytes
part_written r at bytes fits =
    ap (take (length bytes)) (drop_at (take at r) (bytes ++ drop (at + length bytes) r) at (length-take-le at r (omega (arith, fits))))
    ∙ take_at bytes (drop (at + length bytes) r) (length bytes) refl

apart_too : (f g : Field) → AreApart f g → AreApart g f
apart_too f g (inl h) = inr h
apart_too f g (inr h) = inl h

module _ (l : Layout) (own : HasOwnLink l) where
  zeros : List ℕ
  zeros = replicate l.link.width 0

  module _ (r : List ℕ) (whole : length r ≡ 176) where
    within : l.link.at + l.link.width ≤ length r
    within = let w = own.fits.link.within in omega (arith, w, whole)

    pub but_link : ChangesOnly l.link r (unlinked l r)
    but_link = only l.link r (replicate l.link.width 0) within (length-replicate {A = ℕ} l.link.width 0)

    pub whole_unlinked : length (unlinked l r) ≡ 176
    whole_unlinked = but_link.size ∙ whole

    link_zeros : part (unlinked l r) l.link.at l.link.width ≡ replicate l.link.width 0
    link_zeros =
        let size = length-replicate {A = ℕ} l.link.width 0 in
        ap (part (unlinked l r) l.link.at) (sym size)
        ∙ part_written r l.link.at (replicate l.link.width 0) (let w = within in omega (arith, w, size))

    pub link_byte : (k : ℕ) → is_in l.link k ≡ true → get_or (unlinked l r) k 0 ≡ 0
    link_byte k in_it =
        let size = length-replicate {A = ℕ} l.link.width 0 in
        let parts = and_parts _ _ in_it in
        let from : l.link.at ≤ k = leb-true l.link.at k parts.0 in
        let below : k < l.link.at + l.link.width = ltb-true k (l.link.at + l.link.width) parts.1 in
        let is : l.link.at + (k - l.link.at) ≡ k = omega (arith, from) in
        ap (λ i. get_or (unlinked l r) i 0) (sym is)
        ∙ byte_inside r l.link.at (replicate l.link.width 0) (let w = within in omega (arith, w, size)) (k - l.link.at) (omega (arith, from, below, size))
        ∙ zero_at l.link.width (k - l.link.at)

    -- only its link changes
    pub unlinked_same : (new : List ℕ) → ChangesOnly l.link r new → unlinked l new ≡ unlinked l r
    unlinked_same new change =
        with_part_is l.link r (replicate l.link.width 0) within (length-replicate {A = ℕ} l.link.width 0) (unlinked l new) (of_new (change.size ∙ whole))
        (record { size = new_size (change.size ∙ whole); others = λ k out. by_new (change.size ∙ whole) k out ∙ change.others k out })
      where
        of_new : length new ≡ 176 → part (unlinked l new) l.link.at l.link.width ≡ replicate l.link.width 0
        of_new size = new_zeros size
          where
            new_zeros : length new ≡ 176 → part (unlinked l new) l.link.at l.link.width ≡ replicate l.link.width 0
            new_zeros size =
                let zs = length-replicate {A = ℕ} l.link.width 0 in
                let w = own.fits.link.within in
                ap (part (unlinked l new) l.link.at) (sym zs) ∙ part_written new l.link.at (replicate l.link.width 0) (omega (arith, w, size, zs))

        new_only : length new ≡ 176 → ChangesOnly l.link new (unlinked l new)
        new_only size =
            let w = own.fits.link.within in
            only l.link new (replicate l.link.width 0) (omega (arith, w, size)) (length-replicate {A = ℕ} l.link.width 0)

        new_size : length new ≡ 176 → length (unlinked l new) ≡ length r
        new_size size = (new_only size).size ∙ size ∙ sym whole

        by_new : length new ≡ 176 → (k : ℕ) → is_in l.link k ≡ false → get_or (unlinked l new) k 0 ≡ get_or new k 0
        by_new size k out = (new_only size).others k out

    -- only its status changes
    module _ (new status : List ℕ) (size : length status ≡ 8) (value : part new 168 8 ≡ status) (change : ChangesOnly status_bytes r new) where
      pub status_link : number_at new l.link ≡ number_at r l.link
      status_link = ap number_of (part_stays status_bytes l.link r new change (apart_too l.link status_bytes own.status))

      new_whole : length new ≡ 176
      new_whole = change.size ∙ whole

      new_change : ChangesOnly l.link new (unlinked l new)
      new_change =
          let w = own.fits.link.within in
          let s = new_whole in
          only l.link new (replicate l.link.width 0) (omega (arith, w, s)) (length-replicate {A = ℕ} l.link.width 0)

      new_link_byte : (k : ℕ) → is_in l.link k ≡ true → get_or (unlinked l new) k 0 ≡ 0
      new_link_byte k in_it =
          let zs = length-replicate {A = ℕ} l.link.width 0 in
          let w = own.fits.link.within in
          let s = new_whole in
          let parts = and_parts _ _ in_it in
          let from : l.link.at ≤ k = leb-true l.link.at k parts.0 in
          let below : k < l.link.at + l.link.width = ltb-true k (l.link.at + l.link.width) parts.1 in
          let is : l.link.at + (k - l.link.at) ≡ k = omega (arith, from) in
          ap (λ i. get_or (unlinked l new) i 0) (sym is)
          ∙ byte_inside new l.link.at (replicate l.link.width 0) (omega (arith, w, s, zs)) (k - l.link.at) (omega (arith, from, below, zs))
          ∙ zero_at l.link.width (k - l.link.at)

      pub status_unlinked : unlinked l new ≡ with_part (unlinked l r) 168 status
      status_unlinked =
          with_part_is status_bytes (unlinked l r) status (let s = whole_unlinked in omega (arith, s)) size (unlinked l new)
          (part_stays l.link status_bytes new (unlinked l new) new_change own.status ∙ value)
          (record { size = new_change.size ∙ new_whole ∙ sym whole_unlinked; others = λ k out. by k out (cases_Bool (is_in l.link k)) })
        where
          by : (k : ℕ) → is_in status_bytes k ≡ false → (is_in l.link k ≡ true) ⊎ (is_in l.link k ≡ false) → get_or (unlinked l new) k 0 ≡ get_or (unlinked l r) k 0
          by k out (inl in_it) = new_link_byte k in_it ∙ sym (link_byte k in_it)
          by k out (inr not_in) = new_change.others k not_in ∙ change.others k out ∙ sym (but_link.others k not_in)

  -- one whose link is of zeros
  pub unlinked_in_use : (r : List ℕ) → IsInUse l r → unlinked l r ≡ r
  unlinked_in_use r used = same_number_lists (unlinked l r) r (but_link r used.size).size (λ k _. by k (cases_Bool (is_in l.link k)))
    where
      by : (k : ℕ) → (is_in l.link k ≡ true) ⊎ (is_in l.link k ≡ false) → get_or (unlinked l r) k 0 ≡ get_or r k 0
      by k (inl in_it) = link_byte r used.size k in_it ∙ sym (used.link k in_it)
      by k (inr out) = (but_link r used.size).others k out

  pub bytes_unlinked : (r : List ℕ) → All (λ b. b < 256) r → All (λ b. b < 256) (unlinked l r)
  bytes_unlinked r all =
      All-append (λ b. b < 256) (take l.link.at r) (replicate l.link.width 0 ++ drop (l.link.at + length (replicate {A = ℕ} l.link.width 0)) r)
      (All-take (λ b. b < 256) l.link.at r all)
      (All-append (λ b. b < 256) (replicate l.link.width 0) (drop (l.link.at + length (replicate {A = ℕ} l.link.width 0)) r)
      (All-replicate (λ b. b < 256) l.link.width 0 (omega arith)) (All-drop (λ b. b < 256) (l.link.at + length (replicate {A = ℕ} l.link.width 0)) r all))

-- a record of a table is another
pub changes : (l : Layout) (old : List (List ℕ)) (i : ℕ) (new : List ℕ) (r : List ℕ) → length new ≡ 176 → unlinked l new ≡ r → Changes l old (slice_set old i new) i r
changes l old i new r whole is = record {
  size = length-set old i new;
  whole = λ all. All-set (λ x. length x ≡ 176) old i new whole all;
  value = map-set (unlinked l) old i new ∙ ap (slice_set (unlinked_all l old) i) is;
  others = λ k apart. ap (λ x. number_at x l.link) (get_or-set_other old i k new [] apart);
}

pub link_set : (l : Layout) (old : List (List ℕ)) (i n : ℕ) (new : List ℕ) → i < length old → suc i ≡ n → link_at l (slice_set old i new) n ≡ number_at new l.link
link_set l old i n new here is = ap (link_at l (slice_set old i new)) (sym is) ∙ ap (λ x. number_at x l.link) (get_or-set_same old i new [] here)

pub record_is : (l : Layout) (old : List (List ℕ)) (i : ℕ) → i < length old → record_of l old i ≡ unlinked l (get_or old i [])
record_is l old i here = get_or-map (unlinked l) old i [] [] here

module _ (l : Layout) (own : HasOwnLink l) (old : List (List ℕ)) (i : ℕ) (here : i < length old) (whole : AreWhole old) where
  whole_at : (x : List ℕ) → x ≡ get_or old i x → length x ≡ 176
  whole_at x read = ap length read ∙ whole i x here

  value_at : (x : List ℕ) → x ≡ get_or old i x → unlinked l x ≡ record_of l old i
  value_at x read = ap (unlinked l) (get_or_read old i x here read []) ∙ sym (record_is l old i here)

  -- its link alone changes
  pub relinked : (x new : List ℕ) → x ≡ get_or old i x → ChangesOnly l.link x new → Changes l old (slice_set old i new) i (record_of l old i)
  relinked x new read change =
      changes l old i new (record_of l old i) (change.size ∙ whole_at x read) (unlinked_same l own x (whole_at x read) new change ∙ value_at x read)

  -- its status alone changes
  module _ (x new status : List ℕ) (read : x ≡ get_or old i x) (size : length status ≡ 8) (value : part new 168 8 ≡ status) (change : ChangesOnly status_bytes x new) where
    is_status : unlinked l new ≡ with_part (record_of l old i) 168 status
    is_status = status_unlinked l own x (whole_at x read) new status size value change ∙ ap (λ r. with_part r 168 status) (value_at x read)

    pub status_changes : Changes l old (slice_set old i new) i (with_part (record_of l old i) 168 status)
    status_changes = changes l old i new (with_part (record_of l old i) 168 status) (change.size ∙ whole_at x read) is_status

    pub status_keeps_link : (n : ℕ) → suc i ≡ n → link_at l (slice_set old i new) n ≡ link_at l old n
    status_keeps_link n is =
        link_set l old i n new here is ∙ status_link l own x (whole_at x read) new status size value change
        ∙ ap (λ r. number_at r l.link) (get_or_read old i x here read []) ∙ ap (link_at l old) is

    pub status_bytes_are : All (λ b. b < 256) new → All (λ b. b < 256) (with_part (record_of l old i) 168 status)
    status_bytes_are bytes = All-same (λ b. b < 256) (with_part (record_of l old i) 168 status) (unlinked l new) (sym is_status) (bytes_unlinked l own new bytes)

-- a record that was just taken
pub renewed : (l : Layout) (own : HasOwnLink l) (old : List (List ℕ)) (i owner : ℕ) (new : List ℕ) → owner ≢ 0 → new ≡ zero_record owner → All (λ b. b < 256) new →
    Changes l old (slice_set old i new) i (zero_record owner)
renewed l own old i owner new some is bytes =
    let used = in_use_zero l own owner some (All-same (λ b. b < 256) (zero_record owner) new (sym is) bytes) in
    changes l old i new (zero_record owner) (ap length is ∙ used.size) (ap (unlinked l) is ∙ unlinked_in_use l own (zero_record owner) used)
