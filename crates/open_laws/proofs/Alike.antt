-- Records that are read alike have the same faults.
use Rattle.std.proofs.Common.{◌≡◌, ◌≤◌, ◌<◌, ◌+◌, ◌==◌, arith, ℕ, zero, suc, Bool, true, false, not, ◌&&◌, ◌||◌, cond, List, [], ◌∷◌, ◌++◌, length, drop, take, bit_and, Some, refl, sym, ap, ◌∙◌, subst}
use Rattle.std.specs.Prelude.{slice_get, nat_le, nat_lt, if◌then◌else◌}
use Rattle.std.specs.List.{list_all, list_any}
use Rattle.std.proofs.lemmas.Bool.{and_left, and_right, le-ltb, lt-leb, or_from, or_parts}
use Rattle.jname_core.specs.Characters.{is_job_class, is_letter_or_digit}
use Rattle.jname_core.specs.Generations.{has_generation_form}
use Rattle.jcl_plan.specs.Texts.{trimmed}
use Rattle.cb_meaning.specs.declared.layout.Field.{Field}
use Rattle.cb_meaning.specs.declared.layout.Layout.{Layout}
use Rattle.cb_meaning.specs.Fields.{byte_at, field, is_in, is_zero_but, number_at, number_of, part, zero_from}
use Rattle.cb_meaning.specs.Spelled.{card_fields, common, jct_fields, jfcb_fields, sct_fields, status_bytes}
use Rattle.cb_meaning.specs.Walks.{are_printable, are_zero, card_faults, fields_if, has_cards, in_parts, is_bad_test, is_blank, is_ds_name, is_earlier_set, is_name, is_no_expiry, is_name_or_blank, is_serial, is_set, jct_faults, jfcb_faults, looks_forward, sct_faults, siot_faults, siot_fields_used, told_if}
use Rattle.cb_meaning.specs.Writable.{most_tracks}
use Rattle.world_meaning.specs.Records.{AgreeBut, IsBetween, IsQueueLayout}

-- what may differ in a record of a kind that has status bytes, and of one that has none
abbrev pub opened : Layout → Bool → List Field
opened l has = field 2 2 ∷ l.link ∷ (cond has (status_bytes ∷ []) [])

-- bytes in a row
part_agrees : (r s : List ℕ) (at width : ℕ) → length s ≡ length r → ((k : ℕ) → at ≤ k → k < at + width → byte_at s k ≡ byte_at r k) →
    part s at width ≡ part r at width
part_agrees [] [] at width size h = refl
part_agrees [] (y ∷ s) at width size h = absurd cc
part_agrees (x ∷ r) [] at width size h = absurd cc
part_agrees (x ∷ r) (y ∷ s) zero zero size h = refl
part_agrees (x ∷ r) (y ∷ s) zero (suc width) size h =
    let size_rest : length s ≡ length r = cc in
    let first : y ≡ x = h 0 (omega arith) (omega arith) in
    let rest : part s zero width ≡ part r zero width =
    part_agrees r s zero width size_rest (λ k low high. h (suc k) (omega arith) (omega (arith, high))) in
    (λ i. first i ∷ rest i)
part_agrees (x ∷ r) (y ∷ s) (suc at) width size h =
    let size_rest : length s ≡ length r = cc in
    part_agrees r s at width size_rest (λ k low high. h (suc k) (omega (arith, low)) (omega (arith, high)))

zero_agrees : (named : List Field) (r s : List ℕ) (at : ℕ) → length s ≡ length r →
    ((j k : ℕ) → k ≡ at + j → list_any (λ f. is_in f k) named ≡ false → byte_at s j ≡ byte_at r j) → zero_from named at s ≡ zero_from named at r
zero_agrees named [] [] at size h = refl
zero_agrees named [] (y ∷ s) at size h = absurd cc
zero_agrees named (x ∷ r) [] at size h = absurd cc
zero_agrees named (x ∷ r) (y ∷ s) at size h =
    let size_rest : length s ≡ length r = cc in
    let rest : zero_from named (at + 1) s ≡ zero_from named (at + 1) r =
    zero_agrees named r s (at + 1) size_rest (λ j k e. h (suc j) k (omega (arith, e))) in
    let first : (list_any (λ f. is_in f at) named || y == 0) ≡ (list_any (λ f. is_in f at) named || x == 0) =
    by_test (list_any (λ f. is_in f at) named) refl in
    (λ i. first i && rest i)
  where
    by_test : (b : Bool) → list_any (λ f. is_in f at) named ≡ b → (list_any (λ f. is_in f at) named || y == 0) ≡ (list_any (λ f. is_in f at) named || x == 0)
    by_test true e = ap (λ t. t || y == 0) e ∙ sym (ap (λ t. t || x == 0) e)
    by_test false e = let is : y ≡ x = h 0 at (omega arith) e in ap (λ z. list_any (λ f. is_in f at) named || z == 0) is

any_false_at : {X : Type 0} (p : X → Bool) (xs : List X) (i : ℕ) (x : X) → slice_get xs i ≡ Some x → list_any p xs ≡ false → p x ≡ false
any_false_at p [] i x at h = absurd cc
any_false_at p (y ∷ xs) zero x at h = let is : y ≡ x = cc in subst (λ z. p z ≡ false) is (or_parts (p y) (list_any p xs) h).0
any_false_at p (y ∷ xs) (suc i) x at h = any_false_at p xs i x at (or_parts (p y) (list_any p xs) h).1

below_field : (f : Field) (k : ℕ) → k < f.at → is_in f k ≡ false
below_field f k low = and_left _ _ (lt-leb f.at k low)

above_field : (f : Field) (k : ℕ) → f.at + f.width ≤ k → is_in f k ≡ false
above_field f k high = and_right _ _ (le-ltb k (f.at + f.width) high)

not_status : (has : Bool) (k : ℕ) → (has ≡ true → k < 168) → list_any (λ f. is_in f k) (cond has (status_bytes ∷ []) []) ≡ false
not_status true k low = or_from _ _ (below_field status_bytes k (low refl)) refl
not_status false k low = refl

-- a record whose owner is the same in both
abbrev pub bare : Layout → Bool → List Field
bare l has = l.link ∷ (cond has (status_bytes ∷ []) [])

pub bare_kind : (l : Layout) → IsQueueLayout l → (has : Bool) (r s : List ℕ) → AgreeBut (bare l has) r s → byte_at s 0 ≡ byte_at r 0
bare_kind l own has r s agree =
    agree.bytes 0 (or_from _ _ (below_field l.link 0 (omega (arith, own.link_from))) (not_status has 0 (λ e. omega arith)))

module _ (l : Layout) (own : IsQueueLayout l) (has : Bool) (r s : List ℕ) (agree : AgreeBut (opened l has) r s) where
  byte_from : (k : ℕ) → 8 ≤ k → (has ≡ true → k < 168) → byte_at s k ≡ byte_at r k
  byte_from k from to =
      agree.bytes k (or_from _ _ (above_field (field 2 2) k (omega (arith, from)))
      (or_from _ _ (above_field l.link k (omega (arith, from, own.link_to))) (not_status has k to)))

  pub kind_same : byte_at s 0 ≡ byte_at r 0
  kind_same =
      agree.bytes 0 (or_from _ _ (below_field (field 2 2) 0 (omega arith))
      (or_from _ _ (below_field l.link 0 (omega (arith, own.link_from))) (not_status has 0 (λ e. omega arith))))

  byte : (k : ℕ) → 8 ≤ k → k < 168 → byte_at s k ≡ byte_at r k
  byte k from to = byte_from k from (λ e. to)

  text : (at width : ℕ) → 8 ≤ at → at + width ≤ 168 → part s at width ≡ part r at width
  text at width from to = part_agrees r s at width agree.size (λ k a b. byte k (omega (arith, a, from)) (omega (arith, b, to)))

  card : (at width : ℕ) → 8 ≤ at → has ≡ false → part s at width ≡ part r at width
  card at width from none =
      part_agrees r s at width agree.size (λ k a b. byte_from k (omega (arith, a, from)) (λ e. let no : true ≡ false = sym e ∙ none in absurd cc))

  pub number : (f : Field) → IsBetween f → number_at s f ≡ number_at r f
  number f b = ap number_of (text f.at f.width b.from b.to)

  pair : (at : ℕ) → 8 ≤ at → at + 2 ≤ 168 → number_at s (field at 2) ≡ number_at r (field at 2)
  pair at from to = ap number_of (text at 2 from to)

  unused : (named : List Field) (i : ℕ) → slice_get named 1 ≡ Some (field 2 2) → slice_get named 2 ≡ Some l.link →
      (has ≡ true → slice_get named i ≡ Some status_bytes) → is_zero_but named s ≡ is_zero_but named r
  unused named i owner link status = zero_agrees named r s 0 agree.size (λ j k e out.
      let is : k ≡ j = omega (arith, e) in
      agree.bytes j (subst (λ z. list_any (λ f. is_in f z) (opened l has) ≡ false) is
      (or_from _ _ (any_false_at (λ f. is_in f k) named 1 (field 2 2) owner out)
      (or_from _ _ (any_false_at (λ f. is_in f k) named 2 l.link link out) (out_of has k refl out)))))
    where
      out_of : (b : Bool) (k : ℕ) → has ≡ b → list_any (λ f. is_in f k) named ≡ false → list_any (λ f. is_in f k) (cond has (status_bytes ∷ []) []) ≡ false
      out_of true k e out =
          ap (λ t. list_any (λ f. is_in f k) (cond t (status_bytes ∷ []) [])) e
          ∙ or_from _ _ (any_false_at (λ f. is_in f k) named i status_bytes (status e) out) refl
      out_of false k e out = ap (λ t. list_any (λ f. is_in f k) (cond t (status_bytes ∷ []) [])) e

  pub jct_same : jct_faults l s ≡ jct_faults l r
  jct_same =
      let name = text 16 8 (omega arith) (omega arith) in
      let count = byte 24 (omega arith) (omega arith) in
      let tests = text 26 24 (omega arith) (omega arith) in
      let layout = byte 8 (omega arith) (omega arith) in
      let class = byte 9 (omega arith) (omega arith) in
      let priority = byte 10 (omega arith) (omega arith) in
      let message = byte 11 (omega arith) (omega arith) in
      let zeros = unused (jct_fields l) 8 refl refl (λ e. refl) in
      (λ i. told_if 6 (not (is_name (name i)))
      ++ told_if 8 (nat_lt 8 (count i) || list_any is_bad_test (take (count i) (in_parts 8 3 (tests i))))
      ++ told_if 11 (not (layout i == l.number))
      ++ told_if 12 (not (is_job_class (class i)) || nat_lt 13 (priority i) || not (is_letter_or_digit (message i))
      || not (are_zero (drop (count i) (in_parts 8 3 (tests i)))) || not (zeros i)))

  pub sct_same : (k : ℕ) → sct_faults l k s ≡ sct_faults l k r
  sct_same k =
      let name = text 16 8 (omega arith) (omega arith) in
      let procedure = text 24 8 (omega arith) (omega arith) in
      let program = text 32 8 (omega arith) (omega arith) in
      let count = byte 15 (omega arith) (omega arith) in
      let after = byte 14 (omega arith) (omega arith) in
      let tests = text 40 40 (omega arith) (omega arith) in
      let zeros = unused (sct_fields l) 9 refl refl (λ e. refl) in
      (λ i. told_if 6 (not (is_name_or_blank (name i)) || not (is_name_or_blank (procedure i)) || not (is_name (program i)))
      ++ told_if 8 (nat_lt 8 (count i) || list_any is_bad_test (take (count i) (in_parts 8 5 (tests i))))
      ++ told_if 9 (list_any (looks_forward k) (take (count i) (in_parts 8 5 (tests i))))
      ++ told_if 12 (nat_lt 2 (after i) || not (are_zero (drop (count i) (in_parts 8 5 (tests i)))) || not (zeros i)))

  -- whether an SIOT is that of a set, and which fields its kind uses
  pub set_same : is_set s ≡ is_set r
  set_same = ap (λ b. b == 1) (byte 12 (omega arith) (omega arith))

  pub cards_same : has_cards s ≡ has_cards r
  cards_same = ap (λ b. b == 4) (byte 12 (omega arith) (omega arith))

  abbrev fields_by : ℕ → ℕ → List Field
  fields_by kind volume = common l ++ l.next_dd ∷ field 12 1 ∷ field 16 9 ∷ status_bytes
      ∷ (fields_if (kind == 1) (l.below ∷ field 13 3 ∷ field 28 1 ∷ field 34 6 ∷ [])
      ++ fields_if (kind == 1 && volume == 3) (field 30 4 ∷ [])
      ++ fields_if (kind == 3) (field 25 1 ∷ [])
      ++ fields_if (kind == 4) (l.below ∷ l.cards ∷ []))

  used_same : is_zero_but (siot_fields_used l s) s ≡ is_zero_but (siot_fields_used l r) r
  used_same =
      ap (λ fields. is_zero_but fields s)
      (λ i. fields_by (byte 12 (omega arith) (omega arith) i) (byte 28 (omega arith) (omega arith) i))
      ∙ unused (siot_fields_used l r) 6 refl refl (λ e. refl)

  pub siot_same : (units : ℕ) (steps : List (List Bool)) (k d : ℕ) → siot_faults l units steps k d s ≡ siot_faults l units steps k d r
  siot_same units steps k d =
      let kind = byte 12 (omega arith) (omega arith) in
      let status = byte 13 (omega arith) (omega arith) in
      let normal = byte 14 (omega arith) (omega arith) in
      let conditional = byte 15 (omega arith) (omega arith) in
      let name = text 16 8 (omega arith) (omega arith) in
      let flags = byte 24 (omega arith) (omega arith) in
      let class = byte 25 (omega arith) (omega arith) in
      let volume = byte 28 (omega arith) (omega arith) in
      let step = pair 30 (omega arith) (omega arith) in
      let dd = pair 32 (omega arith) (omega arith) in
      let primary = pair 34 (omega arith) (omega arith) in
      let secondary = pair 36 (omega arith) (omega arith) in
      let unit = pair 38 (omega arith) (omega arith) in
      let zeros = used_same in
      (λ i. told_if 6 (if bit_and (flags i) 1 == 1 then not (is_blank (name i)) else not (is_name (name i)))
      ++ told_if 7 (not (nat_le 1 (kind i) && nat_le (kind i) 4) || (kind i == 1 && (nat_lt (status i) 1 || nat_lt 4 (status i) || nat_lt 5 (normal i) || nat_lt 5 (conditional i) || conditional i == 3)))
      ++ told_if 9 (kind i == 1 && volume i == 3 && not (is_earlier_set steps k d (step i) (dd i)))
      ++ told_if 12 (nat_lt 7 (flags i) || (bit_and (flags i) 1 == 1 && d == 1)
      || (kind i == 1 && (nat_lt most_tracks (primary i) || nat_lt most_tracks (secondary i)
      || (not (bit_and (flags i) 4 == 4) && (bit_and (flags i) 2 == 2 || nat_lt 0 (primary i) || nat_lt 0 (secondary i)))
      || nat_lt units (unit i) || nat_lt 3 (volume i)))
      || (kind i == 3 && not (is_letter_or_digit (class i)))
      || ((nat_le 1 (kind i) && nat_le (kind i) 4) && not (kind i == 1) && (bit_and (flags i) 4 == 4 || bit_and (flags i) 2 == 2))
      || ((nat_le 1 (kind i) && nat_le (kind i) 4) && not (zeros i))))

  pub jfcb_same : has ≡ false → (steps : List (List Bool)) (k d : ℕ) (t u : List ℕ) → byte_at u 28 ≡ byte_at t 28 →
      jfcb_faults l steps k d u s ≡ jfcb_faults l steps k d t r
  jfcb_same none steps k d t u volume =
      let kind = byte 8 (omega arith) (omega arith) in
      let sign = byte 9 (omega arith) (omega arith) in
      let name = text 12 44 (omega arith) (omega arith) in
      let tail = text 16 40 (omega arith) (omega arith) in
      let relative = text 9 3 (omega arith) (omega arith) in
      let amount = pair 10 (omega arith) (omega arith) in
      let step = pair 12 (omega arith) (omega arith) in
      let dd = pair 14 (omega arith) (omega arith) in
      let serial = text 56 6 (omega arith) (omega arith) in
      let reference = text 62 44 (omega arith) (omega arith) in
      let said = number l.expiry_kind own.expiry_kind in
      let days = number l.expiry_days own.expiry_days in
      let zeros = unused (jfcb_fields l) 0 refl refl (λ e. let no : true ≡ false = sym e ∙ none in absurd cc) in
      (λ i. told_if 6 (((kind i == 1 && (not (is_ds_name 44 (name i)) || has_generation_form (trimmed (name i))))
      || (kind i == 2 && not (is_ds_name 44 (name i) && has_generation_form (trimmed (name i))))
      || (kind i == 3 && not (is_ds_name 35 (name i)))
      || (kind i == 4 && not (is_name (name i)))
      || (kind i == 5 && not (is_blank (tail i))))
      || (if volume i == 1 then not (is_serial (serial i)) else not (is_blank (serial i)))
      || (if volume i == 2 then not (is_ds_name 44 (reference i)) else not (is_blank (reference i))))
      ++ told_if 9 (kind i == 5 && not ((step i == k && dd i == d) || is_earlier_set steps k d (step i) (dd i)))
      ++ told_if 12 (nat_lt (kind i) 1 || nat_lt 5 (kind i) || (kind i == 3 && (nat_lt 1 (sign i) || nat_lt 255 (amount i)))
      || (not (kind i == 3) && not (list_all (λ b. b == 0) (relative i))) || is_no_expiry (said i) (days i) || not (zeros i)))

  pub card_same : has ≡ false → card_faults l s ≡ card_faults l r
  card_same none =
      let count = byte 10 (omega arith) (omega arith) in
      let one = card 16 80 (omega arith) none in
      let two = card 96 80 (omega arith) none in
      let zeros = unused (card_fields l) 0 refl refl (λ e. let no : true ≡ false = sym e ∙ none in absurd cc) in
      (λ i. told_if 12 (nat_lt (count i) 1 || nat_lt 2 (count i) || not (are_printable (one i))
      || (count i == 2 && not (are_printable (two i))) || (count i == 1 && not (list_all (λ b. b == 0) (two i)))
      || not (zeros i)))

  pub card_count_same : byte_at s 10 ≡ byte_at r 10
  card_count_same = byte 10 (omega arith) (omega arith)

  pub volume_same : byte_at s 28 ≡ byte_at r 28
  volume_same = byte 28 (omega arith) (omega arith)
