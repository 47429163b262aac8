-- The fields of a record that is lent are those that are shown.
use Rattle.std.proofs.Common.{◌≡◌, ◌≢◌, ◌∙◌, ◌||◌, ℕ, zero, suc, ◌+◌, ◌≤◌, true, false, List, [], ◌∷◌, ◌++◌, Option, Some, None, ap, arith, inl, inr, refl, subst, sym}
use Rattle.std.specs.Prelude.{nat_le, slice_get}
use Rattle.std.specs.List.{list_all}
use Rattle.std.proofs.lemmas.Bool.{and_left, and_parts, and_right, le-ltb, leb-true, cases_Bool, lt-leb}
use Rattle.cb_meaning.specs.declared.layout.Field.{Field}
use Rattle.cb_meaning.specs.declared.layout.Layout.{Layout}
use Rattle.cb_meaning.specs.Fields.{byte_at, field, is_in, number_at, number_of, part}
use Rattle.cb_meaning.specs.Layouts.{all_apart, card_places, is_apart, jct_places, jfcb_places, sct_places, siot_places}
use Rattle.cb_meaning.specs.Spelled.{common}
use Rattle.cb_records.specs.Laws.{AreApart}
use Rattle.cb_records.specs.Writes.{ChangesOnly}
use Rattle.cb_records.proofs.Kept.{part_stays}
use Rattle.cb_queue.specs.RecordQueues.{IsLent, RecordQueue, bytes_or_zeros, record_at, shown}
use Rattle.job_records.specs.Fields.{fields_of_cards, fields_of_jct, fields_of_jfcb, fields_of_sct, fields_of_siot}

-- what is lent of a record differs in the link alone, and nothing is lent of a free one, which is of no kind
pub lent_differs : (q : RecordQueue) (n : ℕ) (s : List ℕ) → IsLent q.layout (record_at q n) (Some s) → ChangesOnly q.layout.link ((shown q).at n) s
lent_differs q n s lent = by (record_at q n) lent
  where
    by : (o : Option (List ℕ)) → IsLent q.layout o (Some s) → ChangesOnly q.layout.link (bytes_or_zeros o) s
    by None lent = absurd lent
    by (Some r) lent = lent

pub none_lent : (l : Layout) (o : Option (List ℕ)) (kind : ℕ) → kind ≢ 0 → IsLent l o None → byte_at (bytes_or_zeros o) 0 ≡ kind → ⊥
none_lent l None kind some lent is = some (sym is)
none_lent l (Some r) kind some lent is = lent

-- fields that have no byte in common with another
are_apart : (f g : Field) → is_apart f g ≡ true → AreApart f g
are_apart f g h =
    elim (cases_Bool (nat_le (f.at + f.width) g.at)) [
      | inl before ↦ inl (leb-true (f.at + f.width) g.at before)
      | inr not_so ↦ inr (leb-true (g.at + g.width) f.at (sym (ap (λ b. b || nat_le (g.at + g.width) f.at) not_so) ∙ h))
    ]

apart_at : (f : Field) (gs : List Field) (j : ℕ) (g : Field) → list_all (λ x. is_apart f x) gs ≡ true → slice_get gs j ≡ Some g → AreApart f g
apart_at f [] j g h is = absurd cc
apart_at f (x ∷ gs) zero g h is = let same : x ≡ g = cc in subst (AreApart f) same (are_apart f x (and_parts _ _ h).0)
apart_at f (x ∷ gs) (suc j) g h is = apart_at f gs j g (and_parts _ _ h).1 is

link_apart : (l : Layout) (rest : List Field) → all_apart (common l ++ rest) ≡ true → list_all (λ g. is_apart l.link g) rest ≡ true
link_apart l rest h = (and_parts _ _ (and_parts _ _ (and_parts _ _ h).1).1).0

pub byte_stays : (f : Field) (k : ℕ) (old new : List ℕ) → ChangesOnly f old new → AreApart f (field k 1) → byte_at new k ≡ byte_at old k
byte_stays f k old new change apart = change.others k out
  where
    out : is_in f k ≡ false
    out = elim apart [
      | inl before ↦ and_right _ _ (le-ltb k (f.at + f.width) before)
      | inr behind ↦ and_left _ _ (lt-leb f.at k (omega (arith, behind)))
    ]

within : (f g : Field) (at width : ℕ) → AreApart f g → g.at ≤ at → at + width ≤ g.at + g.width → AreApart f (field at width)
within f g at width apart from to =
    elim apart [
      | inl before ↦ inl (omega (arith, before, from))
      | inr behind ↦ inr (omega (arith, behind, to))
    ]

module _ (l : Layout) (rest : List Field) (own : all_apart (common l ++ rest) ≡ true) (r s : List ℕ) (change : ChangesOnly l.link r s) where
  apart : (j : ℕ) (g : Field) → slice_get rest j ≡ Some g → AreApart l.link g
  apart j g is = apart_at l.link rest j g (link_apart l rest own) is

  text : (j : ℕ) (g : Field) → slice_get rest j ≡ Some g → part s g.at g.width ≡ part r g.at g.width
  text j g is = part_stays l.link g r s change (apart j g is)

  number : (j : ℕ) (g : Field) → slice_get rest j ≡ Some g → number_at s g ≡ number_at r g
  number j g is = ap number_of (text j g is)

  byte : (j k : ℕ) → slice_get rest j ≡ Some (field k 1) → byte_at s k ≡ byte_at r k
  byte j k is = byte_stays l.link k r s change (apart j (field k 1) is)

  text_in : (j : ℕ) (g : Field) (at width : ℕ) → slice_get rest j ≡ Some g → g.at ≤ at → at + width ≤ g.at + g.width → part s at width ≡ part r at width
  text_in j g at width is from to = part_stays l.link (field at width) r s change (within l.link g at width (apart j g is) from to)

abbrev behind : List Field → List Field
behind [] = []
behind (f ∷ fields) = fields

module _ (l : Layout) (r s : List ℕ) (change : ChangesOnly l.link r s) where
  pub jct_seen : all_apart (jct_places l) ≡ true → fields_of_jct l s ≡ fields_of_jct l r
  jct_seen own =
      let rest = behind (behind (behind (jct_places l))) in
      λ i. record {
        message_class = byte l rest own r s change 3 11 refl i;
        first_step = number l rest own r s change 4 l.first_step refl i;
        steps = number l rest own r s change 5 l.steps refl i;
        test_count = byte l rest own r s change 7 24 refl i;
        tests = text l rest own r s change 8 (field 26 24) refl i;
      }

  pub sct_seen : all_apart (sct_places l) ≡ true → fields_of_sct l s ≡ fields_of_sct l r
  sct_seen own =
      let rest = behind (behind (behind (sct_places l))) in
      λ i. record {
        next = number l rest own r s change 0 l.next_step refl i;
        first_dd = number l rest own r s change 1 l.first_dd refl i;
        dds = number l rest own r s change 2 l.dds refl i;
        after_abend = byte l rest own r s change 3 14 refl i;
        test_count = byte l rest own r s change 4 15 refl i;
        name = text l rest own r s change 5 (field 16 8) refl i;
        procedure_step = text l rest own r s change 6 (field 24 8) refl i;
        program = text l rest own r s change 7 (field 32 8) refl i;
        tests = text l rest own r s change 8 (field 40 40) refl i;
      }

  pub siot_seen : all_apart (siot_places l) ≡ true → fields_of_siot l s ≡ fields_of_siot l r
  siot_seen own =
      let rest = behind (behind (behind (siot_places l))) in
      λ i. record {
        next = number l rest own r s change 0 l.next_dd refl i;
        below = number l rest own r s change 1 l.below refl i;
        kind = byte l rest own r s change 2 12 refl i;
        status = byte l rest own r s change 3 13 refl i;
        normal = byte l rest own r s change 4 14 refl i;
        conditional = byte l rest own r s change 5 15 refl i;
        name = text l rest own r s change 6 (field 16 8) refl i;
        marks = byte l rest own r s change 7 24 refl i;
        class = byte l rest own r s change 8 25 refl i;
        cards = number l rest own r s change 9 l.cards refl i;
        volume = byte l rest own r s change 10 28 refl i;
        volume_step = number_of (text_in l rest own r s change 11 (field 30 4) 30 2 refl (omega arith) (omega arith) i);
        volume_dd = number_of (text_in l rest own r s change 11 (field 30 4) 32 2 refl (omega arith) (omega arith) i);
        primary = number l rest own r s change 12 (field 34 2) refl i;
        secondary = number l rest own r s change 13 (field 36 2) refl i;
      }

  pub jfcb_seen : all_apart (jfcb_places l) ≡ true → fields_of_jfcb l s ≡ fields_of_jfcb l r
  jfcb_seen own =
      let rest = behind (behind (behind (jfcb_places l))) in
      λ i. record {
        key_kind = byte l rest own r s change 0 8 refl i;
        serial = text l rest own r s change 3 (field 56 6) refl i;
        volume_name = text l rest own r s change 4 (field 62 44) refl i;
        expiry_kind = number l rest own r s change 5 l.expiry_kind refl i;
        expiry_days = number l rest own r s change 6 l.expiry_days refl i;
      }

  pub cards_seen : all_apart (card_places l) ≡ true → fields_of_cards l s ≡ fields_of_cards l r
  cards_seen own =
      let rest = behind (behind (behind (card_places l))) in
      λ i. record {
        next = number l rest own r s change 0 l.next_cards refl i;
        count = byte l rest own r s change 1 10 refl i;
        first = text_in l rest own r s change 2 (field 16 160) 16 80 refl (omega arith) (omega arith) i;
        second = text_in l rest own r s change 2 (field 16 160) 96 80 refl (omega arith) (omega arith) i;
      }
