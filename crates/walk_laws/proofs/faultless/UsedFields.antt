-- The fields that an SIOT of each kind uses, and what is zero then.
use Rattle.std.proofs.Common.{◌≡◌, ℕ, ◌==◌, Bool, true, false, ◌&&◌, List, [], ◌∷◌, ◌++◌, length, get_or, refl, sym, ap, ◌∙◌, arith}
use Rattle.std.specs.List.{list_all}
use Rattle.cb_meaning.specs.declared.layout.Field.{Field}
use Rattle.cb_meaning.specs.declared.layout.Layout.{Layout}
use Rattle.cb_meaning.specs.Fields.{byte_at, field, is_in, is_zero_but, number_at, part}
use Rattle.cb_meaning.specs.Layouts.{all_apart, siot_places}
use Rattle.cb_meaning.specs.Spelled.{common, status_bytes}
use Rattle.cb_meaning.specs.Walks.{fields_if, siot_fields_used}
use Rattle.walk_laws.specs.WalkLaws.{IsRecord}
use Rattle.walk_laws.proofs.faultless.Zeros.{NoneIn, all_alone, is_other, joined_out, none_in, out_at, places_of, zero_byte, zero_number, zero_part}

abbrev pub used : Layout → Bool → Bool → Bool → Bool → List Field
used l set referred sysout cards = common l ++ l.next_dd ∷ field 12 1 ∷ field 16 9 ∷ status_bytes
    ∷ (fields_if set (l.below ∷ field 13 3 ∷ field 28 1 ∷ field 34 6 ∷ [])
    ++ fields_if referred (field 30 4 ∷ [])
    ++ fields_if sysout (field 25 1 ∷ [])
    ++ fields_if cards (l.below ∷ l.cards ∷ []))

abbrev used_by : Layout → ℕ → Bool → List Field
used_by l kind volume = used l (kind == 1) (kind == 1 && volume) (kind == 3) (kind == 4)

pub used_of : (l : Layout) (kind : ℕ) (r : List ℕ) → byte_at r 12 ≡ kind → is_zero_but (siot_fields_used l r) r ≡ true →
    is_zero_but (used_by l kind (byte_at r 28 == 3)) r ≡ true
used_of l kind r e h = ap (λ n. is_zero_but (used_by l n (byte_at r 28 == 3)) r) (sym e) ∙ h

-- places among all fields of an SIOT
abbrev basic_and : List ℕ → List ℕ
basic_and more = 0 ∷ 1 ∷ 2 ∷ 3 ∷ 5 ∷ 9 ∷ 10 ∷ 18 ∷ more

abbrev of_others : List ℕ
of_others = basic_and (11 ∷ 4 ∷ 12 ∷ [])

abbrev but_cards : List ℕ
but_cards = basic_and (11 ∷ [])

abbrev but_class : List ℕ
but_class = basic_and (4 ∷ 12 ∷ [])

abbrev of_own_set : List ℕ
of_own_set = basic_and (4 ∷ 6 ∷ 7 ∷ 8 ∷ 13 ∷ 15 ∷ 16 ∷ 17 ∷ [])

abbrev of_set : List ℕ
of_set = basic_and (4 ∷ 6 ∷ 7 ∷ 8 ∷ 13 ∷ 15 ∷ 16 ∷ 17 ∷ 14 ∷ [])

module _ (l : Layout) (own : all_apart (siot_places l) ≡ true) (r : List ℕ) (is : IsRecord r) where
  abbrev IsApart : List ℕ → ℕ → Type 0
  IsApart fields j = list_all (is_other (siot_places l) j) fields ≡ true

  abbrev place : ℕ → Field
  place j = get_or (siot_places l) j (field 0 0)

  abbrev InNone : List ℕ → ℕ → Type 0
  InNone fields k = NoneIn (places_of (siot_places l) fields) k

  long : length r ≡ 176
  long = is.size

  apart : (fields : List ℕ) (j k : ℕ) → IsApart fields j → is_in (place j) k ≡ true → InNone fields k
  apart fields j k other u = all_alone (siot_places l) own fields j k other u

  out : (fields : List ℕ) (k i : ℕ) → InNone fields k → is_in (get_or (places_of (siot_places l) fields) i (field 0 0)) k ≡ false
  out fields k i n = out_at (places_of (siot_places l) fields) k i n

  -- a byte is in none of the fields that each kind uses, and in none of these
  with_basic : (more : List ℕ) (fs : List Field) (k : ℕ) → InNone (basic_and more) k → NoneIn fs k →
      NoneIn (common l ++ l.next_dd ∷ field 12 1 ∷ field 16 9 ∷ status_bytes ∷ fs) k
  with_basic more fs k n rest =
      let o : (i : ℕ) → is_in (get_or (places_of (siot_places l) (basic_and more)) i (field 0 0)) k ≡ false = λ i. out (basic_and more) k i n in
      (o 0, (o 1, (o 2, (o 3, (o 4, (joined_out 16 8 1 k (o 5) (o 6), (o 7, rest)))))))

  -- what is in none of the fields that are used is zero
  free_byte : (fs : List Field) (fields : List ℕ) → ((k : ℕ) → InNone fields k → NoneIn fs k) → is_zero_but fs r ≡ true → (j k : ℕ) →
      IsApart fields j → is_in (place j) k ≡ true → byte_at r k ≡ 0
  free_byte fs fields within h j k a u = zero_byte fs r k h (none_in fs k (within k (apart fields j k a u)))

  -- of a DD that is no set
  other_out : (sysout cards : Bool) (k : ℕ) → InNone of_others k → NoneIn (used l false false sysout cards) k
  other_out false false k n = with_basic (11 ∷ 4 ∷ 12 ∷ []) [] k n tt
  other_out true false k n = with_basic (11 ∷ 4 ∷ 12 ∷ []) (field 25 1 ∷ []) k n (out of_others k 8 n, tt)
  other_out false true k n =
      with_basic (11 ∷ 4 ∷ 12 ∷ []) (l.below ∷ l.cards ∷ []) k n (out of_others k 9 n, (out of_others k 10 n, tt))
  other_out true true k n =
      with_basic (11 ∷ 4 ∷ 12 ∷ []) (field 25 1 ∷ l.below ∷ l.cards ∷ []) k n (out of_others k 8 n, (out of_others k 9 n, (out of_others k 10 n, tt)))

  other_byte : (sysout cards : Bool) → is_zero_but (used l false false sysout cards) r ≡ true → (j k : ℕ) → IsApart of_others j →
      is_in (place j) k ≡ true → byte_at r k ≡ 0
  other_byte sysout cards = free_byte (used l false false sysout cards) of_others (other_out sysout cards)

  uncarded_out : (sysout : Bool) (k : ℕ) → InNone but_cards k → NoneIn (used l false false sysout false) k
  uncarded_out false k n = with_basic (11 ∷ []) [] k n tt
  uncarded_out true k n = with_basic (11 ∷ []) (field 25 1 ∷ []) k n (out but_cards k 8 n, tt)

  without_cards : (sysout : Bool) → is_zero_but (used l false false sysout false) r ≡ true → (j k : ℕ) → IsApart but_cards j → is_in (place j) k ≡ true →
      byte_at r k ≡ 0
  without_cards sysout = free_byte (used l false false sysout false) but_cards (uncarded_out sysout)

  unclassed_out : (cards : Bool) (k : ℕ) → InNone but_class k → NoneIn (used l false false false cards) k
  unclassed_out false k n = with_basic (4 ∷ 12 ∷ []) [] k n tt
  unclassed_out true k n = with_basic (4 ∷ 12 ∷ []) (l.below ∷ l.cards ∷ []) k n (out but_class k 8 n, (out but_class k 9 n, tt))

  without_class : (cards : Bool) → is_zero_but (used l false false false cards) r ≡ true → (j k : ℕ) → IsApart but_class j → is_in (place j) k ≡ true →
      byte_at r k ≡ 0
  without_class cards = free_byte (used l false false false cards) but_class (unclassed_out cards)

  pub record NoSet : Type 0 where
    pub status : byte_at r 13 ≡ 0
    pub normal : byte_at r 14 ≡ 0
    pub conditional : byte_at r 15 ≡ 0
    pub volume : byte_at r 28 ≡ 0
    pub dd : part r 30 4 ≡ 0 ∷ 0 ∷ 0 ∷ 0 ∷ []
    pub primary : number_at r (field 34 2) ≡ 0
    pub secondary : number_at r (field 36 2) ≡ 0
    pub listed : number_at r (field 38 2) ≡ 0

  pub no_set : (sysout cards : Bool) → is_zero_but (used l false false sysout cards) r ≡ true → NoSet
  no_set sysout cards h = record {
    status = other_byte sysout cards h 6 13 refl refl;
    normal = other_byte sysout cards h 7 14 refl refl;
    conditional = other_byte sysout cards h 8 15 refl refl;
    volume = other_byte sysout cards h 13 28 refl refl;
    dd = zero_part (field 30 4) r (omega (arith, long)) (λ k u. other_byte sysout cards h 14 k refl u);
    primary = zero_number (field 34 2) r (λ k u. other_byte sysout cards h 15 k refl u);
    secondary = zero_number (field 36 2) r (λ k u. other_byte sysout cards h 16 k refl u);
    listed = zero_number (field 38 2) r (λ k u. other_byte sysout cards h 17 k refl u);
  }

  pub no_below : (sysout : Bool) → is_zero_but (used l false false sysout false) r ≡ true → number_at r l.below ≡ 0
  no_below sysout h = zero_number l.below r (λ k u. without_cards sysout h 4 k refl u)

  pub no_cards : (sysout : Bool) → is_zero_but (used l false false sysout false) r ≡ true → number_at r l.cards ≡ 0
  no_cards sysout h = zero_number l.cards r (λ k u. without_cards sysout h 12 k refl u)

  pub no_class : (cards : Bool) → is_zero_but (used l false false false cards) r ≡ true → byte_at r 25 ≡ 0
  no_class cards h = without_class cards h 11 25 refl refl

  -- of a set
  set_out : (more : List ℕ) (fs : List Field) (k : ℕ) → InNone (basic_and (4 ∷ 6 ∷ 7 ∷ 8 ∷ 13 ∷ 15 ∷ 16 ∷ 17 ∷ more)) k → NoneIn fs k →
      NoneIn (common l ++ l.next_dd ∷ field 12 1 ∷ field 16 9 ∷ status_bytes ∷ l.below ∷ field 13 3 ∷ field 28 1 ∷ field 34 6 ∷ fs) k
  set_out more fs k n rest =
      let whole = 4 ∷ 6 ∷ 7 ∷ 8 ∷ 13 ∷ 15 ∷ 16 ∷ 17 ∷ more in
      let o : (i : ℕ) → is_in (get_or (places_of (siot_places l) (basic_and whole)) i (field 0 0)) k ≡ false = λ i. out (basic_and whole) k i n in
      let words = joined_out 13 1 2 k (o 9) (joined_out 14 1 1 k (o 10) (o 11)) in
      let numbers = joined_out 34 2 4 k (o 13) (joined_out 36 2 2 k (o 14) (o 15)) in
      with_basic whole (l.below ∷ field 13 3 ∷ field 28 1 ∷ field 34 6 ∷ fs) k n (o 8, (words, (o 12, (numbers, rest))))

  any_set_out : (volume : Bool) (k : ℕ) → InNone of_set k → NoneIn (used l true volume false false) k
  any_set_out false k n = set_out (14 ∷ []) [] k n tt
  any_set_out true k n = set_out (14 ∷ []) (field 30 4 ∷ []) k n (out of_set k 16 n, tt)

  set_byte : (volume : Bool) → is_zero_but (used l true volume false false) r ≡ true → (j k : ℕ) → IsApart of_set j → is_in (place j) k ≡ true →
      byte_at r k ≡ 0
  set_byte volume = free_byte (used l true volume false false) of_set (any_set_out volume)

  own_byte : is_zero_but (used l true false false false) r ≡ true → (j k : ℕ) → IsApart of_own_set j → is_in (place j) k ≡ true → byte_at r k ≡ 0
  own_byte = free_byte (used l true false false false) of_own_set (λ k n. set_out [] [] k n tt)

  pub set_class : (volume : Bool) → is_zero_but (used l true volume false false) r ≡ true → byte_at r 25 ≡ 0
  set_class volume h = set_byte volume h 11 25 refl refl

  pub set_cards : (volume : Bool) → is_zero_but (used l true volume false false) r ≡ true → number_at r l.cards ≡ 0
  set_cards volume h = zero_number l.cards r (λ k u. set_byte volume h 12 k refl u)

  pub set_dd : is_zero_but (used l true false false false) r ≡ true → part r 30 4 ≡ 0 ∷ 0 ∷ 0 ∷ 0 ∷ []
  set_dd h = zero_part (field 30 4) r (omega (arith, long)) (λ k u. own_byte h 14 k refl u)
