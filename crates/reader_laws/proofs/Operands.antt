-- An operand from positional values and keywords.
use Rattle.std.proofs.Common.{◌≡◌, ◌≤◌, ◌++◌, ℕ, Bool, true, false, cond, List, [], ◌∷◌, Option, Some, None, length, map, drop, refl, sym, ap, ◌∙◌, arith}
use Rattle.std.specs.Prelude.{not, ◌&&◌, ◌||◌, ◌==◌, suc, zero, nat_lt}
use Rattle.std.specs.List.{flat_map, join_with_byte, list_all, list_any, take_while}
use Rattle.std.specs.Option.{is_some}
use Rattle.std.proofs.lemmas.Bool.{and_parts}
use Rattle.std.proofs.lemmas.List.{length-map, map-append}
use Rattle.std.proofs.lemmas.List.Folds.{list_all-append}
use Rattle.jcl_plan.specs.declared.fault.Cause.{Cause}
use Rattle.jcl_plan.specs.declared.fault.Cause.TheVariants.{P}
use Rattle.jcl_plan.specs.declared.fault.StatementFault.TheVariants.{BadValue, TooManyPositional, UnbalancedParentheses}
use Rattle.operand_core.specs.Faults.{when}
use Rattle.operand_core.specs.Operands.{Keyword, Operand, is_balanced, is_closed, is_crowded, is_key_character, is_read, keyed, keyword_of, keywords_of, onto_keywords, operand_of, operand_of_parts, part_faults, parts_of, places_of, positional_parts, read_of}
use Rattle.operand_core.specs.Operands as reader
use Rattle.reader_laws.specs.Spelled.{is_among}
use Rattle.reader_laws.specs.SpelledOperands.{Keyed, Value, Values, are_values, is_key, is_keyed, is_plain, is_positional, is_value, key_characters, keyed_text, operand, operand_text, spelled, spelled_all, texts_of}
use Rattle.reader_laws.specs.WrittenCards.{is_empty}
use Rattle.reader_laws.proofs.Fields.{is_false}
use Rattle.reader_laws.proofs.Fronts.{behind_is, front_is, stops}
use Rattle.reader_laws.proofs.Names.{all_among, neither}
use Rattle.reader_laws.proofs.Places.{all_places}
use Rattle.reader_laws.proofs.Values.{value_read}

both : (a b : Bool) → a ≡ true → b ≡ true → (a && b) ≡ true
both a b h k = ap (λ (x : Bool). x && b) h ∙ k

-- a keyword with its value is a value
keyed_value : List ℕ → Value → Value
keyed_value [] v = Value.Character 61 v
keyed_value (c ∷ key) v = Value.Character c (keyed_value key v)

keyed_spelled : (key : List ℕ) (v : Value) → spelled (keyed_value key v) ≡ key ++ 61 ∷ spelled v
unfolding keyed_value
keyed_spelled [] v = refl
keyed_spelled (c ∷ key) v = ap (λ (text : List ℕ). c ∷ text) (keyed_spelled key v)

keyed_is : (key : List ℕ) (v : Value) → list_all is_plain key ≡ true → is_value v ≡ true → is_value (keyed_value key v) ≡ true
unfolding keyed_value
keyed_is [] v h k = k
keyed_is (c ∷ key) v h k =
    let halves = and_parts (is_plain c) (list_all is_plain key) h in both (is_plain c) (is_value (keyed_value key v)) halves.0 (keyed_is key v halves.1 k)

-- what is known of a part: its text, that it is read, and the keyword that it begins with
record IsPart (text : List ℕ) (key : Option (List ℕ × List ℕ)) : Type 0 where
  value : Value
  good : is_value value ≡ true
  is : spelled value ≡ text
  keyword : keyword_of text ≡ key

characters_of : (key : List ℕ) → is_key key ≡ true → list_all (is_among key_characters) key ≡ true
characters_of [] h = absurd cc
characters_of (c ∷ key) h = h

some_key : (key text : List ℕ) → is_key key ≡ true → keyed key (61 ∷ text) ≡ Some (key, text)
some_key [] text h = absurd cc
some_key (c ∷ key) text h = refl

keyed_part : (k : Keyed) → is_keyed k ≡ true → IsPart (keyed_text k) (Some (k.key, spelled k.value))
keyed_part k h =
    let halves = and_parts (is_key k.key) (is_value k.value) h in
    let characters = characters_of k.key halves.0 in
    let keys : list_all is_key_character k.key ≡ true = all_among is_key_character key_characters k.key refl characters in
    let text : List ℕ = 61 ∷ spelled k.value in
    record {
      value = keyed_value k.key k.value;
      good = keyed_is k.key k.value (all_among is_plain key_characters k.key refl characters) halves.1;
      is = keyed_spelled k.key k.value;
      keyword = (λ i. keyed (front_is is_key_character k.key text keys refl i) (behind_is is_key_character k.key text keys refl i))
          ∙ some_key k.key (spelled k.value) halves.0;
    }

none_left : (n : ℕ) (text : List ℕ) → list_all (λ c. not (c == 61)) text ≡ true → list_all (λ c. not (c == 61)) (drop n text) ≡ true
none_left zero text h = h
none_left (suc n) [] h = refl
none_left (suc n) (c ∷ text) h = none_left n text (and_parts (not (c == 61)) (list_all (λ d. not (d == 61)) text) h).1

no_key : (key text : List ℕ) → list_all (λ c. not (c == 61)) text ≡ true → keyed key text ≡ None
no_key [] text h = refl
no_key (k ∷ key) [] h = refl
no_key (k ∷ key) (c ∷ text) h =
    ap (λ (b : Bool). cond b (Some (k ∷ key, text)) None) (is_false (c == 61) (and_parts (not (c == 61)) (list_all (λ d. not (d == 61)) text) h).0)

positional_part : (v : Value) → is_positional v ≡ true → IsPart (spelled v) None
positional_part v h =
    let halves = and_parts (is_value v) (list_all (λ c. not (c == 61)) (spelled v)) h in
    let front : List ℕ = take_while is_key_character (spelled v) in
    record {
      value = v;
      good = halves.0;
      is = refl;
      keyword = no_key front (drop (length front) (spelled v)) (none_left (length front) (spelled v) halves.1);
    }

-- texts of values, joined by commas, are their places
values_of : Value → List Value → Values
values_of v [] = Values.Last v
values_of v (w ∷ vs) = Values.Before v (values_of w vs)

joined_are : (v : Value) (vs : List Value) → spelled_all (values_of v vs) ≡ join_with_byte 44 (map spelled (v ∷ vs))
unfolding values_of
joined_are v [] = refl
joined_are v (w ∷ vs) = ap (λ (rest : List ℕ). spelled v ++ 44 ∷ rest) (joined_are w vs)

texts_are : (v : Value) (vs : List Value) → texts_of (values_of v vs) ≡ map spelled (v ∷ vs)
unfolding values_of
texts_are v [] = refl
texts_are v (w ∷ vs) = ap (λ (rest : List (List ℕ)). spelled v ∷ rest) (texts_are w vs)

good_values : (v : Value) (vs : List Value) → list_all is_value (v ∷ vs) ≡ true → are_values (values_of v vs) ≡ true
unfolding values_of
good_values v [] h = (and_parts (is_value v) true h).0
good_values v (w ∷ vs) h = let halves =
    and_parts (is_value v) (list_all is_value (w ∷ vs)) h in both (is_value v) (are_values (values_of w vs)) halves.0 (good_values w vs halves.1)

some_parts : (text : List ℕ) → is_empty text ≡ false → parts_of text ≡ places_of text
some_parts [] h = absurd cc
some_parts (c ∷ text) h = refl

parts_are : (vs : List Value) → list_all is_value vs ≡ true → is_empty (join_with_byte 44 (map spelled vs)) ≡ false →
    parts_of (join_with_byte 44 (map spelled vs)) ≡ map spelled vs
parts_are [] h some = absurd cc
parts_are (v ∷ vs) h some =
    some_parts (join_with_byte 44 (map spelled (v ∷ vs))) some
    ∙ ap places_of (sym (joined_are v vs)) ∙ all_places (values_of v vs) (good_values v vs h) ∙ texts_are v vs

-- the values of all parts
value_of_keyed : Keyed → Value
value_of_keyed k = keyed_value k.key k.value

all_values : List Value → List Keyed → List Value
all_values positional keywords = positional ++ map value_of_keyed keywords

keyed_texts : (keywords : List Keyed) → map spelled (map value_of_keyed keywords) ≡ map keyed_text keywords
unfolding value_of_keyed
keyed_texts [] = refl
keyed_texts (k ∷ keywords) = λ i. keyed_spelled k.key k.value i ∷ keyed_texts keywords i

all_texts : (positional : List Value) (keywords : List Keyed) → map spelled (all_values positional keywords) ≡ map spelled positional ++ map keyed_text keywords
unfolding all_values
all_texts positional keywords =
    map-append spelled positional (map value_of_keyed keywords) ∙ ap (λ (texts : List (List ℕ)). map spelled positional ++ texts) (keyed_texts keywords)

keyed_good : (keywords : List Keyed) → list_all is_keyed keywords ≡ true → list_all is_value (map value_of_keyed keywords) ≡ true
unfolding value_of_keyed
keyed_good [] h = refl
keyed_good (k ∷ keywords) h =
    let halves = and_parts (is_keyed k) (list_all is_keyed keywords) h in
    let of_key = and_parts (is_key k.key) (is_value k.value) halves.0 in
    both (is_value (keyed_value k.key k.value)) (list_all is_value (map value_of_keyed keywords))
    (keyed_is k.key k.value (all_among is_plain key_characters k.key refl (characters_of k.key of_key.0)) of_key.1) (keyed_good keywords halves.1)

positional_good : (positional : List Value) → list_all is_positional positional ≡ true → list_all is_value positional ≡ true
positional_good [] h = refl
positional_good (v ∷ positional) h =
    let halves = and_parts (is_positional v) (list_all is_positional positional) h in
    both (is_value v) (list_all is_value positional) (and_parts (is_value v) (list_all (λ c. not (c == 61)) (spelled v)) halves.0).0
    (positional_good positional halves.1)

all_good : (positional : List Value) (keywords : List Keyed) → list_all is_positional positional ≡ true → list_all is_keyed keywords ≡ true →
    list_all is_value (all_values positional keywords) ≡ true
unfolding all_values
all_good positional keywords h k =
    list_all-append is_value positional (map value_of_keyed keywords)
    ∙ both (list_all is_value positional) (list_all is_value (map value_of_keyed keywords)) (positional_good positional h) (keyed_good keywords k)

parts_of_operand : (positional : List Value) (keywords : List Keyed) → list_all is_positional positional ≡ true → list_all is_keyed keywords ≡ true →
    is_empty (operand_text positional keywords) ≡ false → parts_of (operand_text positional keywords) ≡ map spelled positional ++ map keyed_text keywords
parts_of_operand positional keywords h k some =
    let are = all_texts positional keywords in
    ap (λ (texts : List (List ℕ)). parts_of (join_with_byte 44 texts)) (sym are)
    ∙ parts_are (all_values positional keywords) (all_good positional keywords h k) (ap (λ (texts : List (List ℕ)). is_empty
    (join_with_byte 44 texts)) are ∙ some)
    ∙ are

-- each part is read
part_read : (text : List ℕ) (key : Option (List ℕ × List ℕ)) → IsPart text key → is_read text ≡ true
part_read text key p = ap is_read (sym p.is) ∙ value_read p.value p.good

no_faults : (text : List ℕ) → is_read text ≡ true → part_faults text ≡ []
no_faults text h =
    let halves = and_parts (is_balanced text) (is_closed text) h in
    ap (λ (b : Bool). cond b (when (not (is_closed text)) (P BadValue)) (P UnbalancedParentheses ∷ [])) halves.0
    ∙ ap (λ (b : Bool). when (not b) (P BadValue)) halves.1

front_positional : (positional : List Value) → list_all is_positional positional ≡ true → list_all reader.is_positional (map spelled positional) ≡ true
front_positional [] h = refl
front_positional (v ∷ positional) h =
    let halves = and_parts (is_positional v) (list_all is_positional positional) h in
    both (reader.is_positional (spelled v)) (list_all reader.is_positional (map spelled positional))
    (ap (λ (o : Option (List ℕ × List ℕ)). not (is_some o)) (positional_part v halves.0).keyword) (front_positional positional halves.1)

keyed_not : (k : Keyed) → is_keyed k ≡ true → reader.is_positional (keyed_text k) ≡ false
keyed_not k h = ap (λ (o : Option (List ℕ × List ℕ)). not (is_some o)) (keyed_part k h).keyword

behind_stops : (keywords : List Keyed) → list_all is_keyed keywords ≡ true → stops reader.is_positional (map keyed_text keywords) ≡ true
behind_stops [] h = refl
behind_stops (k ∷ keywords) h = ap not (keyed_not k (and_parts (is_keyed k) (list_all is_keyed keywords) h).0)

none_behind : (keywords : List Keyed) → list_all is_keyed keywords ≡ true → list_any reader.is_positional (map keyed_text keywords) ≡ false
none_behind [] h = refl
none_behind (k ∷ keywords) h =
    let halves = and_parts (is_keyed k) (list_all is_keyed keywords) h in
    neither (reader.is_positional (keyed_text k)) (list_any reader.is_positional (map keyed_text keywords)) (keyed_not k halves.0)
    (none_behind keywords halves.1)

read_positional : (positional : List Value) → list_all is_positional positional ≡ true →
    map (λ part. read_of part part) (map spelled positional) ≡ map (λ v. Some (spelled v)) positional
read_positional [] h = refl
read_positional (v ∷ positional) h =
    let halves = and_parts (is_positional v) (list_all is_positional positional) h in
    let read = part_read (spelled v) None (positional_part v halves.0) in
    λ i. cond (read i) (Some (spelled v)) None ∷ read_positional positional halves.1 i

keywords_are : (keywords : List Keyed) → list_all is_keyed keywords ≡ true →
    keywords_of (map keyed_text keywords) ≡ map (λ k. record { key = k.key; value = Some (spelled k.value) }) keywords
keywords_are [] h = refl
keywords_are (k ∷ keywords) h =
    let halves = and_parts (is_keyed k) (list_all is_keyed keywords) h in
    let p = keyed_part k halves.0 in
    let read = part_read (keyed_text k) (Some (k.key, spelled k.value)) p in
    ap (λ (o : Option (List ℕ × List ℕ)). onto_keywords (keyed_text k) o (keywords_of (map keyed_text keywords))) p.keyword
    ∙ λ i. record { key = k.key; value = cond (read i) (Some (spelled k.value)) None } ∷ keywords_are keywords halves.1 i

keywords_behind : (positional : List Value) (parts : List (List ℕ)) → list_all is_positional positional ≡ true →
    keywords_of (map spelled positional ++ parts) ≡ keywords_of parts
keywords_behind [] parts h = refl
keywords_behind (v ∷ positional) parts h =
    let halves = and_parts (is_positional v) (list_all is_positional positional) h in
    ap (λ (o : Option (List ℕ × List ℕ)). onto_keywords (spelled v) o (keywords_of (map spelled positional ++ parts))) (positional_part v halves.0).keyword
    ∙ keywords_behind positional parts halves.1

positional_faultless : (positional : List Value) (parts : List (List ℕ)) → list_all is_positional positional ≡ true →
    flat_map part_faults (map spelled positional ++ parts) ≡ flat_map part_faults parts
positional_faultless [] parts h = refl
positional_faultless (v ∷ positional) parts h =
    let halves = and_parts (is_positional v) (list_all is_positional positional) h in
    ap (λ (faults : List Cause). faults ++ flat_map part_faults (map spelled positional ++ parts)) (no_faults (spelled v) (part_read
    (spelled v) None (positional_part v halves.0)))
    ∙ positional_faultless positional parts halves.1

keyed_faultless : (keywords : List Keyed) → list_all is_keyed keywords ≡ true → flat_map part_faults (map keyed_text keywords) ≡ []
keyed_faultless [] h = refl
keyed_faultless (k ∷ keywords) h =
    let halves = and_parts (is_keyed k) (list_all is_keyed keywords) h in
    ap (λ (faults : List Cause). faults ++ flat_map part_faults (map keyed_text keywords))
    (no_faults (keyed_text k) (part_read (keyed_text k) (Some (k.key, spelled k.value)) (keyed_part k halves.0)))
    ∙ keyed_faultless keywords halves.1

not_more : (n most : ℕ) → n ≤ most → nat_lt most n ≡ false
not_more n most h = grind (arith)

pub operand_is : (most : ℕ) (positional : List Value) (keywords : List Keyed) → list_all is_positional positional ≡ true → list_all is_keyed keywords ≡ true →
    length positional ≤ most → is_empty (operand_text positional keywords) ≡ false →
    operand_of most (operand_text positional keywords) ≡ operand positional keywords
operand_is most positional keywords h k fits some =
    let front : List (List ℕ) = map spelled positional in
    let behind : List (List ℕ) = map keyed_text keywords in
    let first : positional_parts (front ++ behind)
    ≡ front = front_is reader.is_positional front behind (front_positional positional h) (behind_stops keywords k) in
    let rest = behind_is reader.is_positional front behind (front_positional positional h) (behind_stops keywords k) in
    let crowded : is_crowded most (front ++ behind) ≡ false =
    (λ i. nat_lt most (length (first i)) || list_any reader.is_positional (rest i))
    ∙ neither (nat_lt most (length front)) (list_any reader.is_positional behind)
    (ap (nat_lt most) (length-map positional spelled) ∙ not_more (length positional) most fits) (none_behind keywords k) in
    let faultless : flat_map part_faults (front ++ behind) ≡ [] = positional_faultless positional behind h ∙ keyed_faultless keywords k in
    ap (operand_of_parts most) (parts_of_operand positional keywords h k some)
    ∙ λ i. record {
      positional = (ap (map (λ part. read_of part part)) first ∙ read_positional positional h) i;
      keywords = (keywords_behind positional behind h ∙ keywords_are keywords k) i;
      faults = faultless i ++ when (crowded i) (P TooManyPositional);
    }
