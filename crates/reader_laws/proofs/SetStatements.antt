-- DD statements of a set by its name and DISP.
use Rattle.std.proofs.Common.{◌≡◌, ◌≤◌, ◌+◌, ◌++◌, ℕ, Bool, true, false, cond, List, [], ◌∷◌, Option, Some, None, Ok, length, refl, ap, ◌∙◌, arith, length-append, subst, sym}
use Rattle.std.specs.Prelude.{not, ◌&&◌, ◌||◌, ◌==◌, codes, nat_eq}
use Rattle.std.specs.List.{list_all, list_any, starts_with}
use Rattle.std.specs.Option.{unwrap_or}
use Rattle.std.proofs.lemmas.Bool.{and_parts}
use Rattle.jname_core.specs.declared.fault.NameFault.{NameFault}
use Rattle.jname_core.specs.declared.key.Key.{Key}
use Rattle.jname_core.specs.declared.key.Key.TheVariants.{Named}
use Rattle.jcl_plan.specs.declared.plan.ConditionalWord.{ConditionalWord}
use Rattle.jcl_plan.specs.declared.plan.ConditionalWord.TheVariants as conditional
use Rattle.jcl_plan.specs.declared.plan.Status.{Status}
use Rattle.jcl_plan.specs.declared.plan.Status.TheVariants as status
use Rattle.jcl_plan.specs.declared.plan.Word.{Word}
use Rattle.jcl_plan.specs.declared.plan.Word.TheVariants as word
use Rattle.operand_core.specs.Faults.{as_cause}
use Rattle.operand_core.specs.Operands.{Operand, operand_of}
use Rattle.value_core.specs.declared.set.Disposition.{Disposition}
use Rattle.value_core.specs.declared.set.SetName.{SetName}
use Rattle.value_core.specs.declared.set.SetName.TheVariants as set
use Rattle.value_core.specs.Dispositions.{conditional_of, disposition, disposition_of_places, status_of, word_of}
use Rattle.value_core.specs.Reads.{Read, answer, good, mapped}
use Rattle.value_core.specs.SetNames.{before_parenthesis, begins_amount, behind_ampersands, behind_parenthesis, ends_in_parenthesis, has_parentheses, is_open, named_part, of_dd, plain, relative, set_name, temporary, within_parentheses, without_last}
use Rattle.jcl_cards.specs.declared.coded.Coded.{Coded}
use Rattle.jcl_cards.specs.declared.coded.Coded.TheVariants.{Value as Given}
use Rattle.jcl_cards.specs.Keywords.{coded_text}
use Rattle.jcl_dds.specs.declared.dd.DdCard.{DdCard}
use Rattle.jcl_dds.specs.DdCards.{dd_card}
use Rattle.reader_laws.specs.Spelled.{is_component, joined}
use Rattle.reader_laws.specs.SpelledOperands.{Value, Values, are_values, is_plain, is_value, of_characters, spelled}
use Rattle.reader_laws.specs.SpelledStatements.{IsSetName, conditional_text, empty_dd, is_name_or_none, keyed, name_text, only_status, set_operand, status_alone, status_text, three_words, word_text}
use Rattle.reader_laws.specs.WrittenCards.{is_empty}
use Rattle.reader_laws.proofs.DdStatements.{dd_named}
use Rattle.reader_laws.proofs.Groups.{group_is}
use Rattle.reader_laws.proofs.NamedStatements.{is_not, not_long, plain_value, text_is}
use Rattle.reader_laws.proofs.Names.{ds_name_is, joined_all}
use Rattle.reader_laws.proofs.Operands.{operand_is}

-- the words of DISP
status_read : (s : Status) → status_of (status_text s) ≡ good s
status_read status.New = refl
status_read status.Old = refl
status_read status.Shr = refl
status_read status.Mod = refl

word_read : (w : Option Word) → word_of (word_text w) ≡ good w
word_read None = refl
word_read (Some word.Delete) = refl
word_read (Some word.Keep) = refl
word_read (Some word.Pass) = refl
word_read (Some word.Catlg) = refl
word_read (Some word.Uncatlg) = refl

conditional_read : (w : Option ConditionalWord) → conditional_of (conditional_text w) ≡ good w
conditional_read None = refl
conditional_read (Some conditional.Delete) = refl
conditional_read (Some conditional.Keep) = refl
conditional_read (Some conditional.Catlg) = refl
conditional_read (Some conditional.Uncatlg) = refl

-- each of them is short, of plain characters
record IsWord (text : List ℕ) : Type 0 where
  short : length (spelled (of_characters text)) ≤ 8
  value : is_value (of_characters text) ≡ true

status_word : (s : Status) → IsWord (status_text s)
status_word status.New = record { short = omega arith; value = refl }
status_word status.Old = record { short = omega arith; value = refl }
status_word status.Shr = record { short = omega arith; value = refl }
status_word status.Mod = record { short = omega arith; value = refl }

normal_word : (w : Option Word) → IsWord (word_text w)
normal_word None = record { short = omega arith; value = refl }
normal_word (Some word.Delete) = record { short = omega arith; value = refl }
normal_word (Some word.Keep) = record { short = omega arith; value = refl }
normal_word (Some word.Pass) = record { short = omega arith; value = refl }
normal_word (Some word.Catlg) = record { short = omega arith; value = refl }
normal_word (Some word.Uncatlg) = record { short = omega arith; value = refl }

conditional_word : (w : Option ConditionalWord) → IsWord (conditional_text w)
conditional_word None = record { short = omega arith; value = refl }
conditional_word (Some conditional.Delete) = record { short = omega arith; value = refl }
conditional_word (Some conditional.Keep) = record { short = omega arith; value = refl }
conditional_word (Some conditional.Catlg) = record { short = omega arith; value = refl }
conditional_word (Some conditional.Uncatlg) = record { short = omega arith; value = refl }

-- how DISP is spelled, what that is, and that it is short
record IsDisp (words : Value) (d : Disposition) : Type 0 where
  value : is_value words ≡ true
  short : length (spelled words) ≤ 32
  read : coded_text disposition (Some (spelled words)) ≡ good (Given d)

words_places : (d : Disposition) → Values
words_places d =
    Values.Before (of_characters (status_text d.status)) (Values.Before (of_characters (word_text d.normal)) (Values.Last
    (of_characters (conditional_text d.conditional))))

words_values : (d : Disposition) → are_values (words_places d) ≡ true
unfolding words_places
words_values d = λ i. (status_word d.status).value i && ((normal_word d.normal).value i && (conditional_word d.conditional).value i)

words_are : (d : Disposition) → disposition (spelled (three_words d)) ≡ good d
unfolding words_places
words_are d =
    ap disposition_of_places (group_is (words_places d) (words_values d))
    ∙ (λ i. disposition_of_places
    (text_is (status_text d.status) i ∷ text_is (word_text d.normal) i ∷ text_is (conditional_text d.conditional) i ∷ []))
    ∙ λ i. record {
      value = record { status = (status_read d.status i).value; normal = (word_read d.normal i).value; conditional = (conditional_read d.conditional i).value };
      faults = (status_read d.status i).faults ++ ((word_read d.normal i).faults ++ ((conditional_read d.conditional i).faults ++ []));
    }

three_short : (a b c : List ℕ) → length a ≤ 8 → length b ≤ 8 → length c ≤ 8 → length (40 ∷ ((a ++ 44 ∷ (b ++ 44 ∷ c)) ++ 41 ∷ [])) ≤ 32
three_short a b c h k l =
    let first : length (a ++ 44 ∷ (b ++ 44 ∷ c)) ≡ length a + length (44 ∷ (b ++ 44 ∷ c)) = length-append a (44 ∷ (b ++ 44 ∷ c)) in
    let second : length (b ++ 44 ∷ c) ≡ length b + length (44 ∷ c) = length-append b (44 ∷ c) in
    let all : length ((a ++ 44 ∷ (b ++ 44 ∷ c)) ++ 41 ∷ []) ≡ length (a ++ 44 ∷ (b ++ 44 ∷ c)) + 1 =
    length-append (a ++ 44 ∷ (b ++ 44 ∷ c)) (41 ∷ []) in
    omega arith

words_disp : (d : Disposition) → IsDisp (three_words d) d
unfolding words_places
words_disp d = record {
  value = ap (λ (b : Bool). b && true) (words_values d);
  short = three_short (spelled (of_characters (status_text d.status))) (spelled (of_characters (word_text d.normal)))
      (spelled (of_characters (conditional_text d.conditional))) (status_word d.status).short (normal_word d.normal).short
      (conditional_word d.conditional).short;
  read = ap (mapped Given) (words_are d);
}

status_disp : (s : Status) → IsDisp (status_alone s) (only_status s)
status_disp status.New = record { value = refl; short = omega arith; read = refl }
status_disp status.Old = record { value = refl; short = omega arith; read = refl }
status_disp status.Shr = record { value = refl; short = omega arith; read = refl }
status_disp status.Mod = record { value = refl; short = omega arith; read = refl }

-- DSN
no_start : (c : ℕ) (text more : List ℕ) → list_all (λ d. not (c == d)) text ≡ true → starts_with nat_eq text (c ∷ more) ≡ false
no_start c [] more h = refl
no_start c (d ∷ text) more h =
    ap (λ (b : Bool). b && starts_with nat_eq text more) (is_not (c == d) (and_parts (not (c == d)) (list_all (λ e. not (c == e)) text) h).0)

none_open : (text : List ℕ) → list_all (λ c. not (is_open c)) text ≡ true → list_any is_open text ≡ false
none_open [] h = refl
none_open (c ∷ text) h =
    let halves = and_parts (not (is_open c)) (list_all (λ d. not (is_open d)) text) h in
    ap (λ (b : Bool). b || list_any is_open text) (is_not (is_open c) halves.0) ∙ none_open text halves.1

coded_some : (text : List ℕ) → is_empty text ≡ false → coded_text set_name (Some text) ≡ mapped Given (set_name text)
coded_some [] h = absurd cc
coded_some (c ∷ text) h = refl

joined_something : (part : List ℕ) (parts : List (List ℕ)) → list_all is_component (part ∷ parts) ≡ true → is_empty (joined (part ∷ parts)) ≡ false
joined_something [] parts h = absurd cc
joined_something (c ∷ part) [] h = refl
joined_something (c ∷ part) (next ∷ parts) h = refl

-- the key of a text, by whether it has parentheses
within_by : Bool → List ℕ → Option (List ℕ)
within_by has text = cond has (Some (without_last (behind_parenthesis text))) None

named_by : Bool → List ℕ → List ℕ
named_by has text = cond has (before_parenthesis text) text

by_parentheses : Bool → List ℕ → Read Key
by_parentheses has text =
    cond (begins_amount (within_by has text)) (relative (named_by has text) (unwrap_or (within_by has text) [])) (plain (named_by has text)
    (within_by has text))

of_temporary : List ℕ → Read Key
of_temporary text = temporary (behind_ampersands (named_part text)) (within_parentheses text)

key_is : (part : List ℕ) (parts : List (List ℕ)) → IsSetName part parts → set_name (joined (part ∷ parts)) ≡ good (set.Of (Named (joined (part ∷ parts))))
unfolding within_by named_by by_parentheses of_temporary
key_is part parts h =
    let text : List ℕ = joined (part ∷ parts) in
    let star : starts_with nat_eq text (codes "*.") ≡ false =
    no_start 42 text (codes ".") (joined_all (λ c. not (42 == c)) part parts refl refl refl h.components) in
    let ampersand : starts_with nat_eq text (codes "&") ≡ false =
    no_start 38 text [] (joined_all (λ c. not (38 == c)) part parts refl refl refl h.components) in
    let none : list_any is_open text ≡ false = none_open text (joined_all (λ c. not (is_open c)) part parts refl refl refl h.components) in
    let by_open : Bool → Read SetName = λ opens. mapped set.Of (by_parentheses (opens && ends_in_parenthesis text) text) in
    let by_key : Bool → Read Key = λ begins. cond begins (of_temporary text) (by_parentheses (has_parentheses text) text) in
    (λ i. cond (h.no_null i) (good set.Null) (cond (star i) (of_dd text) (mapped set.Of (by_key (ampersand i)))))
    ∙ ap by_open none
    ∙ ap (λ (fault : Option NameFault). let r : Read SetName = record { value = set.Of (Named text); faults = as_cause fault ++ [] } in r)
    (ds_name_is part parts h.components h.fits h.no_generation)

name_read : (part : List ℕ) (parts : List (List ℕ)) → IsSetName part parts →
    coded_text set_name (Some (joined (part ∷ parts))) ≡ good (Given (set.Of (Named (joined (part ∷ parts)))))
name_read part parts h = coded_some (joined (part ∷ parts)) (joined_something part parts h.components) ∙ ap (mapped Given) (key_is part parts h)

abbrev of_set : List ℕ → List ℕ → Operand
of_set text words = record {
  positional = [];
  keywords = record { key = codes "DSN"; value = Some text } ∷ record { key = codes "DISP"; value = Some words } ∷ [];
  faults = [];
}

set_operand_is : (part : List ℕ) (parts : List (List ℕ)) (words : Value) → IsSetName part parts → is_value words ≡ true →
    operand_of 1 (set_operand (joined (part ∷ parts)) words) ≡ of_set (joined (part ∷ parts)) (spelled words)
set_operand_is part parts words h k =
    let text : List ℕ = joined (part ∷ parts) in
    operand_is 1 [] (keyed (codes "DSN") text ∷ record { key = codes "DISP"; value = words } ∷ []) refl
    (λ i. plain_value text (joined_all is_plain part parts refl refl refl h.components) i && (k i && true)) (omega arith) refl
    ∙ ap (λ (name : List ℕ). of_set name (spelled words)) (text_is text)

set_short : (name words : List ℕ) → length name ≤ 44 → length words ≤ 32 →
    length ((codes "DSN" ++ 61 ∷ name) ++ 44 ∷ (codes "DISP" ++ 61 ∷ words)) ≤ 1024
set_short name words h k =
    let sum : length (name ++ 44 ∷ (codes "DISP=" ++ words)) ≡ length name + length (44 ∷ (codes "DISP=" ++ words)) =
    length-append name (44 ∷ (codes "DISP=" ++ words)) in
    omega arith

set_is : (name : Option (List ℕ)) (part : List ℕ) (parts : List (List ℕ)) (words : Value) (d : Disposition) → is_name_or_none name ≡ true →
    IsSetName part parts → IsDisp words d →
    answer (dd_card (name_text name) (set_operand (joined (part ∷ parts)) words) None)
    ≡ Ok (record (empty_dd name) { set_name = Given (set.Of (Named (joined (part ∷ parts)))); disposition = Given d })
set_is name part parts words d h k w =
    let text : List ℕ = joined (part ∷ parts) in
    let fits : length (spelled (of_characters text)) ≤ 44 = subst (λ (t : List ℕ). length t ≤ 44) (sym (text_is text)) k.fits in
    let card : Read (Coded SetName) → Read (Coded Disposition) → DdCard =
    λ key disp. record (empty_dd None) { set_name = key.value; disposition = disp.value } in
    dd_named name (set_operand text words) (of_set text (spelled words)) None
    (record (empty_dd None) { set_name = Given (set.Of (Named text)); disposition = Given d }) h
    (not_long (length (set_operand text words)) (set_short (spelled (of_characters text)) (spelled words) fits w.short))
    (set_operand_is part parts words k w.value)
    (λ i. (name_read part parts k i).faults ++ [] ++ ((w.read i).faults ++ []) ++ [] ++ [] ++ [] ++ [] ++ [] ++ [] ++ [] ++ [] ++ [] ++ [])
    (λ i. card (name_read part parts k i) (w.read i))

pub words_are_read : (name : Option (List ℕ)) (part : List ℕ) (parts : List (List ℕ)) (d : Disposition) → is_name_or_none name ≡ true →
    IsSetName part parts → answer (dd_card (name_text name) (set_operand (joined (part ∷ parts)) (three_words d)) None)
    ≡ Ok (record (empty_dd name) { set_name = Given (set.Of (Named (joined (part ∷ parts)))); disposition = Given d })
words_are_read name part parts d h k = set_is name part parts (three_words d) d h k (words_disp d)

pub status_is_read : (name : Option (List ℕ)) (part : List ℕ) (parts : List (List ℕ)) (s : Status) → is_name_or_none name ≡ true →
    IsSetName part parts → answer (dd_card (name_text name) (set_operand (joined (part ∷ parts)) (status_alone s)) None)
    ≡ Ok (record (empty_dd name) { set_name = Given (set.Of (Named (joined (part ∷ parts)))); disposition = Given (only_status s) })
status_is_read name part parts s h k = set_is name part parts (status_alone s) (only_status s) h k (status_disp s)
