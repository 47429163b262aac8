-- a DD that says one word and nothing more
use Rattle.std.proofs.Common.{◌≡◌, ℕ, Bool, true, false, ◌||◌, List, [], ◌++◌, codes, Option, Some, Result, Ok, Err, refl, sym, ap, ◌∙◌, subst}
use Rattle.std.specs.Str.{bytes_eq}
use Rattle.std.proofs.lemmas.List.{append-nil}
use Rattle.std.proofs.lemmas.Slice.Eq.{bytes_eq-Decides}
use Rattle.jcl_plan.specs.declared.fault.Cause.{Cause}
use Rattle.value_core.specs.Reads.{IsRead, Read, answer}
use Rattle.value_core.proofs.Both.{ok_is, err_is}
use Rattle.jcl_cards.specs.declared.coded.Coded.TheVariants.{NotGiven}
use Rattle.jcl_dds.specs.declared.dd.DdCard.{DdCard}
use Rattle.jcl_dds.specs.declared.dd.Word.{Word}
use Rattle.jcl_dds.specs.DdCards.{dd_card, dd_name_faults, is_word, word_of}
use Rattle.jcl_dds.specs.DdKeys.{CodesNothing}
use Rattle.jcl_dds.specs.Dds.{dd_names}
use Rattle.jcl_dds.proofs.Beside.{card_parts}

abbrev Names : Type 0
Names = Option (List ℕ) × Option (List ℕ)

abbrev pub bare : Option Word → Names → DdCard
bare word names = record {
  qualifier = names.0;
  name = names.1;
  word = word;
  set_name = NotGiven;
  disposition = NotGiven;
  unit = NotGiven;
  volume = NotGiven;
  space = NotGiven;
  sysout = NotGiven;
  dd_name = NotGiven;
  label = NotGiven;
  control_blocks = NotGiven;
  character_set = NotGiven;
  forms_control = NotGiven;
  output_limit = NotGiven;
}

-- it has no fault but that of its name
abbrev word_only : List ℕ → List ℕ → Option (List (List ℕ)) → Read DdCard
word_only name text cards = record { value = bare (word_of (Some text) cards) (dd_names name).value; faults = dd_name_faults name }

abbrev IsWordOnly : List ℕ → Option (List (List ℕ)) → List ℕ → Type 0
IsWordOnly name cards text = answer (dd_card name text cards) ≡ answer (word_only name text cards)

nothing_more : (faults : List Cause) → faults ++ [] ++ [] ++ [] ++ [] ++ [] ≡ faults
nothing_more faults = simp append-nil

star : (name : List ℕ) (cards : Option (List (List ℕ))) → IsWordOnly name cards (codes "*")
star name cards =
    ap (λ faults. let r : Read DdCard = record { value = (word_only name (codes "*") cards).value; faults = faults } in answer r)
    (nothing_more (dd_name_faults name))

data_word : (name : List ℕ) (cards : Option (List (List ℕ))) → IsWordOnly name cards (codes "DATA")
data_word name cards =
    ap (λ faults. let r : Read DdCard = record { value = (word_only name (codes "DATA") cards).value; faults = faults } in answer r)
    (nothing_more (dd_name_faults name))

dummy : (name : List ℕ) (cards : Option (List (List ℕ))) → IsWordOnly name cards (codes "DUMMY")
dummy name cards =
    ap (λ faults. let r : Read DdCard = record { value = (word_only name (codes "DUMMY") cards).value; faults = faults } in answer r)
    (nothing_more (dd_name_faults name))

one_of_three : {P : Type 0} (a b d : Bool) → (a ≡ true → P) → (b ≡ true → P) → (d ≡ true → P) → (a || (b || (d || false))) ≡ true → P
one_of_three true b d f g h is = f refl
one_of_three false true d f g h is = g refl
one_of_three false false true f g h is = h refl
one_of_three false false false f g h is = absurd (cc)

at_text : (name : List ℕ) (cards : Option (List (List ℕ))) (text word : List ℕ) → IsWordOnly name cards word → bytes_eq text word ≡ true →
    IsWordOnly name cards text
at_text name cards text word is same = subst (IsWordOnly name cards) (sym ((bytes_eq-Decides text word).0 same)) is

word_alone : (name text : List ℕ) (cards : Option (List (List ℕ))) → is_word text ≡ true → IsWordOnly name cards text
word_alone name text cards is =
    one_of_three (bytes_eq text (codes "*")) (bytes_eq text (codes "DATA")) (bytes_eq text (codes "DUMMY"))
    (at_text name cards text (codes "*") (star name cards))
    (at_text name cards text (codes "DATA") (data_word name cards))
    (at_text name cards text (codes "DUMMY") (dummy name cards))
    is

-- its card, by the names that were read
pub word_read : (name text : List ℕ) (cards : Option (List (List ℕ))) {names : Result Names Cause} {found : Names} {word : Option Word} →
    is_word text ≡ true → IsRead names (dd_names name) → names ≡ Ok found → word ≡ word_of (Some text) cards →
    answer (dd_card name text cards) ≡ Ok (bare word found)
word_read name text cards {names} {found} {word} is read was word_is =
    word_alone name text cards is
    ∙ sym (ok_is (bare word) (dd_names name) (word_only name text cards) read was refl (ap (λ w. bare w (dd_names name).value) (sym word_is)))

-- put into a card that codes nothing
pub word_put : (name text : List ℕ) (cards : Option (List (List ℕ))) {names : Result Names Cause} {found : Names} {word : Option Word} {card : DdCard} →
    is_word text ≡ true → CodesNothing card → IsRead names (dd_names name) → names ≡ Ok found → word ≡ word_of (Some text) cards →
    let put : DdCard = record {
      qualifier = found.0;
      name = found.1;
      word = word;
      set_name = card.set_name;
      disposition = card.disposition;
      unit = card.unit;
      volume = card.volume;
      space = card.space;
      sysout = card.sysout;
      dd_name = card.dd_name;
      label = card.label;
      control_blocks = card.control_blocks;
      character_set = card.character_set;
      forms_control = card.forms_control;
      output_limit = card.output_limit;
    } in
    answer (dd_card name text cards) ≡ Ok put
word_put name text cards {names} {found} {word} {card} is nothing read was word_is =
    word_read name text cards is read was word_is
    ∙ ap (λ (put : DdCard). let r : Result DdCard Cause = Ok put in r)
    (card_parts refl refl refl (sym nothing.set_name) (sym nothing.disposition) (sym nothing.unit) (sym nothing.volume) (sym nothing.space)
    (sym nothing.sysout) (sym nothing.dd_name) (sym nothing.label) (sym nothing.control_blocks) (sym nothing.character_set) (sym nothing.forms_control)
    (sym nothing.output_limit))

-- and its fault
pub word_refused : (name text : List ℕ) (cards : Option (List (List ℕ))) {names : Result Names Cause} {fault : Cause} →
    is_word text ≡ true → IsRead names (dd_names name) → names ≡ Err fault → answer (dd_card name text cards) ≡ Err fault
word_refused name text cards {names} {fault} is read was =
    let r : Result DdCard Cause = Err fault in
    let told : IsRead r (word_only name text cards) = err_is (dd_names name) (word_only name text cards) read was refl (fault, refl, refl) in
    word_alone name text cards is ∙ sym told
