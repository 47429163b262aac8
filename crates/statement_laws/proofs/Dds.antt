-- A DD of which no fault is told.
use Rattle.std.proofs.Common.{◌≡◌, ℕ, ◌&&◌, ◌||◌, Bool, true, false, not, cond, nat_le, List, [], ◌∷◌, ◌++◌, length, codes, Option, Some, None, unwrap_or}
use Rattle.std.specs.Prelude.{All}
use Rattle.std.specs.List.{flat_map}
use Rattle.std.specs.Str.{bytes_eq}
use Rattle.std.proofs.lemmas.Bool.{cond_both, not-false}
use Rattle.std.proofs.lemmas.List.Elements.{All-nil}
use Rattle.jname_core.specs.Characters.{is_letter_or_digit}
use Rattle.jcl_plan.specs.declared.fault.Cause.{Cause}
use Rattle.jcl_plan.specs.declared.fault.Cause.TheVariants.{P}
use Rattle.jcl_plan.specs.declared.fault.StatementFault.TheVariants.{BadValue, ExcludeOneAnother}
use Rattle.operand_core.specs.Faults.{name_faults, when, written_name, written_name_faults}
use Rattle.operand_core.specs.Operands.{Keyword, Operand, first_of, operand_of}
use Rattle.operand_core.specs.Qualified.{head_of, is_qualified}
use Rattle.operand_core.specs.Subparameters.{first_place, subparameters_of}
use Rattle.operand_core.specs.Values.{class_of, is_output_class}
use Rattle.operand_core.proofs.Faultless.{none_behind, none_in_front}
use Rattle.list_values.specs.ControlBlocks.{control_blocks}
use Rattle.value_core.specs.Dispositions.{disposition}
use Rattle.value_core.specs.SetNames.{set_name}
use Rattle.value_core.specs.Spaces.{space}
use Rattle.value_core.specs.Units.{unit}
use Rattle.value_core.specs.VolumeNames.{volume_name}
use Rattle.cb_meaning.specs.Writable.{IsCard, IsName}
use Rattle.jcl_cards.specs.declared.coded.Coded.TheVariants.{Value}
use Rattle.jcl_cards.specs.Keywords.{coded_in, spelled, twice_faults}
use Rattle.jcl_cards.proofs.ExecNames.{and_first}
use Rattle.jcl_dds.specs.declared.dd.Word.TheVariants.{Cards, Dummy}
use Rattle.jcl_dds.specs.DdCards.{behind_period, card_of, dd_name, dd_name_faults, dd_name_of, dd_with, excludes, has_two_words, is_key, is_sysout, is_word, keyword_faults, positional_faults, sysout, unknown_on_dd, word_of}
use Rattle.value_core.specs.Labels.{label}
use Rattle.statement_laws.specs.CardLaws.{AreCards, DdCardsAreSound}
use Rattle.statement_laws.specs.Ranges.{CodesName, IsSoundClass, IsSoundDd, IsSoundKey, IsSoundLabel, IsSoundSpace, IsSoundVolume, IsSoundWord}
use Rattle.statement_laws.proofs.Faultless.{ReadIs, coded_is, name_is, told_is, when_none}
use Rattle.statement_laws.proofs.Names.{written_is}
use Rattle.statement_laws.proofs.SetNames.{set_name_is}
use Rattle.statement_laws.proofs.Labels.{label_is}
use Rattle.statement_laws.proofs.Spaces.{space_is}
use Rattle.statement_laws.proofs.VolumeNames.{volume_is}

-- its name, behind that of a step where one is named
name_by : (qualified : Bool) (name : List ℕ) →
    cond qualified (name_faults (head_of name) ++ name_faults (behind_period name)) (written_name_faults name) ≡ [] →
    IsName (cond qualified (Some (behind_period name)) (written_name name))
name_by true name none = name_is (behind_period name) (none_behind (name_faults (head_of name)) (name_faults (behind_period name)) none)
name_by false name none = written_is name none

dd_name_is : (name : List ℕ) → dd_name_faults name ≡ [] → IsName (dd_name_of name)
dd_name_is name none = name_by (is_qualified name) name none

-- the cards behind it
all_cards : (cards : Option (List (List ℕ))) → AreCards cards → All IsCard (unwrap_or cards [])
all_cards None are = All-nil IsCard
all_cards (Some cards) are = are

word_is : (first : Option (List ℕ)) (cards : Option (List (List ℕ))) → AreCards cards → IsSoundWord (word_of first cards)
word_is None cards are = tt
word_is (Some text) cards are =
    let given = Some (Cards (unwrap_or cards [])) in
    cond_both (bytes_eq text (codes "DUMMY")) (Some Dummy) (cond (is_word text) given None) IsSoundWord (λ is. tt)
    (λ is. cond_both (is_word text) given None IsSoundWord (λ is. all_cards cards are) (λ is. tt))

-- SYSOUT
class_by : (place : List ℕ) (few : Bool) → (is_output_class place && few) ≡ true → is_letter_or_digit (class_of (Some place)) ≡ true
class_by [] few is = absurd (cc)
class_by (c ∷ []) few is = and_first (is_letter_or_digit c) few is
class_by (c ∷ d ∷ cs) few is = absurd (cc)

sysout_is : (text : List ℕ) → ReadIs (λ class. IsSoundClass (Value class)) (sysout text)
sysout_is text none =
    class_by (first_place (subparameters_of text)) (nat_le (length (subparameters_of text)) 3)
    (not-false (is_sysout text) (when_none (not (is_sysout text)) (P BadValue) none))

-- the name and the keywords that have a range are without a fault
record AllRead (named : List ℕ) (keywords : List Keyword) : Type 0 where
  name : dd_name_faults named ≡ []
  set_name : (coded_in (is_key (codes "DSNAME")) set_name keywords).faults ≡ []
  volume : (coded_in (is_key (codes "VOLUME")) volume_name keywords).faults ≡ []
  space : (coded_in (is_key (codes "SPACE")) space keywords).faults ≡ []
  label : (coded_in (is_key (codes "LABEL")) label keywords).faults ≡ []
  sysout : (coded_in (is_key (codes "SYSOUT")) sysout keywords).faults ≡ []

keywords_read : (named : List ℕ) (keywords : List Keyword) → dd_name_faults named ≡ [] → keyword_faults keywords ≡ [] → AllRead named keywords
keywords_read named keywords name none =
    let a = (coded_in (is_key (codes "DSNAME")) set_name keywords).faults in
    let b = (coded_in (is_key (codes "DISP")) disposition keywords).faults in
    let c = (coded_in (is_key (codes "UNIT")) unit keywords).faults in
    let d = (coded_in (is_key (codes "VOLUME")) volume_name keywords).faults in
    let e = (coded_in (is_key (codes "SPACE")) space keywords).faults in
    let f = (coded_in (is_key (codes "SYSOUT")) sysout keywords).faults in
    let g = (coded_in (is_key (codes "DDNAME")) dd_name keywords).faults in
    let h = (coded_in (is_key (codes "LABEL")) label keywords).faults in
    let k = (coded_in (is_key (codes "DCB")) control_blocks keywords).faults in
    let nine = none_in_front (a ++ b ++ c ++ d ++ e ++ f ++ g ++ h ++ k) (flat_map unknown_on_dd keywords) none in
    let eight = none_in_front (a ++ b ++ c ++ d ++ e ++ f ++ g ++ h) k nine in
    let seven = none_in_front (a ++ b ++ c ++ d ++ e ++ f ++ g) h eight in
    let six = none_in_front (a ++ b ++ c ++ d ++ e ++ f) g seven in
    let five = none_in_front (a ++ b ++ c ++ d ++ e) f six in
    let four = none_in_front (a ++ b ++ c ++ d) e five in
    let three = none_in_front (a ++ b ++ c) d four in
    let two = none_in_front (a ++ b) c three in
    record {
      name = name;
      set_name = none_in_front a b two;
      volume = none_behind (a ++ b ++ c) d four;
      space = none_behind (a ++ b ++ c ++ d) e five;
      label = none_behind (a ++ b ++ c ++ d ++ e ++ f ++ g) h eight;
      sysout = none_behind (a ++ b ++ c ++ d ++ e) f six;
    }

all_read : (name : List ℕ) (operand : Operand) (cards : Option (List (List ℕ))) → (dd_with name operand cards).faults ≡ [] → AllRead name operand.keywords
all_read name operand cards none =
    let names : List Cause = dd_name_faults name in
    let first = positional_faults (first_of operand.positional) in
    let keywords = keyword_faults operand.keywords in
    let twice = twice_faults spelled operand.keywords in
    let excluded = when (has_two_words operand || excludes (card_of name operand cards)) (P ExcludeOneAnother) in
    let five = none_in_front (names ++ operand.faults ++ first ++ keywords ++ twice) excluded none in
    let four = none_in_front (names ++ operand.faults ++ first ++ keywords) twice five in
    let three = none_in_front (names ++ operand.faults ++ first) keywords four in
    let two = none_in_front (names ++ operand.faults) first three in
    keywords_read name operand.keywords (none_in_front names operand.faults two) (none_behind (names ++ operand.faults ++ first) keywords four)

dd_is : (name : List ℕ) (operand : Operand) (cards : Option (List (List ℕ))) → AreCards cards → ReadIs IsSoundDd (dd_with name operand cards)
dd_is name operand cards are none =
    let read = all_read name operand cards none in
    let keywords = operand.keywords in
    record {
      name = dd_name_is name read.name;
      word = word_is (first_of operand.positional) cards are;
      set_name = coded_is (CodesName IsSoundKey) (is_key (codes "DSNAME")) set_name tt tt set_name_is keywords read.set_name;
      volume = coded_is IsSoundVolume (is_key (codes "VOLUME")) volume_name tt tt volume_is keywords read.volume;
      space = coded_is IsSoundSpace (is_key (codes "SPACE")) space tt tt (λ text none. space_is text) keywords read.space;
      label = coded_is IsSoundLabel (is_key (codes "LABEL")) label tt tt (λ text none. label_is text) keywords read.label;
      class = coded_is IsSoundClass (is_key (codes "SYSOUT")) sysout tt tt sysout_is keywords read.sysout;
    }

pub dd_cards_are_sound : DdCardsAreSound
dd_cards_are_sound name operand cards are =
    told_is IsSoundDd (dd_name_faults name) operand (dd_with name (operand_of 1 operand) cards) (dd_is name (operand_of 1 operand) cards are)
