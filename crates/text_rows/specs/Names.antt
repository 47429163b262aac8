-- Names of worked examples, and the faults that are told of others: `Name8::read`, `UnitName::read`, `Serial::read`, `read_ds_name`, `read_base` and
-- `DsName`'s `base_of` and `generation` answer by these definitions (jname_core).
use Rattle.std.specs.Prelude.{◌≡◌, ℕ, ◌<◌, ◌≤◌, [], true, false, List, length, codes, Some, None}
use Rattle.jname_core.specs.Characters.{is_first, is_name_character}
use Rattle.jname_core.specs.Faults.{ds_name_fault, name8_fault, unit_name_fault}
use Rattle.jname_core.specs.Generations.{base_of, generation_name, generation_of}
use Rattle.jname_core.specs.Grammar.{IsSerial}
use Rattle.jname_core.specs.RefusalNumbers.{number_of}
use Rattle.jname_core.specs.declared.fault.NameFault.TheVariants.{BadCharacter, BadGeneration, Empty, TooLong}

-- 35 and 36 characters: the longest base, and one more
abbrev pub longest_base : List ℕ
longest_base = codes "ABCDEFGH.ABCDEFGH.ABCDEFGH.ABCDEFGH"

abbrev pub longer_base : List ℕ
longer_base = codes "ABCDEFGH.ABCDEFGH.ABCDEFGH.ABCDEF.HI"

-- 44 and 45 characters: the longest name, and one more
abbrev pub longest_name : List ℕ
longest_name = codes "ABCDEFGH.ABCDEFGH.ABCDEFGH.ABCDEFGH.ABCDEFGH"

abbrev pub longer_name : List ℕ
longer_name = codes "ABCDEFGH.ABCDEFGH.ABCDEFGH.ABCDEFGH.ABCDEF.HI"

-- `character::is_first` gives this (jname_core)
pub record TellsFirstCharacters : Type 0 where
  pub capital_a : is_first 65 ≡ true
  pub capital_z : is_first 90 ≡ true
  pub number_sign : is_first 35 ≡ true
  pub at_sign : is_first 64 ≡ true
  pub dollar_sign : is_first 36 ≡ true
  pub digit_0 : is_first 48 ≡ false
  pub digit_9 : is_first 57 ≡ false
  pub hyphen : is_first 45 ≡ false
  pub period : is_first 46 ≡ false
  pub small_a : is_first 97 ≡ false
  pub bracket : is_first 91 ≡ false
  pub slash : is_first 47 ≡ false
  pub colon : is_first 58 ≡ false
  pub quotation_mark : is_first 34 ≡ false

-- `character::is_name_character` gives this
pub record TellsNameCharacters : Type 0 where
  pub capital_a : is_name_character 65 ≡ true
  pub capital_z : is_name_character 90 ≡ true
  pub number_sign : is_name_character 35 ≡ true
  pub at_sign : is_name_character 64 ≡ true
  pub dollar_sign : is_name_character 36 ≡ true
  pub digit_0 : is_name_character 48 ≡ true
  pub digit_9 : is_name_character 57 ≡ true
  pub hyphen : is_name_character 45 ≡ false
  pub period : is_name_character 46 ≡ false
  pub small_a : is_name_character 97 ≡ false
  pub bracket : is_name_character 91 ≡ false
  pub slash : is_name_character 47 ≡ false
  pub colon : is_name_character 58 ≡ false
  pub quotation_mark : is_name_character 34 ≡ false

-- `Name8::read` reads a text where this is none, which is exactly where the text is a name, and else tells it
pub record ReadsNames : Type 0 where
  pub one : name8_fault (codes "A") ≡ None
  pub of_each_kind : name8_fault (codes "#@$09") ≡ None
  pub eight : name8_fault (codes "ABCDEFGH") ≡ None
  pub empty : name8_fault [] ≡ Some Empty
  pub nine : name8_fault (codes "ABCDEFGHI") ≡ Some TooLong
  pub nine_with_a_hyphen : name8_fault (codes "ABCDEFGH-") ≡ Some TooLong
  pub begins_with_a_digit : name8_fault (codes "1A") ≡ Some BadCharacter
  pub begins_with_a_hyphen : name8_fault (codes "-A") ≡ Some BadCharacter
  pub hyphen : name8_fault (codes "A-B") ≡ Some BadCharacter
  pub period : name8_fault (codes "A.B") ≡ Some BadCharacter
  pub small_letter : name8_fault (codes "a") ≡ Some BadCharacter

-- so `UnitName::read`
pub record ReadsUnitNames : Type 0 where
  pub of_digits : unit_name_fault (codes "3330") ≡ None
  pub of_letters : unit_name_fault (codes "SYSDA") ≡ None
  pub eight : unit_name_fault (codes "2314ABCD") ≡ None
  pub empty : unit_name_fault [] ≡ Some Empty
  pub nine : unit_name_fault (codes "SYSDASQ23") ≡ Some TooLong
  pub nine_with_a_hyphen : unit_name_fault (codes "2314-ABCD") ≡ Some TooLong
  pub hyphen : unit_name_fault (codes "2314-A") ≡ Some BadCharacter

-- `Serial::read` reads a text exactly where it is a serial
pub record ReadsSerials : Type 0 where
  pub one : IsSerial (codes "1")
  pub six : IsSerial (codes "000001")
  pub hyphen_and_dollar : IsSerial (codes "VOL-1$")
  pub hyphen_alone : IsSerial (codes "-")
  pub empty : IsSerial [] → ⊥
  pub seven : IsSerial (codes "0000001") → ⊥
  pub period : IsSerial (codes "VOL.1") → ⊥
  pub small_letters : IsSerial (codes "vol1") → ⊥

-- `read_ds_name` reads a text where this is none, and else tells it
pub record ReadsDsNames : Type 0 where
  pub one : ds_name_fault 44 (codes "A") ≡ None
  pub two_components : ds_name_fault 44 (codes "ABCDEFGH.IJKLMNOP") ≡ None
  pub hyphen : ds_name_fault 44 (codes "A-B") ≡ None
  pub ends_with_a_hyphen : ds_name_fault 44 (codes "A.B-") ≡ None
  pub longest : ds_name_fault 44 longest_name ≡ None
  pub generation : ds_name_fault 44 (codes "A.G0001V00") ≡ None
  pub last_generation : ds_name_fault 44 (codes "A.G9999V00") ≡ None
  pub no_base : ds_name_fault 44 (codes "G0001V00") ≡ None
  pub no_base_and_number_0 : ds_name_fault 44 (codes "G0000V00") ≡ None
  pub generation_of_a_generation : ds_name_fault 44 (codes "A.G0001V00.G0002V00") ≡ None
  pub number_0_within : ds_name_fault 44 (codes "A.G0000V00.G0002V00") ≡ None
  pub three_digits : ds_name_fault 44 (codes "A.G001V00") ≡ None
  pub no_digits : ds_name_fault 44 (codes "A.GABCDV00") ≡ None
  pub empty : ds_name_fault 44 [] ≡ Some Empty
  pub empty_component : ds_name_fault 44 (codes "A..B") ≡ Some Empty
  pub ends_with_a_period : ds_name_fault 44 (codes "A.") ≡ Some Empty
  pub begins_with_a_period : ds_name_fault 44 (codes ".A") ≡ Some Empty
  pub empty_before_bad : ds_name_fault 44 (codes "A..1") ≡ Some Empty
  pub empty_before_long : ds_name_fault 44 (codes "ABCDEFGHI.") ≡ Some Empty
  pub long_component : ds_name_fault 44 (codes "ABCDEFGHI") ≡ Some TooLong
  pub long_second_component : ds_name_fault 44 (codes "A.BCDEFGHIJ") ≡ Some TooLong
  pub long_before_bad : ds_name_fault 44 (codes "ABCDEFGHI.1") ≡ Some TooLong
  pub too_long : ds_name_fault 44 longer_name ≡ Some TooLong
  pub begins_with_a_digit : ds_name_fault 44 (codes "1A") ≡ Some BadCharacter
  pub component_begins_with_a_digit : ds_name_fault 44 (codes "A.1B") ≡ Some BadCharacter
  pub begins_with_a_hyphen : ds_name_fault 44 (codes "-A") ≡ Some BadCharacter
  pub component_begins_with_a_hyphen : ds_name_fault 44 (codes "A.-B") ≡ Some BadCharacter
  pub apostrophe : ds_name_fault 44 (codes "A.B'") ≡ Some BadCharacter
  pub character_before_generation : ds_name_fault 44 (codes "1.G0000V00") ≡ Some BadCharacter
  pub number_0 : ds_name_fault 44 (codes "A.G0000V00") ≡ Some BadGeneration
  pub version_1 : ds_name_fault 44 (codes "A.G0001V01") ≡ Some BadGeneration
  pub number_0_and_version_1 : ds_name_fault 44 (codes "A.G0000V01") ≡ Some BadGeneration

-- so `read_base`
pub record ReadsBases : Type 0 where
  pub longest : ds_name_fault 35 longest_base ≡ None
  pub generation : ds_name_fault 35 (codes "A.G0001V00") ≡ None
  pub empty : ds_name_fault 35 [] ≡ Some Empty
  pub too_long : ds_name_fault 35 longer_base ≡ Some TooLong
  pub apostrophe : ds_name_fault 35 (codes "A.B'") ≡ Some BadCharacter
  pub number_0 : ds_name_fault 35 (codes "A.G0000V00") ≡ Some BadGeneration

-- `DsName::base_of` gives this
pub record TellsBases : Type 0 where
  pub first : base_of (codes "A.G0001V00") ≡ (codes "A")
  pub last : base_of (codes "A.G9999V00") ≡ (codes "A")
  pub of_two_components : base_of (codes "A.B.G0120V00") ≡ (codes "A.B")
  pub of_a_generation : base_of (codes "A.G0001V00.G0002V00") ≡ (codes "A.G0001V00")
  pub no_base : base_of (codes "G0001V00") ≡ (codes "G0001V00")
  pub three_digits : base_of (codes "A.G001V00") ≡ (codes "A.G001V00")
  pub no_generation : base_of (codes "A.B") ≡ (codes "A.B")
  pub longest_base_comes_back : base_of (generation_name longest_base 7) ≡ longest_base

-- `DsName::generation_of` gives this
pub record TellsNumbers : Type 0 where
  pub first : generation_of (codes "A.G0001V00") ≡ Some 1
  pub last : generation_of (codes "A.G9999V00") ≡ Some 9999
  pub of_two_components : generation_of (codes "A.B.G0120V00") ≡ Some 120
  pub of_a_generation : generation_of (codes "A.G0001V00.G0002V00") ≡ Some 2
  pub no_base : generation_of (codes "G0001V00") ≡ None
  pub three_digits : generation_of (codes "A.G001V00") ≡ None
  pub no_generation : generation_of (codes "A.B") ≡ None

-- the numbers that generations of a base may have
abbrev pub IsNumbered : List ℕ → ℕ → Type 0
IsNumbered base number = (0 < number) × (number ≤ 9999) × (length base ≤ 35)

-- `DsName::generation` gives this name exactly where there is one of that number
pub record NamesGenerations : Type 0 where
  pub first : generation_name (codes "A") 1 ≡ (codes "A.G0001V00")
  pub fourfold : generation_name (codes "A") 1234 ≡ (codes "A.G1234V00")
  pub last : generation_name (codes "A") 9999 ≡ (codes "A.G9999V00")
  pub of_the_longest_base : length (generation_name longest_base 7) ≡ 44
  pub may_be_first : IsNumbered (codes "A") 1
  pub may_be_1234 : IsNumbered (codes "A") 1234
  pub may_be_last : IsNumbered (codes "A") 9999
  pub longest_base_has_one : IsNumbered longest_base 7
  pub none_of_number_0 : IsNumbered (codes "A") 0 → ⊥
  pub none_of_number_10000 : IsNumbered (codes "A") 10000 → ⊥
  pub none_of_a_longer_base : IsNumbered longer_base 7 → ⊥

-- `NameFault::number` gives this
pub record NumbersFaults : Type 0 where
  pub empty : number_of Empty ≡ 1
  pub too_long : number_of TooLong ≡ 2
  pub bad_character : number_of BadCharacter ≡ 3
  pub bad_generation : number_of BadGeneration ≡ 4
