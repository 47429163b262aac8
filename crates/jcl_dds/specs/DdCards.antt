-- The DD statement. (GC28-6704, "DD statement")
use Rattle.std.specs.Prelude.{ℕ, ◌+◌, Bool, true, false, not, ◌&&◌, ◌||◌, nat_lt, nat_le, List, [], ◌∷◌, ◌++◌, drop, length, count_by, codes, Option, Some, None, unwrap_or, if◌then◌else◌}
use Rattle.std.specs.List.{flat_map}
use Rattle.std.specs.Str.{bytes_eq}
use Rattle.jcl_plan.specs.declared.fault.Cause.{Cause}
use Rattle.jcl_plan.specs.declared.fault.Cause.TheVariants.{P}
use Rattle.jcl_plan.specs.declared.fault.StatementFault.TheVariants.{BadValue, ExcludeOneAnother, LeftOut}
use Rattle.operand_core.specs.Faults.{name_faults, when, written_name, written_name_faults}
use Rattle.operand_core.specs.Keywords.{is_among, unknown_faults}
use Rattle.operand_core.specs.Operands.{Keyword, Operand, first_of, operand_of}
use Rattle.operand_core.specs.Qualified.{head_of, is_qualified}
use Rattle.operand_core.specs.Subparameters.{first_place, subparameters_of}
use Rattle.operand_core.specs.Values.{class_of, is_output_class}
use Rattle.value_core.specs.Dispositions.{disposition}
use Rattle.value_core.specs.Labels.{label}
use Rattle.list_values.specs.ControlBlocks.{control_blocks}
use Rattle.value_core.specs.Reads.{Read, good}
use Rattle.value_core.specs.SetNames.{set_name}
use Rattle.value_core.specs.Spaces.{space}
use Rattle.value_core.specs.Units.{unit}
use Rattle.value_core.specs.VolumeNames.{volume_name}
use Rattle.jcl_cards.specs.Keywords.{coded_in, is_given, spelled, twice_faults, unless_long}
use Rattle.jcl_dds.specs.declared.dd.DdCard.{DdCard}
use Rattle.jcl_dds.specs.declared.dd.Word.{Word}
use Rattle.jcl_dds.specs.declared.dd.Word.TheVariants.{Cards, Dummy}

-- a name may be qualified by that of a procedure's step
abbrev pub behind_period : List ℕ → List ℕ
behind_period name = drop (length (head_of name) + 1) name

abbrev pub dd_name_faults : List ℕ → List Cause
dd_name_faults name =
    if is_qualified name then name_faults (head_of name) ++ name_faults (behind_period name) else written_name_faults name

abbrev pub qualifier_of : List ℕ → Option (List ℕ)
qualifier_of name = if is_qualified name then Some (head_of name) else None

abbrev pub dd_name_of : List ℕ → Option (List ℕ)
dd_name_of name = if is_qualified name then Some (behind_period name) else written_name name

-- a keyword, however it is spelled
abbrev pub is_key : List ℕ → List ℕ → Bool
is_key wanted key = bytes_eq (spelled key) wanted

abbrev pub known_on_dd : List ℕ → Bool
known_on_dd key = is_among (codes "DSNAME" ∷ codes "DISP" ∷ codes "UNIT" ∷ codes "VOLUME" ∷ codes "SPACE" ∷ codes "SYSOUT" ∷ codes "DDNAME"
    ∷ codes "LABEL" ∷ codes "DCB" ∷ codes "UCS" ∷ codes "FCB" ∷ codes "OUTLIM" ∷ []) (spelled key)

abbrev pub left_out_on_dd : List ℕ → Bool
left_out_on_dd key = is_among (codes "AFF" ∷ codes "SEP" ∷ codes "SPLIT" ∷ codes "SUBALLOC" ∷ codes "QNAME" ∷ codes "DYNAM" ∷ codes "TERM" ∷ []) key

abbrev pub unknown_on_dd : Keyword → List Cause
unknown_on_dd k = if known_on_dd k.key then [] else unknown_faults left_out_on_dd k.key

-- SYSOUT: a class, by itself or as the first of at most three places
abbrev pub is_sysout : List ℕ → Bool
is_sysout text = is_output_class (first_place (subparameters_of text)) && nat_le (length (subparameters_of text)) 3

abbrev pub sysout : List ℕ → Read ℕ
sysout text = record { value = class_of (Some (first_place (subparameters_of text))); faults = when (not (is_sysout text)) (P BadValue) }

abbrev pub dd_name : List ℕ → Read (List ℕ)
dd_name text = record { value = text; faults = name_faults text }

-- what is not looked at
abbrev pub any_text : List ℕ → Read (Unit {0})
any_text text = good tt

-- the positional operand
abbrev pub is_word : List ℕ → Bool
is_word text = is_among (codes "*" ∷ codes "DATA" ∷ codes "DUMMY" ∷ []) text

abbrev pub is_read_word : Option (List ℕ) → Bool
is_read_word None = false
is_read_word (Some text) = is_word text

abbrev pub positional_faults : Option (List ℕ) → List Cause
positional_faults None = []
positional_faults (Some text) = if is_word text then [] else (if bytes_eq text (codes "DYNAM") then P LeftOut ∷ [] else P BadValue ∷ [])

abbrev pub word_of : Option (List ℕ) → Option (List (List ℕ)) → Option Word
word_of None cards = None
word_of (Some text) cards =
    if bytes_eq text (codes "DUMMY") then Some Dummy else (if is_word text then Some (Cards (unwrap_or cards [])) else None)

-- Which keywords and words exclude one another: two of a word, SYSOUT and DDNAME; data or DDNAME, and a keyword other than DCB; SYSOUT, and DSNAME
-- or DISP. It is asked of a DD statement and of one with its override.
abbrev pub has_word : DdCard → Bool
has_word dd = has dd.word
  where
    has : Option Word → Bool
    has None = false
    has (Some word) = true

abbrev pub has_data : DdCard → Bool
has_data dd = has dd.word
  where
    has : Option Word → Bool
    has None = false
    has (Some (Cards cards)) = true
    has (Some Dummy) = false

abbrev pub has_set_keyword : DdCard → Bool
has_set_keyword dd = is_given dd.set_name || is_given dd.disposition || is_given dd.unit || is_given dd.volume || is_given dd.space
    || is_given dd.label || is_given dd.character_set || is_given dd.forms_control || is_given dd.output_limit

abbrev pub excludes : DdCard → Bool
excludes dd =
    (has_word dd && (is_given dd.sysout || is_given dd.dd_name)) || (is_given dd.sysout && is_given dd.dd_name)
    || ((has_data dd || is_given dd.dd_name) && has_set_keyword dd)
    || (is_given dd.sysout && (is_given dd.set_name || is_given dd.disposition))

-- of two words the first counts, and they exclude one another
abbrev pub has_two_words : Operand → Bool
has_two_words operand = nat_lt 1 (count_by is_read_word operand.positional)

abbrev pub card_of : List ℕ → Operand → Option (List (List ℕ)) → DdCard
card_of name operand cards = record {
  qualifier = qualifier_of name;
  name = dd_name_of name;
  word = word_of (first_of operand.positional) cards;
  set_name = (coded_in (is_key (codes "DSNAME")) set_name operand.keywords).value;
  disposition = (coded_in (is_key (codes "DISP")) disposition operand.keywords).value;
  unit = (coded_in (is_key (codes "UNIT")) unit operand.keywords).value;
  volume = (coded_in (is_key (codes "VOLUME")) volume_name operand.keywords).value;
  space = (coded_in (is_key (codes "SPACE")) space operand.keywords).value;
  sysout = (coded_in (is_key (codes "SYSOUT")) sysout operand.keywords).value;
  dd_name = (coded_in (is_key (codes "DDNAME")) dd_name operand.keywords).value;
  label = (coded_in (is_key (codes "LABEL")) label operand.keywords).value;
  control_blocks = (coded_in (is_key (codes "DCB")) control_blocks operand.keywords).value;
  character_set = (coded_in (is_key (codes "UCS")) any_text operand.keywords).value;
  forms_control = (coded_in (is_key (codes "FCB")) any_text operand.keywords).value;
  output_limit = (coded_in (is_key (codes "OUTLIM")) any_text operand.keywords).value;
}

abbrev pub keyword_faults : List Keyword → List Cause
keyword_faults keywords =
    (coded_in (is_key (codes "DSNAME")) set_name keywords).faults
    ++ (coded_in (is_key (codes "DISP")) disposition keywords).faults
    ++ (coded_in (is_key (codes "UNIT")) unit keywords).faults
    ++ (coded_in (is_key (codes "VOLUME")) volume_name keywords).faults
    ++ (coded_in (is_key (codes "SPACE")) space keywords).faults
    ++ (coded_in (is_key (codes "SYSOUT")) sysout keywords).faults
    ++ (coded_in (is_key (codes "DDNAME")) dd_name keywords).faults
    ++ (coded_in (is_key (codes "LABEL")) label keywords).faults
    ++ (coded_in (is_key (codes "DCB")) control_blocks keywords).faults
    ++ flat_map unknown_on_dd keywords

abbrev pub dd_with : List ℕ → Operand → Option (List (List ℕ)) → Read DdCard
dd_with name operand cards = record {
  value = card_of name operand cards;
  faults = dd_name_faults name ++ operand.faults ++ positional_faults (first_of operand.positional) ++ keyword_faults operand.keywords
      ++ twice_faults spelled operand.keywords ++ when (has_two_words operand || excludes (card_of name operand cards)) (P ExcludeOneAnother);
}

-- one positional operand is
abbrev pub dd_card : List ℕ → List ℕ → Option (List (List ℕ)) → Read DdCard
dd_card name operand cards = unless_long (dd_name_faults name) operand (dd_with name (operand_of 1 operand) cards)
