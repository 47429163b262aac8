-- A DD with its override. (GC28-6704, "Overriding, adding, and nullifying parameters on DD statements")
use Rattle.std.specs.Prelude.{ℕ, Bool, true, false, ◌||◌, Option, Some, None, if◌then◌else◌}
use Rattle.jcl_plan.specs.declared.fault.Cause.TheVariants.{P}
use Rattle.jcl_plan.specs.declared.fault.StatementFault.TheVariants.{ExcludeOneAnother}
use Rattle.operand_core.specs.Faults.{when}
use Rattle.value_core.specs.Reads.{Read, good}
use Rattle.jcl_cards.specs.declared.coded.Coded.{Coded}
use Rattle.jcl_cards.specs.declared.coded.Coded.TheVariants.{NotGiven, Nullified, Value}
use Rattle.jcl_cards.specs.Keywords.{is_given}
use Rattle.jcl_dds.specs.declared.dd.DdCard.{DdCard}
use Rattle.jcl_dds.specs.declared.dd.Word.{Word}
use Rattle.jcl_dds.specs.declared.dd.Word.TheVariants.{Cards, Dummy}
use Rattle.jcl_dds.specs.DdCards.{excludes, has_word}

-- one keyword: given it replaces, without a value it nullifies, not given it leaves what is there
abbrev pub overridden : {A : Type 0} → Coded A → Coded A → Coded A
overridden there NotGiven = there
overridden there Nullified = NotGiven
overridden there (Value a) = Value a

-- what is nullified is not given
abbrev pub settled : {A : Type 0} → Coded A → Coded A
settled there = overridden NotGiven there

-- DSNAME given removes DUMMY and SYSOUT
abbrev pub without_dummy : Bool → Option Word → Option Word
without_dummy true (Some Dummy) = None
without_dummy true (Some (Cards cards)) = Some (Cards cards)
without_dummy true None = None
without_dummy false word = word

abbrev pub without_sysout : Bool → Coded ℕ → Coded ℕ
without_sysout true class = NotGiven
without_sysout false class = class

-- a DD of its own: what is nullified is not given, and it has no step's name
abbrev pub by_itself : DdCard → DdCard
by_itself dd = record {
  qualifier = None;
  name = dd.name;
  word = dd.word;
  set_name = settled dd.set_name;
  disposition = settled dd.disposition;
  unit = settled dd.unit;
  volume = settled dd.volume;
  space = settled dd.space;
  sysout = settled dd.sysout;
  dd_name = settled dd.dd_name;
  label = settled dd.label;
  control_blocks = settled dd.control_blocks;
  character_set = settled dd.character_set;
  forms_control = settled dd.forms_control;
  output_limit = settled dd.output_limit;
}

-- SYSOUT, a word or DDNAME given replaces the whole DD
abbrev pub replaces : DdCard → Bool
replaces override = has_word override || is_given override.sysout || is_given override.dd_name

abbrev pub keyword_by_keyword : DdCard → DdCard → DdCard
keyword_by_keyword dd override = record {
  qualifier = None;
  name = dd.name;
  word = without_dummy (is_given override.set_name) dd.word;
  set_name = overridden dd.set_name override.set_name;
  disposition = overridden dd.disposition override.disposition;
  unit = overridden dd.unit override.unit;
  volume = overridden dd.volume override.volume;
  space = overridden dd.space override.space;
  sysout = without_sysout (is_given override.set_name) (overridden dd.sysout override.sysout);
  dd_name = overridden dd.dd_name override.dd_name;
  label = overridden dd.label override.label;
  control_blocks = overridden dd.control_blocks override.control_blocks;
  character_set = overridden dd.character_set override.character_set;
  forms_control = overridden dd.forms_control override.forms_control;
  output_limit = overridden dd.output_limit override.output_limit;
}

-- the DD keeps its name
abbrev pub merged : DdCard → DdCard → Read DdCard
merged dd override =
    if replaces override then good (record (by_itself override) { name = dd.name })
    else record { value = keyword_by_keyword dd override; faults = when (excludes (keyword_by_keyword dd override)) (P ExcludeOneAnother) }
