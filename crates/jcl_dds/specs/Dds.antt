-- What the parts of the reading of a DD say.
use Rattle.std.specs.Prelude.{ℕ, Bool, false, not, ◌&&◌, ◌||◌, nat_lt, List, ◌++◌, codes, count_by, Option, None, Some}
use Rattle.std.specs.Str.{bytes_eq}
use Rattle.jcl_plan.specs.declared.fault.Cause.{Cause}
use Rattle.jcl_plan.specs.declared.fault.Cause.TheVariants.{P}
use Rattle.jcl_plan.specs.declared.fault.StatementFault.TheVariants.{ExcludeOneAnother}
use Rattle.operand_core.specs.Faults.{name_faults, when}
use Rattle.operand_core.specs.Operands.{Keyword, first_of}
use Rattle.operand_core.specs.Qualified.{head_of}
use Rattle.value_core.specs.Reads.{Read}
use Rattle.jcl_cards.specs.declared.coded.Coded.{Coded}
use Rattle.jcl_cards.specs.Keywords.{coded_in, is_given}
use Rattle.jcl_dds.specs.declared.dd.DdCard.{DdCard}
use Rattle.jcl_dds.specs.declared.given.Given.{Given}
use Rattle.jcl_dds.specs.DdCards.{any_text, behind_period, dd_name_faults, dd_name_of, has_data, has_set_keyword, has_word, is_key, is_read_word, is_word, qualifier_of}

-- whether a keyword is coded
abbrev pub coding : List ℕ → List Keyword → Coded (Unit {0})
coding key keywords = (coded_in (is_key key) any_text keywords).value

abbrev pub is_coded : List ℕ → List Keyword → Bool
is_coded key keywords = is_given (coding key keywords)

-- what stands on a DD, by its first positional part and its keywords
abbrev pub any_given : List Keyword → Bool
any_given keywords = is_coded (codes "DSNAME") keywords || is_coded (codes "DISP") keywords || is_coded (codes "UNIT") keywords
    || is_coded (codes "VOLUME") keywords || is_coded (codes "SPACE") keywords || is_coded (codes "LABEL") keywords || is_coded (codes "UCS") keywords
    || is_coded (codes "FCB") keywords || is_coded (codes "OUTLIM") keywords

abbrev pub is_data_word : Option (List ℕ) → Bool
is_data_word None = false
is_data_word (Some text) = is_word text && not (bytes_eq text (codes "DUMMY"))

abbrev pub given_in : Option (List ℕ) → List Keyword → Given
given_in first keywords = record {
  word = is_read_word first;
  cards = is_data_word first;
  set = is_coded (codes "DSNAME") keywords || is_coded (codes "DISP") keywords;
  any = any_given keywords;
  sysout = is_coded (codes "SYSOUT") keywords;
  dd_name = is_coded (codes "DDNAME") keywords;
}

-- what stands on a DD that was read
abbrev pub given_on : DdCard → Given
given_on dd = record {
  word = has_word dd;
  cards = has_data dd;
  set = is_given dd.set_name || is_given dd.disposition;
  any = has_set_keyword dd;
  sysout = is_given dd.sysout;
  dd_name = is_given dd.dd_name;
}

abbrev pub is_excluded : Given → Bool
is_excluded given =
    (given.word && (given.sysout || given.dd_name)) || (given.sysout && given.dd_name) || ((given.cards || given.dd_name) && given.any)
    || (given.sysout && given.set)

-- the names of a DD
abbrev pub qualified_names : List ℕ → Read (List ℕ × List ℕ)
qualified_names name = record {
  value = (head_of name, behind_period name);
  faults = name_faults (head_of name) ++ name_faults (behind_period name);
}

abbrev pub dd_names : List ℕ → Read (Option (List ℕ) × Option (List ℕ))
dd_names name = record { value = (qualifier_of name, dd_name_of name); faults = dd_name_faults name }

-- words and keywords that exclude one another
abbrev pub excluded_faults : List (Option (List ℕ)) → List Keyword → List Cause
excluded_faults positional keywords =
    when (nat_lt 1 (count_by is_read_word positional) || is_excluded (given_in (first_of positional) keywords)) (P ExcludeOneAnother)
