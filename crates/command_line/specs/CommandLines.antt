-- What the words of a command line ask for.
use Rattle.std.specs.Prelude.{◌≡◌, ℕ, Bool, true, false, ◌++◌, List, [], ◌∷◌, codes, filter, is_some, if◌then◌else◌, map, Option, Some, None, IfOk, Result, pos}
use Rattle.std.specs.Prelude.{option_map}
use Rattle.std.specs.Borrow.{Bor}
use Rattle.std.specs.List.{list_any}
use Rattle.clap.specs.Words.{App, FailsBy, Kinds, Row, Rule, Text, fault_of, first_of, matches_of, new_app, new_rule, with_rule}
use Rattle.clap.specs.Kinds.{or_else}
use Rattle.clap.specs.Simple.{on_top}
use Rattle.clap.specs.declared.builder.action.ArgAction.TheVariants as action
use Rattle.clap.specs.declared.builder.value_parser.ValueParser.TheVariants as parser
use Rattle.clap.specs.declared.error.Error.{Error}
use Rattle.clap.specs.declared.error.kind.ErrorKind.TheVariants as kind
use Rattle.jname_core.specs.Decimals.{number_within}
use Rattle.command_line.specs.declared.options.Asked.{Asked}
use Rattle.command_line.specs.declared.program.Flag.{Flag}
use Rattle.run_options.specs.declared.Options.{Options}
use Rattle.run_options.specs.declared.RiskChoice.{RiskChoice}
use Rattle.run_options.specs.declared.RiskChoice.TheVariants as risk
use Rattle.std.specs.Str.{bytes_eq}

-- the texts behind references
abbrev pub texts : List (Bor Text) → List Text
texts = map (λ text. text.now)

abbrev pub has_text : Text → List Text → Bool
has_text text = list_any (λ other. bytes_eq other text)

-- the words that `--risk` takes, wherever they stand in memory
abbrev pub Choices : Type 0
Choices = Bor (List (Bor Text))

abbrev pub AreChoices : Choices → Type 0
AreChoices choices = map (λ word. word.now) choices.now ≡ codes "run" ∷ codes "refuse" ∷ []

-- the options of every program that take one value, and have one where they are not used
abbrev pub risk_option : Choices → Rule
risk_option choices = record (new_rule (codes "risk")) {
  long = Some (codes "risk");
  value_names = 1;
  parser = Some (parser.Names choices);
  defaults = codes "run" ∷ [];
}

abbrev pub views_option : Rule
views_option = record (new_rule (codes "views")) {
  long = Some (codes "views");
  value_names = 1;
  parser = Some (parser.Signed (pos 1) (pos 1024));
  defaults = codes "1024" ∷ [];
}

-- an option that takes no value: a flag
abbrev pub flag_option : Text → Rule
flag_option name = record (new_rule name) {
  long = Some name;
  action = Some action.SetTrue;
}

abbrev pub explain_option : Rule
explain_option = flag_option (codes "explain")

-- the options of a program's own are flags
abbrev pub with_flags : App → List Text → App
with_flags app flags = on_top (λ top. record top { rules = top.rules ++ map flag_option flags }) app

abbrev pub names_of : List Flag → List Text
names_of = map (λ flag. flag.name.now)

-- it tells a version
abbrev pub with_version : App → App
with_version = on_top (λ top. record top { has_version = true })

-- the command line of the program of this name
abbrev pub program_with : Text → List Text → Choices → App
program_with name flags choices =
    with_flags (with_rule (with_rule (with_rule (with_version (new_app name)) (risk_option choices)) views_option) explain_option) flags

-- a command line is the program's
pub record IsProgram (name : Text) (flags : List Text) (app : App) : Type 0 where
  pub choices : Choices
  pub choices_so : AreChoices choices
  pub app_so : app ≡ program_with name flags choices

-- a job at risk is refused where the option says so, and else it runs
abbrev pub risk_in : Option Text → RiskChoice
risk_in None = risk.Run
risk_in (Some text) = if bytes_eq text (codes "refuse") then risk.Refuse else risk.Run

-- how many views are asked for: of the numbers that the option takes one without a sign, or the most where none is asked for
abbrev pub views_in : Option Text → Option ℕ
views_in None = Some 1024
views_in (Some text) = number_within 1 1024 text

-- a flag is used: its value is "true" then, and else "false"
abbrev pub is_used : Option Text → Bool
is_used None = false
is_used (Some text) = bytes_eq text (codes "true")

-- the options that were found, where the views are such a number
abbrev pub options_in : List Row → Option Options
options_in rows = option_map (λ n. record {
  risk = risk_in (first_of (codes "risk") rows);
  views = n;
  explains = is_used (first_of (codes "explain") rows);
}) (views_in (first_of (codes "views") rows))

-- the options that the words of a command line ask for, the program's own name first
abbrev pub options_of : App → List Text → Option Options
options_of program words = options_in (matches_of program words)

-- those of these flags that are used, by the value of each
abbrev pub given_in : (Text → Option Text) → List Text → List Text
given_in value_of flags = filter (λ flag. is_used (value_of flag)) flags

-- the program's own options that the words give
abbrev pub given_of : App → List Text → List Text → List Text
given_of program flags words = given_in (λ flag. first_of flag (matches_of program words)) flags

-- what is wrong with the words, or what they ask for in place of a run: nothing, or one kind
abbrev pub kinds_of : App → List Text → Kinds
kinds_of program words =
    or_else (fault_of program words) (if is_some (options_of program words) then [] else kind.ValueValidation ∷ [])

-- The answer to the words of the program of this name and these flags: the options that they ask for where nothing is wrong, with
-- those of the program's own that they give; else an error of that kind, or of want of memory.
pub record IsRead (name : Text) (flags words : List Text) (answer : Result Asked Error) : Type 0 where
  pub program : App
  pub program_so : IsProgram name flags program
  pub options : IfOk answer (λ asked. options_of program words ≡ Some asked.options)
  pub given : IfOk answer (λ asked. texts asked.given.items ≡ given_of program flags words)
  pub kinds : FailsBy (kinds_of program words) answer
