-- Cards whose values keep their ranges.
use Rattle.std.specs.Prelude.{◌≡◌, ℕ, ◌≤◌, true, Option, Some, None, All}
use Rattle.jname_core.specs.Characters.{is_job_class, is_letter_or_digit}
use Rattle.jname_core.specs.Grammar.{IsDsNameWithin, IsName8, IsSerial}
use Rattle.jname_core.specs.declared.key.Key.{Key}
use Rattle.jname_core.specs.declared.key.Key.TheVariants.{Named, Relative, Temporary, Unnamed}
use Rattle.jcl_plan.specs.declared.outcome.TheConstants.{GREATEST_CODE}
use Rattle.jcl_plan.specs.declared.plan.Expiry.{Expiry}
use Rattle.jcl_plan.specs.declared.plan.Space.{Space}
use Rattle.value_core.specs.declared.set.SetName.{SetName}
use Rattle.value_core.specs.declared.set.SetName.TheVariants as name
use Rattle.value_core.specs.declared.set.VolumeName.{VolumeName}
use Rattle.value_core.specs.declared.set.VolumeName.TheVariants as volume
use Rattle.cb_meaning.specs.Writable.{IsCard, IsExpiry, IsName, IsSpace}
use Rattle.list_values.specs.declared.condition.Condition.{Condition}
use Rattle.jcl_cards.specs.declared.coded.Coded.{Coded}
use Rattle.jcl_cards.specs.declared.coded.Coded.TheVariants.{NotGiven, Nullified, Value}
use Rattle.jcl_cards.specs.declared.exec.ExecCard.{ExecCard}
use Rattle.jcl_cards.specs.declared.exec.Runs.{Runs}
use Rattle.jcl_cards.specs.declared.exec.Runs.TheVariants.{Program, Procedure}
use Rattle.jcl_cards.specs.declared.exec.StepCondition.{StepCondition}
use Rattle.jcl_cards.specs.declared.job.JobCard.{JobCard}
use Rattle.jcl_dds.specs.declared.dd.DdCard.{DdCard}
use Rattle.jcl_dds.specs.declared.dd.Word as positional
use Rattle.jcl_dds.specs.declared.dd.Word.TheVariants as positional_word

-- the name of a set, where DSNAME codes one
abbrev pub CodesName : (Key → Type 0) → Coded SetName → Type 0
CodesName Rule NotGiven = Unit {0}
CodesName Rule Nullified = Unit {0}
CodesName Rule (Value name.Null) = Unit {0}
CodesName Rule (Value (name.Of key)) = Rule key
CodesName Rule (Value (name.OfDd reference)) = Unit {0}

-- a name of a set as a deck writes it
abbrev pub IsSoundKey : Key → Type 0
IsSoundKey (Named text) = IsDsNameWithin 44 text
IsSoundKey (Relative base sign amount) = IsDsNameWithin 35 base × (amount ≤ 255)
IsSoundKey (Temporary text) = IsName8 text
IsSoundKey (Unnamed step dd) = ⊥

abbrev pub IsSoundVolume : Coded VolumeName → Type 0
IsSoundVolume NotGiven = Unit {0}
IsSoundVolume Nullified = Unit {0}
IsSoundVolume (Value volume.Any) = Unit {0}
IsSoundVolume (Value (volume.Serial serial)) = IsSerial serial
IsSoundVolume (Value (volume.OfName text)) = IsDsNameWithin 44 text
IsSoundVolume (Value (volume.OfDd reference)) = Unit {0}

abbrev pub IsSoundSpace : Coded Space → Type 0
IsSoundSpace NotGiven = Unit {0}
IsSoundSpace Nullified = Unit {0}
IsSoundSpace (Value s) = IsSpace (Some s)

abbrev pub IsSoundLabel : Coded Expiry → Type 0
IsSoundLabel NotGiven = Unit {0}
IsSoundLabel Nullified = Unit {0}
IsSoundLabel (Value e) = IsExpiry e

abbrev pub IsSoundClass : Coded ℕ → Type 0
IsSoundClass NotGiven = Unit {0}
IsSoundClass Nullified = Unit {0}
IsSoundClass (Value class) = is_letter_or_digit class ≡ true

abbrev pub IsSoundWord : Option positional.Word → Type 0
IsSoundWord None = Unit {0}
IsSoundWord (Some positional_word.Dummy) = Unit {0}
IsSoundWord (Some (positional_word.Cards cards)) = All IsCard cards

pub record IsSoundDd (dd : DdCard) : Type 0 where
  pub name : IsName dd.name
  pub word : IsSoundWord dd.word
  pub set_name : CodesName IsSoundKey dd.set_name
  pub volume : IsSoundVolume dd.volume
  pub space : IsSoundSpace dd.space
  pub label : IsSoundLabel dd.label
  pub class : IsSoundClass dd.sysout

pub record IsSoundJob (job : JobCard) : Type 0 where
  pub name : IsName8 job.name
  pub class : is_job_class job.class ≡ true
  pub priority : job.priority ≤ 13
  pub message_class : is_letter_or_digit job.message_class ≡ true
  pub codes : All (λ t. t.code ≤ GREATEST_CODE) job.tests.items

-- what a step runs: of the procedure that is called nothing is asked
abbrev pub IsSoundRuns : Runs → Type 0
IsSoundRuns (Program text) = IsName8 text
IsSoundRuns (Procedure procedure symbols) = Unit {0}

-- the tests of COND, where it is coded
abbrev pub HasSoundCodes : Condition → Type 0
HasSoundCodes condition = All (λ t. t.code ≤ GREATEST_CODE) condition.tests.items

abbrev pub IsSoundCondition : Option Condition → Type 0
IsSoundCondition None = Unit {0}
IsSoundCondition (Some condition) = HasSoundCodes condition

pub record IsSoundStepCondition (s : StepCondition) : Type 0 where
  pub step : IsName8 s.step
  pub codes : HasSoundCodes s.condition

pub record IsSoundExec (card : ExecCard) : Type 0 where
  pub name : IsName card.name
  pub runs : IsSoundRuns card.runs
  pub condition : IsSoundCondition card.condition
  pub step_conditions : All IsSoundStepCondition card.step_conditions
