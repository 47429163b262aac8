-- Stores, plans and programs as configurations and decks give them. Laws of runs ask for these; the code shows them of what it is given.
use Rattle.std.specs.Prelude.{◌≡◌, ℕ, ◌<◌, ◌≤◌, List, length, Option, Some, None, All}
use Rattle.jname_core.specs.declared.key.Key.{Key}
use Rattle.jname_core.specs.declared.key.Key.TheVariants.{Named, Relative, Temporary, Unnamed}
use Rattle.jname_core.specs.declared.key.Sign.{Sign}
use Rattle.jname_core.specs.Grammar.{IsDotted}
use Rattle.group_core.specs.declared.entry.CatEntry.{CatEntry}
use Rattle.group_core.specs.declared.entry.CatEntry.TheVariants.{Volume, Group}
use Rattle.group_core.specs.Groups.{GroupState, IsFalling}
use Rattle.jcl_plan.specs.declared.outcome.TheConstants.{GREATEST_CODE}
use Rattle.jcl_plan.specs.declared.plan.DdKind.{DdKind}
use Rattle.jcl_plan.specs.declared.plan.DdKind.TheVariants.{Sysout, Dummy, Cards, Set}
use Rattle.jcl_plan.specs.declared.plan.JobPlan.{JobPlan}
use Rattle.jcl_plan.specs.declared.plan.SetPlan.{SetPlan}
use Rattle.jcl_plan.specs.declared.plan.StepPlan.{StepPlan}
use Rattle.jcl_plan.specs.declared.plan.Test.{Test}
use Rattle.jcl_plan.specs.declared.plan.VolumePlan.{VolumePlan}
use Rattle.jcl_plan.specs.declared.plan.VolumePlan.TheVariants.{NotCoded, Serial, OfName, OfDd}
use Rattle.jcl_meaning.specs.declared.program.Request.{Request}
use Rattle.jcl_meaning.specs.declared.program.Request.TheVariants.{Get, Put, End, Abend}
use Rattle.jcl_meaning.specs.declared.program.SoloProgram.{SoloProgram}
use Rattle.jcl_meaning.specs.Stores.{Store}

-- a group holds at most its limit of generations, whose numbers are 1 to 9999 and fall, the newest first
pub record IsGroup (g : GroupState) : Type 0 where
  pub some : 0 < g.limit
  pub within : g.limit ≤ 255
  pub full_at_most : length g.generations ≤ g.limit
  pub falling : IsFalling 10000 g.generations

-- an entry stands under a name, a group under one short enough for its generations
abbrev pub IsEntry : List ℕ → Option CatEntry → Type 0
IsEntry name None = Unit {0}
IsEntry name (Some (Volume serial)) = IsDotted 44 name
IsEntry name (Some (Group g)) = IsDotted 35 name × IsGroup g

-- no set is known by a relative number: it is a set of its generation
pub record IsWellFormedStore (s : Store) : Type 0 where
  pub entries : (name : List ℕ) → IsEntry name (s.catalog name)
  pub no_relative : (base : List ℕ) (sign : Sign) (amount : ℕ) (serial : List ℕ) → s.set (Relative base sign amount) serial ≡ None

-- names are names
abbrev pub IsKey : Key → Type 0
IsKey (Named name) = IsDotted 44 name
IsKey (Relative base sign amount) = IsDotted 44 base
IsKey (Temporary name) = Unit {0}
IsKey (Unnamed step dd) = Unit {0}

abbrev pub IsVolumePlan : VolumePlan → Type 0
IsVolumePlan NotCoded = Unit {0}
IsVolumePlan (Serial serial) = Unit {0}
IsVolumePlan (OfName name) = IsDotted 44 name
IsVolumePlan (OfDd step dd) = Unit {0}

abbrev pub IsDdKind : DdKind → Type 0
IsDdKind (Sysout class) = Unit {0}
IsDdKind Dummy = Unit {0}
IsDdKind (Cards cards) = Unit {0}
IsDdKind (Set p) = IsKey p.key × IsVolumePlan p.volume

abbrev pub AreTests : List Test → Type 0
AreTests tests = All (λ test. test.code ≤ GREATEST_CODE) tests

pub record IsStep (step : StepPlan) : Type 0 where
  pub tests : AreTests step.tests.items
  pub dds : All (λ dd. IsDdKind dd.kind) step.dds

pub record IsWellFormedPlan (plan : JobPlan) : Type 0 where
  pub tests : AreTests plan.tests.items
  pub steps : All IsStep plan.steps

-- a program ends with a code or an ABEND of 0 to 4095
abbrev pub IsRequest : Request → Type 0
IsRequest (Get dd) = Unit {0}
IsRequest (Put dd text) = Unit {0}
IsRequest (End code) = code ≤ GREATEST_CODE
IsRequest (Abend code) = code ≤ GREATEST_CODE

abbrev pub AreWellFormedPrograms : List SoloProgram → Type 0
AreWellFormedPrograms programs = All (λ program. All IsRequest program.requests) programs
