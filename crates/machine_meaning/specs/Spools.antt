-- What the writers have to write: sets of lines, in the order in which their jobs ended.
use Rattle.std.specs.Prelude.{◌≡◌, ◌≢◌, ℕ, Bool, not, ◌==◌, List, [], ◌∷◌, ◌++◌, map, filter, length, All}
use Rattle.jcl_plan.specs.declared.entry.JobLine.{JobLine}
use Rattle.jcl_plan.specs.declared.entry.Written.{Written}
use Rattle.jcl_plan.specs.declared.entry.Written.TheVariants as written
use Rattle.jcl_meaning.specs.declared.state.Output.{Output}
use Rattle.machine_meaning.specs.declared.machine.SpoolSet.{SpoolSet}

-- a set without lines is none
abbrev pub has_lines : SpoolSet → Bool
has_lines set = not (length set.lines == 0)

abbrev pub with_sets : List SpoolSet → List SpoolSet → List SpoolSet
with_sets spool sets = spool ++ filter has_lines sets

-- a job that is over: its listing, then its SYSOUT sets by step and DD
abbrev pub output_set : ℕ → Output → SpoolSet
output_set job o = record { class = o.class; job = job; lines = map written.Record o.records }

abbrev pub sets_of : ℕ → ℕ → List JobLine → List Output → List SpoolSet
sets_of job class listing outputs = record { class = class; job = job; lines = map written.Line listing } ∷ map (output_set job) outputs

-- what is left of a set
abbrev pub left_of : SpoolSet → List Written → List SpoolSet
left_of set [] = []
left_of set (line ∷ lines) = record { class = set.class; job = set.job; lines = line ∷ lines } ∷ []

-- no set is of the class
abbrev pub HasNoSet : List SpoolSet → ℕ → Type 0
HasNoSet spool class = All (λ set. set.class ≢ class) spool

-- the first line of the first set of a class, and the spool without it
pub record Takes (spool : List SpoolSet) (class job : ℕ) (line : Written) (left : List SpoolSet) : Type 0 where
  pub before : List SpoolSet
  pub set : SpoolSet
  pub after : List SpoolSet
  pub lines : List Written
  pub stands : spool ≡ before ++ set ∷ after
  pub none_before : HasNoSet before class
  pub of_class : set.class ≡ class
  pub of_job : set.job ≡ job
  pub is_first : set.lines ≡ line ∷ lines
  pub is_left : left ≡ before ++ (left_of set lines ++ after)
