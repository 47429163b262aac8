-- A job whose names are held is admitted, waits for space, or is refused: ASSURED, WAIT SPACE, RISK, TOOMANY, REFUSED.
use Rattle.std.specs.Prelude.{◌≡◌, ℕ, ◌≤◌, Bool, true, false, ◌&&◌, ◌==◌, List, [], ◌∷◌, length, Option, Some, None, sum_by, All}
use Rattle.std.specs.List.{Contains, list_any}
use Rattle.jcl_plan.specs.declared.entry.JobLine.{JobLine}
use Rattle.jcl_plan.specs.declared.entry.JobLine.TheVariants as line
use Rattle.jcl_plan.specs.declared.fault.Fault.{Fault}
use Rattle.jcl_plan.specs.declared.outcome.Outcome.{Outcome}
use Rattle.jcl_plan.specs.declared.plan.DdKind.{DdKind}
use Rattle.jcl_plan.specs.declared.plan.DdKind.TheVariants.{Cards, Dummy, Set, Sysout}
use Rattle.jcl_plan.specs.declared.plan.JobPlan.{JobPlan}
use Rattle.jcl_meaning.specs.declared.state.Place.{Place}
use Rattle.jcl_meaning.specs.Agendas.{budget_of}
use Rattle.jcl_meaning.specs.Solo.{fixed_in, nothing_own}
use Rattle.jcl_meaning.specs.States.{Fixed}
use Rattle.jcl_meaning.specs.Takes.{primary_of}
use Rattle.jcl_meaning.specs.Stores.{Store}
use Rattle.path_meaning.specs.Explanations.{path_lines}
use Rattle.path_meaning.specs.Paths.{HasMoreViews, IsSafe, MeetsFault}
use Rattle.path_meaning.specs.Verdicts.{AreMade}
use Rattle.cb_meaning.specs.Writable.{kind_at}
use Rattle.world_meaning.specs.Holdings.{released}
use Rattle.world_meaning.specs.Lenses.{seen}
use Rattle.world_meaning.specs.Placements.{ArePlaces}
use Rattle.world_meaning.specs.Tracks.{Conserves, is_kept_for, kept_of, kept_without}
use Rattle.world_meaning.specs.Worlds.{Admitted, Config, Kept, Named, Running, Shared, going_on}
use Rattle.plain.specs.Lists.{all_different}

-- What is fixed for a job at its admission: where its sets are placed, what its keys mean in the store as it now sees it, and the date.
abbrev pub fixed_at : Config → Shared → ℕ → JobPlan → List Place → Fixed
fixed_at c s job plan places = fixed_in c.volumes (seen job s.store) plan places s.date

-- the primary that a DD asks for
abbrev pub primary_asked : Option DdKind → ℕ
primary_asked None = 0
primary_asked (Some (Set p)) = primary_of p.space
primary_asked (Some Dummy) = 0
primary_asked (Some (Sysout class)) = 0
primary_asked (Some (Cards cards)) = 0

-- the primary of the DD of a place, and of all these places
abbrev pub asked_at : JobPlan → Place → ℕ
asked_at plan p = primary_asked (kind_at plan.steps p.step p.dd)

abbrev pub tracks_asked : JobPlan → List Place → ℕ
tracks_asked plan places = sum_by (asked_at plan) places

-- what is kept on a volume is the primary of a DD, at one of these places
pub record IsKeptAt (plan : JobPlan) (places : List Place) (serial : List ℕ) (k : Kept) : Type 0 where
  pub tracks : k.tracks ≡ primary_asked (kind_at plan.steps k.step k.dd)
  pub place : Contains places (record { step = k.step; dd = k.dd; serial = serial })

abbrev pub is_same_dd : Kept → Kept → Bool
is_same_dd a b = a.step == b.step && a.dd == b.dd

-- For a job the primary is kept at each of these places, each once and nothing else.
pub record AreKept (plan : JobPlan) (job : ℕ) (places : List Place) (kept : List ℕ → List Kept) : Type 0 where
  pub founded : (serial : List ℕ) → All (IsKeptAt plan places serial) (kept_of job kept serial)
  pub all : (p : Place) → Contains places p → list_any (is_kept_for job p p.serial) (kept p.serial) ≡ true
  pub once : (serial : List ℕ) → all_different is_same_dd (kept_of job kept serial) ≡ true

abbrev pub admitted : Running → List JobLine → JobPlan → Fixed → Bool → Option Running
admitted r lines plan fixed assured = going_on r lines (Admitted plan (record { fixed = fixed; assured = assured }) 0 nothing_own)

-- a job that may fail runs with checks, or is REFUSED, as the command line says
pub data MayFail (c : Config) (old : Shared) (r : Running) (plan : JobPlan) (fixed : Fixed) (told : JobLine)
    (lines : List JobLine) (new : Shared) (runs : Option Running) : Type 0 where
  risky : c.refuses ≡ false → lines ≡ told ∷ [] → new ≡ old → runs ≡ admitted r lines plan fixed false → MayFail c old r plan fixed told lines new runs
  refused : (free : List ℕ → ℕ) → c.refuses ≡ true → lines ≡ told ∷ line.Refused ∷ [] → new ≡ released c old r.job free → Conserves old new → runs ≡ None →
      MayFail c old r plan fixed told lines new runs

-- ASSURED t TRACKS b ACTIONS: no path meets a fault, and the primary of every DD is kept on each volume where some path makes its set. WAIT SPACE serial,
-- RISK Fn STEP s DD d PATH p, TOOMANY STEP s.
pub data Answered (c : Config) (old : Shared) (r : Running) (plan : JobPlan) (fixed : Fixed)
    (lines : List JobLine) (new : Shared) (runs : Option Running) : Type 0 where
  assured : (made : List Place) (kept : List ℕ → List Kept) (free : List ℕ → ℕ) → IsSafe fixed plan (seen r.job old.store) →
      AreMade fixed plan (seen r.job old.store) made → AreKept plan r.job made kept → kept_without kept r.job ≡ old.kept →
      lines ≡ line.Assured (tracks_asked plan made) (budget_of plan c.programs) ∷ [] →
      new ≡ record old { kept = kept; free = free } → Conserves old new →
      runs ≡ admitted r lines plan fixed true → Answered c old r plan fixed lines new runs
  no_space : (serial : List ℕ) → Contains c.volumes serial → lines ≡ line.WaitSpace serial ∷ [] → new ≡ old → runs ≡ going_on r lines (Named plan) →
      Answered c old r plan fixed lines new runs
  risk : (fault : Fault) (step dd : ℕ) (path : List Outcome) → MeetsFault fixed plan (seen r.job old.store) fault step dd path →
      MayFail c old r plan fixed (line.Risk fault step dd path) lines new runs → Answered c old r plan fixed lines new runs
  too_many : (step : ℕ) → 1 ≤ step → step ≤ length plan.steps → HasMoreViews fixed plan (seen r.job old.store) step c.most_views →
      MayFail c old r plan fixed (line.TooMany step) lines new runs → Answered c old r plan fixed lines new runs

-- The lines behind a RISK line: those of the job's solo path on the path that it tells, up to the fault, where they are asked for.
abbrev pub explained : Bool → Fixed → JobPlan → Store → List JobLine → List JobLine
explained true fixed plan store (line.Risk fault step dd path ∷ lines) = path_lines fixed plan store path
explained other fixed plan store lines = []

-- The placement is chosen, and what the job's relative names mean is found, at the line that is written here.
pub record Admits (c : Config) (old : Shared) (r : Running) (plan : JobPlan) (lines : List JobLine) (new : Shared) (runs : Option Running) : Type 0 where
  pub places : List Place
  pub placed : ArePlaces c plan places
  pub answers : Answered c old r plan (fixed_at c old r.job plan places) lines new runs
