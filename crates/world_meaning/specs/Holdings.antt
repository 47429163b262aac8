-- A selected job: its records are read strictly, and its names held, all of them or none. BROKEN, NAMES, WAIT NAMES.
use Rattle.std.specs.Prelude.{◌≡◌, ℕ, false, List, [], ◌∷◌, ◌++◌, map, length, Option, Some, None, All}
use Rattle.enq_core.specs.declared.table.Blocked.{Blocked}
use Rattle.enq_core.specs.declared.table.Want.{Want}
use Rattle.enq_core.specs.Holds.{IsFirstBlock, holds_of, is_blocked, without_job}
use Rattle.cb_meaning.specs.Spelled.{Denotes}
use Rattle.cb_meaning.specs.Walks.{first_fault}
use Rattle.jcl_plan.specs.declared.entry.JobLine.{JobLine}
use Rattle.jcl_plan.specs.declared.entry.JobLine.TheVariants as line
use Rattle.jcl_plan.specs.declared.plan.JobPlan.{JobPlan}
use Rattle.jcl_meaning.specs.Names.{names_of}
use Rattle.world_meaning.specs.Records.{records_given_back}
use Rattle.world_meaning.specs.Tracks.{Conserves, kept_without}
use Rattle.world_meaning.specs.Worlds.{Config, Named, Running, Shared, Wanting, going_on}
use Rattle.std.specs.Prelude.{filter, not, ◌==◌}

-- What a job gives back when it is over: its names, its kept tracks, its records, and a cancel that did not act.
abbrev pub cancels_without : List ℕ → ℕ → List ℕ
cancels_without cancels job = filter (λ other. not (other == job)) cancels

abbrev pub released : Config → Shared → ℕ → (List ℕ → ℕ) → Shared
released c s job free = record s {
  free = free;
  kept = kept_without s.kept job;
  records = records_given_back c.layout s.records job;
  holds = without_job job s.holds;
  cancels = cancels_without s.cancels job;
}

abbrev pub wants_of : JobPlan → List Want
wants_of plan = map (λ h. record { name = h.name; exclusive = h.exclusive }) (names_of plan)

-- NAMES n, WAIT NAMES nnnn name
pub data Holds (old : Shared) (r : Running) (plan : JobPlan) (lines : List JobLine) (new : Shared) (runs : Option Running) : Type 0 where
  held : All (λ want. is_blocked old.holds want ≡ false) (wants_of plan) → lines ≡ line.Names (length (wants_of plan)) ∷ [] →
      new ≡ record old { holds = old.holds ++ holds_of r.job (wants_of plan) } → runs ≡ going_on r lines (Named plan) → Holds old r plan lines new runs
  blocked : (by : Blocked) → IsFirstBlock old.holds (wants_of plan) by → lines ≡ line.WaitNames by.job by.name ∷ [] →
      new ≡ old → runs ≡ going_on r lines (Wanting plan) → Holds old r plan lines new runs

-- BROKEN Bn: the records denote no job
pub data ReadsRecords (c : Config) (old : Shared) (r : Running) (first : ℕ) (lines : List JobLine) (new : Shared) (runs : Option Running) : Type 0 where
  broken : (n : ℕ) (free : List ℕ → ℕ) → first_fault c.layout (length c.units) old.records r.job first ≡ Some n → lines ≡ line.Broken n ∷ [] →
      new ≡ released c old r.job free → Conserves old new → runs ≡ None → ReadsRecords c old r first lines new runs
  read : (plan : JobPlan) (behind : List ℕ) → Denotes c.layout (length c.units) old.records r.job (first ∷ behind) plan →
      Holds old r plan lines new runs → ReadsRecords c old r first lines new runs
