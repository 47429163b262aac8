-- A selected job's records are read, and its names are held: its lines are printable.
use Rattle.std.proofs.Common.{◌++◌, ◌∷◌, All, List, Option, ℕ, subst, sym}
use Rattle.std.proofs.lemmas.List.Elements.{All-append, All-head, All-map, All-same}
use Rattle.enq_core.specs.declared.table.Blocked.{Blocked}
use Rattle.enq_core.specs.declared.table.Hold.{Hold}
use Rattle.enq_core.specs.declared.table.Want.{Want}
use Rattle.enq_core.specs.Holds.{IsFirstBlock, holds_of}
use Rattle.jcl_plan.specs.declared.entry.JobLine.{JobLine}
use Rattle.jcl_plan.specs.declared.plan.JobPlan.{JobPlan}
use Rattle.world_meaning.specs.Holdings.{Holds, ReadsRecords, wants_of}
use Rattle.world_meaning.specs.Worlds.{Config, Named, Running, Shared, Wanting}
use Rattle.line_laws.specs.Printable.{IsPrintable, IsPrintableLine}
use Rattle.print_laws.specs.Printable.{IsPrintablePlan}
use Rattle.print_laws.specs.PrintLaws.{WritableIsPrintable}
use Rattle.print_laws.specs.Texts.{IsPrintableRunning}
use Rattle.text_laws.proofs.Elements.{of_behind}
use Rattle.text_laws.proofs.Names.{wants_printable}
use Rattle.text_laws.proofs.Shares.{IsPrintableShared, released_printable, shared_as}
use Rattle.text_laws.proofs.Turns.{IsPrintableTurn, goes_on, gone, told_one}

abbrev IsWanted : Want → Type 0
IsWanted want = IsPrintable want.name

abbrev IsHeld : Hold → Type 0
IsHeld x = IsPrintable x.name

-- the name at which a job is blocked is one that it wants
block_printable : (holds : List Hold) (wants : List Want) (by : Blocked) → All IsWanted wants → IsFirstBlock holds wants by → IsPrintable by.name
block_printable holds wants by all first =
    subst IsPrintable first.name
    (All-head IsWanted first.want first.behind
    (of_behind IsWanted first.before (first.want ∷ first.behind) (All-same IsWanted (first.before ++ first.want ∷ first.behind) wants (sym first.stands) all)))

module _ (c : Config) (old : Shared) (r : Running) (lines : List JobLine) (new : Shared) (runs : Option Running) (shared : IsPrintableShared old)
    (job : IsPrintableRunning r) where
  abbrev Turned : Type 0
  Turned = IsPrintableTurn lines new runs

  -- the names are held, or one of them is blocked
  pub holds_printable : (plan : JobPlan) → IsPrintablePlan plan → Holds old r plan lines new runs → Turned
  holds_printable plan h (Holds.held free told left goes) =
      let tells : All IsPrintableLine lines = told_one lines _ told tt in
      record {
        told = tells;
        shared = shared_as new _ left (record {
          store = shared.store;
          holds = All-append IsHeld old.holds (holds_of r.job (wants_of plan)) shared.holds
              (All-map IsHeld (λ (want : Want). record { job = r.job; name = want.name; exclusive = want.exclusive }) (wants_of plan) (wants_printable plan h));
          spool = shared.spool;
        });
        runs_on = goes_on runs r lines (Named plan) goes job tells h;
      }
  holds_printable plan h (Holds.blocked by first told left goes) =
      let tells : All IsPrintableLine lines = told_one lines _ told (block_printable old.holds (wants_of plan) by (wants_printable plan h) first) in
      record { told = tells; shared = shared_as new old left shared; runs_on = goes_on runs r lines (Wanting plan) goes job tells h }

  -- the records are read, or are broken
  pub reads_printable : (first : ℕ) → WritableIsPrintable → ReadsRecords c old r first lines new runs → Turned
  reads_printable first writable (ReadsRecords.broken n free fault told left conserves none) = record {
    told = told_one lines _ told tt;
    shared = shared_as new _ left (released_printable c old r.job free shared);
    runs_on = gone runs none;
  }
  reads_printable first writable (ReadsRecords.read plan behind denoted holds) = holds_printable plan (writable _ _ plan denoted.in_range) holds
