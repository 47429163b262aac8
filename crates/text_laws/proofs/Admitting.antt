-- A job is admitted, or refused, or waits: its lines are printable, and those that explain a risk.
use Rattle.std.proofs.Common.{◌∷◌, ◌≡◌, All, Bool, List, Option, [], ℕ, false, true}
use Rattle.std.specs.Prelude.{IfSome}
use Rattle.std.proofs.lemmas.List.Elements.{All-cons, All-contains, All-nil, All-same}
use Rattle.jcl_plan.specs.declared.entry.JobLine.{JobLine}
use Rattle.jcl_plan.specs.declared.entry.JobLine.TheVariants as line
use Rattle.jcl_plan.specs.declared.plan.JobPlan.{JobPlan}
use Rattle.jcl_meaning.specs.declared.state.Place.{Place}
use Rattle.jcl_meaning.specs.Agendas.{path_agenda}
use Rattle.jcl_meaning.specs.Solo.{nothing_own}
use Rattle.jcl_meaning.specs.States.{Fixed}
use Rattle.jcl_meaning.specs.Stores.{Store}
use Rattle.world_meaning.specs.Admissions.{Answered, MayFail, admitted, explained, fixed_at}
use Rattle.world_meaning.specs.Placements.{ArePlaces, places}
use Rattle.world_meaning.specs.Worlds.{Admitted, Config, Named, Running, Shared}
use Rattle.line_laws.specs.Printable.{IsPrintable, IsPrintableLine}
use Rattle.print_laws.specs.Printable.{IsPrintableAction, IsPrintableFixed, IsPrintablePlan, IsPrintableStore}
use Rattle.print_laws.specs.PrintLaws.{ActIsPrintable}
use Rattle.print_laws.specs.Texts.{IsPrintableRunning}
use Rattle.text_laws.proofs.Elements.{of_one}
use Rattle.text_laws.proofs.Placing.{places_printable}
use Rattle.text_laws.proofs.Running.{nothing_printable, path_printable}
use Rattle.text_laws.proofs.Shares.{IsPrintableConfig, IsPrintableShared, released_printable, shared_as}
use Rattle.text_laws.proofs.Turns.{IsPrintableTurn, goes_on, gone, told_one}

module _ (c : Config) (old : Shared) (r : Running) (lines : List JobLine) (new : Shared) (runs : Option Running) (shared : IsPrintableShared old)
    (job : IsPrintableRunning r) where
  abbrev Turned : Type 0
  Turned = IsPrintableTurn lines new runs

  -- a job that waits for its admission is admitted, or refused, or waits further
  module _ (plan : JobPlan) (h : IsPrintablePlan plan) (fixed : Fixed) (is : IsPrintableFixed fixed) where
    admitted_printable : (assured : Bool) → All IsPrintableLine lines → runs ≡ admitted r lines plan fixed assured → IfSome runs IsPrintableRunning
    admitted_printable assured tells goes =
        goes_on runs r lines (Admitted plan (record { fixed = fixed; assured = assured }) 0 nothing_own) goes job tells (h, is, nothing_printable)

    may_fail_printable : (l : JobLine) → IsPrintableLine l → MayFail c old r plan fixed l lines new runs → Turned
    may_fail_printable l telling (MayFail.risky allowed told left goes) =
        let tells : All IsPrintableLine lines = told_one lines l told telling in
        record { told = tells; shared = shared_as new old left shared; runs_on = admitted_printable false tells goes }
    may_fail_printable l telling (MayFail.refused free refuses told left conserves none) = record {
      told = All-same IsPrintableLine lines _ told (All-cons IsPrintableLine l (line.Refused ∷ []) telling (of_one IsPrintableLine line.Refused tt));
      shared = shared_as new _ left (released_printable c old r.job free shared);
      runs_on = gone runs none;
    }

    pub answered_printable : All IsPrintable c.volumes → Answered c old r plan fixed lines new runs → Turned
    answered_printable volumes (Answered.assured made kept free safe are_made are others told left conserves goes) =
        let tells : All IsPrintableLine lines = told_one lines _ told tt in
        record {
          told = tells;
          shared = shared_as new _ left (record { store = shared.store; holds = shared.holds; spool = shared.spool });
          runs_on = admitted_printable true tells goes;
        }
    answered_printable volumes (Answered.no_space serial there told left goes) =
        let tells : All IsPrintableLine lines = told_one lines _ told (All-contains IsPrintable c.volumes serial volumes there) in
        record { told = tells; shared = shared_as new old left shared; runs_on = goes_on runs r lines (Named plan) goes job tells h }
    answered_printable volumes (Answered.risk fault step dd path meets fails) = may_fail_printable _ tt fails
    answered_printable volumes (Answered.too_many step from to views fails) = may_fail_printable _ tt fails

-- what is fixed at the admission
pub fixed_printable : (c : Config) (s : Shared) (job : ℕ) (plan : JobPlan) (places : List Place) → IsPrintableConfig c → IsPrintablePlan plan →
    ArePlaces c plan places → IsPrintableFixed (fixed_at c s job plan places)
fixed_printable c s job plan places configured h are =
    record { volumes = configured.volumes; places = places_printable c configured.volumes configured.units plan places h are }

-- and what explains a risk
pub explains_printable : ActIsPrintable → (b : Bool) (fixed : Fixed) (plan : JobPlan) (store : Store) (lines : List JobLine) → IsPrintableFixed fixed →
    All IsPrintableAction (path_agenda plan) → IsPrintableStore store → All IsPrintableLine (explained b fixed plan store lines)
explains_printable acts true fixed plan store (line.Risk fault step dd path ∷ lines) is all h = path_printable acts fixed is plan store path all h
explains_printable acts other fixed plan store lines is all h = All-nil IsPrintableLine
