-- The records of a job denote its plan, behind an event too; and a plan that records denote is well-formed.
use Rattle.std.proofs.Common.{◌≡◌, ◌≢◌, ◌⊎◌, inl, inr, ◌≤◌, ◌+◌, arith, ℕ, List, [], ◌∷◌, length, Option, Some, None, refl, sym, ap, ◌∙◌, subst}
use Rattle.std.specs.Prelude.{All}
use Rattle.std.proofs.lemmas.List.Elements.{All-cons, All-nil, All-weaker}
use Rattle.jname_core.specs.declared.key.Key.{Key}
use Rattle.jname_core.specs.declared.key.Key.TheVariants.{Named, Relative, Temporary, Unnamed}
use Rattle.jcl_plan.specs.declared.entry.Entry.{Entry}
use Rattle.jcl_plan.specs.declared.outcome.TheConstants.{GREATEST_CODE}
use Rattle.jcl_plan.specs.declared.plan.DdKind.{DdKind}
use Rattle.jcl_plan.specs.declared.plan.DdKind.TheVariants.{Cards, Dummy, Set, Sysout}
use Rattle.jcl_plan.specs.declared.plan.DdPlan.{DdPlan}
use Rattle.jcl_plan.specs.declared.plan.JobPlan.{JobPlan}
use Rattle.jcl_plan.specs.declared.plan.StepPlan.{StepPlan}
use Rattle.jcl_plan.specs.declared.plan.VolumePlan.{VolumePlan}
use Rattle.jcl_plan.specs.declared.plan.VolumePlan.TheVariants as volume
use Rattle.jcl_meaning.specs.WellFormed.{IsDdKind, IsKey, IsStep, IsVolumePlan, IsWellFormedPlan}
use Rattle.cb_meaning.specs.Spelled.{Denotes}
use Rattle.cb_meaning.specs.Writable.{AreDds, AreSteps, IsJobTest, IsKeyAt, IsKindAt, IsStepAt, IsStepTest, IsVolumeAt, IsWritable}
use Rattle.world_meaning.specs.declared.event.Event.{Event}
use Rattle.world_meaning.specs.Cancels.{RunsNot}
use Rattle.world_meaning.specs.Readings.{Denoting}
use Rattle.world_meaning.specs.Transitions.{Transition}
use Rattle.world_meaning.specs.Worlds.{Config, Running, Shared, World}
use Rattle.world_laws.specs.RecordsKept.{IsAlone}
use Rattle.world_laws.proofs.Denoting.{denotes_still}
use Rattle.world_laws.proofs.Effects.{changes}
use Rattle.world_laws.proofs.RecordsStaying.{records_keep}
use Rattle.law_core.specs.Soundness.{IsDenoted, IsSound, RunsAt, plan_read}
use Rattle.law_core.proofs.Alone.{job_left}
use Rattle.law_core.proofs.Moves.{Left, Moved, ReadOrDenoted, ended_early, enters, goes, moved, named, over, picks, still, turn_left, turns, unqueued}
use Rattle.law_core.proofs.Places.{WasAt, here, runs_cases, runs_same, there}

-- names and tests of a plan that records denote
key_formed : (steps : List StepPlan) (k d : ℕ) (key : Key) → IsKeyAt steps k d key → IsKey key
key_formed steps k d (Named name) h = h.dotted
key_formed steps k d (Relative base sign amount) h =
    let short : length base ≤ 35 = h.0.dotted.fits in
    record { fits = omega (arith, short); joined = h.0.dotted.joined }
key_formed steps k d (Temporary name) h = tt
key_formed steps k d (Unnamed step dd) h = tt

volume_formed : (steps : List StepPlan) (k d : ℕ) (v : VolumePlan) → IsVolumeAt steps k d v → IsVolumePlan v
volume_formed steps k d volume.NotCoded h = tt
volume_formed steps k d (volume.Serial serial) h = tt
volume_formed steps k d (volume.OfName name) h = h.dotted
volume_formed steps k d (volume.OfDd step dd) h = tt

kind_formed : (units : ℕ) (steps : List StepPlan) (k d : ℕ) (kind : DdKind) → IsKindAt units steps k d kind → IsDdKind kind
kind_formed units steps k d (Sysout class) h = tt
kind_formed units steps k d Dummy h = tt
kind_formed units steps k d (Cards cards) h = tt
kind_formed units steps k d (Set p) h = (key_formed steps k d p.key h.key, volume_formed steps k d p.volume h.volume)

dds_formed : (units : ℕ) (steps : List StepPlan) (k d : ℕ) (dds : List DdPlan) → AreDds units steps k d dds → All (λ dd. IsDdKind dd.kind) dds
dds_formed units steps k d [] h = All-nil (λ (dd : DdPlan). IsDdKind dd.kind)
dds_formed units steps k d (dd ∷ dds) h =
    All-cons (λ (dd : DdPlan). IsDdKind dd.kind) dd dds (kind_formed units steps k d dd.kind h.1) (dds_formed units steps k (d + 1) dds h.2)

step_formed : (units : ℕ) (steps : List StepPlan) (k : ℕ) (step : StepPlan) → IsStepAt units steps k step → IsStep step
step_formed units steps k step h = record {
  tests = All-weaker (IsStepTest k) (λ test. test.code ≤ GREATEST_CODE) (λ test is. is.0) step.tests.items h.tests;
  dds = dds_formed units steps k 1 step.dds h.dds;
}

steps_formed : (units : ℕ) (all : List StepPlan) (k : ℕ) (steps : List StepPlan) → AreSteps units all k steps → All IsStep steps
steps_formed units all k [] h = All-nil IsStep
steps_formed units all k (step ∷ steps) h = All-cons IsStep step steps (step_formed units all k step h.0) (steps_formed units all (k + 1) steps h.1)

pub plan_formed : (most units : ℕ) (plan : JobPlan) → IsWritable most units plan → IsWellFormedPlan plan
plan_formed most units plan h = record {
  tests = All-weaker IsJobTest (λ test. test.code ≤ GREATEST_CODE) (λ test is. is.0) plan.tests.items h.tests;
  steps = steps_formed units plan.steps 1 plan.steps h.steps;
}

-- no other initiator has the job
runs_not : (o : Option Running) (job : ℕ) → ((r : Running) → o ≡ Some r → r.job ≢ job) → RunsNot o job
runs_not None job h = tt
runs_not (Some r) job h = h r refl

module _ (job_of : Denoting) (old new : World) (e : Event) (lines : List Entry) (s : IsSound old) (t : Transition job_of old e lines new) where
  is_alone : (place : ℕ) (r : Running) → RunsAt old place r → IsAlone old place r.job
  is_alone place r at = record {
    it = at.it;
    running = r;
    at = at.at;
    runs = at.running;
    of_job = refl;
    not_elsewhere = λ other x is_at apart. runs_not x.running r.job (λ q runs same.
        apart ((s.alone place r at).alone other q (record { it = x; at = is_at; running = runs }) same));
    not_waiting = (s.alone place r at).not_waiting;
  }

  some_runs : (o : Option Running) (r : Running) → o ≡ Some r → o ≢ None
  some_runs o r is none = let no : None ≡ Some r = sym none ∙ is in absurd cc

  -- what a job's records denoted they denote still
  still_denoted : (place : ℕ) (q r : Running) (plan : JobPlan) → RunsAt old place q → RunsAt new place r → r.job ≡ q.job →
      IsDenoted old.config old.shared.records q.job plan → IsDenoted new.config new.shared.records r.job plan
  still_denoted place q r plan at run same d =
      let config : new.config ≡ old.config = (changes job_of old new e lines t).config in
      record {
        numbers = d.numbers;
        denoted = subst (λ (n : ℕ). Denotes new.config.layout (length new.config.units) new.shared.records n d.numbers plan) (sym same)
            (subst (λ (k : Config). Denotes k.layout (length k.units) new.shared.records q.job d.numbers plan) (sym config)
            (denotes_still old.config.layout s.layout q.job old.shared.records new.shared.records
            (records_keep job_of old new e lines place q.job run.it s.layout (is_alone place q at) run.at (some_runs run.it.running r run.running) config t)
            (length old.config.units) d.numbers plan d.denoted));
      }

  before : (place : ℕ) (r : Running) (plan : JobPlan) → RunsAt old place r → RunsAt new place r → plan_read r.stage ≡ Some plan →
      IsDenoted new.config new.shared.records r.job plan
  before place r plan was run is = still_denoted place r r plan was run refl (s.denoted place r plan was is)

  read_left : (q : Running) (shared : Shared) (runs : Option Running) → Left old.config old.shared q shared runs → (r : Running) → runs ≡ Some r →
      ReadOrDenoted old.config old.shared q (plan_read q.stage) (plan_read r.stage)
  read_left q shared runs (over gone h) r is = let no : None ≡ Some r = sym gone ∙ is in absurd cc
  read_left q shared runs (goes z on same names plans h) r is =
      let one : z ≡ r = (let both : Some z ≡ Some r = sym on ∙ is in cc) in
      subst (λ (v : Running). ReadOrDenoted old.config old.shared q (plan_read q.stage) (plan_read v.stage)) one plans
  read_left q shared runs (named z p on same names plans free h) r is =
      let one : z ≡ r = (let both : Some z ≡ Some r = sym on ∙ is in cc) in
      subst (λ (v : Running). ReadOrDenoted old.config old.shared q (plan_read q.stage) (plan_read v.stage)) one plans

  denoted_by : Moved old new → (place : ℕ) (r : Running) (plan : JobPlan) → RunsAt new place r → plan_read r.stage ≡ Some plan →
      IsDenoted new.config new.shared.records r.job plan
  denoted_by (still i w j h) place r plan run is = before place r plan (runs_same old new i place r run) run is
  denoted_by (enters v numbered i w j h) place r plan run is = before place r plan (runs_same old new i place r run) run is
  denoted_by (unqueued v contained i w j h) place r plan run is = before place r plan (runs_same old new i place r run) run is
  denoted_by (picks at x v q is_at idle contained job no_names no_plan i w j h) place r plan run is =
      by_case (runs_cases old new at x (Some q) is_at i place r run)
    where
      by_case : WasAt old at (Some q) place r → IsDenoted new.config new.shared.records r.job plan
      by_case (here same f) =
          let one : q ≡ r = cc in
          let no : None ≡ Some plan = sym no_plan ∙ (ap (λ (z : Running). plan_read z.stage) one ∙ is) in absurd cc
      by_case (there apart was) = before place r plan was run is
  denoted_by (turns at x q turn_lines shared runs is_at running g i w j h f) place r plan run is =
      by_case (turn_left old.config old.shared q q.stage turn_lines shared runs refl g) (runs_cases old new at x runs is_at i place r run)
    where
      its : RunsAt old at q
      its = record { it = x; at = is_at; running = running }

      by_reading : r.job ≡ q.job → place ≡ at → (plan_read q.stage ≡ Some plan) ⊎ IsDenoted old.config old.shared.records q.job plan →
          IsDenoted new.config new.shared.records r.job plan
      by_reading job same (inl had) = still_denoted at q r plan its (subst (λ p. RunsAt new p r) same run) job (s.denoted at q plan its had)
      by_reading job same (inr reads) = still_denoted at q r plan its (subst (λ p. RunsAt new p r) same run) job reads

      by_case : Left old.config old.shared q shared runs → WasAt old at runs place r → IsDenoted new.config new.shared.records r.job plan
      by_case left (here same k) = by_reading (job_left old q shared runs left r k) same (read_left q shared runs left r k plan is)
      by_case left (there apart was) = before place r plan was run is
  denoted_by (ended_early at x q is_at running i w j h) place r plan run is = by_case (runs_cases old new at x None is_at i place r run)
    where
      by_case : WasAt old at None place r → IsDenoted new.config new.shared.records r.job plan
      by_case (here same f) = let no : None ≡ Some r = f in absurd cc
      by_case (there apart was) = before place r plan was run is

  pub denoted_kept : (place : ℕ) (r : Running) (plan : JobPlan) → RunsAt new place r → plan_read r.stage ≡ Some plan →
      IsDenoted new.config new.shared.records r.job plan
  denoted_kept place r plan run is = denoted_by (moved job_of old new e lines t) place r plan run is
