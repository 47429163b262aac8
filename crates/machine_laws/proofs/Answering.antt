-- Two answers to one job that the volumes decide are one, or each tells a RISK of one step and DD.
use Rattle.std.proofs.Common.{◌≡◌, ◌≢◌, ◌⊎◌, inl, inr, ℕ, Bool, true, false, List, [], ◌∷◌, ◌++◌, map, refl, sym, ap, subst, ◌∙◌}
use Rattle.jcl_plan.specs.declared.entry.Entry.{Entry}
use Rattle.jcl_plan.specs.declared.entry.Entry.TheVariants as entry
use Rattle.jcl_plan.specs.declared.entry.JobLine.{JobLine}
use Rattle.jcl_plan.specs.declared.entry.JobLine.TheVariants as line
use Rattle.jcl_plan.specs.declared.fault.Fault.{Fault}
use Rattle.jcl_plan.specs.declared.outcome.Outcome.{Outcome}
use Rattle.jcl_plan.specs.declared.plan.JobPlan.{JobPlan}
use Rattle.jcl_meaning.specs.declared.program.SoloProgram.{SoloProgram}
use Rattle.jcl_meaning.specs.States.{Fixed}
use Rattle.path_meaning.specs.Verdicts.{IsNeverTwo}
use Rattle.path_laws.specs.OneAnswer.{IsOneAnswer}
use Rattle.world_meaning.specs.Transitions.{told_with}
use Rattle.world_meaning.specs.Worlds.{of_job}
use Rattle.shared_core.specs.declared.store.SharedStore.{SharedStore}
use Rattle.sched_core.specs.Told.{IsTold, assured, no_space, risk, too_many}
use Rattle.sched_core.specs.Choosing.{lines_answered}
use Rattle.machine_laws.specs.Answers.{IsSameAnswer}
use Rattle.machine_laws.proofs.OnlyAnswers.{only_one}
use Rattle.machine_laws.specs.Alike.{PartAtRisk}
use Rattle.machine_laws.proofs.Paths.{same_fault, same_path}

-- another fault at a place, or another path to it
pub record IsOtherRisk (one other : JobLine) : Type 0 where
  pub fault : Fault
  pub other_fault : Fault
  pub step : ℕ
  pub dd : ℕ
  pub path : List Outcome
  pub other_path : List Outcome
  pub is : one ≡ line.Risk fault step dd path
  pub other_is : other ≡ line.Risk other_fault step dd other_path
  pub differ : (fault ≢ other_fault) ⊎ (path ≢ other_path)

risks_meet : (one other : JobLine) (fault : Fault) (step dd : ℕ) (path : List Outcome) → one ≡ line.Risk fault step dd path → IsSameAnswer one other →
    (other ≡ one) ⊎ IsOtherRisk one other
risks_meet one other fault step dd path is same = by (subst (λ (x : JobLine). IsSameAnswer x other) is same)
  where
    by : IsSameAnswer (line.Risk fault step dd path) other → (other ≡ one) ⊎ IsOtherRisk one other
    by (f, p, other_is) =
        elim (same_fault fault f) [
          | inl same_f ↦ elim (same_path path p) [
            | inl same_p ↦ inl (other_is ∙ sym (λ i. line.Risk (same_f i) step dd (same_p i)) ∙ sym is)
            | inr other_p ↦ inr (record {
              fault = fault;
              other_fault = f;
              step = step;
              dd = dd;
              path = path;
              other_path = p;
              is = is;
              other_is = other_is;
              differ = inr other_p;
            })
          ]
          | inr other_f ↦ inr (record {
            fault = fault;
            other_fault = f;
            step = step;
            dd = dd;
            path = path;
            other_path = p;
            is = is;
            other_is = other_is;
            differ = inl other_f;
          })
        ]

pub answers_meet : IsNeverTwo → IsOneAnswer → (store : SharedStore) (programs : List SoloProgram) (limit job : ℕ) (plan : JobPlan) (fixed : Fixed)
    (one other : JobLine) → IsTold store programs limit job plan fixed one → IsTold store programs limit job plan fixed other →
    (other ≡ one) ⊎ IsOtherRisk one other
answers_meet never only store programs limit job plan fixed one other a b = by a
  where
    same : IsSameAnswer one other
    same = only_one never only store programs limit job plan fixed one other a b

    by : IsTold store programs limit job plan fixed one → (other ≡ one) ⊎ IsOtherRisk one other
    by (assured made free room is) = inl (subst (λ (x : JobLine). IsSameAnswer x other) is same ∙ sym is)
    by (no_space made serial free room there is) = inl (subst (λ (x : JobLine). IsSameAnswer x other) is same ∙ sym is)
    by (risk fault step dd path earliest is) = risks_meet one other fault step dd path is same
    by (too_many step first is) = inl (subst (λ (x : JobLine). IsSameAnswer x other) is same ∙ sym is)

-- the first line of a turn is the job's own
abbrev behind : ℕ → List JobLine → List JobLine → List Entry
behind job told [] = of_job job told
behind job told (first ∷ path) = map (entry.Path job) (first ∷ path) ++ of_job job told

first_stands : (job : ℕ) (first : JobLine) (told path : List JobLine) → told_with job (first ∷ told) path ≡ entry.Job job first ∷ behind job told path
first_stands job first told [] = refl
first_stands job first told (p ∷ path) = refl

abbrev second : Bool → List JobLine
second true = line.Refused ∷ []
second false = []

risk_first : (refuses : Bool) (fault : Fault) (step dd : ℕ) (path : List Outcome) →
    lines_answered refuses (line.Risk fault step dd path) ≡ line.Risk fault step dd path ∷ second refuses
risk_first true fault step dd path = refl
risk_first false fault step dd path = refl

-- the lines of turns that answer so part there
pub parts : (refuses : Bool) (job : ℕ) (one other : JobLine) (told told_too path path_too : List JobLine) (lines more : List Entry) → IsOtherRisk one other →
    told ≡ lines_answered refuses one → told_too ≡ lines_answered refuses other → lines ≡ told_with job told path → more ≡ told_with job told_too path_too →
    PartAtRisk lines more
parts refuses job one other told told_too path path_too lines more r t u l m = record {
  job = job;
  step = r.step;
  dd = r.dd;
  fault = r.fault;
  other_fault = r.other_fault;
  path = r.path;
  other_path = r.other_path;
  behind = behind job (second refuses) path;
  other_behind = behind job (second refuses) path_too;
  told = l ∙ ap (λ (x : List JobLine). told_with job x path) (t ∙ ap (lines_answered refuses) r.is ∙ risk_first refuses r.fault r.step r.dd r.path)
      ∙ first_stands job (line.Risk r.fault r.step r.dd r.path) (second refuses) path;
  told_too = m ∙ ap (λ (x : List JobLine). told_with job x path_too)
      (u ∙ ap (lines_answered refuses) r.other_is ∙ risk_first refuses r.other_fault r.step r.dd r.other_path)
      ∙ first_stands job (line.Risk r.other_fault r.step r.dd r.other_path) (second refuses) path_too;
  differ = r.differ;
}
