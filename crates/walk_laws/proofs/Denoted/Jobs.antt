-- The records of a job that they denote have no fault.
use Rattle.std.proofs.Common.{◌≡◌, ◌==◌, ◌+◌, ◌≤◌, arith, ℕ, false, List, [], ◌∷◌, length, None, Ok, refl, ap, ◌∙◌, subst}
use Rattle.std.specs.Prelude.{All}
use Rattle.std.proofs.lemmas.Bool.{cond-false}
use Rattle.jcl_plan.specs.declared.plan.JobPlan.{JobPlan}
use Rattle.jcl_plan.specs.declared.plan.StepPlan.{StepPlan}
use Rattle.cb_meaning.specs.declared.layout.Layout.{Layout}
use Rattle.cb_meaning.specs.Fields.{number_at}
use Rattle.cb_meaning.specs.Spelled.{Denotes, IsOwned, Records, Spell, SpellsJct, StepChain, jct, sct}
use Rattle.cb_meaning.specs.Walks.{fault_told, first_fault, walk_job}
use Rattle.cb_meaning.specs.Writable.{IsWritable}
use Rattle.record_laws.proofs.Owners.{job_owned}
use Rattle.walk_laws.proofs.Denoted.Arrivals.{arrived, no_end, passes}
use Rattle.walk_laws.proofs.Denoted.Heads.{jct_none}
use Rattle.walk_laws.proofs.Denoted.Seen.{AreNew, are_new, few_different, met}
use Rattle.walk_laws.proofs.Denoted.StepWalks.{steps_walk}

-- a job has a step
some_first : (l : Layout) (q : Records) (job first : ℕ) (numbers : List ℕ) (steps : List StepPlan) → 1 ≤ length steps → StepChain l q job first numbers steps →
    (first == 0) ≡ false
some_first l q job first numbers [] h c = absurd (omega (arith, h))
some_first l q job first numbers (step ∷ steps) h c = no_end l q job sct first c.3

module _ (l : Layout) (units : ℕ) (q : Records) (job n : ℕ) (behind : List ℕ) (plan : JobPlan) (h : IsWritable l.most_steps units plan)
    (owned : IsOwned l q job jct n) (head : SpellsJct l plan (q.at n)) (spelled : Spell l q job (n ∷ behind) plan)
    (c : StepChain l q job (number_at (q.at n) l.first_step) behind plan.steps) where
  in_range : All (λ m. m ≤ l.most_records) (n ∷ behind)
  in_range = job_owned l q job (λ m. m ≤ l.most_records) (λ kind m o. o.within) (n ∷ behind) plan spelled

  few : length (n ∷ behind) ≤ l.most_records + 1
  few = few_different (n ∷ behind) l.most_records spelled.once in_range

  new : AreNew [] (n ∷ behind)
  new = are_new (n ∷ behind) spelled.once

  job_walk : walk_job l units q job n ≡ Ok (met (n ∷ []) behind)
  job_walk =
      let some = few in
      passes _ _ (arrived l q job jct n owned [] refl)
      ∙ (passes _ _ (jct_none l units plan (q.at n) h head)
      ∙ (cond-false (number_at (q.at n) l.first_step == 0) _ _ (some_first l q job (number_at (q.at n) l.first_step) behind plan.steps h.some_step c)
      ∙ steps_walk l units q job plan.steps h.few_steps (number_at (q.at n) l.steps) head.steps (l.most_records + 1) [] plan.steps
      (number_at (q.at n) l.first_step) (n ∷ []) behind refl c h.steps (omega (arith, some)) (omega (arith, some)) new.1))

  no_fault : first_fault l units q job n ≡ None
  no_fault = ap (λ x. fault_told x) job_walk

pub denoted_has_no_fault : (l : Layout) (units : ℕ) (q : Records) (job n : ℕ) (behind : List ℕ) (plan : JobPlan) →
    Denotes l units q job (n ∷ behind) plan → first_fault l units q job n ≡ None
denoted_has_no_fault l units q job n behind plan e =
    let s : Spell l q job (n ∷ behind) plan = e.spelled in
    let both : n ∷ behind ≡ s.first ∷ s.behind = s.begins in
    let one : s.first ≡ n = cc in
    let rest : s.behind ≡ behind = cc in
    no_fault l units q job n behind plan e.in_range (subst (IsOwned l q job jct) one s.owned)
    (subst (λ (m : ℕ). SpellsJct l plan (q.at m)) one s.head) s
    (subst (λ (m : ℕ). StepChain l q job (number_at (q.at m) l.first_step) behind plan.steps) one
    (subst (λ (ns : List ℕ). StepChain l q job (number_at (q.at s.first) l.first_step) ns plan.steps) rest s.steps))
