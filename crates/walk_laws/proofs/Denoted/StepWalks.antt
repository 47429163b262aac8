-- The walk over the steps of a job.
use Rattle.std.proofs.Common.{◌≡◌, ◌==◌, ◌+◌, ◌≤◌, ◌<◌, ◌++◌, arith, ℕ, zero, suc, false, List, [], ◌∷◌, length, Ok, refl, sym, ap, ◌∙◌, subst, length-append}
use Rattle.std.proofs.lemmas.Bool.{cond-false, cond-true, eq-eqb, ne_eqb}
use Rattle.std.proofs.lemmas.List.{append-nil, append_assoc}
use Rattle.jcl_plan.specs.declared.plan.StepPlan.{StepPlan}
use Rattle.cb_meaning.specs.declared.layout.Layout.{Layout}
use Rattle.cb_meaning.specs.Fields.{number_at}
use Rattle.cb_meaning.specs.Spelled.{DdChain, IsOwned, Records, SpellsSct, StepChain, sct}
use Rattle.cb_meaning.specs.Walks.{walk_steps, with_dds}
use Rattle.cb_meaning.specs.Writable.{AreSteps, IsStepAt}
use Rattle.walk_laws.proofs.Denoted.Arrivals.{arrived, no_end, passes, passes_on}
use Rattle.walk_laws.proofs.Denoted.DdWalks.{dds_walk}
use Rattle.walk_laws.proofs.Denoted.Earlier.{all_more, all_sets, length_all, sets_of}
use Rattle.walk_laws.proofs.Denoted.Heads.{sct_none}
use Rattle.walk_laws.proofs.Denoted.Seen.{AreNew, is_among, met, met_both, new_behind, new_front}

module _ (l : Layout) (units : ℕ) (q : Records) (job : ℕ) (all : List StepPlan)
    (most : length all ≤ l.most_steps) (stated : ℕ) (count : stated ≡ length all) where
  abbrev k : List StepPlan → ℕ
  k prior = length (all_sets prior) + 1

  module _ (prior : List StepPlan) (step : StepPlan) (rest : List StepPlan) (split : all ≡ prior ++ step ∷ rest) (h : IsStepAt units all (k prior) step) where
    few_before : (length (all_sets prior) == l.most_steps) ≡ false
    few_before =
        let long : length all ≡ length prior + suc (length rest) = ap length split ∙ length-append prior (step ∷ rest) in
        let same = length_all prior in
        ne_eqb (length (all_sets prior)) l.most_steps (λ is. let no : ⊥ = omega (arith, is, long, same, most) in no)

    one_step : (fuel n : ℕ) (seen below : List ℕ) → IsOwned l q job sct n → SpellsSct l step (q.at n) →
        DdChain l q job (number_at (q.at n) l.first_dd) below step.dds → length below < l.most_records + 1 →
        is_among n seen ≡ false → AreNew (n ∷ seen) below →
        walk_steps l units q job (suc fuel) stated (all_sets prior) seen n
        ≡ walk_steps l units q job fuel stated (with_dds (all_sets prior) (sets_of step.dds)) (met (n ∷ seen) below) (number_at (q.at n) l.next_step)
    unfolding walk_steps
    one_step fuel n seen below owned spells down few new new_below =
        let low : 1 ≤ k prior = omega arith in
        cond-false (n == 0) _ _ (no_end l q job sct n owned)
        ∙ (passes _ _ (arrived l q job sct n owned seen new)
        ∙ (cond-false (length (all_sets prior) == l.most_steps) _ _ few_before
        ∙ (passes _ _ (sct_none l units all (k prior) low step (q.at n) h spells)
        ∙ passes_on _ (sets_of step.dds, met (n ∷ seen) below) _
        (dds_walk l units q job all prior step rest split h.begins_named h.few_dds (number_at (q.at n) l.dds) spells.dds (l.most_records + 1) [] step.dds
        (number_at (q.at n) l.first_dd) (n ∷ seen) below refl down h.dds few new_below))))

  at_end : (fuel first : ℕ) (seen : List ℕ) (prior : List StepPlan) → first ≡ 0 → all ≡ prior →
      walk_steps l units q job (suc fuel) stated (all_sets prior) seen first ≡ Ok seen
  unfolding walk_steps
  at_end fuel first seen prior e f =
      let long : length (all_sets prior) ≡ stated = length_all prior ∙ (ap length (sym f) ∙ sym count) in
      cond-true (first == 0) _ _ (eq-eqb first 0 e) ∙ cond-true (length (all_sets prior) == stated) _ _ (eq-eqb (length (all_sets prior)) stated long)

  pub steps_walk : (fuel : ℕ) (prior rest : List StepPlan) (first : ℕ) (seen numbers : List ℕ) → all ≡ prior ++ rest → StepChain l q job first numbers rest →
      AreSteps units all (k prior) rest → length numbers < fuel → length numbers ≤ l.most_records → AreNew seen numbers →
      walk_steps l units q job fuel stated (all_sets prior) seen first ≡ Ok (met seen numbers)
  steps_walk zero prior rest first seen numbers split c h few within new = absurd (omega (arith, few))
  steps_walk (suc fuel) prior [] first seen numbers split c h few within new =
      at_end fuel first seen prior c.0 (split ∙ append-nil prior) ∙ ap (λ (ns : List ℕ). Ok (met seen ns)) (sym c.1)
  steps_walk (suc fuel) prior (step ∷ rest) first seen numbers split c h few within new =
      let fresh : AreNew seen (first ∷ (c.0 ++ c.1)) = subst (AreNew seen) c.2 new in
      let long : length numbers ≡ suc (length c.0 + length c.1) = ap length c.2 ∙ ap suc (length-append c.0 c.1) in
      let next_k : k prior + 1 ≡ k (prior ++ step ∷ []) =
      (let a = length_all (prior ++ step ∷ []) in let b = length_all prior in let both = length-append prior (step ∷ []) in omega (arith, a, b, both)) in
      let next = number_at (q.at first) l.next_step in
      one_step prior step rest split h.0 fuel first seen c.0 c.3 c.4 c.5 (omega (arith, within, long)) fresh.0 (new_front (first ∷ seen) c.0 c.1 fresh.1)
      ∙ (ap (λ bs. walk_steps l units q job fuel stated bs (met (first ∷ seen) c.0) next) (all_more prior step)
      ∙ (steps_walk fuel (prior ++ step ∷ []) rest next (met (first ∷ seen) c.0) c.1 (split ∙ sym (append_assoc prior (step ∷ []) rest)) c.6
      (subst (λ (n : ℕ). AreSteps units all n rest) next_k h.1) (omega (arith, few, long)) (omega (arith, within, long))
      (new_behind (first ∷ seen) c.0 c.1 fresh.1)
      ∙ (ap (λ (ns : List ℕ). Ok ns) (sym (met_both (first ∷ seen) c.0 c.1)) ∙ ap (λ (ns : List ℕ). Ok (met seen ns)) (sym c.2))))
