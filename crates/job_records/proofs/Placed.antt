-- Where the steps and the DDs of a job stand that records denote.
use Rattle.std.proofs.Common.{◌≡◌, ◌∙◌, ℕ, zero, suc, ◌+◌, ◌<◌, List, [], ◌∷◌, ap, arith, get_or, inl, inr, length, refl, subst}
use Rattle.std.proofs.lemmas.Bool.{cases_eq}
use Rattle.jcl_plan.specs.declared.plan.DdPlan.{DdPlan}
use Rattle.jcl_plan.specs.declared.plan.StepPlan.{StepPlan}
use Rattle.cb_meaning.specs.Fields.{number_at}
use Rattle.cb_meaning.specs.Spelled.{Below, DdChain, IsOwned, SpellsSct, SpellsSiot, StepChain, sct, siot}
use Rattle.cb_queue.specs.RecordQueues.{RecordQueue, shown}
use Rattle.cb_read.proofs.Chained.{IsChain}
use Rattle.job_text.specs.Places.{dd_at, step_at}
use Rattle.job_records.specs.Recorded.{along, next_dd, next_step}

module _ (next : ℕ → ℕ) where
  pub along_next : (n k : ℕ) → along next (next n) k ≡ along next n (suc k)
  along_next n zero = refl
  along_next n (suc k) = ap next (along_next n k)

  pub along_on : (n a b : ℕ) → along next (along next n a) b ≡ along next n (a + b)
  along_on n a zero = ap (along next n) (omega arith)
  along_on n a (suc b) =
      let more : suc (a + b) ≡ a + suc b = omega arith in
      ap next (along_on n a b) ∙ ap (along next n) more

-- what is read of a chain at a place is read of the record that as many links lead to
module _ {A : Type 0} (read : ℕ → ℕ → List A) (item : ℕ → A) (next : ℕ → ℕ) (chain : IsChain read (λ n. item n ∷ []) next) (d : A) where
  pub nth_read : (fuel n k : ℕ) → k < length (read fuel n) → get_or (read fuel n) k d ≡ item (along next n k)
  nth_read zero n k h = let none = ap length (chain.spent n) in absurd (omega (arith, h, none))
  nth_read (suc fuel) n k h =
      elim (cases_eq n 0) [
        | inl e ↦ (let none = ap (λ m. length (read (suc fuel) m)) e ∙ ap length (chain.end fuel) in absurd (omega (arith, h, none)))
        | inr some ↦ by k h (chain.more fuel n some) (nth_read fuel (next n))
      ]
    where
      by : (k : ℕ) → k < length (read (suc fuel) n) → read (suc fuel) n ≡ item n ∷ read fuel (next n) →
          ((j : ℕ) → j < length (read fuel (next n)) → get_or (read fuel (next n)) j d ≡ item (along next (next n) j)) →
          get_or (read (suc fuel) n) k d ≡ item (along next n k)
      by zero h is rest = ap (λ xs. get_or xs 0 d) is
      by (suc k) h is rest =
          let size = ap length is in
          ap (λ xs. get_or xs (suc k) d) is ∙ rest k (omega (arith, h, size)) ∙ ap item (along_next next n k)

-- the records of a step, and of a DD
pub record IsSct (q : RecordQueue) (job n : ℕ) (step : StepPlan) : Type 0 where
  pub owned : IsOwned q.layout (shown q) job sct n
  pub spelled : SpellsSct q.layout step ((shown q).at n)
  pub below : List ℕ
  pub dds : DdChain q.layout (shown q) job (number_at ((shown q).at n) q.layout.first_dd) below step.dds

pub record IsSiot (q : RecordQueue) (job n : ℕ) (dd : DdPlan) : Type 0 where
  pub owned : IsOwned q.layout (shown q) job siot n
  pub spelled : SpellsSiot q.layout dd ((shown q).at n)
  pub numbers : List ℕ
  pub below : Below q.layout (shown q) job (number_at ((shown q).at n) q.layout.below) numbers dd.kind

module _ (q : RecordQueue) (job : ℕ) where
  pub sct_of_chain : (first : ℕ) (numbers : List ℕ) (steps : List StepPlan) (k : ℕ) → StepChain q.layout (shown q) job first numbers steps → k < length steps →
      IsSct q job (along (next_step q) first k) (step_at steps k)
  sct_of_chain first numbers [] k h there = absurd (omega (arith, there))
  sct_of_chain first numbers (step ∷ steps) zero h there = record { owned = h.3; spelled = h.4; below = h.0; dds = h.5 }
  sct_of_chain first numbers (step ∷ steps) (suc k) h there =
      subst (λ n. IsSct q job n (step_at steps k)) (along_next (next_step q) first k)
      (sct_of_chain (next_step q first) h.1 steps k h.6 (omega (arith, there)))

  pub siot_of_chain : (first : ℕ) (numbers : List ℕ) (dds : List DdPlan) (d : ℕ) → DdChain q.layout (shown q) job first numbers dds → d < length dds →
      IsSiot q job (along (next_dd q) first d) (dd_at dds d)
  siot_of_chain first numbers [] d h there = absurd (omega (arith, there))
  siot_of_chain first numbers (dd ∷ dds) zero h there = record { owned = h.3; spelled = h.4; numbers = h.0; below = h.5 }
  siot_of_chain first numbers (dd ∷ dds) (suc d) h there =
      subst (λ n. IsSiot q job n (dd_at dds d)) (along_next (next_dd q) first d)
      (siot_of_chain (next_dd q first) h.1 dds d h.6 (omega (arith, there)))
