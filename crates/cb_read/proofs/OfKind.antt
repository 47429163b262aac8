-- The records that denote a job are of the kinds that their places ask.
use Rattle.std.proofs.Common.{◌≡◌, ◌≢◌, ℕ, zero, suc, ◌+◌, ◌-◌, ◌<◌, List, [], ◌∷◌, sym, ap, subst, arith}
use Rattle.jcl_plan.specs.declared.plan.DdKind.{DdKind}
use Rattle.jcl_plan.specs.declared.plan.DdKind.TheVariants.{Cards, Dummy, Set, Sysout}
use Rattle.jcl_plan.specs.declared.plan.DdPlan.{DdPlan}
use Rattle.jcl_plan.specs.declared.plan.JobPlan.{JobPlan}
use Rattle.jcl_plan.specs.declared.plan.StepPlan.{StepPlan}
use Rattle.cb_meaning.specs.Fields.{byte_at, number_at}
use Rattle.cb_meaning.specs.Spelled.{Below, CardChain, DdChain, Denotes, StepChain, card_record, kind_code}
use Rattle.cb_queue.specs.RecordQueues.{RecordQueue, shown}
use Rattle.cb_read.specs.Kinds.{AreCards, AreDds, AreSteps, HoldsAlong, IsBelowOfKind, IsJobOfKind, IsOfKind}

-- of the first record of a chain, and of those behind it
module _ (next : ℕ → ℕ) (P : ℕ → Type 0) where
  pub none_along : (fuel n : ℕ) → n ≡ 0 → HoldsAlong next P fuel n
  unfolding HoldsAlong
  none_along zero n end = tt
  none_along (suc fuel) n end = λ some. absurd (some end)

  pub more_along : (fuel n : ℕ) → P n → HoldsAlong next P fuel (next n) → HoldsAlong next P (suc fuel) n
  unfolding HoldsAlong
  more_along fuel n here behind = λ some. (here, behind)

  pub nothing_along : (n : ℕ) → HoldsAlong next P 0 n
  unfolding HoldsAlong
  nothing_along n = tt

  both_along : (fuel n : ℕ) → HoldsAlong next P (suc fuel) n → n ≢ 0 → P n × HoldsAlong next P fuel (next n)
  unfolding HoldsAlong
  both_along fuel n h some = h some

  module _ (left n : ℕ) (some : 0 < left) (there : n ≢ 0) (h : HoldsAlong next P left n) where
    parts : P n × HoldsAlong next P (left - 1) (next n)
    parts =
        let one : left ≡ suc (left - 1) = omega (arith, some) in
        both_along (left - 1) n (subst (λ x. HoldsAlong next P x n) one h) there

    pub first_along : P n
    first_along = parts.0

    pub rest_along : (m : ℕ) → m ≡ next n → HoldsAlong next P (left - 1) m
    rest_along m on = subst (HoldsAlong next P (left - 1)) (sym on) parts.1

module _ (q : RecordQueue) (job : ℕ) where
  cards_of_kind : (fuel first : ℕ) (numbers : List ℕ) (cards : List (List ℕ)) → CardChain q.layout (shown q) job first numbers cards → AreCards q fuel first
  cards_of_kind zero first numbers cards h = nothing_along _ _ first
  cards_of_kind (suc fuel) first [] cards h = none_along _ _ (suc fuel) first h.0
  cards_of_kind (suc fuel) first (n ∷ numbers) cards h =
      let next : ℕ → ℕ = λ m. number_at ((shown q).at m) q.layout.next_cards in
      subst (AreCards q (suc fuel)) (sym h.2)
      (more_along next (IsOfKind q card_record) fuel n h.4.of_kind (cards_of_kind fuel (next n) numbers h.1 h.6))

  pub below_of_kind : (s numbers : List ℕ) (kind : DdKind) → byte_at s 12 ≡ kind_code kind →
      Below q.layout (shown q) job (number_at s q.layout.below) numbers kind → IsBelowOfKind q s
  below_of_kind s numbers Dummy is h = record { set = λ e. absurd cc; cards = λ e. absurd cc }
  below_of_kind s numbers (Sysout class) is h = record { set = λ e. absurd cc; cards = λ e. absurd cc }
  below_of_kind s numbers (Cards cards) is h = record {
    set = λ e. absurd cc;
    cards = λ e. cards_of_kind (q.layout.most_records + 1) (number_at s q.layout.below) numbers cards h;
  }
  below_of_kind s numbers (Set p) is h = record { set = λ e. h.1.of_kind; cards = λ e. absurd cc }

  dds_of_kind : (fuel first : ℕ) (numbers : List ℕ) (dds : List DdPlan) → DdChain q.layout (shown q) job first numbers dds → AreDds q fuel first
  dds_of_kind zero first numbers dds h = nothing_along _ _ first
  dds_of_kind (suc fuel) first numbers [] h = none_along _ _ (suc fuel) first h.0
  dds_of_kind (suc fuel) first numbers (dd ∷ dds) h =
      more_along _ _ fuel first
      (record { kind = h.3.of_kind; below = below_of_kind ((shown q).at first) h.0 dd.kind h.4.kind h.5 })
      (dds_of_kind fuel (number_at ((shown q).at first) q.layout.next_dd) h.1 dds h.6)

  steps_of_kind : (fuel first : ℕ) (numbers : List ℕ) (steps : List StepPlan) → StepChain q.layout (shown q) job first numbers steps → AreSteps q fuel first
  steps_of_kind zero first numbers steps h = nothing_along _ _ first
  steps_of_kind (suc fuel) first numbers [] h = none_along _ _ (suc fuel) first h.0
  steps_of_kind (suc fuel) first numbers (step ∷ steps) h =
      more_along _ _ fuel first
      (record {
        kind = h.3.of_kind;
        dds = dds_of_kind (q.layout.most_records + 1) (number_at ((shown q).at first) q.layout.first_dd) h.0 step.dds h.5;
      })
      (steps_of_kind fuel (number_at ((shown q).at first) q.layout.next_step) h.1 steps h.6)

  pub job_of_kind : (units n : ℕ) (behind : List ℕ) (plan : JobPlan) → Denotes q.layout units (shown q) job (n ∷ behind) plan → IsJobOfKind q n
  job_of_kind units n behind plan h =
      let s = h.spelled in
      let first : n ≡ s.first = ap head_of s.begins in
      subst (IsJobOfKind q) (sym first) (record {
        kind = s.owned.of_kind;
        steps = steps_of_kind (q.layout.most_records + 1) (number_at ((shown q).at s.first) q.layout.first_step) s.behind plan.steps s.steps;
      })
    where
      head_of : List ℕ → ℕ
      head_of [] = 0
      head_of (x ∷ xs) = x
