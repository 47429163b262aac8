-- A job that records denote has as many records at least as its plan needs.
use Rattle.std.proofs.Common.{◌≡◌, ◌≤◌, ◌+◌, ◌*◌, ◌/◌, ℕ, suc, List, [], ◌∷◌, arith, length, length-append, ap, ◌∙◌}
use Rattle.std.specs.Prelude.{sum_by}
use Rattle.std.proofs.lemmas.List.Sums.{sum_by-cons}
use Rattle.std.proofs.Math.Nat.{mul-div-le}
use Rattle.jcl_plan.specs.declared.plan.DdKind.{DdKind}
use Rattle.jcl_plan.specs.declared.plan.DdKind.TheVariants.{Cards, Dummy, Set, Sysout}
use Rattle.jcl_plan.specs.declared.plan.DdPlan.{DdPlan}
use Rattle.jcl_plan.specs.declared.plan.JobPlan.{JobPlan}
use Rattle.jcl_plan.specs.declared.plan.StepPlan.{StepPlan}
use Rattle.cb_meaning.specs.declared.layout.Layout.{Layout}
use Rattle.cb_meaning.specs.Fields.{number_at}
use Rattle.cb_meaning.specs.Needs.{records_below, records_needed, records_of_step}
use Rattle.cb_meaning.specs.Spelled.{Below, CardChain, DdChain, Denotes, Records, StepChain}

half : (cards n : ℕ) → cards ≤ 2 * n → (cards + 1) / 2 ≤ n
half cards n h = let whole : 2 * ((cards + 1) / 2) ≤ cards + 1 = mul-div-le (cards + 1) 2 in twice ((cards + 1) / 2) cards n whole h
  where
    twice : (q c m : ℕ) → 2 * q ≤ c + 1 → c ≤ 2 * m → q ≤ m
    twice q c m e f = omega (arith, e, f)

module _ (l : Layout) (q : Records) (job : ℕ) where
  cards_held : (first : ℕ) (numbers : List ℕ) (cards : List (List ℕ)) → CardChain l q job first numbers cards → length cards ≤ 2 * length numbers
  cards_held first [] cards c = let none : length cards ≡ 0 = ap length c.1 in omega (arith, none)
  cards_held first (n ∷ numbers) cards c =
      two_more (length cards) (length c.0) (length c.1) (length numbers) (ap length c.3 ∙ length-append c.0 c.1) c.5.most
      (cards_held (number_at (q.at n) l.next_cards) numbers c.1 c.6)
    where
      two_more : (all here behind n : ℕ) → all ≡ here + behind → here ≤ 2 → behind ≤ 2 * n → all ≤ 2 * suc n
      two_more all here behind n e f g = omega (arith, e, f, g)

  below_needed : (first : ℕ) (numbers : List ℕ) (kind : DdKind) → Below l q job first numbers kind → records_below kind ≤ length numbers
  below_needed first numbers Dummy b = omega arith
  below_needed first numbers (Sysout class) b = omega arith
  below_needed first numbers (Cards cards) b = half (length cards) (length numbers) (cards_held first numbers cards b)
  below_needed first numbers (Set p) b = let one : length numbers ≡ 1 = ap length b.0 in omega (arith, one)

  one_more : (all here below behind few many : ℕ) → all ≡ suc (below + behind) → here ≤ below → few ≤ behind → many ≡ (1 + here) + few → many ≤ all
  one_more all here below behind few many e f g h = omega (arith, e, f, g, h)

  dds_needed : (first : ℕ) (numbers : List ℕ) (dds : List DdPlan) → DdChain l q job first numbers dds →
      sum_by (λ dd. 1 + records_below dd.kind) dds ≤ length numbers
  dds_needed first numbers [] c = omega arith
  dds_needed first numbers (dd ∷ dds) c =
      one_more (length numbers) (records_below dd.kind) (length c.0) (length c.1) (sum_by (λ d. 1 + records_below d.kind) dds)
      (sum_by (λ d. 1 + records_below d.kind) (dd ∷ dds)) (ap length c.2 ∙ ap suc (length-append c.0 c.1))
      (below_needed (number_at (q.at first) l.below) c.0 dd.kind c.5) (dds_needed (number_at (q.at first) l.next_dd) c.1 dds c.6)
      (sum_by-cons (λ (d : DdPlan). 1 + records_below d.kind) dd dds)

  steps_needed : (first : ℕ) (numbers : List ℕ) (steps : List StepPlan) → StepChain l q job first numbers steps → sum_by records_of_step steps ≤ length numbers
  steps_needed first numbers [] c = omega arith
  steps_needed first numbers (step ∷ steps) c =
      one_more (length numbers) (sum_by (λ dd. 1 + records_below dd.kind) step.dds) (length c.0) (length c.1) (sum_by records_of_step steps)
      (sum_by records_of_step (step ∷ steps)) (ap length c.2 ∙ ap suc (length-append c.0 c.1))
      (dds_needed (number_at (q.at first) l.first_dd) c.0 step.dds c.5) (steps_needed (number_at (q.at first) l.next_step) c.1 steps c.6)
      (sum_by-cons records_of_step step steps)

pub needed : (l : Layout) (units : ℕ) (q : Records) (job : ℕ) (numbers : List ℕ) (plan : JobPlan) → Denotes l units q job numbers plan →
    records_needed plan ≤ length numbers
needed l units q job numbers plan d =
    with_head (length numbers) (length d.spelled.behind) (sum_by records_of_step plan.steps) (ap length d.spelled.begins)
    (steps_needed l q job (number_at (q.at d.spelled.first) l.first_step) d.spelled.behind plan.steps d.spelled.steps)
  where
    with_head : (all behind n : ℕ) → all ≡ suc behind → n ≤ behind → 1 + n ≤ all
    with_head all behind n e f = omega (arith, e, f)
