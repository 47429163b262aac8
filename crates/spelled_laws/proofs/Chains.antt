-- Chains that spell the same by the same numbers agree in their records but for what is open.
use Rattle.std.proofs.Common.{◌≡◌, ◌≤◌, ◌+◌, ◌*◌, ◌++◌, arith, ℕ, List, [], ◌∷◌, length, sym, ap, ◌∙◌, subst}
use Rattle.std.specs.Prelude.{All}
use Rattle.std.proofs.lemmas.List.{append_assoc}
use Rattle.std.proofs.lemmas.List.Elements.{All-append, All-cons, All-head, All-nil, All-tail, All-weaker}
use Rattle.jcl_plan.specs.declared.plan.DdKind.{DdKind}
use Rattle.jcl_plan.specs.declared.plan.DdKind.TheVariants.{Cards, Dummy, Set, Sysout}
use Rattle.jcl_plan.specs.declared.plan.DdPlan.{DdPlan}
use Rattle.jcl_plan.specs.declared.plan.StepPlan.{StepPlan}
use Rattle.cb_meaning.specs.declared.layout.Layout.{Layout}
use Rattle.cb_meaning.specs.Fields.{number_at}
use Rattle.cb_meaning.specs.Needs.{IsPacked}
use Rattle.cb_meaning.specs.Spelled.{Below, CardChain, DdChain, Records, StepChain, jfcb, sct, siot}
use Rattle.spelled_laws.proofs.Below.{Agrees, Fits, all_back, all_front, chains_agree, count_of, front_same, settled, whole_at}
use Rattle.spelled_laws.proofs.Spellings.{jfcb_agrees, sct_agrees, siot_agrees}

module _ (l : Layout) (one other : Records) (job : ℕ) where
  -- two lists of numbers with others behind them are the same, and so are those; the chains begin alike, and their records agree
  abbrev pub AreSame : (first again : ℕ) (ns ms rest more : List ℕ) → Type 0
  AreSame first again ns ms rest more = (again ≡ first) × (ns ≡ ms) × (rest ≡ more) × All (Agrees l one other job) ns

  -- no record on either side
  none_same : (first again : ℕ) (ns ms rest more : List ℕ) → (first ≡ 0) × (ns ≡ []) → (again ≡ 0) × (ms ≡ []) → ns ++ rest ≡ ms ++ more →
      AreSame first again ns ms rest more
  none_same first again ns ms rest more a b e =
      let parts = front_same ns ms rest more (ap length (a.1 ∙ sym b.1)) e in
      (b.0 ∙ sym a.0, parts.0, parts.1, subst (All (Agrees l one other job)) (sym a.1) (All-nil (Agrees l one other job)))

  -- cards
  cards_same : (first again : ℕ) (ns ms rest more : List ℕ) (cards : List (List ℕ)) → CardChain l one job first ns cards →
      CardChain l other job again ms cards →
      ns ++ rest ≡ ms ++ more → All (Fits l one other job) (ns ++ rest) → AreSame first again ns ms rest more
  cards_same first again ns ms rest more cards a b e fit =
      let fit_one : All (Fits l one other job) ns = all_front (Fits l one other job) ns rest fit in
      let fit_other : All (Fits l one other job) ms = all_front (Fits l one other job) ms more (subst (All (Fits l one other job)) e fit) in
      let count = count_of l one job first ns cards a (All-weaker (Fits l one other job) (λ n. IsPacked l (one.at n)) (λ n f. f.2) ns fit_one) in
      let again_count = count_of l other job again ms cards b (All-weaker (Fits l one other job) (λ n. IsPacked l (other.at n)) (λ n f. f.3) ms fit_other) in
      let low : length cards ≤ 2 * length ns = count.0 in
      let high : 2 * length ns ≤ length cards + 1 = count.1 in
      let low_too : length cards ≤ 2 * length ms = again_count.0 in
      let high_too : 2 * length ms ≤ length cards + 1 = again_count.1 in
      let as_many : length ns ≡ length ms = omega (arith, low, high, low_too, high_too) in
      let parts = front_same ns ms rest more as_many e in
      let both = chains_agree l one other job first again ns cards cards (λ i. cards) a
      (subst (λ ks. CardChain l other job again ks cards) (sym parts.0) b) fit_one in
      (both.0, parts.0, parts.1, both.1)

  -- what stands below a DD
  below_same : (first again : ℕ) (ns ms rest more : List ℕ) (kind : DdKind) → Below l one job first ns kind → Below l other job again ms kind →
      ns ++ rest ≡ ms ++ more → All (Fits l one other job) (ns ++ rest) → AreSame first again ns ms rest more
  below_same first again ns ms rest more Dummy a b e fit = none_same first again ns ms rest more a b e
  below_same first again ns ms rest more (Sysout class) a b e fit = none_same first again ns ms rest more a b e
  below_same first again ns ms rest more (Cards cards) a b e fit = cards_same first again ns ms rest more cards a b e fit
  below_same first again ns ms rest more (Set p) a b e fit =
      let size : length ns ≡ length ms = ap length a.0 ∙ sym (ap length b.0) in
      let parts = front_same ns ms rest more size e in
      let heads : again ∷ [] ≡ first ∷ [] = sym b.0 ∙ (sym parts.0 ∙ a.0) in
      let begins : again ≡ first = cc in
      let fits : Fits l one other job first =
      All-head (Fits l one other job) first [] (subst (All (Fits l one other job)) a.0 (all_front (Fits l one other job) ns rest fit)) in
      let agrees : Agrees l one other job first = settled l one other job jfcb first again begins a.1 (jfcb_agrees l (one.at first) (other.at again) fits.0
      (whole_at l one other job first again begins fits) (b.1.of_kind ∙ sym a.1.of_kind) (b.1.of_job ∙ sym a.1.of_job) p a.2 b.2) in
      let all : All (Agrees l one other job) (first ∷ []) = All-cons (Agrees l one other job) first [] agrees (All-nil (Agrees l one other job)) in
      (begins, parts.0, parts.1, subst (All (Agrees l one other job)) (sym a.0) all)

  -- the first records of two chains are one, and it fits; what stands below and behind it does so by the same numbers
  abbrev AreOpened : (first again : ℕ) (ns ms rest more below behind lower later : List ℕ) → Type 0
  AreOpened first again ns ms rest more below behind lower later = (again ≡ first) × (below ++ (behind ++ rest) ≡ lower ++ (later ++ more))
      × Fits l one other job first × All (Fits l one other job) (below ++ (behind ++ rest))

  opened_both : (first again : ℕ) (ns ms rest more below behind lower later : List ℕ) → ns ≡ first ∷ (below ++ behind) → ms ≡ again ∷ (lower ++ later) →
      ns ++ rest ≡ ms ++ more → All (Fits l one other job) (ns ++ rest) → AreOpened first again ns ms rest more below behind lower later
  opened_both first again ns ms rest more below behind lower later is is_too e fit =
      let whole : first ∷ ((below ++ behind) ++ rest) ≡ again ∷ ((lower ++ later) ++ more) =
      sym (ap (λ ks. ks ++ rest) is) ∙ (e ∙ ap (λ ks. ks ++ more) is_too) in
      let begins : again ≡ first = cc in
      let tails : (below ++ behind) ++ rest ≡ (lower ++ later) ++ more = cc in
      let fit_all : All (Fits l one other job) (first ∷ ((below ++ behind) ++ rest)) = subst (λ ks. All (Fits l one other job) (ks ++ rest)) is fit in (
        begins,
        sym (append_assoc below behind rest) ∙ (tails ∙ append_assoc lower later more),
        All-head (Fits l one other job) first ((below ++ behind) ++ rest) fit_all,
        subst (All (Fits l one other job)) (append_assoc below behind rest) (All-tail (Fits l one other job) first ((below ++ behind) ++ rest) fit_all),
      )

  -- Then the chains are the same where what stands below and behind is.
  closed : (first again : ℕ) (ns ms rest more below behind lower later : List ℕ) → ns ≡ first ∷ (below ++ behind) → ms ≡ again ∷ (lower ++ later) →
      again ≡ first → below ≡ lower → behind ≡ later → rest ≡ more → Agrees l one other job first → All (Agrees l one other job) below →
      All (Agrees l one other job) behind → AreSame first again ns ms rest more
  closed first again ns ms rest more below behind lower later is is_too begins same same_too same_rest here a b = (
    begins,
    is ∙ ((λ i. sym begins i ∷ (same i ++ same_too i)) ∙ sym is_too),
    same_rest,
    subst (All (Agrees l one other job)) (sym is)
        (All-cons (Agrees l one other job) first (below ++ behind) here (All-append (Agrees l one other job) below behind a b)),
  )

  -- DDs
  dds_same : (first again : ℕ) (ns ms rest more : List ℕ) (dds : List DdPlan) → DdChain l one job first ns dds → DdChain l other job again ms dds →
      ns ++ rest ≡ ms ++ more → All (Fits l one other job) (ns ++ rest) → AreSame first again ns ms rest more
  dds_same first again ns ms rest more [] a b e fit = none_same first again ns ms rest more a b e
  dds_same first again ns ms rest more (dd ∷ dds) a b e fit =
      let o = opened_both first again ns ms rest more a.0 a.1 b.0 b.1 a.2 b.2 e fit in
      let below = below_same (number_at (one.at first) l.below) (number_at (other.at again) l.below) a.0 b.0 (a.1 ++ rest) (b.1 ++ more)
      dd.kind a.5 b.5 o.1 o.3 in
      let behind = dds_same (number_at (one.at first) l.next_dd) (number_at (other.at again) l.next_dd) a.1 b.1 rest more dds a.6 b.6 below.2
      (all_back (Fits l one other job) a.0 (a.1 ++ rest) o.3) in
      closed first again ns ms rest more a.0 a.1 b.0 b.1 a.2 b.2 o.0 below.1 behind.1 behind.2
      (settled l one other job siot first again o.0 a.3 (siot_agrees l (one.at first) (other.at again) o.2.0 (whole_at l one other job first again o.0 o.2)
      (b.3.of_kind ∙ sym a.3.of_kind) (b.3.of_job ∙ sym a.3.of_job) dd a.4 b.4 behind.0 below.0)) below.3 behind.3

  -- steps
  pub steps_same : (first again : ℕ) (ns ms rest more : List ℕ) (steps : List StepPlan) → StepChain l one job first ns steps →
      StepChain l other job again ms steps → ns ++ rest ≡ ms ++ more → All (Fits l one other job) (ns ++ rest) → AreSame first again ns ms rest more
  steps_same first again ns ms rest more [] a b e fit = none_same first again ns ms rest more a b e
  steps_same first again ns ms rest more (step ∷ steps) a b e fit =
      let o = opened_both first again ns ms rest more a.0 a.1 b.0 b.1 a.2 b.2 e fit in
      let below = dds_same (number_at (one.at first) l.first_dd) (number_at (other.at again) l.first_dd) a.0 b.0 (a.1 ++ rest) (b.1 ++ more)
      step.dds a.5 b.5 o.1 o.3 in
      let behind = steps_same (number_at (one.at first) l.next_step) (number_at (other.at again) l.next_step) a.1 b.1 rest more steps a.6 b.6 below.2
      (all_back (Fits l one other job) a.0 (a.1 ++ rest) o.3) in
      closed first again ns ms rest more a.0 a.1 b.0 b.1 a.2 b.2 o.0 below.1 behind.1 behind.2
      (settled l one other job sct first again o.0 a.3 (sct_agrees l (one.at first) (other.at again) o.2.0 (whole_at l one other job first again o.0 o.2)
      (b.3.of_kind ∙ sym a.3.of_kind) (b.3.of_job ∙ sym a.3.of_job) step a.4 b.4 behind.0 below.0)) below.3 behind.3
