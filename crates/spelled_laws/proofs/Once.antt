-- By the same numbers a job is spelled once, but for what is open.
use Rattle.std.proofs.Common.{◌≡◌, ◌++◌, ℕ, List, [], ◌∷◌, sym, ap, ◌∙◌, subst}
use Rattle.std.specs.Prelude.{All}
use Rattle.std.proofs.lemmas.List.{append-nil}
use Rattle.std.proofs.lemmas.List.Elements.{All-cons, All-head, All-tail}
use Rattle.jcl_plan.specs.declared.plan.JobPlan.{JobPlan}
use Rattle.cb_meaning.specs.declared.layout.Layout.{Layout}
use Rattle.cb_meaning.specs.Fields.{number_at}
use Rattle.cb_meaning.specs.Spelled.{Records, Spell, jct}
use Rattle.spelled_laws.specs.Once.{ArePacked, JobIsSpelledOnce}
use Rattle.spelled_laws.proofs.Below.{Agrees, Fits, settled, whole_at}
use Rattle.spelled_laws.proofs.Chains.{steps_same}
use Rattle.spelled_laws.proofs.Spellings.{jct_agrees}

module _ (l : Layout) (one other : Records) (job : ℕ) where
  all_fit : (numbers : List ℕ) → ArePacked l one numbers → ArePacked l other numbers → All (Fits l one other job) numbers
  all_fit numbers a b = λ k d within. (a.whole k d within, b.whole k d within, a.packed k d within, b.packed k d within)

  spelled_once : (numbers : List ℕ) (plan : JobPlan) → Spell l one job numbers plan → Spell l other job numbers plan → All (Fits l one other job) numbers →
      All (Agrees l one other job) numbers
  spelled_once numbers plan a b fit =
      let whole : a.first ∷ a.behind ≡ b.first ∷ b.behind = sym a.begins ∙ b.begins in
      let begins : b.first ≡ a.first = cc in
      let tails : a.behind ≡ b.behind = cc in
      let fit_all : All (Fits l one other job) (a.first ∷ a.behind) = subst (All (Fits l one other job)) a.begins fit in
      let here : Fits l one other job a.first = All-head (Fits l one other job) a.first a.behind fit_all in
      let behind : All (Fits l one other job) (a.behind ++ []) =
      subst (All (Fits l one other job)) (sym (append-nil a.behind)) (All-tail (Fits l one other job) a.first a.behind fit_all) in
      let steps = steps_same l one other job (number_at (one.at a.first) l.first_step) (number_at (other.at b.first) l.first_step) a.behind b.behind [] []
      plan.steps a.steps b.steps (ap (λ ks. ks ++ []) tails) behind in
      let head : Agrees l one other job a.first = settled l one other job jct a.first b.first begins a.owned (jct_agrees l (one.at a.first) (other.at b.first)
      here.0 (whole_at l one other job a.first b.first begins here) (b.owned.of_kind ∙ sym a.owned.of_kind) (b.owned.of_job ∙ sym a.owned.of_job)
      plan a.head b.head steps.0) in
      subst (All (Agrees l one other job)) (sym a.begins) (All-cons (Agrees l one other job) a.first a.behind head steps.3)

pub job_is_spelled_once : JobIsSpelledOnce
job_is_spelled_once l units job numbers plan one other a b d e =
    spelled_once l one other job numbers plan d.spelled e.spelled (all_fit l one other job numbers a b)
