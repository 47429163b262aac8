-- Each record of a job is owned by it, and so what holds of each owned record holds of all of them.
use Rattle.std.proofs.Common.{◌≡◌, ◌≢◌, ◌++◌, ℕ, List, [], ◌∷◌, sym, ◌∙◌, subst, ap}
use Rattle.std.specs.Prelude.{All}
use Rattle.std.proofs.lemmas.List.Elements.{All-append, All-cons, All-nil, All-weaker}
use Rattle.jcl_plan.specs.declared.plan.DdKind.{DdKind}
use Rattle.jcl_plan.specs.declared.plan.DdKind.TheVariants.{Cards, Dummy, Set, Sysout}
use Rattle.jcl_plan.specs.declared.plan.DdPlan.{DdPlan}
use Rattle.jcl_plan.specs.declared.plan.JobPlan.{JobPlan}
use Rattle.jcl_plan.specs.declared.plan.StepPlan.{StepPlan}
use Rattle.cb_meaning.specs.declared.layout.Layout.{Layout}
use Rattle.cb_meaning.specs.Fields.{field, number_at}
use Rattle.cb_meaning.specs.Spelled.{Below, CardChain, DdChain, Denotes, IsOwned, Records, Spell, StepChain, card_record, jct, jfcb, sct, siot}

module _ (l : Layout) (q : Records) (job : ℕ) (Holds : ℕ → Type 0) (each : (kind n : ℕ) → IsOwned l q job kind n → Holds n) where
  nothing_owned : (numbers : List ℕ) → numbers ≡ [] → All Holds numbers
  nothing_owned numbers e = subst (All Holds) (sym e) (All-nil Holds)

  cards_owned : (first : ℕ) (numbers : List ℕ) (cards : List (List ℕ)) → CardChain l q job first numbers cards → All Holds numbers
  cards_owned first [] cards c = All-nil Holds
  cards_owned first (n ∷ numbers) cards c =
      All-cons Holds n numbers (each card_record n c.4) (cards_owned (number_at (q.at n) l.next_cards) numbers c.1 c.6)

  below_owned : (first : ℕ) (numbers : List ℕ) (kind : DdKind) → Below l q job first numbers kind → All Holds numbers
  below_owned first numbers Dummy b = nothing_owned numbers b.1
  below_owned first numbers (Sysout class) b = nothing_owned numbers b.1
  below_owned first numbers (Cards cards) b = cards_owned first numbers cards b
  below_owned first numbers (Set p) b = subst (All Holds) (sym b.0) (All-cons Holds first [] (each jfcb first b.1) (All-nil Holds))

  dds_owned : (first : ℕ) (numbers : List ℕ) (dds : List DdPlan) → DdChain l q job first numbers dds → All Holds numbers
  dds_owned first numbers [] c = nothing_owned numbers c.1
  dds_owned first numbers (dd ∷ dds) c =
      subst (All Holds) (sym c.2) (All-cons Holds first (c.0 ++ c.1) (each siot first c.3)
      (All-append Holds c.0 c.1 (below_owned (number_at (q.at first) l.below) c.0 dd.kind c.5) (dds_owned (number_at (q.at first) l.next_dd) c.1 dds c.6)))

  steps_owned : (first : ℕ) (numbers : List ℕ) (steps : List StepPlan) → StepChain l q job first numbers steps → All Holds numbers
  steps_owned first numbers [] c = nothing_owned numbers c.1
  steps_owned first numbers (step ∷ steps) c =
      subst (All Holds) (sym c.2) (All-cons Holds first (c.0 ++ c.1) (each sct first c.3)
      (All-append Holds c.0 c.1 (dds_owned (number_at (q.at first) l.first_dd) c.0 step.dds c.5) (steps_owned (number_at (q.at first) l.next_step) c.1 steps c.6)))

  pub job_owned : (numbers : List ℕ) (plan : JobPlan) → Spell l q job numbers plan → All Holds numbers
  job_owned numbers plan s =
      subst (All Holds) (sym s.begins) (All-cons Holds s.first s.behind (each jct s.first s.owned)
      (steps_owned (number_at (q.at s.first) l.first_step) s.behind plan.steps s.steps))

pub none_in_common : (l : Layout) (units : ℕ) (q : Records) (job other : ℕ) (ms ns : List ℕ) (plan another : JobPlan) → job ≢ other →
    Denotes l units q job ms plan → Denotes l units q other ns another → All (λ n. All (λ m. m ≢ n) ns) ms
none_in_common l units q job other ms ns plan another apart d e =
    All-weaker (λ n. number_at (q.at n) (field 2 2) ≡ job) (λ n. All (λ m. m ≢ n) ns)
    (λ n owned. All-weaker (λ m. number_at (q.at m) (field 2 2) ≡ other) (λ m. m ≢ n)
    (λ m owned_too same. apart (sym owned ∙ (ap (λ (k : ℕ). number_at (q.at k) (field 2 2)) (sym same) ∙ owned_too))) ns
    (job_owned l q other (λ m. number_at (q.at m) (field 2 2) ≡ other) (λ kind m o. o.of_job) ns another e.spelled)) ms
    (job_owned l q job (λ n. number_at (q.at n) (field 2 2) ≡ job) (λ kind n o. o.of_job) ms plan d.spelled)
