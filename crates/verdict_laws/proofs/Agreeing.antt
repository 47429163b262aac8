-- Two verdicts of one job are the same but for how the steps end on the path of a RISK, and the fault on it.
use Rattle.std.proofs.Common.{◌≡◌, ℕ, List, length, Some, sym, ap, ◌∙◌}
use Rattle.std.specs.Prelude.{slice_get}
use Rattle.jcl_plan.specs.declared.fault.Fault.{Fault}
use Rattle.jcl_plan.specs.declared.outcome.Outcome.{Outcome}
use Rattle.jcl_plan.specs.declared.plan.JobPlan.{JobPlan}
use Rattle.jcl_meaning.specs.Agendas.{Action, path_agenda}
use Rattle.jcl_meaning.specs.States.{Fixed}
use Rattle.jcl_meaning.specs.Stores.{Store}
use Rattle.path_meaning.specs.Paths.{FaultPlace, MeetsFault, fault_place}
use Rattle.path_meaning.specs.Verdicts.{IsNeverTwo}
use Rattle.path_laws.specs.OneAnswer.{IsOneAnswer}
use Rattle.path_search.specs.declared.verdict.Verdict.{Verdict}
use Rattle.path_search.specs.declared.verdict.Verdict.TheVariants.{Risk, Safe, TooMany}
use Rattle.path_search.specs.Verdicts.{IsVerdict}
use Rattle.verdict_laws.specs.Agreement.{AreTheSame}
use Rattle.verdict_laws.proofs.Ended.{path_length}

-- at one action as many steps have ended
ended_at : (steps : ℕ) (a b : Action) (p q : FaultPlace) → a ≡ b → fault_place steps a ≡ Some p → fault_place steps b ≡ Some q → p.ended ≡ q.ended
ended_at steps a b p q same e f =
    let both : Some p ≡ Some q = sym e ∙ (ap (fault_place steps) same ∙ f) in
    let one : p ≡ q = cc in
    ap (λ (r : FaultPlace). r.ended) one

-- paths to one place have as many outcomes
same_length : (fixed : Fixed) (plan : JobPlan) (store : Store) (f g : Fault) (m n d e : ℕ) (os ps : List Outcome) →
    (a : MeetsFault fixed plan store f m d os) → (b : MeetsFault fixed plan store g n e ps) → a.place ≡ b.place → length os ≡ length ps
same_length fixed plan store f g m n d e os ps a b place =
    let due : Some a.action ≡ Some b.action = sym a.due ∙ (ap (slice_get (path_agenda plan)) place ∙ b.due) in
    let action : a.action ≡ b.action = cc in
    let ended : a.ended ≡ b.ended =
    ended_at (length plan.steps) a.action b.action (record { step = m; dd = d; ended = a.ended }) (record { step = n; dd = e; ended = b.ended }) action
    a.at b.at in
    path_length fixed plan store f m d os a ∙ ended ∙ sym (path_length fixed plan store g n e ps b)

module _ (never : IsNeverTwo) (one : IsOneAnswer) (fixed : Fixed) (plan : JobPlan) (store : Store) (limit : ℕ) where
  pub agree : (verdict other : Verdict) → (first : IsVerdict fixed plan store limit verdict) → (second : IsVerdict fixed plan store limit other) →
      AreTheSame fixed plan store limit verdict other first second
  agree (Safe places) (Safe others) first second = one.places fixed plan store places.items others.items first.made second.made
  agree (Safe places) (Risk other) first second =
      (never fixed plan store limit places.items first).0 other.fault other.step other.dd other.path.items second
  agree (Safe places) (TooMany other) first second = (never fixed plan store limit places.items first).1 other second
  agree (Risk report) (Safe others) first second =
      (never fixed plan store limit others.items second).0 report.fault report.step report.dd report.path.items first
  agree (Risk report) (Risk other) first second =
      let same =
      one.place fixed plan store limit report.fault other.fault report.step other.step report.dd other.dd report.path.items other.path.items first second in (
        same.0,
        same.1,
        same.2,
        same_length fixed plan store report.fault other.fault report.step other.step report.dd other.dd report.path.items other.path.items first.meets
            second.meets same.0,
      )
  agree (Risk report) (TooMany other) first second =
      one.not_both fixed plan store limit other report.step report.dd report.fault report.path.items first second
  agree (TooMany step) (Safe others) first second = (never fixed plan store limit others.items second).1 step first
  agree (TooMany step) (Risk other) first second =
      one.not_both fixed plan store limit step other.step other.dd other.fault other.path.items second first
  agree (TooMany step) (TooMany other) first second = one.step fixed plan store limit step other first second
