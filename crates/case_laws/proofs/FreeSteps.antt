-- A step of a job that is answered anew for each action, beside one along the outcome that it then has.
use Rattle.std.proofs.Common.{◌≡◌, ◌+◌, ◌++◌, inl, inr, ℕ, List, [], ◌∷◌, sym, subst}
use Rattle.std.specs.List.{Contains}
use Rattle.jcl_plan.specs.declared.outcome.Outcome.{Outcome}
use Rattle.jcl_plan.specs.declared.outcome.Outcome.TheVariants as outcome
use Rattle.jcl_plan.specs.declared.plan.DdPlan.{DdPlan}
use Rattle.jcl_plan.specs.declared.plan.StepPlan.{StepPlan}
use Rattle.jcl_meaning.specs.declared.program.Move.{Move}
use Rattle.jcl_meaning.specs.declared.state.Place.{Place}
use Rattle.jcl_meaning.specs.Acts.{act}
use Rattle.jcl_meaning.specs.Agendas.{Action, Ask, Dispose, Finish, Receive, Start, Take, disposes_from, moves_from, step_actions, takes_from}
use Rattle.jcl_meaning.specs.History.{IsStepOutcome}
use Rattle.jcl_meaning.specs.States.{Answers, Fixed, State}
use Rattle.path_laws.proofs.Alike.{Closed, Open, Same}
use Rattle.path_laws.proofs.Asking.{ask_quiet, receive_quiet, stays_open}
use Rattle.path_laws.proofs.Cleanly.{Clean, after, after_append, clean_split}
use Rattle.path_laws.proofs.Ending.{disposes_alike, finishes_alike, outcome_good, outcome_of}
use Rattle.path_laws.proofs.Ranges.{in_range, range_good, range_same}
use Rattle.path_laws.proofs.Taking.{starts_alike, takes_alike}
use Rattle.case_laws.specs.Cases.{AreFair, MayMake, with_answers}
use Rattle.case_laws.proofs.Making.{IsTakeOf, made_by_take}
use Rattle.case_laws.proofs.Ordered.{in_a_row}
use Rattle.case_laws.proofs.TakesMade.{MakesIn, makes_first, same_made}

-- with other fair answers
abbrev again : State → Answers → State
again u answers = with_answers u.store u.own answers

same_again : (outs : List Outcome) (u t : State) (answers : Answers) → AreFair answers → Same outs u t → Same outs (again u answers) t
same_again outs u t answers fair h = record {
  store = h.store;
  passed = h.passed;
  ended = h.ended;
  faulted = h.faulted;
  volumes = h.volumes;
  runs = h.runs;
  dds = h.dds;
  granted = fair.granted;
  granted_too = h.granted_too;
  no_cancel = h.no_cancel;
  given = h.given;
  good = fair.ends;
}

open_again : (outs : List Outcome) (u t : State) (answers : Answers) → AreFair answers → Open outs u t → Open outs (again u answers) t
open_again outs u t answers fair o = record { same = same_again outs u t answers fair o.same; over = o.over; over_there = o.over_there }

closed_again : (outs : List Outcome) (u t : State) (answers : Answers) → AreFair answers → Closed outs u t → Closed outs (again u answers) t
closed_again outs u t answers fair c = record { same = same_again outs u t answers fair c.same; over = c.over }

module _ (fixed : Fixed) (p : Place) where
  -- a take makes the set, or the takes are passed
  data TakesOut (n dd : ℕ) (ds : List DdPlan) (ys : List Action) (u : State) : Type 0 where
    made : ((outs : List Outcome) (t : State) → Open outs u t → Clean fixed (takes_from n dd ds) t → MakesIn fixed (takes_from n dd ds) t p) →
        TakesOut n dd ds ys u
    passed : (v : State) → ((outs : List Outcome) (t : State) → Open outs u t → Clean fixed (takes_from n dd ds) t →
        Open outs v (after fixed (takes_from n dd ds) t)) → MayMake fixed ys v.store v.own p → TakesOut n dd ds ys u

  takes_out : (n dd : ℕ) (ds : List DdPlan) (ys : List Action) (u : State) → MayMake fixed (takes_from n dd ds ++ ys) u.store u.own p → TakesOut n dd ds ys u
  takes_out n dd [] ys u m = passed u (λ outs t o c. o) m
  takes_out n dd (d ∷ ds) ys u (answers, fair, inl h) =
      made (λ outs t o c. inl (subst (λ (ps : List Place). Contains ps p)
      (same_made outs fixed (again u answers) t (open_again outs u t answers fair o) n dd d) h))
  takes_out n dd (d ∷ ds) ys u (answers, fair, inr m) = by_rest (takes_out n (dd + 1) ds ys (act fixed (Take n dd d) (again u answers)).state m)
    where
      next : (outs : List Outcome) (t : State) → Open outs u t → Clean fixed (takes_from n dd (d ∷ ds)) t →
          Open outs (act fixed (Take n dd d) (again u answers)).state (act fixed (Take n dd d) t).state
      next outs t o c = (takes_alike outs fixed (again u answers) t (open_again outs u t answers fair o) n dd d c.0).1

      by_rest : TakesOut n (dd + 1) ds ys (act fixed (Take n dd d) (again u answers)).state → TakesOut n dd (d ∷ ds) ys u
      by_rest (made f) = made (λ outs t o c. inr (f outs (act fixed (Take n dd d) t).state (next outs t o c) c.1))
      by_rest (passed v f more) = passed v (λ outs t o c. f outs (act fixed (Take n dd d) t).state (next outs t o c) c.1) more

  -- requests make nothing
  record MovesOut (ys : List Action) (u : State) : Type 0 where
    left : State
    keeps : (outs : List Outcome) (t : State) → Open outs u t → Open outs left t
    more : MayMake fixed ys left.store left.own p

  no_ask : (step : StepPlan) (m : Move) → IsTakeOf (Ask step m) p → ⊥
  no_ask step m t = let e : Ask step m ≡ Take p.step p.dd t.dd = t.is in absurd cc

  no_receipt : IsTakeOf Receive p → ⊥
  no_receipt t = let e : Receive ≡ Take p.step p.dd t.dd = t.is in absurd cc

  moves_out : (step : StepPlan) (ms : List Move) (ys : List Action) (u : State) → MayMake fixed (moves_from step ms ++ ys) u.store u.own p → MovesOut ys u
  moves_out step [] ys u m = record { left = u; keeps = λ outs t o. o; more = m }
  moves_out step (x ∷ ms) ys u (answers, fair, inl h) = absurd (no_ask step x (made_by_take fixed (Ask step x) (again u answers) p h))
  moves_out step (x ∷ ms) ys u (answers, fair, inr (others, fair_too, inl h)) =
      absurd (no_receipt (made_by_take fixed Receive (again (act fixed (Ask step x) (again u answers)).state others) p h))
  moves_out step (x ∷ ms) ys u (answers, fair, inr (others, fair_too, inr m)) =
      let v : State = (act fixed (Ask step x) (again u answers)).state in
      let w : State = (act fixed Receive (again v others)).state in
      let rest : MovesOut ys w = moves_out step ms ys w m in
      record {
        left = rest.left;
        keeps = λ outs t o. rest.keeps outs t (stays_open outs (again v others) w t
            (open_again outs v t others fair_too
            (stays_open outs (again u answers) v t (open_again outs u t answers fair o) (ask_quiet fixed step x (again u answers)).kept))
            (receive_quiet fixed (again v others)).kept);
        more = rest.more;
      }

  -- nor does the end, whose outcome is one that a step may have
  record EndOut (n : ℕ) (ys : List Action) (u : State) : Type 0 where
    left : State
    ends : Outcome
    good : IsStepOutcome ends
    closes : (rest : List Outcome) (t : State) → Open (ends ∷ rest) u t → Closed rest left (act fixed (Finish n) t).state
    more : MayMake fixed ys left.store left.own p

  no_finish : (n : ℕ) → IsTakeOf (Finish n) p → ⊥
  no_finish n t = let e : Finish n ≡ Take p.step p.dd t.dd = t.is in absurd cc

  end_out : (n : ℕ) (ys : List Action) (u : State) → MayMake fixed (Finish n ∷ ys) u.store u.own p → EndOut n ys u
  end_out n ys u (answers, fair, inl h) = absurd (no_finish n (made_by_take fixed (Finish n) (again u answers) p h))
  end_out n ys u (answers, fair, inr m) = record {
    left = (act fixed (Finish n) (again u answers)).state;
    ends = in_range (outcome_of (again u answers));
    good = range_good (outcome_of (again u answers));
    closes = λ rest t o.
        let a : Open (in_range (outcome_of (again u answers)) ∷ rest) (again u answers) t =
        open_again (in_range (outcome_of (again u answers)) ∷ rest) u t answers fair o in
        let same : in_range (outcome_of (again u answers)) ≡ outcome_of (again u answers) =
        range_same (outcome_of (again u answers)) (outcome_good (again u answers) a.over a.same.good) in
        (finishes_alike rest fixed (again u answers) t n (subst (λ (x : Outcome). Open (x ∷ rest) (again u answers) t) same a)).1;
    more = m;
  }

  -- nor do dispositions
  record DisposesOut (n dd : ℕ) (ds : List DdPlan) (ys : List Action) (u : State) : Type 0 where
    left : State
    keeps : (outs : List Outcome) (t : State) → Closed outs u t → Clean fixed (disposes_from n dd ds) t →
        Closed outs left (after fixed (disposes_from n dd ds) t)
    more : MayMake fixed ys left.store left.own p

  no_disposition : (n dd : ℕ) (d : DdPlan) → IsTakeOf (Dispose n dd d) p → ⊥
  no_disposition n dd d t = let e : Dispose n dd d ≡ Take p.step p.dd t.dd = t.is in absurd cc

  disposes_out : (n dd : ℕ) (ds : List DdPlan) (ys : List Action) (u : State) → MayMake fixed (disposes_from n dd ds ++ ys) u.store u.own p →
      DisposesOut n dd ds ys u
  disposes_out n dd [] ys u m = record { left = u; keeps = λ outs t o c. o; more = m }
  disposes_out n dd (d ∷ ds) ys u (answers, fair, inl h) = absurd (no_disposition n dd d (made_by_take fixed (Dispose n dd d) (again u answers) p h))
  disposes_out n dd (d ∷ ds) ys u (answers, fair, inr m) =
      let rest : DisposesOut n (dd + 1) ds ys (act fixed (Dispose n dd d) (again u answers)).state =
      disposes_out n (dd + 1) ds ys (act fixed (Dispose n dd d) (again u answers)).state m in
      record {
        left = rest.left;
        keeps = λ outs t o c. rest.keeps outs (act fixed (Dispose n dd d) t).state
            (disposes_alike outs fixed (again u answers) t (closed_again outs u t answers fair o) n dd d c.0).1 c.1;
        more = rest.more;
      }

  -- a step makes the set, or it is passed with this outcome
  pub data StepOut (n : ℕ) (step : StepPlan) (ys : List Action) (u : State) : Type 0 where
    step_made : ((outs : List Outcome) (t : State) → Same outs u t → Clean fixed (step_actions n step []) t → MakesIn fixed (step_actions n step []) t p) →
        StepOut n step ys u
    step_passed : (o : Outcome) → IsStepOutcome o → (v : State) → ((rest : List Outcome) (t : State) → Same (o ∷ rest) u t →
        Clean fixed (step_actions n step []) t → Same rest v (after fixed (step_actions n step []) t)) → MayMake fixed ys v.store v.own p → StepOut n step ys u

  no_start : (n : ℕ) (step : StepPlan) → IsTakeOf (Start n step) p → ⊥
  no_start n step t = let e : Start n step ≡ Take p.step p.dd t.dd = t.is in absurd cc

  module _ (n : ℕ) (step : StepPlan) (ms : List Move) (ys : List Action) where
    abbrev tail : List Action
    tail = moves_from step ms ++ (Finish n ∷ (disposes_from n 1 step.dds ++ ys))

    started_out : (u : State) → MayMake fixed (Start n step ∷ (takes_from n 1 step.dds ++ tail)) u.store u.own p → StepOut n step ys u
    started_out u (answers, fair, inl h) = absurd (no_start n step (made_by_take fixed (Start n step) (again u answers) p h))
    started_out u (answers, fair, inr m) = by_takes (takes_out n 1 step.dds tail start m)
      where
        start : State
        start = (act fixed (Start n step) (again u answers)).state

        opens : (outs : List Outcome) (t : State) → Same outs u t → Open outs start (act fixed (Start n step) t).state
        opens outs t h = (starts_alike outs fixed (again u answers) t (same_again outs u t answers fair h) n step).1

        by_end : (v w : State) → ((outs : List Outcome) (t : State) → Open outs start t → Clean fixed (takes_from n 1 step.dds) t →
            Open outs w (after fixed (takes_from n 1 step.dds) t)) → (e : EndOut n (disposes_from n 1 step.dds ++ ys) w) →
            DisposesOut n 1 step.dds ys e.left → StepOut n step ys u
        by_end v w opened e d = step_passed e.ends e.good d.left
            (λ rest t h c.
            let t0 : State = (act fixed (Start n step) t).state in
            let path = clean_split fixed (takes_from n 1 step.dds) (Finish n ∷ disposes_from n 1 step.dds) t0 c.1 in
            let last = d.keeps rest (act fixed (Finish n) (after fixed (takes_from n 1 step.dds) t0)).state
            (e.closes rest (after fixed (takes_from n 1 step.dds) t0) (opened (e.ends ∷ rest) t0 (opens (e.ends ∷ rest) t h) path.0)) path.1.1 in
            subst (Same rest d.left) (sym (after_append fixed (takes_from n 1 step.dds) (Finish n ∷ disposes_from n 1 step.dds) t0)) last.same) d.more

        by_takes : TakesOut n 1 step.dds tail start → StepOut n step ys u
        by_takes (made f) = step_made (λ outs t h c.
            inr (makes_first fixed (takes_from n 1 step.dds) (Finish n ∷ disposes_from n 1 step.dds) (act fixed (Start n step) t).state p
            (f outs (act fixed (Start n step) t).state (opens outs t h)
            (clean_split fixed (takes_from n 1 step.dds) (Finish n ∷ disposes_from n 1 step.dds) (act fixed (Start n step) t).state c.1).0)))
        by_takes (passed v f more) =
            let mv : MovesOut (Finish n ∷ (disposes_from n 1 step.dds ++ ys)) v = moves_out step ms (Finish n ∷ (disposes_from n 1 step.dds ++ ys)) v more in
            let e : EndOut n (disposes_from n 1 step.dds ++ ys) mv.left = end_out n (disposes_from n 1 step.dds ++ ys) mv.left mv.more in
            by_end v mv.left (λ outs t o c. mv.keeps outs (after fixed (takes_from n 1 step.dds) t) (f outs t o c)) e
            (disposes_out n 1 step.dds ys e.left e.more)

    pub step_out : (u : State) → MayMake fixed (step_actions n step ms ++ ys) u.store u.own p → StepOut n step ys u
    step_out u m = started_out u (subst (λ (actions : List Action). MayMake fixed actions u.store u.own p) (in_a_row n step ms ys) m)
