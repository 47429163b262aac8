-- The answers of a run, found backwards from what each of its actions met.
use Rattle.std.proofs.Common.{◌≡◌, ◌≤◌, ◌+◌, ◌-◌, ◌++◌, ◌⊎◌, inl, inr, ℕ, zero, suc, Bool, true, false, ◌&&◌, cond, List, [], ◌∷◌, drop, Option, Some, None, append_assoc, arith, refl, sym, ap, ◌∙◌, subst}
use Rattle.std.specs.Prelude.{slice_get}
use Rattle.std.proofs.lemmas.Bool.{and_parts, both_ways, eq-eqb, ne_eqb}
use Rattle.jcl_plan.specs.declared.entry.JobLine.{JobLine}
use Rattle.jcl_plan.specs.declared.outcome.Outcome.{Outcome}
use Rattle.jcl_plan.specs.declared.outcome.Outcome.TheVariants as outcome
use Rattle.jcl_plan.specs.declared.plan.StepPlan.{StepPlan}
use Rattle.jcl_meaning.specs.declared.program.Move.{Move}
use Rattle.jcl_meaning.specs.declared.program.SoloProgram.{SoloProgram}
use Rattle.jcl_meaning.specs.declared.state.Own.{Own}
use Rattle.jcl_meaning.specs.Acts.{act}
use Rattle.jcl_meaning.specs.Agendas.{Action}
use Rattle.jcl_meaning.specs.RequestActs.{head_or}
use Rattle.jcl_meaning.specs.Solo.{run}
use Rattle.jcl_meaning.specs.States.{Answers, Done, Fixed, State, asks_open, cancel_due, others}
use Rattle.jcl_meaning.specs.Stores.{Store}
use Rattle.world_meaning.specs.Turns.{Advanced, advance, answers_due, end_of, outcomes_due}
use Rattle.world_laws.specs.Looks.{IsCounted, Looks, Tells, answers_left, grants_left, looks_at_cancel}
use Rattle.world_laws.proofs.Behind.{acted, drop_next, here, writes_or_not}
use Rattle.world_laws.proofs.Looking.{act_looks, with}

-- a step's end comes before anything but requests
abbrev pub ends_first : List Action → Bool
ends_first [] = false
ends_first (Action.Start n step ∷ rest) = false
ends_first (Action.Take n dd d ∷ rest) = false
ends_first (Action.Ask step move ∷ rest) = ends_first rest
ends_first (Action.Receive ∷ rest) = ends_first rest
ends_first (Action.Finish n ∷ rest) = true
ends_first (Action.Dispose n dd d ∷ rest) = false
ends_first (Action.Left n dd d ∷ rest) = false
ends_first (Action.Over ∷ rest) = false

-- requests stand before their step's end, and that is the end of a step of the job
abbrev pub IsOrderly : List StepPlan → List Action → Type 0
IsOrderly steps [] = Unit {0}
IsOrderly steps (Action.Start n step ∷ rest) = IsOrderly steps rest
IsOrderly steps (Action.Take n dd d ∷ rest) = IsOrderly steps rest
IsOrderly steps (Action.Ask step move ∷ rest) = (ends_first rest ≡ true) × IsOrderly steps rest
IsOrderly steps (Action.Receive ∷ rest) = (ends_first rest ≡ true) × IsOrderly steps rest
IsOrderly steps (Action.Finish n ∷ rest) = ((step : StepPlan) × (slice_get steps (n - 1) ≡ Some step)) × IsOrderly steps rest
IsOrderly steps (Action.Dispose n dd d ∷ rest) = IsOrderly steps rest
IsOrderly steps (Action.Left n dd d ∷ rest) = IsOrderly steps rest
IsOrderly steps (Action.Over ∷ rest) = IsOrderly steps rest

module _ (programs : List SoloProgram) (steps : List StepPlan) (fixed : Fixed) where
  -- how the steps that are left end
  abbrev pub outcomes_in : List Action → List Outcome
  outcomes_in [] = []
  outcomes_in (a ∷ rest) = outcomes_due programs steps a ++ outcomes_in rest

  abbrev pub answering : List Action → Option ℕ → List (Option ℕ) → List Bool → Answers
  answering rest e later grants = record { outcomes = outcomes_in rest; cancels = e ∷ later; grants = grants; primary = true }

abbrev pub IsNotBefore : Option ℕ → ℕ → Type 0
IsNotBefore None n = Unit {0}
IsNotBefore (Some m) n = n ≤ m

not_before_less : (entry : Option ℕ) (n : ℕ) → IsNotBefore entry (n + 1) → IsNotBefore entry n
not_before_less None n h = tt
not_before_less (Some m) n h = omega (arith, h)

not_yet : (entry : Option ℕ) (later : List (Option ℕ)) (n : ℕ) → IsNotBefore entry (n + 1) → cancel_due (entry ∷ later) n ≡ false
not_yet None later n h = refl
not_yet (Some m) later n h = ne_eqb m n (λ e. omega (arith, h, e))

-- the lines are the first of these
pub record Leads (whole lines : List JobLine) (done : Type 0) : Type 0 where
  pub behind : List JobLine
  pub joined : lines ++ behind ≡ whole
  pub over : done → behind ≡ []

module _ (programs : List SoloProgram) (steps : List StepPlan) (fixed : Fixed) (done : Type 0) where
  -- Answers for what is left: an entry for the step at hand, which any may stand for once its program is over, those of later steps, and grants.
  pub record Found (rest : List Action) (s : Store) (own : Own) (lines : List JobLine) : Type 0 where
    pub entry : Option ℕ
    pub later : List (Option ℕ)
    pub grants : List Bool
    pub not_before : ends_first rest ≡ true → IsNotBefore entry own.lines
    pub runs : (e : Option ℕ) → (e ≡ entry) ⊎ ((ends_first rest ≡ true) × (asks_open own ≡ false)) →
        Leads (run fixed rest (with s own (answering programs steps fixed rest e later grants))).lines lines done

  abbrev end_at : Action → Outcome
  end_at a = head_or (outcome.Code 0) (outcomes_due programs steps a)

  module _ (a : Action) (rest : List Action) (s : Store) (own : Own) (cancel growth : Bool) (lines : List JobLine)
      (k : Looks fixed a s own cancel growth (end_at a)) (f : Found rest k.left_store k.left_own lines) where
    leads_by : (e e' : Option ℕ) (later later' : List (Option ℕ)) (grants grants' : List Bool) →
        Tells a own k.used cancel growth (end_at a) (answering programs steps fixed (a ∷ rest) e later grants) →
        answers_left k.used a (answering programs steps fixed (a ∷ rest) e later grants) ≡ answering programs steps fixed rest e' later' grants' →
        Leads (run fixed rest (with k.left_store k.left_own (answering programs steps fixed rest e' later' grants'))).lines lines done →
        Leads (run fixed (a ∷ rest) (with s own (answering programs steps fixed (a ∷ rest) e later grants))).lines (k.lines ++ lines) done
    unfolding run
    leads_by e e' later later' grants grants' tells left h = record {
      behind = h.behind;
      joined = append_assoc k.lines lines h.behind ∙ (ap (λ (more : List JobLine). k.lines ++ more) h.joined
          ∙ (ap (λ (b : Answers). k.lines ++ (run fixed rest (with k.left_store k.left_own b)).lines) (sym left)
          ∙ sym (ap (λ (d : Done). d.lines ++ (run fixed rest d.state).lines)
          (k.does (answering programs steps fixed (a ∷ rest) e later grants) tells))));
      over = h.over;
    }

    -- an action beside the requests and the end
    aside_found : ends_first (a ∷ rest) ≡ false → looks_at_cancel a own ≡ false → ((step : StepPlan) (move : Move) → a ≡ Action.Ask step move → ⊥) →
        ((n : ℕ) → a ≡ Action.Finish n → ⊥) →
        ((e : Option ℕ) → answers_left k.used a (answering programs steps fixed (a ∷ rest) e f.later f.grants) ≡ answering programs steps fixed rest e f.later f.grants) →
        Found (a ∷ rest) s own (k.lines ++ lines)
    aside_found last looks asks ends left = record {
      entry = f.entry;
      later = f.later;
      grants = f.grants;
      not_before = λ e. absurd (both_ways (ends_first (a ∷ rest)) last e);
      runs = λ e fine. leads_by e e f.later f.later f.grants f.grants (record {
        primary = refl;
        cancelled = λ yes. absurd (both_ways (looks_at_cancel a own) looks yes);
        granted = λ step move is. absurd (asks step move is);
        ended = λ n is. absurd (ends n is);
      }) (left e) (f.runs e (inl (the_entry e fine)));
    }
      where
        the_entry : (e : Option ℕ) → (e ≡ f.entry) ⊎ ((ends_first (a ∷ rest) ≡ true) × (asks_open own ≡ false)) → e ≡ f.entry
        the_entry e (inl is) = is
        the_entry e (inr (first, shut)) = absurd (both_ways (ends_first (a ∷ rest)) last first)

    -- a request, and what is due
    module _ (first : ends_first rest ≡ true) (counted : IsCounted (looks_at_cancel a own) cancel own k.left_own)
        (opens : looks_at_cancel a own ≡ true → asks_open own ≡ true) (grants : List Bool)
        (granted : (step : StepPlan) (move : Move) → a ≡ Action.Ask step move → k.used ≡ true → head_or true grants ≡ growth)
        (ends : (n : ℕ) → a ≡ Action.Finish n → ⊥)
        (left : (e : Option ℕ) → answers_left k.used a (answering programs steps fixed (a ∷ rest) e f.later grants) ≡ answering programs steps fixed rest e f.later f.grants) where
      leads_with : (e : Option ℕ) → (looks_at_cancel a own ≡ true → cancel_due (e ∷ f.later) own.lines ≡ cancel) →
          (e ≡ f.entry) ⊎ ((ends_first rest ≡ true) × (asks_open k.left_own ≡ false)) →
          Leads (run fixed (a ∷ rest) (with s own (answering programs steps fixed (a ∷ rest) e f.later grants))).lines (k.lines ++ lines) done
      leads_with e cancelled fine = leads_by e e f.later f.later grants f.grants (record {
        primary = refl;
        cancelled = cancelled;
        granted = granted;
        ended = λ n is. absurd (ends n is);
      }) (left e) (f.runs e fine)

      the_one : (entry e : Option ℕ) → asks_open own ≡ true → (e ≡ entry) ⊎ ((ends_first (a ∷ rest) ≡ true) × (asks_open own ≡ false)) → e ≡ entry
      the_one entry e on (inl is) = is
      the_one entry e on (inr (last, shut)) = absurd (both_ways (asks_open own) shut on)

      any_one : k.left_own ≡ own → (e : Option ℕ) → (e ≡ f.entry) ⊎ ((ends_first (a ∷ rest) ≡ true) × (asks_open own ≡ false)) →
          (e ≡ f.entry) ⊎ ((ends_first rest ≡ true) × (asks_open k.left_own ≡ false))
      any_one same e (inl is) = inl is
      any_one same e (inr (last, shut)) = inr (first, ap asks_open same ∙ shut)

      by_open : (b : Bool) → asks_open k.left_own ≡ b → looks_at_cancel a own ≡ true → cancel ≡ false → Found (a ∷ rest) s own (k.lines ++ lines)
      by_open true on looks none =
          let ahead : IsNotBefore f.entry (own.lines + 1) = subst (IsNotBefore f.entry) (counted.more looks none) (f.not_before first) in
          record {
            entry = f.entry;
            later = f.later;
            grants = grants;
            not_before = λ e. not_before_less f.entry own.lines ahead;
            runs = λ e fine.
                let is : e ≡ f.entry = the_one f.entry e (opens looks) fine in
                leads_with e (λ yes. ap (λ z. cancel_due (z ∷ f.later) own.lines) is ∙ (not_yet f.entry f.later own.lines ahead ∙ sym none)) (inl is);
          }
      by_open false shut looks none = record {
        entry = None;
        later = f.later;
        grants = grants;
        not_before = λ e. tt;
        runs = λ e fine.
            let is : e ≡ None = the_one None e (opens looks) fine in
            leads_with e (λ yes. ap (λ z. cancel_due (z ∷ f.later) own.lines) is ∙ sym none) (inr (first, shut));
      }

      request_found : (b c : Bool) → looks_at_cancel a own ≡ b → cancel ≡ c → Found (a ∷ rest) s own (k.lines ++ lines)
      request_found false c looks is = record {
        entry = f.entry;
        later = f.later;
        grants = grants;
        not_before = λ e. subst (λ (o : Own). IsNotBefore f.entry o.lines) (counted.unchanged looks) (f.not_before first);
        runs = λ e fine. leads_with e (λ yes. absurd (both_ways (looks_at_cancel a own) looks yes)) (any_one (counted.unchanged looks) e fine);
      }
      request_found true true looks is = record {
        entry = Some own.lines;
        later = f.later;
        grants = grants;
        not_before = λ e. omega arith;
        runs = λ e fine.
            let at : e ≡ Some own.lines = the_one (Some own.lines) e (opens looks) fine in
            leads_with e (λ yes. ap (λ z. cancel_due (z ∷ f.later) own.lines) at ∙ (eq-eqb own.lines own.lines refl ∙ sym is))
            (inr (first, counted.ended looks is));
      }
      request_found true false looks is = by_open (asks_open k.left_own) refl looks is

  cancel_told : (c : Bool) (n : ℕ) (later : List (Option ℕ)) → cancel_due (cond c (Some n) None ∷ later) n ≡ c
  cancel_told true n later = eq-eqb n n refl
  cancel_told false n later = refl

  cancel_later : (c : Bool) (n : ℕ) → IsNotBefore (cond c (Some n) None) n
  cancel_later true n = omega arith
  cancel_later false n = tt

  grants_told : (used growth : Bool) (grants : List Bool) → used ≡ true → head_or true (cond used (growth ∷ grants) grants) ≡ growth
  grants_told true growth grants e = refl
  grants_told false growth grants e = absurd cc

  grants_back : (used growth : Bool) (grants : List Bool) (outcomes : List Outcome) (cancels : List (Option ℕ)) →
      grants_left used (record { outcomes = outcomes; cancels = cancels; grants = cond used (growth ∷ grants) grants; primary = true })
      ≡ record { outcomes = outcomes; cancels = cancels; grants = grants; primary = true }
  grants_back true growth grants outcomes cancels = refl
  grants_back false growth grants outcomes cancels = refl

  from_both : (x y : Bool) → (x && y) ≡ true → x ≡ true
  from_both x y e = (and_parts x y e).0

  finish_found : (n : ℕ) (rest : List Action) (s : Store) (own : Own) (cancel growth : Bool) (lines : List JobLine)
      (k : Looks fixed (Action.Finish n) s own cancel growth (end_at (Action.Finish n))) (f : Found rest k.left_store k.left_own lines) (step : StepPlan) →
      slice_get steps (n - 1) ≡ Some step → Found (Action.Finish n ∷ rest) s own (k.lines ++ lines)
  finish_found n rest s own cancel growth lines k f step at = record {
    entry = cond cancel (Some own.lines) None;
    later = f.entry ∷ f.later;
    grants = f.grants;
    not_before = λ e. cancel_later cancel own.lines;
    runs = λ e fine. leads_by (Action.Finish n) rest s own cancel growth lines k f e f.entry (f.entry ∷ f.later) f.later f.grants f.grants (record {
      primary = refl;
      cancelled = λ on. ap (λ z. cancel_due (z ∷ f.entry ∷ f.later) own.lines) (the_entry e fine on) ∙ cancel_told cancel own.lines (f.entry ∷ f.later);
      granted = λ at_step move is. absurd cc;
      ended = λ m is. ap (λ (o : Option StepPlan). head_or (outcome.Code 0) (end_of programs o ++ outcomes_in programs steps fixed rest)) at
          ∙ sym (ap (λ (o : Option StepPlan). head_or (outcome.Code 0) (end_of programs o)) at);
    }) (λ i. record {
      outcomes = others (end_of programs (at i) ++ outcomes_in programs steps fixed rest);
      cancels = f.entry ∷ f.later;
      grants = f.grants;
      primary = true;
    }) (f.runs f.entry (inl refl));
  }
    where
      the_entry : (e : Option ℕ) → (e ≡ cond cancel (Some own.lines) None) ⊎ ((true ≡ true) × (asks_open own ≡ false)) → asks_open own ≡ true →
          e ≡ cond cancel (Some own.lines) None
      the_entry e (inl is) on = is
      the_entry e (inr (first, shut)) on = absurd (both_ways (asks_open own) shut on)

  -- any action that is in order
  step_found : (a : Action) (rest : List Action) (s : Store) (own : Own) (cancel growth : Bool) (lines : List JobLine)
      (k : Looks fixed a s own cancel growth (end_at a)) → Found rest k.left_store k.left_own lines → IsOrderly steps (a ∷ rest) →
      Found (a ∷ rest) s own (k.lines ++ lines)
  step_found (Action.Start n step) rest s own cancel growth lines k f o =
      aside_found (Action.Start n step) rest s own cancel growth lines k f refl refl (λ t m e. absurd cc) (λ m e. absurd cc) (λ e. refl)
  step_found (Action.Take n dd d) rest s own cancel growth lines k f o =
      aside_found (Action.Take n dd d) rest s own cancel growth lines k f refl refl (λ t m e. absurd cc) (λ m e. absurd cc) (λ e. refl)
  step_found (Action.Ask step move) rest s own cancel growth lines k f o =
      request_found (Action.Ask step move) rest s own cancel growth lines k f o.0 (k.counted refl) (λ e. e) (cond k.used (growth ∷ f.grants) f.grants)
      (λ t m e used. grants_told k.used growth f.grants used) (λ m e. absurd cc) (λ e. grants_back k.used growth f.grants _ _)
      (looks_at_cancel (Action.Ask step move) own) cancel refl refl
  step_found Action.Receive rest s own cancel growth lines k f o =
      request_found Action.Receive rest s own cancel growth lines k f o.0 (k.counted refl) (from_both (asks_open own) _) f.grants
      (λ t m e used. absurd cc) (λ m e. absurd cc) (λ e. refl)
      (looks_at_cancel Action.Receive own) cancel refl refl
  step_found (Action.Finish n) rest s own cancel growth lines k f o = finish_found n rest s own cancel growth lines k f o.0.0 o.0.1
  step_found (Action.Dispose n dd d) rest s own cancel growth lines k f o =
      aside_found (Action.Dispose n dd d) rest s own cancel growth lines k f refl refl (λ t m e. absurd cc) (λ m e. absurd cc) (λ e. refl)
  step_found (Action.Left n dd d) rest s own cancel growth lines k f o =
      aside_found (Action.Left n dd d) rest s own cancel growth lines k f refl refl (λ t m e. absurd cc) (λ m e. absurd cc) (λ e. refl)
  step_found Action.Over rest s own cancel growth lines k f o =
      aside_found Action.Over rest s own cancel growth lines k f refl refl (λ t m e. absurd cc) (λ m e. absurd cc) (λ e. refl)

  -- what a turn gives its actions
  abbrev meets : Bool → Bool → Action → Own → Answers
  meets cancel growth = answers_due programs steps (record { cancel = cancel; growth = growth; primary = true })

  -- the action with the answers that its turn gave it
  due_told : (a : Action) (own : Own) (used : Bool) (cancel growth : Bool) →
      Tells a own used cancel growth (end_at a) (meets cancel growth a own)
  due_told a own used cancel growth = record {
    primary = refl;
    cancelled = λ looks. cancel_told cancel own.lines [];
    granted = λ step move is asks. refl;
    ended = λ n is. refl;
  }

  acted_found : (a : Action) (rest : List Action) (st : State) (cancel growth : Bool) (lines : List JobLine) (d : Done) →
      act fixed a (with st.store st.own (meets cancel growth a st.own)) ≡ d →
      Found rest d.state.store d.state.own lines → IsOrderly steps (a ∷ rest) → Found (a ∷ rest) st.store st.own (d.lines ++ lines)
  acted_found a rest st cancel growth lines d is f o =
      let k : Looks fixed a st.store st.own cancel growth (end_at a) = act_looks fixed st.store st.own cancel growth (end_at a) a in
      let same : d ≡ record {
        lines = k.lines;
        state = with k.left_store k.left_own (answers_left k.used a (meets cancel growth a st.own));
        meets = k.meets;
        made = k.made;
      } = sym is ∙ k.does (meets cancel growth a st.own)
      (due_told a st.own k.used cancel growth) in
      let found : Found rest k.left_store k.left_own lines = subst (λ (e : Done). Found rest e.state.store e.state.own lines) same f in
      subst (λ (e : Done). Found (a ∷ rest) st.store st.own (e.lines ++ lines)) (sym same)
      (step_found a rest st.store st.own cancel growth lines k found o)

  tail_orderly : (a : Action) (rest : List Action) → IsOrderly steps (a ∷ rest) → IsOrderly steps rest
  tail_orderly (Action.Start n step) rest o = o
  tail_orderly (Action.Take n dd d) rest o = o
  tail_orderly (Action.Ask step move) rest o = o.1
  tail_orderly Action.Receive rest o = o.1
  tail_orderly (Action.Finish n) rest o = o.1
  tail_orderly (Action.Dispose n dd d) rest o = o
  tail_orderly (Action.Left n dd d) rest o = o
  tail_orderly Action.Over rest o = o

  pub drop_orderly : (n : ℕ) (whole : List Action) → IsOrderly steps whole → IsOrderly steps (drop n whole)
  drop_orderly zero whole o = o
  drop_orderly (suc n) [] o = o
  drop_orderly (suc n) (a ∷ rest) o = drop_orderly n rest (tail_orderly a rest o)

  -- a whole turn
  module _ (cancel growth : Bool) (whole : List Action) (lines : List JobLine) where
    turn_by : (a : Action) (rest : List Action) (st : State) (count : ℕ) (x : Advanced) → drop (suc count) whole ≡ rest → IsOrderly steps (a ∷ rest) →
        Found (drop x.count whole) x.done.state.store x.done.state.own lines →
        (here (meets cancel growth) fixed a st count ≡ x)
        ⊎ (((acted (meets cancel growth) fixed a st).lines ≡ [])
        × Found rest (acted (meets cancel growth) fixed a st).state.store
        (acted (meets cancel growth) fixed a st).state.own (x.done.lines ++ lines)) →
        Found (a ∷ rest) st.store st.own (x.done.lines ++ lines)
    turn_by a rest st count x left o f (inl is) =
        let behind : Found (drop (suc count) whole) (acted (meets cancel growth) fixed a st).state.store
        (acted (meets cancel growth) fixed a st).state.own lines =
        subst (λ (z : Advanced). Found (drop z.count whole) z.done.state.store z.done.state.own lines) (sym is) f in
        subst (λ (z : Advanced). Found (a ∷ rest) st.store st.own (z.done.lines ++ lines)) is
        (acted_found a rest st cancel growth lines (acted (meets cancel growth) fixed a st) refl
        (subst (λ actions. Found actions (acted (meets cancel growth) fixed a st).state.store
        (acted (meets cancel growth) fixed a st).state.own lines) left behind) o)
    turn_by a rest st count x left o f (inr (silent, later)) =
        subst (λ (more : List JobLine). Found (a ∷ rest) st.store st.own (more ++ (x.done.lines ++ lines))) silent
        (acted_found a rest st cancel growth (x.done.lines ++ lines)
        (acted (meets cancel growth) fixed a st) refl later o)

    by_lines : (a : Action) (rest : List Action) (st : State) (count : ℕ) (x : Advanced) →
        (here (meets cancel growth) fixed a st count ≡ x)
        ⊎ (((acted (meets cancel growth) fixed a st).lines ≡ [])
        × (advance (meets cancel growth) fixed rest
        (acted (meets cancel growth) fixed a st).state (suc count) ≡ Some x)) →
        (advance (meets cancel growth) fixed rest
        (acted (meets cancel growth) fixed a st).state (suc count) ≡ Some x →
        Found rest (acted (meets cancel growth) fixed a st).state.store
        (acted (meets cancel growth) fixed a st).state.own (x.done.lines ++ lines)) →
        (here (meets cancel growth) fixed a st count ≡ x)
        ⊎ (((acted (meets cancel growth) fixed a st).lines ≡ [])
        × Found rest (acted (meets cancel growth) fixed a st).state.store
        (acted (meets cancel growth) fixed a st).state.own (x.done.lines ++ lines))
    by_lines a rest st count x (inl is) later = inl is
    by_lines a rest st count x (inr (silent, further)) later = inr (silent, later further)

    pub turn_found : (actions : List Action) (st : State) (count : ℕ) (x : Advanced) → drop count whole ≡ actions → IsOrderly steps actions →
        advance (meets cancel growth) fixed actions st count ≡ Some x →
        Found (drop x.count whole) x.done.state.store x.done.state.own lines → Found actions st.store st.own (x.done.lines ++ lines)
    unfolding advance
    turn_found [] st count x left o e f = absurd cc
    turn_found (a ∷ rest) st count x left o e f =
        turn_by a rest st count x (drop_next count whole rest a left) o f
        (by_lines a rest st count x
        (writes_or_not (acted (meets cancel growth) fixed a st).lines
        (here (meets cancel growth) fixed a st count) x
        (advance (meets cancel growth) fixed rest
        (acted (meets cancel growth) fixed a st).state (suc count)) e)
        (λ further. turn_found rest (acted (meets cancel growth) fixed a st).state (suc count) x
        (drop_next count whole rest a left) (tail_orderly a rest o) further f))
