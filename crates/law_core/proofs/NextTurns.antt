-- What an event does to an assured job: it is no turn of it, the job goes on, or it is over.
use Rattle.std.proofs.Common.{◌≡◌, ◌≢◌, ◌⊎◌, inl, inr, ◌≤◌, ◌==◌, arith, ℕ, zero, suc, Bool, true, false, List, [], ◌∷◌, map, drop, Option, Some, None, refl, sym, ap, ◌∙◌, subst}
use Rattle.std.specs.Prelude.{All, slice_get}
use Rattle.std.proofs.lemmas.Bool.{both_ways, cases_eq, cond-true, eq-eqb}
use Rattle.std.proofs.lemmas.List.Elements.{All-contains, All-head, All-tail}
use Rattle.jcl_plan.specs.declared.entry.Entry.{Entry}
use Rattle.jcl_plan.specs.declared.entry.JobLine.{JobLine}
use Rattle.jcl_plan.specs.declared.plan.JobPlan.{JobPlan}
use Rattle.jcl_meaning.specs.declared.names.HeldName.{HeldName}
use Rattle.jcl_meaning.specs.declared.state.Own.{Own}
use Rattle.jcl_meaning.specs.Agendas.{agenda}
use Rattle.jcl_meaning.specs.Names.{names_of}
use Rattle.jcl_meaning.specs.Parts.{SamePart}
use Rattle.jcl_meaning.specs.Stores.{Store}
use Rattle.meaning_laws.proofs.Parts.{part_same}
use Rattle.world_meaning.specs.declared.event.Event.{Event}
use Rattle.world_meaning.specs.declared.event.Event.TheVariants as event
use Rattle.world_meaning.specs.Cancels.{is_admitted}
use Rattle.world_meaning.specs.Lenses.{WorldStore, put_back, seen}
use Rattle.world_meaning.specs.Readings.{Denoting}
use Rattle.world_meaning.specs.Transitions.{Acts, Does, Goes, GoesOn, Happens, Transition, Turns, acts, past, taken, unknown}
use Rattle.world_meaning.specs.Turns.{Advanced, Advances, acts as does_act, advance, advanced, answers_due, ends, has_cancel, is_over, state_in, waits}
use Rattle.world_meaning.specs.Worlds.{Admission, Admitted, Config, Initiator, IsAt, Named, Running, Selected, Shared, Stage, Wanting, World, counted, of_job, with_running}
use Rattle.world_laws.specs.Beside.{IsBesideAt, IsTurnOf, LeavesAlone, MayEnd, RunsBeside, TurnsBeside}
use Rattle.world_laws.proofs.Beside.{one_there, parts_stay, running_stays, set_here}
use Rattle.world_laws.proofs.Effects.{changes}
use Rattle.law_core.specs.Soundness.{IsSound, RunsAt, named_plan}
use Rattle.law_core.proofs.Gone.{IsGone}
use Rattle.law_core.proofs.Places.{WasAt, here, one_running, runs_cases, there}
use Rattle.law_core.proofs.Explained.{heard_told}
use Rattle.law_core.proofs.Voices.{Voice, ends_early, has_turn, heard, is_read, of_own, voice, waits as is_queued}
use Rattle.plain.specs.Lists.{Differ}

-- an initiator has one place
no_other : (ns : List ℕ) (n : ℕ) (k : ℕ) → All (λ m. n ≢ m) ns → slice_get ns k ≡ Some n → ⊥
no_other [] n k all e = absurd cc
no_other (m ∷ ns) n zero all e = let is : m ≡ n = cc in All-head (λ m. n ≢ m) m ns all (sym is)
no_other (m ∷ ns) n (suc k) all e = no_other ns n k (All-tail (λ m. n ≢ m) m ns all) e

get_number : (xs : List Initiator) (k : ℕ) (x : Initiator) → slice_get xs k ≡ Some x → slice_get (map (λ (y : Initiator). y.number) xs) k ≡ Some x.number
get_number [] k x e = absurd cc
get_number (y ∷ xs) zero x e = let is : y ≡ x = cc in ap (λ (z : Initiator). Some z.number) is
get_number (y ∷ xs) (suc k) x e = get_number xs k x e

same_place : (ns : List ℕ) (j k n : ℕ) → Differ ns → slice_get ns j ≡ Some n → slice_get ns k ≡ Some n → j ≡ k
same_place [] j k n d e f = absurd cc
same_place (m ∷ ns) zero zero n d e f = refl
same_place (m ∷ ns) zero (suc k) n d e f = let is : m ≡ n = cc in absurd (no_other ns m k d.0 (f ∙ ap Some (sym is)))
same_place (m ∷ ns) (suc j) zero n d e f = let is : m ≡ n = cc in absurd (no_other ns m j d.0 (e ∙ ap Some (sym is)))
same_place (m ∷ ns) (suc j) (suc k) n d e f = ap suc (same_place ns j k n d.1 e f)

turn_or_not : (e : Event) (x : Initiator) → IsTurnOf e x ⊎ (IsTurnOf e x → ⊥)
turn_or_not (event.Turn number) x = cases_eq x.number number
turn_or_not (event.Read deck) x = inr (λ no. no)
turn_or_not (event.DeviceEnd serial) x = inr (λ no. no)
turn_or_not (event.Write class) x = inr (λ no. no)
turn_or_not (event.Cancel job) x = inr (λ no. no)
turn_or_not (event.Zap n offset bytes) x = inr (λ no. no)
turn_or_not event.Display x = inr (λ no. no)
turn_or_not (event.Date day) x = inr (λ no. no)

-- its own store, put back, is what the job then sees
own_part : (job : ℕ) (names : List HeldName) (w : WorldStore) (s : Store) → SamePart names s (seen job (put_back job w s))
own_part job names w s = record {
  named = λ name serial h. refl;
  temporary = λ name serial. sym (cond-true (job == job) _ _ (eq-eqb job job refl));
  unnamed = λ step dd serial. sym (cond-true (job == job) _ _ (eq-eqb job job refl));
  catalog = λ name. refl;
}

-- the turn of a job's initiator
pub record OwnTurn (w mid : World) (place : ℕ) (r : Running) (lines : List Entry) : Type 0 where
  pub it : Initiator
  pub at : IsAt w place it
  pub running : it.running ≡ Some r
  pub job_lines : List JobLine
  pub shared : Shared
  pub runs : Option Running
  pub goes : GoesOn w.config w.shared r r.stage job_lines shared runs
  pub told : heard r.job lines ≡ heard r.job (of_job r.job job_lines)
  pub initiators : mid.initiators ≡ with_running w.initiators place it runs
  pub store : mid.shared.store ≡ shared.store
  pub jobs : mid.jobs ≡ w.jobs
  pub waiting : mid.waiting ≡ w.waiting

-- turns of an assured job, with what the machine decides
abbrev pub Turns_to : Config → Shared → ℕ → JobPlan → Admission → ℕ → Own → Bool → Advanced → Type 0
Turns_to c s job plan a count own growth x =
    advance (answers_due c.programs plan.steps (record { cancel = has_cancel s.cancels job; growth = growth; primary = true })) a.fixed
    (drop count (agenda plan c.programs)) (state_in (seen job s.store) own) count ≡ Some x

pub data Then (w mid : World) (place : ℕ) (r : Running) (plan : JobPlan) (a : Admission) (count : ℕ) (own : Own) (lines : List Entry) : Type 0 where
  stays : RunsAt mid place r → SamePart (names_of plan) (seen r.job w.shared.store) (seen r.job mid.shared.store) → heard r.job lines ≡ [] →
      Then w mid place r plan a count own lines
  turned : (x : Advanced) (growth : Bool) (q : Running) → Turns_to w.config w.shared r.job plan a count own growth x → is_over w.config plan x ≡ false →
      RunsAt mid place q → q.job ≡ r.job → q.stage ≡ Admitted plan a x.count x.done.state.own →
      SamePart (names_of plan) x.done.state.store (seen r.job mid.shared.store) → heard r.job lines ≡ x.done.lines → Then w mid place r plan a count own lines
  over : (x : Advanced) (growth : Bool) → Turns_to w.config w.shared r.job plan a count own growth x → is_over w.config plan x ≡ true → IsGone mid r.job →
      heard r.job lines ≡ x.done.lines → Then w mid place r plan a count own lines

module _ (job_of : Denoting) (w mid : World) (e : Event) (lines : List Entry) (s : IsSound w) (place : ℕ) (r : Running) (run : RunsAt w place r) where
  its_place : (other : ℕ) (x : Initiator) → IsAt w other x → x.number ≡ run.it.number → other ≡ place
  its_place other x at is =
      same_place (map (λ (y : Initiator). y.number) w.initiators) other place run.it.number s.initiators
      (get_number w.initiators other x at ∙ ap Some is) (get_number w.initiators place run.it run.at)

  by_goes : (other : ℕ) (x : Initiator) (h : Happens job_of (counted w) e lines mid) → other ≡ place → x ≡ run.it → Goes (counted w) other x r lines h.middle →
      OwnTurn w mid place r lines
  by_goes other x h same is g = record {
    it = run.it;
    at = run.at;
    running = run.running;
    job_lines = g.job_lines;
    shared = g.shared;
    runs = g.runs;
    goes = g.goes;
    told = ap (heard r.job) g.told ∙ heard_told r.job r.job g.job_lines _;
    initiators = ap (λ (v : World). v.initiators) h.rest ∙ (ap (λ (v : World). v.initiators) g.leaves
        ∙ (λ i. with_running w.initiators (same i) (is i) g.runs));
    store = ap (λ (z : Shared). z.store) h.reopened.rest ∙ ap (λ (v : World). v.shared.store) g.leaves;
    jobs = ap (λ (v : World). v.jobs) h.rest ∙ ap (λ (v : World). v.jobs) g.leaves;
    waiting = ap (λ (v : World). v.waiting) h.rest ∙ ap (λ (v : World). v.waiting) g.leaves;
  }

  by_acts : (other : ℕ) (x : Initiator) (o : Option Running) (h : Happens job_of (counted w) e lines mid) → IsAt w other x → other ≡ place → x.running ≡ o →
      Acts (counted w) other x o lines h.middle → OwnTurn w mid place r lines
  by_acts other x None h at same runs a =
      let is : x ≡ run.it = one_there w.initiators other place x run.it same at run.at in
      let no : None ≡ Some r = sym runs ∙ (ap (λ (z : Initiator). z.running) is ∙ run.running) in absurd cc
  by_acts other x (Some q) h at same runs g =
      let is : x ≡ run.it = one_there w.initiators other place x run.it same at run.at in
      let both : Some q ≡ Some r = sym runs ∙ (ap (λ (z : Initiator). z.running) is ∙ run.running) in
      let one : q ≡ r = cc in
      by_goes other x h same is (subst (λ (z : Running). Goes (counted w) other x z lines h.middle) one g)

  by_turn : (number : ℕ) (h : Happens job_of (counted w) e lines mid) → run.it.number ≡ number → Turns (counted w) number lines h.middle →
      OwnTurn w mid place r lines
  by_turn number h is (unknown none t n) = absurd (no_number w.initiators place run.it number none run.at is)
    where
      no_number : (xs : List Initiator) (k : ℕ) (x : Initiator) (n : ℕ) → All (λ y. y.number ≢ n) xs → slice_get xs k ≡ Some x → x.number ≡ n → ⊥
      no_number [] k x n all e same = absurd cc
      no_number (y ∷ xs) zero x n all e same = let it : y ≡ x = cc in All-head (λ y. y.number ≢ n) y xs all (ap (λ (z : Initiator). z.number) it ∙ same)
      no_number (y ∷ xs) (suc k) x n all e same = no_number xs k x n (All-tail (λ y. y.number ≢ n) y xs all) e same
  by_turn number h is (acts other x at number_is a) =
      by_acts other x x.running h at (its_place other x at (number_is ∙ sym is)) refl a

  by_event : (f : Event) (h : Happens job_of (counted w) e lines mid) → e ≡ f → IsTurnOf f run.it → OwnTurn w mid place r lines
  by_event (event.Turn number) h is turn =
      by_turn number h turn (subst (λ (f : Event). Does job_of (counted w) f lines h.middle) is h.does)
  by_event (event.Read deck) h is turn = absurd turn
  by_event (event.DeviceEnd serial) h is turn = absurd turn
  by_event (event.Write class) h is turn = absurd turn
  by_event (event.Cancel job) h is turn = absurd turn
  by_event (event.Zap n offset bytes) h is turn = absurd turn
  by_event event.Display h is turn = absurd turn
  by_event (event.Date day) h is turn = absurd turn

  -- its turn, or none as the limit of events is reached
  pub own_turn : IsTurnOf e run.it → Transition job_of w e lines mid → OwnTurn w mid place r lines ⊎ ((mid ≡ w) × (heard r.job lines ≡ []))
  own_turn turn (past more t n) = inr (n, ap (heard r.job) t)
  own_turn turn (taken less h) = inl (by_event e h refl turn)

  -- an event that is no turn of a job that holds its names
  module _ (plan : JobPlan) (named : named_plan r.stage ≡ Some plan) (other_turn : IsTurnOf e run.it → ⊥) where
    is_beside : (other : ℕ) (x : Initiator) (o : Option Running) → IsAt w other x → x.running ≡ o → (other ≡ place → ⊥) → RunsBeside r.job (names_of plan) o
    is_beside other x None at runs apart = tt
    is_beside other x (Some q) at runs apart = by_stage q.stage refl
      where
        by_stage : (z : Stage) → q.stage ≡ z → IsBesideAt r.job (names_of plan) q.job z
        by_stage (Selected first) is = tt
        by_stage (Wanting p) is = tt
        by_stage (Named p) is = tt
        by_stage (Admitted p b n o) is = (
          λ same. apart ((s.alone place r run).alone other q (record { it = x; at = at; running = runs }) same),
          s.compatible other place q r p plan (record { it = x; at = at; running = runs }) run apart (ap named_plan is) named,
        )

    not_its_turn : (other : ℕ) (x : Initiator) → IsAt w other x → IsTurnOf e x → other ≡ place → ⊥
    not_its_turn other x at turn same = other_turn (subst (IsTurnOf e) (one_there w.initiators other place x run.it same at run.at) turn)

    beside : TurnsBeside w e r.job (names_of plan)
    beside = record {
      beside = λ other x at turn. is_beside other x x.running at refl (not_its_turn other x at turn);
      fits = λ other x at turn. s.fits other x at;
    }

    pub part_kept : Transition job_of w e lines mid → SamePart (names_of plan) (seen r.job w.shared.store) (seen r.job mid.shared.store)
    part_kept t = parts_stay job_of w mid e lines r.job (names_of plan) beside t

  module _ (plan : JobPlan) (a : Admission) (count : ℕ) (own : Own) (stage : r.stage ≡ Admitted plan a count own) (t : Transition job_of w e lines mid) where
    -- an event that is no turn of the job
    module _ (other_turn : IsTurnOf e run.it → ⊥) where
      left_alone : LeavesAlone e run.it
      left_alone = record {
        no_turn = other_turn;
        no_cancel = λ m. (subst (MayEnd e) run.running m).1 (ap is_admitted stage);
      }

      still_there : RunsAt mid place r
      still_there = record {
        it = run.it;
        at = running_stays job_of w mid e place run.it run.at left_alone (changes job_of w mid e lines t).effect;
        running = run.running;
      }

      unheard : Voice w e lines r.job → heard r.job lines ≡ []
      unheard (inl silent) = silent
      unheard (inr (is_read is)) = let le : r.job ≤ w.jobs = (s.alone place r run).numbered in let no : ⊥ = omega (arith, is, le) in absurd no
      unheard (inr (is_queued v contained is)) =
          absurd (All-contains (λ v. v.job ≢ r.job) w.waiting v (s.alone place r run).not_waiting contained is)
      unheard (inr (has_turn other x q at turn runs same)) =
          absurd (not_its_turn plan (ap named_plan stage) other_turn other x at turn ((s.alone place r run).alone other q (record { it = x; at = at; running = runs }) same))
      unheard (inr (ends_early other q at same early)) =
          let there_too : other ≡ place = (s.alone place r run).alone other q at same in
          let one : q ≡ r = one_running w place q r (subst (λ p. RunsAt w p q) there_too at) run in
          absurd (both_ways (is_admitted q.stage) early (ap (λ (z : Running). is_admitted z.stage) one ∙ ap is_admitted stage))

      pub no_turn : Then w mid place r plan a count own lines
      no_turn = stays still_there (part_kept plan (ap named_plan stage) other_turn t) (unheard (voice job_of w mid e lines t r.job))

    -- and its turn
    module _ (assured : a.assured ≡ true) (o : OwnTurn w mid place r lines) where
      runs_on : (q : Running) → o.runs ≡ Some q → RunsAt mid place q
      runs_on q is = record {
        it = record o.it { running = o.runs };
        at = ap (λ (xs : List Initiator). slice_get xs place) o.initiators ∙ set_here w.initiators place o.it (record o.it { running = o.runs }) o.at;
        running = is;
      }

      is_heard : (ls : List JobLine) → o.job_lines ≡ ls → heard r.job lines ≡ ls
      is_heard ls is = o.told ∙ (of_own r.job o.job_lines ∙ is)

      gone : o.runs ≡ None → IsGone mid r.job
      gone is = record {
        numbered = subst (λ n. r.job ≤ n) (sym o.jobs) (s.alone place r run).numbered;
        not_waiting = subst (All (λ v. v.job ≢ r.job)) (sym o.waiting) (s.alone place r run).not_waiting;
        not_running = λ other q there_too same. by_case other q same (runs_cases w mid place o.it o.runs o.at o.initiators other q there_too);
      }
        where
          by_case : (other : ℕ) (q : Running) → q.job ≡ r.job → WasAt w place o.runs other q → ⊥
          by_case other q same (here e f) = let no : None ≡ Some q = sym is ∙ f in absurd cc
          by_case other q same (there apart was) = apart ((s.alone place r run).alone other q was same)

      granted : (x : Advanced) (growth primary : Bool) → primary ≡ true → advanced w.config w.shared r.job plan a count own growth primary ≡ Some x →
          Turns_to w.config w.shared r.job plan a count own growth x
      granted x growth primary is e = subst (λ (b : Bool). advanced w.config w.shared r.job plan a count own growth b ≡ Some x) is e

      by_case : Advances w.config w.shared r plan a count own o.job_lines o.shared o.runs → Then w mid place r plan a count own lines
      by_case (waits x growth primary is must f n on) =
          stays (runs_on r on)
          (subst (λ (v : WorldStore). SamePart (names_of plan) (seen r.job w.shared.store) (seen r.job v)) (sym (o.store ∙ ap (λ (z : Shared). z.store) n))
          (part_same (names_of plan) (seen r.job w.shared.store)))
          (is_heard [] f)
      by_case (does_act x growth primary free is grants further more f n conserved on) =
          turned x growth _ (granted x growth primary (grants assured) is) more (runs_on _ on) refl refl
          (subst (λ (v : WorldStore). SamePart (names_of plan) x.done.state.store (seen r.job v)) (sym (o.store ∙ ap (λ (z : Shared). z.store) n))
          (own_part r.job (names_of plan) w.shared.store x.done.state.store))
          (is_heard x.done.lines f)
      by_case (ends x growth primary free is grants further last f n conserved off) =
          over x growth (granted x growth primary (grants assured) is) last (gone off) (is_heard x.done.lines f)

      pub its_turn : Then w mid place r plan a count own lines
      its_turn = by_case (subst (λ (z : Stage). GoesOn w.config w.shared r z o.job_lines o.shared o.runs) stage o.goes)

    pub next : a.assured ≡ true → Then w mid place r plan a count own lines
    next assured = by_turn_or_not (turn_or_not e run.it)
      where
        unchanged : (mid ≡ w) × (heard r.job lines ≡ []) → Then w mid place r plan a count own lines
        unchanged same =
            stays (subst (λ (v : World). RunsAt v place r) (sym same.0) run)
            (subst (λ (v : World). SamePart (names_of plan) (seen r.job w.shared.store) (seen r.job v.shared.store)) (sym same.0)
            (part_same (names_of plan) (seen r.job w.shared.store)))
            same.1

        by_own : OwnTurn w mid place r lines ⊎ ((mid ≡ w) × (heard r.job lines ≡ [])) → Then w mid place r plan a count own lines
        by_own (inl o) = its_turn assured o
        by_own (inr same) = unchanged same

        by_turn_or_not : IsTurnOf e run.it ⊎ (IsTurnOf e run.it → ⊥) → Then w mid place r plan a count own lines
        by_turn_or_not (inl turn) = by_own (own_turn turn t)
        by_turn_or_not (inr none) = no_turn none
