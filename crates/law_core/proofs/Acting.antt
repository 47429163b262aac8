-- The actions of an assured job: at each it writes one line.
use Rattle.std.proofs.Common.{◌≡◌, ◌≢◌, ◌≤◌, ◌++◌, ◌+◌, ◌⊎◌, inl, inr, ℕ, Bool, true, false, cond, arith, List, [], ◌∷◌, length, suc, drop, Option, Some, None, refl, sym, ap, ◌∙◌, subst, length-append}
use Rattle.std.specs.Prelude.{◌==◌, ◌||◌, not}
use Rattle.std.specs.List.{list_any}
use Rattle.std.proofs.lemmas.Bool.{both_ways, eq-eqb, eqb-true, or_parts}
use Rattle.std.proofs.lemmas.List.Elements.{All-contains}
use Rattle.std.proofs.lemmas.List.Folds.{list_any-append}
use Rattle.jcl_plan.specs.declared.entry.Entry.{Entry}
use Rattle.jcl_plan.specs.declared.entry.JobLine.{JobLine}
use Rattle.jcl_plan.specs.declared.entry.JobLine.TheVariants as line
use Rattle.jcl_plan.specs.declared.plan.JobPlan.{JobPlan}
use Rattle.jcl_meaning.specs.declared.state.Own.{Own}
use Rattle.jcl_meaning.specs.Acts.{act}
use Rattle.jcl_meaning.specs.Agendas.{Action, agenda}
use Rattle.jcl_meaning.specs.LineCounts.{beside_faults, is_of_fault}
use Rattle.jcl_meaning.specs.States.{Answers, Done, Fixed, State}
use Rattle.jcl_meaning.proofs.LineCounts.{act-beside}
use Rattle.world_meaning.specs.declared.event.Event.{Event}
use Rattle.world_meaning.specs.declared.event.Event.TheVariants as event
use Rattle.world_meaning.specs.Cancels.{is_admitted}
use Rattle.world_meaning.specs.Choices.{actions_along, actions_of, actions_of_acting, actions_of_advance, actions_of_event, actions_of_going}
use Rattle.world_meaning.specs.Headlines.{lines_of}
use Rattle.world_meaning.specs.Lenses.{seen}
use Rattle.world_meaning.specs.Readings.{Denoting}
use Rattle.world_meaning.specs.Selections.{nothing, selected}
use Rattle.world_meaning.specs.Transitions.{Acts, Does, Goes, GoesOn, Happens, Runs, Transition, Turns, acts, past, taken, unknown}
use Rattle.world_meaning.specs.Turns.{Advanced, Advances, acts as does_act, advance, answers_due, ends, granting, has_cancel, state_in, unless_silent, waits}
use Rattle.world_meaning.specs.Worlds.{Admission, Admitted, Config, Initiator, IsAt, Named, Running, Selected, Shared, Stage, Wanting, World, counted, of_job}
use Rattle.world_laws.specs.Beside.{IsTurnOf}
use Rattle.law_core.specs.Soundness.{IsSound, RunsAt}
use Rattle.law_core.proofs.Places.{one_running}
use Rattle.law_core.proofs.Gone.{IsGone, gone_stays, heard_first, stays_silent}
use Rattle.law_core.proofs.Moves.{moved}
use Rattle.law_core.proofs.NextTurns.{Then, Turns_to, next, over, stays, turned}
use Rattle.law_core.proofs.Over.{Stands, advance_stands}
use Rattle.law_core.proofs.Sound.{sound_behind}
use Rattle.law_core.proofs.Explained.{heard_told}
use Rattle.law_core.proofs.Voices.{Voice, ends_early, has_turn, heard, is_read, of_other, of_own, voice, waits as is_queued}

-- an action is known by its lines: a turn that waits writes none
abbrev pub acted : List JobLine → ℕ
acted [] = 0
acted (l ∷ ls) = 1

-- where a turn came to an action, it wrote something
advance_writes : (answers : Action → Own → Answers) (fixed : Fixed) (actions : List Action) (s : State) (count : ℕ) (x : Advanced) →
    advance answers fixed actions s count ≡ Some x → acted x.done.lines ≡ 1
unfolding advance
advance_writes answers fixed [] s count x e = absurd cc
advance_writes answers fixed (a ∷ actions) s count x e =
    by_lines (act fixed a at_hand).lines (record { action = a; before = at_hand; done = act fixed a at_hand; count = suc count }) refl e
    (advance_writes answers fixed actions (act fixed a at_hand).state (suc count) x)
  where
    at_hand : State
    at_hand = record s { answers = answers a s.own }

    by_lines : (ls : List JobLine) (here : Advanced) → here.done.lines ≡ ls →
        unless_silent ls here (advance answers fixed actions (act fixed a at_hand).state (suc count)) ≡ Some x →
        (advance answers fixed actions (act fixed a at_hand).state (suc count) ≡ Some x → acted x.done.lines ≡ 1) → acted x.done.lines ≡ 1
    by_lines [] here is f later = later f
    by_lines (l ∷ ls) here is f later = let one : here ≡ x = cc in ap (λ (y : Advanced). acted y.done.lines) (sym one) ∙ ap acted is

-- lines of which none is of a fault
plain_beside : (lines : List JobLine) → list_any is_of_fault lines ≡ false → beside_faults lines ≡ lines
plain_beside [] h = refl
plain_beside (l ∷ lines) h =
    let both : (is_of_fault l ≡ false) × (list_any is_of_fault lines ≡ false) = or_parts (is_of_fault l) (list_any is_of_fault lines) h in
    λ i. cond (not (both.0 i)) (l ∷ plain_beside lines both.1 i) (beside_faults lines)

acted_once : (lines : List JobLine) → length lines ≤ 1 → acted lines ≡ length lines
acted_once [] h = refl
acted_once (l ∷ []) h = refl
acted_once (l ∷ m ∷ lines) h = let no : ⊥ = omega (arith, h) in absurd no

acted_is : (lines : List JobLine) → list_any is_of_fault lines ≡ false → length (beside_faults lines) ≤ 1 → acted lines ≡ length lines
acted_is lines h short = acted_once lines (subst (λ (ls : List JobLine). length ls ≤ 1) (plain_beside lines h) short)

-- an action of an admitted job is a turn in which it is heard
module _ (c : Config) (old : Shared) (q : Running) (ls : List JobLine) (new : Shared) (runs : Option Running) where
  by_advance : (plan : JobPlan) (a : Admission) (count : ℕ) (own : Own) (g : Advances c old q plan a count own ls new runs) → actions_of_advance g ≡ acted ls
  by_advance plan a count own (waits x growth primary is must f n on) = ap acted (sym f)
  by_advance plan a count own (does_act x growth primary free is grants further more f n conserved on) =
      sym (ap acted f ∙ advance_writes (answers_due c.programs plan.steps (granting old q.job growth primary)) a.fixed (drop count (agenda plan c.programs))
      (state_in (seen q.job old.store) own) count x is)
  by_advance plan a count own (ends x growth primary free is grants further last f n conserved off) =
      sym (ap acted f ∙ advance_writes (answers_due c.programs plan.steps (granting old q.job growth primary)) a.fixed (drop count (agenda plan c.programs))
      (state_in (seen q.job old.store) own) count x is)

  by_stage : (stage : Stage) → is_admitted stage ≡ true → (g : GoesOn c old q stage ls new runs) → actions_of_going c old q stage ls new runs g ≡ acted ls
  by_stage (Selected first) is g = absurd cc
  by_stage (Wanting plan) is g = absurd cc
  by_stage (Named plan) is g = absurd cc
  by_stage (Admitted plan a count own) is g = by_advance plan a count own g

module _ (job_of : Denoting) (w mid : World) (e : Event) (lines : List Entry) (t : Transition job_of w e lines mid) where
  -- of a job that is over no event is an action
  gone_event : (job : ℕ) → IsGone w job → (f : Event) (h : Happens job_of (counted w) e lines mid) (d : Does job_of (counted w) f lines h.middle) →
      actions_of_event job job_of (counted w) f lines h.middle d ≡ 0
  gone_event job g (event.Read deck) h d = refl
  gone_event job g (event.Turn number) h (unknown none told n) = refl
  gone_event job g (event.Turn number) h (acts place x at numbered d) = by_running x.running refl d
    where
      by_job : (q : Running) → x.running ≡ Some q → (b : Bool) → (q.job == job) ≡ b → (n : ℕ) → cond b n 0 ≡ 0
      by_job q runs true same n = absurd (g.not_running place q (record { it = x; at = at; running = runs }) (eqb-true q.job job same))
      by_job q runs false same n = refl

      by_running : (o : Option Running) → x.running ≡ o → (d : Acts (counted w) place x o lines h.middle) →
          actions_of_acting job (counted w) place x o lines h.middle d ≡ 0
      by_running None runs d = refl
      by_running (Some q) runs d = by_job q runs (q.job == job) refl _
  gone_event job g (event.DeviceEnd serial) h d = refl
  gone_event job g (event.Write class) h d = refl
  gone_event job g (event.Cancel other) h d = refl
  gone_event job g (event.Zap n offset bytes) h d = refl
  gone_event job g event.Display h d = refl
  gone_event job g (event.Date day) h d = refl

  -- and of one that is admitted an event is an action where it is heard
  module _ (s : IsSound w) (place : ℕ) (r : Running) (run : RunsAt w place r) (admitted : is_admitted r.stage ≡ true) where
    unheard : ((other : ℕ) (x : Initiator) (q : Running) → IsAt w other x → IsTurnOf e x → x.running ≡ Some q → q.job ≡ r.job → ⊥) → heard r.job lines ≡ []
    unheard no_turn = by_voice (voice job_of w mid e lines t r.job)
      where
        by_voice : Voice w e lines r.job → heard r.job lines ≡ []
        by_voice (inl silent) = silent
        by_voice (inr (is_read is)) = let le : r.job ≤ w.jobs = (s.alone place r run).numbered in let no : ⊥ = omega (arith, is, le) in absurd no
        by_voice (inr (is_queued v contained is)) = absurd (All-contains (λ v. v.job ≢ r.job) w.waiting v (s.alone place r run).not_waiting contained is)
        by_voice (inr (has_turn other x q at turn runs same)) = absurd (no_turn other x q at turn runs same)
        by_voice (inr (ends_early other q at same early)) =
            let there_too : other ≡ place = (s.alone place r run).alone other q at same in
            let one : q ≡ r = one_running w place q r (subst (λ p. RunsAt w p q) there_too at) run in
            absurd (both_ways (is_admitted q.stage) early (ap (λ (z : Running). is_admitted z.stage) one ∙ admitted))

    no_action : heard r.job lines ≡ [] → 0 ≡ acted (heard r.job lines)
    no_action silent = ap acted (sym silent)

    by_goes : (other : ℕ) (x : Initiator) (q : Running) (h : Happens job_of (counted w) e lines mid) → IsAt w other x → x.running ≡ Some q →
        (g : Goes (counted w) other x q lines h.middle) (b : Bool) → (q.job == r.job) ≡ b →
        cond b (actions_of_going w.config w.shared q q.stage g.job_lines g.shared g.runs g.goes) 0 ≡ acted (heard r.job lines)
    by_goes other x q h at runs g true same =
        let its : q.job ≡ r.job = eqb-true q.job r.job same in
        let there : RunsAt w other q = record { it = x; at = at; running = runs } in
        let there_too : other ≡ place = (s.alone place r run).alone other q there its in
        let one : q ≡ r = one_running w place q r (subst (λ p. RunsAt w p q) there_too there) run in
        by_stage w.config w.shared q g.job_lines g.shared g.runs q.stage (ap (λ (z : Running). is_admitted z.stage) one ∙ admitted) g.goes
        ∙ ap acted (sym (ap (heard r.job) g.told ∙ (heard_told r.job q.job g.job_lines _ ∙ (ap (λ n. heard r.job (of_job n g.job_lines)) its ∙ of_own r.job g.job_lines))))
    by_goes other x q h at runs g false same =
        no_action (ap (heard r.job) g.told ∙ (heard_told r.job q.job g.job_lines _ ∙ of_other r.job q.job (λ its. both_ways (q.job == r.job) same (eq-eqb q.job r.job its)) g.job_lines))

    by_acts : (other : ℕ) (x : Initiator) (o : Option Running) (h : Happens job_of (counted w) e lines mid) → IsAt w other x → x.running ≡ o →
        (d : Acts (counted w) other x o lines h.middle) → actions_of_acting r.job (counted w) other x o lines h.middle d ≡ acted (heard r.job lines)
    by_acts other x None h at runs (nothing none told n) = no_action (ap (heard r.job) told)
    by_acts other x None h at runs (selected v is told n) =
        no_action (ap (heard r.job) told ∙ of_other r.job v.job
        (λ same. All-contains (λ v. v.job ≢ r.job) w.waiting v (s.alone place r run).not_waiting is.first.contained same)
        (line.Selected x.number ∷ []))
    by_acts other x (Some q) h at runs g = by_goes other x q h at runs g (q.job == r.job) refl

    by_event : (f : Event) (h : Happens job_of (counted w) e lines mid) → e ≡ f → (d : Does job_of (counted w) f lines h.middle) →
        actions_of_event r.job job_of (counted w) f lines h.middle d ≡ acted (heard r.job lines)
    by_event (event.Read deck) h is d = no_action (unheard (λ other x q at turn runs same. subst (λ (f : Event). IsTurnOf f x) is turn))
    by_event (event.Turn number) h is (unknown none told n) = no_action (ap (heard r.job) told)
    by_event (event.Turn number) h is (acts other x at numbered d) = by_acts other x x.running h at refl d
    by_event (event.DeviceEnd serial) h is d = no_action (unheard (λ other x q at turn runs same. subst (λ (f : Event). IsTurnOf f x) is turn))
    by_event (event.Write class) h is d = no_action (unheard (λ other x q at turn runs same. subst (λ (f : Event). IsTurnOf f x) is turn))
    by_event (event.Cancel job) h is d = no_action (unheard (λ other x q at turn runs same. subst (λ (f : Event). IsTurnOf f x) is turn))
    by_event (event.Zap n offset bytes) h is d = no_action (unheard (λ other x q at turn runs same. subst (λ (f : Event). IsTurnOf f x) is turn))
    by_event event.Display h is d = no_action (unheard (λ other x q at turn runs same. subst (λ (f : Event). IsTurnOf f x) is turn))
    by_event (event.Date day) h is d = no_action (unheard (λ other x q at turn runs same. subst (λ (f : Event). IsTurnOf f x) is turn))

gone_once : (job_of : Denoting) (w mid : World) (e : Event) (lines : List Entry) (job : ℕ) → IsGone w job → (t : Transition job_of w e lines mid) → actions_of job t ≡ 0
gone_once job_of w mid e lines job g (past more told n) = refl
gone_once job_of w mid e lines job g (taken less h) = gone_event job_of w mid e lines (taken less h) job g e h h.does

heard_once : (job_of : Denoting) (w mid : World) (e : Event) (lines : List Entry) → IsSound w → (place : ℕ) (r : Running) → RunsAt w place r →
    is_admitted r.stage ≡ true → (t : Transition job_of w e lines mid) → actions_of r.job t ≡ acted (heard r.job lines)
heard_once job_of w mid e lines s place r run admitted (past more told n) = ap acted (sym (ap (heard r.job) told))
heard_once job_of w mid e lines s place r run admitted (taken less h) =
    by_event job_of w mid e lines (taken less h) s place r run admitted e h refl h.does

gone_along : (job_of : Denoting) (w end : World) (es : List Event) (told : List (List Entry)) (job : ℕ) → IsGone w job → (runs : Runs job_of w es told end) →
    actions_along job job_of w es told end runs ≡ 0
gone_along job_of w end [] [] job g runs = refl
gone_along job_of w end [] (lines ∷ more) job g runs = refl
gone_along job_of w end (e ∷ es) [] job g runs = refl
gone_along job_of w end (e ∷ es) (lines ∷ more) job g runs =
    let first : actions_of job runs.1 ≡ 0 = gone_once job_of w runs.0 e lines job g runs.1 in
    let later : actions_along job job_of runs.0 es more end runs.2 ≡ 0 =
    gone_along job_of runs.0 end es more job (gone_stays w runs.0 job g (moved job_of w runs.0 e lines runs.1)) runs.2 in
    omega (arith, first, later)

-- An assured job whose lines tell no fault writes one at each action.
pub one_each : (job_of : Denoting) (w end : World) (es : List Event) (told : List (List Entry)) (place : ℕ) (r : Running)
    (plan : JobPlan) (a : Admission) (count : ℕ) (own : Own) → IsSound w → RunsAt w place r → r.stage ≡ Admitted plan a count own → a.assured ≡ true →
    (runs : Runs job_of w es told end) → list_any is_of_fault (lines_of r.job told) ≡ false →
    actions_along r.job job_of w es told end runs ≡ length (lines_of r.job told)
one_each job_of w end [] [] place r plan a count own sound run stage assured runs plain = refl
one_each job_of w end [] (lines ∷ more) place r plan a count own sound run stage assured runs plain = absurd runs
one_each job_of w end (e ∷ es) [] place r plan a count own sound run stage assured runs plain = absurd runs
one_each job_of w end (e ∷ es) (lines ∷ more) place r plan a count own sound run stage assured runs plain =
    let is_first : actions_of r.job runs.1 ≡ length (heard r.job lines) =
    heard_once job_of w runs.0 e lines sound place r run (ap is_admitted stage) runs.1 ∙ acted_is (heard r.job lines) parts.0 (short then) in
    let is_later : actions_along r.job job_of runs.0 es more end runs.2 ≡ length (lines_of r.job more) =
    later then (λ q n o run_q stage_q plain_q.
    one_each job_of runs.0 end es more place q plan a n o (sound_behind job_of w runs.0 e lines sound runs.1) run_q stage_q assured runs.2 plain_q) in
    omega (arith, is_first, is_later, ap length (heard_first r.job lines more), length-append (heard r.job lines) (lines_of r.job more))
  where
    then : Then w runs.0 place r plan a count own lines
    then = next job_of w runs.0 e lines sound place r run plan a count own stage runs.1 assured

    parts : (list_any is_of_fault (heard r.job lines) ≡ false) × (list_any is_of_fault (lines_of r.job more) ≡ false)
    parts = or_parts (list_any is_of_fault (heard r.job lines)) (list_any is_of_fault (lines_of r.job more))
        (sym (list_any-append is_of_fault (heard r.job lines) (lines_of r.job more)) ∙ (ap (list_any is_of_fault) (sym (heard_first r.job lines more)) ∙ plain))

    short_turn : (x : Advanced) (growth : Bool) → Turns_to w.config w.shared r.job plan a count own growth x → heard r.job lines ≡ x.done.lines →
        length (beside_faults (heard r.job lines)) ≤ 1
    short_turn x growth is says =
        let stands : Stands (agenda plan w.config.programs) a.fixed x =
        advance_stands (answers_due w.config.programs plan.steps (record { cancel = has_cancel w.shared.cancels r.job; growth = growth; primary = true })) a.fixed
        (agenda plan w.config.programs) (drop count (agenda plan w.config.programs)) (state_in (seen r.job w.shared.store) own) count x refl is in
        subst (λ (ls : List JobLine). length (beside_faults ls) ≤ 1) (ap (λ (d : Done). d.lines) (sym stands.done) ∙ sym says)
        (act-beside a.fixed x.action x.before)

    short : Then w runs.0 place r plan a count own lines → length (beside_faults (heard r.job lines)) ≤ 1
    short (stays still part silent) = subst (λ (ls : List JobLine). length (beside_faults ls) ≤ 1) (sym silent) (omega arith)
    short (turned x growth q is left run_q job stage_q part says) = short_turn x growth is says
    short (over x growth is last gone says) = short_turn x growth is says

    later : Then w runs.0 place r plan a count own lines →
        ((q : Running) (n : ℕ) (o : Own) → RunsAt runs.0 place q → q.stage ≡ Admitted plan a n o → list_any is_of_fault (lines_of q.job more) ≡ false →
        actions_along q.job job_of runs.0 es more end runs.2 ≡ length (lines_of q.job more)) →
        actions_along r.job job_of runs.0 es more end runs.2 ≡ length (lines_of r.job more)
    later (stays still part silent) rest = rest r count own still stage parts.1
    later (turned x growth q is left run_q job stage_q part says) rest =
        subst (λ (n : ℕ). actions_along n job_of runs.0 es more end runs.2 ≡ length (lines_of n more)) job
        (rest q x.count x.done.state.own run_q stage_q (subst (λ (n : ℕ). list_any is_of_fault (lines_of n more) ≡ false) (sym job) parts.1))
    later (over x growth is last gone says) rest =
        gone_along job_of runs.0 end es more r.job gone runs.2 ∙ ap length (sym (stays_silent job_of runs.0 end es more r.job gone runs.2))
