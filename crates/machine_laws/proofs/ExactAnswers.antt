-- Each line that answers a job is exact, by the cases of the table and what the volumes decide.
use Rattle.std.proofs.Common.{◌≡◌, ◌⊎◌, inl, inr, arith, ℕ, zero, suc, Bool, true, false, List, [], ◌∷◌, ◌++◌, length, drop, map, Option, Some, None, refl, sym, ap, subst, ◌∙◌}
use Rattle.std.specs.Prelude.{◌||◌}
use Rattle.std.specs.List.{Contains, list_any}
use Rattle.std.proofs.lemmas.Bool.{both_ways, or_parts, or_right}
use Rattle.jcl_plan.specs.declared.entry.Entry.{Entry}
use Rattle.jcl_plan.specs.declared.entry.Entry.TheVariants as entry
use Rattle.jcl_plan.specs.declared.entry.JobLine.{JobLine}
use Rattle.jcl_plan.specs.declared.entry.JobLine.TheVariants as line
use Rattle.jcl_plan.specs.declared.plan.JobPlan.{JobPlan}
use Rattle.jcl_meaning.specs.declared.state.Own.{Own}
use Rattle.jcl_meaning.specs.Agendas.{agenda}
use Rattle.cb_meaning.specs.Walks.{first_fault}
use Rattle.walk_laws.specs.WalkLaws.{DenotedHasNoFault, DenotesSome}
use Rattle.path_meaning.specs.Verdicts.{IsNeverTwo}
use Rattle.path_laws.specs.OneAnswer.{IsOneAnswer}
use Rattle.world_meaning.specs.declared.event.Event.{Event}
use Rattle.world_meaning.specs.declared.event.Event.TheVariants as event
use Rattle.world_meaning.specs.Cancels.{admitted as cancels_admitted, no_job, selected as cancels_selected, waiting as cancels_waiting}
use Rattle.world_meaning.specs.Choices.{choice_of, choice_of_acting, choice_of_event, choice_of_going}
use Rattle.world_meaning.specs.Devices.{ended, idle, no_volume, nothing_written, wrote}
use Rattle.world_meaning.specs.Displays.{queue_line, set, volume_line}
use Rattle.world_meaning.specs.Holdings.{Holds, blocked, broken, held, read as reads_plan}
use Rattle.world_meaning.specs.Lenses.{seen}
use Rattle.world_meaning.specs.Readings.{Denoting, full, no_number, read, rejected}
use Rattle.world_meaning.specs.Selections.{nothing, selected}
use Rattle.world_meaning.specs.Transitions.{Acts, Does, GoesOn, Transition, acts, past, shown, taken, told_with, unknown}
use Rattle.world_meaning.specs.Turns.{Advances, acts as does_act, answers_due, ends, granting, state_in, waits}
use Rattle.world_meaning.specs.Worlds.{Admission, Admitted, Initiator, IsAt, Named, Running, Selected, Shared, Stage, Wanting, World, counted, of_job}
use Rattle.world_meaning.specs.Zaps.{not_owned, selected as zaps_selected, zapped}
use Rattle.law_core.proofs.Over.{advance_stands, fewer, unanswered}
use Rattle.law_core.proofs.PlainLines.{is_of_admission}
use Rattle.sched_core.specs.Told.{IsTold, assured, fixed_by_room, no_space, risk, too_many}
use Rattle.jcl_meaning.specs.declared.state.Place.{Place}
use Rattle.sched_core.specs.Choosing.{IsAdmittedByVolumes, IsChosenByVolumes, lines_answered, with_refusal}
use Rattle.machine_laws.specs.Answers.{AnswersAreExact, AreExact, IsBroken, IsExact, IsExactly, IsThere}
use Rattle.sched_core.specs.Systems.{Machine, denoting, meant_by, world_of}
use Rattle.machine_laws.proofs.OnlyAnswers.{only_one}

-- what answers a job
abbrev pub is_answer : JobLine → Bool
is_answer (line.Broken n) = true
is_answer (line.Assured tracks actions) = true
is_answer (line.WaitSpace serial) = true
is_answer (line.Risk fault step dd path) = true
is_answer (line.TooMany step) = true
is_answer other = false

abbrev tells_answer : Entry → Bool
tells_answer (entry.Job job l) = is_answer l
tells_answer other = false

-- lines of a job
no_lines : (job : ℕ) (lines : List JobLine) → list_any is_answer lines ≡ false → list_any tells_answer (of_job job lines) ≡ false
no_lines job [] h = refl
no_lines job (l ∷ lines) h =
    let both : (is_answer l ≡ false) × (list_any is_answer lines ≡ false) = or_parts (is_answer l) (list_any is_answer lines) h in
    λ i. both.0 i || no_lines job lines both.1 i

no_paths : (job : ℕ) (path : List JobLine) → list_any tells_answer (map (entry.Path job) path) ≡ false
no_paths job [] = refl
no_paths job (l ∷ path) = no_paths job path

-- one that is there is told
found : (lines : List Entry) (job : ℕ) (told : JobLine) → Contains lines (entry.Job job told) → is_answer told ≡ true → list_any tells_answer lines ≡ true
found [] job told (n, less, is) e = let no : ⊥ = omega (arith, less) in absurd no
found (l ∷ lines) job told (zero, less, is) e = ap (λ (b : Bool). b || list_any tells_answer lines) (ap tells_answer is ∙ e)
found (l ∷ lines) job told (suc n, less, is) e =
    or_right (tells_answer l) (list_any tells_answer lines) (found lines job told (n, omega (arith, less), is) e)

-- among the lines of a turn only those of its job stand, and PATH lines
one_line : (l told : JobLine) → Contains (l ∷ []) told → told ≡ l
one_line l told (zero, less, is) = sym is
one_line l told (suc n, less, is) = let no : ⊥ = omega (arith, less) in absurd no

in_lines : (other job : ℕ) (lines : List JobLine) (told : JobLine) → Contains (of_job other lines) (entry.Job job told) → (job ≡ other) × Contains lines told
in_lines other job [] told (n, less, is) = let no : ⊥ = omega (arith, less) in absurd no
in_lines other job (l ∷ lines) told (zero, less, is) = (cc, (zero, omega arith, cc))
in_lines other job (l ∷ lines) told (suc n, less, is) =
    let rest = in_lines other job lines told (n, omega (arith, less), is) in
    (rest.0, (suc rest.1.0, omega (arith, rest.1.1), rest.1.2))

past_paths : (other job : ℕ) (path : List JobLine) (more : List Entry) (told : JobLine) →
    Contains (map (entry.Path other) path ++ more) (entry.Job job told) → Contains more (entry.Job job told)
past_paths other job [] more told there = there
past_paths other job (p ∷ path) more told (zero, less, is) = absurd cc
past_paths other job (p ∷ path) more told (suc n, less, is) = past_paths other job path more told (n, omega (arith, less), is)

no_path : (other job : ℕ) (path : List JobLine) (told : JobLine) → Contains (map (entry.Path other) path) (entry.Job job told) → ⊥
no_path other job [] told (n, less, is) = omega (arith, less)
no_path other job (p ∷ path) told (zero, less, is) = absurd cc
no_path other job (p ∷ path) told (suc n, less, is) = no_path other job path told (n, omega (arith, less), is)

pub in_told : (other job : ℕ) (lines path : List JobLine) (told : JobLine) → Contains (told_with other lines path) (entry.Job job told) →
    (job ≡ other) × Contains lines told
in_told other job lines [] told there = in_lines other job lines told there
in_told other job [] (p ∷ path) told there = absurd (no_path other job (p ∷ path) told there)
in_told other job (l ∷ lines) (p ∷ path) told (zero, less, is) = (cc, (zero, omega arith, cc))
in_told other job (l ∷ lines) (p ∷ path) told (suc n, less, is) =
    let rest = in_lines other job lines told (past_paths other job (p ∷ path) (of_job other lines) told (n, omega (arith, less), is)) in
    (rest.0, (suc rest.1.0, omega (arith, rest.1.1), rest.1.2))

-- an answer, or REFUSED behind it
in_refusal : (b : Bool) (l told : JobLine) → Contains (with_refusal b l) told → (told ≡ l) ⊎ (told ≡ line.Refused)
in_refusal false l told there = inl (one_line l told there)
in_refusal true l told (zero, less, is) = inl (sym is)
in_refusal true l told (suc zero, less, is) = inr (sym is)
in_refusal true l told (suc (suc n), less, is) = let no : ⊥ = omega (arith, less) in absurd no

-- no action answers a job
no_answer : (l : JobLine) → is_of_admission l ≡ false → is_answer l ≡ false
no_answer (line.Read name class priority) h = refl
no_answer (line.Rejected cause) h = refl
no_answer (line.Selected n) h = refl
no_answer (line.Broken n) h = absurd cc
no_answer (line.Names n) h = refl
no_answer (line.WaitNames holder name) h = refl
no_answer (line.WaitSpace serial) h = absurd cc
no_answer (line.Assured tracks actions) h = absurd cc
no_answer (line.Risk fault step dd path) h = absurd cc
no_answer (line.TooMany step) h = absurd cc
no_answer line.Refused h = refl
no_answer line.Cancelled h = refl
no_answer (line.Step step name procedure_step fate) h = refl
no_answer (line.Take dd name word) h = refl
no_answer (line.Fault fault step dd) h = refl
no_answer (line.Back dd name word) h = refl
no_answer (line.GetStart name serial) h = refl
no_answer (line.GetData name text) h = refl
no_answer (line.GetEnd name) h = refl
no_answer (line.PutStart name serial grown) h = refl
no_answer (line.PutDone name) h = refl
no_answer (line.Code code) h = refl
no_answer (line.Abend abend) h = refl
no_answer (line.Disp dd name word) h = refl
no_answer (line.Left step dd name word) h = refl
no_answer line.End h = refl

module _ (never : IsNeverTwo) (one : IsOneAnswer) (reading : DenotedHasNoFault) (m : Machine) where
  abbrev w : World
  w = world_of m

  plainly : (job : ℕ) (l : JobLine) → is_answer l ≡ false → IsExactly m job l
  plainly job (line.Read name class priority) h = tt
  plainly job (line.Rejected cause) h = tt
  plainly job (line.Selected n) h = tt
  plainly job (line.Broken n) h = absurd cc
  plainly job (line.Names n) h = tt
  plainly job (line.WaitNames holder name) h = tt
  plainly job (line.WaitSpace serial) h = absurd cc
  plainly job (line.Assured tracks actions) h = absurd cc
  plainly job (line.Risk fault step dd path) h = absurd cc
  plainly job (line.TooMany step) h = absurd cc
  plainly job line.Refused h = tt
  plainly job line.Cancelled h = tt
  plainly job (line.Step step name procedure_step fate) h = tt
  plainly job (line.Take dd name word) h = tt
  plainly job (line.Fault fault step dd) h = tt
  plainly job (line.Back dd name word) h = tt
  plainly job (line.GetStart name serial) h = tt
  plainly job (line.GetData name text) h = tt
  plainly job (line.GetEnd name) h = tt
  plainly job (line.PutStart name serial grown) h = tt
  plainly job (line.PutDone name) h = tt
  plainly job (line.Code code) h = tt
  plainly job (line.Abend abend) h = tt
  plainly job (line.Disp dd name word) h = tt
  plainly job (line.Left step dd name word) h = tt
  plainly job line.End h = tt

  quiet_exact : (lines : List Entry) → list_any tells_answer lines ≡ false → AreExact m lines
  quiet_exact lines h job told there = by_kind (is_answer told) refl
    where
      by_kind : (b : Bool) → is_answer told ≡ b → IsExactly m job told
      by_kind true e = absurd (both_ways (list_any tells_answer lines) h (found lines job told there e))
      by_kind false e = plainly job told e

  quietly : (lines told : List Entry) → lines ≡ told → list_any tells_answer told ≡ false → AreExact m lines
  quietly lines told is h = quiet_exact lines (ap (list_any tells_answer) is ∙ h)

  -- a job's turn
  module _ (place : ℕ) (x : Initiator) (r : Running) (at : IsAt w place x) (running : x.running ≡ Some r) where
    there_at : (stage : Stage) → r.stage ≡ stage → IsThere w r.job stage
    there_at stage so_far = record {
      place = place;
      runs = r;
      at = record { it = x; at = at; running = running };
      its_own = refl;
      so_far = so_far;
    }

    -- each of its lines
    abbrev Exact : List JobLine → Type 0
    Exact lines = (told : JobLine) → Contains lines told → IsExactly m r.job told

    quiet_lines : (lines told : List JobLine) → lines ≡ told → list_any is_answer told ≡ false → Exact lines
    quiet_lines lines ls is h told there = by_kind (is_answer told) refl
      where
        among : (ls : List JobLine) → Contains ls told → is_answer told ≡ true → list_any is_answer ls ≡ true
        among [] (n, less, e) b = let no : ⊥ = omega (arith, less) in absurd no
        among (l ∷ ls) (zero, less, e) b = ap (λ (c : Bool). c || list_any is_answer ls) (ap is_answer e ∙ b)
        among (l ∷ ls) (suc n, less, e) b = or_right (is_answer l) (list_any is_answer ls) (among ls (n, omega (arith, less), e) b)

        by_kind : (b : Bool) → is_answer told ≡ b → IsExactly m r.job told
        by_kind true e = absurd (both_ways (list_any is_answer lines) (ap (list_any is_answer) is ∙ h) (among lines there e))
        by_kind false e = plainly r.job told e

    abbrev Tells : JobPlan → JobLine → Type 0
    Tells plan l = IsTold m.parts.store m.config.programs m.config.most_views r.job plan (fixed_by_room m.parts.store m.config.units r.job plan m.parts.date) l

    module _ (lines : List JobLine) (new : Shared) (runs : Option Running) where
      in_holds : (plan : JobPlan) → Holds w.shared r plan lines new runs → Exact lines
      in_holds plan (held free told n on) = quiet_lines lines _ told refl
      in_holds plan (blocked by is told n on) = quiet_lines lines _ told refl

      in_turn : (plan : JobPlan) (a : Admission) (count : ℕ) (own : Own) → Advances w.config w.shared r plan a count own lines new runs → Exact lines
      in_turn plan a count own (waits y growth primary is must told n on) = quiet_lines lines [] told refl
      in_turn plan a count own (does_act y growth primary free is grants further more told n conserved on) =
          quiet_lines lines y.done.lines told (fewer is_answer no_answer y.done.lines (unanswered (agenda plan w.config.programs) a.fixed y
          (advance_stands (answers_due w.config.programs plan.steps (granting w.shared r.job growth primary)) a.fixed (agenda plan w.config.programs)
          (drop count (agenda plan w.config.programs)) (state_in (seen r.job w.shared.store) own) count y refl is)))
      in_turn plan a count own (ends y growth primary free is grants further last told n conserved on) =
          quiet_lines lines y.done.lines told (fewer is_answer no_answer y.done.lines (unanswered (agenda plan w.config.programs) a.fixed y
          (advance_stands (answers_due w.config.programs plan.steps (granting w.shared r.job growth primary)) a.fixed (agenda plan w.config.programs)
          (drop count (agenda plan w.config.programs)) (state_in (seen r.job w.shared.store) own) count y refl is)))

      -- BROKEN
      in_broken : (first n : ℕ) → r.stage ≡ Selected first →
          first_fault w.config.layout (length w.config.units) w.shared.records r.job first ≡ Some n → lines ≡ line.Broken n ∷ [] → Exact lines
      in_broken first n so_far fault is told there =
          subst (IsExactly m r.job) (sym (one_line (line.Broken n) told (subst (λ (ls : List JobLine). Contains ls told) is there))) its
        where
          none : DenotesSome w.config.layout (length w.config.units) w.shared.records r.job first → ⊥
          none d =
              let clash : Some n ≡ None = sym fault ∙ reading w.config.layout (length w.config.units) w.shared.records r.job first d.0 d.1 d.2 in
              absurd cc

          its : IsBroken m r.job n
          its = record { first = first; there = there_at (Selected first) so_far; fault = fault; none = none }

      -- an answer
      in_answer : (plan : JobPlan) (places : List Place) → r.stage ≡ Named plan →
          IsAdmittedByVolumes w.config m.parts.store m.parts.date r.job plan places lines → Exact lines
      in_answer plan places so_far a told there = by_line (either a.told)
        where
          exact : (l : JobLine) → Tells plan l → IsExact m r.job l
          exact l t = record {
            plan = plan;
            there = there_at (Named plan) so_far;
            holds = t;
            only = λ other u. only_one never one m.parts.store m.config.programs m.config.most_views r.job plan
                (fixed_by_room m.parts.store m.config.units r.job plan m.parts.date) l other t u;
          }

          exactly : (l : JobLine) → Tells plan l → IsExactly m r.job l
          exactly l (assured made free room is) = subst (IsExactly m r.job) (sym is) (exact _ (subst (Tells plan) is (assured made free room is)))
          exactly l (no_space made serial free room among is) =
              subst (IsExactly m r.job) (sym is) (exact _ (subst (Tells plan) is (no_space made serial free room among is)))
          exactly l (risk fault step dd path earliest is) =
              subst (IsExactly m r.job) (sym is) (exact _ (subst (Tells plan) is (risk fault step dd path earliest is)))
          exactly l (too_many step first is) = subst (IsExactly m r.job) (sym is) (exact _ (subst (Tells plan) is (too_many step first is)))

          among_answered : Contains (lines_answered w.config.refuses a.answer) told
          among_answered = subst (λ (ls : List JobLine). Contains ls told) a.answered there

          here : (l : JobLine) → a.answer ≡ l → Contains (lines_answered w.config.refuses l) told
          here l is = subst (λ (y : JobLine). Contains (lines_answered w.config.refuses y) told) is among_answered

          back : (l : JobLine) → a.answer ≡ l → (told ≡ l) ⊎ (told ≡ line.Refused) → (told ≡ a.answer) ⊎ (told ≡ line.Refused)
          back l is (inl e) = inl (e ∙ sym is)
          back l is (inr e) = inr e

          either : Tells plan a.answer → (told ≡ a.answer) ⊎ (told ≡ line.Refused)
          either (assured made free room is) = inl (one_line _ told (here _ is) ∙ sym is)
          either (no_space made serial free room among is) = inl (one_line _ told (here _ is) ∙ sym is)
          either (risk fault step dd path earliest is) = back _ is (in_refusal w.config.refuses _ told (here _ is))
          either (too_many step first is) = back _ is (in_refusal w.config.refuses _ told (here _ is))

          by_line : (told ≡ a.answer) ⊎ (told ≡ line.Refused) → IsExactly m r.job told
          by_line (inl e) = subst (IsExactly m r.job) (sym e) (exactly a.answer a.told)
          by_line (inr e) = subst (IsExactly m r.job) (sym e) tt

      in_stage : (stage : Stage) → r.stage ≡ stage → (g : GoesOn w.config w.shared r stage lines new runs) →
          IsChosenByVolumes w.config m.parts.store m.parts.date (choice_of_going w.config w.shared r stage lines new runs g) → Exact lines
      in_stage (Selected first) so_far (broken n free f is e conserved gone) by = in_broken first n so_far f is
      in_stage (Selected first) so_far (reads_plan plan rest denoted h) by = in_holds plan h
      in_stage (Wanting plan) so_far h by = in_holds plan h
      in_stage (Named plan) so_far g by = in_answer plan g.places so_far by
      in_stage (Admitted plan a count own) so_far g by = in_turn plan a count own g

  in_volumes : (s : Shared) (volumes : List (List ℕ)) (v : World) → list_any tells_answer (map (volume_line s) volumes ++ queue_line v ∷ []) ≡ false
  in_volumes s [] v = refl
  in_volumes s (serial ∷ volumes) v = in_volumes s volumes v

  module _ (job_of : Denoting) (mid : World) (lines : List Entry) where
    in_acts : (place : ℕ) (x : Initiator) (o : Option Running) → IsAt w place x → x.running ≡ o → (g : Acts (counted w) place x o lines mid) →
        IsChosenByVolumes w.config m.parts.store m.parts.date (choice_of_acting (counted w) place x o lines mid g) → AreExact m lines
    in_acts place x None at running (nothing n told same) by = quietly lines [] told refl
    in_acts place x None at running (selected v is told same) by = quietly lines _ told refl
    in_acts place x (Some r) at running g by = λ job told there.
        let its = in_told r.job job g.job_lines _ told (subst (λ (ls : List Entry). Contains ls (entry.Job job told)) g.told there) in
        subst (λ (j : ℕ). IsExactly m j told) (sym its.0)
        (in_stage place x r at running g.job_lines g.shared g.runs r.stage refl g.goes by told its.1)

    in_event : (e : Event) → (d : Does job_of (counted w) e lines mid) →
        IsChosenByVolumes w.config m.parts.store m.parts.date (choice_of_event job_of (counted w) e lines mid d) → AreExact m lines
    in_event (event.Read deck) (no_number more told n) by = quietly lines _ told refl
    in_event (event.Read deck) (rejected cause less f told n) by = quietly lines _ told refl
    in_event (event.Read deck) (full plan less f few told n) by = quietly lines _ told refl
    in_event (event.Read deck) (read plan first records less f z told n) by = quietly lines _ told refl
    in_event (event.Turn number) (unknown absent told n) by = quietly lines _ told refl
    in_event (event.Turn number) (acts place x at is a) by = in_acts place x x.running at refl a by
    in_event (event.DeviceEnd serial) (no_volume absent told n) by = quietly lines _ told refl
    in_event (event.DeviceEnd serial) (idle contained not_busy told n) by = quietly lines _ told refl
    in_event (event.DeviceEnd serial) (ended contained is_busy told n) by = quietly lines [] told refl
    in_event (event.Write class) (nothing_written absent told n) by = quietly lines [] told refl
    in_event (event.Write class) (wrote other l left took told n) by = quietly lines _ told refl
    in_event (event.Cancel other) (no_job absent told n) by = quietly lines _ told refl
    in_event (event.Cancel other) (cancels_waiting z free contained is told n conserved) by = quietly lines _ told refl
    in_event (event.Cancel other) (cancels_selected place x r free at runs not_yet is told n conserved) by = quietly lines _ told refl
    in_event (event.Cancel other) (cancels_admitted place x r at runs is yet told n) by = quietly lines _ told refl
    in_event (event.Zap n offset bytes) (not_owned fails told is) by = quietly lines _ told refl
    in_event (event.Zap n offset bytes) (zaps_selected may has told is) by = quietly lines _ told refl
    in_event (event.Zap n offset bytes) (zapped may has told is) by = quietly lines [] told refl
    in_event event.Display (shown told n) by = quietly lines _ told (in_volumes w.shared w.config.volumes (counted w))
    in_event (event.Date day) (set years of_year is told n) by = quietly lines _ told refl

  in_step : (job_of : Denoting) (e : Event) (lines : List Entry) (new : World) → (t : Transition job_of w e lines new) →
      IsChosenByVolumes w.config m.parts.store m.parts.date (choice_of t) → AreExact m lines
  in_step job_of e lines new (past more told n) by = quietly lines _ told refl
  in_step job_of e lines new (taken less h) by = in_event job_of h.middle lines e h.does by

pub answers_are_exact : IsNeverTwo → IsOneAnswer → DenotedHasNoFault → AnswersAreExact
answers_are_exact never one reading =
    record { each = λ old e lines new s. in_step never one reading old (denoting old) (meant_by e) lines new s.0 s.1 }
