-- A line that says ASSURED stands alone among the lines of its event.
use Rattle.std.proofs.Common.{◌≡◌, ◌⊎◌, ◌<◌, inl, inr, ℕ, zero, suc, Bool, true, false, List, [], ◌∷◌, ◌++◌, length, drop, map, Option, Some, None, refl, sym, ap, ◌∙◌, arith}
use Rattle.std.specs.Prelude.{◌||◌, slice_index_or}
use Rattle.std.specs.List.{Contains, list_any}
use Rattle.std.proofs.lemmas.Bool.{both_ways, or_parts, or_right}
use Rattle.jcl_plan.specs.declared.entry.Entry.{Entry}
use Rattle.jcl_plan.specs.declared.entry.Entry.TheVariants as entry
use Rattle.jcl_plan.specs.declared.entry.JobLine.{JobLine}
use Rattle.jcl_plan.specs.declared.entry.JobLine.TheVariants as line
use Rattle.jcl_plan.specs.declared.plan.JobPlan.{JobPlan}
use Rattle.jcl_meaning.specs.declared.state.Own.{Own}
use Rattle.jcl_meaning.specs.Agendas.{agenda}
use Rattle.jcl_meaning.specs.States.{Fixed}
use Rattle.world_meaning.specs.declared.event.Event.{Event}
use Rattle.world_meaning.specs.declared.event.Event.TheVariants as event
use Rattle.world_meaning.specs.Admissions.{Answered, MayFail, assured, fixed_at, no_space, refused, risk, risky, too_many}
use Rattle.world_meaning.specs.Cancels.{admitted as cancels_admitted, no_job, selected as cancels_selected, waiting as cancels_waiting}
use Rattle.world_meaning.specs.Devices.{ended, idle, no_volume, nothing_written, wrote}
use Rattle.world_meaning.specs.Displays.{queue_line, set, volume_line}
use Rattle.world_meaning.specs.Headlines.{assured_lines}
use Rattle.world_meaning.specs.Holdings.{Holds, blocked, broken, held, read as reads_plan}
use Rattle.world_meaning.specs.Lenses.{seen}
use Rattle.world_meaning.specs.Readings.{Denoting, full, no_number, read, rejected}
use Rattle.world_meaning.specs.Selections.{nothing, selected}
use Rattle.world_meaning.specs.Transitions.{Acts, Does, Goes, GoesOn, Transition, acts, past, shown, taken, told_with, unknown}
use Rattle.world_meaning.specs.Turns.{Advances, acts as does_act, answers_due, ends, granting, state_in, waits}
use Rattle.world_meaning.specs.Worlds.{Admission, Admitted, Config, Initiator, Named, Running, Selected, Shared, Stage, Wanting, World, counted, of_job}
use Rattle.world_meaning.specs.Zaps.{not_owned, selected as zaps_selected, zapped}
use Rattle.law_core.proofs.Explained.{assured_unexplained}
use Rattle.law_core.proofs.Over.{advance_stands, unassured}
use Rattle.law_core.proofs.PlainLines.{is_assured}

abbrev pub tells_assured : Entry → Bool
tells_assured (entry.Job job l) = is_assured l
tells_assured other = false

-- lines of a job: none says ASSURED, or one does alone
abbrev OneOrNone : List JobLine → Type 0
OneOrNone lines = (list_any is_assured lines ≡ false) ⊎ ((tracks : ℕ) × (stated : ℕ) × (lines ≡ line.Assured tracks stated ∷ []))

pub data Alone (lines : List Entry) : Type 0 where
  none : list_any tells_assured lines ≡ false → Alone lines
  alone : (job tracks stated : ℕ) → lines ≡ assured_lines job tracks stated → Alone lines

no_lines : (job : ℕ) (lines : List JobLine) → list_any is_assured lines ≡ false → list_any tells_assured (of_job job lines) ≡ false
no_lines job [] h = refl
no_lines job (l ∷ lines) h =
    let both : (is_assured l ≡ false) × (list_any is_assured lines ≡ false) = or_parts (is_assured l) (list_any is_assured lines) h in
    λ i. both.0 i || no_lines job lines both.1 i

no_paths : (job : ℕ) (path : List JobLine) (more : List Entry) → list_any tells_assured more ≡ false →
    list_any tells_assured (map (entry.Path job) path ++ more) ≡ false
no_paths job [] more h = h
no_paths job (l ∷ path) more h = no_paths job path more h

no_lines_with : (job : ℕ) (lines path : List JobLine) → list_any is_assured lines ≡ false → list_any tells_assured (told_with job lines path) ≡ false
no_lines_with job lines [] h = no_lines job lines h
no_lines_with job [] (p ∷ path) h = no_lines_with_none job path
  where
    no_lines_with_none : (job : ℕ) (path : List JobLine) → list_any tells_assured (map (entry.Path job) path) ≡ false
    no_lines_with_none job [] = refl
    no_lines_with_none job (l ∷ path) = no_lines_with_none job path
no_lines_with job (l ∷ lines) (p ∷ path) h =
    let both : (is_assured l ≡ false) × (list_any is_assured lines ≡ false) = or_parts (is_assured l) (list_any is_assured lines) h in
    λ i. both.0 i || no_paths job (p ∷ path) (of_job job lines) (no_lines job lines both.1) i

told_alone : (job : ℕ) (lines path : List JobLine) (told : List Entry) → told ≡ told_with job lines path →
    ((tracks stated : ℕ) → lines ≡ line.Assured tracks stated ∷ [] → path ≡ []) → OneOrNone lines → Alone told
told_alone job lines path told is unexplained (inl h) = none (ap (list_any tells_assured) is ∙ no_lines_with job lines path h)
told_alone job lines path told is unexplained (inr (tracks, stated, e)) =
    alone job tracks stated (is ∙ (λ i. told_with job (e i) (unexplained tracks stated e i)))

plainly : (lines told : List JobLine) → lines ≡ told → list_any is_assured told ≡ false → OneOrNone lines
plainly lines told is h = inl (ap (list_any is_assured) is ∙ h)

module _ (c : Config) (s : Shared) (r : Running) (lines : List JobLine) (new : Shared) (runs : Option Running) where
  in_holds : (plan : JobPlan) → Holds s r plan lines new runs → OneOrNone lines
  in_holds plan (held free told n on) = plainly lines _ told refl
  in_holds plan (blocked by is told n on) = plainly lines _ told refl

  in_turn : (plan : JobPlan) (a : Admission) (count : ℕ) (own : Own) → Advances c s r plan a count own lines new runs → OneOrNone lines
  in_turn plan a count own (waits x growth primary is must told n on) = plainly lines [] told refl
  in_turn plan a count own (does_act x growth primary free is grants further more told n conserved on) =
      plainly lines x.done.lines told (unassured (agenda plan c.programs) a.fixed x
      (advance_stands (answers_due c.programs plan.steps (granting s r.job growth primary)) a.fixed (agenda plan c.programs)
      (drop count (agenda plan c.programs)) (state_in (seen r.job s.store) own) count x refl is))
  in_turn plan a count own (ends x growth primary free is grants further last told n conserved on) =
      plainly lines x.done.lines told (unassured (agenda plan c.programs) a.fixed x
      (advance_stands (answers_due c.programs plan.steps (granting s r.job growth primary)) a.fixed (agenda plan c.programs)
      (drop count (agenda plan c.programs)) (state_in (seen r.job s.store) own) count x refl is))

  in_failing : (plan : JobPlan) (fixed : Fixed) (l : JobLine) → is_assured l ≡ false → MayFail c s r plan fixed l lines new runs → OneOrNone lines
  in_failing plan fixed l other (risky b told n on) = plainly lines (l ∷ []) told (λ i. other i || false)
  in_failing plan fixed l other (refused free b told n conserved on) = plainly lines (l ∷ line.Refused ∷ []) told (λ i. other i || false)

  in_answer : (plan : JobPlan) (fixed : Fixed) → Answered c s r plan fixed lines new runs → OneOrNone lines
  in_answer plan fixed (assured places kept free safe are_made are others told n conserved on) = inr (_, _, told)
  in_answer plan fixed (no_space serial there told n on) = plainly lines _ told refl
  in_answer plan fixed (risk fault step dd path meets m) = in_failing plan fixed (line.Risk fault step dd path) refl m
  in_answer plan fixed (too_many step low high views m) = in_failing plan fixed (line.TooMany step) refl m

  in_stage : (stage : Stage) → GoesOn c s r stage lines new runs → OneOrNone lines
  in_stage (Selected first) (broken n free f told e conserved gone) = plainly lines _ told refl
  in_stage (Selected first) (reads_plan plan rest denoted h) = in_holds plan h
  in_stage (Wanting plan) h = in_holds plan h
  in_stage (Named plan) g = in_answer plan (fixed_at c s r.job plan g.places) g.answers
  in_stage (Admitted plan a count own) g = in_turn plan a count own g

quietly : (lines told : List Entry) → lines ≡ told → list_any tells_assured told ≡ false → Alone lines
quietly lines told is h = none (ap (list_any tells_assured) is ∙ h)

in_volumes : (s : Shared) (volumes : List (List ℕ)) (w : World) → list_any tells_assured (map (volume_line s) volumes ++ queue_line w ∷ []) ≡ false
in_volumes s [] w = refl
in_volumes s (v ∷ volumes) w = in_volumes s volumes w

module _ (job_of : Denoting) (w mid : World) (lines : List Entry) where
  in_acts : (place : ℕ) (x : Initiator) (o : Option Running) → Acts (counted w) place x o lines mid → Alone lines
  in_acts place x None (nothing n told same) = quietly lines [] told refl
  in_acts place x None (selected v is told same) = quietly lines _ told refl
  in_acts place x (Some r) g =
      told_alone r.job g.job_lines _ lines g.told
      (λ tracks stated is. assured_unexplained w.config w.shared r r.stage g.job_lines g.shared g.runs g.goes tracks stated is)
      (in_stage w.config w.shared r g.job_lines g.shared g.runs r.stage g.goes)

  in_event : (e : Event) → Does job_of (counted w) e lines mid → Alone lines
  in_event (event.Read deck) (no_number more told n) = quietly lines _ told refl
  in_event (event.Read deck) (rejected cause less f told n) = quietly lines _ told refl
  in_event (event.Read deck) (full plan less f few told n) = quietly lines _ told refl
  in_event (event.Read deck) (read plan first records less f z told n) = quietly lines _ told refl
  in_event (event.Turn number) (unknown absent told n) = quietly lines _ told refl
  in_event (event.Turn number) (acts place x at is a) = in_acts place x x.running a
  in_event (event.DeviceEnd serial) (no_volume absent told n) = quietly lines _ told refl
  in_event (event.DeviceEnd serial) (idle contained not_busy told n) = quietly lines _ told refl
  in_event (event.DeviceEnd serial) (ended contained is_busy told n) = quietly lines [] told refl
  in_event (event.Write class) (nothing_written absent told n) = quietly lines [] told refl
  in_event (event.Write class) (wrote other l left took told n) = quietly lines _ told refl
  in_event (event.Cancel other) (no_job absent told n) = quietly lines _ told refl
  in_event (event.Cancel other) (cancels_waiting z free contained is told n conserved) = quietly lines _ told refl
  in_event (event.Cancel other) (cancels_selected place x r free at runs not_yet is told n conserved) = quietly lines _ told refl
  in_event (event.Cancel other) (cancels_admitted place x r at runs is yet told n) = quietly lines _ told refl
  in_event (event.Zap n offset bytes) (not_owned fails told is) = quietly lines _ told refl
  in_event (event.Zap n offset bytes) (zaps_selected may has told is) = quietly lines _ told refl
  in_event (event.Zap n offset bytes) (zapped may has told is) = quietly lines [] told refl
  in_event event.Display (shown told n) = quietly lines _ told (in_volumes w.shared w.config.volumes (counted w))
  in_event (event.Date day) (set years of_year is told n) = quietly lines _ told refl

stands_alone : (job_of : Denoting) (w mid : World) (lines : List Entry) (e : Event) → Transition job_of w e lines mid → Alone lines
stands_alone job_of w mid lines e (past more told n) = quietly lines _ told refl
stands_alone job_of w mid lines e (taken less h) = in_event job_of w h.middle lines e h.does

-- one that is there is told
found : (lines : List Entry) (job tracks stated : ℕ) → Contains lines (entry.Job job (line.Assured tracks stated)) → list_any tells_assured lines ≡ true
found [] job tracks stated (n, less, is) = let no : ⊥ = omega (arith, less) in absurd no
found (l ∷ lines) job tracks stated (zero, less, is) = λ i. tells_assured (is i) || list_any tells_assured lines
found (l ∷ lines) job tracks stated (suc n, less, is) = or_right (tells_assured l) (list_any tells_assured lines) (found lines job tracks stated (n, omega (arith, less), is))

-- so lines that hold ASSURED of a job are that line
pub assured_alone : (job_of : Denoting) (w mid : World) (e : Event) (lines : List Entry) (job tracks stated : ℕ) → Transition job_of w e lines mid →
    Contains lines (entry.Job job (line.Assured tracks stated)) → lines ≡ assured_lines job tracks stated
assured_alone job_of w mid e lines job tracks stated t there = by_case (stands_alone job_of w mid lines e t)
  where
    one : (j a b : ℕ) (told : List Entry) → told ≡ assured_lines j a b → Contains told (entry.Job job (line.Assured tracks stated)) → told ≡ assured_lines job tracks stated
    one j a b told is (zero, less, same) =
        is ∙ ap (λ (x : Entry). x ∷ []) (sym (ap (λ (xs : List Entry). slice_index_or xs 0 (entry.Job job (line.Assured tracks stated))) is) ∙ same)
    one j a b told is (suc n, less, same) = let no : ⊥ = omega (arith, less, ap length is) in absurd no

    by_case : Alone lines → lines ≡ assured_lines job tracks stated
    by_case (none h) = absurd (both_ways (list_any tells_assured lines) h (found lines job tracks stated there))
    by_case (alone j a b is) = one j a b lines is there
