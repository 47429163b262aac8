-- The event whose line is ASSURED: the admission of a job whose names were held.
use Rattle.std.proofs.Common.{◌≡◌, ◌++◌, ℕ, true, false, List, [], ◌∷◌, drop, map, Option, Some, None, refl, sym, ap, ◌∙◌}
use Rattle.std.specs.Prelude.{◌||◌, slice_get}
use Rattle.std.specs.List.{list_any}
use Rattle.std.proofs.lemmas.Bool.{both_ways}
use Rattle.jcl_plan.specs.declared.entry.Entry.{Entry}
use Rattle.jcl_plan.specs.declared.entry.Entry.TheVariants as entry
use Rattle.jcl_plan.specs.declared.entry.JobLine.{JobLine}
use Rattle.jcl_plan.specs.declared.entry.JobLine.TheVariants as line
use Rattle.jcl_plan.specs.declared.plan.JobPlan.{JobPlan}
use Rattle.jcl_meaning.specs.declared.state.Own.{Own}
use Rattle.jcl_meaning.specs.declared.state.Place.{Place}
use Rattle.jcl_meaning.specs.Agendas.{agenda, budget_of}
use Rattle.jcl_meaning.specs.Solo.{nothing_own}
use Rattle.jcl_meaning.specs.States.{Fixed}
use Rattle.world_meaning.specs.declared.event.Event.{Event}
use Rattle.world_meaning.specs.declared.event.Event.TheVariants as event
use Rattle.world_meaning.specs.Admissions.{Answered, MayFail, assured, fixed_at, no_space, refused, risk, risky, too_many}
use Rattle.world_meaning.specs.Cancels.{admitted as cancels_admitted, no_job, selected as cancels_selected, waiting as cancels_waiting}
use Rattle.world_meaning.specs.Devices.{ended, idle, no_volume, nothing_written, wrote}
use Rattle.world_meaning.specs.Displays.{queue_line, set, volume_line}
use Rattle.world_meaning.specs.Holdings.{Holds, blocked, broken, held, read as reads_plan}
use Rattle.world_meaning.specs.Lenses.{seen}
use Rattle.world_meaning.specs.Placements.{ArePlaces}
use Rattle.world_meaning.specs.Readings.{Denoting, full, no_number, read, rejected}
use Rattle.world_meaning.specs.Selections.{nothing, selected}
use Rattle.world_meaning.specs.Transitions.{Acts, Does, Goes, GoesOn, Happens, Transition, acts, past, shown, taken, unknown, told_with}
use Rattle.world_meaning.specs.Turns.{Advances, acts as does_act, answers_due, ends, granting, state_in, waits}
use Rattle.world_meaning.specs.Worlds.{Admission, Admitted, Config, Initiator, IsAt, Named, Running, Selected, Shared, Stage, Wanting, World, counted, going_on, of_job}
use Rattle.world_meaning.specs.Zaps.{not_owned, selected as zaps_selected, zapped}
use Rattle.world_laws.proofs.Beside.{set_here}
use Rattle.law_core.specs.Soundness.{RunsAt}
use Rattle.law_core.proofs.Over.{advance_stands, unassured}
use Rattle.law_core.proofs.PlainLines.{is_assured}
use Rattle.path_meaning.specs.Paths.{IsSafe}

-- what is known at the line
pub record IsAdmitted (w v : World) (job actions : ℕ) : Type 0 where
  pub place : ℕ
  pub r : Running
  pub run : RunsAt w place r
  pub its_job : r.job ≡ job
  pub plan : JobPlan
  pub stage : r.stage ≡ Named plan
  pub places : List Place
  pub placed : ArePlaces w.config plan places
  pub safe : IsSafe (fixed_at w.config w.shared r.job plan places) plan (seen r.job w.shared.store)
  pub budget : actions ≡ budget_of plan w.config.programs
  pub q : Running
  pub goes_on : RunsAt v place q
  pub same_job : q.job ≡ r.job
  pub admission : q.stage ≡ Admitted plan (record { fixed = fixed_at w.config w.shared r.job plan places; assured = true }) 0 nothing_own
  pub store : v.shared.store ≡ w.shared.store

-- the turn at which a job is assured
record IsAnswered (c : Config) (s : Shared) (r : Running) (lines : List JobLine) (new : Shared) (runs : Option Running) (actions : ℕ) : Type 0 where
  plan : JobPlan
  stage : r.stage ≡ Named plan
  places : List Place
  placed : ArePlaces c plan places
  safe : IsSafe (fixed_at c s r.job plan places) plan (seen r.job s.store)
  budget : actions ≡ budget_of plan c.programs
  goes : runs ≡ going_on r lines (Admitted plan (record { fixed = fixed_at c s r.job plan places; assured = true }) 0 nothing_own)
  store : new.store ≡ s.store

module _ (tracks actions : ℕ) where
  abbrev the_line : List JobLine
  the_line = line.Assured tracks actions ∷ []

  module _ (c : Config) (s : Shared) (r : Running) (lines : List JobLine) (new : Shared) (runs : Option Running) (is_line : lines ≡ the_line) where
    holds_not : (plan : JobPlan) → Holds s r plan lines new runs → ⊥
    holds_not plan (held free t n on) = let no : the_line ≡ _ = sym is_line ∙ t in absurd cc
    holds_not plan (blocked by is t n on) = let no : the_line ≡ _ = sym is_line ∙ t in absurd cc

    acts_not : (plan : JobPlan) (a : Admission) (count : ℕ) (own : Own) → Advances c s r plan a count own lines new runs → ⊥
    acts_not plan a count own turn = by_lines (told turn)
      where
        told : Advances c s r plan a count own lines new runs → list_any is_assured lines ≡ false
        told (waits x growth primary is must t n on) = ap (list_any is_assured) t
        told (does_act x growth primary free is grants further more t n conserved on) =
            ap (list_any is_assured) t ∙ unassured (agenda plan c.programs) a.fixed x
            (advance_stands (answers_due c.programs plan.steps (granting s r.job growth primary)) a.fixed (agenda plan c.programs)
            (drop count (agenda plan c.programs)) (state_in (seen r.job s.store) own) count x refl is)
        told (ends x growth primary free is grants further last t n conserved on) =
            ap (list_any is_assured) t ∙ unassured (agenda plan c.programs) a.fixed x
            (advance_stands (answers_due c.programs plan.steps (granting s r.job growth primary)) a.fixed (agenda plan c.programs)
            (drop count (agenda plan c.programs)) (state_in (seen r.job s.store) own) count x refl is)

        by_lines : list_any is_assured lines ≡ false → ⊥
        by_lines h = both_ways (list_any is_assured lines) h (ap (list_any is_assured) is_line)

    may_fail_not : (plan : JobPlan) (fixed : Fixed) (told : JobLine) → is_assured told ≡ false → MayFail c s r plan fixed told lines new runs → ⊥
    may_fail_not plan fixed told other (risky b t n on) =
        both_ways (list_any is_assured lines) (ap (list_any is_assured) t ∙ (λ i. other i || false)) (ap (list_any is_assured) is_line)
    may_fail_not plan fixed told other (refused free b t n conserved on) =
        both_ways (list_any is_assured lines) (ap (list_any is_assured) t ∙ (λ i. other i || false)) (ap (list_any is_assured) is_line)

    by_answer : (plan : JobPlan) (places : List Place) → r.stage ≡ Named plan → ArePlaces c plan places →
        Answered c s r plan (fixed_at c s r.job plan places) lines new runs → IsAnswered c s r lines new runs actions
    by_answer plan places stage placed (assured made kept free safe are_made are others t n conserved on) = record {
      plan = plan;
      stage = stage;
      places = places;
      placed = placed;
      safe = safe;
      budget = (let both : the_line ≡ _ = sym is_line ∙ t in cc);
      goes = on;
      store = ap (λ (z : Shared). z.store) n;
    }
    by_answer plan places stage placed (no_space serial there t n on) = let no : the_line ≡ _ = sym is_line ∙ t in absurd cc
    by_answer plan places stage placed (risk fault step dd path meets m) = absurd (may_fail_not plan _ (line.Risk fault step dd path) refl m)
    by_answer plan places stage placed (too_many step low high views m) = absurd (may_fail_not plan _ (line.TooMany step) refl m)

    by_stage : (stage : Stage) → r.stage ≡ stage → GoesOn c s r stage lines new runs → IsAnswered c s r lines new runs actions
    by_stage (Selected first) is (broken n free f t e conserved gone) = let no : the_line ≡ _ = sym is_line ∙ t in absurd cc
    by_stage (Selected first) is (reads_plan plan rest denoted h) = absurd (holds_not plan h)
    by_stage (Wanting plan) is h = absurd (holds_not plan h)
    by_stage (Named plan) is g = by_answer plan g.places is g.placed g.answers
    by_stage (Admitted plan a count own) is g = absurd (acts_not plan a count own g)

  module _ (job_of : Denoting) (w v : World) (job : ℕ) where
    abbrev told : List Entry
    told = entry.Job job (line.Assured tracks actions) ∷ []

    -- one line of one job
    of_one : (other : ℕ) (ls path : List JobLine) → told ≡ told_with other ls path → (other ≡ job) × (ls ≡ the_line)
    of_one other [] [] e = absurd cc
    of_one other [] (p ∷ path) e = absurd cc
    of_one other (l ∷ []) [] e = let is : line.Assured tracks actions ≡ l = cc in (cc, ap (λ (x : JobLine). x ∷ []) (sym is))
    of_one other (l ∷ []) (p ∷ path) e = absurd cc
    of_one other (l ∷ m ∷ ls) [] e = absurd cc
    of_one other (l ∷ m ∷ ls) (p ∷ path) e = absurd cc

    not_shown : (s : Shared) (volumes : List (List ℕ)) (last : Entry) → told ≡ map (volume_line s) volumes ++ last ∷ [] → (x : World) → last ≡ queue_line x → ⊥
    not_shown s [] last e x is = let no : told ≡ queue_line x ∷ [] = e ∙ ap (λ (z : Entry). z ∷ []) is in absurd cc
    not_shown s (serial ∷ volumes) last e x is = absurd cc

    by_goes : (place : ℕ) (x : Initiator) (r : Running) (e : Event) (h : Happens job_of (counted w) e told v) → IsAt w place x → x.running ≡ Some r →
        Goes (counted w) place x r told h.middle → IsAdmitted w v job actions
    by_goes place x r e h at running g =
        let one : (r.job ≡ job) × (g.job_lines ≡ the_line) = of_one r.job g.job_lines _ g.told in
        let a : IsAnswered w.config w.shared r g.job_lines g.shared g.runs actions = by_stage w.config w.shared r g.job_lines g.shared g.runs one.1 r.stage refl g.goes in
        record {
          place = place;
          r = r;
          run = record { it = x; at = at; running = running };
          its_job = one.0;
          plan = a.plan;
          stage = a.stage;
          places = a.places;
          placed = a.placed;
          safe = a.safe;
          budget = a.budget;
          q = record r {
            listing = r.listing ++ g.job_lines;
            stage = Admitted a.plan (record { fixed = fixed_at w.config w.shared r.job a.plan a.places; assured = true }) 0 nothing_own;
          };
          goes_on = record {
            it = record x { running = g.runs };
            at = ap (λ (z : World). slice_get z.initiators place) h.rest ∙ (ap (λ (z : World). slice_get z.initiators place) g.leaves
                ∙ set_here w.initiators place x (record x { running = g.runs }) at);
            running = a.goes;
          };
          same_job = refl;
          admission = refl;
          store = ap (λ (z : Shared). z.store) h.reopened.rest ∙ (ap (λ (z : World). z.shared.store) g.leaves ∙ a.store);
        }

    by_acts : (place : ℕ) (x : Initiator) (o : Option Running) (e : Event) (h : Happens job_of (counted w) e told v) → IsAt w place x → x.running ≡ o →
        Acts (counted w) place x o told h.middle → IsAdmitted w v job actions
    by_acts place x None e h at running (nothing none t n) = absurd cc
    by_acts place x None e h at running (selected y s t n) = absurd cc
    by_acts place x (Some r) e h at running g = by_goes place x r e h at running g

    by_event : (e : Event) (h : Happens job_of (counted w) e told v) → Does job_of (counted w) e told h.middle → IsAdmitted w v job actions
    by_event (event.Read deck) h (no_number more t n) = absurd cc
    by_event (event.Read deck) h (rejected cause less f t n) = absurd cc
    by_event (event.Read deck) h (full plan less f few t n) = absurd cc
    by_event (event.Read deck) h (read plan first records less f z t n) = absurd cc
    by_event (event.Turn number) h (unknown none t n) = absurd cc
    by_event (event.Turn number) h (acts place x at is a) = by_acts place x x.running (event.Turn number) h at refl a
    by_event (event.DeviceEnd serial) h (no_volume none t n) = absurd cc
    by_event (event.DeviceEnd serial) h (idle contained not_busy t n) = absurd cc
    by_event (event.DeviceEnd serial) h (ended contained is_busy t n) = absurd cc
    by_event (event.Write class) h (nothing_written none t n) = absurd cc
    by_event (event.Write class) h (wrote other l left took t n) = absurd cc
    by_event (event.Cancel other) h (no_job none t n) = absurd cc
    by_event (event.Cancel other) h (cancels_waiting z free contained is t n conserved) = absurd cc
    by_event (event.Cancel other) h (cancels_selected place x r free at runs not_yet is t n conserved) = absurd cc
    by_event (event.Cancel other) h (cancels_admitted place x r at runs is yet t n) = absurd cc
    by_event (event.Zap n offset bytes) h (not_owned fails t is) = absurd cc
    by_event (event.Zap n offset bytes) h (zaps_selected may has t is) = absurd cc
    by_event (event.Zap n offset bytes) h (zapped may has t is) = absurd cc
    by_event event.Display h (shown t n) = absurd (not_shown w.shared w.config.volumes (queue_line (counted w)) t (counted w) refl)
    by_event (event.Date day) h (set years of_year is t n) = absurd cc

    pub admitted_at : (e : Event) → Transition job_of w e told v → IsAdmitted w v job actions
    admitted_at e (past more t n) = absurd cc
    admitted_at e (taken less h) = by_event e h h.does
