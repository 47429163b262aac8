-- What is promised of an assured job, from that its solo meaning meets no fault.
use Rattle.std.proofs.Common.{◌≡◌, ◌≤◌, arith, ℕ, true, false, List, [], ◌∷◌, length, refl, sym, ap, ◌∙◌, subst, length-append}
use Rattle.jcl_plan.specs.declared.entry.Entry.{Entry}
use Rattle.jcl_plan.specs.declared.entry.Entry.TheVariants as entry
use Rattle.jcl_plan.specs.declared.entry.JobLine.{JobLine}
use Rattle.jcl_plan.specs.declared.entry.JobLine.TheVariants as line
use Rattle.jcl_plan.specs.declared.plan.JobPlan.{JobPlan}
use Rattle.jcl_meaning.specs.declared.program.SoloProgram.{SoloProgram}
use Rattle.jcl_meaning.specs.declared.solo.SoloAnswers.{SoloAnswers}
use Rattle.jcl_meaning.specs.declared.state.Place.{Place}
use Rattle.jcl_meaning.specs.Agendas.{agenda, budget_of}
use Rattle.jcl_meaning.specs.Names.{names_of}
use Rattle.jcl_meaning.specs.Parts.{SamePart}
use Rattle.jcl_meaning.specs.Solo.{Ran, answers_of, at_start, is_clean, nothing_own, solo_of}
use Rattle.jcl_meaning.specs.States.{Fixed}
use Rattle.jcl_meaning.specs.Stores.{Store}
use Rattle.jcl_meaning.specs.WellFormed.{AreWellFormedPrograms}
use Rattle.jcl_meaning.proofs.Budgets.{budget_is-length}
use Rattle.jcl_meaning.proofs.LineCounts.{run-clean, run-plain}
use Rattle.jcl_meaning.specs.LineCounts.{is_of_fault}
use Rattle.std.specs.List.{list_any}
use Rattle.std.proofs.lemmas.Bool.{or_parts}
use Rattle.std.proofs.lemmas.List.Folds.{list_any-append}
use Rattle.law_core.proofs.Acting.{one_each}
use Rattle.meaning_laws.proofs.Parts.{part_same}
use Rattle.part_laws.specs.Fits.{Fits}
use Rattle.part_laws.proofs.PlansFit.{start_fits}
use Rattle.world_meaning.specs.declared.event.Event.{Event}
use Rattle.world_meaning.specs.Admissions.{fixed_at}
use Rattle.world_meaning.specs.Headlines.{IsPrefix, IsPromised, KeepsMeaning, assured_lines, lines_of}
use Rattle.world_meaning.specs.Choices.{actions_along}
use Rattle.world_meaning.specs.Lenses.{WorldStore, seen}
use Rattle.world_meaning.specs.Readings.{Denoting}
use Rattle.world_meaning.specs.Transitions.{Runs, Transition}
use Rattle.world_meaning.specs.Worlds.{Config, World}
use Rattle.world_laws.specs.JobTurns.{Mean}
use Rattle.world_laws.proofs.Effects.{changes}
use Rattle.world_laws.proofs.TurnsRunning.{turns_run}
use Rattle.law_core.specs.Soundness.{IsDenoted, IsSound, plan_read}
use Rattle.law_core.proofs.Admitting.{IsAdmitted, admitted_at}
use Rattle.law_core.proofs.Following.{Turned, follow}
use Rattle.law_core.proofs.Reading.{plan_formed}
use Rattle.law_core.proofs.Sound.{sound_behind}
use Rattle.path_meaning.specs.Paths.{IsSafe}

-- a prefix is no longer than the whole
prefix_short : (lines whole : List JobLine) → IsPrefix lines whole → length lines ≤ length whole
prefix_short lines whole p = omega (arith, length-append lines p.behind, ap length p.joined)

-- where it meets no fault for any outcomes, it meets none for its programs
abbrev pub CleansPrograms : Type 0
CleansPrograms = (fixed : Fixed) (plan : JobPlan) (programs : List SoloProgram) (s : Store) (answers : SoloAnswers) → AreWellFormedPrograms programs →
    IsSafe fixed plan s → is_clean (solo_of fixed plan s programs answers) ≡ true

module _ (cleans : CleansPrograms) (job_of : Denoting) (w v : World) (e : Event) (job tracks stated : ℕ)
    (sound : IsSound w) (t : Transition job_of w e (assured_lines job tracks stated) v) where
  a : IsAdmitted w v job stated
  a = admitted_at tracks stated job_of w v job e t

  abbrev fixed : Fixed
  fixed = fixed_at w.config w.shared a.r.job a.plan a.places

  abbrev start : Store
  start = seen a.r.job w.shared.store

  denoted : IsDenoted w.config w.shared.records a.r.job a.plan
  denoted = sound.denoted a.place a.r a.plan a.run (ap plan_read a.stage)

  fits : Fits (names_of a.plan) fixed.meanings (agenda a.plan w.config.programs) nothing_own
  fits =
      start_fits a.plan w.config.programs start (plan_formed w.config.layout.most_steps _ a.plan denoted.denoted.in_range) (sound.groups a.r.job)

  sound_next : IsSound v
  sound_next = sound_behind job_of w v e _ sound t

  -- whatever follows
  module _ (end : World) (after : List Event) (told : List (List Entry)) (runs : Runs job_of v after told end) where
    abbrev written : List JobLine
    written = lines_of a.q.job told

    turned : Turned w.config.programs a.plan fixed start 0 nothing_own written
    turned =
        follow job_of v end after told w.config.programs a.place a.q a.plan (record { fixed = fixed; assured = true }) 0 nothing_own start
        (ap (λ (c : Config). c.programs) (changes job_of w v e _ t).config) sound_next a.goes_on a.admission refl
        (subst (λ (s : WorldStore). SamePart (names_of a.plan) start (seen a.q.job s)) (sym a.store)
        (subst (λ (n : ℕ). SamePart (names_of a.plan) start (seen n w.shared.store)) (sym a.same_job) (part_same (names_of a.plan) start))) runs

    mean : Mean w.config.programs a.plan fixed start turned.turns
    mean = turns_run w.config.programs a.plan fixed start turned.turns fits turned.are

    abbrev solo : Ran
    solo = solo_of fixed a.plan start w.config.programs mean.answers

    clean : is_clean solo ≡ true
    clean = cleans fixed a.plan w.config.programs start mean.answers sound.programs a.safe

    prefix : IsPrefix written solo.lines
    prefix = subst (λ (lines : List JobLine). IsPrefix lines solo.lines) (sym turned.told) mean.prefix

    plain : list_any is_of_fault written ≡ false
    plain =
        let whole : list_any is_of_fault solo.lines ≡ false =
        run-plain fixed (agenda a.plan w.config.programs) (at_start start (answers_of a.plan w.config.programs mean.answers)) clean in
        (or_parts (list_any is_of_fault written) (list_any is_of_fault prefix.behind)
        (sym (list_any-append is_of_fault written prefix.behind) ∙ (ap (list_any is_of_fault) prefix.joined ∙ whole))).0

    each : actions_along a.q.job job_of v after told end runs ≡ length written
    each = one_each job_of v end after told a.place a.q a.plan (record { fixed = fixed; assured = true }) 0 nothing_own sound_next a.goes_on a.admission refl runs plain

    few : length written ≤ budget_of a.plan w.config.programs
    few =
        let some : length written ≤ length solo.lines = prefix_short written solo.lines prefix in
        let most : length solo.lines ≤ length (agenda a.plan w.config.programs) =
        run-clean fixed (agenda a.plan w.config.programs) (at_start start (answers_of a.plan w.config.programs mean.answers)) clean in
        omega (arith, some, most, budget_is-length a.plan w.config.programs)

    kept : KeepsMeaning w a.r.job a.plan fixed written (actions_along a.q.job job_of v after told end runs)
    kept = record {
      answers = mean.answers;
      clean = clean;
      prefix = prefix;
      whole = λ h. turned.told ∙ mean.whole (turned.whole h);
      each = each;
      few = omega (arith, each, few);
    }

    -- of the job's own number
    keeps : KeepsMeaning w a.r.job a.plan fixed (lines_of a.r.job told) (actions_along a.r.job job_of v after told end runs)
    keeps = subst (λ (n : ℕ). KeepsMeaning w a.r.job a.plan fixed (lines_of n told) (actions_along n job_of v after told end runs)) a.same_job kept

  promised_so : IsPromised job_of w v a.r.job stated
  promised_so = record {
    plan = a.plan;
    numbers = denoted.numbers;
    denoted = denoted.denoted;
    places = a.places;
    placed = a.placed;
    recorded = record {
      place = a.place;
      it = a.goes_on.it;
      at = a.goes_on.at;
      running = a.q;
      runs = a.goes_on.running;
      its = a.same_job;
      stage = a.admission;
    };
    budget = a.budget;
    keeps = λ events told end runs. keeps end events told runs;
  }

  pub promised : IsPromised job_of w v job stated
  promised = subst (λ (n : ℕ). IsPromised job_of w v n stated) a.its_job promised_so
