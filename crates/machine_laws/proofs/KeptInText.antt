-- Each ASSURED line in the bytes of a session is kept.
use Rattle.std.proofs.Common.{◌≡◌, ◌≤◌, ◌+◌, ℕ, List, [], ◌∷◌, ◌++◌, All, append_assoc, length, length-append, map, take, arith, refl, sym, ap, subst, ◌∙◌}
use Rattle.std.specs.List.{Contains, flat_map}
use Rattle.std.proofs.lemmas.List.{append-nil, length-map}
use Rattle.jcl_plan.specs.declared.entry.Entry.{Entry}
use Rattle.jcl_plan.specs.declared.entry.Entry.TheVariants as entry
use Rattle.jcl_plan.specs.declared.entry.JobLine.{JobLine}
use Rattle.jcl_plan.specs.declared.entry.JobLine.TheVariants as line
use Rattle.jcl_plan.specs.Lines.{entry_text, job_line_text, text_of}
use Rattle.jcl_job.specs.Jobs.{job_of}
use Rattle.jcl_meaning.specs.Solo.{Ran, answers_of, at_start}
use Rattle.machine_meaning.specs.declared.machine.TheConstants.{MOST_JOBS}
use Rattle.world_meaning.specs.Admissions.{fixed_at}
use Rattle.world_meaning.specs.Choices.{actions_along}
use Rattle.world_meaning.specs.Headlines.{IsPromised, KeepsMeaning, assured_lines, lines_of, solo_in}
use Rattle.world_meaning.specs.Lenses.{seen}
use Rattle.world_meaning.specs.Readings.{Denoting}
use Rattle.world_meaning.specs.Transitions.{Runs}
use Rattle.world_meaning.specs.Worlds.{World}
use Rattle.law_core.proofs.AssuredAlone.{assured_alone}
use Rattle.line_laws.specs.LineLaws.{AreAlone, LinesAreTexts, LinesOfJobs, SaysAssured, StandsIn}
use Rattle.line_laws.specs.Lines.{lines_of_job}
use Rattle.line_laws.specs.Printable.{IsPrintableEntry}
use Rattle.line_laws.proofs.Printables.{no_feed}
use Rattle.run_options.specs.declared.Options.{Options}
use Rattle.session_text.specs.declared.statement.Statement.{Statement}
use Rattle.sched_core.specs.Promised.{ChainsAreRuns}
use Rattle.sched_core.specs.Systems.{Steps, denoting, meant_by, world_of}
use Rattle.session_core.specs.Listings.{Lists}
use Rattle.session_core.specs.Sessions.{session_of}
use Rattle.machine_laws.specs.Kept.{AssuredLinesAreKept, IsKeptInText}
use Rattle.machine_laws.proofs.Ends.{end_is_last}
use Rattle.machine_laws.proofs.Keeping.{IsHeardIn, heard_in, take_front}
use Rattle.machine_laws.proofs.Found.{FindingLaws, IsFound, before_found, behind_printable, contains_behind, found, found_printable, none_after, none_before}
use Rattle.machine_laws.proofs.Splitting.{SplitsAt, flat}

module _ (texts : LinesAreTexts) (of_jobs : LinesOfJobs) (alone : AreAlone) (chains : ChainsAreRuns) (o : Options) (stands : List Statement)
    (front behind : List ℕ) (job tracks stated : ℕ) (few : job ≤ MOST_JOBS)
    (f : IsFound o stands front (job_line_text job (line.Assured tracks stated)) behind) where
  abbrev l : Lists o stands f.events f.listing
  l = f.lists

  abbrev at : StandsIn (flat l.entries) front (job_line_text job (line.Assured tracks stated)) (behind ++ f.rest)
  at = f.at

  abbrev split : SplitsAt l.first l.last l.entries at.before at.its at.after
  split = f.split

  says : SaysAssured job tracks stated at.its
  says =
      alone.assured job tracks stated at.its few
      (found_printable o stands front (job_line_text job (line.Assured tracks stated)) behind f) (sym at.text_so)

  -- the numbers of the machine
  abbrev t : ℕ
  t = says.its_tracks

  abbrev b : ℕ
  b = says.its_actions

  abbrev told_there : List Entry
  told_there = split.front ++ at.its ∷ split.behind

  there : Contains told_there (entry.Job job (line.Assured t b))
  there = subst (Contains told_there) says.is (contains_behind split.front split.behind at.its)

  single : told_there ≡ assured_lines job t b
  single =
      assured_alone (denoting split.old) (world_of split.old) (world_of split.next) (meant_by split.event) told_there job t b split.step.0 there

  nothing_before : split.front ≡ []
  nothing_before = none_before split.front split.behind at.its (entry.Job job (line.Assured t b)) single

  nothing_after : split.behind ≡ []
  nothing_after = none_after split.front split.behind at.its (entry.Job job (line.Assured t b)) single

  abbrev w : World
  w = world_of split.old

  promised : IsPromised (denoting split.old) w (world_of split.next) job b
  promised = split.promised job t b there

  runs : Runs (denoting split.old) (world_of split.next) (map meant_by split.further) split.more (world_of l.last)
  runs =
      subst (λ (d : Denoting). Runs d (world_of split.next) (map meant_by split.further) split.more (world_of l.last))
      (λ i. job_of (split.is_next.fixed.unit_names i) (split.is_next.fixed.library i))
      (chains split.next split.further split.more l.last split.goes_on)

  keeps : KeepsMeaning w job promised.plan (fixed_at w.config w.shared job promised.plan promised.places) (lines_of job split.more)
      (actions_along job (denoting split.old) (world_of split.next) (map meant_by split.further) split.more (world_of l.last) runs)
  keeps = promised.keeps (map meant_by split.further) split.more (world_of l.last) runs

  abbrev solo : Ran
  solo = solo_in w job promised.plan (fixed_at w.config w.shared job promised.plan promised.places) keeps.answers

  after_is : at.after ≡ flat split.more
  after_is = split.after_so ∙ ap (λ (b : List Entry). b ++ flat split.more) nothing_after

  heard : IsHeardIn job (flat split.more) behind
  heard =
      heard_in texts of_jobs alone job few (flat split.more)
      (subst (All IsPrintableEntry) after_is (behind_printable o stands front (job_line_text job (line.Assured tracks stated)) behind f)) behind f.rest
      (sym (ap (flat_map text_of) after_is) ∙ sym at.behind_so)

  -- the solo meaning begins with what is heard
  solo_is : heard.heard ++ (heard.unheard ++ keeps.prefix.behind) ≡ solo.lines
  solo_is =
      sym (append_assoc heard.heard heard.unheard keeps.prefix.behind)
      ∙ ap (λ (ls : List JobLine). ls ++ keeps.prefix.behind) (sym heard.front) ∙ keeps.prefix.joined

  pub kept_in_listing : IsKeptInText o stands job front (job_line_text job (line.Assured tracks stated)) behind
  kept_in_listing = record {
    old = split.old;
    before = before_found o stands front (job_line_text job (line.Assured tracks stated)) behind f nothing_before;
    tracks = t;
    stated = b;
    text_so = at.text_so ∙ ap entry_text says.is;
    event = split.event;
    next = split.next;
    step = subst (λ (ls : List Entry). Steps split.old split.event ls (world_of split.next)) single split.step;
    promised = promised;
    answers = keeps.answers;
    solo = solo;
    its_solo = refl;
    clean = keeps.clean;
    count = length heard.heard;
    lines = heard.texts
        ∙ ap (map (job_line_text job)) (sym (take_front heard.heard (heard.unheard ++ keeps.prefix.behind)) ∙ ap (take (length heard.heard)) solo_is);
    whole = λ ended.
        let none : heard.unheard ++ keeps.prefix.behind ≡ [] =
        end_is_last _ promised.plan w.config.programs (at_start (seen job w.shared.store) (answers_of promised.plan w.config.programs keeps.answers))
        heard.heard (heard.unheard ++ keeps.prefix.behind) solo_is (heard.ends ended) in
        heard.texts
        ∙ ap (map (job_line_text job)) (sym (append-nil heard.heard) ∙ ap (λ (ls : List JobLine). heard.heard ++ ls) (sym none) ∙ solo_is);
    few =
        let count : length (lines_of_job job behind) ≡ length heard.heard = ap length heard.texts ∙ length-map heard.heard (job_line_text job) in
        let all : length (lines_of job split.more) ≡ length (heard.heard ++ heard.unheard) = ap length heard.front in
        omega (arith, count, all, length-append heard.heard heard.unheard, keeps.each, keeps.few, promised.budget);
  }

pub assured_kept : FindingLaws → LinesAreTexts → LinesOfJobs → AreAlone → ChainsAreRuns → AssuredLinesAreKept
assured_kept finding texts of_jobs alone chains o ending text result written front behind job tracks stated few outcome starts is =
    kept_in_listing texts of_jobs alone chains o (session_of ending text).stands front behind job tracks stated few
    (found finding o ending text front (job_line_text job (line.Assured tracks stated)) behind
    (no_feed (entry.Job job (line.Assured tracks stated)) (few, tt)) starts result written outcome is)
