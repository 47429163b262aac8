-- S222 and SB37 in the bytes that a session writes.
use Rattle.std.proofs.Common.{◌≡◌, ◌<◌, ◌≤◌, ℕ, List, [], ◌∷◌, ◌++◌, length, map, arith, sym, ap, subst, ◌∙◌}
use Rattle.std.specs.Prelude.{filter}
use Rattle.std.specs.List.{Contains}
use Rattle.std.specs.Str.{bytes_eq}
use Rattle.jcl_plan.specs.declared.entry.Entry.{Entry}
use Rattle.jcl_plan.specs.declared.entry.Entry.TheVariants as entry
use Rattle.jcl_plan.specs.declared.entry.JobLine.TheVariants as line
use Rattle.jcl_plan.specs.declared.outcome.Abend.TheVariants.{S222, SB37}
use Rattle.jcl_plan.specs.Lines.{entry_text, job_line_text}
use Rattle.machine_meaning.specs.declared.machine.TheConstants.{MOST_JOBS}
use Rattle.world_meaning.specs.Starts.{IsStart}
use Rattle.world_meaning.specs.Worlds.{of_job}
use Rattle.cancel_laws.specs.Cancels.{CancelsComeFirst, is_cancel_of, is_s222_of}
use Rattle.line_laws.specs.LineLaws.{AreAlone, WholeTextIsLines}
use Rattle.line_laws.specs.Lines.{whole_lines}
use Rattle.line_laws.proofs.Printables.{no_feed}
use Rattle.session_text.specs.declared.statement.Statement.{Statement}
use Rattle.run_options.specs.declared.Options.{Options}
use Rattle.sched_core.specs.Promised.{ChainsAreRuns}
use Rattle.sched_core.specs.Systems.{denoting, meant_by, world_of}
use Rattle.session_core.specs.Listings.{Lists}
use Rattle.session_core.specs.Sessions.{session_of}
use Rattle.machine_laws.specs.Deciding.{ActionsAreTold, IsRefusedGrowth, RefusedGrowthIsTold}
use Rattle.machine_laws.specs.Told.{IsRefusedInText, WrittenCancelsComeFirst, WrittenGrowthIsRefused, count_lines}
use Rattle.machine_laws.proofs.CountedTexts.{cancel_told, no_more_counted, no_more_told, s222s_counted}
use Rattle.machine_laws.proofs.Found.{FindingLaws, IsFound, before_found, contains_behind, found, found_printable, front_printable, none_before}
use Rattle.machine_laws.proofs.Splitting.{SplitsAt}

-- the lines of the front are those that stand before
module _ (whole : WholeTextIsLines) (o : Options) (stands : List Statement) (front its_text behind : List ℕ) (f : IsFound o stands front its_text behind) where
  front_lines : whole_lines front ≡ map entry_text f.at.before
  front_lines = ap whole_lines f.at.front_so ∙ whole f.at.before (front_printable o stands front its_text behind f)

  front_count : (its : List ℕ) → count_lines its front ≡ length (filter (bytes_eq its) (map entry_text f.at.before))
  front_count its = ap (λ lines. length (filter (bytes_eq its) lines)) front_lines

module _ (alone : AreAlone) (whole : WholeTextIsLines) (first : CancelsComeFirst) (chains : ChainsAreRuns) (o : Options) (stands : List Statement)
    (front behind : List ℕ) (job : ℕ) (few : job ≤ MOST_JOBS) (f : IsFound o stands front (job_line_text job (line.Abend S222)) behind) where
  abbrev l : Lists o stands f.events f.listing
  l = f.lists

  abbrev before : List Entry
  before = f.at.before

  abbrev s222_text : List ℕ
  s222_text = job_line_text job (line.Abend S222)

  s222_is : f.at.its ≡ entry.Job job (line.Abend S222)
  s222_is = alone.s222 job f.at.its few (found_printable o stands front s222_text behind f) (sym f.at.text_so)

  start : IsStart (world_of l.first)
  start = subst IsStart (sym l.started.world) l.started.is_start

  fewer : length (filter (is_s222_of job) before) < length (filter (is_cancel_of job) before)
  fewer =
      first (denoting l.first) (world_of l.first) (world_of l.last) (map meant_by f.events) l.entries job before f.at.after start
      (chains l.first f.events l.entries l.last l.drives) (f.at.stands ∙ ap (λ (e : Entry). before ++ e ∷ f.at.after) s222_is)

  s222s_few : count_lines s222_text front ≤ length (filter (is_s222_of job) before)
  s222s_few =
      let few_told = no_more_told s222_text (is_s222_of job) before
      (s222s_counted alone job few before (front_printable o stands front s222_text behind f)) in
      omega (arith, few_told, front_count whole o stands front s222_text behind f s222_text)

  cancels_all : length (filter (is_cancel_of job) before) ≤ count_lines (entry_text (entry.Cancel job)) front
  cancels_all =
      let all_told = no_more_counted (entry_text (entry.Cancel job)) (is_cancel_of job) (cancel_told job) before in
      omega (arith, all_told, front_count whole o stands front s222_text behind f (entry_text (entry.Cancel job)))

  pub cancels_before : count_lines s222_text front < count_lines (entry_text (entry.Cancel job)) front
  cancels_before = omega (arith, s222s_few, fewer, cancels_all)

pub written_cancels_come_first : FindingLaws → AreAlone → WholeTextIsLines → CancelsComeFirst → ChainsAreRuns → WrittenCancelsComeFirst
written_cancels_come_first finding alone whole first chains o ending text result written front behind job few outcome starts is =
    cancels_before alone whole first chains o (session_of ending text).stands front behind job few
    (found finding o ending text front (job_line_text job (line.Abend S222)) behind
    (no_feed (entry.Job job (line.Abend S222)) (few, tt)) starts result written outcome is)

module _ (alone : AreAlone) (told : ActionsAreTold) (refused : RefusedGrowthIsTold) (o : Options) (stands : List Statement)
    (front behind : List ℕ) (job : ℕ) (few : job ≤ MOST_JOBS) (f : IsFound o stands front (job_line_text job (line.Abend SB37)) behind) where
  abbrev split : SplitsAt f.lists.first f.lists.last f.lists.entries f.at.before f.at.its f.at.after
  split = f.split

  abbrev told_there : List Entry
  told_there = split.front ++ f.at.its ∷ split.behind

  sb37_is : f.at.its ≡ entry.Job job (line.Abend SB37)
  sb37_is = alone.sb37 job f.at.its few (found_printable o stands front (job_line_text job (line.Abend SB37)) behind f) (sym f.at.text_so)

  growth : IsRefusedGrowth split.old split.event told_there (world_of split.next) split.step job
  growth =
      refused split.old split.event told_there (world_of split.next) split.step job
      (subst (Contains told_there) sb37_is (contains_behind split.front split.behind f.at.its))

  single : told_there ≡ entry.Job job (line.Abend SB37) ∷ []
  single =
      told split.old split.event told_there (world_of split.next) split.step job growth.cancel growth.admission growth.x growth.action
      ∙ ap (of_job job) growth.told

  pub refused_there : IsRefusedInText o stands job front
  refused_there = record {
    old = split.old;
    before = before_found o stands front (job_line_text job (line.Abend SB37)) behind f
        (none_before split.front split.behind f.at.its (entry.Job job (line.Abend SB37)) single);
    event = split.event;
    next = split.next;
    lines = told_there;
    step = split.step;
    only = single;
    growth = growth;
  }

pub written_growth_is_refused : FindingLaws → AreAlone → ActionsAreTold → RefusedGrowthIsTold → WrittenGrowthIsRefused
written_growth_is_refused finding alone told refused o ending text result written front behind job few outcome starts is =
    refused_there alone told refused o (session_of ending text).stands front behind job few
    (found finding o ending text front (job_line_text job (line.Abend SB37)) behind
    (no_feed (entry.Job job (line.Abend SB37)) (few, tt)) starts result written outcome is)
