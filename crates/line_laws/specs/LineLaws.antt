-- What a listing's text tells of its lines, where these are printable. (This profile)
use Rattle.std.specs.Prelude.{◌≡◌, ◌≢◌, ℕ, ◌≤◌, List, ◌∷◌, ◌++◌, filter, map, take, codes, decimal, All}
use Rattle.std.specs.List.{filter_map, flat_map}
use Rattle.jcl_plan.specs.declared.entry.Entry.{Entry}
use Rattle.jcl_plan.specs.declared.entry.Entry.TheVariants as entry
use Rattle.jcl_plan.specs.declared.entry.JobLine.TheVariants as line
use Rattle.jcl_plan.specs.declared.outcome.Abend.TheVariants.{S222, SB37}
use Rattle.jcl_plan.specs.Lines.{entry_text, job_line_text, text_of}
use Rattle.machine_meaning.specs.declared.machine.TheConstants.{MOST_JOBS}
use Rattle.world_meaning.specs.Headlines.{line_of}
use Rattle.line_laws.specs.Lines.{IsLineStart, is_of_job, whole_lines}
use Rattle.line_laws.specs.Printable.{IsPrintableEntry}

-- The whole lines of a front of a listing's text are the texts of the first of its lines, so many.
abbrev pub LinesAreTexts : Type 0
LinesAreTexts = (entries : List Entry) (written behind : List ℕ) → All IsPrintableEntry entries → flat_map text_of entries ≡ written ++ behind →
    (count : ℕ) × (whole_lines written ≡ map entry_text (take count entries))

-- where it is the whole text they are all of them
abbrev pub WholeTextIsLines : Type 0
WholeTextIsLines = (entries : List Entry) → All IsPrintableEntry entries → whole_lines (flat_map text_of entries) ≡ map entry_text entries

-- The lines that begin with a job's number are those of the job.
abbrev pub LinesOfJobs : Type 0
LinesOfJobs = (job : ℕ) (entries : List Entry) → job ≤ MOST_JOBS → All IsPrintableEntry entries →
    filter (is_of_job job) (map entry_text entries) ≡ map (job_line_text job) (filter_map (line_of job) entries)

-- a line of a job that is ASSURED, whose numbers are written as these
pub record SaysAssured (job tracks actions : ℕ) (e : Entry) : Type 0 where
  pub its_tracks : ℕ
  pub its_actions : ℕ
  pub is : e ≡ entry.Job job (line.Assured its_tracks its_actions)
  pub tracks_so : decimal its_tracks ≡ decimal tracks
  pub actions_so : decimal its_actions ≡ decimal actions

-- ASSURED's text is ASSURED's alone; and so are those of END, of two ABENDs, and of CANCEL.
pub record AreAlone : Type 0 where
  pub assured : (job tracks actions : ℕ) (e : Entry) → job ≤ MOST_JOBS → IsPrintableEntry e → entry_text e ≡ job_line_text job (line.Assured tracks actions) →
      SaysAssured job tracks actions e
  pub end : (job : ℕ) (e : Entry) → job ≤ MOST_JOBS → IsPrintableEntry e → entry_text e ≡ job_line_text job line.End → e ≡ entry.Job job line.End
  pub s222 : (job : ℕ) (e : Entry) → job ≤ MOST_JOBS → IsPrintableEntry e → entry_text e ≡ job_line_text job (line.Abend S222) →
      e ≡ entry.Job job (line.Abend S222)
  pub sb37 : (job : ℕ) (e : Entry) → job ≤ MOST_JOBS → IsPrintableEntry e → entry_text e ≡ job_line_text job (line.Abend SB37) →
      e ≡ entry.Job job (line.Abend SB37)
  pub cancel : (job : ℕ) (e : Entry) → job ≤ MOST_JOBS → IsPrintableEntry e → entry_text e ≡ entry_text (entry.Cancel job) → e ≡ entry.Cancel job

-- what stands before a line of a text, the line, and what stands behind it, in a listing
pub record StandsIn (entries : List Entry) (front text behind : List ℕ) : Type 0 where
  pub before : List Entry
  pub its : Entry
  pub after : List Entry
  pub stands : entries ≡ before ++ its ∷ after
  pub front_so : front ≡ flat_map text_of before
  pub text_so : text ≡ entry_text its
  pub behind_so : behind ≡ flat_map text_of after

-- Each line of a listing's text is the text of one of its lines.
abbrev pub LinesStand : Type 0
LinesStand = (entries : List Entry) (front text behind : List ℕ) → All IsPrintableEntry entries → All (λ c. c ≢ 10) text → IsLineStart front →
    flat_map text_of entries ≡ front ++ (text ++ (codes "\n" ++ behind)) → StandsIn entries front text behind
