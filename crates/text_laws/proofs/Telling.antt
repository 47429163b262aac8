-- Lines of the listing that are of printable lines of a job.
use Rattle.std.proofs.Common.{◌++◌, ◌∷◌, ◌≡◌, ◌≤◌, All, List, [], ℕ}
use Rattle.std.specs.Prelude.{map}
use Rattle.std.proofs.lemmas.List.Elements.{All-append, All-cons, All-head, All-map, All-nil, All-same, All-tail, All-weaker}
use Rattle.jcl_plan.specs.declared.entry.JobLine.{JobLine}
use Rattle.jcl_plan.specs.declared.entry.Entry.{Entry}
use Rattle.jcl_plan.specs.declared.entry.Entry.TheVariants as entry
use Rattle.machine_meaning.specs.declared.machine.TheConstants.{MOST_JOBS}
use Rattle.world_meaning.specs.Transitions.{told_with}
use Rattle.world_meaning.specs.Worlds.{of_job}
use Rattle.line_laws.specs.Printable.{IsPrintableEntry, IsPrintableLine}
use Rattle.text_laws.proofs.Elements.{of_one}

-- lines of a job, and those of a path
job_lines_printable : (job : ℕ) (lines : List JobLine) → job ≤ MOST_JOBS → All IsPrintableLine lines → All IsPrintableEntry (of_job job lines)
job_lines_printable job lines few all =
    All-map IsPrintableEntry (entry.Job job) lines
    (All-weaker IsPrintableLine (λ (l : JobLine). (job ≤ MOST_JOBS) × IsPrintableLine l) (λ l h. (few, h)) lines all)

pub told_printable : (job : ℕ) (lines path : List JobLine) → job ≤ MOST_JOBS → All IsPrintableLine lines → All IsPrintableLine path →
    All IsPrintableEntry (told_with job lines path)
told_printable job lines [] few all behind = job_lines_printable job lines few all
told_printable job [] (p ∷ path) few all behind = All-map IsPrintableEntry (entry.Path job) (p ∷ path) behind
told_printable job (l ∷ lines) (p ∷ path) few all behind =
    All-cons IsPrintableEntry (entry.Job job l) (map (entry.Path job) (p ∷ path) ++ of_job job lines) (few, All-head IsPrintableLine l lines all)
    (All-append IsPrintableEntry (map (entry.Path job) (p ∷ path)) (of_job job lines) (All-map IsPrintableEntry (entry.Path job) (p ∷ path) behind)
    (job_lines_printable job lines few (All-tail IsPrintableLine l lines all)))

-- one line, or none
pub one_told : (lines : List Entry) (e : Entry) → lines ≡ e ∷ [] → IsPrintableEntry e → All IsPrintableEntry lines
one_told lines e is h = All-same IsPrintableEntry lines (e ∷ []) is (of_one IsPrintableEntry e h)

pub none_told : (lines : List Entry) → lines ≡ [] → All IsPrintableEntry lines
none_told lines is = All-same IsPrintableEntry lines [] is (All-nil IsPrintableEntry)
