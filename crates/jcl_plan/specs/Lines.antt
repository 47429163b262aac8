-- The text of each line of the listing.
use Rattle.std.specs.Prelude.{ℕ, List, [], ◌∷◌, ◌++◌, codes, decimal, Option, Some, None}
use Rattle.jcl_plan.specs.declared.entry.JobLine.{JobLine}
use Rattle.jcl_plan.specs.declared.entry.JobLine.TheVariants as line
use Rattle.jcl_plan.specs.declared.entry.Written.{Written}
use Rattle.jcl_plan.specs.declared.entry.Written.TheVariants as written
use Rattle.jcl_plan.specs.declared.entry.Entry.{Entry}
use Rattle.jcl_plan.specs.declared.entry.Entry.TheVariants as entry
use Rattle.jcl_plan.specs.Texts.{digits, trimmed, behind_blank, shown, step_shown, fate_text, fault_text, cause_text, abend_text, path_text, take_text, disp_text, back_text}

-- the tracks of secondary space
abbrev pub grown_text : Option ℕ → List ℕ
grown_text None = []
grown_text (Some tracks) = codes " GROWN " ++ decimal tracks

-- a job's line, behind its number
abbrev pub line_text : JobLine → List ℕ
line_text (line.Read name class priority) = codes "READ " ++ name ++ codes " CLASS " ++ class ∷ [] ++ codes " PRTY " ++ digits 2 priority
line_text (line.Rejected cause) = codes "REJECTED " ++ cause_text cause
line_text (line.Selected initiator) = codes "SELECTED " ++ decimal initiator
line_text (line.Broken n) = codes "BROKEN B" ++ decimal n
line_text (line.Names n) = codes "NAMES " ++ decimal n
line_text (line.WaitNames holder name) = codes "WAIT NAMES " ++ digits 4 holder ++ codes " " ++ name
line_text (line.WaitSpace serial) = codes "WAIT SPACE " ++ serial
line_text (line.Assured tracks actions) = codes "ASSURED " ++ decimal tracks ++ codes " TRACKS " ++ decimal actions ++ codes " ACTIONS"
line_text (line.Risk fault step dd path) = codes "RISK " ++ fault_text fault ++ codes " STEP " ++ decimal step ++ codes " DD " ++ decimal dd ++ codes " PATH " ++ path_text path
line_text (line.TooMany step) = codes "TOOMANY STEP " ++ decimal step
line_text line.Refused = codes "REFUSED"
line_text line.Cancelled = codes "CANCELLED"
line_text (line.Step step name procedure_step fate) = codes "STEP " ++ decimal step ++ codes " " ++ step_shown name procedure_step ++ codes " " ++ fate_text fate
line_text (line.Take dd name word) = codes "TAKE " ++ decimal dd ++ codes " " ++ shown name ++ codes " " ++ take_text word
line_text (line.Fault fault step dd) = codes "FAULT " ++ fault_text fault ++ codes " STEP " ++ decimal step ++ codes " DD " ++ decimal dd
line_text (line.Back dd name word) = codes "BACK " ++ decimal dd ++ codes " " ++ shown name ++ codes " " ++ back_text word
line_text (line.GetStart name serial) = codes "GET " ++ name ++ codes " START " ++ serial
line_text (line.GetData name text) = codes "GET " ++ name ++ codes " DATA" ++ behind_blank (trimmed text)
line_text (line.GetEnd name) = codes "GET " ++ name ++ codes " END"
line_text (line.PutStart name serial grown) = codes "PUT " ++ name ++ codes " START " ++ serial ++ grown_text grown
line_text (line.PutDone name) = codes "PUT " ++ name ++ codes " DONE"
line_text (line.Code code) = codes "CODE " ++ digits 4 code
line_text (line.Abend abend) = codes "ABEND " ++ abend_text abend
line_text (line.Disp dd name word) = codes "DISP " ++ decimal dd ++ codes " " ++ shown name ++ codes " " ++ disp_text word
line_text (line.Left step dd name word) = codes "LEFT " ++ decimal step ++ codes "." ++ decimal dd ++ codes " " ++ shown name ++ codes " " ++ disp_text word
line_text line.End = codes "END"

abbrev pub job_line_text : ℕ → JobLine → List ℕ
job_line_text job l = digits 4 job ++ codes " " ++ line_text l

-- a listing line stands with its number, a record without the blanks at its end
abbrev pub written_text : ℕ → Written → List ℕ
written_text job (written.Line l) = codes " " ++ job_line_text job l
written_text job (written.Record text) = behind_blank (trimmed text)

abbrev pub entry_text : Entry → List ℕ
entry_text (entry.Job job l) = job_line_text job l
entry_text (entry.Path job l) = codes "-- PATH " ++ job_line_text job l
entry_text (entry.Cancel job) = codes "-- CANCEL " ++ digits 4 job
entry_text (entry.Writer class job w) = codes "-- WRITER " ++ class ∷ [] ++ codes " " ++ digits 4 job ++ written_text job w
entry_text (entry.Refused cause) = codes "-- REFUSED " ++ cause_text cause
entry_text (entry.Volume serial free kept) = codes "-- " ++ serial ++ codes " FREE " ++ decimal free ++ codes " KEPT " ++ decimal kept
entry_text (entry.Queue queued running records) =
    codes "-- QUEUED " ++ decimal queued ++ codes " RUNNING " ++ decimal running ++ codes " RECORDS " ++ decimal records
entry_text (entry.Date year day) = codes "-- DATE " ++ digits 4 year ++ codes "/" ++ digits 3 day

-- with the line feed that ends it
abbrev pub text_of : Entry → List ℕ
text_of e = entry_text e ++ codes "\n"
