-- Lines of the listing whose names and texts are of printable characters. (This profile)
use Rattle.std.specs.Prelude.{ℕ, ◌≤◌, List, [], ◌∷◌, Option, IfSome, All}
use Rattle.jcl_plan.specs.declared.entry.Entry.{Entry}
use Rattle.jcl_plan.specs.declared.entry.Entry.TheVariants as entry
use Rattle.jcl_plan.specs.declared.entry.JobLine.{JobLine}
use Rattle.jcl_plan.specs.declared.entry.JobLine.TheVariants as line
use Rattle.jcl_plan.specs.declared.entry.Written.{Written}
use Rattle.jcl_plan.specs.declared.entry.Written.TheVariants as written
use Rattle.jcl_plan.specs.declared.words.TakeWord.{TakeWord}
use Rattle.jcl_plan.specs.declared.words.TakeWord.TheVariants as take
use Rattle.machine_meaning.specs.declared.machine.TheConstants.{MOST_JOBS}

-- from the blank to the tilde
abbrev pub IsPrintable : List ℕ → Type 0
IsPrintable text = All (λ c. (32 ≤ c) × (c ≤ 126)) text

abbrev pub IsPrintableName : Option (List ℕ) → Type 0
IsPrintableName name = IfSome name IsPrintable

abbrev pub IsPrintableTake : TakeWord → Type 0
IsPrintableTake (take.Made serial) = IsPrintable serial
IsPrintableTake (take.Found serial) = IsPrintable serial
IsPrintableTake (take.Received serial) = IsPrintable serial
IsPrintableTake (take.Sysout class) = IsPrintable (class ∷ [])
IsPrintableTake take.Dummy = Unit {0}
IsPrintableTake (take.Cards n) = Unit {0}

-- what of a job's line is taken over from names, serials and records
abbrev pub IsPrintableLine : JobLine → Type 0
IsPrintableLine (line.Read name class priority) = IsPrintable name × IsPrintable (class ∷ [])
IsPrintableLine (line.Rejected cause) = Unit {0}
IsPrintableLine (line.Selected initiator) = Unit {0}
IsPrintableLine (line.Broken n) = Unit {0}
IsPrintableLine (line.Names n) = Unit {0}
IsPrintableLine (line.WaitNames holder name) = IsPrintable name
IsPrintableLine (line.WaitSpace serial) = IsPrintable serial
IsPrintableLine (line.Assured tracks actions) = Unit {0}
IsPrintableLine (line.Risk fault step dd path) = Unit {0}
IsPrintableLine (line.TooMany step) = Unit {0}
IsPrintableLine line.Refused = Unit {0}
IsPrintableLine line.Cancelled = Unit {0}
IsPrintableLine (line.Step step name procedure_step fate) = IsPrintableName name × IsPrintableName procedure_step
IsPrintableLine (line.Take dd name word) = IsPrintableName name × IsPrintableTake word
IsPrintableLine (line.Fault fault step dd) = Unit {0}
IsPrintableLine (line.Back dd name word) = IsPrintableName name
IsPrintableLine (line.GetStart name serial) = IsPrintable name × IsPrintable serial
IsPrintableLine (line.GetData name text) = IsPrintable name × IsPrintable text
IsPrintableLine (line.GetEnd name) = IsPrintable name
IsPrintableLine (line.PutStart name serial grown) = IsPrintable name × IsPrintable serial
IsPrintableLine (line.PutDone name) = IsPrintable name
IsPrintableLine (line.Code code) = Unit {0}
IsPrintableLine (line.Abend abend) = Unit {0}
IsPrintableLine (line.Disp dd name word) = IsPrintableName name
IsPrintableLine (line.Left step dd name word) = IsPrintableName name
IsPrintableLine line.End = Unit {0}

abbrev pub IsPrintableWritten : Written → Type 0
IsPrintableWritten (written.Line l) = IsPrintableLine l
IsPrintableWritten (written.Record text) = IsPrintable text

-- a line of the listing; a job's number has four digits
abbrev pub IsPrintableEntry : Entry → Type 0
IsPrintableEntry (entry.Job job l) = (job ≤ MOST_JOBS) × IsPrintableLine l
IsPrintableEntry (entry.Path job l) = IsPrintableLine l
IsPrintableEntry (entry.Cancel job) = Unit {0}
IsPrintableEntry (entry.Writer class job w) = IsPrintable (class ∷ []) × IsPrintableWritten w
IsPrintableEntry (entry.Refused cause) = Unit {0}
IsPrintableEntry (entry.Volume serial free kept) = IsPrintable serial
IsPrintableEntry (entry.Queue queued running records) = Unit {0}
IsPrintableEntry (entry.Date year day) = Unit {0}
