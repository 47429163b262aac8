-- The text of a printable line of the listing is printable.
use Rattle.std.proofs.Common.{List, [], ◌∷◌, ◌++◌, ℕ, codes, decimal, refl, arith, ◌≢◌}
use Rattle.std.proofs.lemmas.List.Elements.{All-weaker}
use Rattle.jcl_plan.specs.declared.entry.Entry.{Entry}
use Rattle.jcl_plan.specs.declared.entry.Entry.TheVariants as entry
use Rattle.jcl_plan.specs.declared.entry.JobLine.{JobLine}
use Rattle.jcl_plan.specs.declared.entry.JobLine.TheVariants as line
use Rattle.jcl_plan.specs.declared.entry.Written.{Written}
use Rattle.jcl_plan.specs.declared.entry.Written.TheVariants as written
use Rattle.jcl_plan.specs.Lines.{entry_text, job_line_text, line_text, written_text}
use Rattle.jcl_plan.specs.declared.fault.Fault.{Fault}
use Rattle.jcl_plan.specs.Texts.{fault_text}
use Rattle.line_laws.specs.Printable.{IsPrintable, IsPrintableEntry, IsPrintableLine, IsPrintableWritten}
use Rattle.line_laws.proofs.Bytes.{IsByte, Printable, join, name_shown, names_shown, number, numbered, shortened, word}
use Rattle.line_laws.proofs.Cuts.{IsWithout}
use Rattle.line_laws.proofs.Words.{abend_is, back_is, cause_is, disp_is, fate_is, fault_is, grown_is, path_is, take_is}

own : {text : List ℕ} → IsPrintable text → Printable text
own h = record { so = h }

blank : Printable (codes " ")
blank = word (codes " ") refl

-- a word, a DD's number, its name and another word
of_dd : {front behind name : List ℕ} (dd : ℕ) → Printable front → Printable name → Printable behind →
    Printable (front ++ decimal dd ++ codes " " ++ name ++ codes " " ++ behind)
of_dd dd front name behind = join (join (join (join (join front (number dd)) blank) name) blank) behind

-- a fault in a step, at a DD
of_fault : {front : List ℕ} (fault : Fault) (step dd : ℕ) → Printable front →
    Printable (front ++ fault_text fault ++ codes " STEP " ++ decimal step ++ codes " DD " ++ decimal dd)
of_fault fault step dd front =
    join (join (join (join (join front (fault_is fault)) (word (codes " STEP ") refl)) (number step)) (word (codes " DD ") refl)) (number dd)

pub line_is : (l : JobLine) → IsPrintableLine l → Printable (line_text l)
line_is (line.Read name class priority) h =
    join (join (join (join (join (word (codes "READ ") refl) (own h.0)) (word (codes " CLASS ") refl)) (own h.1)) (word (codes " PRTY ") refl))
    (numbered 2 priority)
line_is (line.Rejected cause) h = join (word (codes "REJECTED ") refl) (cause_is cause)
line_is (line.Selected initiator) h = join (word (codes "SELECTED ") refl) (number initiator)
line_is (line.Broken n) h = join (word (codes "BROKEN B") refl) (number n)
line_is (line.Names n) h = join (word (codes "NAMES ") refl) (number n)
line_is (line.WaitNames holder name) h = join (join (join (word (codes "WAIT NAMES ") refl) (numbered 4 holder)) blank) (own h)
line_is (line.WaitSpace serial) h = join (word (codes "WAIT SPACE ") refl) (own h)
line_is (line.Assured tracks actions) h =
    join (join (join (join (word (codes "ASSURED ") refl) (number tracks)) (word (codes " TRACKS ") refl)) (number actions)) (word (codes " ACTIONS") refl)
line_is (line.Risk fault step dd path) h = join (join (of_fault fault step dd (word (codes "RISK ") refl)) (word (codes " PATH ") refl)) (path_is path)
line_is (line.TooMany step) h = join (word (codes "TOOMANY STEP ") refl) (number step)
line_is line.Refused h = word (codes "REFUSED") refl
line_is line.Cancelled h = word (codes "CANCELLED") refl
line_is (line.Step step name procedure_step fate) h = of_dd step (word (codes "STEP ") refl) (names_shown name procedure_step h.0 h.1) (fate_is fate)
line_is (line.Take dd name w) h = of_dd dd (word (codes "TAKE ") refl) (name_shown name h.0) (take_is w h.1)
line_is (line.Fault fault step dd) h = of_fault fault step dd (word (codes "FAULT ") refl)
line_is (line.Back dd name w) h = of_dd dd (word (codes "BACK ") refl) (name_shown name h) (back_is w)
line_is (line.GetStart name serial) h = join (join (join (word (codes "GET ") refl) (own h.0)) (word (codes " START ") refl)) (own h.1)
line_is (line.GetData name text) h = join (join (join (word (codes "GET ") refl) (own h.0)) (word (codes " DATA") refl)) (shortened text h.1)
line_is (line.GetEnd name) h = join (join (word (codes "GET ") refl) (own h)) (word (codes " END") refl)
line_is (line.PutStart name serial grown) h =
    join (join (join (join (word (codes "PUT ") refl) (own h.0)) (word (codes " START ") refl)) (own h.1)) (grown_is grown)
line_is (line.PutDone name) h = join (join (word (codes "PUT ") refl) (own h)) (word (codes " DONE") refl)
line_is (line.Code code) h = join (word (codes "CODE ") refl) (numbered 4 code)
line_is (line.Abend abend) h = join (word (codes "ABEND ") refl) (abend_is abend)
line_is (line.Disp dd name w) h = of_dd dd (word (codes "DISP ") refl) (name_shown name h) (disp_is w)
line_is (line.Left step dd name w) h =
    of_dd dd (join (join (word (codes "LEFT ") refl) (number step)) (word (codes ".") refl)) (name_shown name h) (disp_is w)
line_is line.End h = word (codes "END") refl

job_line_is : (job : ℕ) (l : JobLine) → IsPrintableLine l → Printable (job_line_text job l)
job_line_is job l h = join (join (numbered 4 job) blank) (line_is l h)

written_is : (job : ℕ) (w : Written) → IsPrintableWritten w → Printable (written_text job w)
written_is job (written.Line l) h = join blank (job_line_is job l h)
written_is job (written.Record text) h = shortened text h

pub entry_is : (e : Entry) → IsPrintableEntry e → Printable (entry_text e)
entry_is (entry.Job job l) h = job_line_is job l h.1
entry_is (entry.Path job l) h = join (word (codes "-- PATH ") refl) (job_line_is job l h)
entry_is (entry.Cancel job) h = join (word (codes "-- CANCEL ") refl) (numbered 4 job)
entry_is (entry.Writer class job w) h =
    join (join (join (join (word (codes "-- WRITER ") refl) (own {text = class ∷ []} h.0)) blank) (numbered 4 job)) (written_is job w h.1)
entry_is (entry.Refused cause) h = join (word (codes "-- REFUSED ") refl) (cause_is cause)
entry_is (entry.Volume serial free kept) h =
    join (join (join (join (join (word (codes "-- ") refl) (own h)) (word (codes " FREE ") refl)) (number free)) (word (codes " KEPT ") refl)) (number kept)
entry_is (entry.Queue queued running records) h =
    join (join (join (join (join (word (codes "-- QUEUED ") refl) (number queued)) (word (codes " RUNNING ") refl)) (number running))
    (word (codes " RECORDS ") refl)) (number records)
entry_is (entry.Date year day) h = join (join (join (word (codes "-- DATE ") refl) (numbered 4 year)) (word (codes "/") refl)) (numbered 3 day)

-- so it has no line feed
pub no_feed : (e : Entry) → IsPrintableEntry e → IsWithout 10 (entry_text e)
no_feed e h = All-weaker IsByte (λ c. c ≢ 10) (λ c b same. omega (arith, b.0)) (entry_text e) (entry_is e h).so
