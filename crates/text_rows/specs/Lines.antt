-- Lines of the listing, and their texts: `Entry::write_to` writes `text_of` an entry, and `JobLine::write_to` `line_text` of a job's line (jcl_plan).
use Rattle.std.specs.Prelude.{◌≡◌, ℕ, ◌∷◌, [], List, codes, Some, None}
use Rattle.card_core.specs.Cards.{filled}
use Rattle.jcl_plan.specs.declared.entry.Entry.TheVariants as entry
use Rattle.jcl_plan.specs.declared.entry.JobLine.{JobLine}
use Rattle.jcl_plan.specs.declared.entry.JobLine.TheVariants as line
use Rattle.jcl_plan.specs.declared.entry.Written.TheVariants as written
use Rattle.jcl_plan.specs.declared.fault.Cause.TheVariants.{A, B, C, N, P, Q}
use Rattle.jcl_plan.specs.declared.fault.EventFault.TheVariants.{NoSuchInitiator, NoSuchJob, NoSuchVolume, NothingUnderWay, PastLimit}
use Rattle.jcl_plan.specs.declared.fault.Fault.TheVariants.{F1, F2, F3, F4, F5, F6, F7, F8, F9, F10}
use Rattle.jcl_plan.specs.declared.fault.QueueFault.TheVariants.{Full, NotOwner, Selected}
use Rattle.jcl_plan.specs.declared.fault.StatementFault.TheVariants.{NoStep, TooManyNames}
use Rattle.jcl_plan.specs.declared.outcome.Abend.TheVariants as abend
use Rattle.jcl_plan.specs.declared.outcome.Fate.TheVariants as fate
use Rattle.jcl_plan.specs.declared.outcome.Outcome.TheVariants as outcome
use Rattle.jcl_plan.specs.declared.words.BackWord.TheVariants as back
use Rattle.jcl_plan.specs.declared.words.DispWord.TheVariants as disp
use Rattle.jcl_plan.specs.declared.words.TakeWord.TheVariants as take
use Rattle.jcl_plan.specs.Lines.{line_text, text_of}

-- the line of job 17
abbrev pub of_job : JobLine → List ℕ
of_job l = text_of (entry.Job 17 l)

-- A job that is read, selected and told to wait.
pub record WritesReadings : Type 0 where
  pub job : of_job (line.Read (codes "ONE") 65 6) ≡ codes "0017 READ ONE CLASS A PRTY 06\n"
  pub job_of_eight : of_job (line.Read (codes "ABCDEFGH") 65 13) ≡ codes "0017 READ ABCDEFGH CLASS A PRTY 13\n"
  pub rejected : of_job (line.Rejected (P NoStep)) ≡ codes "0017 REJECTED P11\n"
  pub selected : of_job (line.Selected 15) ≡ codes "0017 SELECTED 15\n"
  pub broken : of_job (line.Broken 12) ≡ codes "0017 BROKEN B12\n"
  pub names : of_job (line.Names 0) ≡ codes "0017 NAMES 0\n"
  pub waits_for_names : of_job (line.WaitNames 3 (codes "PAY.G.G0001V00")) ≡ codes "0017 WAIT NAMES 0003 PAY.G.G0001V00\n"
  pub waits_for_space : of_job (line.WaitSpace (codes "VOL001")) ≡ codes "0017 WAIT SPACE VOL001\n"
  pub end : of_job line.End ≡ codes "0017 END\n"

-- What its analysis told.
pub record WritesAnalyses : Type 0 where
  pub assured : of_job (line.Assured 3 12) ≡ codes "0017 ASSURED 3 TRACKS 12 ACTIONS\n"
  pub risk_at_once : of_job (line.Risk F2 1 1 []) ≡ codes "0017 RISK F2 STEP 1 DD 1 PATH -\n"
  pub risk_later : of_job (line.Risk F8 6 64 (outcome.Code 0 ∷ outcome.Abend (abend.User 0) ∷ outcome.Abend abend.S806 ∷ outcome.Bypassed ∷ outcome.Flushed ∷ []))
      ≡ codes "0017 RISK F8 STEP 6 DD 64 PATH C0000,U0000,S806,B,F\n"
  pub too_many : of_job (line.TooMany 32) ≡ codes "0017 TOOMANY STEP 32\n"
  pub refused : of_job line.Refused ≡ codes "0017 REFUSED\n"
  pub cancelled : of_job line.Cancelled ≡ codes "0017 CANCELLED\n"

-- What becomes of a step.
pub record WritesSteps : Type 0 where
  pub named : of_job (line.Step 1 (Some (codes "S1")) None fate.Bypassed) ≡ codes "0017 STEP 1 S1 BYPASSED\n"
  pub of_a_procedure : of_job (line.Step 1 (Some (codes "S1")) (Some (codes "P1")) fate.Run) ≡ codes "0017 STEP 1 S1.P1 RUN\n"
  pub of_an_unnamed_call : of_job (line.Step 1 None (Some (codes "P1")) fate.Run) ≡ codes "0017 STEP 1 -.P1 RUN\n"
  pub unnamed : of_job (line.Step 1 None None fate.Flushed) ≡ codes "0017 STEP 1 - FLUSHED\n"

-- What taking a DD did.
pub record WritesTakes : Type 0 where
  pub made : of_job (line.Take 1 (Some (codes "DD1")) (take.Made (codes "VOL001"))) ≡ codes "0017 TAKE 1 DD1 MADE VOL001\n"
  pub found : of_job (line.Take 2 None (take.Found (codes "VOL001"))) ≡ codes "0017 TAKE 2 - FOUND VOL001\n"
  pub received : of_job (line.Take 3 (Some (codes "DD1")) (take.Received (codes "VOL001"))) ≡ codes "0017 TAKE 3 DD1 RECEIVED VOL001\n"
  pub output : of_job (line.Take 4 (Some (codes "DD1")) (take.Sysout 67)) ≡ codes "0017 TAKE 4 DD1 SYSOUT C\n"
  pub dummy : of_job (line.Take 5 None take.Dummy) ≡ codes "0017 TAKE 5 - DUMMY\n"
  pub cards : of_job (line.Take 64 (Some (codes "DD1")) (take.Cards 120)) ≡ codes "0017 TAKE 64 DD1 CARDS 120\n"

-- What a disposition did, and what became of what is given back or left.
pub record WritesDispositions : Type 0 where
  pub kept : of_job (line.Disp 10 (Some (codes "X")) disp.Kept) ≡ codes "0017 DISP 10 X KEPT\n"
  pub deleted : of_job (line.Disp 10 (Some (codes "X")) disp.Deleted) ≡ codes "0017 DISP 10 X DELETED\n"
  pub passed : of_job (line.Disp 10 (Some (codes "X")) disp.Passed) ≡ codes "0017 DISP 10 X PASSED\n"
  pub cataloged : of_job (line.Disp 10 (Some (codes "X")) disp.Cataloged) ≡ codes "0017 DISP 10 X CATALOGED\n"
  pub uncataloged : of_job (line.Disp 10 (Some (codes "X")) disp.Uncataloged) ≡ codes "0017 DISP 10 X UNCATALOGED\n"
  pub unexpired : of_job (line.Disp 10 (Some (codes "X")) disp.Unexpired) ≡ codes "0017 DISP 10 X UNEXPIRED\n"
  pub other_entry : of_job (line.Disp 10 (Some (codes "X")) disp.F3) ≡ codes "0017 DISP 10 X F3\n"
  pub no_entry : of_job (line.Disp 10 (Some (codes "X")) disp.F4) ≡ codes "0017 DISP 10 X F4\n"
  pub gone : of_job (line.Disp 10 (Some (codes "X")) disp.F8) ≡ codes "0017 DISP 10 X F8\n"
  pub spooled_none : of_job (line.Disp 10 (Some (codes "X")) (disp.Spooled 0)) ≡ codes "0017 DISP 10 X SPOOLED 0\n"
  pub spooled : of_job (line.Disp 10 (Some (codes "X")) (disp.Spooled 1234)) ≡ codes "0017 DISP 10 X SPOOLED 1234\n"
  pub nothing : of_job (line.Disp 10 (Some (codes "X")) disp.Nothing) ≡ codes "0017 DISP 10 X NONE\n"
  pub left : of_job (line.Left 2 3 (Some (codes "X")) disp.Deleted) ≡ codes "0017 LEFT 2.3 X DELETED\n"
  pub left_unnamed : of_job (line.Left 2 3 None disp.Deleted) ≡ codes "0017 LEFT 2.3 - DELETED\n"
  pub back_deleted : of_job (line.Back 1 (Some (codes "DD1")) back.Deleted) ≡ codes "0017 BACK 1 DD1 DELETED\n"
  pub back_kept : of_job (line.Back 12 None back.Kept) ≡ codes "0017 BACK 12 - KEPT\n"

-- What a program asked for; a record is without the blanks at its end.
pub record WritesRequests : Type 0 where
  pub get : of_job (line.GetStart (codes "OUT") (codes "VOL001")) ≡ codes "0017 GET OUT START VOL001\n"
  pub got : of_job (line.GetData (codes "OUT") (filled (codes "HELLO"))) ≡ codes "0017 GET OUT DATA HELLO\n"
  pub got_blanks : of_job (line.GetData (codes "OUT") (filled (codes "  TWO  WORDS "))) ≡ codes "0017 GET OUT DATA   TWO  WORDS\n"
  pub got_nothing : of_job (line.GetData (codes "OUT") (filled [])) ≡ codes "0017 GET OUT DATA\n"
  pub got_all : of_job (line.GetEnd (codes "OUT")) ≡ codes "0017 GET OUT END\n"
  pub put : of_job (line.PutStart (codes "OUT") (codes "VOL001") None) ≡ codes "0017 PUT OUT START VOL001\n"
  pub put_with_space : of_job (line.PutStart (codes "OUT") (codes "VOL001") (Some 5)) ≡ codes "0017 PUT OUT START VOL001 GROWN 5\n"
  pub put_done : of_job (line.PutDone (codes "OUT")) ≡ codes "0017 PUT OUT DONE\n"

-- How a program ended.
pub record WritesEnds : Type 0 where
  pub code_0 : of_job (line.Code 0) ≡ codes "0017 CODE 0000\n"
  pub user_0 : of_job (line.Abend (abend.User 0)) ≡ codes "0017 ABEND U0000\n"
  pub code_16 : of_job (line.Code 16) ≡ codes "0017 CODE 0016\n"
  pub user_16 : of_job (line.Abend (abend.User 16)) ≡ codes "0017 ABEND U0016\n"
  pub code_4095 : of_job (line.Code 4095) ≡ codes "0017 CODE 4095\n"
  pub user_4095 : of_job (line.Abend (abend.User 4095)) ≡ codes "0017 ABEND U4095\n"
  pub s222 : of_job (line.Abend abend.S222) ≡ codes "0017 ABEND S222\n"
  pub s806 : of_job (line.Abend abend.S806) ≡ codes "0017 ABEND S806\n"
  pub sb37 : of_job (line.Abend abend.SB37) ≡ codes "0017 ABEND SB37\n"
  pub sd37 : of_job (line.Abend abend.SD37) ≡ codes "0017 ABEND SD37\n"
  pub sff0 : of_job (line.Abend abend.SFF0) ≡ codes "0017 ABEND SFF0\n"
  pub sff1 : of_job (line.Abend abend.SFF1) ≡ codes "0017 ABEND SFF1\n"

-- The faults of jobs.
pub record WritesFaults : Type 0 where
  pub f1 : line_text (line.Fault F1 32 4) ≡ codes "FAULT F1 STEP 32 DD 4"
  pub f2 : line_text (line.Fault F2 32 4) ≡ codes "FAULT F2 STEP 32 DD 4"
  pub f3 : line_text (line.Fault F3 32 4) ≡ codes "FAULT F3 STEP 32 DD 4"
  pub f4 : line_text (line.Fault F4 32 4) ≡ codes "FAULT F4 STEP 32 DD 4"
  pub f5 : line_text (line.Fault F5 32 4) ≡ codes "FAULT F5 STEP 32 DD 4"
  pub f6 : line_text (line.Fault F6 32 4) ≡ codes "FAULT F6 STEP 32 DD 4"
  pub f7 : line_text (line.Fault F7 32 4) ≡ codes "FAULT F7 STEP 32 DD 4"
  pub f8 : line_text (line.Fault F8 32 4) ≡ codes "FAULT F8 STEP 32 DD 4"
  pub f9 : line_text (line.Fault F9 32 4) ≡ codes "FAULT F9 STEP 32 DD 4"
  pub f10 : line_text (line.Fault F10 32 4) ≡ codes "FAULT F10 STEP 32 DD 4"

-- The letter of each cause.
pub record WritesCauses : Type 0 where
  pub of_cards : text_of (entry.Refused (C 7)) ≡ codes "-- REFUSED C7\n"
  pub of_names : text_of (entry.Refused (N 4)) ≡ codes "-- REFUSED N4\n"
  pub of_statements : text_of (entry.Refused (P TooManyNames)) ≡ codes "-- REFUSED P46\n"
  pub queue_full : text_of (entry.Refused (Q Full)) ≡ codes "-- REFUSED Q1\n"
  pub not_owner : text_of (entry.Refused (Q NotOwner)) ≡ codes "-- REFUSED Q2\n"
  pub already_selected : text_of (entry.Refused (Q Selected)) ≡ codes "-- REFUSED Q3\n"
  pub of_records : text_of (entry.Refused (B 12)) ≡ codes "-- REFUSED B12\n"
  pub no_such_initiator : text_of (entry.Refused (A NoSuchInitiator)) ≡ codes "-- REFUSED A1\n"
  pub no_such_job : text_of (entry.Refused (A NoSuchJob)) ≡ codes "-- REFUSED A2\n"
  pub no_such_volume : text_of (entry.Refused (A NoSuchVolume)) ≡ codes "-- REFUSED A3\n"
  pub nothing_under_way : text_of (entry.Refused (A NothingUnderWay)) ≡ codes "-- REFUSED A4\n"
  pub past_a_limit : text_of (entry.Refused (A PastLimit)) ≡ codes "-- REFUSED A5\n"

-- What the writer of class C writes of a job.
pub record WritesForWriters : Type 0 where
  pub line_of_a_job : text_of (entry.Writer 67 17 (written.Line (line.Read (codes "J") 65 6))) ≡ codes "-- WRITER C 0017 0017 READ J CLASS A PRTY 06\n"
  pub last_line : text_of (entry.Writer 67 17 (written.Line line.End)) ≡ codes "-- WRITER C 0017 0017 END\n"
  pub record_of_output : text_of (entry.Writer 67 17 (written.Record (filled (codes " TOTAL 3")))) ≡ codes "-- WRITER C 0017  TOTAL 3\n"
  pub blank_record : text_of (entry.Writer 67 17 (written.Record (filled []))) ≡ codes "-- WRITER C 0017\n"

-- The number of a job, and lines of no job.
pub record WritesOthers : Type 0 where
  pub job_1 : text_of (entry.Job 1 line.End) ≡ codes "0001 END\n"
  pub job_9999 : text_of (entry.Job 9999 line.End) ≡ codes "9999 END\n"
  pub job_10000 : text_of (entry.Job 10000 line.End) ≡ codes "10000 END\n"
  pub path : text_of (entry.Path 1 (line.Take 1 (Some (codes "T")) (take.Made (codes "VOL001")))) ≡ codes "-- PATH 0001 TAKE 1 T MADE VOL001\n"
  pub path_to_its_fault : text_of (entry.Path 17 (line.Fault F1 3 1)) ≡ codes "-- PATH 0017 FAULT F1 STEP 3 DD 1\n"
  pub cancel : text_of (entry.Cancel 8) ≡ codes "-- CANCEL 0008\n"
  pub cancel_of_the_last : text_of (entry.Cancel 65535) ≡ codes "-- CANCEL 65535\n"
  pub free_tracks : text_of (entry.Volume (codes "VOL001") 97 0) ≡ codes "-- VOL001 FREE 97 KEPT 0\n"
  pub queue : text_of (entry.Queue 2 15 4096) ≡ codes "-- QUEUED 2 RUNNING 15 RECORDS 4096\n"
  pub first_day : text_of (entry.Date 1975 1) ≡ codes "-- DATE 1975/001\n"
  pub last_day : text_of (entry.Date 2155 365) ≡ codes "-- DATE 2155/365\n"
