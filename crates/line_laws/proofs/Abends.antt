-- No other line has the text of an ABEND S222 or SB37.
use Rattle.std.proofs.Common.{◌≡◌, ◌≤◌, ℕ, drop, refl, ap, ◌∙◌}
use Rattle.jcl_plan.specs.declared.entry.Entry.{Entry}
use Rattle.jcl_plan.specs.declared.entry.Entry.TheVariants as entry
use Rattle.jcl_plan.specs.declared.entry.JobLine.{JobLine}
use Rattle.jcl_plan.specs.declared.entry.JobLine.TheVariants as line
use Rattle.jcl_plan.specs.declared.outcome.Abend.{Abend}
use Rattle.jcl_plan.specs.declared.outcome.Abend.TheVariants.{S222, S806, SB37, SD37, SFF0, SFF1, User}
use Rattle.jcl_plan.specs.Lines.{entry_text, job_line_text, line_text}
use Rattle.jcl_plan.specs.Texts.{abend_text}
use Rattle.machine_meaning.specs.declared.machine.TheConstants.{MOST_JOBS}
use Rattle.line_laws.specs.Printable.{IsPrintableEntry}
use Rattle.line_laws.proofs.Alone.{clash, line_told}

-- a line that says this of an ABEND is an ABEND's
abbrev WroteAbend : Abend → JobLine → Type 0
WroteAbend a l = (b : Abend) × (l ≡ line.Abend b) × (abend_text b ≡ abend_text a)

-- an ABEND's line begins as no other
abend_only : (a : Abend) (l : JobLine) → line_text l ≡ line_text (line.Abend a) → WroteAbend a l
abend_only a (line.Abend b) e = (b, refl, ap (drop 6) e)
abend_only a (line.Read name class priority) e = absurd (clash 0 e refl)
abend_only a (line.Rejected cause) e = absurd (clash 0 e refl)
abend_only a (line.Selected initiator) e = absurd (clash 0 e refl)
abend_only a (line.Broken n) e = absurd (clash 0 e refl)
abend_only a (line.Names n) e = absurd (clash 0 e refl)
abend_only a (line.WaitNames holder name) e = absurd (clash 0 e refl)
abend_only a (line.WaitSpace serial) e = absurd (clash 0 e refl)
abend_only a (line.Assured tracks actions) e = absurd (clash 1 e refl)
abend_only a (line.Risk fault step dd path) e = absurd (clash 0 e refl)
abend_only a (line.TooMany step) e = absurd (clash 0 e refl)
abend_only a line.Refused e = absurd (clash 0 e refl)
abend_only a line.Cancelled e = absurd (clash 0 e refl)
abend_only a (line.Step step name procedure_step fate) e = absurd (clash 0 e refl)
abend_only a (line.Take dd name word) e = absurd (clash 0 e refl)
abend_only a (line.Fault fault step dd) e = absurd (clash 0 e refl)
abend_only a (line.Back dd name word) e = absurd (clash 0 e refl)
abend_only a (line.GetStart name serial) e = absurd (clash 0 e refl)
abend_only a (line.GetData name text) e = absurd (clash 0 e refl)
abend_only a (line.GetEnd name) e = absurd (clash 0 e refl)
abend_only a (line.PutStart name serial grown) e = absurd (clash 0 e refl)
abend_only a (line.PutDone name) e = absurd (clash 0 e refl)
abend_only a (line.Code code) e = absurd (clash 0 e refl)
abend_only a (line.Disp dd name word) e = absurd (clash 0 e refl)
abend_only a (line.Left step dd name word) e = absurd (clash 0 e refl)
abend_only a line.End e = absurd (clash 0 e refl)

-- the completion codes differ in their first two letters
s222_only : (a : Abend) → abend_text a ≡ abend_text S222 → a ≡ S222
s222_only S222 e = refl
s222_only S806 e = absurd (clash 1 e refl)
s222_only SB37 e = absurd (clash 1 e refl)
s222_only SD37 e = absurd (clash 1 e refl)
s222_only SFF0 e = absurd (clash 1 e refl)
s222_only SFF1 e = absurd (clash 1 e refl)
s222_only (User code) e = absurd (clash 0 e refl)

sb37_only : (a : Abend) → abend_text a ≡ abend_text SB37 → a ≡ SB37
sb37_only SB37 e = refl
sb37_only S222 e = absurd (clash 1 e refl)
sb37_only S806 e = absurd (clash 1 e refl)
sb37_only SD37 e = absurd (clash 1 e refl)
sb37_only SFF0 e = absurd (clash 1 e refl)
sb37_only SFF1 e = absurd (clash 1 e refl)
sb37_only (User code) e = absurd (clash 0 e refl)

-- so a code that is alone in its text is alone in its line's
module _ (a : Abend) (only : (b : Abend) → abend_text b ≡ abend_text a → b ≡ a) (job : ℕ) where
  abend_alone : (e : Entry) → job ≤ MOST_JOBS → IsPrintableEntry e → entry_text e ≡ job_line_text job (line.Abend a) → e ≡ entry.Job job (line.Abend a)
  abend_alone e h p same =
      let told = line_told job (line_text (line.Abend a)) h e p same in
      let wrote = abend_only a told.its told.said in
      told.is ∙ ap (entry.Job job) (wrote.1 ∙ ap line.Abend (only wrote.0 wrote.2))

-- an entry whose text is that of S222 is S222's
pub s222_alone : (job : ℕ) (e : Entry) → job ≤ MOST_JOBS → IsPrintableEntry e → entry_text e ≡ job_line_text job (line.Abend S222) →
    e ≡ entry.Job job (line.Abend S222)
s222_alone job = abend_alone S222 s222_only job

-- an entry whose text is that of SB37 is SB37's
pub sb37_alone : (job : ℕ) (e : Entry) → job ≤ MOST_JOBS → IsPrintableEntry e → entry_text e ≡ job_line_text job (line.Abend SB37) →
    e ≡ entry.Job job (line.Abend SB37)
sb37_alone job = abend_alone SB37 sb37_only job
