-- A line that is no RISK is copied.
use Rattle.std.proofs.Common.{◌≡◌, false, List, [], ◌∷◌, All, Some, refl}
use Rattle.std.specs.List.{list_any}
use Rattle.std.proofs.lemmas.Bool.{or_parts}
use Rattle.std.proofs.lemmas.List.Elements.{All-cons, All-nil}
use Rattle.jcl_plan.specs.declared.entry.JobLine.{JobLine}
use Rattle.jcl_plan.specs.declared.entry.JobLine.TheVariants as line
use Rattle.law_core.proofs.PlainLines.{is_risk}
use Rattle.sched_core.specs.Copies.{unless_risk}

copied_line : (l : JobLine) → is_risk l ≡ false → unless_risk l ≡ Some l
copied_line (line.Read name c priority) h = refl
copied_line (line.Rejected cause) h = refl
copied_line (line.Selected number) h = refl
copied_line (line.Broken f) h = refl
copied_line (line.Names count) h = refl
copied_line (line.WaitNames holder name) h = refl
copied_line (line.WaitSpace serial) h = refl
copied_line (line.Assured tracks actions) h = refl
copied_line (line.Risk f step dd path) h = absurd cc
copied_line (line.TooMany step) h = refl
copied_line line.Refused h = refl
copied_line line.Cancelled h = refl
copied_line (line.Step step name procedure_step fate) h = refl
copied_line (line.Take dd name w) h = refl
copied_line (line.Fault f step dd) h = refl
copied_line (line.Back dd name w) h = refl
copied_line (line.GetStart name serial) h = refl
copied_line (line.GetData name text) h = refl
copied_line (line.GetEnd name) h = refl
copied_line (line.PutStart name serial grown) h = refl
copied_line (line.PutDone name) h = refl
copied_line (line.Code code) h = refl
copied_line (line.Abend abend) h = refl
copied_line (line.Disp dd name w) h = refl
copied_line (line.Left step dd name w) h = refl
copied_line line.End h = refl

pub copied_lines : (lines : List JobLine) → list_any is_risk lines ≡ false → All (λ l. unless_risk l ≡ Some l) lines
copied_lines [] h = All-nil (λ l. unless_risk l ≡ Some l)
copied_lines (l ∷ lines) h =
    let both : (is_risk l ≡ false) × (list_any is_risk lines ≡ false) = or_parts (is_risk l) (list_any is_risk lines) h in
    All-cons (λ l. unless_risk l ≡ Some l) l lines (copied_line l both.0) (copied_lines lines both.1)
