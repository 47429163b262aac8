-- Of which line a job's text is, and that no other line has that of an END line.
use Rattle.std.proofs.Common.{◌≡◌, ◌≤◌, ◌++◌, ◌==◌, ℕ, false, List, [], ◌∷◌, length, get_or, codes, arith, refl, ap, ◌∙◌}
use Rattle.std.specs.Prelude.{All}
use Rattle.std.proofs.lemmas.Bool.{both_ways, eq-eqb}
use Rattle.std.proofs.lemmas.List.Elements.{All-head}
use Rattle.jcl_plan.specs.declared.entry.Entry.{Entry}
use Rattle.jcl_plan.specs.declared.entry.Entry.TheVariants as entry
use Rattle.jcl_plan.specs.declared.entry.JobLine.{JobLine}
use Rattle.jcl_plan.specs.declared.entry.JobLine.TheVariants as line
use Rattle.jcl_plan.specs.Lines.{entry_text, job_line_text, line_text}
use Rattle.jcl_plan.specs.Texts.{digits}
use Rattle.machine_meaning.specs.declared.machine.TheConstants.{MOST_JOBS}
use Rattle.line_laws.specs.Printable.{IsPrintableEntry}
use Rattle.line_laws.proofs.Bytes.{IsGlyph, digits_glyphs}
use Rattle.line_laws.proofs.Numbers.{four_digits, same_number}

-- a text that begins with digits begins with no dash
pub no_dash : (d text x : List ℕ) → All IsGlyph d → length d ≡ 4 → get_or text 0 0 ≡ 45 → text ≡ d ++ codes " " ++ x → ⊥
no_dash [] text x h four dash e = omega arith
no_dash (a ∷ d) text x h four dash e =
    let high = All-head IsGlyph a d h in
    let first : get_or text 0 0 ≡ a = ap (λ t. get_or t 0 0) e in
    omega (arith, high.0)

-- what the text of a job's line says
pub record IsLineOf (job : ℕ) (text : List ℕ) (e : Entry) : Type 0 where
  pub its : JobLine
  pub is : e ≡ entry.Job job its
  pub said : line_text its ≡ text

module _ (job : ℕ) (text : List ℕ) (h : job ≤ MOST_JOBS) where
  abbrev pub number : List ℕ
  number = digits 4 job ++ codes " " ++ text

  other : (e : Entry) → get_or (entry_text e) 0 0 ≡ 45 → entry_text e ≡ number → IsLineOf job text e
  other e dash same = absurd (no_dash (digits 4 job) (entry_text e) text (digits_glyphs 4 job) (four_digits job h) dash same)

  pub line_told : (e : Entry) → IsPrintableEntry e → entry_text e ≡ number → IsLineOf job text e
  line_told (entry.Job j l) p e =
      let same = same_number j job (line_text l) text p.0 h e in
      record { its = l; is = ap (λ k. entry.Job k l) same.0; said = same.1 }
  line_told (entry.Path j l) p e = other (entry.Path j l) refl e
  line_told (entry.Cancel j) p e = other (entry.Cancel j) refl e
  line_told (entry.Writer class j w) p e = other (entry.Writer class j w) refl e
  line_told (entry.Refused cause) p e = other (entry.Refused cause) refl e
  line_told (entry.Volume serial free kept) p e = other (entry.Volume serial free kept) refl e
  line_told (entry.Queue queued running records) p e = other (entry.Queue queued running records) refl e
  line_told (entry.Date year day) p e = other (entry.Date year day) refl e

-- texts that differ at a place
pub clash : {x y : List ℕ} (k : ℕ) → x ≡ y → (get_or x k 0 == get_or y k 0) ≡ false → ⊥
clash {x} {y} k e differ = both_ways (get_or x k 0 == get_or y k 0) differ (eq-eqb (get_or x k 0) (get_or y k 0) (ap (λ t. get_or t k 0) e))

-- an END line begins as no other
end_only : (l : JobLine) → line_text l ≡ line_text line.End → l ≡ line.End
end_only line.End e = refl
end_only (line.Read name class priority) e = absurd (clash 0 e refl)
end_only (line.Rejected cause) e = absurd (clash 0 e refl)
end_only (line.Selected initiator) e = absurd (clash 0 e refl)
end_only (line.Broken n) e = absurd (clash 0 e refl)
end_only (line.Names n) e = absurd (clash 0 e refl)
end_only (line.WaitNames holder name) e = absurd (clash 0 e refl)
end_only (line.WaitSpace serial) e = absurd (clash 0 e refl)
end_only (line.Assured tracks actions) e = absurd (clash 0 e refl)
end_only (line.Risk fault step dd path) e = absurd (clash 0 e refl)
end_only (line.TooMany step) e = absurd (clash 0 e refl)
end_only line.Refused e = absurd (clash 0 e refl)
end_only line.Cancelled e = absurd (clash 0 e refl)
end_only (line.Step step name procedure_step fate) e = absurd (clash 0 e refl)
end_only (line.Take dd name word) e = absurd (clash 0 e refl)
end_only (line.Fault fault step dd) e = absurd (clash 0 e refl)
end_only (line.Back dd name word) e = absurd (clash 0 e refl)
end_only (line.GetStart name serial) e = absurd (clash 0 e refl)
end_only (line.GetData name text) e = absurd (clash 0 e refl)
end_only (line.GetEnd name) e = absurd (clash 0 e refl)
end_only (line.PutStart name serial grown) e = absurd (clash 0 e refl)
end_only (line.PutDone name) e = absurd (clash 0 e refl)
end_only (line.Code code) e = absurd (clash 0 e refl)
end_only (line.Abend abend) e = absurd (clash 0 e refl)
end_only (line.Disp dd name word) e = absurd (clash 0 e refl)
end_only (line.Left step dd name word) e = absurd (clash 0 e refl)

pub end_alone : (job : ℕ) (e : Entry) → job ≤ MOST_JOBS → IsPrintableEntry e → entry_text e ≡ job_line_text job line.End → e ≡ entry.Job job line.End
end_alone job e h p same =
    let told = line_told job (line_text line.End) h e p same in
    told.is ∙ ap (entry.Job job) (end_only told.its told.said)
