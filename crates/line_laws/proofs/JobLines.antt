-- The lines of a job among those of a listing.
use Rattle.std.proofs.Common.{◌≡◌, ◌≤◌, ◌++◌, ◌==◌, ◌&&◌, ℕ, Bool, true, false, cond, List, [], ◌∷◌, Some, None, length, get_or, map, take, codes, arith, refl, sym, ap, ◌∙◌}
use Rattle.std.specs.Prelude.{All}
use Rattle.std.specs.List.{cons_option, filter_map}
use Rattle.std.specs.Str.{bytes_eq}
use Rattle.std.proofs.lemmas.Bool.{eqb-true, ne_eqb}
use Rattle.std.proofs.lemmas.List.Elements.{All-head, All-tail}
use Rattle.jcl_plan.specs.declared.entry.Entry.{Entry}
use Rattle.jcl_plan.specs.declared.entry.Entry.TheVariants as entry
use Rattle.jcl_plan.specs.declared.entry.JobLine.{JobLine}
use Rattle.jcl_plan.specs.Lines.{entry_text, job_line_text}
use Rattle.jcl_plan.specs.Texts.{digits}
use Rattle.machine_meaning.specs.declared.machine.TheConstants.{MOST_JOBS}
use Rattle.world_meaning.specs.Headlines.{line_of}
use Rattle.line_laws.specs.Lines.{is_of_job}
use Rattle.line_laws.specs.LineLaws.{LinesOfJobs}
use Rattle.line_laws.specs.Printable.{IsPrintableEntry}
use Rattle.line_laws.proofs.Bytes.{IsGlyph, digits_glyphs}
use Rattle.line_laws.proofs.Numbers.{four_digits, is_of_its_job}

-- digits begin with no dash
dash_is_no_digit : (d text : List ℕ) → All IsGlyph d → length d ≡ 4 → get_or text 0 0 ≡ 45 →
    bytes_eq (take (length (d ++ codes " ")) text) (d ++ codes " ") ≡ false
dash_is_no_digit [] text h four dash = absurd (omega arith)
dash_is_no_digit (a ∷ d) [] h four dash = refl
dash_is_no_digit (a ∷ d) (c ∷ text) h four dash =
    let high = All-head IsGlyph a d h in
    ap (λ b. b && bytes_eq (take (length (d ++ codes " ")) text) (d ++ codes " ")) (ne_eqb c a (λ e. omega (arith, high.0)))

-- a line that begins with a dash is of no job
no_job : (job : ℕ) (text : List ℕ) → job ≤ MOST_JOBS → get_or text 0 0 ≡ 45 → is_of_job job text ≡ false
no_job job text h dash = dash_is_no_digit (digits 4 job) text (digits_glyphs 4 job) (four_digits job h) dash

module _ (job : ℕ) (h : job ≤ MOST_JOBS) where
  -- the lines of a job, with one before them if it is the job's
  abbrev IsAdded : Entry → List JobLine → Type 0
  IsAdded e lines =
      cond (is_of_job job (entry_text e)) (entry_text e ∷ map (job_line_text job) lines) (map (job_line_text job) lines)
      ≡ map (job_line_text job) (cons_option (line_of job e) lines)

  no_line : (e : Entry) (lines : List JobLine) → get_or (entry_text e) 0 0 ≡ 45 → line_of job e ≡ None → IsAdded e lines
  no_line e lines dash none =
      ap (λ b. cond b (entry_text e ∷ map (job_line_text job) lines) (map (job_line_text job) lines)) (no_job job (entry_text e) h dash)
      ∙ ap (λ o. map (job_line_text job) (cons_option o lines)) (sym none)

  its_line : (other : ℕ) (l : JobLine) (lines : List JobLine) (b : Bool) → (other == job) ≡ b →
      cond b (job_line_text other l ∷ map (job_line_text job) lines) (map (job_line_text job) lines)
      ≡ map (job_line_text job) (cons_option (cond b (Some l) None) lines)
  its_line other l lines true e = ap (λ k. job_line_text k l ∷ map (job_line_text job) lines) (eqb-true other job e)
  its_line other l lines false e = refl

  one_line : (e : Entry) (lines : List JobLine) → IsPrintableEntry e → IsAdded e lines
  one_line (entry.Job other l) lines p =
      ap (λ b. cond b (job_line_text other l ∷ map (job_line_text job) lines) (map (job_line_text job) lines)) (is_of_its_job job other l h p.0)
      ∙ its_line other l lines (other == job) refl
  one_line (entry.Path other l) lines p = no_line (entry.Path other l) lines refl refl
  one_line (entry.Cancel other) lines p = no_line (entry.Cancel other) lines refl refl
  one_line (entry.Writer class other w) lines p = no_line (entry.Writer class other w) lines refl refl
  one_line (entry.Refused cause) lines p = no_line (entry.Refused cause) lines refl refl
  one_line (entry.Volume serial free kept) lines p = no_line (entry.Volume serial free kept) lines refl refl
  one_line (entry.Queue queued running records) lines p = no_line (entry.Queue queued running records) lines refl refl
  one_line (entry.Date year day) lines p = no_line (entry.Date year day) lines refl refl

pub lines_of_jobs : LinesOfJobs
lines_of_jobs job [] h all = refl
lines_of_jobs job (e ∷ es) h all =
    ap (λ r. cond (is_of_job job (entry_text e)) (entry_text e ∷ r) r) (lines_of_jobs job es h (All-tail IsPrintableEntry e es all))
    ∙ one_line job h e (filter_map (line_of job) es) (All-head IsPrintableEntry e es all)
