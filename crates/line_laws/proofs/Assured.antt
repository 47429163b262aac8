-- No other line has the text of an ASSURED line.
use Rattle.std.proofs.Common.{◌≡◌, ◌≢◌, ◌≤◌, ◌++◌, ℕ, List, drop, codes, decimal, append_assoc, arith, refl, sym, ap, ◌∙◌}
use Rattle.std.proofs.lemmas.List.{append_cancel_right}
use Rattle.std.proofs.lemmas.List.Elements.{All-weaker}
use Rattle.jcl_plan.specs.declared.entry.Entry.{Entry}
use Rattle.jcl_plan.specs.declared.entry.Entry.TheVariants as entry
use Rattle.jcl_plan.specs.declared.entry.JobLine.{JobLine}
use Rattle.jcl_plan.specs.declared.entry.JobLine.TheVariants as line
use Rattle.jcl_plan.specs.Lines.{entry_text, job_line_text, line_text}
use Rattle.machine_meaning.specs.declared.machine.TheConstants.{MOST_JOBS}
use Rattle.line_laws.specs.LineLaws.{SaysAssured}
use Rattle.line_laws.specs.Printable.{IsPrintableEntry}
use Rattle.line_laws.proofs.Alone.{clash, line_told}
use Rattle.line_laws.proofs.Bytes.{IsGlyph, decimal_glyphs}
use Rattle.line_laws.proofs.Cuts.{IsWithout, same_cut}

-- a number has no blank
no_blank : (n : ℕ) → IsWithout 32 (decimal n)
no_blank n = All-weaker IsGlyph (λ c. c ≢ 32) (λ c g same. omega (arith, g.0)) (decimal n) (decimal_glyphs n)

-- its two numbers, behind one another
grouped : (d f : List ℕ) → d ++ codes " TRACKS " ++ f ++ codes " ACTIONS" ≡ d ++ (codes " TRACKS " ++ (f ++ codes " ACTIONS"))
grouped d f = append_assoc (d ++ codes " TRACKS ") f (codes " ACTIONS") ∙ append_assoc d (codes " TRACKS ") (f ++ codes " ACTIONS")

-- both are told by what is written of them
both_told : (t a tracks actions : ℕ) → line_text (line.Assured t a) ≡ line_text (line.Assured tracks actions) →
    (decimal t ≡ decimal tracks) × (decimal a ≡ decimal actions)
both_told t a tracks actions e =
    let numbers = sym (grouped (decimal t) (decimal a)) ∙ ap (drop 8) e ∙ grouped (decimal tracks) (decimal actions) in
    let cut = same_cut 32 (decimal t) (codes "TRACKS " ++ (decimal a ++ codes " ACTIONS")) (decimal tracks)
    (codes "TRACKS " ++ (decimal actions ++ codes " ACTIONS")) (no_blank t) (no_blank tracks) numbers in
    (cut.0, append_cancel_right (decimal a) (decimal actions) (codes " ACTIONS") (ap (drop 7) cut.1))

-- a line that says this is an ASSURED line, whose numbers are written as these
abbrev WroteAssured : ℕ → ℕ → JobLine → Type 0
WroteAssured tracks actions l = (t : ℕ) × (a : ℕ) × (l ≡ line.Assured t a) × (decimal t ≡ decimal tracks) × (decimal a ≡ decimal actions)

assured_only : (l : JobLine) (tracks actions : ℕ) → line_text l ≡ line_text (line.Assured tracks actions) → WroteAssured tracks actions l
assured_only (line.Assured t a) tracks actions e =
    let both = both_told t a tracks actions e in
    (t, a, refl, both.0, both.1)
assured_only (line.Read name class priority) tracks actions e = absurd (clash 0 e refl)
assured_only (line.Rejected cause) tracks actions e = absurd (clash 0 e refl)
assured_only (line.Selected initiator) tracks actions e = absurd (clash 0 e refl)
assured_only (line.Broken n) tracks actions e = absurd (clash 0 e refl)
assured_only (line.Names n) tracks actions e = absurd (clash 0 e refl)
assured_only (line.WaitNames holder name) tracks actions e = absurd (clash 0 e refl)
assured_only (line.WaitSpace serial) tracks actions e = absurd (clash 0 e refl)
assured_only (line.Risk fault step dd path) tracks actions e = absurd (clash 0 e refl)
assured_only (line.TooMany step) tracks actions e = absurd (clash 0 e refl)
assured_only line.Refused tracks actions e = absurd (clash 0 e refl)
assured_only line.Cancelled tracks actions e = absurd (clash 0 e refl)
assured_only (line.Step step name procedure_step fate) tracks actions e = absurd (clash 0 e refl)
assured_only (line.Take dd name word) tracks actions e = absurd (clash 0 e refl)
assured_only (line.Fault fault step dd) tracks actions e = absurd (clash 0 e refl)
assured_only (line.Back dd name word) tracks actions e = absurd (clash 0 e refl)
assured_only (line.GetStart name serial) tracks actions e = absurd (clash 0 e refl)
assured_only (line.GetData name text) tracks actions e = absurd (clash 0 e refl)
assured_only (line.GetEnd name) tracks actions e = absurd (clash 0 e refl)
assured_only (line.PutStart name serial grown) tracks actions e = absurd (clash 0 e refl)
assured_only (line.PutDone name) tracks actions e = absurd (clash 0 e refl)
assured_only (line.Code code) tracks actions e = absurd (clash 0 e refl)
assured_only (line.Abend abend) tracks actions e = absurd (clash 1 e refl)
assured_only (line.Disp dd name word) tracks actions e = absurd (clash 0 e refl)
assured_only (line.Left step dd name word) tracks actions e = absurd (clash 0 e refl)
assured_only line.End tracks actions e = absurd (clash 0 e refl)

-- an entry whose text is that of an ASSURED line is one, and its numbers are written as that line's
pub says_assured : (job tracks actions : ℕ) (e : Entry) → job ≤ MOST_JOBS → IsPrintableEntry e →
    entry_text e ≡ job_line_text job (line.Assured tracks actions) → SaysAssured job tracks actions e
says_assured job tracks actions e h p same =
    let told = line_told job (line_text (line.Assured tracks actions)) h e p same in
    let wrote = assured_only told.its tracks actions told.said in
    record { its_tracks = wrote.0; its_actions = wrote.1; is = told.is ∙ ap (entry.Job job) wrote.2; tracks_so = wrote.3; actions_so = wrote.4 }
