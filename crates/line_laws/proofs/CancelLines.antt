-- No other line has the text of a CANCEL.
use Rattle.std.proofs.Common.{◌≡◌, ◌≤◌, ◌+◌, ◌++◌, ℕ, List, drop, length, codes, decimal, arith, refl, sym, ap, ◌∙◌}
use Rattle.std.proofs.lemmas.List.{length-append}
use Rattle.jcl_plan.specs.declared.entry.Entry.{Entry}
use Rattle.jcl_plan.specs.declared.entry.Entry.TheVariants as entry
use Rattle.jcl_plan.specs.Lines.{entry_text, line_text}
use Rattle.jcl_plan.specs.Texts.{digits}
use Rattle.machine_meaning.specs.declared.machine.TheConstants.{MOST_JOBS}
use Rattle.line_laws.specs.Printable.{IsPrintableEntry}
use Rattle.line_laws.proofs.Alone.{clash, no_dash}
use Rattle.line_laws.proofs.Bytes.{digits_glyphs}
use Rattle.line_laws.proofs.Fours.{same_four}
use Rattle.line_laws.proofs.Numbers.{four_digits}

-- a volume's line has fifteen bytes at least
volume_long : (serial : List ℕ) (free kept : ℕ) → 15 ≤ length (entry_text (entry.Volume serial free kept))
volume_long serial free kept = by (codes "-- " ++ serial) (decimal free) (decimal kept) (length-append (codes "-- ") serial)
  where
    by : (x f k : List ℕ) → length x ≡ 3 + length serial → 15 ≤ length (x ++ codes " FREE " ++ f ++ codes " KEPT " ++ k)
    by x f k three =
        omega (
          arith,
          three,
          length-append (x ++ codes " FREE " ++ f ++ codes " KEPT ") k,
          length-append (x ++ codes " FREE " ++ f) (codes " KEPT "),
          length-append (x ++ codes " FREE ") f,
          length-append x (codes " FREE "),
        )

-- a CANCEL has fourteen
cancel_short : (job : ℕ) → job ≤ MOST_JOBS → length (entry_text (entry.Cancel job)) ≡ 14
cancel_short job h = length-append (codes "-- CANCEL ") (digits 4 job) ∙ ap (λ n. 10 + n) (four_digits job h)

-- so they are not the same
too_long : (m n : ℕ) → 15 ≤ m → n ≡ 14 → m ≡ n → ⊥
too_long m n long short same = omega (arith, long, short, same)

-- an entry whose text is that of a CANCEL is this CANCEL
pub cancel_alone : (job : ℕ) (e : Entry) → job ≤ MOST_JOBS → IsPrintableEntry e → entry_text e ≡ entry_text (entry.Cancel job) → e ≡ entry.Cancel job
cancel_alone job (entry.Cancel other) h p e = ap entry.Cancel (same_four other job h (ap (drop 10) e))
cancel_alone job (entry.Job other l) h p e =
    absurd (no_dash (digits 4 other) (entry_text (entry.Cancel job)) (line_text l) (digits_glyphs 4 other) (four_digits other p.0) refl (sym e))
cancel_alone job (entry.Path other l) h p e = absurd (clash 3 e refl)
cancel_alone job (entry.Writer class other w) h p e = absurd (clash 3 e refl)
cancel_alone job (entry.Refused cause) h p e = absurd (clash 3 e refl)
cancel_alone job (entry.Volume serial free kept) h p e =
    absurd (too_long (length (entry_text (entry.Volume serial free kept))) (length (entry_text (entry.Cancel job))) (volume_long serial free kept)
    (cancel_short job h) (ap length e))
cancel_alone job (entry.Queue queued running records) h p e = absurd (clash 3 e refl)
cancel_alone job (entry.Date year day) h p e = absurd (clash 3 e refl)
