-- How many lines of a text are the same, and how many lines of a listing.
use Rattle.std.proofs.Common.{◌≡◌, ◌≤◌, ℕ, suc, Bool, true, false, List, [], ◌∷◌, All, length, map, arith, refl, sym, ap, ◌∙◌}
use Rattle.std.specs.Prelude.{filter, if◌then◌else◌}
use Rattle.std.specs.Str.{bytes_eq}
use Rattle.std.proofs.lemmas.Bool.{eq-eqb, eqb-true}
use Rattle.std.proofs.lemmas.List.Elements.{All-head, All-tail, All-weaker}
use Rattle.std.proofs.lemmas.Slice.Eq.{bytes_eq-Decides}
use Rattle.jcl_plan.specs.declared.entry.Entry.{Entry}
use Rattle.jcl_plan.specs.declared.entry.Entry.TheVariants as entry
use Rattle.jcl_plan.specs.declared.entry.JobLine.TheVariants as line
use Rattle.jcl_plan.specs.declared.outcome.Abend.TheVariants.{S222}
use Rattle.jcl_plan.specs.Lines.{entry_text, job_line_text}
use Rattle.machine_meaning.specs.declared.machine.TheConstants.{MOST_JOBS}
use Rattle.cancel_laws.specs.Cancels.{is_cancel_of, is_s222_of}
use Rattle.line_laws.specs.LineLaws.{AreAlone}
use Rattle.line_laws.specs.Printable.{IsPrintableEntry}

-- one more, where it is one
abbrev pub more_if : Bool → ℕ → ℕ
more_if b n = if b then suc n else n

filter_one : {X : Type 0} (b : Bool) (x : X) (xs : List X) → length (if b then x ∷ xs else xs) ≡ more_if b (length xs)
filter_one true x xs = refl
filter_one false x xs = refl

rises : (a b : Bool) (m n : ℕ) → (a ≡ true → b ≡ true) → m ≤ n → more_if a m ≤ more_if b n
rises false false m n so less = less
rises false true m n so less = omega (arith, less)
rises true false m n so less = let no : false ≡ true = so refl in absurd cc
rises true true m n so less = omega (arith, less)

-- no more lines of a text are these than lines of the listing are such, if each of them is
module _ (its : List ℕ) (p : Entry → Bool) where
  abbrev pub counted : List Entry → ℕ
  counted lines = length (filter p lines)

  abbrev pub told : List Entry → ℕ
  told lines = length (filter (bytes_eq its) (map entry_text lines))

  one_counted : (e : Entry) (lines : List Entry) → counted (e ∷ lines) ≡ more_if (p e) (counted lines)
  one_counted e lines = filter_one (p e) e (filter p lines)

  one_told : (e : Entry) (lines : List Entry) → told (e ∷ lines) ≡ more_if (bytes_eq its (entry_text e)) (told lines)
  one_told e lines = filter_one (bytes_eq its (entry_text e)) (entry_text e) (filter (bytes_eq its) (map entry_text lines))

  -- whatever has the text is such
  abbrev pub IsSuch : Entry → Type 0
  IsSuch e = entry_text e ≡ its → p e ≡ true

  pub no_more_told : (lines : List Entry) → All IsSuch lines → told lines ≤ counted lines
  no_more_told [] all = omega arith
  no_more_told (e ∷ lines) all =
      let such : IsSuch e = All-head IsSuch e lines all in
      let more : more_if (bytes_eq its (entry_text e)) (told lines) ≤ more_if (p e) (counted lines) =
      rises (bytes_eq its (entry_text e)) (p e) (told lines) (counted lines)
      (λ same. such (sym ((bytes_eq-Decides its (entry_text e)).0 same))) (no_more_told lines (All-tail IsSuch e lines all)) in
      omega (arith, more, one_told e lines, one_counted e lines)

  pub no_more_counted : ((e : Entry) → p e ≡ true → entry_text e ≡ its) → (lines : List Entry) → counted lines ≤ told lines
  no_more_counted so [] = omega arith
  no_more_counted so (e ∷ lines) =
      let more : more_if (p e) (counted lines) ≤ more_if (bytes_eq its (entry_text e)) (told lines) =
      rises (p e) (bytes_eq its (entry_text e)) (counted lines) (told lines)
      (λ is. (bytes_eq-Decides its (entry_text e)).1 (sym (so e is))) (no_more_counted so lines) in
      omega (arith, more, one_told e lines, one_counted e lines)

-- a cancel's text is that of the job's
pub cancel_told : (job : ℕ) (e : Entry) → is_cancel_of job e ≡ true → entry_text e ≡ entry_text (entry.Cancel job)
cancel_told job (entry.Cancel other) is = ap (λ n. entry_text (entry.Cancel n)) (eqb-true other job is)
cancel_told job (entry.Job other l) is = absurd cc
cancel_told job (entry.Path other l) is = absurd cc
cancel_told job (entry.Writer class other w) is = absurd cc
cancel_told job (entry.Refused cause) is = absurd cc
cancel_told job (entry.Volume serial free kept) is = absurd cc
cancel_told job (entry.Queue queued running records) is = absurd cc
cancel_told job (entry.Date year day) is = absurd cc

-- S222's text is that of the job's S222 alone
pub s222s_counted : AreAlone → (job : ℕ) → job ≤ MOST_JOBS → (lines : List Entry) → All IsPrintableEntry lines →
    All (IsSuch (job_line_text job (line.Abend S222)) (is_s222_of job)) lines
s222s_counted alone job few lines printable = All-weaker IsPrintableEntry (IsSuch (job_line_text job (line.Abend S222)) (is_s222_of job)) so lines printable
  where
    so : (e : Entry) → IsPrintableEntry e → IsSuch (job_line_text job (line.Abend S222)) (is_s222_of job) e
    so e its is = ap (is_s222_of job) (alone.s222 job e few its is) ∙ ap (λ (b : Bool). if b then true else false) (eq-eqb job job refl)
