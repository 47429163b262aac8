-- The lines of an assured job behind its line, in bytes.
use Rattle.std.proofs.Common.{◌≡◌, ◌≤◌, ℕ, zero, suc, Bool, true, false, List, [], ◌∷◌, ◌++◌, All, length, map, take, drop, take-append-drop, Option, Some, None, arith, refl, sym, ap, subst, ◌∙◌}
use Rattle.std.specs.Prelude.{◌||◌, ◌==◌, filter, if◌then◌else◌}
use Rattle.std.specs.List.{Contains, cons_option, filter_map, flat_map, list_any}
use Rattle.std.proofs.lemmas.Bool.{eqb-true, or_right}
use Rattle.std.proofs.lemmas.List.Elements.{All-contains, All-take, filter_map-append}
use Rattle.jcl_plan.specs.declared.entry.Entry.{Entry}
use Rattle.jcl_plan.specs.declared.entry.Entry.TheVariants as entry
use Rattle.jcl_plan.specs.declared.entry.JobLine.{JobLine}
use Rattle.jcl_plan.specs.declared.entry.JobLine.TheVariants as line
use Rattle.jcl_plan.specs.Lines.{job_line_text, text_of}
use Rattle.machine_meaning.specs.declared.machine.TheConstants.{MOST_JOBS}
use Rattle.world_meaning.specs.Headlines.{is_end, line_of}
use Rattle.law_core.proofs.Elements.{contains_first, contains_later}
use Rattle.line_laws.specs.LineLaws.{AreAlone, LinesAreTexts, LinesOfJobs}
use Rattle.line_laws.specs.Lines.{is_of_job, lines_of_job}
use Rattle.line_laws.specs.Printable.{IsPrintableEntry}

-- what a front of a list has of a job, and what stands behind that
pub heard_front : (job : ℕ) (count : ℕ) (lines : List Entry) →
    filter_map (line_of job) lines ≡ filter_map (line_of job) (take count lines) ++ filter_map (line_of job) (drop count lines)
heard_front job count lines =
    ap (filter_map (line_of job)) (sym (take-append-drop count lines)) ∙ filter_map-append (line_of job) (take count lines) (drop count lines)

-- the first of a list are as many
pub take_front : {X : Type 0} (xs ys : List X) → take (length xs) (xs ++ ys) ≡ xs
take_front [] ys = refl
take_front (x ∷ xs) ys = ap (λ (zs : List _). x ∷ zs) (take_front xs ys)

-- one among the texts of a job's lines that is END's
some_end : (job : ℕ) (lines : List JobLine) → ((l : JobLine) → Contains lines l → job_line_text job l ≡ job_line_text job line.End → l ≡ line.End) →
    Contains (map (job_line_text job) lines) (job_line_text job line.End) → list_any is_end lines ≡ true
some_end job [] alone (n, less, is) = let no : ⊥ = omega (arith, less) in absurd no
some_end job (l ∷ lines) alone (zero, less, is) =
    ap (λ (b : Bool). b || list_any is_end lines) (ap is_end (alone l (0, omega arith, refl) is))
some_end job (l ∷ lines) alone (suc n, less, is) =
    or_right (is_end l) (list_any is_end lines)
    (some_end job lines (λ m there. alone m (contains_later l m lines there)) (n, omega (arith, less), is))

-- a line of the job
its_line : (job : ℕ) (e : Entry) (l : JobLine) → line_of job e ≡ Some l → e ≡ entry.Job job l
its_line job (entry.Job other k) l h = by_job (other == job) refl h
  where
    by_job : (b : Bool) → (other == job) ≡ b → (if b then Some k else None) ≡ Some l → entry.Job other k ≡ entry.Job job l
    by_job true same h = let one : k ≡ l = cc in (λ i. entry.Job (eqb-true other job same i) (one i))
    by_job false same h = absurd cc
its_line job (entry.Path other k) l h = absurd cc
its_line job (entry.Cancel other) l h = absurd cc
its_line job (entry.Writer class other w) l h = absurd cc
its_line job (entry.Refused cause) l h = absurd cc
its_line job (entry.Volume serial free kept) l h = absurd cc
its_line job (entry.Queue queued running records) l h = absurd cc
its_line job (entry.Date year day) l h = absurd cc

module _ (job : ℕ) (e : Entry) (lines : List Entry) (l : JobLine)
    (later : Contains (filter_map (line_of job) lines) l → Contains lines (entry.Job job l)) where
  at_first : (m : JobLine) → line_of job e ≡ Some m → Contains (m ∷ filter_map (line_of job) lines) l → Contains (e ∷ lines) (entry.Job job l)
  at_first m is (zero, less, same) = subst (Contains (e ∷ lines)) (its_line job e m is ∙ ap (entry.Job job) same) (contains_first e lines)
  at_first m is (suc n, less, same) = contains_later e (entry.Job job l) lines (later (n, omega (arith, less), same))

  by_line : (o : Option JobLine) → line_of job e ≡ o → Contains (cons_option (line_of job e) (filter_map (line_of job) lines)) l →
      Contains (e ∷ lines) (entry.Job job l)
  by_line None is there =
      contains_later e (entry.Job job l) lines (later (subst (λ (o : Option JobLine). Contains (cons_option o (filter_map (line_of job) lines)) l) is there))
  by_line (Some m) is there = at_first m is (subst (λ (o : Option JobLine). Contains (cons_option o (filter_map (line_of job) lines)) l) is there)

-- a job's line that is heard stands among the lines
stands_among : (job : ℕ) (lines : List Entry) (l : JobLine) → Contains (filter_map (line_of job) lines) l → Contains lines (entry.Job job l)
stands_among job [] l (n, less, is) = let no : ⊥ = omega (arith, less) in absurd no
stands_among job (e ∷ lines) l there = by_line job e lines l (stands_among job lines l) (line_of job e) refl there

-- the whole lines of a job in a front of the text of some lines
pub record IsHeardIn (job : ℕ) (lines : List Entry) (text : List ℕ) : Type 0 where
  pub heard : List JobLine
  pub unheard : List JobLine
  pub texts : lines_of_job job text ≡ map (job_line_text job) heard
  pub front : filter_map (line_of job) lines ≡ heard ++ unheard
  pub ends : Contains (lines_of_job job text) (job_line_text job line.End) → list_any is_end heard ≡ true

pub heard_in : LinesAreTexts → LinesOfJobs → AreAlone → (job : ℕ) → job ≤ MOST_JOBS → (lines : List Entry) → All IsPrintableEntry lines → (text rest : List ℕ) →
    flat_map text_of lines ≡ text ++ rest → IsHeardIn job lines text
heard_in texts of_jobs alone job few lines printable text rest is =
    let cut = texts lines text rest printable is in
    let front : List Entry = take cut.0 lines in
    let all : All IsPrintableEntry front = All-take IsPrintableEntry cut.0 lines printable in
    let its : lines_of_job job text ≡ map (job_line_text job) (filter_map (line_of job) front) =
    ap (filter (is_of_job job)) cut.1 ∙ of_jobs job front few all in
    record {
      heard = filter_map (line_of job) front;
      unheard = filter_map (line_of job) (drop cut.0 lines);
      texts = its;
      front = heard_front job cut.0 lines;
      ends = λ there. some_end job (filter_map (line_of job) front)
          (λ l h same. let e : entry.Job job l ≡ entry.Job job line.End =
          alone.end job (entry.Job job l) few (All-contains IsPrintableEntry front (entry.Job job l) all (stands_among job front l h)) same in cc)
          (subst (λ (xs : List (List ℕ)). Contains xs (job_line_text job line.End)) its there);
    }
