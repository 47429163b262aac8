-- Marks of statements, one behind another, and the place of a byte among them.
use Rattle.std.proofs.Common.{◌≡◌, ◌⊎◌, ℕ, ◌+◌, ◌-◌, ◌<◌, ◌≤◌, List, [], ◌∷◌, ◌++◌, length, take, drop, get_or, refl, sym, ap, ◌∙◌, inl, inr, ⊎_elim, append_assoc, arith, length-append}
use Rattle.std.proofs.lemmas.List.{append-nil, at_drop_more, drop_all, take-append-le}
use Rattle.std.proofs.Math.Seq.{take-append-add}
use Rattle.session_text.specs.declared.statement.Statement.{Statement}
use Rattle.run_options.specs.declared.Options.{Options}
use Rattle.session_core.specs.declared.listing.Mark.{Mark}
use Rattle.session_core.specs.Listings.{StopsIn}
use Rattle.session_core.specs.Marks.{AreMarks, IsListedLast}

-- one more statement, which wrote the last part
pub AreMarks-more : (o : Options) (stands : List Statement) (out : ℕ) (earlier : List ℕ) (marks : List Mark) (text part : List ℕ) (line start : ℕ)
    → out + start ≡ length (earlier ++ text)
    → AreMarks o stands out earlier marks text → IsListedLast o stands line (earlier ++ text) part
    → AreMarks o stands out earlier (marks ++ record { line = line; start = start } ∷ []) (text ++ part)
AreMarks-more o stands out earlier [] text part line start place are last =
    let none : earlier ++ text ≡ earlier = ap (λ x. earlier ++ x) are ∙ append-nil earlier in
    (part, [], ap (λ x. x ++ part) are ∙ sym (append-nil part), place ∙ ap length none, rw none at last, refl)
AreMarks-more o stands out earlier (mark ∷ marks) text part line start place are last =
    let same : (earlier ++ are.0) ++ are.1 ≡ earlier ++ text = append_assoc earlier are.0 are.1 ∙ ap (λ x. earlier ++ x) (sym are.2) in
    let rest = AreMarks-more o stands out (earlier ++ are.0) marks are.1 part line start (rw same place) are.5 (rw same last) in
    (are.0, are.1 ++ part, ap (λ x. x ++ part) are.2 ∙ append_assoc are.0 are.1 part, are.3, are.4, rest)

-- The marks so far, up to a byte's place: what they wrote, what the others wrote, and the last of them, which begins before the place.
pub record Passed (o : Options) (stands : List Statement) (out : ℕ) (whole : List ℕ) (taken line : ℕ) (left : List Mark) : Type 0 where
  pub passed : List ℕ
  pub rest : List ℕ
  pub whole_so : whole ≡ passed ++ rest
  pub marks : AreMarks o stands out passed left rest
  pub last : (length passed ≤ out + taken)
      ⊎ ((earlier : List ℕ) × (own : List ℕ) × (length earlier ≤ out + taken) × (passed ≡ earlier ++ own) × IsListedLast o stands line earlier own)

pub Passed-none : (o : Options) (stands : List Statement) (before text : List ℕ) (taken line : ℕ) (marks : List Mark) → AreMarks o stands (length before) before marks text
    → Passed o stands (length before) (before ++ text) taken line marks
Passed-none o stands before text taken line marks are = record { passed = before; rest = text; whole_so = refl; marks = are; last = inl (omega arith) }

pub Passed-more : (o : Options) (stands : List Statement) (out : ℕ) (whole : List ℕ) (taken line : ℕ) (mark : Mark) (left : List Mark)
    → Passed o stands out whole taken line (mark ∷ left) → mark.start ≤ taken
    → Passed o stands out whole taken mark.line left
Passed-more o stands out whole taken line mark left p begins = record {
  passed = p.passed ++ p.marks.0;
  rest = p.marks.1;
  whole_so = p.whole_so ∙ ap (λ x. p.passed ++ x) p.marks.2 ∙ sym (append_assoc p.passed p.marks.0 p.marks.1);
  marks = p.marks.5;
  last = inr (p.passed, p.marks.0, omega (arith, p.marks.3), refl, p.marks.4);
}

-- the place is within what the last of them wrote
stops : (o : Options) (stands : List Statement) (whole passed rest earlier own : List ℕ) (place line : ℕ) → whole ≡ passed ++ rest → place < length passed
    → length earlier ≤ place → passed ≡ earlier ++ own → IsListedLast o stands line earlier own
    → StopsIn o stands line (take place whole)
stops o stands whole passed rest earlier own place line is within begins split last =
    let front : take place whole ≡ take place passed = rw is (take-append-le place passed rest (omega arith)) in
    let at : place ≡ length earlier + (place - length earlier) = omega arith in
    record {
      before = last.before;
      statement = last.statement;
      after = last.after;
      stands_so = last.stands_so;
      at = last.at;
      done = last.done;
      in_statement = last.in_statement;
      earlier = earlier;
      own = own;
      lists = last.lists;
      taken = place - length earlier;
      is_written = front ∙ ap (take place) split ∙ ap (λ n. take n (earlier ++ own)) at ∙ take-append-add earlier own (place - length earlier);
      not_whole = omega (arith, ap length split, length-append earlier own);
    }

pub Passed-stops : (o : Options) (stands : List Statement) (out : ℕ) (whole : List ℕ) (taken line : ℕ) (left : List Mark)
    → (p : Passed o stands out whole taken line left) → out + taken < length p.passed
    → StopsIn o stands line (take (out + taken) whole)
Passed-stops o stands out whole taken line left p within =
    ⊎_elim (λ short. absurd (omega arith))
    (λ last. stops o stands whole p.passed p.rest last.0 last.1 (out + taken) line p.whole_so within last.2 last.3 last.4) p.last

-- it is before the next mark
pub Passed-next : (o : Options) (stands : List Statement) (before text : List ℕ) (taken line : ℕ) (mark : Mark) (left : List Mark)
    → Passed o stands (length before) (before ++ text) taken line (mark ∷ left)
    → taken < mark.start → StopsIn o stands line (before ++ take taken text)
Passed-next o stands before text taken line mark left p next =
    rw (take-append-add before text taken) at (Passed-stops o stands (length before) (before ++ text) taken line (mark ∷ left) p (omega (arith, p.marks.3)))

-- it is before the end
pub Passed-all : (o : Options) (stands : List Statement) (before text : List ℕ) (taken line : ℕ) → Passed o stands (length before) (before ++ text) taken line []
    → taken < length text
    → StopsIn o stands line (before ++ take taken text)
Passed-all o stands before text taken line p within =
    let all : length before + length text ≡ length p.passed = sym (length-append before text)
    ∙ ap length (p.whole_so ∙ ap (λ x. p.passed ++ x) p.marks ∙ append-nil p.passed) in
    rw (take-append-add before text taken) at (Passed-stops o stands (length before) (before ++ text) taken line [] p (omega arith))

-- the next mark is the one at an index
pub at_mark : (o : Options) (stands : List Statement) (out : ℕ) (whole : List ℕ) (taken line index : ℕ) (marks : List Mark) (d : Mark) → index < length marks
    → Passed o stands out whole taken line (drop index marks)
    → Passed o stands out whole taken line (get_or marks index d ∷ drop (index + 1) marks)
at_mark o stands out whole taken line index marks d lt p = rw (at_drop_more (λ xs. xs) marks index d lt) at p

pub behind_marks : (o : Options) (stands : List Statement) (out : ℕ) (whole : List ℕ) (taken line index : ℕ) (marks : List Mark) → length marks ≤ index
    → Passed o stands out whole taken line (drop index marks)
    → Passed o stands out whole taken line []
behind_marks o stands out whole taken line index marks le p = rw (drop_all index marks le) at p
