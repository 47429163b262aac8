-- Each line of a listing's text is one of the listing's.
use Rattle.std.proofs.Common.{◌≡◌, ◌≢◌, ◌⊎◌, inl, inr, ◌++◌, ℕ, List, [], ◌∷◌, append_assoc, refl, sym, ap, ◌∙◌, subst}
use Rattle.std.specs.List.{flat_map}
use Rattle.std.proofs.lemmas.List.{same_from_push}
use Rattle.std.proofs.lemmas.List.Elements.{All-head, All-tail}
use Rattle.jcl_plan.specs.declared.entry.Entry.{Entry}
use Rattle.jcl_plan.specs.Lines.{entry_text, text_of}
use Rattle.line_laws.specs.Lines.{IsLineStart}
use Rattle.line_laws.specs.LineLaws.{LinesStand, StandsIn}
use Rattle.line_laws.specs.Printable.{IsPrintableEntry}
use Rattle.line_laws.proofs.Cuts.{IsWithout, same_cut, two_cuts}
use Rattle.line_laws.proofs.Printables.{no_feed}
use Rattle.line_laws.proofs.WholeLines.{first_then, front_without}

-- a text has its byte
has_it : (c : ℕ) (x v : List ℕ) → IsWithout c (x ++ c ∷ v) → ⊥
has_it c [] v h = All-head (λ d. d ≢ c) c v h refl
has_it c (a ∷ x) v h = has_it c x v (All-tail (λ d. d ≢ c) a (x ++ c ∷ v) h)

-- a line start without a line feed is the text's
is_first : (front : List ℕ) → IsWithout 10 front → IsLineStart front → front ≡ []
is_first front h (inl e) = e
is_first front h (inr s) = absurd (has_it 10 s.0 [] (subst (IsWithout 10) s.1 h))

not_empty : (x : List ℕ) (c : ℕ) (v : List ℕ) → x ++ c ∷ v ≡ [] → ⊥
not_empty [] c v e = cc
not_empty (a ∷ x) c v e = cc

last_of : (v : List ℕ) → (v ≡ []) ⊎ ((b : List ℕ) × (c : ℕ) × (v ≡ b ++ c ∷ []))
last_of [] = inl refl
last_of (a ∷ v) = on (last_of v)
  where
    on : (v ≡ []) ⊎ ((b : List ℕ) × (c : ℕ) × (v ≡ b ++ c ∷ [])) → (a ∷ v ≡ []) ⊎ ((b : List ℕ) × (c : ℕ) × (a ∷ v ≡ b ++ c ∷ []))
    on (inl e) = inr ([], a, ap (λ t. a ∷ t) e)
    on (inr s) = inr (a ∷ s.0, s.1, ap (λ t. a ∷ t) s.2)

-- behind a line feed a line start is one of what follows
is_start : (x v : List ℕ) → IsLineStart (x ++ 10 ∷ v) → IsLineStart v
is_start x v (inl e) = absurd (not_empty x 10 v e)
is_start x v (inr s) = on (last_of v)
  where
    on : (v ≡ []) ⊎ ((b : List ℕ) × (c : ℕ) × (v ≡ b ++ c ∷ [])) → IsLineStart v
    on (inl e) = inl e
    on (inr t) =
        let whole : (x ++ 10 ∷ t.0) ++ t.1 ∷ [] ≡ s.0 ++ 10 ∷ [] =
        append_assoc x (10 ∷ t.0) (t.1 ∷ []) ∙ ap (λ z. x ++ 10 ∷ z) (sym t.2) ∙ s.1 in
        let last = same_from_push (x ++ 10 ∷ t.0) s.0 t.1 10 whole in
        inr (t.0, t.2 ∙ ap (λ c. t.0 ++ c ∷ []) last.1)

-- the first line of a listing
stands_first : (e : Entry) (es : List Entry) (front text behind : List ℕ) → front ≡ [] → (entry_text e ≡ text) × (flat_map text_of es ≡ behind) →
    StandsIn (e ∷ es) front text behind
stands_first e es front text behind none same =
    record { before = []; its = e; after = es; stands = refl; front_so = none; text_so = sym same.0; behind_so = sym same.1 }

-- a line of the others
stands_later : (e : Entry) (es : List Entry) (front v text behind : List ℕ) → front ≡ entry_text e ++ 10 ∷ v → StandsIn es v text behind →
    StandsIn (e ∷ es) front text behind
stands_later e es front v text behind f s = record {
  before = e ∷ s.before;
  its = s.its;
  after = s.after;
  stands = ap (λ l. e ∷ l) s.stands;
  front_so = f ∙ ap (λ t. entry_text e ++ 10 ∷ t) s.front_so ∙ sym (first_then e s.before);
  text_so = s.text_so;
  behind_so = s.behind_so;
}

pub lines_stand : LinesStand
lines_stand [] front text behind all free start so =
    absurd (not_empty (front ++ text) 10 behind (append_assoc front text (10 ∷ behind) ∙ sym so))
lines_stand (e ∷ es) front text behind all free start so =
    by (λ v starts rest. lines_stand es v text behind (All-tail IsPrintableEntry e es all) free starts rest)
    (two_cuts (entry_text e) 10 (flat_map text_of es) front (text ++ 10 ∷ behind) whole)
  where
    bare : IsWithout 10 (entry_text e)
    bare = no_feed e (All-head IsPrintableEntry e es all)

    whole : entry_text e ++ 10 ∷ flat_map text_of es ≡ front ++ (text ++ 10 ∷ behind)
    whole = sym (first_then e es) ∙ so

    by : ((v : List ℕ) → IsLineStart v → flat_map text_of es ≡ v ++ (text ++ 10 ∷ behind) → StandsIn es v text behind) →
        ((v : List ℕ) × (entry_text e ≡ front ++ v)) ⊎ ((v : List ℕ) × (front ≡ entry_text e ++ 10 ∷ v)
        × (flat_map text_of es ≡ v ++ (text ++ 10 ∷ behind))) → StandsIn (e ∷ es) front text behind
    by fewer (inl s) =
        let none = is_first front (front_without 10 front s.0 (subst (IsWithout 10) s.1 bare)) start in
        stands_first e es front text behind none
        (same_cut 10 (entry_text e) (flat_map text_of es) text behind bare free (whole ∙ ap (λ f. f ++ (text ++ 10 ∷ behind)) none))
    by fewer (inr s) =
        stands_later e es front s.0 text behind s.1 (fewer s.0 (is_start (entry_text e) s.0 (subst IsLineStart s.1 start)) s.2)
