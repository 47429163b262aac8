-- The lines of a text whose lines are ended.
use Rattle.std.proofs.Common.{◌≡◌, ◌<◌, ◌+◌, ◌-◌, ◌++◌, ℕ, Bool, true, false, cond, List, [], ◌∷◌, length, take, get_or, refl, sym, ap, ◌∙◌, arith, append_assoc, length-append}
use Rattle.std.specs.Prelude.{not, ◌&&◌, ◌==◌, slice_index}
use Rattle.std.specs.List.{count_by, flat_map, list_all}
use Rattle.std.specs.Str.Lines.{strip_carriage_return}
use Rattle.std.proofs.lemmas.Bool.{and_parts}
use Rattle.std.proofs.lemmas.List.Folds.{list_all-append}
use Rattle.std.proofs.lemmas.List.Splits.{length-slice_split, slice_split_at}
use Rattle.std.proofs.Math.Seq.{take-append_seam}
use Rattle.session_text.specs.declared.statement.Ending.TheVariants.{Whole}
use Rattle.session_text.specs.Lines.{ended_lines, lines_of, open_line, parts_of}
use Rattle.reader_laws.specs.SpelledForms.{is_of_line}
use Rattle.reader_laws.specs.SpelledSessions.{ended}
use Rattle.reader_laws.proofs.Fields.{none_pass}

-- a line before other parts
ended_more : (part : List ℕ) (parts : List (List ℕ)) → 0 < length parts → ended_lines (part ∷ parts) ≡ strip_carriage_return part ∷ ended_lines parts
ended_more part [] h = absurd (omega arith)
ended_more part (next ∷ parts) h = refl

open_more : (part : List ℕ) (parts : List (List ℕ)) → 0 < length parts → open_line (part ∷ parts) ≡ open_line parts
open_more part [] h = absurd (omega arith)
open_more part (next ∷ parts) h = refl

some_parts : (text : List ℕ) → 0 < length (parts_of text)
some_parts text = let e : length (parts_of text) ≡ count_by (λ b. b == 10) text + 1 = length-slice_split (λ b. b == 10) text in omega arith

line_before : (line rest : List ℕ) → list_all (λ c. not (c == 10)) line ≡ true →
    lines_of Whole (line ++ 10 ∷ rest) ≡ strip_carriage_return line ∷ lines_of Whole rest
line_before line rest h =
    let at : parts_of (line ++ 10 ∷ rest) ≡ line ∷ parts_of rest = slice_split_at (λ b. b == 10) line 10 rest (none_pass (λ b. b == 10) line h) refl in
    ap (λ (parts : List (List ℕ)). ended_lines parts ++ open_line parts) at
    ∙ ap (λ (lines : List (List ℕ)). lines ++ open_line (line ∷ parts_of rest)) (ended_more line (parts_of rest) (some_parts rest))
    ∙ ap (λ (lines : List (List ℕ)). strip_carriage_return line ∷ (ended_lines (parts_of rest) ++ lines)) (open_more line (parts_of rest) (some_parts rest))

-- of all characters, one
last_other : (c : ℕ) (cs : List ℕ) (k : ℕ) → k < length (c ∷ cs) → list_all (λ d. not (d == 13)) (c ∷ cs) ≡ true → (get_or (c ∷ cs) k 0 == 13) ≡ false
last_other c cs k h all = none_pass (λ d. d == 13) (c ∷ cs) all k 0 h

kept_line : (line : List ℕ) → list_all (λ c. not (c == 13)) line ≡ true → strip_carriage_return line ≡ line
kept_line [] h = refl
kept_line (c ∷ cs) h =
    ap (λ (b : Bool). cond b (take (length (c ∷ cs) - 1) (c ∷ cs)) (c ∷ cs)) (last_other c cs (length (c ∷ cs) - 1) (omega arith) h)

last_of : (line : List ℕ) → slice_index (line ++ 13 ∷ []) (length line) ≡ 13
last_of [] = refl
last_of (c ∷ line) = last_of line

stripped : (line : List ℕ) → strip_carriage_return (line ++ 13 ∷ []) ≡ line
stripped line =
    let text : List ℕ = line ++ 13 ∷ [] in
    let sum : length text ≡ length line + 1 = length-append line (13 ∷ []) in
    let at : length text - 1 ≡ length line = omega arith in
    ap (λ (n : ℕ). cond (slice_index text n == 13) (take n text) text) at
    ∙ ap (λ (c : ℕ). cond (c == 13) (take (length line) text) text) (last_of line)
    ∙ take-append_seam line (13 ∷ [])

each : (p q : ℕ → Bool) (text : List ℕ) → ((c : ℕ) → p c ≡ true → q c ≡ true) → list_all p text ≡ true → list_all q text ≡ true
each p q [] h all = refl
each p q (c ∷ text) h all =
    let halves = and_parts (p c) (list_all p text) all in
    ap (λ (b : Bool). b && list_all q text) (h c halves.0) ∙ each p q text h halves.1

no_feed : (line : List ℕ) → list_all is_of_line line ≡ true → list_all (λ c. not (c == 10)) line ≡ true
no_feed line h = each is_of_line (λ c. not (c == 10)) line (λ c e. (and_parts (not (c == 10)) (not (c == 13)) e).0) h

no_return : (line : List ℕ) → list_all is_of_line line ≡ true → list_all (λ c. not (c == 13)) line ≡ true
no_return line h = each is_of_line (λ c. not (c == 13)) line (λ c e. (and_parts (not (c == 10)) (not (c == 13)) e).1) h

-- a line that is ended, in either way
line_is : (returns : Bool) (line rest : List ℕ) → list_all is_of_line line ≡ true → lines_of Whole (ended returns line ++ rest) ≡ line ∷ lines_of Whole rest
line_is false line rest h =
    ap (lines_of Whole) (append_assoc line (10 ∷ []) rest) ∙ line_before line rest (no_feed line h)
    ∙ ap (λ (l : List ℕ). l ∷ lines_of Whole rest) (kept_line line (no_return line h))
line_is true line rest h =
    let with_return : list_all (λ c. not (c == 10)) (line ++ 13 ∷ []) ≡ true =
    list_all-append (λ c. not (c == 10)) line (13 ∷ []) ∙ ap (λ (b : Bool). b && true) (no_feed line h) in
    ap (lines_of Whole) (append_assoc line (13 ∷ 10 ∷ []) rest ∙ sym (append_assoc line (13 ∷ []) (10 ∷ rest)))
    ∙ line_before (line ++ 13 ∷ []) rest with_return
    ∙ ap (λ (l : List ℕ). l ∷ lines_of Whole rest) (stripped line)

pub lines_are : (returns : Bool) (lines : List (List ℕ)) (rest : List ℕ) → list_all (list_all is_of_line) lines ≡ true →
    lines_of Whole (flat_map (ended returns) lines ++ rest) ≡ lines ++ lines_of Whole rest
lines_are returns [] rest h = refl
lines_are returns (line ∷ lines) rest h =
    let halves = and_parts (list_all is_of_line line) (list_all (list_all is_of_line) lines) h in
    ap (lines_of Whole) (append_assoc (ended returns line) (flat_map (ended returns) lines) rest)
    ∙ line_is returns line (flat_map (ended returns) lines ++ rest) halves.0
    ∙ ap (λ (others : List (List ℕ)). line ∷ others) (lines_are returns lines rest halves.1)
