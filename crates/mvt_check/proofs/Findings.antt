-- The column of a finding, line by line.
use Rattle.std.proofs.Common.{◌≡◌, ℕ, ◌+◌, ◌-◌, ◌<◌, Bool, true, false, cond, not, List, [], ◌∷◌, ◌++◌, length, drop, get_or, map, Option, Some, None, Bor, refl, sym, ap, ◌∙◌, append_assoc}
use Rattle.std.proofs.lemmas.List.{drop_more, drop-map}
use Rattle.std.proofs.lemmas.List.Sums.{take_while-cons}
use Rattle.std.specs.List.{before_first, find}
use Rattle.std.specs.Option.{option_map_or}
use Rattle.mvt_check.specs.Above.{line_above, lines_above}
use Rattle.mvt_check.specs.Brief.{begins_finding, column_of, is_mark, line_in_brief, lines_in_brief}

-- the first element that passes before one that stops
find-before_first : {X : Type 0} (stops passes : X → Bool) (x : X) (xs : List X) →
    find passes (before_first stops (x ∷ xs)) ≡ cond (stops x) None (cond (passes x) (Some x) (find passes (before_first stops xs)))
find-before_first stops passes x xs = ap (λ front. find passes front) (take_while-cons (λ y. not (stops y)) x xs) ∙ by (stops x)
  where
    by : (b : Bool) → find passes (cond (not b) (x ∷ before_first stops xs) []) ≡ cond b None (cond (passes x) (Some x) (find passes (before_first stops xs)))
    by true = refl
    by false = refl

map_or-cond : {X : Type 0} (f : X → ℕ) (d : ℕ) (b c : Bool) (x : X) (o : Option X) →
    option_map_or f (cond b None (cond c (Some x) o)) d ≡ cond b d (cond c (f x) (option_map_or f o d))
map_or-cond f d true c x o = refl
map_or-cond f d false true x o = refl
map_or-cond f d false false x o = refl

-- the line behind a finding decides its column, unless it is neither a finding nor a mark
pub column_of-cons : (line : List ℕ) (lines : List (List ℕ)) →
    column_of (line ∷ lines) ≡ cond (begins_finding line) 1 (cond (is_mark line) (length line - 4) (column_of lines))
column_of-cons line lines = ap (λ mark. option_map_or (λ m. length m - 4) mark 1) (find-before_first begins_finding is_mark line lines)
    ∙ map_or-cond (λ m. length m - 4) 1 (begins_finding line) (is_mark line) line _

-- the lines from a place on
contents_at : (lines : List (Bor (List ℕ))) (i : ℕ) (d : Bor (List ℕ)) → i < length lines →
    drop i (map (λ line. line.now) lines) ≡ (get_or lines i d).now ∷ map (λ line. line.now) (drop (i + 1) lines)
contents_at lines i d within = drop-map (λ (line : Bor (List ℕ)). line.now) i lines ∙ ap (λ rest. map (λ (line : Bor (List ℕ)). line.now) rest) (drop_more lines i d within)

-- the same of the line at a place
pub column_at : (lines : List (Bor (List ℕ))) (i : ℕ) (d : Bor (List ℕ)) → i < length lines →
    column_of (drop i (map (λ line. line.now) lines))
    ≡ cond (begins_finding (get_or lines i d).now) 1 (cond (is_mark (get_or lines i d).now) (length (get_or lines i d).now - 4)
    (column_of (drop (i + 1) (map (λ line. line.now) lines))))
column_at lines i d within = rw (drop-map (λ (line : Bor (List ℕ)). line.now) (i + 1) lines)
    (ap column_of (contents_at lines i d within) ∙ column_of-cons (get_or lines i d).now (map (λ line. line.now) (drop (i + 1) lines)))

-- what is written of the lines from a place on
pub lines_at : (lines : List (Bor (List ℕ))) (i : ℕ) (d : Bor (List ℕ)) → i < length lines →
    lines_in_brief (drop i (map (λ line. line.now) lines))
    ≡ line_in_brief (get_or lines i d).now (map (λ line. line.now) (drop (i + 1) lines)) ++ lines_in_brief (drop (i + 1) (map (λ line. line.now) lines))
lines_at lines i d within = rw (drop-map (λ (line : Bor (List ℕ)). line.now) (i + 1) lines) (ap lines_in_brief (contents_at lines i d within))

-- and of lines above the deck, behind what is written already
pub above_more : (lines : List (Bor (List ℕ))) (i : ℕ) (d : Bor (List ℕ)) (old new all : List ℕ) → i < length lines →
    new ≡ old ++ 10 ∷ line_above (get_or lines i d).now → old ++ lines_above (drop i (map (λ line. line.now) lines)) ≡ all →
    new ++ lines_above (drop (i + 1) (map (λ line. line.now) lines)) ≡ all
above_more lines i d old new all within added before =
    let rest = drop (i + 1) (map (λ (line : Bor (List ℕ)). line.now) lines) in
    let here : lines_above (drop i (map (λ line. line.now) lines)) ≡ 10 ∷ line_above (get_or lines i d).now ++ lines_above rest =
    rw (drop-map (λ (line : Bor (List ℕ)). line.now) (i + 1) lines) (ap lines_above (contents_at lines i d within)) in
    ap (λ (t : List ℕ). t ++ lines_above rest) added
    ∙ append_assoc old (10 ∷ line_above (get_or lines i d).now) (lines_above rest)
    ∙ ap (λ (t : List ℕ). old ++ t) (sym here)
    ∙ before
