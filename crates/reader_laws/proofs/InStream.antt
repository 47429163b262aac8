-- Data cards behind a statement.
use Rattle.std.proofs.Common.{◌≡◌, ◌+◌, ◌++◌, ℕ, Bool, true, false, cond, List, [], ◌∷◌, Option, Some, None, Err, map, length, drop, refl, ap, ◌∙◌, arith}
use Rattle.std.specs.Prelude.{not, ◌&&◌, ◌||◌, codes}
use Rattle.std.specs.List.{list_all}
use Rattle.std.specs.Str.{bytes_eq}
use Rattle.std.proofs.lemmas.Bool.{and_parts}
use Rattle.std.proofs.Math.Seq.{drop-append_seam}
use Rattle.card_core.specs.declared.data.Opens.{Opens}
use Rattle.card_core.specs.declared.fault.CardFault.{CardFault}
use Rattle.card_core.specs.declared.statement.Statement.{Statement}
use Rattle.card_core.specs.Cards.{filled}
use Rattle.card_core.specs.Deck.{Card, Statements, data_cards, data_of, delimiters_at, ends_data, is_early, is_exec, onto, used_by_data, with_data}
use Rattle.card_core.specs.Fields.{opens}
use Rattle.reader_laws.specs.WrittenCards.{data_lines, has_cards, has_word, is_data, is_data_line, on_cards, takes_data}
use Rattle.reader_laws.specs.WrittenCards as written
use Rattle.reader_laws.proofs.Fronts.{front_is}

-- what a statement opens, by whether it is a DD and by its word
opens_nothing : (d s t : Bool) → not (d && (s || t)) ≡ true →
    cond d (cond s Opens.ToStatement (cond t Opens.ToDelimiter Opens.Nothing)) Opens.Nothing ≡ Opens.Nothing
opens_nothing false s t h = refl
opens_nothing true true t h = absurd cc
opens_nothing true false true h = absurd cc
opens_nothing true false false h = refl

data OpensData (s : Bool) (kind : Opens) : Type 0 where
  short : s ≡ true → kind ≡ Opens.ToStatement → OpensData s kind
  long : kind ≡ Opens.ToDelimiter → OpensData s kind

opens_data : (d s t : Bool) → (d && (s || t)) ≡ true → OpensData s (cond d (cond s Opens.ToStatement (cond t Opens.ToDelimiter Opens.Nothing)) Opens.Nothing)
opens_data false s t h = absurd cc
opens_data true true t h = short refl refl
opens_data true false true h = long refl
opens_data true false false h = absurd cc

-- the cards and a delimiter, which the reader takes
lines_are : (lines rest : List Card) (last : Card) → map filled (lines ++ last ∷ []) ++ rest ≡ map filled lines ++ (filled last ∷ rest)
lines_are [] rest last = refl
lines_are (line ∷ lines) rest last = ap (λ (cards : List Card). filled line ∷ cards) (lines_are lines rest last)

count_is : (lines : List Card) (last : Card) → length (map filled lines) + 1 ≡ length (map filled (lines ++ last ∷ []))
count_is [] last = refl
count_is (line ∷ lines) last = let e : length (map filled lines) + 1 ≡ length (map filled (lines ++ last ∷ [])) = count_is lines last in omega arith

no_early : (called : Bool) (lines : List Card) → (called || not (has_cards (Some lines))) ≡ true → is_early called (Some (map filled lines)) ≡ false
no_early called [] h = refl
no_early true (line ∷ lines) h = refl
no_early false (line ∷ lines) h = absurd cc

-- the statement with its data, where the reader takes these cards
taken : (called : Bool) (name operation operand : List ℕ) (used : ℕ) (front behind : List Card) (next : Bool → ℕ → Statements) → Statements
taken called name operation operand used front behind next =
    cond (is_early called (Some front)) (Err CardFault.DataBeforeExec)
    (onto (record { name = name; operation = operation; operand = operand; cards = Some front })
    (next (called || is_exec operation) (used + (length front + delimiters_at (drop (length front) behind)))))

taken_is : (called : Bool) (name operation operand : List ℕ) (used : ℕ) (front : List Card) (lines rest : List Card) (next : Bool → ℕ → Statements) →
    (called || not (has_cards (Some lines))) ≡ true → front ≡ map filled lines →
    taken called name operation operand used front (map filled lines ++ (filled (codes "/*") ∷ rest)) next
    ≡ onto (record { name = name; operation = operation; operand = operand; cards = Some (map filled lines) })
    (next (called || is_exec operation) (used + length (map filled (data_lines (Some lines)))))
unfolding taken
taken_is called name operation operand used front lines rest next early is =
    let s : Statement = record { name = name; operation = operation; operand = operand; cards = Some (map filled lines) } in
    let behind : List Card = map filled lines ++ (filled (codes "/*") ∷ rest) in
    let c : Bool = called || is_exec operation in
    ap (λ (f : List Card). taken called name operation operand used f behind next) is
    ∙ ap (λ (b : Bool). cond b (Err CardFault.DataBeforeExec) (onto s (next c (used + (length (map filled lines) + delimiters_at (drop (length
    (map filled lines)) behind)))))) (no_early called lines early)
    ∙ ap (λ (cards : List Card). onto s (next c (used + (length (map filled lines) + delimiters_at cards)))) (drop-append_seam (map filled lines)
    (filled (codes "/*") ∷ rest))
    ∙ ap (λ (n : ℕ). onto s (next c (used + n))) (count_is lines (codes "/*"))

-- of the lines, none ends the data
short_line : (s a b : Bool) → s ≡ true → (not a && (not s || not b)) ≡ true → not (a || b) ≡ true
short_line true true b e h = absurd cc
short_line true false true e h = absurd cc
short_line true false false e h = refl
short_line false a b e h = absurd cc

short_lines : (operand : List ℕ) (lines : List Card) → has_word operand (codes "*") ≡ true → list_all (is_data_line operand) lines ≡ true →
    list_all (λ card. not (ends_data Opens.ToStatement card)) (map filled lines) ≡ true
short_lines operand [] word h = refl
short_lines operand (line ∷ lines) word h =
    let halves = and_parts (is_data_line operand line) (list_all (is_data_line operand) lines) h in
    ap (λ (b : Bool). b && list_all (λ card. not (ends_data Opens.ToStatement card)) (map filled lines))
    (short_line (has_word operand (codes "*")) (written.ends_data line) (written.begins_statement line) word halves.0)
    ∙ short_lines operand lines word halves.1

long_lines : (operand : List ℕ) (lines : List Card) → list_all (is_data_line operand) lines ≡ true →
    list_all (λ card. not (ends_data Opens.ToDelimiter card)) (map filled lines) ≡ true
long_lines operand [] h = refl
long_lines operand (line ∷ lines) h =
    let halves = and_parts (is_data_line operand line) (list_all (is_data_line operand) lines) h in
    ap (λ (b : Bool). b && list_all (λ card. not (ends_data Opens.ToDelimiter card)) (map filled lines))
    (and_parts (not (written.ends_data line)) (not (has_word operand (codes "*")) || not (written.begins_statement line)) halves.0).0
    ∙ long_lines operand lines halves.1

-- a statement of this kind and what is behind it
of_kind : Opens → Bool → List ℕ → List ℕ → List ℕ → ℕ → List Card → (Bool → ℕ → Statements) → Statements
of_kind kind called name operation operand used behind next =
    cond (is_early called (data_of kind behind)) (Err CardFault.DataBeforeExec)
    (onto (record { name = name; operation = operation; operand = operand; cards = data_of kind behind })
    (next (called || is_exec operation) (used + used_by_data kind behind)))

kind_is : (kind : Opens) (called : Bool) (name operation operand : List ℕ) (used : ℕ) (lines rest : List Card) (next : Bool → ℕ → Statements) →
    OpensData (has_word operand (codes "*")) kind → list_all (is_data_line operand) lines ≡ true → (called || not (has_cards (Some lines))) ≡ true →
    of_kind kind called name operation operand used (map filled lines ++ (filled (codes "/*") ∷ rest)) next
    ≡ onto (record { name = name; operation = operation; operand = operand; cards = Some (map filled lines) })
    (next (called || is_exec operation) (used + length (map filled (data_lines (Some lines)))))
unfolding of_kind taken
kind_is kind called name operation operand used lines rest next (short word is) all early =
    let behind : List Card = map filled lines ++ (filled (codes "/*") ∷ rest) in
    ap (λ (k : Opens). of_kind k called name operation operand used behind next) is
    ∙ taken_is called name operation operand used (data_cards Opens.ToStatement behind) lines rest next early
    (front_is (λ card. not (ends_data Opens.ToStatement card)) (map filled lines) (filled (codes "/*") ∷ rest) (short_lines operand lines word all) refl)
kind_is kind called name operation operand used lines rest next (long is) all early =
    let behind : List Card = map filled lines ++ (filled (codes "/*") ∷ rest) in
    ap (λ (k : Opens). of_kind k called name operation operand used behind next) is
    ∙ taken_is called name operation operand used (data_cards Opens.ToDelimiter behind) lines rest next early
    (front_is (λ card. not (ends_data Opens.ToDelimiter card)) (map filled lines) (filled (codes "/*") ∷ rest) (long_lines operand lines all) refl)

-- the data of a written statement are what its lines hold
pub data_are : (called : Bool) (name operation operand : List ℕ) (used : ℕ) (cards : Option (List Card)) (rest : List Card) (next : Bool → ℕ → Statements) →
    is_data operation operand cards ≡ true → (called || not (has_cards cards)) ≡ true →
    with_data called name operation operand used (map filled (data_lines cards) ++ rest) next
    ≡ onto (record { name = name; operation = operation; operand = operand; cards = on_cards cards })
    (next (called || is_exec operation) (used + length (map filled (data_lines cards))))
unfolding of_kind
data_are called name operation operand used None rest next h early =
    ap (λ (k : Opens). of_kind k called name operation operand used rest next)
    (opens_nothing (bytes_eq operation (codes "DD")) (has_word operand (codes "*")) (has_word operand (codes "DATA")) h)
data_are called name operation operand used (Some lines) rest next h early =
    let halves = and_parts (takes_data operation operand) (list_all (is_data_line operand) lines) h in
    ap (λ (cards : List Card). with_data called name operation operand used cards next) (lines_are lines rest (codes "/*"))
    ∙ kind_is (opens operation operand) called name operation operand used lines rest next
    (opens_data (bytes_eq operation (codes "DD")) (has_word operand (codes "*")) (has_word operand (codes "DATA")) halves.0) halves.1 early
