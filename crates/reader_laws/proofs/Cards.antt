-- A statement on its cards, and what is behind it.
use Rattle.std.proofs.Common.{◌≡◌, ◌≤◌, ◌-◌, ◌++◌, ℕ, Bool, true, false, cond, List, [], ◌∷◌, Option, Some, None, Result, Ok, Err, All, map, length, refl, sym, ap, ◌∙◌, arith, append_assoc}
use Rattle.std.specs.Prelude.{not, ◌&&◌, ◌||◌, ◌==◌, suc, zero, codes, nat_eq}
use Rattle.std.specs.List.{list_all, starts_with, take_while}
use Rattle.std.specs.Str.{bytes_eq}
use Rattle.std.proofs.lemmas.Bool.{and_parts}
use Rattle.std.proofs.lemmas.List.Elements.{All-head, All-tail}
use Rattle.card_core.specs.declared.card.Kind.{Kind}
use Rattle.card_core.specs.declared.fault.CardFault.{CardFault}
use Rattle.card_core.specs.declared.operand.Operand as reader
use Rattle.card_core.specs.Cards.{columns, filled, is_marked, is_null, kind_of, may_continue}
use Rattle.card_core.specs.Deck.{comment_cards}
use Rattle.card_core.specs.Fields.{behind_name, behind_operation, continued, goes_on, is_not_blank, name_of, operand_behind, operand_text, operation_of, without_blanks}
use Rattle.card_core.specs.Fields as field
use Rattle.reader_laws.specs.WrittenCards.{CommentCard, GoesOn, IsCommentCard, IsContinuation, IsPart, IsWritten, Part, Written, begins_with, blanks, card_with, comment_card, comment_lines, continuation, ends_in_comma, fields_of_part, first_fields, has_no_blank, is_apart, is_blank, is_chain, is_empty, is_whole, last_part, operand_of}
use Rattle.reader_laws.proofs.Columns.{apart_before, blanks_are, fields_are, filled_is, mark_is, nothing_read, read_behind_blanks}
use Rattle.reader_laws.proofs.Continuations.{goes, last_card, may}
use Rattle.reader_laws.proofs.Fronts.{behind_is, front_is, other_before, other_behind, stops}

-- the fields of a first card, one behind another
abbrev in_fields : List ℕ → ℕ → List ℕ → List ℕ → List ℕ
in_fields name b operation behind = name ++ (blanks b ++ (operation ++ behind))

begins_blank : (b : ℕ) (behind : List ℕ) → 1 ≤ b → stops is_not_blank (blanks b ++ behind) ≡ true
begins_blank zero behind h = absurd (omega arith)
begins_blank (suc b) behind h = refl

word_stops : (word behind : List ℕ) → has_no_blank word ≡ true → is_empty word ≡ false → stops is_blank (word ++ behind) ≡ true
word_stops [] behind h k = absurd cc
word_stops (c ∷ word) behind h k = (and_parts (not (is_blank c)) (has_no_blank word) h).0

apart_stops : (text : List ℕ) → is_apart text ≡ true → stops is_not_blank text ≡ true
apart_stops [] h = refl
apart_stops (c ∷ text) h = twice (is_blank c) h
  where
    twice : (b : Bool) → b ≡ true → not (not b) ≡ true
    twice true e = refl
    twice false e = e

-- what is read of the fields, where columns 3 to 71 are these
pub record ReadsFields (card name operation behind : List ℕ) : Type 0 where
  pub name_is : name_of card ≡ name
  pub operation_is : operation_of card ≡ operation
  pub behind_is : behind_operation card ≡ without_blanks behind

reads_fields : (card name : List ℕ) (b : ℕ) (operation behind : List ℕ) → columns 3 71 card ≡ in_fields name b operation behind →
    has_no_blank name ≡ true → 1 ≤ b → has_no_blank operation ≡ true → is_empty operation ≡ false → is_apart behind ≡ true →
    ReadsFields card name operation behind
reads_fields card name b operation behind fields named apart operated something ended =
    let rest : List ℕ = operation ++ behind in
    let name_stops = begins_blank b rest apart in
    let at_operation : behind_name card ≡ rest =
    ap (λ (text : List ℕ). without_blanks (field.behind is_not_blank text)) fields
    ∙ ap without_blanks (behind_is is_not_blank name (blanks b ++ rest) named name_stops)
    ∙ blanks_are b rest (word_stops operation behind operated something) in
    record {
      name_is = ap (take_while is_not_blank) fields ∙ front_is is_not_blank name (blanks b ++ rest) named name_stops;
      operation_is = ap (take_while is_not_blank) at_operation ∙ front_is is_not_blank operation behind operated (apart_stops behind ended);
      behind_is = ap (λ (text : List ℕ). without_blanks (field.behind is_not_blank text)) at_operation
          ∙ ap without_blanks (behind_is is_not_blank operation behind operated (apart_stops behind ended));
    }

-- the fields of a first card, and the blanks that fill it
first_fields_are : (w : Written) (n : ℕ) → first_fields w ++ blanks n ≡ in_fields w.name w.blanks_before w.operation (fields_of_part w.first ++ blanks n)
first_fields_are w n =
    append_assoc w.name (blanks w.blanks_before ++ (w.operation ++ fields_of_part w.first)) (blanks n)
    ∙ ap (λ (cs : List ℕ). w.name ++ cs) (append_assoc (blanks w.blanks_before) (w.operation ++ fields_of_part w.first) (blanks n)
    ∙ ap (λ (cs : List ℕ). blanks w.blanks_before ++ cs) (append_assoc w.operation (fields_of_part w.first) (blanks n)))

-- a first card, filled: what stands behind column 72 is not read
abbrev pub on_first : Written → List ℕ → List ℕ
on_first w behind = card_with (first_fields w) w.first.mark behind

abbrev fill : Written → ℕ
fill w = 69 - length (first_fields w)

columns_are : (w : Written) (behind : List ℕ) → IsWritten w →
    columns 3 71 (on_first w behind) ≡ in_fields w.name w.blanks_before w.operation (fields_of_part w.first ++ blanks (fill w))
columns_are w behind h = fields_are (first_fields w) w.first.mark behind h.card.fits ∙ first_fields_are w (fill w)

pub first_reads : (w : Written) (behind : List ℕ) → IsWritten w → ReadsFields (on_first w behind) w.name w.operation (fields_of_part w.first ++ blanks (fill w))
first_reads w behind h =
    reads_fields (on_first w behind) w.name w.blanks_before w.operation (fields_of_part w.first ++ blanks (fill w)) (columns_are w behind h)
    h.name h.apart h.operation h.something (apart_before (fields_of_part w.first) (fill w) h.operand_apart)

word_not_blank : (word : List ℕ) → has_no_blank word ≡ true → is_empty word ≡ false → list_all is_blank word ≡ false
word_not_blank [] h k = absurd cc
word_not_blank (c ∷ word) h k = not_first (is_blank c) (list_all is_blank word) (and_parts (not (is_blank c)) (has_no_blank word) h).0
  where
    not_first : (b rest : Bool) → not b ≡ true → (b && rest) ≡ false
    not_first true rest e = absurd cc
    not_first false rest e = refl

no_null : (w : Written) (behind : List ℕ) → IsWritten w → is_null (on_first w behind) ≡ false
no_null w behind h =
    ap (list_all is_blank) (columns_are w behind h)
    ∙ other_behind is_blank w.name (blanks w.blanks_before ++ (w.operation ++ (fields_of_part w.first ++ blanks (fill w))))
    (other_behind is_blank (blanks w.blanks_before) (w.operation ++ (fields_of_part w.first ++ blanks (fill w)))
    (other_before is_blank w.operation (fields_of_part w.first ++ blanks (fill w)) (word_not_blank w.operation h.operation h.something)))

-- what begins with // and not with //* is a statement, where it is not null
starts : (name : List ℕ) (b : ℕ) (behind : List ℕ) → begins_with 42 name ≡ false → 1 ≤ b →
    starts_with nat_eq (codes "//" ++ (name ++ (blanks b ++ behind))) (codes "//*") ≡ false
starts [] zero behind h k = absurd (omega arith)
starts [] (suc b) behind h k = refl
starts (c ∷ name) b behind h k = ap (λ (e : Bool). e && true) h

card_begins : (w : Written) (behind : List ℕ) → begins_with 42 w.name ≡ false → 1 ≤ w.blanks_before →
    starts_with nat_eq (on_first w behind) (codes "//*") ≡ false
card_begins w behind h k =
    let rest : List ℕ = blanks (fill w) ++ (w.first.mark ∷ behind) in
    let fields : List ℕ = w.operation ++ fields_of_part w.first in
    ap (λ (text : List ℕ). starts_with nat_eq (codes "//" ++ text) (codes "//*"))
    (append_assoc w.name (blanks w.blanks_before ++ fields) rest ∙ ap (λ (text : List ℕ). w.name ++ text) (append_assoc (blanks w.blanks_before) fields rest))
    ∙ starts w.name w.blanks_before (fields ++ rest) h k

pub first_kind : (w : Written) (behind : List ℕ) → IsWritten w → kind_of (on_first w behind) ≡ Kind.Jcl
first_kind w behind h =
    ap (λ (b : Bool). cond b Kind.Comment (cond (is_null (on_first w behind)) Kind.Null Kind.Jcl)) (card_begins w behind h.no_comment h.apart)
    ∙ ap (λ (b : Bool). cond b Kind.Null Kind.Jcl) (no_null w behind h)

empty_is : (text : List ℕ) → is_empty text ≡ true → text ≡ []
empty_is [] h = refl
empty_is (c ∷ text) h = absurd cc

no_comma : (text behind : List ℕ) → is_empty (text ++ behind) ≡ true → ends_in_comma text ≡ true → ⊥
no_comma [] behind h k = absurd cc
no_comma (c ∷ text) behind h k = absurd cc

abbrev Read : Type 0
Read = Result reader.Operand CardFault

-- behind PEND there is no operand
pend_reads : (first : Part) (more : List Part) (card : List ℕ) → is_empty (operand_of first more) ≡ true → is_chain first more ≡ true →
    (let read : Read = Ok (record { text = []; cards = 0; last = card }) in read)
    ≡ Ok (record { text = operand_of first more; cards = length more; last = last_card card more })
pend_reads first [] card h chain = λ i. Ok (record { text = sym (empty_is first.text h) i; cards = 0; last = card })
pend_reads first (q ∷ more) card h chain = absurd (no_comma first.text (operand_of q more) h (and_parts (ends_in_comma first.text) (is_chain q more) chain).0)

text_read : (b : ℕ) (text comment : List ℕ) (n : ℕ) → (not (is_empty text) || is_empty comment) ≡ true → is_whole false text ≡ true → is_apart comment ≡ true →
    operand_text false (without_blanks ((blanks b ++ (text ++ comment)) ++ blanks n)) ≡ Some text
text_read b [] comment n h whole apart = nothing_read b [] comment n refl h
text_read b (c ∷ text) comment n h whole apart = read_behind_blanks b (c ∷ text) comment n whole apart refl

not_zero : (n : ℕ) → (suc n == 0) ≡ false
not_zero n = grind (arith)

some_length : (word : List ℕ) → is_empty word ≡ false → (length word == 0) ≡ false
some_length [] h = absurd cc
some_length (c ∷ word) h = not_zero (length word)

-- an operand that is read behind blanks, or none behind PEND
either : (b : Bool) (first : Part) (more : List Part) (n : ℕ) (card : List ℕ) (rest : List (List ℕ)) →
    cond b (is_empty (operand_of first more)) (not (is_empty first.text) || is_empty first.comment) ≡ true → IsPart first → All IsContinuation more →
    is_chain first more ≡ true →
    cond b (let read : Read = Ok (record { text = []; cards = 0; last = card }) in read)
    (goes_on [] (operand_text false (without_blanks (fields_of_part first ++ blanks n))) card (λ text. continued text (map filled
    (map continuation more) ++ rest)))
    ≡ Ok (record { text = operand_of first more; cards = length more; last = last_card card more })
either true first more n card rest h part all chain = pend_reads first more card h chain
either false first more n card rest h part all chain =
    ap (λ (text : Option (List ℕ)). goes_on [] text card (λ t. continued t (map filled (map continuation more) ++ rest)))
    (text_read first.blanks_before first.text first.comment n h part.whole part.apart)
    ∙ goes [] first card more rest all chain

-- the operand of a written statement, over its cards
pub operand_is : (w : Written) (behind : List ℕ) (rest : List (List ℕ)) → IsWritten w →
    operand_behind (on_first w behind) (map filled (map continuation w.more) ++ rest)
    ≡ Ok (record { text = operand_of w.first w.more; cards = length w.more; last = last_card (on_first w behind) w.more })
operand_is w behind rest h =
    let card : List ℕ = on_first w behind in
    let cards : List (List ℕ) = map filled (map continuation w.more) ++ rest in
    let r = first_reads w behind h in
    let none : Read = Err CardFault.NoOperation in
    let pend : Read = Ok (record { text = []; cards = 0; last = card }) in
    let at_operation : Read = goes_on [] (operand_text false (behind_operation card)) card (λ t. continued t cards) in
    ap (λ (operation : List ℕ). cond (length operation == 0) none (cond (bytes_eq operation (codes "PEND")) pend at_operation)) r.operation_is
    ∙ ap (λ (b : Bool). cond b none (cond (bytes_eq w.operation (codes "PEND")) pend at_operation)) (some_length w.operation h.something)
    ∙ ap (λ (text : List ℕ). cond (bytes_eq w.operation (codes "PEND")) pend (goes_on [] (operand_text false text) card (λ t. continued t cards))) r.behind_is
    ∙ either (bytes_eq w.operation (codes "PEND")) w.first w.more (fill w) card rest h.bare h.first h.more h.chain

-- column 72 of the last card of an operand
marked_is : (fields : List ℕ) (mark : ℕ) (behind : List ℕ) → length fields ≤ 69 → is_marked (card_with fields mark behind) ≡ not (is_blank mark && true)
marked_is fields mark behind fits = ap (λ (text : List ℕ). not (list_all is_blank text)) (mark_is fields mark behind fits)

pub last_marked : (p : Part) (card : List ℕ) (more : List Part) → is_marked card ≡ not (is_blank p.mark && true) → All IsContinuation more →
    is_marked (last_card card more) ≡ not (is_blank (last_part p more).mark && true)
last_marked p card [] h all = h
last_marked p card (q ∷ more) h all =
    last_marked q (filled (continuation q)) more
    (ap is_marked (filled_is (32 ∷ fields_of_part q) q.mark q.identification)
    ∙ marked_is (32 ∷ fields_of_part q) q.mark (q.identification ++ blanks (80 - length (continuation q))) (All-head IsContinuation q more all).columns.fits)
    (All-tail IsContinuation q more all)

unmarked : (cards : List (List ℕ)) (last : List ℕ) → is_marked last ≡ false → comment_cards last cards ≡ 0
unmarked [] last h = refl
unmarked (card ∷ cards) last h = ap (λ (b : Bool). cond (b && may_continue card) 1 0) h

filled_may : (card : CommentCard) → IsCommentCard card → may_continue (filled (comment_card card)) ≡ true
filled_may card h =
    ap may_continue (filled_is (32 ∷ card.text) card.mark card.identification)
    ∙ may card.text card.mark (card.identification ++ blanks (80 - length (comment_card card))) h.columns.fits h.something

-- a comment takes one card more where it goes on
pub comment_is : (mark : ℕ) (comment : Option CommentCard) (last : List ℕ) (rest : List (List ℕ)) → is_marked last ≡ not (is_blank mark && true) →
    GoesOn mark comment →
    comment_cards last (map filled (comment_lines comment) ++ rest) ≡ length (map filled (comment_lines comment))
comment_is mark None last rest h goes = unmarked rest last (h ∙ ap (λ (b : Bool). not (b && true)) goes)
comment_is mark (Some card) last rest h goes =
    ap (λ (b : Bool). cond (b && may_continue (filled (comment_card card))) 1 0) (h ∙ ap (λ (b : Bool). not (b && true)) goes.0)
    ∙ ap (λ (b : Bool). cond b 1 0) (filled_may card goes.1)

pub first_marked : (w : Written) (behind : List ℕ) → IsWritten w → is_marked (on_first w behind) ≡ not (is_blank w.first.mark && true)
first_marked w behind h = marked_is (first_fields w) w.first.mark behind h.card.fits
