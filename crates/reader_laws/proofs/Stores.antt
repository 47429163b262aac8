-- What stands on volumes, and programs, as they are spelled in a session.
use Rattle.std.proofs.Common.{◌≡◌, ◌≤◌, ◌<◌, ◌+◌, ◌-◌, ◌^◌, ◌++◌, ℕ, Bool, true, false, cond, List, [], ◌∷◌, map, Option, Some, None, length, drop, replicate, refl, ap, ◌∙◌, arith, subst, append-nil}
use Rattle.std.specs.Prelude.{not, ◌&&◌, ◌||◌, ◌==◌, suc, nat_le, nat_lt, codes}
use Rattle.std.specs.List.{join_with_byte, list_all, list_any}
use Rattle.std.specs.Option.{is_none, option_map}
use Rattle.std.proofs.lemmas.Bool.{and_parts, eqb-true}
use Rattle.std.proofs.lemmas.List.Splits.{slice_split_at, slice_split_none}
use Rattle.std.proofs.Math.Seq.{drop-append-add, drop-append_seam, take-append_seam}
use Rattle.extent_core.specs.declared.extent.Extent.{Extent}
use Rattle.jcl_meaning.specs.declared.program.Request.{Request}
use Rattle.jcl_meaning.specs.declared.program.Request.TheVariants.{Get, Put, End, Abend}
use Rattle.jname_core.specs.Characters.{is_digit}
use Rattle.jname_core.specs.Decimals.{number_within}
use Rattle.jname_core.specs.Faults.{ds_name_fault}
use Rattle.jname_core.specs.Generations.{is_bad_generation}
use Rattle.session_text.specs.Fields.{flag_of, listed_in, name_in, serial_in}
use Rattle.session_text.specs.Programs.{code_of, get_of, is_ending, last_request, more_requests, put_of, put_with, request_of, requests_of}
use Rattle.session_text.specs.Records.{filled, is_no_record, record_in}
use Rattle.session_text.specs.Volumes.{extent_of, extent_with, extents_in, extents_with, first_track, from_to, hyphen_in, last_track, used_of}
use Rattle.reader_laws.specs.Spelled.{is_component, is_name, joined}
use Rattle.reader_laws.specs.SpelledForms.{Form, fields_in, is_card, is_of_line, is_serial, number, spaced}
use Rattle.reader_laws.specs.SpelledStores.{IsSetName, flag_field, is_end_of_program, is_ended, is_extent, is_printable, is_record, is_request, item, request_line, used_fields}
use Rattle.reader_laws.specs.WrittenCards.{blanks, has_no_blank, is_blank, is_empty}
use Rattle.reader_laws.proofs.Fields.{behind_blanks, is_false, no_position, none_pass, position_is, spaced_are}
use Rattle.reader_laws.proofs.Fronts.{all_replicate, behind_is, front_is, stops}
use Rattle.reader_laws.proofs.Names.{ds_name_within, joined_all, name_is, none_of}
use Rattle.reader_laws.proofs.Decimals.{within_is}
use Rattle.reader_laws.proofs.Said.{both, each, good_is_field, good_is_of_line, is_good, is_good_field, all_both, before_something, name_good, number_good, number_spells, serial_is, spaced_of_line}

-- a word at the end of a line
pub flag_is : (word : List ℕ) (stands : Bool) → flag_of word (word ∷ []) ≡ Some true → flag_of word (flag_field word stands) ≡ Some stands
flag_is word true h = h
flag_is word false h = refl

pub flag_good : (word : List ℕ) (stands : Bool) → is_good_field word ≡ true → list_all is_good_field (flag_field word stands) ≡ true
flag_good word true h = ap (λ (b : Bool). b && true) h
flag_good word false h = refl

-- the name of a data set
set_name_is : (most : ℕ) (text : List ℕ) → IsSetName most text → ds_name_fault most text ≡ None
set_name_is most text h =
    ap (ds_name_fault most) h.text_is
    ∙ ds_name_within most h.first h.others h.components (subst (λ (t : List ℕ). length t ≤ most) h.text_is h.fits)
    (subst (λ (t : List ℕ). is_bad_generation t ≡ false) h.text_is h.generation)

pub set_name_read : (most : ℕ) (text : List ℕ) → IsSetName most text → cond (is_none (ds_name_fault most text)) (Some text) None ≡ Some text
set_name_read most text h = ap (λ (b : Bool). cond b (Some text) None) (ap is_none (set_name_is most text h))

-- serials
pub serial_read : (text : List ℕ) → is_serial text ≡ true → serial_in text ≡ Some text
serial_read text h = ap (λ (b : Bool). cond b None (Some text)) (serial_is text h)

joined_something : (part : List ℕ) (parts : List (List ℕ)) → list_all is_component (part ∷ parts) ≡ true → is_empty (joined (part ∷ parts)) ≡ false
joined_something [] parts h = absurd cc
joined_something (c ∷ part) [] h = refl
joined_something (c ∷ part) (next ∷ parts) h = refl

pub set_name_good : (most : ℕ) (text : List ℕ) → IsSetName most text → is_good_field text ≡ true
set_name_good most text h =
    ap is_good_field h.text_is ∙ both (list_all is_good (joined (h.first ∷ h.others))) (not (is_empty (joined (h.first ∷ h.others))))
    (joined_all is_good h.first h.others refl refl refl h.components) (ap not (joined_something h.first h.others h.components))

-- tracks that are never free
record IsTracks (e : Extent) : Type 0 where
  some : 1 ≤ e.tracks
  within : e.start + e.tracks ≤ 4000

tracks_are : (e : Extent) → is_extent e ≡ true → IsTracks e
tracks_are e h =
    let halves = and_parts (nat_lt 0 e.tracks) (nat_le (e.start + e.tracks) 4000) h in
    record { some = above e.tracks halves.0; within = at_most (e.start + e.tracks) 4000 halves.1 }
  where
    above : (n : ℕ) → nat_lt 0 n ≡ true → 1 ≤ n
    above n k = grind (arith)

    at_most : (n most : ℕ) → nat_le n most ≡ true → n ≤ most
    at_most n most k = grind (arith)

digit_no_hyphen : (c : ℕ) → is_digit c ≡ true → not (c == 45) ≡ true
digit_no_hyphen c h = grind (arith)

number_no_hyphen : (form : Form) (n : ℕ) → n < 2 ^ 64 → list_all (λ c. not (c == 45)) (number form n) ≡ true
number_no_hyphen form n h = each is_digit (λ c. not (c == 45)) (number form n) digit_no_hyphen (number_spells form n h).digits_all

track_is : (form : Form) (n : ℕ) → n ≤ 3999 → number_within 0 3999 (number form n) ≡ Some n
track_is form n h = within_is form.zeros 0 3999 n (omega arith) (omega arith) h

not_above : (first last : ℕ) → first ≤ last → nat_le first last ≡ true
not_above first last h = grind (arith)

from_to_is : (e : Extent) (last : ℕ) → e.start ≤ last → last - e.start + 1 ≡ e.tracks → extent_with (Some e.start) (Some last) ≡ Some e
from_to_is e last h k =
    ap (λ (b : Bool). cond b (Some (from_to e.start last)) None) (not_above e.start last h) ∙ λ i. Some (record { start = e.start; tracks = k i })

alone_is : (form : Form) (e : Extent) → IsTracks e → e.tracks ≡ 1 → extent_of (number form e.start) ≡ Some e
alone_is form e h one =
    let low : e.start + e.tracks ≤ 4000 = h.within in
    let text : List ℕ = number form e.start in
    let at : hyphen_in text ≡ None = no_position (λ b. b == 45) text (number_no_hyphen form e.start (omega arith)) in
    let sum : e.start - e.start + 1 ≡ e.tracks = omega arith in
    ap (λ (hyphen : Option ℕ). extent_with (first_track hyphen text) (last_track hyphen text)) at
    ∙ ap (λ (n : Option ℕ). extent_with n n) (track_is form e.start (omega arith)) ∙ from_to_is e e.start (omega arith) sum

range_is : (form : Form) (e : Extent) → IsTracks e → extent_of (number form e.start ++ (codes "-" ++ number form (e.start + e.tracks - 1))) ≡ Some e
range_is form e h =
    let low : e.start + e.tracks ≤ 4000 = h.within in
    let some : 1 ≤ e.tracks = h.some in
    let last : ℕ = e.start + e.tracks - 1 in
    let front : List ℕ = number form e.start in
    let back : List ℕ = number form last in
    let text : List ℕ = front ++ 45 ∷ back in
    let at : hyphen_in text ≡ Some (length front) = position_is (λ b. b == 45) front 45 back (number_no_hyphen form e.start (omega arith)) refl in
    let sum : e.start + e.tracks - 1 - e.start + 1 ≡ e.tracks = omega arith in
    ap (λ (hyphen : Option ℕ). extent_with (first_track hyphen text) (last_track hyphen text)) at
    ∙ ap (λ (t : List ℕ). extent_with (number_within 0 3999 t) (number_within 0 3999 (drop (length front + 1) text))) (take-append_seam front (45 ∷ back))
    ∙ ap (λ (t : List ℕ). extent_with (number_within 0 3999 front) (number_within 0 3999 t)) (drop-append-add front (45 ∷ back) 1)
    ∙ (λ i. extent_with (track_is form e.start (omega arith) i) (track_is form last (omega arith) i)) ∙ from_to_is e last (omega arith) sum

item_is : (form : Form) (e : Extent) → is_extent e ≡ true → extent_of (item form e) ≡ Some e
item_is form e h = by (form.short && e.tracks == 1) refl
  where
    by : (b : Bool) → (form.short && e.tracks == 1) ≡ b →
        extent_of (cond b (number form e.start) (number form e.start ++ (codes "-" ++ number form (e.start + e.tracks - 1)))) ≡ Some e
    by true is = alone_is form e (tracks_are e h) (eqb-true e.tracks 1 (and_parts form.short (e.tracks == 1) is).1)
    by false is = range_is form e (tracks_are e h)

items_are : (form : Form) (es : List Extent) → list_all is_extent es ≡ true → extents_in (map (item form) es) ≡ Some es
items_are form [] h = refl
items_are form (e ∷ es) h =
    let halves = and_parts (is_extent e) (list_all is_extent es) h in
    λ i. extents_with (item_is form e halves.0 i) (items_are form es halves.1 i)

-- what an item is made of
item_all : (p : ℕ → Bool) (form : Form) (e : Extent) → ((c : ℕ) → is_digit c ≡ true → p c ≡ true) → p 45 ≡ true → IsTracks e →
    list_all p (item form e) ≡ true
item_all p form e digits hyphen h =
    let low : e.start + e.tracks ≤ 4000 = h.within in
    by (form.short && e.tracks == 1) (number_all e.start (omega arith)) (number_all (e.start + e.tracks - 1) (omega arith))
  where
    number_all : (n : ℕ) → n < 2 ^ 64 → list_all p (number form n) ≡ true
    number_all n k = each is_digit p (number form n) digits (number_spells form n k).digits_all

    by : (b : Bool) → list_all p (number form e.start) ≡ true → list_all p (number form (e.start + e.tracks - 1)) ≡ true →
        list_all p (cond b (number form e.start) (number form e.start ++ (codes "-" ++ number form (e.start + e.tracks - 1)))) ≡ true
    by true first last = first
    by false first last =
        all_both p (number form e.start) (45 ∷ number form (e.start + e.tracks - 1)) first
        (ap (λ (b : Bool). b && list_all p (number form (e.start + e.tracks - 1))) hyphen ∙ last)

item_something : (form : Form) (e : Extent) → IsTracks e → is_empty (item form e) ≡ false
item_something form e h =
    let low : e.start + e.tracks ≤ 4000 = h.within in
    let good = number_good form e.start (omega arith) in
    by (form.short && e.tracks == 1) (is_false (is_empty (number form e.start)) (and_parts (list_all is_good (number form e.start)) (not (is_empty (number form
    e.start))) good).1)
  where
    by : (b : Bool) → is_empty (number form e.start) ≡ false →
        is_empty (cond b (number form e.start) (number form e.start ++ (codes "-" ++ number form (e.start + e.tracks - 1)))) ≡ false
    by true first = first
    by false first = before_something (number form e.start) (45 ∷ number form (e.start + e.tracks - 1)) first

items_all : (p : ℕ → Bool) (form : Form) (es : List Extent) → ((c : ℕ) → is_digit c ≡ true → p c ≡ true) → p 45 ≡ true → list_all is_extent es ≡ true →
    list_all (list_all p) (map (item form) es) ≡ true
items_all p form [] digits hyphen h = refl
items_all p form (e ∷ es) digits hyphen h =
    let halves = and_parts (is_extent e) (list_all is_extent es) h in
    both (list_all p (item form e)) (list_all (list_all p) (map (item form) es)) (item_all p form e digits hyphen (tracks_are e halves.0))
    (items_all p form es digits hyphen halves.1)

-- parts with commas between them
listed_of : (part : List ℕ) (parts : List (List ℕ)) → list_all (list_all (λ c. not (c == 44))) (part ∷ parts) ≡ true →
    listed_in (join_with_byte 44 (part ∷ parts)) ≡ part ∷ parts
listed_of part [] h = slice_split_none (λ c. c == 44) part (none_pass (λ c. c == 44) part (and_parts (list_all (λ c. not (c == 44)) part) true h).0)
listed_of part (next ∷ parts) h =
    let halves = and_parts (list_all (λ c. not (c == 44)) part) (list_all (list_all (λ c. not (c == 44))) (next ∷ parts)) h in
    slice_split_at (λ c. c == 44) part 44 (join_with_byte 44 (next ∷ parts)) (none_pass (λ c. c == 44) part halves.0) refl
    ∙ ap (λ (rest : List (List ℕ)). part ∷ rest) (listed_of next parts halves.1)

list_good : (part : List ℕ) (parts : List (List ℕ)) → list_all (list_all is_good) (part ∷ parts) ≡ true →
    list_all is_good (join_with_byte 44 (part ∷ parts)) ≡ true
list_good part [] h = (and_parts (list_all is_good part) true h).0
list_good part (next ∷ parts) h =
    let halves = and_parts (list_all is_good part) (list_all (list_all is_good) (next ∷ parts)) h in
    all_both is_good part (44 ∷ join_with_byte 44 (next ∷ parts)) halves.0 (list_good next parts halves.1)

list_something : (part : List ℕ) (parts : List (List ℕ)) → is_empty part ≡ false → is_empty (join_with_byte 44 (part ∷ parts)) ≡ false
list_something part [] h = h
list_something part (next ∷ parts) h = before_something part (44 ∷ join_with_byte 44 (next ∷ parts)) h

digit_good : (c : ℕ) → is_digit c ≡ true → is_good c ≡ true
digit_good c h = grind (arith)

digit_no_comma : (c : ℕ) → is_digit c ≡ true → not (c == 44) ≡ true
digit_no_comma c h = grind (arith)

pub used_is : (form : Form) (used : List Extent) → list_all is_extent used ≡ true → used_of (used_fields form used) ≡ Some used
used_is form [] h = refl
used_is form (e ∷ es) h =
    ap extents_in (listed_of (item form e) (map (item form) es) (items_all (λ c. not (c == 44)) form (e ∷ es) digit_no_comma refl h))
    ∙ items_are form (e ∷ es) h

pub used_good : (form : Form) (used : List Extent) → list_all is_extent used ≡ true → list_all is_good_field (used_fields form used) ≡ true
used_good form [] h = refl
used_good form (e ∷ es) h =
    let text : List ℕ = join_with_byte 44 (map (item form) (e ∷ es)) in
    let something = item_something form e (tracks_are e (and_parts (is_extent e) (list_all is_extent es) h).0) in
    let good : is_good_field text ≡ true = both (list_all is_good text) (not (is_empty text))
    (list_good (item form e) (map (item form) es) (items_all is_good form (e ∷ es) digit_good refl h))
    (ap not (list_something (item form e) (map (item form) es) something)) in
    ap (λ (b : Bool). b && true) good

-- records
record IsRecord (text : List ℕ) : Type 0 where
  columns : length text ≡ 80
  printable : list_all is_printable text ≡ true

record_is : (text : List ℕ) → is_record text ≡ true → IsRecord text
record_is text h =
    let halves = and_parts (length text == 80) (list_all is_printable text) h in record { columns = eqb-true (length text) 80 halves.0; printable = halves.1 }

all_printable : (text : List ℕ) → list_all is_printable text ≡ true → list_any (λ b. not (is_printable b)) text ≡ false
all_printable [] h = refl
all_printable (c ∷ text) h =
    let halves = and_parts (is_printable c) (list_all is_printable text) h in
    ap (λ (b : Bool). not b || list_any (λ b. not (is_printable b)) text) halves.0 ∙ all_printable text halves.1

kept_record : (text : List ℕ) → is_record text ≡ true → is_no_record text ≡ false
kept_record text h =
    let r = record_is text h in ap (λ (n : ℕ). nat_lt 80 n || list_any (λ b. not (is_printable b)) text) r.columns ∙ all_printable text r.printable

filled_record : (text : List ℕ) → is_record text ≡ true → filled text ≡ text
filled_record text h = ap (λ (n : ℕ). text ++ replicate (80 - n) 32) (record_is text h).columns ∙ append-nil text

pub kept_records : (records : List (List ℕ)) → list_all is_record records ≡ true → list_any is_no_record records ≡ false
kept_records records h = none_of is_no_record is_record records kept_record h

pub filled_records : (records : List (List ℕ)) → list_all is_record records ≡ true → map filled records ≡ records
filled_records [] h = refl
filled_records (text ∷ records) h =
    let halves = and_parts (is_record text) (list_all is_record records) h in λ i. filled_record text halves.0 i ∷ filled_records records halves.1 i

record_read : (text : List ℕ) → is_record text ≡ true → record_in text ≡ Some text
record_read text h = ap (λ (b : Bool). cond b None (Some (filled text))) (kept_record text h) ∙ ap Some (filled_record text h)

-- requests
pub name_read : (text : List ℕ) → is_name text ≡ true → name_in text ≡ Some text
name_read text h = ap (λ (b : Bool). cond b (Some text) None) (ap is_none (name_is text h))

one_field : (form : Form) (field : List ℕ) → is_good_field field ≡ true → fields_in (spaced form (field ∷ [])) ≡ field ∷ []
one_field form field h = behind_blanks (suc form.more_blanks) (field ++ spaced form []) ∙ spaced_are form field [] (good_is_field field h) refl

at_most : (n most : ℕ) → nat_le n most ≡ true → n ≤ most
at_most n most h = grind (arith)

code_is : (form : Form) (code : ℕ) → nat_le code 4095 ≡ true → code_of (fields_in (spaced form (number form code ∷ []))) ≡ Some code
code_is form code h =
    let low : code ≤ 4095 = at_most code 4095 h in
    ap code_of (one_field form (number form code) (number_good form code (omega arith))) ∙ within_is form.zeros 0 4095 code (omega arith) (omega arith) low

put_is : (form : Form) (dd text : List ℕ) → is_name dd ≡ true → is_record text ≡ true → request_of (request_line form (Put dd text)) ≡ Some (Put dd text)
put_is form dd text h k =
    let field = and_parts (has_no_blank dd) (not (is_empty dd)) (good_is_field dd (name_good dd h)) in
    let starts : stops is_blank (dd ++ 32 ∷ text) ≡ true = starts_with_field dd (32 ∷ text) field.0 (is_false (is_empty dd) field.1) in
    ap put_of (behind_is is_blank (blanks (suc form.more_blanks)) (dd ++ 32 ∷ text) (all_replicate is_blank 32 (suc form.more_blanks) refl) starts)
    ∙ ap (λ (word : List ℕ). put_with (name_in word) (record_in (drop 1 (drop (length word) (dd ++ 32 ∷ text))))) (front_is (λ b. not (is_blank b)) dd (32
    ∷ text) field.0 refl)
    ∙ ap (λ (rest : List ℕ). put_with (name_in dd) (record_in (drop 1 rest))) (drop-append_seam dd (32 ∷ text))
    ∙ λ i. put_with (name_read dd h i) (record_read text k i)
  where
    starts_with_field : (field rest : List ℕ) → has_no_blank field ≡ true → is_empty field ≡ false → stops is_blank (field ++ rest) ≡ true
    starts_with_field [] rest all something = absurd cc
    starts_with_field (c ∷ field) rest all something = (and_parts (not (is_blank c)) (has_no_blank field) all).0

request_is : (form : Form) (r : Request) → is_request r ≡ true → request_of (request_line form r) ≡ Some r
request_is form (Get dd) h = ap get_of (one_field form dd (name_good dd h)) ∙ ap (option_map Get) (name_read dd h)
request_is form (Put dd text) h = let halves = and_parts (is_name dd) (is_record text) h in put_is form dd text halves.0 halves.1
request_is form (End code) h = ap (option_map End) (code_is form code h)
request_is form (Abend code) h = ap (option_map Abend) (code_is form code h)

same_end : (r : Request) → is_ending r ≡ is_end_of_program r
same_end (Get dd) = refl
same_end (Put dd text) = refl
same_end (End code) = refl
same_end (Abend code) = refl

pub requests_are : (form : Form) (requests : List Request) → list_all is_request requests ≡ true → is_ended requests ≡ true →
    requests_of (map (request_line form) requests) ≡ Some requests
requests_are form [] h k = absurd cc
requests_are form (r ∷ []) h k =
    ap last_request (request_is form r (and_parts (is_request r) true h).0) ∙ ap (λ (b : Bool). cond b (Some (r ∷ [])) None) (same_end r ∙ k)
requests_are form (r ∷ next ∷ requests) h k =
    let halves = and_parts (is_request r) (list_all is_request (next ∷ requests)) h in
    let ends = and_parts (not (is_end_of_program r)) (is_ended (next ∷ requests)) k in
    (λ i. more_requests (request_is form r halves.0 i) (requests_are form (next ∷ requests) halves.1 ends.1 i))
    ∙ ap (λ (b : Bool). cond b None (Some (r ∷ next ∷ requests))) (same_end r ∙ is_false (is_end_of_program r) ends.0)

-- the lines of requests are lines, and end no block
printable_of_line : (c : ℕ) → is_printable c ≡ true → is_of_line c ≡ true
printable_of_line c h = grind (arith)

field_of_line : (form : Form) (field : List ℕ) → is_good_field field ≡ true → list_all is_of_line (spaced form (field ∷ [])) ≡ true
field_of_line form field h = spaced_of_line form (field ∷ []) (ap (λ (b : Bool). b && true) h)

put_of_line : (form : Form) (dd text : List ℕ) → is_name dd ≡ true → is_record text ≡ true →
    list_all is_of_line (blanks form.more_blanks ++ (dd ++ 32 ∷ text)) ≡ true
put_of_line form dd text h k =
    all_both is_of_line (blanks form.more_blanks) (dd ++ 32 ∷ text) (all_replicate is_of_line 32 form.more_blanks refl)
    (all_both is_of_line dd (32 ∷ text) (good_is_of_line dd (name_good dd h))
    (each is_printable is_of_line text printable_of_line (record_is text k).printable))

line_is_card : (form : Form) (r : Request) → is_request r ≡ true → is_card (request_line form r) ≡ true
line_is_card form (Get dd) h = ap (λ (b : Bool). b && true) (field_of_line form dd (name_good dd h))
line_is_card form (Put dd text) h =
    let halves = and_parts (is_name dd) (is_record text) h in ap (λ (b : Bool). b && true) (put_of_line form dd text halves.0 halves.1)
line_is_card form (End code) h =
    let low : code ≤ 4095 = at_most code 4095 h in
    ap (λ (b : Bool). b && true) (field_of_line form (number form code) (number_good form code (omega arith)))
line_is_card form (Abend code) h =
    let low : code ≤ 4095 = at_most code 4095 h in
    ap (λ (b : Bool). b && true) (field_of_line form (number form code) (number_good form code (omega arith)))

pub lines_are_cards : (form : Form) (requests : List Request) → list_all is_request requests ≡ true →
    list_all is_card (map (request_line form) requests) ≡ true
lines_are_cards form [] h = refl
lines_are_cards form (r ∷ requests) h =
    let halves = and_parts (is_request r) (list_all is_request requests) h in
    both (is_card (request_line form r)) (list_all is_card (map (request_line form) requests)) (line_is_card form r halves.0)
    (lines_are_cards form requests halves.1)
