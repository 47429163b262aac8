-- Statements of a session, one after another.
use Rattle.std.proofs.Common.{◌≡◌, ◌≤◌, ◌+◌, ◌++◌, ℕ, Bool, true, false, cond, List, [], ◌∷◌, map, Option, Some, None, All, length, refl, sym, ap, ◌∙◌, arith, append_assoc, length-append}
use Rattle.std.specs.Prelude.{not, ◌&&◌, suc, codes}
use Rattle.std.specs.List.{flat_map, join_with_byte, list_all, list_any}
use Rattle.std.specs.Option.{is_none}
use Rattle.std.proofs.lemmas.Bool.{and_parts}
use Rattle.std.proofs.lemmas.List.Elements.{All-head, All-tail}
use Rattle.std.proofs.lemmas.List.Folds.{list_all-append}
use Rattle.std.proofs.Math.Seq.{take-append_seam}
use Rattle.jname_core.specs.Decimals.{number_within}
use Rattle.jname_core.specs.Faults.{is_no_serial}
use Rattle.session_input.specs.declared.statement.ConfigStatement.{ConfigStatement}
use Rattle.session_input.specs.declared.statement.ConfigStatement.TheVariants as config
use Rattle.jcl_meaning.specs.declared.program.Request.{Request}
use Rattle.session_input.specs.declared.event.Event.TheVariants as event
use Rattle.session_text.specs.declared.fault.Fault.TheVariants.{BadValue}
use Rattle.session_text.specs.declared.statement.Block.{Block}
use Rattle.session_text.specs.declared.statement.Ending.TheVariants.{Whole}
use Rattle.session_text.specs.declared.statement.LineSays.{LineSays}
use Rattle.session_text.specs.declared.statement.Says.{Says}
use Rattle.session_text.specs.declared.statement.Says.TheVariants as says
use Rattle.session_text.specs.declared.statement.Statement.{Statement}
use Rattle.session_text.specs.Blocks.{block_says, program_says}
use Rattle.session_text.specs.Fields.{class_of, times_in}
use Rattle.session_text.specs.Lines.{lines_of as rows_of}
use Rattle.session_text.specs.Records.{filled}
use Rattle.session_text.specs.Statements.{bad, behind_end, block_to, by_line, cancel_with, configures, date_with, device_end_with, group_with, initiator_with, is_end, is_end_by, program_with, says_of, set_with, statement_at, statements_from, statements_of, turns_with, unit_with, volume_with, writes_with}
use Rattle.reader_laws.specs.Spelled.{component_characters, name_characters}
use Rattle.reader_laws.specs.SpelledForms.{Form, is_card, is_of_line, line_with, number}
use Rattle.reader_laws.specs.SpelledSessions.{IsConfigStatement, IsSaid, Spelled, block_of, config_block, config_fields, fields_of, lines_of, numbered, text_of, times, to_end, zap_parts}
use Rattle.reader_laws.specs.SpelledStores.{flag_field, request_line, used_fields}
use Rattle.reader_laws.proofs.Fields.{is_false, position_is, spaced_are}
use Rattle.reader_laws.proofs.Names.{name_is}
use Rattle.reader_laws.proofs.Decimals.{within_is}
use Rattle.reader_laws.specs.SpelledDates.{day_text}
use Rattle.reader_laws.proofs.Dates.{day_good, day_read, end_good, end_read, set_end, word_read}
use Rattle.reader_laws.proofs.Said.{class_good, class_is, class_no_star, is_good_field, line_of_line, line_says, listed_is, name_good, no_bad_serial, number_good, number_no_star, serials_good, times_are, times_good, unit_is, word_good}
use Rattle.reader_laws.proofs.Stores.{filled_records, flag_good, flag_is, kept_records, lines_are_cards, name_read, requests_are, serial_read, set_name_good, set_name_read, used_good, used_is}
use Rattle.reader_laws.proofs.TextLines.{lines_are}
use Rattle.reader_laws.proofs.Zaps.{zap_good, zap_read}

three : (a b c : Bool) → a ≡ true → b ≡ true → c ≡ true → (a && (b && (c && true))) ≡ true
three a b c h k l = λ i. h i && (k i && (l i && true))

two : (a b : Bool) → a ≡ true → b ≡ true → (a && (b && true)) ≡ true
two a b h k = λ i. h i && (k i && true)

with_flag : (a b more : Bool) → a ≡ true → b ≡ true → more ≡ true → (a && (b && more)) ≡ true
with_flag a b more h k l = λ i. h i && (k i && l i)

two_with_flag : (a b c more : Bool) → a ≡ true → b ≡ true → c ≡ true → more ≡ true → (a && (b && (c && more))) ≡ true
two_with_flag a b c more h k l m = λ i. h i && (k i && (l i && m i))

-- the fields of what can be said are fields
config_good : (form : Form) (s : ConfigStatement) → IsConfigStatement s → list_all is_good_field (config_fields form s) ≡ true
config_good form (config.Volume serial tracks used) h =
    let k : tracks ≤ 65535 = h.1 in
    with_flag (is_good_field serial) (is_good_field (number form tracks)) _ (word_good 6 component_characters serial refl h.0)
    (number_good form tracks (omega arith)) (used_good form used h.2)
config_good form (config.Unit name []) h = absurd cc
config_good form (config.Unit name (serial ∷ serials)) h =
    three true (is_good_field name) _ refl (word_good 8 name_characters name refl h.0) (serials_good serial serials h.2)
config_good form (config.Group base limit scratch) h =
    let k : limit ≤ 65535 = h.1 in
    with_flag (is_good_field base) (is_good_field (number form limit)) _ (set_name_good 35 base h.0) (number_good form limit (omega arith))
    (flag_good (codes "SCRATCH") scratch refl)
config_good form (config.Set set) h =
    let k : set.tracks ≤ 65535 = h.2 in
    two_with_flag (is_good_field set.name) (is_good_field set.serial) (is_good_field (number form set.tracks)) _ (set_name_good 44 set.name h.0)
    (word_good 6 component_characters set.serial refl h.1) (number_good form set.tracks (omega arith)) (end_good set.catalogued set.expires)
config_good form (config.Procedure name lines) h = two true (is_good_field name) refl (name_good name h.0)
config_good form (config.Program name requests) h = two true (is_good_field name) refl (name_good name h.0)
config_good form (config.Initiator n classes) h =
    let k : n ≤ 65535 = h.0 in
    three true (is_good_field (number form n)) (is_good_field classes) refl (number_good form n (omega arith)) (word_good 8
    (codes "ABCDEFGHIJKLMNO") classes refl h.1)

fields_good : (form : Form) (s : Says) → IsSaid s → list_all is_good_field (fields_of form s) ≡ true
fields_good form (says.Config s true) h = config_good form s h
fields_good form (says.Config s false) h = absurd h
fields_good form (says.Events (event.Read cards) n) h = refl
fields_good form (says.Events (event.Turn i) n) h =
    let low : i ≤ 15 = h.1 in
    two true (is_good_field (times form (number form i) n)) refl (times_good form (number form i) n (number_good form i (omega arith)) h.3)
fields_good form (says.Events (event.Write class) n) h =
    two true (is_good_field (times form (class ∷ []) n)) refl (times_good form (class ∷ []) n (class_good class h.0) h.2)
fields_good form (says.Events (event.DeviceEnd serial) n) h = two true (is_good_field serial) refl (word_good 6 component_characters serial refl h.0)
fields_good form (says.Events (event.Cancel job) n) h =
    let k : job ≤ 9999 = h.1 in two true (is_good_field (number form job)) refl (number_good form job (omega arith))
fields_good form (says.Events (event.Zap n offset bytes) m) h =
    let most : n ≤ 65536 = h.1 in
    let last : offset ≤ 175 = h.3 in
    two true (is_good_field (join_with_byte 44 (zap_parts form n offset bytes))) refl (zap_good form n offset bytes (omega arith) (omega arith))
fields_good form (says.Events event.Display n) h = refl
fields_good form (says.Events (event.Date day) n) h = two true (is_good_field (day_text day)) refl (day_good day)
fields_good form (says.Refused fault) h = absurd h

-- what a statement's line says by itself
abbrev config_line : ConfigStatement → LineSays
config_line (config.Volume serial tracks used) = LineSays.One (configures (config.Volume serial tracks used))
config_line (config.Unit name serials) = LineSays.One (configures (config.Unit name serials))
config_line (config.Group base limit scratch) = LineSays.One (configures (config.Group base limit scratch))
config_line (config.Set set) = LineSays.Opens (Block.Set (record set { records = [] }))
config_line (config.Procedure name lines) = LineSays.Opens (Block.Procedure name)
config_line (config.Program name requests) = LineSays.Opens (Block.Program name)
config_line (config.Initiator n classes) = LineSays.One (configures (config.Initiator n classes))

abbrev line_of : Says → LineSays
line_of (says.Config s has_end) = config_line s
line_of (says.Events (event.Read cards) n) = LineSays.Opens Block.Deck
line_of (says.Events (event.Turn i) n) = LineSays.One (says.Events (event.Turn i) n)
line_of (says.Events (event.Write class) n) = LineSays.One (says.Events (event.Write class) n)
line_of (says.Events (event.DeviceEnd serial) n) = LineSays.One (says.Events (event.DeviceEnd serial) n)
line_of (says.Events (event.Cancel job) n) = LineSays.One (says.Events (event.Cancel job) n)
line_of (says.Events (event.Zap n offset bytes) m) = LineSays.One (says.Events (event.Zap n offset bytes) m)
line_of (says.Events event.Display n) = LineSays.One (says.Events event.Display n)
line_of (says.Events (event.Date day) n) = LineSays.One (says.Events (event.Date day) n)
line_of (says.Refused fault) = LineSays.One (says.Refused fault)

config_said : (form : Form) (s : ConfigStatement) → IsConfigStatement s → says_of (line_with form (config_fields form s)) ≡ config_line s
config_said form (config.Volume serial tracks used) h =
    let k : tracks ≤ 65535 = h.1 in
    line_says form (codes "VOLUME") (serial ∷ number form tracks ∷ used_fields form used) (config_good form (config.Volume serial tracks used) h)
    ∙ λ i. LineSays.One (volume_with (serial_read serial h.0 i) (within_is form.zeros 0 65535 tracks (omega arith) (omega arith) k i) (used_is form used h.2 i))
config_said form (config.Unit name []) h = absurd cc
config_said form (config.Unit name (serial ∷ serials)) h =
    let all : List (List ℕ) = serial ∷ serials in
    let configured : Says = configures (config.Unit name all) in
    line_says form (codes "UNIT") (name ∷ join_with_byte 44 all ∷ []) (config_good form (config.Unit name (serial ∷ serials)) h)
    ∙ ap (λ (found : List (List ℕ)). LineSays.One (unit_with name found)) (listed_is serial serials h.2)
    ∙ ap (λ (b : Bool). LineSays.One (cond (b && not (list_any is_no_serial all)) configured bad)) (ap is_none (unit_is name h.0))
    ∙ ap (λ (b : Bool). LineSays.One (cond (not b) configured bad)) (no_bad_serial all h.2)
config_said form (config.Group base limit scratch) h =
    let k : limit ≤ 65535 = h.1 in
    line_says form (codes "GROUP") (base ∷ number form limit ∷ flag_field (codes "SCRATCH") scratch) (config_good form (config.Group base limit scratch) h)
    ∙ λ i. LineSays.One (group_with (set_name_read 35 base h.0 i) (within_is form.zeros 0 65535 limit (omega arith) (omega arith) k i)
    (flag_is (codes "SCRATCH") scratch refl i))
config_said form (config.Set set) h =
    let k : set.tracks ≤ 65535 = h.2 in
    line_says form (codes "SET") (set.name ∷ set.serial ∷ number form set.tracks ∷ set_end set.catalogued set.expires)
    (config_good form (config.Set set) h)
    ∙ λ i. LineSays.Opens (set_with (set_name_read 44 set.name h.0 i) (serial_read set.serial h.1 i)
    (within_is form.zeros 0 65535 set.tracks (omega arith) (omega arith) k i) (word_read set.catalogued set.expires i)
    (end_read set.catalogued set.expires h.5 i))
config_said form (config.Procedure name lines) h =
    line_says form (codes "PROC") (name ∷ []) (config_good form (config.Procedure name lines) h)
    ∙ ap (λ (b : Bool). LineSays.Opens (cond b (Block.Procedure name) (Block.Faulty BadValue))) (ap is_none (name_is name h.0))
config_said form (config.Program name requests) h =
    line_says form (codes "PROGRAM") (name ∷ []) (config_good form (config.Program name requests) h)
    ∙ ap (λ (found : Option (List ℕ)). LineSays.Opens (program_with found)) (name_read name h.0)
config_said form (config.Initiator n classes) h =
    let k : n ≤ 65535 = h.0 in
    line_says form (codes "INIT") (number form n ∷ classes ∷ []) (config_good form (config.Initiator n classes) h)
    ∙ ap (λ (m : Option ℕ). LineSays.One (initiator_with m classes)) (within_is form.zeros 0 65535 n (omega arith) (omega arith) k)

said : (form : Form) (s : Says) → IsSaid s → says_of (line_with form (fields_of form s)) ≡ line_of s
said form (says.Config s true) h = config_said form s h
said form (says.Config s false) h = absurd h
said form (says.Events (event.Read cards) n) h = line_says form (codes "READ") [] refl
said form (says.Events (event.Turn i) n) h =
    let low : 1 ≤ i = h.0 in
    let high : i ≤ 15 = h.1 in
    let t = times_are form (number form i) n (number_no_star form i (omega arith)) h.2 h.3 in
    let text : List ℕ = times form (number form i) n in
    line_says form (codes "TURN") (text ∷ []) (fields_good form (says.Events (event.Turn i) n) h)
    ∙ ap (λ (before : List ℕ). LineSays.One (turns_with (number_within 1 15 before) (times_in text))) t.before_is
    ∙ ap (λ (m : Option ℕ). LineSays.One (turns_with m (times_in text))) (within_is form.zeros 1 15 i (omega arith) low high)
    ∙ ap (λ (m : Option ℕ). LineSays.One (turns_with (Some i) m)) t.times_is
said form (says.Events (event.Write class) n) h =
    let t = times_are form (class ∷ []) n (class_no_star class h.0) h.1 h.2 in
    let text : List ℕ = times form (class ∷ []) n in
    line_says form (codes "WRITE") (text ∷ []) (fields_good form (says.Events (event.Write class) n) h)
    ∙ ap (λ (before : List ℕ). LineSays.One (writes_with (class_of before) (times_in text))) t.before_is
    ∙ ap (λ (b : Bool). LineSays.One (writes_with (cond b (Some class) None) (times_in text))) (class_is class h.0)
    ∙ ap (λ (m : Option ℕ). LineSays.One (writes_with (Some class) m)) t.times_is
said form (says.Events (event.DeviceEnd serial) n) h =
    line_says form (codes "DEV") (serial ∷ []) (fields_good form (says.Events (event.DeviceEnd serial) n) h)
    ∙ ap (λ (found : Option (List ℕ)). LineSays.One (device_end_with found)) (serial_read serial h.0)
    ∙ λ i. LineSays.One (says.Events (event.DeviceEnd serial) (sym h.1 i))
said form (says.Events (event.Cancel job) n) h =
    let low : 1 ≤ job = h.0 in
    let high : job ≤ 9999 = h.1 in
    line_says form (codes "CANCEL") (number form job ∷ []) (fields_good form (says.Events (event.Cancel job) n) h)
    ∙ ap (λ (m : Option ℕ). LineSays.One (cancel_with m)) (within_is form.zeros 1 9999 job (omega arith) low high)
    ∙ λ i. LineSays.One (says.Events (event.Cancel job) (sym h.2 i))
said form (says.Events (event.Zap n offset bytes) m) h =
    line_says form (codes "ZAP") (join_with_byte 44 (zap_parts form n offset bytes) ∷ []) (fields_good form (says.Events (event.Zap n offset bytes) m) h)
    ∙ ap (λ (s : Says). LineSays.One s) (zap_read form n offset bytes h.0 h.1 h.2 h.3 h.4 h.5)
    ∙ λ i. LineSays.One (says.Events (event.Zap n offset bytes) (sym h.6 i))
said form (says.Events event.Display n) h = line_says form (codes "DISPLAY") [] refl ∙ λ i. LineSays.One (says.Events event.Display (sym h i))
said form (says.Events (event.Date day) n) h =
    line_says form (codes "DATE") (day_text day ∷ []) (fields_good form (says.Events (event.Date day) n) h)
    ∙ ap (λ (found : Option ℕ). LineSays.One (date_with found)) (day_read day h.0)
    ∙ λ i. LineSays.One (says.Events (event.Date day) (sym h.1 i))
said form (says.Refused fault) h = absurd h

-- a block, to its END
abbrev end_of : Form → List ℕ
end_of form = line_with form (codes "END" ∷ [])

end_is : (form : Form) → is_end (end_of form) ≡ true
end_is form = ap (λ (fields : List (List ℕ)). is_end_by fields) (spaced_are form (codes "./") (codes "END" ∷ []) refl refl)

no_ends : (cards : List (List ℕ)) → list_all is_card cards ≡ true → list_all (λ row. not (is_end row)) cards ≡ true
no_ends [] h = refl
no_ends (card ∷ cards) h =
    let halves = and_parts (is_card card) (list_all is_card cards) h in
    ap (λ (b : Bool). b && list_all (λ row. not (is_end row)) cards) (and_parts (list_all is_of_line card) (not (is_end card)) halves.0).1
    ∙ no_ends cards halves.1

cards_of_line : (cards : List (List ℕ)) → list_all is_card cards ≡ true → list_all (list_all is_of_line) cards ≡ true
cards_of_line [] h = refl
cards_of_line (card ∷ cards) h =
    let halves = and_parts (is_card card) (list_all is_card cards) h in
    ap (λ (b : Bool). b && list_all (list_all is_of_line) cards) (and_parts (list_all is_of_line card) (not (is_end card)) halves.0).0
    ∙ cards_of_line cards halves.1

-- the statements behind a block's END
behind : (n : ℕ) (cards : List (List ℕ)) (end : List ℕ) (rest : List (List ℕ)) → list_all (λ row. not (is_end row)) cards ≡ true → is_end end ≡ true →
    behind_end Whole n (cards ++ end ∷ rest) ≡ statements_from Whole (n + length cards + 1) rest
behind n [] end rest h k =
    let place : n + 1 ≡ n + 0 + 1 = omega arith in
    ap (λ (b : Bool). cond b (statements_from Whole (n + 1) rest) (behind_end Whole (n + 1) rest)) k ∙ ap (λ (m : ℕ). statements_from Whole m rest) place
behind n (card ∷ cards) end rest h k =
    let halves = and_parts (not (is_end card)) (list_all (λ row. not (is_end row)) cards) h in
    let place : n + 1 + length cards + 1 ≡ n + suc (length cards) + 1 = omega arith in
    ap (λ (b : Bool). cond b (statements_from Whole (n + 1) (cards ++ end ∷ rest)) (behind_end Whole (n + 1) (cards ++ end ∷ rest))) (is_false
    (is_end card) halves.0)
    ∙ behind (n + 1) cards end rest halves.1 k
    ∙ ap (λ (m : ℕ). statements_from Whole m rest) place

-- one statement, and the rows behind it
one_line : (n : ℕ) (row : List ℕ) (s : Says) (rest : List (List ℕ)) → says_of row ≡ LineSays.One s →
    statements_from Whole n (row ∷ rest) ≡ statement_at n s ∷ statements_from Whole (n + 1) rest
one_line n row s rest h = ap (λ (l : LineSays). by_line l Whole n rest (statements_from Whole (n + 1) rest) (behind_end Whole (n + 1) rest)) h

one_block : (n : ℕ) (row : List ℕ) (block : Block) (cards : List (List ℕ)) (end : List ℕ) (rest : List (List ℕ)) → says_of row ≡ LineSays.Opens block →
    list_all (λ r. not (is_end r)) cards ≡ true → is_end end ≡ true →
    statements_from Whole n (row ∷ (cards ++ end ∷ rest))
    ≡ statement_at n (block_says block cards) ∷ statements_from Whole (n + 1 + length cards + 1) rest
one_block n row block cards end rest h all k =
    let rows : List (List ℕ) = cards ++ end ∷ rest in
    ap (λ (l : LineSays). by_line l Whole n rows (statements_from Whole (n + 1) rows) (behind_end Whole (n + 1) rows)) h
    ∙ ap (λ (place : Option ℕ). block_to place Whole n block rows (behind_end Whole (n + 1) rows)) (position_is is_end cards end rest all k)
    ∙ ap (λ (found : List (List ℕ)). statement_at n (block_says block found) ∷ behind_end Whole (n + 1) rows) (take-append_seam cards (end ∷ rest))
    ∙ ap (λ (others : List Statement). statement_at n (block_says block cards) ∷ others) (behind (n + 1) cards end rest all k)

-- a block in whole, and the rows behind it
whole_block : (n : ℕ) (form : Form) (row : List ℕ) (block : Block) (cards rest : List (List ℕ)) → says_of row ≡ LineSays.Opens block →
    list_all is_card cards ≡ true →
    statements_from Whole n (row ∷ (to_end form cards ++ rest))
    ≡ statement_at n (block_says block cards) ∷ statements_from Whole (n + suc (length (to_end form cards))) rest
whole_block n form row block cards rest h all =
    let sum : length (cards ++ end_of form ∷ []) ≡ length cards + 1 = length-append cards (end_of form ∷ []) in
    let place : n + 1 + length cards + 1 ≡ n + suc (length (cards ++ end_of form ∷ [])) = omega arith in
    ap (λ (rows : List (List ℕ)). statements_from Whole n (row ∷ rows)) (append_assoc cards (end_of form ∷ []) rest)
    ∙ one_block n row block cards (end_of form) rest h (no_ends cards all) (end_is form)
    ∙ ap (λ (m : ℕ). statement_at n (block_says block cards) ∷ statements_from Whole m rest) place

config_is : (n : ℕ) (form : Form) (s : ConfigStatement) (rest : List (List ℕ)) → IsConfigStatement s →
    statements_from Whole n (line_with form (config_fields form s) ∷ (config_block form s ++ rest))
    ≡ statement_at n (configures s) ∷ statements_from Whole (n + suc (length (config_block form s))) rest
config_is n form (config.Volume serial tracks used) rest h =
    let s : ConfigStatement = config.Volume serial tracks used in one_line n (line_with form (config_fields form s)) (configures s) rest (config_said form s h)
config_is n form (config.Unit name serials) rest h =
    let s : ConfigStatement = config.Unit name serials in one_line n (line_with form (config_fields form s)) (configures s) rest (config_said form s h)
config_is n form (config.Group base limit scratch) rest h =
    let s : ConfigStatement = config.Group base limit scratch in
    one_line n (line_with form (config_fields form s)) (configures s) rest (config_said form s h)
config_is n form (config.Set set) rest h =
    let s : ConfigStatement = config.Set set in
    let block : Block = Block.Set (record set { records = [] }) in
    whole_block n form (line_with form (config_fields form s)) block set.records rest (config_said form s h) h.4
    ∙ ap (λ (b : Bool). statement_at n (cond b bad (configures (config.Set (record set { records = map filled set.records }))))
    ∷ statements_from Whole (n + suc (length (config_block form s))) rest) (kept_records set.records h.3)
    ∙ ap (λ (records : List (List ℕ)). statement_at n (configures (config.Set (record set { records = records })))
    ∷ statements_from Whole (n + suc (length (config_block form s))) rest) (filled_records set.records h.3)
config_is n form (config.Procedure name lines) rest h =
    let s : ConfigStatement = config.Procedure name lines in
    whole_block n form (line_with form (config_fields form s)) (Block.Procedure name) lines rest (config_said form s h) h.1
config_is n form (config.Program name requests) rest h =
    let s : ConfigStatement = config.Program name requests in
    whole_block n form (line_with form (config_fields form s)) (Block.Program name) (map (request_line form) requests) rest (config_said form s h)
    (lines_are_cards form requests h.1)
    ∙ ap (λ (found : Option (List Request)). statement_at n (program_says name found true)
    ∷ statements_from Whole (n + suc (length (config_block form s))) rest) (requests_are form requests h.1 h.2)
config_is n form (config.Initiator m classes) rest h =
    let s : ConfigStatement = config.Initiator m classes in one_line n (line_with form (config_fields form s)) (configures s) rest (config_said form s h)

statement_is : (n : ℕ) (form : Form) (s : Says) (rest : List (List ℕ)) → IsSaid s →
    statements_from Whole n (lines_of form s ++ rest) ≡ statement_at n s ∷ statements_from Whole (n + length (lines_of form s)) rest
statement_is n form (says.Config s true) rest h = config_is n form s rest h
statement_is n form (says.Config s false) rest h = absurd h
statement_is n form (says.Events (event.Read cards) m) rest h =
    let s : Says = says.Events (event.Read cards) m in
    whole_block n form (line_with form (fields_of form s)) Block.Deck cards rest (said form s h) h.1
    ∙ λ i. statement_at n (says.Events (event.Read cards) (sym h.0 i)) ∷ statements_from Whole (n + suc (length (to_end form cards))) rest
statement_is n form (says.Events (event.Turn i) m) rest h =
    let s : Says = says.Events (event.Turn i) m in one_line n (line_with form (fields_of form s)) s rest (said form s h)
statement_is n form (says.Events (event.Write class) m) rest h =
    let s : Says = says.Events (event.Write class) m in one_line n (line_with form (fields_of form s)) s rest (said form s h)
statement_is n form (says.Events (event.DeviceEnd serial) m) rest h =
    let s : Says = says.Events (event.DeviceEnd serial) m in one_line n (line_with form (fields_of form s)) s rest (said form s h)
statement_is n form (says.Events (event.Cancel job) m) rest h =
    let s : Says = says.Events (event.Cancel job) m in one_line n (line_with form (fields_of form s)) s rest (said form s h)
statement_is n form (says.Events (event.Zap k offset bytes) m) rest h =
    let s : Says = says.Events (event.Zap k offset bytes) m in one_line n (line_with form (fields_of form s)) s rest (said form s h)
statement_is n form (says.Events event.Display m) rest h =
    let s : Says = says.Events event.Display m in one_line n (line_with form (fields_of form s)) s rest (said form s h)
statement_is n form (says.Events (event.Date day) m) rest h =
    let s : Says = says.Events (event.Date day) m in one_line n (line_with form (fields_of form s)) s rest (said form s h)
statement_is n form (says.Refused fault) rest h = absurd h

-- lines of statements are lines
to_end_is : (form : Form) (cards : List (List ℕ)) → list_all is_card cards ≡ true → list_all (list_all is_of_line) (to_end form cards) ≡ true
to_end_is form cards h =
    list_all-append (list_all is_of_line) cards (end_of form ∷ [])
    ∙ ap (λ (b : Bool). b && (list_all is_of_line (end_of form) && true)) (cards_of_line cards h)
    ∙ ap (λ (b : Bool). b && true) (line_of_line form (codes "END" ∷ []) refl)

config_block_is : (form : Form) (s : ConfigStatement) → IsConfigStatement s → list_all (list_all is_of_line) (config_block form s) ≡ true
config_block_is form (config.Volume serial tracks used) h = refl
config_block_is form (config.Unit name serials) h = refl
config_block_is form (config.Group base limit scratch) h = refl
config_block_is form (config.Set set) h = to_end_is form set.records h.4
config_block_is form (config.Procedure name lines) h = to_end_is form lines h.1
config_block_is form (config.Program name requests) h = to_end_is form (map (request_line form) requests) (lines_are_cards form requests h.1)
config_block_is form (config.Initiator n classes) h = refl

block_is : (form : Form) (s : Says) → IsSaid s → list_all (list_all is_of_line) (block_of form s) ≡ true
block_is form (says.Config s true) h = config_block_is form s h
block_is form (says.Config s false) h = absurd h
block_is form (says.Events (event.Read cards) n) h = to_end_is form cards h.1
block_is form (says.Events (event.Turn i) n) h = refl
block_is form (says.Events (event.Write class) n) h = refl
block_is form (says.Events (event.DeviceEnd serial) n) h = refl
block_is form (says.Events (event.Cancel job) n) h = refl
block_is form (says.Events (event.Zap n offset bytes) m) h = refl
block_is form (says.Events event.Display n) h = refl
block_is form (says.Events (event.Date day) n) h = refl
block_is form (says.Refused fault) h = absurd h

lines_good : (form : Form) (s : Says) → IsSaid s → list_all (list_all is_of_line) (lines_of form s) ≡ true
lines_good form s h =
    ap (λ (b : Bool). b && list_all (list_all is_of_line) (block_of form s)) (line_of_line form (fields_of form s) (fields_good form s h)) ∙ block_is form s h

abbrev Sayable : Spelled → Type 0
Sayable s = IsSaid s.says

abbrev rows : List Spelled → List (List ℕ)
rows session = flat_map (λ s. lines_of s.form s.says) session

rows_are : (session : List Spelled) → All Sayable session → rows_of Whole (text_of session) ≡ rows session
rows_are [] all = refl
rows_are (s ∷ session) all =
    lines_are s.form.returns (lines_of s.form s.says) (text_of session) (lines_good s.form s.says (All-head Sayable s session all))
    ∙ ap (λ (others : List (List ℕ)). lines_of s.form s.says ++ others) (rows_are session (All-tail Sayable s session all))

numbered_are : (n : ℕ) (session : List Spelled) → All Sayable session → statements_from Whole n (rows session) ≡ numbered n session
numbered_are n [] all = refl
numbered_are n (s ∷ session) all =
    statement_is n s.form s.says (rows session) (All-head Sayable s session all)
    ∙ ap (λ (others : List Statement). statement_at n s.says ∷ others) (numbered_are (n + length (lines_of s.form s.says)) session
    (All-tail Sayable s session all))

pub session_is : (session : List Spelled) → All (λ s. IsSaid s.says) session → statements_of Whole (text_of session) ≡ numbered 1 session
session_is session all = ap (statements_from Whole 1) (rows_are session all) ∙ numbered_are 1 session all
