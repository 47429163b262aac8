-- Moves to the views behind a step, one code after another, and that of an ABEND.
use Rattle.std.proofs.Common.{◌≡◌, inl, inr, ◌++◌, ◌∷◌, ◌∙◌, ◌<◌, ℕ, true, List, [], None, ap, arith, bit_or, get_or, length, map, subst, sym}
use Rattle.std.specs.Int.Bits.{or_zero_r}
use Rattle.std.specs.Prelude.{◌||◌, All, Contains, Option}
use Rattle.std.proofs.lemmas.List.{length-map, map-append}
use Rattle.std.proofs.lemmas.List.Elements.{All-contains, Contains-append_left, Contains-get_or}
use Rattle.jcl_plan.specs.declared.outcome.Abend.TheVariants.{User}
use Rattle.jcl_plan.specs.declared.outcome.Outcome.TheVariants as outcome
use Rattle.jcl_plan.specs.declared.plan.JobPlan.{JobPlan}
use Rattle.jcl_plan.specs.declared.plan.Test.{Test}
use Rattle.jcl_meaning.specs.Views.{View}
use Rattle.view_domain.specs.declared.crossed.Move.{Move}
use Rattle.view_domain.specs.Crossings.{views_of}
use Rattle.view_core.specs.Bits.{bits_ended}
use Rattle.view_core.specs.Moves.{AreTold, Told}
use Rattle.packed_core.specs.declared.classes.Class.{Class}
use Rattle.packed_core.specs.declared.room.Room.{Room}
use Rattle.packed_core.specs.Classes.{IsMask, tests_before}
use Rattle.packed_core.specs.Moving.{AreMovesByAbend, AreMovesByCode, LeadsTo, TellsOneCode, abend_behind, all_shown, code_behind, listed, shown_among}
use Rattle.packed_core.specs.Moving.{told_shown}
use Rattle.packed_core.specs.Rooms.{room_at}
use Rattle.packed_core.specs.Views.{Views}
use Rattle.packed_core.specs.Ways.{AreOffered}
use Rattle.packed_core.specs.Words.{IsRow, bit, joined_words, met_of}
use Rattle.packed_core.proofs.Bits.{at_word, joined_bits}
use Rattle.packed_core.proofs.JoinedRows.{joined_calm, joined_ended}
use Rattle.packed_core.proofs.Joining.{joined_at, length-joined}
use Rattle.packed_core.proofs.Places.{contains_map, contains_unmap, got_contained, got_from}
use Rattle.packed_core.proofs.Rows.{same_met}
use Rattle.packed_core.proofs.ShownRows.{shown_like}
use Rattle.packed_core.proofs.Telling.{none_told, one_told, told_one}

-- the code of a class, by its number
abbrev pub code_at : List Class → ℕ → ℕ
code_at classes j = get_or (map (λ (c : Class). c.code) classes) j 0

module _ {V : Type 0} (row_of : V → List ℕ) (plan : JobPlan) (date : ℕ) (behind : Views) (base : List ℕ) where
  abbrev meaning : V → View
  meaning v = shown_among plan date behind (row_of v)

  abbrev of_told : Told → View
  of_told = told_shown plan date behind.part

  abbrev there : List View
  there = all_shown plan date behind

  pub no_moves : (moves : List (Move V)) → moves ≡ [] → AreMovesByCode row_of plan date behind base [] moves
  no_moves moves e scene names = subst (AreTold meaning of_told there []) (sym e) (none_told meaning of_told there)

  pub moves_more : (codes all : List ℕ) (code : ℕ) (old new : List (Move V)) (told : Option (Move V)) → all ≡ codes ++ code ∷ [] → new ≡ old ++ listed told →
      AreMovesByCode row_of plan date behind base codes old → TellsOneCode row_of plan date behind base code told →
      AreMovesByCode row_of plan date behind base all new
  moves_more codes all code old new told longer pushed so_far tells scene names =
      let tolds : List ℕ → List Told = map (code_behind plan behind.part base scene) in
      let one : Told = code_behind plan behind.part base scene code in
      let more : tolds all ≡ tolds codes ++ one ∷ [] = ap tolds longer ∙ map-append (code_behind plan behind.part base scene) codes (code ∷ []) in
      subst (λ (ts : List Told). AreTold meaning of_told there ts new) (sym more)
      (subst (AreTold meaning of_told there (tolds codes ++ one ∷ [])) (sym pushed)
      (told_one meaning of_told there (tolds codes) one old (so_far scene names) told (tells scene names)))

  pub moves_as : (codes all : List ℕ) (moves : List (Move V)) → codes ≡ all → AreMovesByCode row_of plan date behind base codes moves →
      AreMovesByCode row_of plan date behind base all moves
  moves_as codes all moves e so = subst (λ (cs : List ℕ). AreMovesByCode row_of plan date behind base cs moves) e so

  -- a class tells its row
  pub class_told : (class : Class) → IsRow (room_at plan behind.part) base →
      IsMask behind.part (tests_before plan behind.part) (room_at plan behind.part) class.code class.mask.items → (told : Option (Move V)) →
      LeadsTo row_of behind.rows (outcome.Code class.code) (joined_words base class.mask.items) told → TellsOneCode row_of plan date behind base class.code told
  class_told class of_row is told leads scene names =
      let mask : List ℕ = class.mask.items in
      let all : List ℕ = joined_words base mask in
      let k : ℕ = behind.part in
      let room : Room = room_at plan k in
      let tests : List Test = tests_before plan k in
      let same : length mask ≡ length base = is.row.size ∙ sym of_row.size in
      let count : length all ≡ length base = length-joined base mask same in
      let word : (j : ℕ) → j < length base → get_or all j 0 ≡ bit_or (get_or base j 0) (get_or mask j 0) = λ j h. joined_at base mask j same h in
      let each : (i : ℕ) → bit all i ≡ (bit mask i || bit base i) = joined_bits base mask all same count word in
      let first : get_or all 0 0 ≡ get_or base 0 0 =
      at_word base mask all same count word 0 ∙ ap (bit_or (get_or base 0 0)) is.unnumbered ∙ or_zero_r (get_or base 0 0) in
      one_told (shown_among plan date behind) row_of behind.rows all of_told (code_behind plan k base scene class.code)
      (shown_like plan date k behind.scenes all scene (bit base 0) (bits_ended k (outcome.Code class.code) tests (met_of room base))
      (joined_calm base mask all each k tests room class.code is) (joined_ended base mask all each k tests room class.code is)
      (get_or base 0 0) first names)
      told leads

  -- the classes that are not told lead to rows that stand
  pub moves_whole : (classes : List Class) (numbers : List ℕ) (moves : List (Move V)) → IsRow (room_at plan behind.part) base →
      All (λ c. IsMask behind.part (tests_before plan behind.part) (room_at plan behind.part) c.code c.mask.items) classes →
      AreOffered behind.rows classes base numbers → AreMovesByCode row_of plan date behind base (map (code_at classes) numbers) moves →
      AreMovesByCode row_of plan date behind base (map (λ c. c.code) classes) moves
  moves_whole classes numbers moves of_row masks offered so scene names =
      let codes : List ℕ = map (λ (c : Class). c.code) classes in
      let tell : ℕ → Told = code_behind plan behind.part base scene in
      let some = so scene names in
      record {
        covers = λ t h.
            let of_code = contains_unmap tell codes t h in
            let of_class = contains_unmap (λ (c : Class). c.code) classes of_code.0 of_code.1 in
            let class : Class = of_class.0 in
            let at = got_contained classes class of_class.1 in
            let is : tell class.code ≡ t = ap tell of_class.2 ∙ of_code.2 in
            elim (offered.others at.0 class at.1) [
              | inl g ↦
                  let coded : code_at classes at.0 ≡ class.code = got_from (λ (c : Class). c.code) classes at.0 class 0 at.1 in
                  some.covers t (subst (Contains (map tell (map (code_at classes) numbers))) (ap tell coded ∙ is)
                  (contains_map tell (map (code_at classes) numbers) (code_at classes at.0) (contains_map (code_at classes) numbers at.0 g)))
              | inr g ↦
                  let mask = All-contains (λ (c : Class). IsMask behind.part (tests_before plan behind.part) (room_at plan behind.part) c.code c.mask.items)
                  classes class masks of_class.1 in
                  Contains-append_left there (views_of meaning moves) (of_told t)
                  (subst (λ (u : Told). Contains there (of_told u)) is (class_told class of_row mask None g scene names))
            ];
        founded = λ m h.
            let u = some.founded m h in
            let of_code = contains_unmap tell (map (code_at classes) numbers) u.0 u.1 in
            let of_number = contains_unmap (code_at classes) numbers of_code.0 of_code.1 in
            let below : of_number.0 < length classes = All-contains (λ (j : ℕ). j < length classes) numbers of_number.0 offered.below of_number.1 in
            let within : of_number.0 < length codes = omega (arith, below, length-map classes (λ (c : Class). c.code)) in (
              u.0,
              subst (Contains (map tell codes)) (ap tell of_number.2 ∙ of_code.2)
                  (contains_map tell codes (code_at classes of_number.0) (Contains-get_or codes of_number.0 0 within)),
              u.2,
              u.3,
            );
      }

  -- the row after an ABEND
  pub abend_moves : (row put : List ℕ) (code : ℕ) (moves none : List (Move V)) (told : Option (Move V)) → put ≡ row → code ≡ 0 → none ≡ [] →
      moves ≡ none ++ listed told → LeadsTo row_of behind.rows (outcome.Abend (User code)) put told → bit row 0 ≡ true →
      ((i : ℕ) → 0 < i → bit row i ≡ bit base i) → get_or row 0 0 ≡ get_or base 0 0 → AreMovesByAbend row_of plan date behind base moves
  abend_moves row put code moves none told is_put is_code is_none pushed leads abended others first scene names =
      let one : Told = abend_behind plan behind.part base scene in
      let leads_on : LeadsTo row_of behind.rows one.outcome row told =
      subst (λ (n : ℕ). LeadsTo row_of behind.rows (outcome.Abend (User n)) row told) is_code
      (subst (λ (r : List ℕ). LeadsTo row_of behind.rows (outcome.Abend (User code)) r told) is_put leads) in
      let shows : shown_among plan date behind row ≡ of_told one =
      shown_like plan date behind.part behind.scenes row scene true (met_of (room_at plan behind.part) base) abended
      (same_met (room_at plan behind.part) row base others) (get_or base 0 0) first names in
      subst (AreTold meaning of_told there (one ∷ [])) (sym (pushed ∙ ap (λ (ms : List (Move V)). ms ++ listed told) is_none))
      (told_one meaning of_told there [] one [] (none_told meaning of_told there) told
      (one_told (shown_among plan date behind) row_of behind.rows row of_told one shows told leads_on))
