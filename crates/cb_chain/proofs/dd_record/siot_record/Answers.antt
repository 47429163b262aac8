use Rattle.std.proofs.Common.{◌≡◌, ℕ, List, [], ◌∷◌, ◌++◌, length, replicate, arith, refl, ◌∙◌, true, inr}
use Rattle.cb_meaning.specs.Fields.{field, filled_or_blank, is_zero_but, part}
use Rattle.cb_meaning.specs.Spelled.{cards_of, class_of, common, marks_of, status_bytes}
use Rattle.cb_chain.specs.Entries.{AreEntered, Byte, Entry, Number, Text, places, zeros}
use Rattle.cb_chain.specs.Composed.{head_entries}
use Rattle.cb_chain.proofs.Entered.{InNone, all_stand, append_entered, behind_three, narrow, no_link, nothing_changed, size_stays, untouched, unused_zero}
use Rattle.cb_chain.specs.Composed.{set_entries, word_entries}
use Rattle.cb_chain.proofs.Small.{small_power}
use Rattle.cb_chain.proofs.dd_record.siot_record.Goals as goal

pub returns : goal.returns
returns c =
    let l = c.args.layout.now in
    let r = c.write_set.new.rec in
    let own = c.requires.holds.own_link in
    let head = c.headed-rec.result in
    let link = c.headed-rec.ensures.rest l.link own.fits.link.within own.kind own.owner in
    let dd = c.args.dd.now in
    let later : List Entry = Text (field 16 8) (filled_or_blank 8 dd.name) ∷ Byte 24 (marks_of dd) ∷ Byte 25 (class_of dd.kind)
    ∷ Number l.cards (length (cards_of dd.kind)) ∷ set_entries dd.kind in
    let body : List Entry = Number l.next_dd c.args.next ∷ Number l.below c.args.below ∷ (word_entries dd.kind ++ later) in
    let ending : List Entry = Text status_bytes (part r 168 8) ∷ [] in
    let behind : List Entry = Text l.link (replicate l.link.width 0) ∷ (body ++ ending) in
    let entries : List Entry = head_entries 3 c.args.job ++ behind in
    let body_made : AreEntered head body r = (
      c.write_number.new.self,
      c.write_number.ensures.others,
      c.write_number.ensures.value,
      (
        c.write_number-2.new.self,
        c.write_number-2.ensures.others,
        c.write_number-2.ensures.value,
        (append_entered (word_entries dd.kind) later c.write_number-2.new.self c.write_words.new.rec r c.write_words.ensures (
          c.write_text.new.self,
          c.write_text.ensures.others,
          c.write_text.ensures.value ∙ c.name_text.ensures.text,
          (
            c.write_byte.new.self,
            c.write_byte.ensures.others,
            c.write_byte.ensures.value ∙ c.marks_of.ensures,
            (
              c.write_byte-2.new.self,
              c.write_byte-2.ensures.others,
              c.write_byte-2.ensures.value ∙ c.class_of.ensures,
              (
                c.write_number-3.new.self,
                c.write_number-3.ensures.others,
                c.write_number-3.ensures.value ∙ c.card_count.ensures,
                c.write_set.ensures,
              ),
            ),
          ),
        )),
      ),
    ) in
    let made : AreEntered zeros entries r =
    (append_entered (head_entries 3 c.args.job) behind zeros head r c.headed-rec.ensures.entered (
      head,
      nothing_changed l.link head,
      link,
      (append_entered body ending head r r body_made (r, nothing_changed status_bytes r, refl, refl)),
    )) in
    let blank = c.headed-rec.ensures.rest status_bytes (omega arith) (inr (omega arith)) (inr (omega arith)) in
    let status : part r 168 8 ≡ replicate 8 0 =
    untouched status_bytes body head r body_made
    (behind_three (field 0 1) (field 2 2) l.link (places body ++ status_bytes ∷ []) c.requires.holds.siot) ∙ blank in
    let whole : length r ≡ 176 = size_stays entries zeros r made in
    let stand = all_stand entries zeros r c.requires.holds.siot made in
    let fields = common l ++ l.next_dd ∷ l.below ∷ field 12 4 ∷ field 16 10 ∷ l.cards ∷ field 28 1 ∷ field 30 10 ∷ status_bytes ∷ [] in
    let covered : (k : ℕ) → InNone k fields → InNone k (places entries) = λ k o. (
      o.0,
      (
        o.1.0,
        (
          o.1.1.0,
          (
            o.1.1.1.0,
            (
              o.1.1.1.1.0,
              (
                narrow (field 12 1) (field 12 4) k (omega arith) (omega arith) o.1.1.1.1.1.0,
                (
                  narrow (field 13 1) (field 12 4) k (omega arith) (omega arith) o.1.1.1.1.1.0,
                  (
                    narrow (field 14 1) (field 12 4) k (omega arith) (omega arith) o.1.1.1.1.1.0,
                    (
                      narrow (field 15 1) (field 12 4) k (omega arith) (omega arith) o.1.1.1.1.1.0,
                      (
                        narrow (field 16 8) (field 16 10) k (omega arith) (omega arith) o.1.1.1.1.1.1.0,
                        (
                          narrow (field 24 1) (field 16 10) k (omega arith) (omega arith) o.1.1.1.1.1.1.0,
                          (
                            narrow (field 25 1) (field 16 10) k (omega arith) (omega arith) o.1.1.1.1.1.1.0,
                            (
                              o.1.1.1.1.1.1.1.0,
                              (
                                o.1.1.1.1.1.1.1.1.0,
                                (
                                  narrow (field 30 4) (field 30 10) k (omega arith) (omega arith) o.1.1.1.1.1.1.1.1.1.0,
                                  (
                                    narrow (field 34 2) (field 30 10) k (omega arith) (omega arith) o.1.1.1.1.1.1.1.1.1.0,
                                    (
                                      narrow (field 36 2) (field 30 10) k (omega arith) (omega arith) o.1.1.1.1.1.1.1.1.1.0,
                                      (narrow (field 38 2) (field 30 10) k (omega arith) (omega arith) o.1.1.1.1.1.1.1.1.1.0, (o.1.1.1.1.1.1.1.1.1.1.0, tt)),
                                    ),
                                  ),
                                ),
                              ),
                            ),
                          ),
                        ),
                      ),
                    ),
                  ),
                ),
              ),
            ),
          ),
        ),
      ),
    ) in
    let unused : is_zero_but fields r ≡ true = unused_zero fields entries r made covered in
    record {
      head = record { size = whole; of_kind = stand.0; of_job = stand.1.0; link = no_link l r own whole stand.1.1.0 };
      spells = record {
        kind = stand.1.1.1.1.1.0;
        status = stand.1.1.1.1.1.1.0;
        normal = stand.1.1.1.1.1.1.1.0;
        conditional = stand.1.1.1.1.1.1.1.1.0;
        name = stand.1.1.1.1.1.1.1.1.1.0;
        marks = stand.1.1.1.1.1.1.1.1.1.1.0;
        class = stand.1.1.1.1.1.1.1.1.1.1.1.0;
        cards = stand.1.1.1.1.1.1.1.1.1.1.1.1.0;
        volume = stand.1.1.1.1.1.1.1.1.1.1.1.1.1.0;
        volume_dd = stand.1.1.1.1.1.1.1.1.1.1.1.1.1.1.0;
        primary = stand.1.1.1.1.1.1.1.1.1.1.1.1.1.1.1.0;
        secondary = stand.1.1.1.1.1.1.1.1.1.1.1.1.1.1.1.1.0;
        units = stand.1.1.1.1.1.1.1.1.1.1.1.1.1.1.1.1.1.0;
        unused = unused;
      };
      to_below = stand.1.1.1.1.0;
      to_next = stand.1.1.1.0;
      status = status;
    }

pub overflow_cast-card_count : goal.overflow_cast-card_count
overflow_cast-card_count c =
    let few = small_power c.args.layout.now.cards.width c.card_count.result c.requires.holds.own_link.fits.cards.few
    (let is = c.card_count.ensures in let room = c.requires.cards in omega (arith, is, room)) in
    omega (arith, few)
