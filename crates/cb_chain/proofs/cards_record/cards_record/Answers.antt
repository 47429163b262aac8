use Rattle.std.proofs.Common.{◌≡◌, ℕ, List, [], ◌∷◌, ◌++◌, length, replicate, refl, ◌∙◌, true}
use Rattle.cb_meaning.specs.Fields.{field, is_zero_but, then_zeros}
use Rattle.cb_meaning.specs.Spelled.{card_fields}
use Rattle.cb_chain.specs.Entries.{AreEntered, Byte, Entry, Number, Text, places, zeros}
use Rattle.cb_chain.specs.Composed.{head_entries}
use Rattle.cb_chain.proofs.Entered.{InNone, all_stand, append_entered, no_link, nothing_changed, size_stays, unused_zero}
use Rattle.std.specs.List.{flat_map}
use Rattle.cb_chain.proofs.cards_record.cards_record.Goals as goal

pub returns : goal.returns
returns c =
    let l = c.args.layout.now in
    let r = c.write_part.new.self in
    let own = c.requires.holds.own_link in
    let head = c.headed-rec.result in
    let link = c.headed-rec.ensures.rest l.link own.fits.link.within own.kind own.owner in
    let here = c.args.cards.now in
    let last : List Entry = Text l.link (replicate l.link.width 0) ∷ Number l.next_cards c.args.next ∷ Byte 10 (length here)
    ∷ Text (field 16 160) (then_zeros 160 (flat_map (λ (card : List ℕ). card) here)) ∷ [] in
    let entries : List Entry = head_entries 5 c.args.job ++ last in
    let made : AreEntered zeros entries r =
    (append_entered (head_entries 5 c.args.job) last zeros head r c.headed-rec.ensures.entered (
      head,
      nothing_changed l.link head,
      link,
      (
        c.write_number.new.self,
        c.write_number.ensures.others,
        c.write_number.ensures.value,
        (
          c.write_byte.new.self,
          c.write_byte.ensures.others,
          c.write_byte.ensures.value,
          (
            c.write_part.new.self,
            c.write_part.ensures.others,
            c.write_part.ensures.value ∙ c.card_bytes.ensures,
            refl,
          ),
        ),
      ),
    )) in
    let whole : length r ≡ 176 = size_stays entries zeros r made in
    let stand = all_stand entries zeros r c.requires.holds.cards made in
    let fields = card_fields l in
    let covered : (k : ℕ) → InNone k fields → InNone k (places entries) = λ k o.
    (o.0, (o.1.0, (o.1.1.0, (o.1.1.1.0, (o.1.1.1.1.0, (o.1.1.1.1.1.0, tt)))))) in
    let unused : is_zero_but fields r ≡ true = unused_zero fields entries r made covered in
    record {
      head = record { size = whole; of_kind = stand.0; of_job = stand.1.0; link = no_link l r own whole stand.1.1.0 };
      spells = record {
        count = stand.1.1.1.1.0;
        some = c.requires.some;
        most = c.requires.most;
        cards = stand.1.1.1.1.1.0;
        unused = unused;
      };
      to_next = stand.1.1.1.0;
    }
