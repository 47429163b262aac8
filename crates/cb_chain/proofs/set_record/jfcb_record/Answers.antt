use Rattle.std.proofs.Common.{◌≡◌, ℕ, List, [], ◌∷◌, ◌++◌, length, replicate, arith, refl, ◌∙◌, true, inr}
use Rattle.cb_meaning.specs.Codes.{expiry_code, expiry_number}
use Rattle.cb_meaning.specs.Fields.{field, filled_or_blank, is_zero_but, part}
use Rattle.cb_meaning.specs.Spelled.{jfcb_fields, key_code, name_referred, relative_bytes, serial_coded, status_bytes}
use Rattle.cb_chain.specs.Entries.{AreEntered, Byte, Entry, Number, Text, places, zeros}
use Rattle.cb_chain.specs.Composed.{head_entries}
use Rattle.cb_chain.proofs.Entered.{InNone, all_stand, append_entered, behind_three, narrow, no_link, nothing_changed, size_stays, untouched, unused_zero}
use Rattle.cb_chain.specs.Composed.{key_entries}
use Rattle.cb_chain.proofs.set_record.jfcb_record.Goals as goal

pub returns : goal.returns
returns c =
    let l = c.args.layout.now in
    let r = c.write_number-2.new.self in
    let own = c.requires.holds.own_link in
    let head = c.headed-rec.result in
    let link = c.headed-rec.ensures.rest l.link own.fits.link.within own.kind own.owner in
    let p = c.args.set.now in
    let last : List Entry = Text (field 56 6) (filled_or_blank 6 (serial_coded p.volume))
    ∷ Text (field 62 44) (filled_or_blank 44 (name_referred p.volume)) ∷ Number l.expiry_kind (expiry_code p.expiry)
    ∷ Number l.expiry_days (expiry_number p.expiry) ∷ [] in
    let body : List Entry = Byte 8 (key_code p.key) ∷ Text (field 9 3) (relative_bytes p.key) ∷ (key_entries p.key ++ last) in
    let later : List Entry = Text l.link (replicate l.link.width 0) ∷ body in
    let entries : List Entry = head_entries 4 c.args.job ++ later in
    let body_made : AreEntered head body r = (
      c.write_byte.new.self,
      c.write_byte.ensures.others,
      c.write_byte.ensures.value ∙ c.key_code.ensures,
      (
        c.write_part.new.self,
        c.write_part.ensures.others,
        c.write_part.ensures.value ∙ c.relative_bytes.ensures,
        (append_entered (key_entries p.key) last c.write_part.new.self c.write_name.new.rec r c.write_name.ensures (
          c.write_text.new.self,
          c.write_text.ensures.others,
          c.write_text.ensures.value ∙ c.serial_text.ensures.text,
          (
            c.write_text-2.new.self,
            c.write_text-2.ensures.others,
            c.write_text-2.ensures.value ∙ c.referred_text.ensures.text,
            (
              c.write_number.new.self,
              c.write_number.ensures.others,
              c.write_number.ensures.value ∙ c.expiry_code.ensures,
              (
                c.write_number-2.new.self,
                c.write_number-2.ensures.others,
                c.write_number-2.ensures.value ∙ c.expiry_number.ensures,
                refl,
              ),
            ),
          ),
        )),
      ),
    ) in
    let made : AreEntered zeros entries r =
    (append_entered (head_entries 4 c.args.job) later zeros head r c.headed-rec.ensures.entered
    (head, nothing_changed l.link head, link, body_made)) in
    let blank = c.headed-rec.ensures.rest status_bytes (omega arith) (inr (omega arith)) (inr (omega arith)) in
    let whole : length r ≡ 176 = size_stays entries zeros r made in
    let ending : List Entry = Text status_bytes (part r 168 8) ∷ [] in
    let closed : AreEntered zeros (entries ++ ending) r =
    append_entered entries ending zeros r r made (r, nothing_changed status_bytes r, refl, refl) in
    let status : part r 168 8 ≡ replicate 8 0 =
    untouched status_bytes body head r body_made
    (behind_three (field 0 1) (field 2 2) l.link (places body ++ status_bytes ∷ []) c.requires.holds.jfcb) ∙ blank in
    let stand = all_stand (entries ++ ending) zeros r c.requires.holds.jfcb closed in
    let fields = jfcb_fields l in
    let covered : (k : ℕ) → InNone k fields → InNone k (places entries) = λ k o. (
      o.0,
      (
        o.1.0,
        (
          o.1.1.0,
          (
            narrow (field 8 1) (field 8 98) k (omega arith) (omega arith) o.1.1.1.0,
            (
              narrow (field 9 3) (field 8 98) k (omega arith) (omega arith) o.1.1.1.0,
              (
                narrow (field 12 44) (field 8 98) k (omega arith) (omega arith) o.1.1.1.0,
                (
                  narrow (field 56 6) (field 8 98) k (omega arith) (omega arith) o.1.1.1.0,
                  (
                    narrow (field 62 44) (field 8 98) k (omega arith) (omega arith) o.1.1.1.0,
                    (o.1.1.1.1.0, (o.1.1.1.1.1.0, tt)),
                  ),
                ),
              ),
            ),
          ),
        ),
      ),
    ) in
    let unused : is_zero_but fields r ≡ true = unused_zero fields entries r made covered in
    record {
      head = record { size = whole; of_kind = stand.0; of_job = stand.1.0; link = no_link l r own whole stand.1.1.0 };
      spells = record {
        kind = stand.1.1.1.0;
        relative = stand.1.1.1.1.0;
        name = stand.1.1.1.1.1.0;
        serial = stand.1.1.1.1.1.1.0;
        reference = stand.1.1.1.1.1.1.1.0;
        expiry_kind = stand.1.1.1.1.1.1.1.1.0;
        expiry_days = stand.1.1.1.1.1.1.1.1.1.0;
        unused = unused;
      };
      status = status;
    }
