use Rattle.std.proofs.Common.{◌≡◌, ℕ, List, [], ◌∷◌, ◌++◌, length, replicate, arith, refl, ◌∙◌, true, inr}
use Rattle.cb_meaning.specs.Fields.{field, is_zero_but, part}
use Rattle.cb_meaning.specs.Spelled.{sct_fields, status_bytes}
use Rattle.cb_chain.specs.Entries.{AreEntered, Byte, Entry, Number, Text, places, zeros}
use Rattle.cb_chain.specs.Composed.{head_entries}
use Rattle.cb_chain.proofs.Entered.{InNone, all_stand, append_entered, behind_three, narrow, no_link, nothing_changed, size_stays, untouched, unused_zero}
use Rattle.cb_meaning.specs.Codes.{after_abend_code}
use Rattle.cb_chain.specs.Composed.{name_entries}
use Rattle.cb_chain.proofs.step_record.sct_record.Goals as goal

pub returns : goal.returns
returns c =
    let l = c.args.layout.now in
    let r = c.write_names.new.rec in
    let own = c.requires.holds.own_link in
    let head = c.headed-rec.result in
    let link = c.headed-rec.ensures.rest l.link own.fits.link.within own.kind own.owner in
    let step = c.args.step.now in
    let body : List Entry = Number l.next_step c.args.next ∷ Number l.first_dd c.args.first_dd
    ∷ Number l.dds (length step.dds) ∷ Byte 14 (after_abend_code step.after_abend) ∷ Byte 15 (length step.tests.items) ∷ name_entries step in
    let ending : List Entry = Text status_bytes (part r 168 8) ∷ [] in
    let later : List Entry = Text l.link (replicate l.link.width 0) ∷ (body ++ ending) in
    let entries : List Entry = head_entries 2 c.args.job ++ later in
    let body_made : AreEntered head body r = (
      c.write_number.new.self,
      c.write_number.ensures.others,
      c.write_number.ensures.value,
      (
        c.write_number-2.new.self,
        c.write_number-2.ensures.others,
        c.write_number-2.ensures.value,
        (
          c.write_number-3.new.self,
          c.write_number-3.ensures.others,
          c.write_number-3.ensures.value ∙ c.len.ensures,
          (
            c.write_byte.new.self,
            c.write_byte.ensures.others,
            c.write_byte.ensures.value ∙ c.after_abend_code.ensures,
            (c.write_byte-2.new.self, c.write_byte-2.ensures.others, c.write_byte-2.ensures.value ∙ c.len-2.ensures.value, c.write_names.ensures),
          ),
        ),
      ),
    ) in
    let made : AreEntered zeros entries r =
    (append_entered (head_entries 2 c.args.job) later zeros head r c.headed-rec.ensures.entered (
      head,
      nothing_changed l.link head,
      link,
      (append_entered body ending head r r body_made (r, nothing_changed status_bytes r, refl, refl)),
    )) in
    let blank = c.headed-rec.ensures.rest status_bytes (omega arith) (inr (omega arith)) (inr (omega arith)) in
    let status : part r 168 8 ≡ replicate 8 0 =
    untouched status_bytes body head r body_made
    (behind_three (field 0 1) (field 2 2) l.link (places body ++ status_bytes ∷ []) c.requires.holds.sct) ∙ blank in
    let whole : length r ≡ 176 = size_stays entries zeros r made in
    let stand = all_stand entries zeros r c.requires.holds.sct made in
    let fields = sct_fields l in
    let covered : (k : ℕ) → InNone k fields → InNone k (places entries) = λ k o. (
      o.0,
      (
        o.1.0,
        (
          o.1.1.0,
          (
            o.1.1.1.0,
            (
              o.1.1.1.1.0,
              (
                o.1.1.1.1.1.0,
                (
                  narrow (field 14 1) (field 14 2) k (omega arith) (omega arith) o.1.1.1.1.1.1.0,
                  (
                    narrow (field 15 1) (field 14 2) k (omega arith) (omega arith) o.1.1.1.1.1.1.0,
                    (
                      narrow (field 16 8) (field 16 24) k (omega arith) (omega arith) o.1.1.1.1.1.1.1.0,
                      (
                        narrow (field 24 8) (field 16 24) k (omega arith) (omega arith) o.1.1.1.1.1.1.1.0,
                        (narrow (field 32 8) (field 16 24) k (omega arith) (omega arith) o.1.1.1.1.1.1.1.0, (o.1.1.1.1.1.1.1.1.0, (o.1.1.1.1.1.1.1.1.1.0, tt))),
                      ),
                    ),
                  ),
                ),
              ),
            ),
          ),
        ),
      ),
    ) in
    let unused : is_zero_but fields r ≡ true = unused_zero fields entries r made covered in
    record {
      head = record { size = whole; of_kind = stand.0; of_job = stand.1.0; link = no_link l r own whole stand.1.1.0 };
      spells = record {
        dds = stand.1.1.1.1.1.0;
        after_abend = stand.1.1.1.1.1.1.0;
        count = stand.1.1.1.1.1.1.1.0;
        name = stand.1.1.1.1.1.1.1.1.0;
        procedure_step = stand.1.1.1.1.1.1.1.1.1.0;
        program = stand.1.1.1.1.1.1.1.1.1.1.0;
        tests = stand.1.1.1.1.1.1.1.1.1.1.1.0;
        unused = unused;
      };
      to_dd = stand.1.1.1.1.0;
      to_next = stand.1.1.1.0;
      status = status;
    }
