use Rattle.std.proofs.Common.{◌≡◌, ℕ, List, [], ◌∷◌, ◌++◌, length, replicate, arith, refl, ap, ◌∙◌, true, inr}
use Rattle.cb_meaning.specs.Fields.{field, filled, is_zero_but, part, then_zeros}
use Rattle.cb_meaning.specs.Spelled.{jct_fields, status_bytes}
use Rattle.cb_chain.specs.Entries.{AreEntered, Byte, Entry, Number, Text, places, zeros}
use Rattle.cb_chain.specs.Composed.{head_entries}
use Rattle.cb_chain.proofs.Entered.{InNone, all_stand, append_entered, behind_three, narrow, no_link, nothing_changed, size_stays, untouched, unused_zero}
use Rattle.cb_chain.specs.Composed.{class_entries}
use Rattle.cb_meaning.specs.Codes.{job_test_bytes}
use Rattle.std.specs.List.{flat_map}
use Rattle.cb_chain.proofs.Small.{small_power}
use Rattle.cb_chain.proofs.job_record.jct_record.Goals as goal

pub returns : goal.returns
returns c =
    let l = c.args.layout.now in
    let r = c.write_part.new.self in
    let own = c.requires.holds.own_link in
    let head = c.headed-rec.result in
    let link = c.headed-rec.ensures.rest l.link own.fits.link.within own.kind own.owner in
    let plan = c.args.plan.now in
    let last : List Entry = Number l.first_step c.args.first_step ∷ Number l.steps (length plan.steps) ∷ Text (field 16 8) (filled 8 plan.name)
    ∷ Byte 24 (length plan.tests.items) ∷ Text (field 26 24) (then_zeros 24 (flat_map job_test_bytes plan.tests.items)) ∷ [] in
    let body : List Entry = class_entries l.number plan ++ last in
    let ending : List Entry = Text status_bytes (part r 168 8) ∷ [] in
    let later : List Entry = Text l.link (replicate l.link.width 0) ∷ (body ++ ending) in
    let entries : List Entry = head_entries 1 c.args.job ++ later in
    let body_made : AreEntered head body r =
    (append_entered (class_entries l.number plan) last head c.write_classes.new.rec r c.write_classes.ensures (
      c.write_number.new.self,
      c.write_number.ensures.others,
      c.write_number.ensures.value,
      (
        c.write_number-2.new.self,
        c.write_number-2.ensures.others,
        c.write_number-2.ensures.value ∙ c.len.ensures,
        (
          c.write_text.new.self,
          c.write_text.ensures.others,
          c.write_text.ensures.value ∙ ap (λ t. filled 8 t) c.as_slice.ensures.value,
          (
            c.write_byte.new.self,
            c.write_byte.ensures.others,
            c.write_byte.ensures.value ∙ c.len-2.ensures.value,
            (
              c.write_part.new.self,
              c.write_part.ensures.others,
              c.write_part.ensures.value ∙ c.job_tests.ensures.bytes,
              refl,
            ),
          ),
        ),
      ),
    )) in
    let made : AreEntered zeros entries r =
    (append_entered (head_entries 1 c.args.job) later zeros head r c.headed-rec.ensures.entered (
      head,
      nothing_changed l.link head,
      link,
      (append_entered body ending head r r body_made (r, nothing_changed status_bytes r, refl, refl)),
    )) in
    let blank = c.headed-rec.ensures.rest status_bytes (omega arith) (inr (omega arith)) (inr (omega arith)) in
    let status : part r 168 8 ≡ replicate 8 0 =
    untouched status_bytes body head r body_made
    (behind_three (field 0 1) (field 2 2) l.link (places body ++ status_bytes ∷ []) c.requires.holds.jct) ∙ blank in
    let whole : length r ≡ 176 = size_stays entries zeros r made in
    let stand = all_stand entries zeros r c.requires.holds.jct made in
    let fields = jct_fields l in
    let covered : (k : ℕ) → InNone k fields → InNone k (places entries) = λ k o. (
      o.0,
      (
        o.1.0,
        (
          o.1.1.0,
          (
            narrow (field 8 1) (field 8 4) k (omega arith) (omega arith) o.1.1.1.0,
            (
              narrow (field 9 1) (field 8 4) k (omega arith) (omega arith) o.1.1.1.0,
              (
                narrow (field 10 1) (field 8 4) k (omega arith) (omega arith) o.1.1.1.0,
                (
                  narrow (field 11 1) (field 8 4) k (omega arith) (omega arith) o.1.1.1.0,
                  (
                    o.1.1.1.1.0,
                    (
                      o.1.1.1.1.1.0,
                      (
                        narrow (field 16 8) (field 16 9) k (omega arith) (omega arith) o.1.1.1.1.1.1.0,
                        (narrow (field 24 1) (field 16 9) k (omega arith) (omega arith) o.1.1.1.1.1.1.0, (o.1.1.1.1.1.1.1.0, (o.1.1.1.1.1.1.1.1.0, tt))),
                      ),
                    ),
                  ),
                ),
              ),
            ),
          ),
        ),
      ),
    ) in
    let unused : is_zero_but fields r ≡ true = unused_zero fields entries r made covered in
    record {
      head = record { size = whole; of_kind = stand.0; of_job = stand.1.0; link = no_link l r own whole stand.1.1.0 };
      spells = record {
        layout = stand.1.1.1.0;
        class = stand.1.1.1.1.0;
        priority = stand.1.1.1.1.1.0;
        message_class = stand.1.1.1.1.1.1.0;
        steps = stand.1.1.1.1.1.1.1.1.0;
        name = stand.1.1.1.1.1.1.1.1.1.0;
        count = stand.1.1.1.1.1.1.1.1.1.1.0;
        tests = stand.1.1.1.1.1.1.1.1.1.1.1.0;
        unused = unused;
      };
      to_step = stand.1.1.1.1.1.1.1.0;
      status = status;
    }

pub overflow_cast-len : goal.overflow_cast-len
overflow_cast-len c =
    let most = small_power c.args.layout.now.steps.width c.args.layout.now.most_steps c.requires.holds.own_link.fits.steps.few c.requires.holds.step_count in
    let is = c.len.ensures in
    let few = c.requires.steps in
    omega (arith, most, is, few)
