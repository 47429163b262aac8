-- A JFCB without a fault spells the set that is read of it and its SIOT.
use Rattle.std.proofs.Common.{◌≡◌, ℕ, Bool, true, false, List, refl, sym, ap, ◌∙◌}
use Rattle.jcl_plan.specs.declared.plan.StepPlan.{StepPlan}
use Rattle.cb_meaning.specs.declared.layout.Layout.{Layout}
use Rattle.cb_meaning.specs.Fields.{byte_at, field, is_zero_but, number_at}
use Rattle.cb_meaning.specs.Layouts.{all_apart, siot_places}
use Rattle.cb_meaning.specs.Readings.{set_read, volume_read}
use Rattle.cb_meaning.specs.Spelled.{SpellsJfcb}
use Rattle.cb_meaning.specs.Writable.{IsSetAt}
use Rattle.walk_laws.specs.WalkLaws.{IsRecord}
use Rattle.walk_laws.proofs.faultless.Earlier.{Agrees, earlier}
use Rattle.walk_laws.proofs.faultless.Expiries.{expiry_of}
use Rattle.walk_laws.proofs.faultless.Sets.{JfcbFine, key_of}
use Rattle.walk_laws.proofs.faultless.Siots.{SiotFine}
use Rattle.walk_laws.proofs.faultless.SiotsSpelled.{space_fits, units_fit}
use Rattle.walk_laws.proofs.faultless.UsedFields.{set_dd, used, used_of}
use Rattle.walk_laws.proofs.faultless.Volumes.{IsVolumeOf, VolumeFine, volume_of}

module _ (l : Layout) (own : all_apart (siot_places l) ≡ true) (units : ℕ) (marks : List (List Bool)) (all : List StepPlan) (agrees : Agrees marks all)
    (k d : ℕ) (s r : List ℕ) (siot : IsRecord s) (is : IsRecord r) (e : byte_at s 12 ≡ 1) (fine : SiotFine l units marks k d s)
    (jfcb : JfcbFine l marks k d s r) where
  volume_fine : VolumeFine all k d s
  volume_fine = record {
    high = (fine.numbers e).volume;
    none = λ other. set_dd l own s siot (ap (λ b. is_zero_but (used l true b false false) s) (sym other) ∙ used_of l 1 s e fine.unused);
    earlier = λ is_dd. earlier marks all k d (number_at s (field 30 2)) (number_at s (field 32 2)) agrees (fine.earlier e is_dd);
  }

  pub volume_is : IsVolumeOf all k d s r (volume_read s r)
  volume_is = volume_of l marks all k d s r siot is jfcb volume_fine

  pub jfcb_spelled : SpellsJfcb l (set_read l s r) r
  jfcb_spelled =
      let key = key_of l marks all agrees k d s r is jfcb in
      let volume = volume_is in
      let days = expiry_of (number_at r l.expiry_kind) (number_at r l.expiry_days) jfcb.expiry in
      record {
        kind = key.kind;
        relative = key.relative;
        name = key.name;
        serial = volume.serial;
        reference = volume.reference;
        expiry_kind = days.kind_is;
        expiry_days = days.days_are;
        unused = jfcb.unused;
      }

  pub set_fits : IsSetAt units all k d (set_read l s r)
  set_fits = record {
    key = (key_of l marks all agrees k d s r is jfcb).fits;
    volume = volume_is.fits;
    space = space_fits units s (fine.numbers e);
    unit = units_fit units (number_at s (field 38 2)) (fine.numbers e).listed;
    expiry_fits = (expiry_of (number_at r l.expiry_kind) (number_at r l.expiry_days) jfcb.expiry).fits;
  }
