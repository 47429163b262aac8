use Rattle.std.proofs.Common.{◌-◌, ◌∙◌, ap, take, drop}
use Rattle.cb_meaning.specs.Fields.{number_of}
use Rattle.cb_records.proofs.Bytes.{last_bytes}
use Rattle.cb_records.proofs.rec.Rec.write_number.Goals as goal

pub returns-clause-value : goal.returns-clause-value
returns-clause-value c =
    ap number_of (c.write_part.ensures.value ∙ ap (λ w. take (4 - (4 - w)) (drop (4 - w) c.to_be_bytes-bytes.result)) c.from.ensures
    ∙ ap (λ bytes. take (4 - (4 - c.args.f.width)) (drop (4 - c.args.f.width) bytes)) c.to_be_bytes-bytes.ensures)
    ∙ last_bytes c.args.f.width c.args.number c.requires.holds.few c.requires.fits
