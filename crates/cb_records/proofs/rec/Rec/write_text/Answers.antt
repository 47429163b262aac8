use Rattle.std.proofs.Common.{◌∙◌, ap, take, arith}
use Rattle.cb_records.proofs.Bytes.{first_filled}
use Rattle.cb_records.proofs.rec.Rec.write_text.Goals as goal

pub returns-clause-value : goal.returns-clause-value
returns-clause-value c =
    c.write_part.ensures.value ∙ ap (λ w. take w c.with_blanks-own.result) c.from.ensures ∙ ap (λ own. take c.args.f.width own) c.with_blanks-own.ensures
    ∙ first_filled c.args.f.width 176 c.args.text.now c.requires.fits (omega arith)
