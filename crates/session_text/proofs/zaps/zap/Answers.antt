use Rattle.std.proofs.Common.{◌≡◌, Some, sym, ap, ◌∙◌, subst}
use Rattle.std.specs.Prelude.{IfOk}
use Rattle.session_text.specs.Fields.{fields_of, listed_in}
use Rattle.session_text.specs.Rows.{only_of, three_of}
use Rattle.session_text.specs.Statements.{zap_of, zap_with}
use Rattle.session_text.specs.declared.statement.Says.{Says}
use Rattle.session_text.proofs.Zapped.{zap_kept}
use Rattle.session_text.proofs.zaps.zap.Goals as goal

pub returns-in-Some-three_parts : goal.returns-in-Some-three_parts
returns-in-Some-three_parts c =
    let operand_bytes : c.operand.inside.bytes.now ≡ c.in-Some.operand = c.operand.view_is in
    let number_bytes : c.number.inside.bytes.now ≡ c.in-Some-three_parts.number = c.number.view_is in
    let offset_bytes : c.offset.inside.bytes.now ≡ c.in-Some-three_parts.offset = c.offset.view_is in
    let digit_bytes : c.digits.inside.bytes.now ≡ c.in-Some-three_parts.digits = c.digits.view_is in
    let one : only_of (fields_of c.args.operands.now) ≡ Some c.in-Some.operand = cc in
    let three : three_of (listed_in c.in-Some.operand) ≡ Some (c.in-Some-three_parts.number, c.in-Some-three_parts.offset, c.in-Some-three_parts.digits) =
    ap (λ text. three_of (listed_in text)) (sym operand_bytes) ∙ cc in
    let same : zap_with c.record_in.result c.offset_in.result c.bytes_in.result ≡ zap_of (fields_of c.args.operands.now) =
    rw (c.record_in.ensures, c.offset_in.ensures, c.bytes_in.ensures, number_bytes, offset_bytes, digit_bytes)
    (zap_kept _ _ (c.in-Some-three_parts.number, c.in-Some-three_parts.offset, c.in-Some-three_parts.digits) one three) in
    subst (λ (says : Says). IfOk c.zap_with.result (λ s. s ≡ says)) same c.zap_with.ensures
