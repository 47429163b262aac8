use Rattle.std.proofs.Common.{◌≡◌, arith, ◌+◌, get_or, length, ap, ◌∙◌, length-take-le}
use Rattle.session_core.specs.Streams.{IsReadInPart, source_state}
use Rattle.session_core.proofs.Streams.{consumed_twice, of_any, without_last}
use Rattle.session_core.proofs.transfer.read_text.Goals as goal

pub returns-in_err-extend_from_slice-in-Ok-clause-err : goal.returns-in_err-extend_from_slice-in-Ok-clause-err
returns-in_err-extend_from_slice-in-Ok-clause-err g c =
    let part : IsReadInPart (source_state g.R.Read.remaining c.args.source.now) (source_state g.R.Read.remaining c.read.new.self) = record {
      seen = _;
      consumed = consumed_twice _ _ _ _ _ c.loop-buffer.invariant.read c.in-Ok.ensures.bytes.0;
      unfailed = c.in-Ok.ensures.failed;
    } in
    of_any _ part

pub returns-clause-ok : goal.returns-clause-ok
returns-clause-ok g c =
    let text = c.loop-buffer.text.items in
    let full : length text ≡ 1048576 + 1 = omega arith in (
      get_or text 1048576 0,
      rw (c.truncate.ensures.items, without_last 1048576 text full) c.loop-buffer.invariant.read,
      ap length c.truncate.ensures.items ∙ length-take-le 1048576 text (omega arith),
      c.loop-buffer.invariant.unfailed,
    )
