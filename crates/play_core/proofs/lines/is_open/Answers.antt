use Rattle.std.proofs.Common.{sym, ap, ◌∙◌, take, get_or}
use Rattle.std.proofs.lemmas.List.{take_more}
use Rattle.play_core.specs.Texts.{is_open}
use Rattle.play_core.proofs.Endings.{open_last}
use Rattle.play_core.proofs.lines.is_open.Goals as goal

pub loop-byte-preserved : goal.loop-byte-preserved
loop-byte-preserved c =
    let text = c.args.text.now in
    let at = c.loop-byte.byte-index in
    sym (ap is_open (take_more text at 0 c.loop-byte-test.true) ∙ open_last (take at text) (get_or text at 0))
