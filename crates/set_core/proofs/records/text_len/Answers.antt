use Rattle.set_core.proofs.Blanks.{filled_front}
use Rattle.set_core.proofs.records.text_len.Goals as goal

pub returns-clause-blank : goal.returns-clause-blank
returns-clause-blank c = filled_front c.args.columns.now c.trimmed_len.result c.told-columns c.trimmed_len.ensures.trimmed
