use Rattle.std.proofs.Common.{◌++◌, length, drop, replicate, ap, ◌∙◌}
use Rattle.std.proofs.lemmas.List.{drop-replicate}
use Rattle.set_core.proofs.records.filled.Goals as goal

pub returns : goal.returns
returns c = ap (λ front. front ++ drop (length c.args.text.now) (replicate 80 32)) c.copy_from_slice.ensures.after ∙ ap (λ rest. c.args.text.now ++ rest) (drop-replicate (length c.args.text.now) 80 32)
