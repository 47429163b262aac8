use Rattle.std.proofs.Common.{◌++◌, length, drop, replicate, ap, ◌∙◌}
use Rattle.std.proofs.lemmas.List.{drop-replicate}
use Rattle.session_text.proofs.sets.filled.Goals as goal

pub returns : goal.returns
returns c = ap (λ front. front ++ drop (length c.args.line.now) (replicate 80 32)) c.copy_from_slice.ensures.after ∙ ap (λ rest. c.args.line.now ++ rest) (drop-replicate (length c.args.line.now) 80 32)
