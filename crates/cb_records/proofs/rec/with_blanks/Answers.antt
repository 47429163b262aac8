use Rattle.std.proofs.Common.{ap, ◌++◌, ℕ}
use Rattle.std.proofs.lemmas.List.{drop-replicate}
use Rattle.std.proofs.Common.{length}
use Rattle.cb_records.proofs.rec.with_blanks.Goals as goal

pub returns : goal.returns
returns c = rw c.copy_from_slice.ensures.after (ap (λ ys. c.args.text.now ++ ys) (drop-replicate {X = ℕ} (length c.args.text.now) 176 32))
