use Rattle.std.proofs.Common.{◌∙◌, ◌<◌, ℕ, List, ap, arith, get_or, length, sym, take}
use Rattle.std.proofs.lemmas.List.{take_more}
use Rattle.packed_core.specs.Indexed.{hash_from, mixed}
use Rattle.packed_core.proofs.Joining.{hash_more}
use Rattle.packed_core.proofs.index.hash_of.Goals as goal

pub loop-word-preserved : goal.loop-word-preserved
loop-word-preserved c =
    let row : List ℕ = c.args.row.now in
    let j : ℕ = c.loop-word.word-index in
    let below : j < length row = omega (arith, c.loop-word-test.true) in
    (λ i. mixed (c.loop-word.invariant i) (get_or row j 0)) ∙ sym (hash_more 0 (take j row) (get_or row j 0)) ∙ ap (hash_from 0) (sym (take_more row j 0 below))
