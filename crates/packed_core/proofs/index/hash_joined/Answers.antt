use Rattle.std.proofs.Common.{◌∙◌, ◌<◌, ℕ, List, ap, arith, get_or, length, sym, take}
use Rattle.std.proofs.lemmas.List.{take_all, take_more}
use Rattle.packed_core.specs.Indexed.{hash_from, mixed}
use Rattle.packed_core.specs.Words.{joined_words}
use Rattle.packed_core.proofs.Joining.{hash_more, joined_at, length-joined}
use Rattle.packed_core.proofs.index.hash_joined.Goals as goal

pub loop-j-preserved : goal.loop-j-preserved
loop-j-preserved c =
    let row : List ℕ = c.args.row.now in
    let mask : List ℕ = c.args.mask.now in
    let all : List ℕ = joined_words row mask in
    let j : ℕ = c.loop-j.j in
    let within : j < length row = omega (arith, c.loop-j-test.true) in
    let below : j < length all = omega (arith, length-joined row mask c.requires.as_long) in
    (λ i. mixed (c.loop-j.invariant i) (sym (joined_at row mask j c.requires.as_long within) i))
    ∙ sym (hash_more 0 (take j all) (get_or all j 0)) ∙ ap (hash_from 0) (sym (take_more all j 0 below))

pub returns : goal.returns
returns c =
    let all : List ℕ = joined_words c.args.row.now c.args.mask.now in
    c.loop-j.invariant ∙ ap (hash_from 0) (take_all c.loop-j.j all (omega (arith, c.loop-j-test.false, length-joined c.args.row.now c.args.mask.now c.requires.as_long)))
