use Rattle.std.proofs.Common.{◌≡◌, ◌≤◌, arith, subst, sym}
use Rattle.vtoc_core.specs.Extents.{tracks_in}
use Rattle.vtoc_core.specs.Volumes.{Counted, count_in, count_of}
use Rattle.vtoc_core.proofs.CountLemmas.{count_within, counted_on, were_there}
use Rattle.vtoc_core.proofs.table.change.Goals as goal

pub shifted-requires-clause-there : goal.shifted-requires-clause-there
shifted-requires-clause-there c =
    let ts = c.args.tracks.now in
    let there : tracks_in c.args.extents.now ≤ count_of c.args.from ts = were_there c.args.from c.args.to c.args.extents.now ts c.requires.apart c.requires.kinds in
    let kept : count_in c.args.counts c.args.from ≡ count_of c.args.from ts = c.requires.counted c.args.from in
    omega (arith, c.tracks_in.ensures)

pub shifted-requires-clause-few : goal.shifted-requires-clause-few
shifted-requires-clause-few c =
    let ts = c.args.tracks.now in
    let there : tracks_in c.args.extents.now ≤ count_of c.args.from ts = were_there c.args.from c.args.to c.args.extents.now ts c.requires.apart c.requires.kinds in
    omega (arith, c.tracks_in.ensures, count_within c.args.from ts, c.requires.size)

pub returns-clause-counted : goal.returns-clause-counted
returns-clause-counted c =
    subst (Counted c.shifted.result) (sym c.mark.ensures)
    (counted_on c.args.from c.args.to c.args.extents.now c.args.tracks.now c.args.counts c.shifted.result c.tracks_in.result c.requires.apart c.requires.kinds
    c.tracks_in.ensures c.requires.counted c.shifted.ensures)
