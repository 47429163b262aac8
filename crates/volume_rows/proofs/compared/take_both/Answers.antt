use Rattle.std.proofs.Common.{arith, length, ap}
use Rattle.extent_core.specs.Extents.{free_extents}
use Rattle.extent_core.proofs.CompareLemmas.{contained_within, first_contained}
use Rattle.volume_rows.proofs.compared.take_both.Goals as goal

pub take_front-requires-clause-listed : goal.take_front-requires-clause-listed
take_front-requires-clause-listed c = (first_contained c.args.tracks (free_extents c.args.fast.now) c.in_ok-first.first c.in_ok-first.ensures).0

pub take_front-requires-clause-within : goal.take_front-requires-clause-within
take_front-requires-clause-within c = (first_contained c.args.tracks (free_extents c.args.fast.now) c.in_ok-first.first c.in_ok-first.ensures).1

pub mark-requires : goal.mark-requires
mark-requires c =
    let h = first_contained c.args.tracks (free_extents c.args.fast.now) c.in_ok-first.first c.in_ok-first.ensures in
    omega (arith, contained_within c.args.fast.now c.in_ok-first.first h.0, h.1, ap length c.requires)
