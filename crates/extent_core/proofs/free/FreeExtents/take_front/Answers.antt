use Rattle.std.proofs.Common.{◌+◌, ◌-◌, length, set, ap, sym, subst, arith, length-set}
use Rattle.std.specs.List.{Contains}
use Rattle.extent_core.specs.Extents.{free_extents}
use Rattle.extent_core.proofs.Changes.{taken_kept}
use Rattle.extent_core.proofs.Finding.{front_within, taking_front}
use Rattle.extent_core.proofs.Tracks.{tracks_taken}
use Rattle.extent_core.proofs.free.FreeExtents.take_front.Goals as goal

pub set-requires : goal.set-requires
set-requires c =
    let i = c.self.inside in
    let listed = subst (λ t. Contains (free_extents t) c.args.extent) (sym c.self.view_is) c.requires.listed in
    omega (arith, front_within i.count i.sizes i.ends.items c.args.extent c.self.invariant listed)

pub set-requires-2 : goal.set-requires-2
set-requires-2 c =
    let i = c.self.inside in
    let listed = subst (λ t. Contains (free_extents t) c.args.extent) (sym c.self.view_is) c.requires.listed in
    omega (arith, front_within i.count i.sizes i.ends.items c.args.extent c.self.invariant listed, ap length c.set.ensures, length-set i.sizes c.from-start.result 0)

pub index_mut-requires : goal.index_mut-requires
index_mut-requires c =
    let i = c.self.inside in
    let listed = subst (λ t. Contains (free_extents t) c.args.extent) (sym c.self.view_is) c.requires.listed in
    omega (arith, front_within i.count i.sizes i.ends.items c.args.extent c.self.invariant listed)

pub invariant_of-self : goal.invariant_of-self
invariant_of-self c =
    let i = c.self.inside in
    let e = c.args.extent in
    let listed = subst (λ t. Contains (free_extents t) e) (sym c.self.view_is) c.requires.listed in
    let start = c.from-start.result in
    let rest = start + c.from.result in
    let last = start + c.from-2.result in
    let left = e.tracks - c.args.tracks in
    let change = taking_front i.count i.sizes i.ends.items e c.args.tracks start rest last c.self.invariant listed c.requires.within (omega arith) (omega arith) (omega arith) in
    rw c.set-2.ensures (rw c.set.ensures (taken_kept i.count i.sizes i.ends.items (set (set i.sizes start 0) rest left) (set i.ends.items last left) e.start c.args.tracks left change))

pub returns : goal.returns
returns c =
    let i = c.self.inside in
    let e = c.args.extent in
    let listed = subst (λ t. Contains (free_extents t) e) (sym c.self.view_is) c.requires.listed in
    let start = c.from-start.result in
    let rest = start + c.from.result in
    let last = start + c.from-2.result in
    let left = e.tracks - c.args.tracks in
    let change = taking_front i.count i.sizes i.ends.items e c.args.tracks start rest last c.self.invariant listed c.requires.within (omega arith) (omega arith) (omega arith) in
    rw (c.set-2.ensures, c.set.ensures, ← c.self.view_is)
    (tracks_taken i.count i.sizes i.ends.items (set (set i.sizes start 0) rest left) (set i.ends.items last left) e.start c.args.tracks left (record e { tracks = c.args.tracks }) change (omega arith) (omega arith))
