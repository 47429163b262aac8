use Rattle.std.proofs.Common.{◌+◌, ◌-◌, length, set, true, refl, ap, sym, arith, length-set}
use Rattle.extent_core.proofs.Changes.{freed_kept}
use Rattle.extent_core.proofs.Tracks.{freeing_of, inside_of, marked_none, read_around, tracks_freed}
use Rattle.extent_core.proofs.free.FreeExtents.free.Goals as goal

pub returns-then-extent-eq0 : goal.returns-then-extent-eq0
returns-then-extent-eq0 c = sym (marked_none true c.args.extent c.args.self.now c.if-extent-eq0.true)

pub index-front-requires : goal.index-front-requires
index-front-requires c =
    let i = c.self.inside in
    omega (arith, inside_of i.count i.sizes i.ends.items c.args.self.now c.args.extent c.self.invariant c.self.view_is c.requires c.if-extent-eq0.false)

pub get-behind-requires : goal.get-behind-requires
get-behind-requires c =
    let i = c.self.inside in
    omega (arith, inside_of i.count i.sizes i.ends.items c.args.self.now c.args.extent c.self.invariant c.self.view_is c.requires c.if-extent-eq0.false)

pub overflow_add-size : goal.overflow_add-size
overflow_add-size c =
    let i = c.self.inside in
    let around = read_around i.count i.sizes i.ends.items c.args.self.now c.args.extent c.from-start.result (c.from-start.result + c.from.result) c.index-front.result.now c.get-behind.result c.self.invariant c.self.view_is c.requires c.if-extent-eq0.false c.from-start.ensures (omega arith) c.index-front.ensures c.get-behind.ensures in
    omega (arith, around.low, around.top)

pub overflow_add-size-2 : goal.overflow_add-size-2
overflow_add-size-2 c =
    let i = c.self.inside in
    let around = read_around i.count i.sizes i.ends.items c.args.self.now c.args.extent c.from-start.result (c.from-start.result + c.from.result) c.index-front.result.now c.get-behind.result c.self.invariant c.self.view_is c.requires c.if-extent-eq0.false c.from-start.ensures (omega arith) c.index-front.ensures c.get-behind.ensures in
    omega (arith, around.low, around.top)

pub set-requires : goal.set-requires
set-requires c =
    let i = c.self.inside in
    omega (arith, inside_of i.count i.sizes i.ends.items c.args.self.now c.args.extent c.self.invariant c.self.view_is c.requires c.if-extent-eq0.false)

pub overflow_sub-start : goal.overflow_sub-start
overflow_sub-start c =
    let i = c.self.inside in
    let around = read_around i.count i.sizes i.ends.items c.args.self.now c.args.extent c.from-start.result (c.from-start.result + c.from.result) c.index-front.result.now c.get-behind.result c.self.invariant c.self.view_is c.requires c.if-extent-eq0.false c.from-start.ensures (omega arith) c.index-front.ensures c.get-behind.ensures in
    omega (arith, around.low)

pub set-requires-2 : goal.set-requires-2
set-requires-2 c =
    let i = c.self.inside in
    let inside = inside_of i.count i.sizes i.ends.items c.args.self.now c.args.extent c.self.invariant c.self.view_is c.requires c.if-extent-eq0.false in
    omega (arith, inside, ap length c.set.ensures, length-set i.sizes (c.from-start.result + c.from.result) 0)

pub index_mut-requires : goal.index_mut-requires
index_mut-requires c =
    let i = c.self.inside in
    omega (arith, inside_of i.count i.sizes i.ends.items c.args.self.now c.args.extent c.self.invariant c.self.view_is c.requires c.if-extent-eq0.false)

pub index_mut-requires-2 : goal.index_mut-requires-2
index_mut-requires-2 c =
    let i = c.self.inside in
    let around = read_around i.count i.sizes i.ends.items c.args.self.now c.args.extent c.from-start.result (c.from-start.result + c.from.result) c.index-front.result.now c.get-behind.result c.self.invariant c.self.view_is c.requires c.if-extent-eq0.false c.from-start.ensures (omega arith) c.index-front.ensures c.get-behind.ensures in
    omega (arith, around.top)

pub invariant_of-self : goal.invariant_of-self
invariant_of-self c =
    let i = c.self.inside in
    let e = c.args.extent in
    let start = c.from-start.result in
    let end = start + c.from.result in
    let a = c.index-front.result.now in
    let b = c.get-behind.result in
    let size = a + e.tracks + b in
    let first = start - c.from-2.result in
    let last = end + c.from-3.result in
    let around = read_around i.count i.sizes i.ends.items c.args.self.now e start end a b c.self.invariant c.self.view_is c.requires c.if-extent-eq0.false c.from-start.ensures (omega arith) c.index-front.ensures c.get-behind.ensures in
    let change = freeing_of i.count i.sizes i.ends.items e a b start end size first last c.self.invariant around c.from-start.ensures (omega arith) (omega arith) (omega arith) (omega arith) in
    rw (c.set-2.ensures, c.set.ensures)
    (freed_kept i.count i.sizes i.ends.items (set (set i.sizes end 0) first size) (set (set i.ends.items start 0) last size) e.start e.tracks a b change)

pub returns : goal.returns
returns c =
    let i = c.self.inside in
    let e = c.args.extent in
    let start = c.from-start.result in
    let end = start + c.from.result in
    let a = c.index-front.result.now in
    let b = c.get-behind.result in
    let size = a + e.tracks + b in
    let first = start - c.from-2.result in
    let last = end + c.from-3.result in
    let around = read_around i.count i.sizes i.ends.items c.args.self.now e start end a b c.self.invariant c.self.view_is c.requires c.if-extent-eq0.false c.from-start.ensures (omega arith) c.index-front.ensures c.get-behind.ensures in
    let change = freeing_of i.count i.sizes i.ends.items e a b start end size first last c.self.invariant around c.from-start.ensures (omega arith) (omega arith) (omega arith) (omega arith) in
    rw (c.set-2.ensures, c.set.ensures, ← c.self.view_is)
    (tracks_freed i.count i.sizes i.ends.items (set (set i.sizes end 0) first size) (set (set i.ends.items start 0) last size) e.start e.tracks a b e change refl refl)
