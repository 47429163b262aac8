use Rattle.std.proofs.Common.{◌≡◌, true, is_some, ap, sym}
use Rattle.jcl_meaning.specs.declared.store.DataSet.{DataSet}
use Rattle.jcl_meaning.specs.Programs.{emptied}
use Rattle.seen_store.proofs.Places.{changed, not_changed}
use Rattle.seen_store.proofs.sets.empty_set.Goals as goal

pub returns-in-Some : goal.returns-in-Some
returns-in-Some c =
    let set : DataSet = c.in-Some.set.now in
    let set_now : DataSet = record { tracks = set.tracks; expires = set.expires; records = c.clear.new.self } in
    changed (emptied true) c.args.sets.now.entries (c.get_mut.follows.lender set_now).entries (record { key = c.args.key.now; serial = c.args.serial })
    set set_now c.in-Some.ensures.value
    (ap (λ records. record { tracks = set.tracks; expires = set.expires; records = records }) c.clear.ensures)
    ((c.get_mut.follows.holds set_now).3 (sym (ap is_some c.in-Some.ensures.value))).0

pub returns-in-None : goal.returns-in-None
returns-in-None c =
    let same : c.get_mut.follows.lender-at-none.entries ≡ c.args.sets.now.entries = cc in
    not_changed (emptied true) c.args.sets.now.entries c.get_mut.follows.lender-at-none.entries (record { key = c.args.key.now; serial = c.args.serial })
    c.in-None.ensures.value same
