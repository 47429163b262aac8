use Rattle.std.proofs.Common.{◌≡◌, is_some, ap, sym}
use Rattle.jcl_meaning.specs.declared.store.DataSet.{DataSet}
use Rattle.jcl_meaning.specs.Programs.{appended}
use Rattle.seen_store.proofs.Places.{changed, not_changed, written_again}
use Rattle.seen_store.proofs.sets.append_to.Goals as goal

pub returns-in-Ok-clause-ok : goal.returns-in-Ok-clause-ok
returns-in-Ok-clause-ok c =
    let set : DataSet = c.in-Some.set.now in
    let set_now : DataSet = record { tracks = set.tracks; expires = set.expires; records = c.push.new.self } in
    changed (appended c.args.text.now) c.args.sets.now.entries (c.get_mut.follows.lender set_now).entries (record { key = c.args.key.now; serial = c.args.serial })
    set set_now c.in-Some.ensures.value
    (ap (λ records. record { tracks = set.tracks; expires = set.expires; records = records }) c.in-Ok.ensures.ok)
    ((c.get_mut.follows.holds set_now).3 (sym (ap is_some c.in-Some.ensures.value))).0

pub returns-in-Err-clause-err : goal.returns-in-Err-clause-err
returns-in-Err-clause-err c =
    let set : DataSet = c.in-Some.set.now in
    let set_now : DataSet = record { tracks = set.tracks; expires = set.expires; records = c.push.new.self } in
    written_again c.args.sets.now.entries (c.get_mut.follows.lender set_now).entries (record { key = c.args.key.now; serial = c.args.serial })
    set set_now c.in-Some.ensures.value (ap (λ records. record { tracks = set.tracks; expires = set.expires; records = records }) c.in-Err.ensures.err) (c.get_mut.follows.holds set_now).0

pub returns-in-None-clause-ok : goal.returns-in-None-clause-ok
returns-in-None-clause-ok c =
    let same : c.get_mut.follows.lender-at-none.entries ≡ c.args.sets.now.entries = cc in
    not_changed (appended c.args.text.now) c.args.sets.now.entries c.get_mut.follows.lender-at-none.entries (record { key = c.args.key.now; serial = c.args.serial })
    c.in-None.ensures.value same
