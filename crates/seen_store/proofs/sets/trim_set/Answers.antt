use Rattle.std.proofs.Common.{◌≡◌, min, ◌∙◌, ℕ, is_some, ap, rules, sym}
use Rattle.jcl_meaning.specs.declared.store.DataSet.{DataSet}
use Rattle.jcl_meaning.specs.Stores.{cut}
use Rattle.seen_store.proofs.Places.{changed, not_changed}
use Rattle.seen_store.proofs.sets.trim_set.Goals as goal

pub returns-in-Some : goal.returns-in-Some
returns-in-Some c =
    let set : DataSet = c.in-Some.set.now in
    let set_now : DataSet = record { tracks = c.min-set.result; expires = set.expires; records = set.records } in
    changed cut c.args.sets.now.entries (c.get_mut.follows.lender set_now).entries (record { key = c.args.key.now; serial = c.args.serial })
    set set_now c.in-Some.ensures.value
    (ap (λ (n : ℕ). record { tracks = n; expires = set.expires; records = set.records })
    (c.min-set.ensures ∙ ap (λ (n : ℕ). min set.tracks n) (c.div_ceil-used.ensures ∙ search rules)))
    ((c.get_mut.follows.holds set_now).3 (sym (ap is_some c.in-Some.ensures.value))).0

pub returns-in-None : goal.returns-in-None
returns-in-None c =
    let same : c.get_mut.follows.lender-at-none.entries ≡ c.args.sets.now.entries = cc in
    not_changed cut c.args.sets.now.entries c.get_mut.follows.lender-at-none.entries (record { key = c.args.key.now; serial = c.args.serial })
    c.in-None.ensures.value same
