use Rattle.std.proofs.Common.{◌≡◌, ◌+◌, ◌^◌, ◌≤◌, ◌∙◌, ℕ, Option, is_some, ap, arith, refl, subst, sym}
use Rattle.std.specs.Prelude.{IsSomeAnd}
use Rattle.jcl_meaning.specs.declared.store.DataSet.{DataSet}
use Rattle.jcl_meaning.specs.Programs.{grown_by}
use Rattle.seen_store.proofs.Places.{changed, not_changed, set_found, written_again}
use Rattle.seen_store.proofs.sets.grow_set.Goals as goal

pub returns-in-Some-checked_add-clause-ok : goal.returns-in-Some-checked_add-clause-ok
returns-in-Some-checked_add-clause-ok c =
    let set : DataSet = c.in-Some.set.now in
    let set_now : DataSet = record { tracks = c.in-Some-checked_add.more; expires = set.expires; records = set.records } in
    changed (grown_by c.args.tracks) c.args.sets.now.entries (c.get_mut.follows.lender set_now).entries (record { key = c.args.key.now; serial = c.args.serial })
    set set_now c.in-Some.ensures.value
    (ap (λ (n : ℕ). record { tracks = n; expires = set.expires; records = set.records }) (c.in-Some-checked_add.ensures.1 ∙ ap (λ (n : ℕ). set.tracks + n) c.from.ensures))
    ((c.get_mut.follows.holds set_now).3 (sym (ap is_some c.in-Some.ensures.value))).0

pub returns-in-None-checked_add-clause-err : goal.returns-in-None-checked_add-clause-err
returns-in-None-checked_add-clause-err c =
    let set : DataSet = c.in-Some.set.now in
    let set_now : DataSet = set in
    written_again c.args.sets.now.entries (c.get_mut.follows.lender set_now).entries (record { key = c.args.key.now; serial = c.args.serial })
    set set_now c.in-Some.ensures.value refl (c.get_mut.follows.holds set_now).0

pub returns-in-None-checked_add-clause-past : goal.returns-in-None-checked_add-clause-past
returns-in-None-checked_add-clause-past c =
    let past : 2 ^ 64 ≤ c.in-Some.set.now.tracks + c.args.tracks = omega (arith, c.in-None-checked_add.ensures, c.from.ensures) in
    subst (λ (o : Option DataSet). IsSomeAnd o (λ set. 2 ^ 64 ≤ set.tracks + c.args.tracks))
    (c.in-Some.ensures.value ∙ set_found c.args.sets.now.entries c.args.key.now c.args.serial) past

pub returns-in-None-clause-ok : goal.returns-in-None-clause-ok
returns-in-None-clause-ok c =
    let same : c.get_mut.follows.lender-at-none.entries ≡ c.args.sets.now.entries = cc in
    not_changed (grown_by c.args.tracks) c.args.sets.now.entries c.get_mut.follows.lender-at-none.entries (record { key = c.args.key.now; serial = c.args.serial })
    c.in-None.ensures.value same
