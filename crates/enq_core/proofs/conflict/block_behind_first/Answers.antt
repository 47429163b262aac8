use Rattle.std.proofs.Common.{◌≡◌, [], false, sym, subst}
use Rattle.std.specs.Prelude.{slice_index_or, take}
use Rattle.std.specs.List.{All}
use Rattle.std.proofs.lemmas.List.Elements.{All-cons, All-head}
use Rattle.enq_core.specs.declared.table.Blocked.{Blocked}
use Rattle.enq_core.specs.Holds.{IsFirstBlock, is_blocked}
use Rattle.enq_core.proofs.Alone.{other_blocked}
use Rattle.enq_core.proofs.Holders.{all_free_from_none, first_block_from}
use Rattle.enq_core.proofs.conflict.block_behind_first.Goals as goal

pub returns-in_default-first_conflict-clause-none : goal.returns-in_default-first_conflict-clause-none
returns-in_default-first_conflict-clause-none c =
    let holds = c.args.holds.now in
    let others = c.in-Some.others.now in
    let first = c.in-Some.field-0-0.now in
    let free : is_blocked holds first ≡ false = All-head (λ want. is_blocked holds want ≡ false) first [] (subst (λ ws. All (λ want. is_blocked holds want ≡ false) (take 1 ws)) c.in-Some.ensures.cases.0 c.requires.first) in
    subst (λ ws. All (λ want. is_blocked holds want ≡ false) ws) (sym c.in-Some.ensures.cases.0)
    (All-cons (λ want. is_blocked holds want ≡ false) first others free
    (all_free_from_none holds others c.in_default-first_conflict.ensures))

pub returns-clause-some : goal.returns-clause-some
returns-clause-some c =
    let holds = c.args.holds.now in
    let others = c.in-Some.others.now in
    let conflict = c.in-Some-first_conflict.field-0 in
    let first = c.in-Some.field-0-0.now in
    let free : is_blocked holds first ≡ false = All-head (λ want. is_blocked holds want ≡ false) first [] (subst (λ ws. All (λ want. is_blocked holds want ≡ false) (take 1 ws)) c.in-Some.ensures.cases.0 c.requires.first) in
    let blocked : Blocked = record { job = conflict.job; name = (slice_index_or others conflict.place c.index-others-place.result).name } in
    subst (λ ws. IsFirstBlock holds ws blocked) (sym c.in-Some.ensures.cases.0)
    (other_blocked holds c.in-Some.field-0-0.now others blocked free
    (first_block_from holds others conflict c.index-others-place.result c.in-Some-first_conflict.ensures))
