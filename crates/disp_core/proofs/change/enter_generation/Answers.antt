use Rattle.std.proofs.Common.{◌≡◌, Some, sym, subst}
use Rattle.jname_core.specs.Generations.{base_of, generation_of}
use Rattle.jcl_meaning.specs.Stores.{Store, generation_entered, generation_entered_by, group_of}
use Rattle.store_core.specs.EnteredNumbers.{TakesNumber}
use Rattle.disp_core.proofs.Entering.{group_of_member, refused_number, takes_number}
use Rattle.disp_core.proofs.change.enter_generation.Goals as goal

pub returns-then-is_err-clause-seen : goal.returns-then-is_err-clause-seen
returns-then-is_err-clause-seen g c =
    let s : Store = g.S.JobStore.seen c.args.job c.args.store.now in
    subst (λ k. s ≡ generation_entered s k c.args.serial c.args.date) (sym c.in-Named.is)
    (subst (λ m. s ≡ generation_entered_by m (base_of c.in-Named.name) c.args.serial c.args.date s) c.in-Some.ensures.member
    (refused_number c.would_enter.result s (base_of c.in-Named.name) c.args.serial c.args.date c.in-Some.number c.in-Some.group.now
    (group_of_member (generation_of c.in-Named.name) (group_of s (base_of c.in-Named.name)) (c.in-Some.number, c.in-Some.group.now) c.in-Some.ensures.member)
    c.would_enter.ensures c.if-is_err.ensures.value))

pub enter_number-requires-clause-group : goal.enter_number-requires-clause-group
enter_number-requires-clause-group g c =
    let s : Store = g.S.JobStore.seen c.args.job c.args.store.now in
    subst (λ b. TakesNumber (group_of s b) c.in-Some.number c.args.serial) (sym c.base_of.ensures.base)
    (subst (λ o. TakesNumber o c.in-Some.number c.args.serial)
    (sym (group_of_member (generation_of c.in-Named.name) (group_of s (base_of c.in-Named.name)) (c.in-Some.number, c.in-Some.group.now) c.in-Some.ensures.member))
    (takes_number c.would_enter.result c.in-Some.group.now c.in-Some.number c.args.serial c.would_enter.ensures c.if-is_err.ensures.value))

pub returns-clause-seen : goal.returns-clause-seen
returns-clause-seen g c =
    let s : Store = g.S.JobStore.seen c.args.job c.args.store.now in
    subst (λ k. g.S.JobStore.seen c.args.job c.enter_number.new.store ≡ generation_entered s k c.args.serial c.args.date) (sym c.in-Named.is)
    (subst (λ m. g.S.JobStore.seen c.args.job c.enter_number.new.store ≡ generation_entered_by m (base_of c.in-Named.name) c.args.serial c.args.date s) c.in-Some.ensures.member
    (subst (λ b. g.S.JobStore.seen c.args.job c.enter_number.new.store ≡ generation_entered_by (Some (c.in-Some.number, c.in-Some.group.now)) b c.args.serial c.args.date s) c.base_of.ensures.base
    (c.enter_number.ensures.seen c.in-Some.group.now
    (subst (λ b. group_of s b ≡ Some c.in-Some.group.now) (sym c.base_of.ensures.base)
    (group_of_member (generation_of c.in-Named.name) (group_of s (base_of c.in-Named.name)) (c.in-Some.number, c.in-Some.group.now) c.in-Some.ensures.member))
    (sym c.scratches-scratches.ensures))))
