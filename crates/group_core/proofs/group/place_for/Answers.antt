use Rattle.std.proofs.Common.{◌≡◌, ℕ, nat_lt, sym, subst}
use Rattle.std.specs.List.{insert}
use Rattle.group_core.specs.Groups.{inserted}
use Rattle.group_core.proofs.Places.{place_some, place_none, inserted_there}
use Rattle.group_core.proofs.group.place_for.Goals as goal

pub returns-in-Some-clause-value : goal.returns-in-Some-clause-value
returns-in-Some-clause-value c =
    subst (λ (p : ℕ). insert c.args.generations.now p c.args.new.now ≡ inserted c.args.new.now c.args.generations.now)
    (sym (place_some (λ g. nat_lt g.number c.args.new.now.number) c.args.generations.now c.in-Some.place (sym c.in-Some.ensures)).0)
    (inserted_there c.args.new.now c.args.generations.now)

pub returns-in-None-clause-value : goal.returns-in-None-clause-value
returns-in-None-clause-value c =
    subst (λ (p : ℕ). insert c.args.generations.now p c.args.new.now ≡ inserted c.args.new.now c.args.generations.now)
    (sym (place_none (λ g. nat_lt g.number c.args.new.now.number) c.args.generations.now (sym c.in-None.ensures)))
    (inserted_there c.args.new.now c.args.generations.now)
