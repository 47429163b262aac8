use Rattle.std.proofs.Common.{◌≡◌, List, true, sym, subst, arith, ◌∙◌}
use Rattle.std.specs.List.{insert}
use Rattle.std.specs.Result.{is_ok}
use Rattle.std.proofs.lemmas.Bool.{cond-true}
use Rattle.group_core.specs.declared.group.Generation.{Generation}
use Rattle.group_core.specs.Groups.{IsFalling, inserted}
use Rattle.group_core.proofs.Falls.{falling_inserted}
use Rattle.group_core.proofs.group.add.Goals as goal

-- what is left: the new generation in its place
left : (c : goal.Else-is_err) → c.insert.new.self.items ≡ inserted c.args.new c.args.generations.now.items
left c =
    let ok : is_ok c.insert.result ≡ true = c.if-is_err.ensures.negation in
    let put : insert c.args.generations.now.items c.place_for-place.result c.args.new ≡ inserted c.args.new c.args.generations.now.items
    = subst (λ (gs : List Generation). insert gs c.place_for-place.result c.args.new ≡ inserted c.args.new gs) c.as_slice.ensures.value c.place_for-place.ensures.value in
    c.insert.ensures.items ∙ cond-true (is_ok c.insert.result) (insert c.args.generations.now.items c.place_for-place.result c.args.new) c.args.generations.now.items ok ∙ put

pub returns-clause-value : goal.returns-clause-value
returns-clause-value c = left c

pub returns-clause-falling : goal.returns-clause-falling
returns-clause-falling c =
    subst (IsFalling 10000) (sym (left c)) (falling_inserted 10000 c.args.new c.args.generations.now.items c.requires.falling (omega arith) c.requires.number.0 c.requires.other)
