use Rattle.std.proofs.Common.{◌≡◌, sym, ap, ◌∙◌}
use Rattle.jcl_cards.specs.ExecCards.{OfCondition, exec_keyword}
use Rattle.jcl_cards.specs.Execs.{keyword_of}
use Rattle.jcl_cards.proofs.Conditions.{each_ok, known_as, of_condition, of_other}
use Rattle.jcl_cards.proofs.exec_conditions.read_keyword.Goals as goal

pub returns-in-Condition : goal.returns-in-Condition
returns-in-Condition c =
    let called = c.args.calls in
    let is : exec_keyword called c.args.keyword.now.key ≡ OfCondition =
    ap (exec_keyword called) (sym c.key.ensures) ∙ sym c.exec_keyword.ensures ∙ ap keyword_of c.in-Condition.is in
    each_ok c.read_condition.result
    (λ fault read. of_condition called c.args.keyword.now c.args.conditions.now c.read_condition.new.conditions fault is read) c.read_condition.ensures

pub returns-in_default : goal.returns-in_default
returns-in_default c =
    let called = c.args.calls in
    let word = c.exec_keyword.ensures ∙ ap (exec_keyword called) c.key.ensures in
    of_other called c.args.keyword.now c.args.conditions.now c.fault_of.result
    (λ is. c.in_default.not-Condition (known_as c.exec_keyword.result (word ∙ is)))
    (c.fault_of.ensures (exec_keyword called c.args.keyword.now.key) word)
