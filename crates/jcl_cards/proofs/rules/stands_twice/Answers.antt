use Rattle.std.proofs.Common.{◌+◌, ◌||◌, drop, sym, ap, ◌∙◌}
use Rattle.jcl_cards.specs.Keywords.{stands_twice}
use Rattle.jcl_cards.specs.Reading.{spelled_by}
use Rattle.jcl_cards.proofs.Twice.{twice_here}
use Rattle.jcl_cards.proofs.rules.stands_twice.Goals as goal

pub returns-then-has_spelled : goal.returns-then-has_spelled
returns-then-has_spelled c =
    let here = twice_here c.args.spelling c.args.keywords.now c.split_at.result.1.now c.loop-at.at c.index-keywords-at.result c.key.result.now
    c.spelled_by.result.now
    c.has_spelled.result c.loop-at-test.true c.index-keywords-at.is c.split_at.ensures.back c.key.ensures c.spelled_by.ensures c.has_spelled.ensures in
    let left = stands_twice (spelled_by c.args.spelling) (drop (c.loop-at.at + 1) c.args.keywords.now) in
    sym (c.loop-at.invariant ∙ here ∙ ap (λ found. found || left) c.if-has_spelled.true)

pub loop-at-preserved : goal.loop-at-preserved
loop-at-preserved c =
    let here = twice_here c.args.spelling c.args.keywords.now c.split_at.result.1.now c.loop-at.at c.index-keywords-at.result c.key.result.now
    c.spelled_by.result.now
    c.has_spelled.result c.loop-at-test.true c.index-keywords-at.is c.split_at.ensures.back c.key.ensures c.spelled_by.ensures c.has_spelled.ensures in
    let left = stands_twice (spelled_by c.args.spelling) (drop (c.loop-at.at + 1) c.args.keywords.now) in
    c.loop-at.invariant ∙ here ∙ ap (λ found. found || left) c.if-has_spelled.false
