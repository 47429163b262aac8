use Rattle.std.proofs.Common.{◌++◌, ◌∙◌, [], ap, arith, sym}
use Rattle.session_text.specs.declared.statement.Statement.{Statement}
use Rattle.mvt_check.specs.Telling.{deck_of}
use Rattle.mvt_check.proofs.Owning.{unread_done, unread_more}
use Rattle.mvt_check.proofs.answers.session.add_all_unread.Goals as goal

pub loop-at-preserved : goal.loop-at-preserved
loop-at-preserved c =
    let at = c.loop-at.at in
    let decks = c.loop-at.decks.items in
    unread_more c.args.statements.now c.args.from at c.index-statements-at.result c.args.decks.now.items decks c.add_unread.new.decks.items c.loop-at-test.true
    c.index-statements-at.is c.loop-at.invariant
    (c.in_ok-add_unread.ensures ∙ ap (λ (s : Statement). decks ++ deck_of at s.says []) (sym c.index-statements-at.is))

pub returns : goal.returns
returns c =
    unread_done c.args.statements.now c.args.from c.loop-at.at c.args.decks.now.items c.loop-at.decks.items (omega arith) c.loop-at.invariant
