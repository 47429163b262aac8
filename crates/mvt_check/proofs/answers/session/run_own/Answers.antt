use Rattle.std.proofs.Common.{◌≡◌, ◌++◌, ◌∙◌, [], ap, arith, drop}
use Rattle.std.proofs.lemmas.Result.{on_ok_weaker}
use Rattle.session_text.specs.declared.statement.Statement.{Statement}
use Rattle.mvt_check.specs.Telling.{behind_of, deck_of, decks_from, own_by}
use Rattle.mvt_check.proofs.Owning.{HasRun-more, HasRun-none, ends_at, ends_past}
use Rattle.mvt_check.proofs.answers.session.run_own.Goals as goal

pub loop-at-init : goal.loop-at-init
loop-at-init c = HasRun-none c.args.statements.now c.args.from c.args.system.now c.args.decks.now.items c.args.by_job.now.items c.requires.empty

pub loop-at-preserved : goal.loop-at-preserved
loop-at-preserved c =
    let s = c.index-statements-at.result in
    let says = ap (λ (s : Statement). s.says) c.index-statements-at.is ∙ c.in-Events.is in
    HasRun-more c.args.statements.now c.args.from c.loop-at.at s c.in-Events.event c.in-Events.times c.args.system.now c.loop-at.system c.repeat.new.system
    c.loop-at.decks.items c.add_deck.new.decks.items c.args.by_job.now.items c.loop-at.by_job.items c.repeat.new.by_job.items c.in_ok-job-in-Events.job
    c.loop-at-test.true c.index-statements-at.is says c.loop-at.invariant c.in_ok-job-in-Events.ensures c.in_ok-add_deck-in-Events.ensures

pub returns-in-Config : goal.returns-in-Config
returns-in-Config c =
    let all = c.args.statements.now in
    let at = c.loop-at.at in
    let s = c.index-statements-at.result in
    let says = ap (λ (s : Statement). s.says) c.index-statements-at.is ∙ c.in-Config.is in
    let last = c.add_all_unread.new.decks.items in
    on_ok_weaker c.add_all_unread.result
    (λ (added : last ≡ c.loop-at.decks.items ++ decks_from at (drop at all) []). ends_at all c.args.from at s c.args.system.now c.loop-at.system c.loop-at.decks.items last c.args.by_job.now.items c.loop-at.by_job.items
    c.loop-at-test.true c.index-statements-at.is (λ more. ap (λ x. own_by x more) says) (λ more. ap (λ x. deck_of at x more) says)
    (λ more. ap (λ x. behind_of x more) says) added c.loop-at.invariant)
    c.add_all_unread.ensures

pub returns-in-Refused : goal.returns-in-Refused
returns-in-Refused c =
    let all = c.args.statements.now in
    let at = c.loop-at.at in
    let s = c.index-statements-at.result in
    let says = ap (λ (s : Statement). s.says) c.index-statements-at.is ∙ c.in-Refused.is in
    let last = c.add_all_unread-in-Refused.new.decks.items in
    on_ok_weaker c.add_all_unread-in-Refused.result
    (λ (added : last ≡ c.loop-at.decks.items ++ decks_from at (drop at all) []). ends_at all c.args.from at s c.args.system.now c.loop-at.system c.loop-at.decks.items last c.args.by_job.now.items c.loop-at.by_job.items
    c.loop-at-test.true c.index-statements-at.is (λ more. ap (λ x. own_by x more) says) (λ more. ap (λ x. deck_of at x more) says)
    (λ more. ap (λ x. behind_of x more) says) added c.loop-at.invariant)
    c.add_all_unread-in-Refused.ensures

pub returns : goal.returns
returns c =
    ends_past c.args.statements.now c.args.from c.loop-at.at c.args.system.now c.loop-at.system c.loop-at.decks.items c.args.by_job.now.items
    c.loop-at.by_job.items (omega arith) c.loop-at.invariant
