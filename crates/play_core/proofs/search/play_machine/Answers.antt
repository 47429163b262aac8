use Rattle.std.proofs.Common.{◌≡◌, true, sym, ◌∙◌, rules}
use Rattle.play_core.proofs.Adding.{not_false}
use Rattle.play_core.proofs.Finding.{plays_from}
use Rattle.play_core.proofs.search.play_machine.Goals as goal

pub returns : goal.returns
returns c =
    let all : c.in_ok-all.all ≡ true = search (rules, not_false, c.if-not-all.false) in (
      sym c.in_ok-all.ensures.all ∙ all,
      plays_from c.args.system.now c.replay.new.system c.play_rounds.new.system c.args.rest.now _ _ c.nothing-added.ensures
          (c.in_ok-all.ensures.leads all) c.in_ok-play_rounds.ensures.adds c.in_ok-play_rounds.ensures.over,
    )
