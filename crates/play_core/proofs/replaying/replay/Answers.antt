use Rattle.std.proofs.Common.{◌≡◌, ◌+◌, ◌&&◌, ◌++◌, true, get_or, replicate, sym, ap, subst, ◌∙◌, take}
use Rattle.std.proofs.lemmas.List.Folds.{list_all_more}
use Rattle.session_core.specs.Sessions.{events_in, events_of, has_events}
use Rattle.session_core.proofs.Standing.{events_of-more, take_at}
use Rattle.session_text.specs.declared.statement.Statement.{Statement}
use Rattle.play_core.specs.Giving.{Leads}
use Rattle.play_core.proofs.Adding.{Leads-then}
use Rattle.play_core.proofs.replaying.replay.Goals as goal

pub loop-statement-preserved : goal.loop-statement-preserved
loop-statement-preserved c =
    let all = c.args.statements.now in
    let at = c.loop-statement.statement-index in
    let s = c.statement-item.result in
    let old = c.args.system.now in
    let new = c.repeat.new.system in
    let now = replicate c.in-Events.times c.in-Events.event in
    let events : events_of (take (at + 1) all) ≡ events_of (take at all) ++ now =
    ap events_of (take_at all at s c.loop-statement-test.true c.statement-item.is)
    ∙ events_of-more (take at all) s ∙ ap (λ x. events_of (take at all) ++ events_in x) c.in-Events.is in
    let event : has_events (get_or all at s).says ≡ true = ap (λ (x : Statement). has_events x.says) (sym c.statement-item.is) ∙ ap has_events c.in-Events.is in
    record {
      leads = subst (λ es. Leads old es new) (sym events)
          (Leads-then old c.loop-statement.system new (events_of (take at all)) now c.loop-statement.invariant.leads c.in_ok-repeat-in-Events.ensures);
      all = list_all_more (λ (x : Statement). has_events x.says) all at s c.loop-statement-test.true
          ∙ ap (λ b. b && has_events (get_or all at s).says) c.loop-statement.invariant.all ∙ event;
    }
