-- What is told of a session's decks is what its machine tells.
use Rattle.std.proofs.Common.{◌≡◌, ℕ, ◌+◌, true, List, [], None, ap, arith, drop, get_or, map, sym, ◌∙◌}
use Rattle.cb_meaning.specs.declared.layout.TheConstants.{QUEUE_LAYOUT}
use Rattle.config_core.specs.Configs.{Configuration}
use Rattle.sched_core.specs.Starting.{IsStarted}
use Rattle.sched_core.specs.Systems.{Machine}
use Rattle.session_core.specs.Configuring.{IsConfiguredBy}
use Rattle.session_core.specs.Sessions.{refuses_in, session_behind}
use Rattle.run_options.specs.declared.Options.{Options}
use Rattle.session_text.specs.declared.statement.Statement.{Statement}
use Rattle.play_core.specs.Playing.{IsFound}
use Rattle.play_core.specs.declared.given.Given.{Given}
use Rattle.mvt_check.specs.Answers.{statement_of}
use Rattle.mvt_check.specs.Reading.{reading_from}
use Rattle.mvt_check.specs.Telling.{AreAnsweredFrom, TellsAll}
use Rattle.mvt_check.specs.declared.answers.answer.Answers.{Answers}
use Rattle.mvt_check.proofs.Reading.{reading_behind, statements_of_decks}
use Rattle.mvt_check.proofs.Runs.{Kept}

pub answered : (o : Options) (statements : List Statement) (at : ℕ) (config : Configuration) (first last : Machine) (given : List Given) (before : Kept)
    (answers : Answers) → IsConfiguredBy statements at config → IsStarted config (refuses_in o) o.views true QUEUE_LAYOUT first →
    IsFound o (session_behind [] statements) given → before ≡ [] → TellsAll statements at given first last before answers →
    AreAnsweredFrom o statements answers
answered o statements at config first last given before answers by started found none all =
    let here : 0 + at ≡ at = omega arith in
    record {
      at = at;
      config = config;
      configured = by;
      first = first;
      started = started;
      given = given;
      found = found;
      last = last;
      entries = all.entries;
      drives = all.drives;
      in_order = ap (map statement_of) all.decks_so ∙ statements_of_decks at (drop at statements) all.entries
          ∙ sym (reading_behind 0 at statements by.not_begun by.within ∙ ap (λ n. reading_from n (drop at statements)) here);
      decks = all.decks_so;
      kept = all.kept [] (λ job. ap (λ b. get_or b job None) none);
    }
