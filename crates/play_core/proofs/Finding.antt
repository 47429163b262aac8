-- What is found for a session is what is claimed of it.
use Rattle.std.proofs.Common.{◌≡◌, ℕ, true, List, [], ◌++◌, Option, None, Some, Result, is_some, take, drop, sym, ap, subst, ◌∙◌}
use Rattle.std.proofs.lemmas.List.Concat.{flat_map-append}
use Rattle.cb_meaning.specs.declared.layout.TheConstants.{QUEUE_LAYOUT}
use Rattle.config_core.specs.Configs.{Configuration}
use Rattle.sched_core.specs.Starting.{IsStarted}
use Rattle.sched_core.specs.Systems.{Machine}
use Rattle.session_core.specs.Configuring.{IsConfiguredBy}
use Rattle.session_core.specs.Sessions.{Session, events_in, events_of, refuses_in, session_behind, session_of}
use Rattle.run_options.specs.declared.Options.{Options}
use Rattle.session_core.proofs.Standing.{no_events}
use Rattle.session_text.specs.declared.fault.Fault.{Fault}
use Rattle.session_text.specs.declared.statement.Statement.{Statement}
use Rattle.session_core.specs.Outcomes.{WritesOutcome}
use Rattle.session_core.specs.Streams.{IsRead, SinkState, SourceState}
use Rattle.session_core.specs.declared.SessionEnd.{SessionEnd}
use Rattle.session_core.specs.declared.SessionFault.{SessionFault}
use Rattle.session_text.specs.Statements.{statements_of}
use Rattle.session_text.specs.declared.statement.Ending.{Ending}
use Rattle.play_core.specs.Given.{statements_at}
use Rattle.play_core.specs.Texts.{line_behind}
use Rattle.play_core.specs.Giving.{Adds, Gives, IsOver, Leads}
use Rattle.play_core.specs.Playing.{AreFound, IsAdded, IsFound, IsFoundBy, IsPlayedOut, PlaysOn}
use Rattle.play_core.specs.Searching.{AreEvents, Plays, PlaysMachine}
use Rattle.play_core.specs.declared.given.Given.{Given}
use Rattle.play_core.specs.declared.giving.Added.{Added}
use Rattle.play_core.proofs.Behind.{events_configure, events_stand, first_stops, given_are_events, session_played}

pub plays_from : (first reached last : Machine) (events : List Statement) (none given : List Given) → none ≡ [] → Leads first (events_of events) reached →
    Adds reached none last given → IsOver last given → Plays first events given
plays_from first reached last events none given is leads adds over = record {
  reached = reached;
  leads = leads;
  last = last;
  gives = subst (λ g. Gives reached g last) (sym (adds.after_so ∙ ap (λ x. x ++ adds.more) is)) adds.gives;
  over = over;
}

module _ (o : Options) (all : List Statement) (at : ℕ) (c : Configuration) (by : IsConfiguredBy all at c) (first : Machine)
    (started : IsStarted c (refuses_in o) o.views o.explains QUEUE_LAYOUT first) where
  whole : AreEvents (drop at all) → session_behind [] all ≡ record { stands = take at all ++ drop at all; fault = None }
  whole events = by.session ∙ events_stand (take at all) (drop at all) events

  played_out : (given : List Given) → AreEvents (drop at all) → Plays first (drop at all) given →
      IsPlayedOut o (record { stands = take at all ++ drop at all; fault = None }) given
  played_out given events p = record {
    first = first;
    started = subst (λ x. IsStarted x (refuses_in o) o.views o.explains QUEUE_LAYOUT first)
        (by.configured ∙ sym (events_configure (take at all) (drop at all) events)) started;
    plays = record {
      reached = p.reached;
      leads = subst (λ es. Leads first es p.reached)
          (sym (flat_map-append (λ (s : Statement). events_in s.says) (take at all) (drop at all) ∙ ap (λ es. es ++ events_of (drop at all)) (no_events (take at all) by.not_begun)))
          p.leads;
      last = p.last;
      gives = p.gives;
      over = p.over;
    };
  }

  pub found_for : (rest : List Statement) → rest ≡ drop at all → (found : Option Added) → PlaysMachine first rest found → AreFound o (session_behind [] all) found
  found_for rest is None h =
      ap (λ (s : Session). is_some s.fault) by.session
      ∙ first_stops (take at all) (drop at all) by.next (subst (λ xs. PlaysMachine first xs None) is h)
  found_for rest is (Some added) h =
      let now = subst (λ xs. PlaysMachine first xs (Some added)) is h in
      let same = whole now.0 in
      (ap (λ (s : Session). s.fault) same, subst (λ s. IsPlayedOut o s added.given.items) (sym same) (played_out added.given.items now.0 now.1))

none_found_by : (o : Options) (s : Session) (f : Option (Fault × ℕ)) (given : List Given) → is_some f ≡ true → given ≡ [] → IsFoundBy o s f given
none_found_by o s None given some is = absurd cc
none_found_by o s (Some f) given some is = is

pub none_found : (o : Options) (s : Session) (given : List Given) → is_some s.fault ≡ true → given ≡ [] → IsFoundBy o s s.fault given
none_found o s given some is = none_found_by o s s.fault given some is

pub some_found : (o : Options) (s : Session) (given : List Given) → s.fault ≡ None → IsPlayedOut o s given → IsFoundBy o s s.fault given
some_found o s given none played = subst (λ f. IsFoundBy o s f given) (sym none) played

-- and what is written is the listing of the session with them
pub plays_on : (o : Options) (source source_after : SourceState) (sink sink_after : SinkState) (text : List ℕ) (ending : Ending) →
    IsRead source source_after text ending → (statements : List Statement) → statements ≡ statements_of ending text → (line : ℕ) → line ≡ line_behind text →
    (given : List Given) → IsFound o (session_behind [] statements) given → (all : List Statement) → all ≡ statements ++ statements_at line given →
    (result : Result SessionEnd SessionFault) → WritesOutcome o sink sink_after [] (session_behind [] all) result →
    PlaysOn o source source_after sink sink_after given result
plays_on o source source_after sink sink_after text ending read statements is line behind given found all all_so result writes = record {
  text = text;
  ending = ending;
  read = read;
  found = subst (λ xs. IsFound o (session_behind [] xs) given) is found;
  writes = subst (λ s. WritesOutcome o sink sink_after [] s result)
      (ap (session_behind []) (all_so ∙ (λ i. is i ++ statements_at (behind i) given))
      ∙ session_played [] (statements_of ending text) (statements_at (line_behind text) given) (given_are_events (line_behind text) given)) writes;
}

pub added_so : (o : Options) (ending : Ending) (text : List ℕ) (xs : List Statement) (found : Option Added) (added : Added) → xs ≡ statements_of ending text →
    found ≡ Some added → AreFound o (session_behind [] xs) found → IsAdded o (session_of ending text) added.given.items
added_so o ending text xs found added is some h =
    subst (λ ys. IsAdded o (session_behind [] ys) added.given.items) is (subst (AreFound o (session_behind [] xs)) some h)
