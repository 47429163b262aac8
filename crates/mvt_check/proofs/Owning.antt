-- The events of a session's statements, of which some were given, and the decks that they read.
use Rattle.std.proofs.Common.{◌≡◌, ℕ, zero, suc, ◌+◌, ◌<◌, ◌≤◌, List, [], ◌∷◌, ◌++◌, Option, None, drop, get_or, length, map, replicate, take, refl, sym, ap, subst, ◌∙◌, append_assoc}
use Rattle.std.proofs.Math.Seq.{drop-append_seam, take-append_seam}
use Rattle.std.proofs.lemmas.List.{append-nil, drop_all, length-replicate}
use Rattle.session_input.specs.declared.event.Event.{Event}
use Rattle.jcl_plan.specs.declared.entry.Entry.{Entry}
use Rattle.sched_core.specs.Systems.{Drives, Machine}
use Rattle.session_core.proofs.Applied.{Drives-append}
use Rattle.session_core.proofs.Standing.{drop_at}
use Rattle.session_text.specs.declared.statement.Says.{Says}
use Rattle.session_text.specs.declared.statement.Says.TheVariants.{Config, Events, Refused}
use Rattle.session_text.specs.declared.statement.Statement.{Statement}
use Rattle.play_core.specs.Given.{event_of}
use Rattle.play_core.specs.declared.given.Given.{Given}
use Rattle.mvt_check.specs.Answers.{AreKept, first_number}
use Rattle.mvt_check.specs.Reading.{is_read}
use Rattle.mvt_check.specs.Telling.{Tells, TellsAll, TellsOwn, behind_of, deck_if, deck_of, decks_from, own_by, own_events}
use Rattle.mvt_check.specs.declared.answers.answer.Answers.{Answers}
use Rattle.mvt_check.specs.declared.answers.answer.DeckRead.{DeckRead}
use Rattle.mvt_check.proofs.Runs.{Kept}

-- each event writes
drives_all : (a b : Machine) (es : List Event) (ls : List (List Entry)) → Drives a es ls b → length ls ≡ length es
drives_all a b [] [] d = refl
drives_all a b (e ∷ es) (l ∷ ls) d = ap suc (drives_all d.0 b es ls d.3)
drives_all a b [] (l ∷ ls) d = absurd d
drives_all a b (e ∷ es) [] d = absurd d

pub record HasRun (all : List Statement) (from at : ℕ) (a b : Machine) (decks : List DeckRead) (before after : Kept) : Type 0 where
  pub entries : List (List Entry)
  pub done : List Event
  pub drives : Drives a done entries b
  pub left : own_events (drop from all) ≡ done ++ own_events (drop at all)
  pub decks_so : (more : List (List Entry)) → decks_from from (drop from all) (entries ++ more) ≡ decks ++ decks_from at (drop at all) more
  pub kept : (earlier : List (List Entry)) → AreKept earlier before → AreKept (earlier ++ entries) after

pub HasRun-none : (all : List Statement) (from : ℕ) (m : Machine) (decks : List DeckRead) (kept : Kept) → decks ≡ [] → HasRun all from from m m decks kept kept
HasRun-none all from m decks kept none = record {
  entries = [];
  done = [];
  drives = refl;
  left = refl;
  decks_so = λ more. ap (λ (d : List DeckRead). d ++ decks_from from (drop from all) more) (sym none);
  kept = λ earlier so. subst (λ e. AreKept e kept) (sym (append-nil earlier)) so;
}

-- the decks and what is left behind events, and behind another statement
decks_here : (at : ℕ) (says : Says) (e : Event) (times : ℕ) (own more : List (List Entry)) (rest : List Statement) → says ≡ Events e times → length own ≡ times →
    deck_of at says (own ++ more) ++ decks_from (at + 1) rest (behind_of says (own ++ more))
    ≡ deck_if (is_read e) at (first_number own) ++ decks_from (at + 1) rest more
decks_here at says e times own more rest is long =
    let front : take times (own ++ more) ≡ own = ap (λ n. take n (own ++ more)) (sym long) ∙ take-append_seam own more in
    let back : drop times (own ++ more) ≡ more = ap (λ n. drop n (own ++ more)) (sym long) ∙ drop-append_seam own more in
    ap (λ says. deck_of at says (own ++ more) ++ decks_from (at + 1) rest (behind_of says (own ++ more))) is
    ∙ (λ i. deck_if (is_read e) at (first_number (front i)) ++ decks_from (at + 1) rest (back i))

pub HasRun-more : (all : List Statement) (from at : ℕ) (s : Statement) (e : Event) (times : ℕ) (a b c : Machine) (decks more_decks : List DeckRead) (x y z : Kept)
    (number : Option ℕ) → at < length all → s ≡ get_or all at s → s.says ≡ Events e times → HasRun all from at a b decks x y →
    Tells b y (replicate times e) c z number → more_decks ≡ decks ++ deck_if (is_read e) at number → HasRun all from (at + 1) a c more_decks x z
HasRun-more all from at s e times a b c decks more_decks x y z number within is says before tells added =
    let own = tells.entries in
    let rest : List Statement = drop (at + 1) all in
    let cut : drop at all ≡ s ∷ rest = drop_at all at s within is in
    let long : length own ≡ times = drives_all b c (replicate times e) own tells.drives ∙ length-replicate times e in
    record {
      entries = before.entries ++ own;
      done = before.done ++ replicate times e;
      drives = Drives-append a b c before.done (replicate times e) before.entries own before.drives tells.drives;
      left = before.left ∙ ap (λ l. before.done ++ own_events l) cut ∙ ap (λ s. before.done ++ own_by s (own_events rest)) says
          ∙ sym (append_assoc before.done (replicate times e) (own_events rest));
      decks_so = λ more.
          ap (decks_from from (drop from all)) (append_assoc before.entries own more)
          ∙ before.decks_so (own ++ more)
          ∙ ap (λ l. decks ++ decks_from at l (own ++ more)) cut
          ∙ ap (λ d. decks ++ d) (decks_here at s.says e times own more rest says long)
          ∙ sym (append_assoc decks (deck_if (is_read e) at (first_number own)) (decks_from (at + 1) rest more))
          ∙ ap (λ n. (decks ++ deck_if (is_read e) at n) ++ decks_from (at + 1) rest more) (sym tells.first)
          ∙ ap (λ d. d ++ decks_from (at + 1) rest more) (sym added);
      kept = λ earlier so. subst (λ e. AreKept e z) (append_assoc earlier before.entries own) (tells.kept (earlier ++ before.entries) (before.kept earlier so));
    }

-- at a statement that is no event, and at the end
ends : (all : List Statement) (from at : ℕ) (a b : Machine) (decks last : List DeckRead) (x y : Kept) → own_events (drop at all) ≡ [] →
    ((more : List (List Entry)) → decks ++ decks_from at (drop at all) more ≡ last) → HasRun all from at a b decks x y → TellsOwn all from a b last x y
ends all from at a b decks last x y none decks_end before = record {
  entries = before.entries;
  drives = subst (λ es. Drives a es before.entries b) (sym (before.left ∙ ap (λ e. before.done ++ e) none ∙ append-nil before.done)) before.drives;
  decks_so = λ more. before.decks_so more ∙ decks_end more;
  kept = before.kept;
}

pub ends_at : (all : List Statement) (from at : ℕ) (s : Statement) (a b : Machine) (decks last : List DeckRead) (x y : Kept) → at < length all → s ≡ get_or all at s →
    ((more : List Event) → own_by s.says more ≡ []) → ((more : List (List Entry)) → deck_of at s.says more ≡ []) →
    ((more : List (List Entry)) → behind_of s.says more ≡ []) → last ≡ decks ++ decks_from at (drop at all) [] →
    HasRun all from at a b decks x y → TellsOwn all from a b last x y
ends_at all from at s a b decks last x y within is none no_deck nothing added before =
    let rest : List Statement = drop (at + 1) all in
    let cut : drop at all ≡ s ∷ rest = drop_at all at s within is in
    let same : (more : List (List Entry)) → decks_from at (s ∷ rest) more ≡ decks_from (at + 1) rest [] =
    λ more. (λ i. no_deck more i ++ decks_from (at + 1) rest (nothing more i)) in
    ends all from at a b decks last x y (ap own_events cut ∙ none (own_events rest))
    (λ more. ap (λ d. decks ++ d) (ap (λ l. decks_from at l more) cut ∙ same more ∙ sym (same []) ∙ ap (λ l. decks_from at l []) (sym cut)) ∙ sym added)
    before

pub ends_past : (all : List Statement) (from at : ℕ) (a b : Machine) (decks : List DeckRead) (x y : Kept) → length all ≤ at →
    HasRun all from at a b decks x y → TellsOwn all from a b decks x y
ends_past all from at a b decks x y past before =
    let none : drop at all ≡ [] = drop_all at all past in
    ends all from at a b decks decks x y (ap own_events none) (λ more. ap (λ l. decks ++ decks_from at l more) none ∙ append-nil decks) before

-- the decks of statements that are not reached
pub unread_more : (all : List Statement) (from at : ℕ) (s : Statement) (before decks more_decks : List DeckRead) → at < length all → s ≡ get_or all at s →
    before ++ decks_from from (drop from all) [] ≡ decks ++ decks_from at (drop at all) [] → more_decks ≡ decks ++ deck_of at s.says [] →
    before ++ decks_from from (drop from all) [] ≡ more_decks ++ decks_from (at + 1) (drop (at + 1) all) []
unread_more all from at s before decks more_decks within is so added =
    let rest : List Statement = drop (at + 1) all in
    let cut : drop at all ≡ s ∷ rest = drop_at all at s within is in
    so ∙ ap (λ l. decks ++ decks_from at l []) cut
    ∙ ap (λ e. decks ++ (deck_of at s.says [] ++ decks_from (at + 1) rest e)) (nothing s.says)
    ∙ sym (append_assoc decks (deck_of at s.says []) (decks_from (at + 1) rest []))
    ∙ ap (λ d. d ++ decks_from (at + 1) rest []) (sym added)
  where
    drop_none : (n : ℕ) → drop {A = List Entry} n [] ≡ []
    drop_none zero = refl
    drop_none (suc n) = refl

    nothing : (says : Says) → behind_of says [] ≡ []
    nothing (Events e times) = drop_none times
    nothing (Config s has_end) = refl
    nothing (Refused f) = refl

pub unread_done : (all : List Statement) (from at : ℕ) (before decks : List DeckRead) → length all ≤ at →
    before ++ decks_from from (drop from all) [] ≡ decks ++ decks_from at (drop at all) [] → decks ≡ before ++ decks_from from (drop from all) []
unread_done all from at before decks past so =
    let none : drop at all ≡ [] = drop_all at all past in
    sym (so ∙ ap (λ l. decks ++ decks_from at l []) none ∙ append-nil decks)

-- a deck of an event that is not reached has no number
pub unread_deck : (at : ℕ) (e : Event) (times : ℕ) → deck_of at (Events e times) [] ≡ deck_if (is_read e) at None
unread_deck at e zero = refl
unread_deck at e (suc times) = refl

-- the session's own events, and those that are added
pub all_told : (all : List Statement) (from : ℕ) (given : List Given) (a b c : Machine) (decks : List DeckRead) (x y : Kept) (after : Answers) (number : Option ℕ) →
    TellsOwn all from a b decks x y → Tells b y (map event_of given) c after.by_job.items number → after.decks.items ≡ decks →
    TellsAll all from given a c x after
all_told all from given a b c decks x y after number own added same = record {
  entries = own.entries ++ added.entries;
  drives = Drives-append a b c (own_events (drop from all)) (map event_of given) own.entries added.entries own.drives added.drives;
  decks_so = same ∙ sym (own.decks_so added.entries);
  kept = λ earlier so. subst (λ e. AreKept e after.by_job.items) (append_assoc earlier own.entries added.entries)
      (added.kept (earlier ++ own.entries) (own.kept earlier so));
}
