-- A line of the written bytes, where it stands in a listing, and the event that told it.
use Rattle.std.proofs.Common.{◌≡◌, ◌≢◌, ◌+◌, ℕ, List, [], ◌∷◌, ◌++◌, All, append_assoc, length, length-append, arith, refl, sym, ap, subst, ◌∙◌}
use Rattle.std.specs.Prelude.{Result, codes}
use Rattle.std.specs.List.{Contains, flat_map}
use Rattle.std.proofs.lemmas.List.{append-nil}
use Rattle.std.proofs.lemmas.List.Elements.{All-cons, All-contains, All-head, All-nil, All-tail}
use Rattle.jcl_plan.specs.declared.entry.Entry.{Entry}
use Rattle.jcl_plan.specs.Lines.{text_of}
use Rattle.law_core.proofs.Elements.{contains_first, contains_later}
use Rattle.line_laws.specs.LineLaws.{LinesStand, StandsIn}
use Rattle.line_laws.specs.Lines.{IsLineStart}
use Rattle.line_laws.specs.Printable.{IsPrintableEntry}
use Rattle.print_laws.specs.Texts.{ArePrintableTexts}
use Rattle.text_laws.specs.TextLaws.{TextsStayPrintable}
use Rattle.machine_laws.specs.Said.{SessionsStartPrintable}
use Rattle.run_options.specs.declared.Options.{Options}
use Rattle.session_input.specs.declared.event.Event.{Event}
use Rattle.session_text.specs.declared.statement.Ending.{Ending}
use Rattle.session_text.specs.declared.statement.Statement.{Statement}
use Rattle.session_text.specs.Statements.{statements_of}
use Rattle.session_core.specs.declared.SessionEnd.{SessionEnd}
use Rattle.session_core.specs.declared.SessionFault.{SessionFault}
use Rattle.session_core.specs.Listings.{Lists}
use Rattle.session_core.specs.Outcomes.{IsOutcome}
use Rattle.session_core.specs.Promises.{PromisesOfSession}
use Rattle.session_core.specs.Sessions.{session_of}
use Rattle.machine_laws.specs.Kept.{IsBefore}
use Rattle.machine_laws.proofs.Outcomes.{IsListed, nothing, outcome_listed, some}
use Rattle.machine_laws.proofs.Splitting.{SplitsAt, flat, printable_along, splits_at, text_of_flat}

-- what holds of all holds of those in front, and of those behind
all_front : {X : Type 0} (P : X → Type 0) (xs ys : List X) → All P (xs ++ ys) → All P xs
all_front P [] ys all = All-nil P
all_front P (x ∷ xs) ys all = All-cons P x xs (All-head P x (xs ++ ys) all) (all_front P xs ys (All-tail P x (xs ++ ys) all))

all_behind : {X : Type 0} (P : X → Type 0) (xs ys : List X) → All P (xs ++ ys) → All P ys
all_behind P [] ys all = all
all_behind P (x ∷ xs) ys all = all_behind P xs ys (All-tail P x (xs ++ ys) all)

pub contains_behind : {X : Type 0} (xs ys : List X) (x : X) → Contains (xs ++ x ∷ ys) x
contains_behind [] ys x = contains_first x ys
contains_behind (y ∷ xs) ys x = contains_later y x (xs ++ x ∷ ys) (contains_behind xs ys x)

-- a line that stands alone has nothing before or behind it
module _ {X : Type 0} (front behind : List X) (x y : X) (is : front ++ x ∷ behind ≡ y ∷ []) where
  size : length front + length (x ∷ behind) ≡ 1
  size = sym (length-append front (x ∷ behind)) ∙ ap length is

  none_so : (xs : List X) → length xs ≡ 0 → xs ≡ []
  none_so [] e = refl
  none_so (z ∷ xs) e = absurd cc

  pub none_before : front ≡ []
  none_before = none_so front (omega (arith, size))

  pub none_after : behind ≡ []
  none_after = none_so behind (omega (arith, size))

pub record FindingLaws : Type 0 where
  pub stand : LinesStand
  pub printable : TextsStayPrintable
  pub said : SessionsStartPrintable
  pub promises : PromisesOfSession

-- the listing of which the bytes are a front, the line there, and its event
pub record IsFound (o : Options) (stands : List Statement) (front its_text behind : List ℕ) : Type 0 where
  pub events : List Event
  pub listing : List ℕ
  pub rest : List ℕ
  pub lists : Lists o stands events listing
  pub at : StandsIn (flat lists.entries) front its_text (behind ++ rest)
  pub printable : All IsPrintableEntry (at.before ++ at.its ∷ at.after)
  pub split : SplitsAt lists.first lists.last lists.entries at.before at.its at.after

module _ (o : Options) (stands : List Statement) (front its_text behind : List ℕ) (f : IsFound o stands front its_text behind) where
  printable_from : All IsPrintableEntry (f.at.its ∷ f.at.after)
  printable_from = all_behind IsPrintableEntry f.at.before (f.at.its ∷ f.at.after) f.printable

  pub found_printable : IsPrintableEntry f.at.its
  found_printable = All-contains IsPrintableEntry (f.at.its ∷ f.at.after) f.at.its printable_from (contains_first f.at.its f.at.after)

  pub front_printable : All IsPrintableEntry f.at.before
  front_printable = all_front IsPrintableEntry f.at.before (f.at.its ∷ f.at.after) f.printable

  pub behind_printable : All IsPrintableEntry f.at.after
  behind_printable = All-tail IsPrintableEntry f.at.its f.at.after printable_from

  -- the events before list what stands in front, if the line is the first of its event
  pub before_found : f.split.front ≡ [] → IsBefore o stands front f.split.old
  before_found first = record {
    first = f.lists.first;
    started = f.lists.started;
    events = f.split.events;
    entries = f.split.told;
    drives = f.split.drives;
    front_so = f.at.front_so
        ∙ ap (flat_map text_of) (f.split.before_so ∙ ap (λ (lines : List Entry). flat f.split.told ++ lines) first ∙ append-nil (flat f.split.told))
        ∙ text_of_flat f.split.told;
  }

module _ (law : FindingLaws) (o : Options) (ending : Ending) (text front its_text behind : List ℕ) (feedless : All (λ c. c ≢ 10) its_text)
    (starts : IsLineStart front) where
  abbrev stands : List Statement
  stands = (session_of ending text).stands

  -- in a listing, of which some is written
  module _ (events : List Event) (listing written rest : List ℕ) (l : Lists o stands events listing) (fronts : listing ≡ written ++ rest)
      (is : written ≡ front ++ (its_text ++ (codes "\n" ++ behind))) where
    all_printable : All IsPrintableEntry (flat l.entries)
    all_printable =
        printable_along law.printable l.first l.last events l.entries
        (subst ArePrintableTexts (sym l.started.world) (law.said o ending text)) l.drives

    text_is : flat_map text_of (flat l.entries) ≡ front ++ (its_text ++ (codes "\n" ++ (behind ++ rest)))
    text_is =
        text_of_flat l.entries ∙ sym l.text ∙ fronts ∙ ap (λ (t : List ℕ). t ++ rest) is
        ∙ append_assoc front (its_text ++ (codes "\n" ++ behind)) rest
        ∙ ap (λ (t : List ℕ). front ++ t) (append_assoc its_text (codes "\n" ++ behind) rest)

    at : StandsIn (flat l.entries) front its_text (behind ++ rest)
    at = law.stand (flat l.entries) front its_text (behind ++ rest) all_printable feedless starts text_is

    found_in : IsFound o stands front its_text behind
    found_in = record {
      events = events;
      listing = listing;
      rest = rest;
      lists = l;
      at = at;
      printable = subst (All IsPrintableEntry) at.stands all_printable;
      split = splits_at l.first l.last events l.entries l.drives (law.promises o stands events listing l).along at.before at.its at.after at.stands;
    }

  found_so : (written : List ℕ) → IsListed o stands written → written ≡ front ++ (its_text ++ (codes "\n" ++ behind)) → IsFound o stands front its_text behind
  found_so written (nothing none) is =
      let size : length written ≡ length (front ++ (its_text ++ (codes "\n" ++ behind))) = ap length is in
      let no : ⊥ = omega (
        arith,
        size,
        ap length none,
        length-append front (its_text ++ (codes "\n" ++ behind)),
        length-append its_text (codes "\n" ++ behind),
      ) in absurd no
  found_so written (some events more listing rest all l fronts) is = found_in events listing written rest l fronts is

  pub found : (result : Result SessionEnd SessionFault) (written : List ℕ) → IsOutcome o (session_of ending text) result written →
      written ≡ front ++ (its_text ++ (codes "\n" ++ behind)) → IsFound o stands front its_text behind
  found result written outcome is = found_so written (outcome_listed o (statements_of ending text) result written outcome) is
