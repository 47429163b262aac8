-- A chain of machines at one of its lines.
use Rattle.std.proofs.Common.{◌≡◌, ℕ, List, [], ◌∷◌, ◌++◌, All, append_assoc, refl, sym, ap, subst, ◌∙◌}
use Rattle.std.specs.List.{flat_map}
use Rattle.std.proofs.lemmas.List.Concat.{flat_map-append}
use Rattle.std.proofs.lemmas.List.Elements.{All-append, All-nil}
use Rattle.jcl_plan.specs.declared.entry.Entry.{Entry}
use Rattle.jcl_plan.specs.Lines.{text_of}
use Rattle.line_laws.specs.Printable.{IsPrintableEntry}
use Rattle.print_laws.specs.Texts.{ArePrintableTexts}
use Rattle.text_laws.specs.TextLaws.{TextsStayPrintable}
use Rattle.session_input.specs.declared.event.Event.{Event}
use Rattle.sched_core.specs.Promised.{ArePromised}
use Rattle.sched_core.specs.Systems.{Along, Drives, IsNext, Machine, Steps, denoting, meant_by, world_of}
use Rattle.session_core.specs.Listings.{text_of_all}

-- all lines of a listing, one after another
abbrev pub flat : List (List Entry) → List Entry
flat entries = flat_map (λ (lines : List Entry). lines) entries

pub text_of_flat : (entries : List (List Entry)) → flat_map text_of (flat entries) ≡ text_of_all entries
text_of_flat [] = refl
text_of_flat (lines ∷ entries) =
    flat_map-append text_of lines (flat entries) ∙ ap (λ (t : List ℕ). flat_map text_of lines ++ t) (text_of_flat entries)

-- they are printable
pub printable_along : TextsStayPrintable → (old new : Machine) (events : List Event) (entries : List (List Entry)) → ArePrintableTexts (world_of old) →
    Drives old events entries new → All IsPrintableEntry (flat entries)
printable_along law old new [] [] texts d = All-nil IsPrintableEntry
printable_along law old new [] (l ∷ entries) texts d = absurd d
printable_along law old new (e ∷ events) [] texts d = All-nil IsPrintableEntry
printable_along law old new (e ∷ events) (lines ∷ entries) texts d =
    let kept = law (denoting old) (world_of old) (world_of d.0) (meant_by e) lines texts d.1.0 in
    All-append IsPrintableEntry lines (flat entries) kept.told (printable_along law d.0 new events entries kept.texts d.3)

-- the event whose lines have a line, and what comes before and behind it
pub record SplitsAt (first last : Machine) (entries : List (List Entry)) (before : List Entry) (its : Entry) (after : List Entry) : Type 0 where
  pub events : List Event
  pub told : List (List Entry)
  pub old : Machine
  pub drives : Drives first events told old
  pub event : Event
  pub front : List Entry
  pub behind : List Entry
  pub next : Machine
  pub step : Steps old event (front ++ its ∷ behind) (world_of next)
  pub is_next : IsNext old next
  pub promised : ArePromised old (front ++ its ∷ behind) next
  pub further : List Event
  pub more : List (List Entry)
  pub goes_on : Drives next further more last
  pub before_so : before ≡ flat told ++ front
  pub after_so : after ≡ behind ++ flat more

-- a line stands among the first of two lists, or in the second
pub data StandsAmong (xs ys before : List Entry) (its : Entry) (after : List Entry) : Type 0 where
  in_first : (behind : List Entry) → xs ≡ before ++ its ∷ behind → after ≡ behind ++ ys → StandsAmong xs ys before its after
  in_second : (front : List Entry) → before ≡ xs ++ front → ys ≡ front ++ its ∷ after → StandsAmong xs ys before its after

stands_among : (xs ys before : List Entry) (its : Entry) (after : List Entry) → xs ++ ys ≡ before ++ its ∷ after → StandsAmong xs ys before its after
stands_among [] ys before its after is = in_second before refl is
stands_among (x ∷ xs) ys [] its after is =
    let first : x ≡ its = cc in
    let rest : xs ++ ys ≡ after = cc in
    in_first xs (λ i. first i ∷ xs) (sym rest)
stands_among (x ∷ xs) ys (b ∷ before) its after is =
    let first : x ≡ b = cc in
    let rest : xs ++ ys ≡ before ++ its ∷ after = cc in
    elim (stands_among xs ys before its after rest) [
      | in_first behind p q ↦ in_first behind (λ i. first i ∷ p i) q
      | in_second front p q ↦ in_second front (λ i. sym first i ∷ p i) q
    ]

abbrev IsPromisedAlong : (first last : Machine) (events : List Event) (entries : List (List Entry)) → Drives first events entries last → Type 0
IsPromisedAlong first last events entries chain = Along (λ m e lines next s. ArePromised m lines next) first events entries last chain

-- the first event, or a later one
module _ (first last : Machine) (e : Event) (events : List Event) (lines : List Entry) (entries : List (List Entry)) (chain : Drives first (e ∷ events) (lines ∷ entries) last)
    (along : IsPromisedAlong first last (e ∷ events) (lines ∷ entries) chain) (before : List Entry) (its : Entry) (after : List Entry) where
  at_first : (behind : List Entry) → lines ≡ before ++ its ∷ behind → after ≡ behind ++ flat entries → SplitsAt first last (lines ∷ entries) before its after
  at_first behind p q = record {
    events = [];
    told = [];
    old = first;
    drives = refl;
    event = e;
    front = before;
    behind = behind;
    next = chain.0;
    step = subst (λ (ls : List Entry). Steps first e ls (world_of chain.0)) p chain.1;
    is_next = chain.2;
    promised = subst (λ (ls : List Entry). ArePromised first ls chain.0) p along.0;
    further = events;
    more = entries;
    goes_on = chain.3;
    before_so = refl;
    after_so = q;
  }

  at_later : (front : List Entry) → before ≡ lines ++ front → SplitsAt chain.0 last entries front its after → SplitsAt first last (lines ∷ entries) before its after
  at_later front p rest = record {
    events = e ∷ rest.events;
    told = lines ∷ rest.told;
    old = rest.old;
    drives = (chain.0, chain.1, chain.2, rest.drives);
    event = rest.event;
    front = rest.front;
    behind = rest.behind;
    next = rest.next;
    step = rest.step;
    is_next = rest.is_next;
    promised = rest.promised;
    further = rest.further;
    more = rest.more;
    goes_on = rest.goes_on;
    before_so = p ∙ ap (λ (b : List Entry). lines ++ b) rest.before_so ∙ sym (append_assoc lines (flat rest.told) rest.front);
    after_so = rest.after_so;
  }

pub splits_at : (first last : Machine) (events : List Event) (entries : List (List Entry)) (chain : Drives first events entries last) →
    IsPromisedAlong first last events entries chain → (before : List Entry) (its : Entry) (after : List Entry) → flat entries ≡ before ++ its ∷ after →
    SplitsAt first last entries before its after
splits_at first last [] [] chain along [] its after is = absurd cc
splits_at first last [] [] chain along (b ∷ before) its after is = absurd cc
splits_at first last [] (l ∷ entries) chain along before its after is = absurd chain
splits_at first last (e ∷ events) [] chain along before its after is = absurd chain
splits_at first last (e ∷ events) (lines ∷ entries) chain along before its after is =
    elim (stands_among lines (flat entries) before its after is) [
      | in_first behind p q ↦ at_first first last e events lines entries chain along before its after behind p q
      | in_second front p q ↦ at_later first last e events lines entries chain along before its after front p
          (splits_at chain.0 last events entries chain.3 along.1 front its after q)
    ]
