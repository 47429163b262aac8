-- Events that are given one behind another.
use Rattle.std.proofs.Common.{◌≡◌, ℕ, zero, suc, ◌+◌, ◌≤◌, Bool, not, true, false, List, [], ◌∷◌, ◌++◌, Option, None, Some, All, take, length, refl, sym, ap, subst, ◌∙◌, append_assoc, arith, length-append}
use Rattle.std.specs.Prelude.{slice_get}
use Rattle.std.specs.List.{Contains}
use Rattle.std.specs.Option.{option_map}
use Rattle.std.proofs.lemmas.List.{append-nil, take_all}
use Rattle.std.proofs.lemmas.List.Elements.{All-more, All-same}
use Rattle.std.proofs.lemmas.Option.{get_or_from_slice_get, slice_get_within}
use Rattle.jcl_plan.specs.declared.entry.Entry.{Entry}
use Rattle.prog_core.specs.Operations.{is_busy}
use Rattle.sched_core.specs.Systems.{IsNext, Machine, Steps, world_of}
use Rattle.sched_core.specs.Views.{seen_initiator, seen_volume}
use Rattle.sched_core.specs.declared.views.SeenInitiator.{SeenInitiator}
use Rattle.sched_core.specs.declared.views.SeenVolume.{SeenVolume}
use Rattle.world_meaning.specs.Worlds.{Initiator, Shared}
use Rattle.play_core.specs.Given.{IsTaken, event_of}
use Rattle.session_input.specs.declared.event.Event.{Event}
use Rattle.session_core.proofs.Applied.{Drives-append}
use Rattle.play_core.specs.Giving.{Adds, Gives, IsWait, Leads, Stays, StaysAt}
use Rattle.play_core.specs.declared.given.Given.{Given}
use Rattle.play_core.specs.declared.given.Given.TheVariants.{Turn}

Gives-append : (a b c : Machine) (xs ys : List Given) → Gives a xs b → Gives b ys c → Gives a (xs ++ ys) c
Gives-append a b c [] ys first then = subst (λ m. Gives m ys c) first then
Gives-append a b c (g ∷ xs) ys first then = (first.0, first.1, first.2, first.3, Gives-append first.0 b c xs ys first.4 then)

pub Adds-none : (m : Machine) (given : List Given) → Adds m given m given
Adds-none m given = record { more = []; after_so = sym (append-nil given); gives = refl }

pub Adds-one : (old new : Machine) (given after : List Given) (g : Given) (lines : List Entry) → IsTaken (world_of old) g → Steps old (event_of g) lines (world_of new) →
    IsNext old new → after ≡ given ++ g ∷ [] → Adds old given new after
Adds-one old new given after g lines taken step next is = record { more = g ∷ []; after_so = is; gives = (new, taken, (lines, step), next, refl) }

pub Adds-then : (a b c : Machine) (first mid last : List Given) → Adds a first b mid → Adds b mid c last → Adds a first c last
Adds-then a b c first mid last x y = record {
  more = x.more ++ y.more;
  after_so = y.after_so ∙ ap (λ l. l ++ y.more) x.after_so ∙ append_assoc first x.more y.more;
  gives = Gives-append a b c x.more y.more x.gives y.gives;
}

pub Adds-length : (a b : Machine) (first last : List Given) → Adds a first b last → length first ≤ length last
Adds-length a b first last x = let long = ap length x.after_so ∙ length-append first x.more in omega (arith, long)

pub Leads-none : (m : Machine) → Leads m [] m
Leads-none m = record { entries = []; drives = refl }

pub Leads-more : (first mid last : Machine) (events : List Event) (e : Event) (lines : List Entry) → Leads first events mid → Steps mid e lines (world_of last) →
    IsNext mid last → Leads first (events ++ e ∷ []) last
Leads-more first mid last events e lines before step next = record {
  entries = before.entries ++ lines ∷ [];
  drives = Drives-append first mid last events (e ∷ []) before.entries (lines ∷ []) before.drives (last, step, next, refl);
}

pub Leads-then : (first mid last : Machine) (es fs : List Event) → Leads first es mid → Leads mid fs last → Leads first (es ++ fs) last
Leads-then first mid last es fs x y = record {
  entries = x.entries ++ y.entries;
  drives = Drives-append first mid last es fs x.entries y.entries x.drives y.drives;
}

pub not_true : (b : Bool) → not b ≡ true → b ≡ false
not_true true is = absurd cc
not_true false is = refl

pub not_false : (b : Bool) → not b ≡ false → b ≡ true
not_false true is = refl
not_false false is = absurd cc

-- what is read of a list at a place
found_at : {X Y : Type 0} (f : X → Y) (xs : List X) (place : ℕ) (y : Y) → option_map f (slice_get xs place) ≡ Some y → (x : X) × (slice_get xs place ≡ Some x) × (f x ≡ y)
found_at {X = X} f xs place y is = by (slice_get xs place) refl
  where
    by : (o : Option X) → slice_get xs place ≡ o → (x : X) × (slice_get xs place ≡ Some x) × (f x ≡ y)
    by None e = let no : None ≡ Some y = ap (option_map f) (sym e) ∙ is in absurd cc
    by (Some x) e = let some : Some (f x) ≡ Some y = ap (option_map f) (sym e) ∙ is in (x, e, cc)

-- the initiators act one behind another, and nothing is written but that jobs wait
pub Stays-more : (n : ℕ) (a b c : Machine) (p : ℕ) → Stays a p n b → StaysAt b (slice_get (world_of b).initiators (p + n)) c → Stays a p (suc n) c
Stays-more zero a b c p before at =
    let same : p + zero ≡ p = omega arith in
    (c, subst (λ m. StaysAt m (slice_get (world_of m).initiators p) c) before (subst (λ k. StaysAt b (slice_get (world_of b).initiators k) c) same at), refl)
Stays-more (suc n) a b c p before at =
    let same : p + suc n ≡ (p + 1) + n = omega arith in
    (before.0, before.1, Stays-more n before.0 b c (p + 1) before.2 (subst (λ k. StaysAt b (slice_get (world_of b).initiators k) c) same at))

pub Stays-next : (n : ℕ) (a b c : Machine) → Stays a 0 n b → StaysAt b (slice_get (world_of b).initiators n) c → Stays a 0 (n + 1) c
Stays-next n a b c before at =
    let next : suc n ≡ n + 1 = omega arith in
    let here : n ≡ 0 + n = omega arith in
    subst (λ k. Stays a 0 k c) next (Stays-more n a b c 0 before (subst (λ k. StaysAt b (slice_get (world_of b).initiators k) c) here at))

pub stays_some : (b c : Machine) (place : ℕ) (y : SeenInitiator) → option_map seen_initiator (slice_get (world_of b).initiators place) ≡ Some y → (lines : List Entry) →
    Steps b (event_of (Turn y.number)) lines (world_of c) → All IsWait lines → StaysAt b (slice_get (world_of b).initiators place) c
stays_some b c place y is lines step waits =
    let found = found_at seen_initiator (world_of b).initiators place y is in
    let same = ap (λ (s : SeenInitiator). s.number) found.2 in
    subst (λ o. StaysAt b o c) (sym found.1) (lines, subst (λ n. Steps b (event_of (Turn n)) lines (world_of c)) (sym same) step, waits)

none_at : (b : Machine) (o : Option Initiator) → option_map seen_initiator o ≡ None → StaysAt b o b
none_at b None is = refl
none_at b (Some x) is = absurd cc

pub stays_none : (b : Machine) (place : ℕ) → option_map seen_initiator (slice_get (world_of b).initiators place) ≡ None → StaysAt b (slice_get (world_of b).initiators place) b
stays_none b place is = none_at b (slice_get (world_of b).initiators place) is

contains_at : {X : Type 0} (xs : List X) (place : ℕ) (x : X) → slice_get xs place ≡ Some x → Contains xs x
contains_at xs place x e = (place, slice_get_within xs place x e, get_or_from_slice_get xs place x x e)

pub initiator_there : (xs : List Initiator) (place : ℕ) (y : SeenInitiator) → option_map seen_initiator (slice_get xs place) ≡ Some y →
    (x : Initiator) × Contains xs x × (x.number ≡ y.number)
initiator_there xs place y is =
    let found = found_at seen_initiator xs place y is in
    (found.0, contains_at xs place found.0 found.1, ap (λ (s : SeenInitiator). s.number) found.2)

module _ (s : Shared) (volumes : List (List ℕ)) (place : ℕ) (y : SeenVolume) (is : option_map (seen_volume s) (slice_get volumes place) ≡ Some y) where
  found : (serial : List ℕ) × (slice_get volumes place ≡ Some serial) × (seen_volume s serial ≡ y)
  found = found_at (seen_volume s) volumes place y is

  same : found.0 ≡ y.serial
  same = ap (λ (v : SeenVolume). v.serial) found.2

  pub volume_there : Contains volumes y.serial
  volume_there = subst (Contains volumes) same (contains_at volumes place found.0 found.1)

  pub volume_busy : is_busy s.operations (Some y.serial) ≡ y.busy
  volume_busy = ap (λ serial. is_busy s.operations (Some serial)) (sym same) ∙ ap (λ (v : SeenVolume). v.busy) found.2

  pub idle_more : y.busy ≡ false → All (λ serial. is_busy s.operations (Some serial) ≡ false) (take place volumes) →
      All (λ serial. is_busy s.operations (Some serial) ≡ false) (take (place + 1) volumes)
  idle_more idle before =
      All-more (λ serial. is_busy s.operations (Some serial) ≡ false) volumes place found.0 (slice_get_within volumes place found.0 found.1) before
      (ap (λ serial. is_busy s.operations (Some serial)) (get_or_from_slice_get volumes place found.0 found.0 found.1 ∙ same) ∙ volume_busy ∙ idle)

pub idle_all : (s : Shared) (volumes : List (List ℕ)) (place : ℕ) → length volumes ≤ place → All (λ serial. is_busy s.operations (Some serial) ≡ false) (take place volumes) →
    All (λ serial. is_busy s.operations (Some serial) ≡ false) volumes
idle_all s volumes place past before = All-same (λ serial. is_busy s.operations (Some serial) ≡ false) volumes (take place volumes) (sym (take_all place volumes past)) before
