-- Events one after another, and what they write.
use Rattle.std.proofs.Common.{◌≡◌, ℕ, ◌+◌, List, [], ◌∷◌, ◌++◌, replicate, flat_map, refl, sym, subst, ap, ◌∙◌, append_assoc}
use Rattle.std.proofs.lemmas.List.{append-nil}
use Rattle.std.proofs.lemmas.List.Concat.{flat_map-append}
use Rattle.std.proofs.lemmas.Grind.{replicate_next}
use Rattle.jcl_plan.specs.declared.entry.Entry.{Entry}
use Rattle.jcl_plan.specs.Lines.{text_of}
use Rattle.session_input.specs.declared.event.Event.{Event}
use Rattle.sched_core.specs.Systems.{Drives, IsNext, Machine}
use Rattle.session_core.specs.Listings.{text_of_all}
use Rattle.session_core.specs.Running.{AreApplied, IsApplied}

pub Drives-append : (a b c : Machine) (es fs : List Event) (xs ys : List (List Entry)) → Drives a es xs b → Drives b fs ys c → Drives a (es ++ fs) (xs ++ ys) c
Drives-append a b c [] fs [] ys first then = subst (λ m. Drives m fs ys c) first then
Drives-append a b c (e ∷ es) fs (x ∷ xs) ys first then = (first.0, first.1, first.2, Drives-append first.0 b c es fs xs ys first.3 then)
Drives-append a b c [] fs (x ∷ xs) ys first then = absurd first
Drives-append a b c (e ∷ es) fs [] ys first then = absurd first

text_of_all-append : (xs ys : List (List Entry)) → text_of_all (xs ++ ys) ≡ text_of_all xs ++ text_of_all ys
text_of_all-append xs ys = flat_map-append (λ lines. flat_map text_of lines) xs ys

pub AreApplied-none : (machine : Machine) (text : List ℕ) → AreApplied machine [] machine text text
AreApplied-none machine text = record { entries = []; drives = refl; text_so = sym (append-nil text) }

pub AreApplied-append : (a b c : Machine) (es fs : List Event) (start mid end : List ℕ) → AreApplied a es b start mid → AreApplied b fs c mid end
    → AreApplied a (es ++ fs) c start end
AreApplied-append a b c es fs start mid end first then = record {
  entries = first.entries ++ then.entries;
  drives = Drives-append a b c es fs first.entries then.entries first.drives then.drives;
  text_so = then.text_so ∙ ap (λ x. x ++ text_of_all then.entries) first.text_so
      ∙ append_assoc start (text_of_all first.entries) (text_of_all then.entries) ∙
      ap (λ x. start ++ x) (sym (text_of_all-append first.entries then.entries));
}

-- the same behind another text
pub AreApplied-behind : (machine after : Machine) (events : List Event) (out old new : List ℕ) → AreApplied machine events after old new
    → AreApplied machine events after (out ++ old) (out ++ new)
AreApplied-behind machine after events out old new a = record {
  entries = a.entries;
  drives = a.drives;
  text_so = ap (λ x. out ++ x) a.text_so ∙ sym (append_assoc out old (text_of_all a.entries));
}

AreApplied-one : (machine after : Machine) (event : Event) (old new : List ℕ) → IsNext machine after → IsApplied machine event after old new
    → AreApplied machine (event ∷ []) after old new
AreApplied-one machine after event old new next one = record {
  entries = one.lines ∷ [];
  drives = (after, one.step, next, refl);
  text_so = one.text_so ∙ ap (λ x. old ++ x) (sym (append-nil (flat_map text_of one.lines)));
}

-- once more
pub AreApplied-more : (first mid after : Machine) (event : Event) (done : ℕ) (start old new : List ℕ) → AreApplied first (replicate done event) mid start old
    → IsNext mid after → IsApplied mid event after old new → AreApplied first (replicate (done + 1) event) after start new
AreApplied-more first mid after event done start old new applied next one =
    rw (replicate_next done event) (AreApplied-append first mid after (replicate done event) (event ∷ []) start old new applied
    (AreApplied-one mid after event old new next one))
