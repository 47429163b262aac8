-- Events that are given one behind another, and what they tell.
use Rattle.std.proofs.Common.{◌≡◌, ℕ, ◌+◌, ◌<◌, ◌≤◌, List, [], ◌∷◌, ◌++◌, Option, Some, None, get_or, length, map, replicate, take, refl, sym, ap, subst, ◌∙◌, append_assoc}
use Rattle.std.proofs.lemmas.Grind.{replicate_next}
use Rattle.std.proofs.lemmas.List.{append-nil, map_more, take_all}
use Rattle.std.proofs.lemmas.List.Sums.{fold-append}
use Rattle.session_input.specs.declared.event.Event.{Event}
use Rattle.jcl_plan.specs.declared.entry.Entry.{Entry}
use Rattle.sched_core.specs.Systems.{IsNext, Machine, Steps, world_of}
use Rattle.session_core.proofs.Applied.{Drives-append}
use Rattle.play_core.specs.Given.{event_of}
use Rattle.play_core.specs.declared.given.Given.{Given}
use Rattle.mvt_check.specs.Answers.{AreKept, answer_for, answered_in, first_number, first_of, last_answer, number_in}
use Rattle.mvt_check.specs.Telling.{Tells}
use Rattle.mvt_check.specs.declared.answers.answer.Answer.{Answer}

abbrev pub Kept : Type 0
Kept = List (Option Answer)

first_of-none : (o : Option ℕ) → first_of o None ≡ o
first_of-none None = refl
first_of-none (Some n) = refl

first_of-assoc : (a b c : Option ℕ) → first_of (first_of a b) c ≡ first_of a (first_of b c)
first_of-assoc None b c = refl
first_of-assoc (Some n) b c = refl

first_number-append : (xs ys : List (List Entry)) → first_number (xs ++ ys) ≡ first_of (first_number xs) (first_number ys)
first_number-append [] ys = refl
first_number-append (lines ∷ xs) ys =
    ap (first_of (number_in lines)) (first_number-append xs ys) ∙ sym (first_of-assoc (number_in lines) (first_number xs) (first_number ys))

last_answer-more : (job : ℕ) (entries : List (List Entry)) (lines : List Entry) →
    last_answer job (entries ++ lines ∷ []) ≡ answer_for job (last_answer job entries) (answered_in lines)
last_answer-more job entries lines = fold-append (λ before lines. answer_for job before (answered_in lines)) None entries (lines ∷ [])

pub Tells-none : (m : Machine) (kept : Kept) → Tells m kept [] m kept None
Tells-none m kept = record {
  entries = [];
  drives = refl;
  first = refl;
  kept = λ earlier so. subst (λ e. AreKept e kept) (sym (append-nil earlier)) so;
}

pub Tells-one : (m n : Machine) (e : Event) (lines : List Entry) (before after : Kept) (number : Option ℕ) → Steps m e lines (world_of n) → IsNext m n →
    number ≡ number_in lines → ((job : ℕ) → get_or after job None ≡ answer_for job (get_or before job None) (answered_in lines)) →
    Tells m before (e ∷ []) n after number
Tells-one m n e lines before after number step next numbered noted = record {
  entries = lines ∷ [];
  drives = (n, step, next, refl);
  first = numbered ∙ sym (first_of-none (number_in lines));
  kept = λ earlier so job. noted job ∙ ap (λ b. answer_for job b (answered_in lines)) (so job) ∙ sym (last_answer-more job earlier lines);
}

pub Tells-then : (a b c : Machine) (x y z : Kept) (es fs : List Event) (one later both : Option ℕ) → Tells a x es b y one → Tells b y fs c z later →
    both ≡ first_of one later → Tells a x (es ++ fs) c z both
Tells-then a b c x y z es fs one later both first then is = record {
  entries = first.entries ++ then.entries;
  drives = Drives-append a b c es fs first.entries then.entries first.drives then.drives;
  first = is ∙ ap (λ n. first_of n later) first.first ∙ ap (first_of (first_number first.entries)) then.first
      ∙ sym (first_number-append first.entries then.entries);
  kept = λ earlier so. subst (λ e. AreKept e z) (append_assoc earlier first.entries then.entries)
      (then.kept (earlier ++ first.entries) (first.kept earlier so));
}

-- once more
pub Tells-again : (a b c : Machine) (x y z : Kept) (e : Event) (done : ℕ) (one later both : Option ℕ) → Tells a x (replicate done e) b y one →
    Tells b y (e ∷ []) c z later → both ≡ first_of one later → Tells a x (replicate (done + 1) e) c z both
Tells-again a b c x y z e done one later both before next is =
    subst (λ es. Tells a x es c z both) (sym (replicate_next done e)) (Tells-then a b c x y z (replicate done e) (e ∷ []) one later both before next is)

-- the same of events that are added
pub added_more : (given : List Given) (at : ℕ) (g : Given) (a b c : Machine) (x y z : Kept) (one later both : Option ℕ) → at < length given → g ≡ get_or given at g →
    Tells a x (map event_of (take at given)) b y one → Tells b y (event_of g ∷ []) c z later → both ≡ first_of one later →
    Tells a x (map event_of (take (at + 1) given)) c z both
added_more given at g a b c x y z one later both within is before next so =
    let more : map event_of (take (at + 1) given) ≡ map event_of (take at given) ++ event_of g ∷ [] =
    map_more event_of given at g within ∙ ap (λ (h : Given). map event_of (take at given) ++ event_of h ∷ []) (sym is) in
    subst (λ es. Tells a x es c z both) (sym more) (Tells-then a b c x y z (map event_of (take at given)) (event_of g ∷ []) one later both before next so)

pub added_all : (given : List Given) (at : ℕ) (a b : Machine) (x y : Kept) (number : Option ℕ) → length given ≤ at →
    Tells a x (map event_of (take at given)) b y number → Tells a x (map event_of given) b y number
added_all given at a b x y number past tells = subst (λ gs. Tells a x (map event_of gs) b y number) (take_all at given past) tells
