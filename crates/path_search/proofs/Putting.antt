-- Views that are put behind a part: those that stood there stay, all that are told stand there within the limit, each has its link, and no two are
-- equal.
use Rattle.std.proofs.Common.{◌≡◌, ◌≢◌, ◌∷◌, ◌<◌, ◌≤◌, ◌+◌, ◌∙◌, ◌++◌, List, [], length, ℕ, zero, suc, Bool, true, false, subst, sym, refl, ap, arith}
use Rattle.std.proofs.Common.{Option, Some, None, length-append}
use Rattle.std.specs.Prelude.{Contains, All, Err, Ok, OnOk, Result, slice_get}
use Rattle.std.specs.List.{AllByRecursion}
use Rattle.std.proofs.lemmas.List.Elements.{All-from_recursion, All-nil, All-push, All-contains, All-contains_itself, Contains-append_left, Contains-push}
use Rattle.std.proofs.lemmas.Option.{slice_get_within}
use Rattle.plain.specs.Lists.{Differ}
use Rattle.jcl_plan.specs.declared.outcome.Outcome.{Outcome}
use Rattle.jcl_meaning.specs.Views.{View}
use Rattle.view_domain.specs.declared.crossed.Branch.{Branch}
use Rattle.view_domain.specs.Crossings.{IsPut}
use Rattle.view_domain.specs.Crossings as crossings
use Rattle.path_search.specs.declared.trail.Link.{Link}
use Rattle.path_search.specs.Puts.{ArePut, IsPutIn, Past, Stood, New, Told, told_branch}
use Rattle.path_search.specs.Trails.{link_at}

pub put_stood : (limit : ℕ) (views after : List View) (links : List Link) (view : View) (link : Link) (stood : Bool) → stood ≡ true →
    IsPut views view stood after → IsPutIn limit views links view link after links
put_stood limit views after links view link stood is (crossings.Stood there) = Stood there
put_stood limit views after links view link stood is (crossings.New none) = absurd (cc)

pub put_new : (limit : ℕ) (views after : List View) (links : List Link) (view : View) (link : Link) (stood : Bool) → stood ≡ false →
    IsPut views view stood after → IsPutIn limit views links view link after (links ++ link ∷ [])
put_new limit views after links view link stood is (crossings.Stood there) = absurd (cc)
put_new limit views after links view link stood is (crossings.New none) = New none

-- the same under an equal meaning, with an equal outcome
pub put_as : {V : Type 0} (limit parent : ℕ) (views after : List View) (links more : List Link) (m n : V → View) (view : V) (o p : Outcome) → m ≡ n → o ≡ p →
    IsPutIn limit views links (m view) (record { parent = parent; outcome = o }) after more →
    IsPutIn limit views links (n view) (record { parent = parent; outcome = p }) after more
put_as {V} limit parent views after links more m n view o p same equal put =
    subst (λ (f : V → View). IsPutIn limit views links (f view) (record { parent = parent; outcome = p }) after more) same
    (subst (λ (x : Outcome). IsPutIn limit views links (m view) (record { parent = parent; outcome = x }) after more) equal put)

pub puts_as : {V : Type 0} (limit parent : ℕ) (b : Branch V) (views after : List View) (links more : List Link) (m n : V → View) → m ≡ n →
    ArePut limit views links (told_branch m parent b) after more → ArePut limit views links (told_branch n parent b) after more
puts_as {V} limit parent b views after links more m n same put =
    subst (λ (f : V → View). ArePut limit views links (told_branch f parent b) after more) same put

pub on_ok : {X E P Q : Type 0} (r : Result X E) → (P → Q) → OnOk r P → OnOk r Q
on_ok (Ok x) f p = f p
on_ok (Err e) f p = tt

longer : {X : Type 0} (xs : List X) (x : X) → length (xs ++ x ∷ []) ≡ length xs + 1
longer xs x = length-append xs (x ∷ [])

pub put_counted : (limit : ℕ) (views after : List View) (links more : List Link) (view : View) (link : Link) → IsPutIn limit views links view link after more →
    length links ≡ length views → length more ≡ length after
put_counted limit views after links more view link (Past past) same = same
put_counted limit views after links more view link (Stood there) same = same
put_counted limit views after links more view link (New none) same = longer links link ∙ ap (λ n. n + 1) same ∙ sym (longer views view)

pub puts_counted : (limit : ℕ) (told : List Told) (views after : List View) (links more : List Link) → ArePut limit views links told after more →
    length links ≡ length views → length more ≡ length after
puts_counted limit [] views after links more put same = ap length put.1 ∙ same ∙ sym (ap length put.0)
puts_counted limit (t ∷ told) views after links more put same =
    puts_counted limit told put.0 after put.1 more put.3 (put_counted limit views put.0 links put.1 t.view t.link put.2 same)

pub put_append : (limit : ℕ) (told later : List Told) (views between after : List View) (links ls more : List Link) → ArePut limit views links told between ls →
    ArePut limit between ls later after more → ArePut limit views links (told ++ later) after more
put_append limit [] later views between after links ls more first second =
    subst (λ (x : List View). ArePut limit x links later after more) first.0
    (subst (λ (x : List Link). ArePut limit between x later after more) first.1 second)
put_append limit (t ∷ told) later views between after links ls more first second =
    (first.0, first.1, first.2, put_append limit told later first.0 between after first.1 ls more first.3 second)

-- what stood there stays
put_keeps : (limit : ℕ) (views after : List View) (links more : List Link) (view : View) (link : Link) → IsPutIn limit views links view link after more →
    (x : View) → Contains views x → Contains after x
put_keeps limit views after links more view link (Past past) x h = h
put_keeps limit views after links more view link (Stood there) x h = h
put_keeps limit views after links more view link (New none) x h = Contains-append_left views (view ∷ []) x h

put_grows : (limit : ℕ) (views after : List View) (links more : List Link) (view : View) (link : Link) → IsPutIn limit views links view link after more →
    length views ≤ length after
put_grows limit views after links more view link (Past past) = omega arith
put_grows limit views after links more view link (Stood there) = omega arith
put_grows limit views after links more view link (New none) = omega (arith, longer views view)

pub puts_keep : (limit : ℕ) (told : List Told) (views after : List View) (links more : List Link) → ArePut limit views links told after more →
    (x : View) → Contains views x → Contains after x
puts_keep limit [] views after links more put x h = subst (λ (xs : List View). Contains xs x) (sym put.0) h
puts_keep limit (t ∷ told) views after links more put x h =
    puts_keep limit told put.0 after put.1 more put.3 x (put_keeps limit views put.0 links put.1 t.view t.link put.2 x h)

pub puts_grow : (limit : ℕ) (told : List Told) (views after : List View) (links more : List Link) → ArePut limit views links told after more →
    length views ≤ length after
puts_grow limit [] views after links more put = let same : length after ≡ length views = ap length put.0 in omega arith
puts_grow limit (t ∷ told) views after links more put =
    let first = put_grows limit views put.0 links put.1 t.view t.link put.2 in
    let then = puts_grow limit told put.0 after put.1 more put.3 in
    omega (arith, first, then)

-- within the limit each view that is told stands there
put_there : (limit : ℕ) (views after : List View) (links more : List Link) (view : View) (link : Link) → IsPutIn limit views links view link after more →
    length links ≡ length views → length after ≤ limit → Contains after view
put_there limit views after links more view link (Past past) same few = absurd (omega arith)
put_there limit views after links more view link (Stood there) same few = there
put_there limit views after links more view link (New none) same few = Contains-push views view

pub puts_there : (limit : ℕ) (told : List Told) (views after : List View) (links more : List Link) → ArePut limit views links told after more →
    length links ≡ length views → length after ≤ limit → AllByRecursion (λ t. Contains after t.view) told
puts_there limit [] views after links more put same few = tt
puts_there limit (t ∷ told) views after links more put same few =
    let grows = puts_grow limit told put.0 after put.1 more put.3 in
    let within : length put.0 ≤ limit = omega (arith, grows, few) in (
      puts_keep limit told put.0 after put.1 more put.3 t.view (put_there limit views put.0 links put.1 t.view t.link put.2 same within),
      puts_there limit told put.0 after put.1 more put.3 (put_counted limit views put.0 links put.1 t.view t.link put.2 same) few,
    )

-- what holds of each view and its link, and of each that is told, holds of all that stand there then
module _ (P : View → Link → Type 0) where
  abbrev pub AllLinked : List View → List Link → Type 0
  AllLinked views links = (number : ℕ) (view : View) → slice_get views number ≡ Some view → P view (link_at links number)

  at_push : (views : List View) (links : List Link) (view : View) (link : Link) → length links ≡ length views → AllLinked views links → P view link →
      AllLinked (views ++ view ∷ []) (links ++ link ∷ [])
  at_push [] [] view link same all new zero x at = let e : view ≡ x = cc in subst (λ (y : View). P y link) e new
  at_push [] [] view link same all new (suc n) x at = absurd (cc)
  at_push [] (l ∷ ls) view link same all new n x at = absurd (omega arith)
  at_push (v ∷ vs) [] view link same all new n x at = absurd (omega arith)
  at_push (v ∷ vs) (l ∷ ls) view link same all new zero x at = all zero x at
  at_push (v ∷ vs) (l ∷ ls) view link same all new (suc n) x at =
      at_push vs ls view link (omega arith) (λ i y e. all (suc i) y e) new n x at

  put_linked : (limit : ℕ) (views after : List View) (links more : List Link) (view : View) (link : Link) → IsPutIn limit views links view link after more →
      length links ≡ length views → P view link → AllLinked views links → AllLinked after more
  put_linked limit views after links more view link (Past past) same new all = all
  put_linked limit views after links more view link (Stood there) same new all = all
  put_linked limit views after links more view link (New none) same new all = at_push views links view link same all new

  pub puts_linked : (limit : ℕ) (told : List Told) (views after : List View) (links more : List Link) → ArePut limit views links told after more →
      length links ≡ length views → AllByRecursion (λ t. P t.view t.link) told → AllLinked views links → AllLinked after more
  puts_linked limit [] views after links more put same new all =
      subst (λ (xs : List View). AllLinked xs more) (sym put.0) (subst (λ (ls : List Link). AllLinked views ls) (sym put.1) all)
  puts_linked limit (t ∷ told) views after links more put same new all =
      puts_linked limit told put.0 after put.1 more put.3 (put_counted limit views put.0 links put.1 t.view t.link put.2 same) new.1
      (put_linked limit views put.0 links put.1 t.view t.link put.2 same new.0 all)

-- no two views are equal
differ_push : {X : Type 0} (xs : List X) (x : X) → Differ xs → (Contains xs x → ⊥) → Differ (xs ++ x ∷ [])
differ_push [] x differ none = (All-nil _, tt)
differ_push {X} (y ∷ ys) x differ none = (
  All-push (λ (z : X). y ≢ z) ys x differ.0 (λ e. none (0, omega arith, e)),
  differ_push ys x differ.1 (λ h. none (suc h.0, omega (arith, h.1), h.2)),
)

pub puts_differ : (limit : ℕ) (told : List Told) (views after : List View) (links more : List Link) → ArePut limit views links told after more →
    Differ views → Differ after
puts_differ limit [] views after links more put differ = subst (λ (xs : List View). Differ xs) (sym put.0) differ
puts_differ limit (t ∷ told) views after links more put differ = puts_differ limit told put.0 after put.1 more put.3 (one put.2)
  where
    one : {vs : List View} {ls : List Link} → IsPutIn limit views links t.view t.link vs ls → Differ vs
    one (Past past) = differ
    one (Stood there) = differ
    one (New none) = differ_push views t.view differ none
