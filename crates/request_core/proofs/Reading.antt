-- Where a GET reads, member by member.
use Rattle.std.proofs.Common.{◌≡◌, ◌+◌, ◌<◌, ◌≤◌, ◌-◌, ℕ, zero, suc, Bool, true, false, cond, not, ◌&&◌, nat_lt, List, [], ◌∷◌, length, length-take, drop, Option, slice_get, take, refl, sym, ap, subst, ◌∙◌, arith}
use Rattle.std.proofs.lemmas.List.{drop-drop, drop-take, drop_all, length-drop}
use Rattle.jcl_plan.specs.declared.plan.DdPlan.{DdPlan}
use Rattle.jcl_meaning.specs.declared.source.FoundRecord.{FoundRecord}
use Rattle.jcl_meaning.specs.declared.source.Source.{Source}
use Rattle.jcl_meaning.specs.declared.state.DdState.{DdState}
use Rattle.jcl_meaning.specs.Programs.{at_source, located, members_at, source_of, sources_from, taken_at}
use Rattle.jcl_meaning.specs.Stores.{Store}
use Rattle.job_text.specs.Places.{dd_at}
use Rattle.job_text.proofs.Members.{drop_dd}
use Rattle.request_core.specs.Requests.{is_read_on}

-- by whether the next is read
by_bools : (b p : Bool) (x : Source) (rest : List Source) (a : FoundRecord) (m : ℕ) → (not b && p) ≡ true → cond b a (cond p (located rest m 0) a) ≡ located rest m 0
by_bools true p x rest a m h = absurd cc
by_bools false true x rest a m h = refl
by_bools false false x rest a m h = absurd cc

by_bools_here : (b p : Bool) (rest : List Source) (a : FoundRecord) (m : ℕ) → (not b && p) ≡ false → cond b a (cond p (located rest m 0) a) ≡ a
by_bools_here true p rest a m h = refl
by_bools_here false true rest a m h = absurd cc
by_bools_here false false rest a m h = refl

pub reads_on : (s : Store) (dd : DdPlan) (rest : List DdPlan) (states : List DdState) (n member position : ℕ) →
    0 < length rest → is_read_on (source_of s dd.kind (taken_at states n)) true position ≡ true →
    located (sources_from s (dd ∷ rest) states n) member position ≡ located (sources_from s rest states (n + 1)) (member + 1) 0
reads_on s dd [] states n member position more h = absurd (omega (arith))
reads_on s dd (e ∷ es) states n member position more h =
    let x : Source = source_of s dd.kind (taken_at states n) in
    by_bools (nat_lt position (length x.records)) x.read_past x (sources_from s (e ∷ es) states (n + 1)) (at_source x member position) (member + 1) h

pub reads_here : (s : Store) (dd : DdPlan) (rest : List DdPlan) (states : List DdState) (n member position : ℕ) (more : Bool) → (0 < length rest → more ≡ true) →
    is_read_on (source_of s dd.kind (taken_at states n)) more position ≡ false →
    located (sources_from s (dd ∷ rest) states n) member position ≡ at_source (source_of s dd.kind (taken_at states n)) member position
reads_here s dd [] states n member position more m h = refl
reads_here s dd (e ∷ es) states n member position more m h =
    let x : Source = source_of s dd.kind (taken_at states n) in
    by_bools_here (nat_lt position (length x.records)) x.read_past (sources_from s (e ∷ es) states (n + 1)) (at_source x member position) (member + 1)
    (ap (λ b. b && not (nat_lt position (length x.records)) && x.read_past) (sym (m (omega (arith)))) ∙ h)

-- the members from a DD on
pub members_from : (dds : List DdPlan) (n end : ℕ) → n < end → end ≤ length dds → take (end - n) (drop n dds) ≡ dd_at dds n ∷ take (end - (n + 1)) (drop (n + 1) dds)
members_from dds n end h w = ap (λ k. take k (drop n dds)) one ∙ ap (take (suc (end - (n + 1)))) (drop_dd dds n (omega (arith)))
  where
    one : end - n ≡ suc (end - (n + 1))
    one = omega (arith)

pub behind_some : (dds : List DdPlan) (n end : ℕ) → n + 1 < end → end ≤ length dds → 0 < length (take (end - (n + 1)) (drop (n + 1) dds))
behind_some dds n end h w = subst (λ l. 0 < length l) (sym (members_from dds (n + 1) end h w)) (omega (arith))

pub behind_more : (dds : List DdPlan) (n end : ℕ) → 0 < length (take (end - (n + 1)) (drop (n + 1) dds)) → n + 1 < end
behind_more dds n end h = grind (arith, length-take)

-- the members behind the first
pub sources_drop : (s : Store) (dds : List DdPlan) (states : List DdState) (k n : ℕ) → drop k (sources_from s dds states n) ≡ sources_from s (drop k dds) states (n + k)
sources_drop s dds states zero n = ap (sources_from s dds states) (sym (none n))
  where
    none : (n : ℕ) → n + 0 ≡ n
    none n = omega (arith)
sources_drop s [] states (suc k) n = refl
sources_drop s (dd ∷ dds) states (suc k) n = sources_drop s dds states k (n + 1) ∙ ap (sources_from s (drop k dds) states) (sym (next n k))
  where
    next : (n k : ℕ) → n + suc k ≡ n + 1 + k
    next n k = omega (arith)

-- behind the last there is none
pub sources_past : (s : Store) (dds : List DdPlan) (states : List DdState) (m n : ℕ) → length dds ≤ m → drop m (sources_from s dds states n) ≡ []
sources_past s dds states m n h = sources_drop s dds states m n ∙ ap (λ l. sources_from s l states (n + m)) (drop_all m dds h)

-- a GET that goes on to the next member, and one that does not
first_of : (a b c : Bool) → (a && b && c) ≡ true → a ≡ true
first_of true b c h = refl
first_of false b c h = absurd cc

pub located_on : (s : Store) (dds : List DdPlan) (states : List DdState) (first n end position : ℕ) → first ≤ n → n < end → end ≤ length dds →
    is_read_on (source_of s (dd_at dds n).kind (taken_at states n)) (nat_lt (n + 1) end) position ≡ true →
    located (sources_from s (take (end - (n + 1)) (drop (n + 1) dds)) states (n + 1)) (n + 1 - first) 0 ≡
    located (sources_from s (take (end - n) (drop n dds)) states n) (n - first) position
located_on s dds states first n end position f h w on =
    let x : Source = source_of s (dd_at dds n).kind (taken_at states n) in
    let rest : List DdPlan = take (end - (n + 1)) (drop (n + 1) dds) in
    let more : nat_lt (n + 1) end ≡ true = first_of (nat_lt (n + 1) end) (not (nat_lt position (length x.records))) x.read_past on in
    sym (ap (λ l. located (sources_from s l states n) (n - first) position) (members_from dds n end h w)
    ∙ reads_on s (dd_at dds n) rest states n (n - first) position (behind_some dds n end (within (n + 1) end more) w)
    (ap (λ b. b && not (nat_lt position (length x.records)) && x.read_past) (sym more) ∙ on)
    ∙ ap (λ m. located (sources_from s rest states (n + 1)) m 0) (next n first f))
  where
    next : (n first : ℕ) → first ≤ n → n - first + 1 ≡ n + 1 - first
    next n first f = omega (arith)

    within : (a b : ℕ) → nat_lt a b ≡ true → a < b
    within a b e = grind (arith)

pub located_here : (s : Store) (dds : List DdPlan) (states : List DdState) (first n end position : ℕ) → n < end → end ≤ length dds →
    is_read_on (source_of s (dd_at dds n).kind (taken_at states n)) (nat_lt (n + 1) end) position ≡ false →
    at_source (source_of s (dd_at dds n).kind (taken_at states n)) (n - first) position ≡
    located (sources_from s (take (end - n) (drop n dds)) states n) (n - first) position
located_here s dds states first n end position h w off =
    let rest : List DdPlan = take (end - (n + 1)) (drop (n + 1) dds) in
    sym (ap (λ l. located (sources_from s l states n) (n - first) position) (members_from dds n end h w)
    ∙ reads_here s (dd_at dds n) rest states n (n - first) position (nat_lt (n + 1) end) (λ some. told (n + 1) end (behind_more dds n end some)) off)
  where
    told : (a b : ℕ) → a < b → nat_lt a b ≡ true
    told a b h = grind (arith)

-- from the member-th of those that continue a DD on, and behind the last
pub read_from : (s : Store) (dds : List DdPlan) (states : List DdState) (d member end position : ℕ) → member < end - d → end ≤ length dds →
    take (end - d) (drop d dds) ≡ members_at (drop d dds) →
    located (sources_from s (take (end - (d + member)) (drop (d + member) dds)) states (d + member)) (d + member - d) position ≡
    located (drop member (sources_from s (members_at (drop d dds)) states d)) member position
read_from s dds states d member end position h w is =
    ap (λ m. located (sources_from s (take (end - (d + member)) (drop (d + member) dds)) states (d + member)) m position) back
    ∙ sym (ap (λ l. located (drop member (sources_from s l states d)) member position) (sym is)
    ∙ ap (λ xs. located xs member position) (sources_drop s (take (end - d) (drop d dds)) states member d)
    ∙ ap (λ l. located (sources_from s l states (d + member)) member position) cut)
  where
    back : d + member - d ≡ member
    back = omega (arith)

    all : end - d ≡ member + (end - (d + member))
    all = omega (arith)

    cut : drop member (take (end - d) (drop d dds)) ≡ take (end - (d + member)) (drop (d + member) dds)
    cut = ap (λ k. drop member (take k (drop d dds))) all ∙ drop-take member (end - (d + member)) (drop d dds)
        ∙ ap (take (end - (d + member))) (drop-drop member d dds)

pub read_past : (s : Store) (dds : List DdPlan) (states : List DdState) (d member end position : ℕ) → end - d ≤ member → end ≤ length dds →
    take (end - d) (drop d dds) ≡ members_at (drop d dds) →
    drop member (sources_from s (members_at (drop d dds)) states d) ≡ []
read_past s dds states d member end position h w is =
    ap (λ l. drop member (sources_from s l states d)) (sym is)
    ∙ sources_past s (take (end - d) (drop d dds)) states member d (grind (arith, length-take))

pub found_is : (x : Source) (member position : ℕ) (text serial : Option (List ℕ)) → text ≡ slice_get x.records position → serial ≡ x.serial →
    ◌≡◌ {A = FoundRecord} (record { member = member; position = position; text = text; serial = serial }) (at_source x member position)
found_is x member position text serial e f = cc
