-- The chains of records, which spell what they do in one way.
use Rattle.std.proofs.Common.{◌≡◌, ◌++◌, ◌+◌, ◌-◌, ◌≤◌, ◌==◌, arith, ℕ, false, List, [], ◌∷◌, length, replicate, Option, refl, sym, ap, ◌∙◌, subst}
use Rattle.std.specs.Prelude.{All, is_none}
use Rattle.std.specs.List.{flat_map}
use Rattle.std.proofs.lemmas.Bool.{both_ways, eq-eqb}
use Rattle.std.proofs.lemmas.List.{append_assoc}
use Rattle.std.proofs.lemmas.List.Elements.{All-cons, All-head, All-nil, All-tail}
use Rattle.jcl_plan.specs.declared.plan.DdKind.{DdKind}
use Rattle.jcl_plan.specs.declared.plan.DdKind.TheVariants.{Cards, Dummy, Set, Sysout}
use Rattle.jcl_plan.specs.declared.plan.DdPlan.{DdPlan}
use Rattle.jcl_plan.specs.declared.plan.JobPlan.{JobPlan}
use Rattle.jcl_plan.specs.declared.plan.SetPlan.{SetPlan}
use Rattle.jcl_plan.specs.declared.plan.StepPlan.{StepPlan}
use Rattle.cb_meaning.specs.declared.layout.Layout.{Layout}
use Rattle.cb_meaning.specs.Codes.{mark}
use Rattle.cb_meaning.specs.Fields.{number_at}
use Rattle.cb_meaning.specs.Spelled.{Below, CardChain, card_record, sct, siot, DdChain, Denotes, IsOwned, Records, Spell, SpellsCards, SpellsJct, SpellsJfcb, SpellsSiot, StepChain}
use Rattle.cb_meaning.specs.Writable.{AreDds, AreSteps, IsCard, IsKindAt, IsSetAt, IsWritable}
use Rattle.record_laws.proofs.Blanks.{name_blank}
use Rattle.record_laws.proofs.Sets.{same_filled, same_key, same_name, same_space, same_units, same_volume}
use Rattle.record_laws.proofs.Words.{same_after, same_conditional, same_expiry, same_job_tests, same_normal, same_status, same_step_tests}

-- lists of one length in front
front_same : (x y a b : List ℕ) → length x ≡ length y → x ++ a ≡ y ++ b → (x ≡ y) × (a ≡ b)
front_same [] [] a b l e = (refl, e)
front_same [] (d ∷ y) a b l e = absurd cc
front_same (c ∷ x) [] a b l e = absurd cc
front_same (c ∷ x) (d ∷ y) a b l e =
    let first : c ≡ d = cc in
    let shorter : length x ≡ length y = cc in
    let behind : x ++ a ≡ y ++ b = cc in
    let rest = front_same x y a b shorter behind in
    ((λ i. first i ∷ rest.0 i), rest.1)

all_front : {X : Type 0} (P : X → Type 0) (xs ys : List X) → All P (xs ++ ys) → All P xs
all_front P [] ys h = All-nil P
all_front P (x ∷ xs) ys h = All-cons P x xs (All-head P x (xs ++ ys) h) (all_front P xs ys (All-tail P x (xs ++ ys) h))

all_back : {X : Type 0} (P : X → Type 0) (xs ys : List X) → All P (xs ++ ys) → All P ys
all_back P [] ys h = h
all_back P (x ∷ xs) ys h = all_back P xs ys (All-tail P x (xs ++ ys) h)

-- cards
abbrev joined : List (List ℕ) → List ℕ
joined cards = flat_map (λ card. card) cards

same_cards : (xs ys : List (List ℕ)) (m n : ℕ) → length xs ≡ length ys → All IsCard xs → All IsCard ys →
    joined xs ++ replicate m 0 ≡ joined ys ++ replicate n 0 → xs ≡ ys
same_cards [] [] m n l h g e = refl
same_cards [] (y ∷ ys) m n l h g e = absurd cc
same_cards (x ∷ xs) [] m n l h g e = absurd cc
same_cards (x ∷ xs) (y ∷ ys) m n l h g e =
    let long : length x ≡ length y = (All-head IsCard x xs h).columns ∙ sym (All-head IsCard y ys g).columns in
    let both = front_same x y (joined xs ++ replicate m 0) (joined ys ++ replicate n 0) long
    (sym (append_assoc x (joined xs) (replicate m 0)) ∙ (e ∙ append_assoc y (joined ys) (replicate n 0))) in
    let shorter : length xs ≡ length ys = cc in
    λ i. both.0 i ∷ same_cards xs ys m n shorter (All-tail IsCard x xs h) (All-tail IsCard y ys g) both.1 i

module _ (l : Layout) (q : Records) (job : ℕ) where
  -- a chain that ends has no number
  no_end : (kind first n : ℕ) → first ≡ 0 → first ≡ n → IsOwned l q job kind n → ⊥
  no_end kind first n e f owned = let low : 1 ≤ n = owned.from_one in let no : ⊥ = omega (arith, e, f, low) in no

  here_same : (r : List ℕ) (a b : List (List ℕ)) → SpellsCards l a r → SpellsCards l b r → All IsCard a → All IsCard b → a ≡ b
  here_same r a b s t h g = same_cards a b (160 - length (joined a)) (160 - length (joined b)) (sym s.count ∙ t.count) h g (sym s.cards ∙ t.cards)

  cards_same : (first : ℕ) (ms ns : List ℕ) (xs ys : List (List ℕ)) → CardChain l q job first ms xs → CardChain l q job first ns ys → All IsCard xs →
      All IsCard ys → (xs ≡ ys) × (ms ≡ ns)
  cards_same first [] [] xs ys a b h g = (a.1 ∙ sym b.1, refl)
  cards_same first [] (n ∷ ns) xs ys a b h g = absurd (no_end card_record first n a.0 b.2 b.4)
  cards_same first (m ∷ ms) [] xs ys a b h g = absurd (no_end card_record first m b.0 a.2 a.4)
  cards_same first (m ∷ ms) (n ∷ ns) xs ys a b h g =
      let one : n ≡ m = sym b.2 ∙ a.2 in
      let all_a : All IsCard (a.0 ++ a.1) = subst (All IsCard) a.3 h in
      let all_b : All IsCard (b.0 ++ b.1) = subst (All IsCard) b.3 g in
      let spells : SpellsCards l b.0 (q.at m) = subst (λ (k : ℕ). SpellsCards l b.0 (q.at k)) one b.5 in
      let chain : CardChain l q job (number_at (q.at m) l.next_cards) ns b.1 = subst (λ (k : ℕ). CardChain l q job (number_at (q.at k) l.next_cards) ns b.1) one b.6 in
      let here : a.0 ≡ b.0 = here_same (q.at m) a.0 b.0 a.5 spells (all_front IsCard a.0 a.1 all_a) (all_front IsCard b.0 b.1 all_b) in
      let rest = cards_same (number_at (q.at m) l.next_cards) ms ns a.1 b.1 a.6 chain (all_back IsCard a.0 a.1 all_a) (all_back IsCard b.0 b.1 all_b) in
      (a.3 ∙ ((λ i. here i ++ rest.0 i) ∙ sym b.3), (λ i. sym one i ∷ rest.1 i))

  -- sets
  sets_same : (units : ℕ) (steps others : List StepPlan) (k d : ℕ) (m n : Option (List ℕ)) (r j : List ℕ) (p w : SetPlan) → m ≡ n →
      SpellsSiot l (record { name = m; kind = Set p }) r → SpellsSiot l (record { name = n; kind = Set w }) r → SpellsJfcb l p j → SpellsJfcb l w j →
      IsSetAt units steps k d p → IsSetAt units others k d w → p ≡ w
  sets_same units steps others k d m n r j p w same a b x y h g =
      let named : mark (is_none m) 1 ≡ mark (is_none n) 1 = ap (λ (o : Option (List ℕ)). mark (is_none o) 1) same in
      let all : _ = sym a.marks ∙ b.marks in
      let space : p.space ≡ w.space = same_space p.space w.space (omega (arith, named, all)) (sym a.primary ∙ b.primary) (sym a.secondary ∙ b.secondary) in
      λ i. record {
        key = same_key steps others k d p.key w.key h.key g.key (sym x.kind ∙ y.kind) (sym x.relative ∙ y.relative) (sym x.name ∙ y.name) i;
        status = same_status p.status w.status (sym a.status ∙ b.status) i;
        normal = same_normal p.normal w.normal (sym a.normal ∙ b.normal) i;
        conditional = same_conditional p.conditional w.conditional (sym a.conditional ∙ b.conditional) i;
        volume = same_volume steps others k d p.volume w.volume h.volume g.volume (sym a.volume ∙ b.volume) (sym a.volume_dd ∙ b.volume_dd)
            (sym x.serial ∙ y.serial) (sym x.reference ∙ y.reference) i;
        units = same_units units p.units w.units h.unit g.unit (sym a.units ∙ b.units) i;
        space = space i;
        expiry = same_expiry p.expiry w.expiry (sym x.expiry_kind ∙ y.expiry_kind) (sym x.expiry_days ∙ y.expiry_days) i;
      }

  other_kind : (m n : ℕ) → (m == n) ≡ false → m ≡ n → ⊥
  other_kind m n apart e = both_ways (m == n) apart (eq-eqb m n e)

  kinds_same : (units : ℕ) (steps others : List StepPlan) (k d : ℕ) (m n : Option (List ℕ)) (r : List ℕ) (first : ℕ) (ms ns : List ℕ) (x y : DdKind) → m ≡ n →
      SpellsSiot l (record { name = m; kind = x }) r → SpellsSiot l (record { name = n; kind = y }) r → Below l q job first ms x → Below l q job first ns y →
      IsKindAt units steps k d x → IsKindAt units others k d y → (x ≡ y) × (ms ≡ ns)
  kinds_same units steps others k d m n r first ms ns (Sysout c) (Sysout e) same a b u v h g = (ap Sysout (sym a.class ∙ b.class), u.1 ∙ sym v.1)
  kinds_same units steps others k d m n r first ms ns Dummy Dummy same a b u v h g = (refl, u.1 ∙ sym v.1)
  kinds_same units steps others k d m n r first ms ns (Cards xs) (Cards ys) same a b u v h g =
      let both = cards_same first ms ns xs ys u v h g in (ap Cards both.0, both.1)
  kinds_same units steps others k d m n r first ms ns (Set p) (Set w) same a b u v h g =
      (ap Set (sets_same units steps others k d m n r (q.at first) p w same a b u.2 v.2 h g), u.0 ∙ sym v.0)
  kinds_same units steps others k d m n r first ms ns (Sysout c) Dummy same a b u v h g = absurd (other_kind 3 2 refl (sym a.kind ∙ b.kind))
  kinds_same units steps others k d m n r first ms ns (Sysout c) (Cards ys) same a b u v h g = absurd (other_kind 3 4 refl (sym a.kind ∙ b.kind))
  kinds_same units steps others k d m n r first ms ns (Sysout c) (Set w) same a b u v h g = absurd (other_kind 3 1 refl (sym a.kind ∙ b.kind))
  kinds_same units steps others k d m n r first ms ns Dummy (Sysout e) same a b u v h g = absurd (other_kind 2 3 refl (sym a.kind ∙ b.kind))
  kinds_same units steps others k d m n r first ms ns Dummy (Cards ys) same a b u v h g = absurd (other_kind 2 4 refl (sym a.kind ∙ b.kind))
  kinds_same units steps others k d m n r first ms ns Dummy (Set w) same a b u v h g = absurd (other_kind 2 1 refl (sym a.kind ∙ b.kind))
  kinds_same units steps others k d m n r first ms ns (Cards xs) (Sysout e) same a b u v h g = absurd (other_kind 4 3 refl (sym a.kind ∙ b.kind))
  kinds_same units steps others k d m n r first ms ns (Cards xs) Dummy same a b u v h g = absurd (other_kind 4 2 refl (sym a.kind ∙ b.kind))
  kinds_same units steps others k d m n r first ms ns (Cards xs) (Set w) same a b u v h g = absurd (other_kind 4 1 refl (sym a.kind ∙ b.kind))
  kinds_same units steps others k d m n r first ms ns (Set p) (Sysout e) same a b u v h g = absurd (other_kind 1 3 refl (sym a.kind ∙ b.kind))
  kinds_same units steps others k d m n r first ms ns (Set p) Dummy same a b u v h g = absurd (other_kind 1 2 refl (sym a.kind ∙ b.kind))
  kinds_same units steps others k d m n r first ms ns (Set p) (Cards ys) same a b u v h g = absurd (other_kind 1 4 refl (sym a.kind ∙ b.kind))

  dds_same : (units : ℕ) (steps others : List StepPlan) (k d first : ℕ) (ms ns : List ℕ) (xs ys : List DdPlan) → DdChain l q job first ms xs →
      DdChain l q job first ns ys → AreDds units steps k d xs → AreDds units others k d ys → (xs ≡ ys) × (ms ≡ ns)
  dds_same units steps others k d first ms ns [] [] a b h g = (refl, a.1 ∙ sym b.1)
  dds_same units steps others k d first ms ns [] (y ∷ ys) a b h g = absurd (no_end siot first first a.0 refl b.3)
  dds_same units steps others k d first ms ns (x ∷ xs) [] a b h g = absurd (no_end siot first first b.0 refl a.3)
  dds_same units steps others k d first ms ns (x ∷ xs) (y ∷ ys) a b h g =
      let name : x.name ≡ y.name = same_name x.name y.name h.0 g.0 (sym a.4.name ∙ b.4.name) in
      let kind = kinds_same units steps others k d x.name y.name (q.at first) (number_at (q.at first) l.below) a.0 b.0 x.kind y.kind name a.4 b.4 a.5 b.5 h.1 g.1 in
      let rest = dds_same units steps others k (d + 1) (number_at (q.at first) l.next_dd) a.1 b.1 xs ys a.6 b.6 h.2 g.2 in
      ((λ i. record { name = name i; kind = kind.0 i } ∷ rest.0 i), a.2 ∙ ((λ i. first ∷ (kind.1 i ++ rest.1 i)) ∙ sym b.2))

  steps_same : (units : ℕ) (steps others : List StepPlan) (k first : ℕ) (ms ns : List ℕ) (xs ys : List StepPlan) → StepChain l q job first ms xs →
      StepChain l q job first ns ys → AreSteps units steps k xs → AreSteps units others k ys → (xs ≡ ys) × (ms ≡ ns)
  steps_same units steps others k first ms ns [] [] a b h g = (refl, a.1 ∙ sym b.1)
  steps_same units steps others k first ms ns [] (y ∷ ys) a b h g = absurd (no_end sct first first a.0 refl b.3)
  steps_same units steps others k first ms ns (x ∷ xs) [] a b h g = absurd (no_end sct first first b.0 refl a.3)
  steps_same units steps others k first ms ns (x ∷ xs) (y ∷ ys) a b h g =
      let dds = dds_same units steps others k 1 (number_at (q.at first) l.first_dd) a.0 b.0 x.dds y.dds a.5 b.5 h.0.dds g.0.dds in
      let rest = steps_same units steps others (k + 1) (number_at (q.at first) l.next_step) a.1 b.1 xs ys a.6 b.6 h.1 g.1 in
      let name : x.name ≡ y.name = same_name x.name y.name h.0.name g.0.name (sym a.4.name ∙ b.4.name) in
      let procedure_step : x.procedure_step ≡ y.procedure_step =
      same_name x.procedure_step y.procedure_step h.0.procedure_step g.0.procedure_step (sym a.4.procedure_step ∙ b.4.procedure_step) in
      let program : x.program ≡ y.program =
      same_filled 8 x.program y.program (name_blank x.program h.0.program) (name_blank y.program g.0.program) (sym a.4.program ∙ b.4.program) in
      let tests : x.tests.items ≡ y.tests.items =
      same_step_tests k x.tests.items y.tests.items _ _ (sym a.4.count ∙ b.4.count) h.0.tests g.0.tests (sym a.4.tests ∙ b.4.tests) in (
        (λ i. record {
          name = name i;
          procedure_step = procedure_step i;
          program = program i;
          after_abend = same_after x.after_abend y.after_abend (sym a.4.after_abend ∙ b.4.after_abend) i;
          tests = record { items = tests i };
          dds = dds.0 i;
        } ∷ rest.0 i),
        a.2 ∙ ((λ i. first ∷ (dds.1 i ++ rest.1 i)) ∙ sym b.2),
      )

jobs_same : (l : Layout) (units : ℕ) (q : Records) (job first : ℕ) (behind others : List ℕ) (plan other : JobPlan) → IsWritable l.most_steps units plan →
    IsWritable l.most_steps units other → SpellsJct l plan (q.at first) → SpellsJct l other (q.at first) →
    StepChain l q job (number_at (q.at first) l.first_step) behind plan.steps → StepChain l q job (number_at (q.at first) l.first_step) others other.steps →
    (plan ≡ other) × (behind ≡ others)
jobs_same l units q job first behind others plan other h g a b x y =
    let steps = steps_same l q job units plan.steps other.steps 1 (number_at (q.at first) l.first_step) behind others plan.steps other.steps x y h.steps g.steps in
    let name : plan.name ≡ other.name = same_filled 8 plan.name other.name (name_blank plan.name h.name) (name_blank other.name g.name) (sym a.name ∙ b.name) in
    let tests : plan.tests.items ≡ other.tests.items =
    same_job_tests plan.tests.items other.tests.items _ _ (sym a.count ∙ b.count) h.tests g.tests (sym a.tests ∙ b.tests) in (
      (λ i. record {
        name = name i;
        class = (sym a.class ∙ b.class) i;
        priority = (sym a.priority ∙ b.priority) i;
        message_class = (sym a.message_class ∙ b.message_class) i;
        tests = record { items = tests i };
        steps = steps.0 i;
      }),
      steps.1,
    )

-- a list begins with one number
begun : (l : Layout) (q : Records) (job first : ℕ) (behind : List ℕ) (plan : JobPlan) → Spell l q job (first ∷ behind) plan →
    SpellsJct l plan (q.at first) × StepChain l q job (number_at (q.at first) l.first_step) behind plan.steps
begun l q job first behind plan s =
    let one : s.first ≡ first = (let both : first ∷ behind ≡ s.first ∷ s.behind = s.begins in cc) in
    let rest : s.behind ≡ behind = (let both : first ∷ behind ≡ s.first ∷ s.behind = s.begins in cc) in (
      subst (λ (n : ℕ). SpellsJct l plan (q.at n)) one s.head,
      subst (λ (n : ℕ). StepChain l q job (number_at (q.at n) l.first_step) behind plan.steps) one
          (subst (λ (ns : List ℕ). StepChain l q job (number_at (q.at s.first) l.first_step) ns plan.steps) rest s.steps),
    )

pub one_job : (l : Layout) (units : ℕ) (q : Records) (job first : ℕ) (behind others : List ℕ) (plan other : JobPlan) →
    Denotes l units q job (first ∷ behind) plan → Denotes l units q job (first ∷ others) other → (plan ≡ other) × (behind ≡ others)
one_job l units q job first behind others plan other d e =
    let a = begun l q job first behind plan d.spelled in
    let b = begun l q job first others other e.spelled in
    jobs_same l units q job first behind others plan other d.in_range e.in_range a.0 b.0 a.1 b.1
