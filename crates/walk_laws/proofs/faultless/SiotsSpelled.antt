-- An SIOT without a fault spells what is read of it.
use Rattle.std.proofs.Common.{◌≡◌, ℕ, zero, suc, ◌+◌, ◌≤◌, ◌==◌, Bool, true, false, not, cond, ◌&&◌, ◌||◌, List, [], ◌∷◌, ◌++◌, length, Option, Some, None, refl, sym, ap, ◌∙◌, subst, arith}
use Rattle.std.specs.Prelude.{nat_lt, is_none, is_some}
use Rattle.std.proofs.lemmas.Bool.{ltb-false, or_parts}
use Rattle.jcl_plan.specs.declared.plan.DdKind.{DdKind}
use Rattle.jcl_plan.specs.declared.plan.DdKind.TheVariants.{Cards, Dummy, Set, Sysout}
use Rattle.jcl_plan.specs.declared.plan.SetPlan.{SetPlan}
use Rattle.jcl_plan.specs.declared.plan.Space.{Space}
use Rattle.jcl_plan.specs.declared.plan.StepPlan.{StepPlan}
use Rattle.cb_meaning.specs.declared.layout.Field.{Field}
use Rattle.cb_meaning.specs.declared.layout.Layout.{Layout}
use Rattle.cb_meaning.specs.Codes.{conditional_code, mark, normal_code, or_zero, status_code}
use Rattle.cb_meaning.specs.Fields.{byte_at, field, filled_or_blank, is_zero_but, number_at, part}
use Rattle.cb_meaning.specs.Layouts.{all_apart, siot_places}
use Rattle.cb_meaning.specs.Readings.{name_read, number_read, set_read, space_read, volume_read}
use Rattle.cb_meaning.specs.Spelled.{SpellsSiot, cards_of, class_of, common, kind_code, of_set, of_space, set_of, status_bytes, volume_code, volume_dd_of}
use Rattle.cb_meaning.specs.Walks.{fields_if, has_cards, has_space, is_set, is_sysout, releases, siot_fields_used}
use Rattle.cb_meaning.specs.Writable.{IsSpace, IsUnits}
use Rattle.walk_laws.specs.WalkLaws.{IsRecord}
use Rattle.walk_laws.proofs.faultless.Codes.{conditional_back, marks_back, normal_back, number_back, number_some, status_back}
use Rattle.walk_laws.proofs.faultless.Names.{name_back}
use Rattle.walk_laws.proofs.faultless.Parts.{part_long}
use Rattle.walk_laws.proofs.faultless.Siots.{SetNumbers, SiotFine}
use Rattle.walk_laws.proofs.faultless.Told.{second_false}
use Rattle.walk_laws.proofs.faultless.UsedFields.{NoSet, no_cards, no_class, no_set, set_cards, set_class, used, used_of}
use Rattle.walk_laws.proofs.faultless.Volumes.{IsVolumeOf}
use Rattle.walk_laws.proofs.faultless.Zeros.{NoneIn, in_some, more_fields, none_in, none_in_both, out_all, out_at, within_out}

-- the fields of an SIOT of any kind
abbrev all_used : Layout → List Field
all_used l = common l ++ l.next_dd ∷ l.below ∷ field 12 4 ∷ field 16 10 ∷ l.cards ∷ field 28 1 ∷ field 30 10 ∷ status_bytes ∷ []

none_if : (b : Bool) (fs : List Field) (k : ℕ) → NoneIn fs k → NoneIn (fields_if b fs) k
none_if true fs k h = h
none_if false fs k h = tt

within_all : (l : Layout) (set referred sysout cards : Bool) (k : ℕ) → in_some (all_used l) k ≡ false → in_some (used l set referred sysout cards) k ≡ false
within_all l set referred sysout cards k h =
    let n = out_all (all_used l) k h in
    let o = out_at (all_used l) k in
    let words = within_out 12 4 13 3 k (omega arith) (omega arith) (o 5 n) in
    let numbers = within_out 30 10 34 6 k (omega arith) (omega arith) (o 9 n) in
    let class = within_out 16 10 25 1 k (omega arith) (omega arith) (o 6 n) in
    let dd = within_out 30 10 30 4 k (omega arith) (omega arith) (o 9 n) in
    let one = none_if set (l.below ∷ field 13 3 ∷ field 28 1 ∷ field 34 6 ∷ []) k ((o 4 n), (words, ((o 8 n), (numbers, tt)))) in
    let two = none_if referred (field 30 4 ∷ []) k (dd, tt) in
    let three = none_if sysout (field 25 1 ∷ []) k (class, tt) in
    let four = none_if cards (l.below ∷ l.cards ∷ []) k ((o 4 n), ((o 7 n), tt)) in
    let a = fields_if set (l.below ∷ field 13 3 ∷ field 28 1 ∷ field 34 6 ∷ []) in
    let b = fields_if referred (field 30 4 ∷ []) in
    let c = fields_if sysout (field 25 1 ∷ []) in
    let e = fields_if cards (l.below ∷ l.cards ∷ []) in
    let tail = none_in_both (a ++ b ++ c) e k (none_in_both (a ++ b) c k (none_in_both a b k one two) three) four in
    let kind = within_out 12 4 12 1 k (omega arith) (omega arith) (o 5 n) in
    let name = within_out 16 10 16 9 k (omega arith) (omega arith) (o 6 n) in
    none_in (used l set referred sysout cards) k ((o 0 n), ((o 1 n), ((o 2 n), ((o 3 n), (kind, (name, ((o 10 n), tail)))))))

all_unused : (l : Layout) (r : List ℕ) → is_zero_but (siot_fields_used l r) r ≡ true → is_zero_but (all_used l) r ≡ true
all_unused l r h =
    more_fields (siot_fields_used l r) (all_used l) r (within_all l (is_set r) (is_set r && byte_at r 28 == 3) (is_sysout r) (has_cards r)) h

-- space
record NoSpace (r : List ℕ) : Type 0 where
  release : releases r ≡ false
  primary : number_at r (field 34 2) ≡ 0
  secondary : number_at r (field 36 2) ≡ 0

no_space : (units : ℕ) (r : List ℕ) → SetNumbers units r → has_space r ≡ false → NoSpace r
no_space units r h none =
    let primary = nat_lt 0 (number_at r (field 34 2)) in
    let secondary = nat_lt 0 (number_at r (field 36 2)) in
    let parts = or_parts (releases r || primary) secondary (second_false (not (has_space r)) (releases r || primary || secondary) (ap not none) h.without) in
    let both = or_parts (releases r) primary parts.0 in
    record {
      release = both.0;
      primary = (let low = ltb-false 0 (number_at r (field 34 2)) both.1 in omega (arith, low));
      secondary = (let low = ltb-false 0 (number_at r (field 36 2)) parts.1 in omega (arith, low));
    }

abbrev space_if : Bool → List ℕ → Option Space
space_if b s = cond b (Some (record { primary = number_at s (field 34 2); secondary = number_at s (field 36 2); release = releases s })) None

record SpaceRead (units : ℕ) (s : List ℕ) (o : Option Space) : Type 0 where
  marks : mark (has_space s) 4 + mark (releases s) 2 ≡ mark (is_some o) 4 + of_space o (λ x. mark x.release 2)
  primary : number_at s (field 34 2) ≡ of_space o (λ x. x.primary)
  secondary : number_at s (field 36 2) ≡ of_space o (λ x. x.secondary)
  fits : IsSpace o

space_by : (units : ℕ) (s : List ℕ) → SetNumbers units s → (b : Bool) → has_space s ≡ b → SpaceRead units s (space_if b s)
space_by units s h true e = record {
  marks = ap (λ b. mark b 4 + mark (releases s) 2) e;
  primary = refl;
  secondary = refl;
  fits = (h.primary, h.secondary);
}
space_by units s h false e =
    let none = no_space units s h e in
    record {
      marks = (λ i. mark (e i) 4 + mark (none.release i) 2);
      primary = none.primary;
      secondary = none.secondary;
      fits = tt;
    }

space_of : (units : ℕ) (s : List ℕ) → SetNumbers units s → SpaceRead units s (space_read s)
space_of units s h = space_by units s h (has_space s) refl

pub space_fits : (units : ℕ) (s : List ℕ) → SetNumbers units s → IsSpace (space_read s)
space_fits units s h = (space_of units s h).fits

pub units_fit : (units n : ℕ) → n ≤ units → IsUnits units (number_read n)
units_fit units zero h = tt
units_fit units (suc n) h = subst (IsUnits units) (sym (number_some n)) (omega arith, h)

module _ (l : Layout) (own : all_apart (siot_places l) ≡ true) (units : ℕ) (marks : List (List Bool)) (k d : ℕ) (s : List ℕ) (is : IsRecord s)
    (fine : SiotFine l units marks k d s) where
  abbrev name : Option (List ℕ)
  name = name_read (part s 16 8)

  long : length s ≡ 176
  long = is.size

  name_spelled : part s 16 8 ≡ filled_or_blank 8 name
  name_spelled = name_back 8 (part s 16 8) (part_long s 16 8 (omega (arith, long)))

  marks_by : (n : ℕ) → mark (has_space s) 4 + mark (releases s) 2 ≡ n → byte_at s 24 ≡ mark (is_none name) 1 + n
  marks_by n e = marks_back (byte_at s 24) fine.few_marks ∙ (λ i. mark (sym fine.name.absent i) 1 + e i)

  pub set_siot : (r : List ℕ) → byte_at s 12 ≡ 1 → (all : List StepPlan) → IsVolumeOf all k d s r (volume_read s r) →
      SpellsSiot l (record { name = name; kind = Set (set_read l s r) }) s
  set_siot r e all v =
      let words = fine.words e in
      let numbers = fine.numbers e in
      let space = space_of units s numbers in
      let zeros = used_of l 1 s e fine.unused in
      record {
        kind = e;
        status = sym (status_back (byte_at s 13) words.status_low words.status_high);
        normal = sym (normal_back (byte_at s 14) words.normal);
        conditional = sym (conditional_back (byte_at s 15) words.conditional words.not_passed);
        name = name_spelled;
        marks = marks_by (mark (is_some (space_read s)) 4 + of_space (space_read s) (λ x. mark x.release 2)) space.marks;
        class = set_class l own s is (byte_at s 28 == 3) zeros;
        cards = set_cards l own s is (byte_at s 28 == 3) zeros;
        volume = v.code;
        volume_dd = v.dd;
        primary = space.primary;
        secondary = space.secondary;
        units = sym (number_back (number_at s (field 38 2)));
        unused = all_unused l s fine.unused;
      }

  no_marks : (n : ℕ) → byte_at s 12 ≡ n → (n == 1) ≡ false → mark (has_space s) 4 + mark (releases s) 2 ≡ 0
  no_marks n e other =
      let without = fine.without (ap (λ x. x == 1) e ∙ other) in
      λ i. mark (without.0 i) 4 + mark (without.1 i) 2

  -- a DD of another kind
  other_siot : (kind : DdKind) → set_of kind ≡ None → byte_at s 12 ≡ kind_code kind → (kind_code kind == 1) ≡ false → NoSet l own s is →
      byte_at s 25 ≡ class_of kind → number_at s l.cards ≡ length (cards_of kind) → SpellsSiot l (record { name = name; kind = kind }) s
  other_siot kind no_plan e other none class cards =
      let zero_of : (f : SetPlan → ℕ) → 0 ≡ of_set (set_of kind) f = λ f. ap (λ (o : Option SetPlan). of_set o f) (sym no_plan) in
      let marks_of_set : SetPlan → ℕ = λ p. mark (is_some p.space) 4 + of_space p.space (λ x. mark x.release 2) in
      record {
        kind = e;
        status = none.status ∙ zero_of (λ p. status_code p.status);
        normal = none.normal ∙ zero_of (λ p. normal_code p.normal);
        conditional = none.conditional ∙ zero_of (λ p. conditional_code p.conditional);
        name = name_spelled;
        marks = marks_by (of_set (set_of kind) marks_of_set) (no_marks (kind_code kind) e other ∙ zero_of marks_of_set);
        class = class;
        cards = cards;
        volume = none.volume ∙ zero_of (λ p. volume_code p.volume);
        volume_dd = none.dd ∙ ap volume_dd_of (sym no_plan);
        primary = none.primary ∙ zero_of (λ p. of_space p.space (λ x. x.primary));
        secondary = none.secondary ∙ zero_of (λ p. of_space p.space (λ x. x.secondary));
        units = none.listed ∙ zero_of (λ p. or_zero p.units);
        unused = all_unused l s fine.unused;
      }

  pub sysout_siot : byte_at s 12 ≡ 3 → SpellsSiot l (record { name = name; kind = Sysout (byte_at s 25) }) s
  sysout_siot e =
      let zeros = used_of l 3 s e fine.unused in
      other_siot (Sysout (byte_at s 25)) refl e refl (no_set l own s is true false zeros) refl (no_cards l own s is true zeros)

  pub dummy_siot : byte_at s 12 ≡ 2 → SpellsSiot l (record { name = name; kind = Dummy }) s
  dummy_siot e =
      let zeros = used_of l 2 s e fine.unused in
      other_siot Dummy refl e refl (no_set l own s is false false zeros) (no_class l own s is false zeros) (no_cards l own s is false zeros)

  pub cards_siot : byte_at s 12 ≡ 4 → (cards : List (List ℕ)) → number_at s l.cards ≡ length cards →
      SpellsSiot l (record { name = name; kind = Cards cards }) s
  cards_siot e cards count =
      let zeros = used_of l 4 s e fine.unused in
      other_siot (Cards cards) refl e refl (no_set l own s is false true zeros) (no_class l own s is true zeros) count
