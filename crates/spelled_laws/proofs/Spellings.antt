-- Two records that spell the same, and name the same records, agree but for what is open.
use Rattle.std.proofs.Common.{◌≡◌, ◌+◌, ◌++◌, ℕ, true, false, List, [], ◌∷◌, sym, ◌∙◌}
use Rattle.std.specs.List.{list_any}
use Rattle.std.proofs.lemmas.Bool.{or_left, or_right}
use Rattle.jcl_plan.specs.declared.plan.DdPlan.{DdPlan}
use Rattle.jcl_plan.specs.declared.plan.JobPlan.{JobPlan}
use Rattle.jcl_plan.specs.declared.plan.SetPlan.{SetPlan}
use Rattle.jcl_plan.specs.declared.plan.StepPlan.{StepPlan}
use Rattle.cb_meaning.specs.declared.layout.Field.{Field}
use Rattle.cb_meaning.specs.declared.layout.Layout.{Layout}
use Rattle.cb_meaning.specs.Fields.{byte_at, field, is_in, number_at, part}
use Rattle.cb_meaning.specs.Spelled.{SpellsCards, SpellsJct, SpellsJfcb, SpellsSct, SpellsSiot, card_fields, common, jct_fields, jfcb_fields, sct_fields, status_bytes}
use Rattle.walk_laws.specs.WalkLaws.{IsRecord}
use Rattle.world_meaning.specs.Records.{AgreeBut}
use Rattle.world_laws.proofs.Bytes.{opened}
use Rattle.spelled_laws.proofs.Agreement.{Fine, agree_by, by_byte, by_number, by_open, by_part, by_two}

-- records of bytes of one kind and one owner
module _ (l : Layout) (r s : List ℕ) (whole : IsRecord r) (whole_too : IsRecord s) (kind : byte_at s 0 ≡ byte_at r 0)
    (owner : number_at s (field 2 2) ≡ number_at r (field 2 2)) where
  -- with status bytes
  abbrev With : Field → Type 0
  With f = Fine (opened l true) r s whole whole_too f

  -- a number, a text, a byte, and a field behind another
  number : (f : Field) → number_at s f ≡ number_at r f → With f
  number f e = by_number (opened l true) r s whole whole_too f e

  text : (at width : ℕ) → part s at width ≡ part r at width → With (field at width)
  text at width e = by_part (opened l true) r s whole whole_too (field at width) e

  byte : (at : ℕ) → byte_at s at ≡ byte_at r at → With (field at 1)
  byte at e = by_byte (opened l true) r s whole whole_too at e

  two : (at one other : ℕ) → With (field at one) → With (field (at + one) other) → With (field at (one + other))
  two at one other f g = by_two (opened l true) r s whole whole_too at one other f g

  -- what is open
  link : With l.link
  link = by_open (opened l true) r s whole whole_too l.link (λ k is. or_left (is_in l.link k) (list_any (λ g. is_in g k) (status_bytes ∷ [])) is)

  status : With status_bytes
  status = by_open (opened l true) r s whole whole_too status_bytes
      (λ k is. or_right (is_in l.link k) (list_any (λ g. is_in g k) (status_bytes ∷ [])) (or_left (is_in status_bytes k) false is))

  -- JCT
  pub jct_agrees : (plan : JobPlan) → SpellsJct l plan r → SpellsJct l plan s → number_at s l.first_step ≡ number_at r l.first_step →
      AgreeBut (opened l true) r s
  jct_agrees plan a b first =
      let codes : With (field 8 4) =
      two 8 1 3 (byte 8 (b.layout ∙ sym a.layout)) (two 9 1 2 (byte 9 (b.class ∙ sym a.class))
      (two 10 1 1 (byte 10 (b.priority ∙ sym a.priority)) (byte 11 (b.message_class ∙ sym a.message_class)))) in
      let steps : With l.steps = number l.steps (b.steps ∙ sym a.steps) in
      let name : With (field 16 9) = two 16 8 1 (text 16 8 (b.name ∙ sym a.name)) (byte 24 (b.count ∙ sym a.count)) in
      let tests : With (field 26 24) = text 26 24 (b.tests ∙ sym a.tests) in
      let begins : With l.first_step = number l.first_step first in
      agree_by (opened l true) r s whole whole_too (jct_fields l)
      (byte 0 kind, (number (field 2 2) owner, (link, (codes, (begins, (steps, (name, (tests, (status, tt))))))))) a.unused b.unused

  -- SCT
  pub sct_agrees : (step : StepPlan) → SpellsSct l step r → SpellsSct l step s → number_at s l.next_step ≡ number_at r l.next_step →
      number_at s l.first_dd ≡ number_at r l.first_dd → AgreeBut (opened l true) r s
  sct_agrees step a b next first =
      let behind : With l.next_step = number l.next_step next in
      let begins : With l.first_dd = number l.first_dd first in
      let dds : With l.dds = number l.dds (b.dds ∙ sym a.dds) in
      let codes : With (field 14 2) = two 14 1 1 (byte 14 (b.after_abend ∙ sym a.after_abend)) (byte 15 (b.count ∙ sym a.count)) in
      let names : With (field 16 24) =
      two 16 8 16 (text 16 8 (b.name ∙ sym a.name))
      (two 24 8 8 (text 24 8 (b.procedure_step ∙ sym a.procedure_step)) (text 32 8 (b.program ∙ sym a.program))) in
      let tests : With (field 40 40) = text 40 40 (b.tests ∙ sym a.tests) in
      agree_by (opened l true) r s whole whole_too (sct_fields l)
      (byte 0 kind, (number (field 2 2) owner, (link, (behind, (begins, (dds, (codes, (names, (tests, (status, tt)))))))))) a.unused b.unused

  -- SIOT
  pub siot_agrees : (dd : DdPlan) → SpellsSiot l dd r → SpellsSiot l dd s → number_at s l.next_dd ≡ number_at r l.next_dd →
      number_at s l.below ≡ number_at r l.below → AgreeBut (opened l true) r s
  siot_agrees dd a b next below =
      let behind : With l.next_dd = number l.next_dd next in
      let begins : With l.below = number l.below below in
      let codes : With (field 12 4) =
      two 12 1 3 (byte 12 (b.kind ∙ sym a.kind)) (two 13 1 2 (byte 13 (b.status ∙ sym a.status))
      (two 14 1 1 (byte 14 (b.normal ∙ sym a.normal)) (byte 15 (b.conditional ∙ sym a.conditional)))) in
      let name : With (field 16 10) =
      two 16 8 2 (text 16 8 (b.name ∙ sym a.name)) (two 24 1 1 (byte 24 (b.marks ∙ sym a.marks)) (byte 25 (b.class ∙ sym a.class))) in
      let cards : With l.cards = number l.cards (b.cards ∙ sym a.cards) in
      let volume : With (field 28 1) = byte 28 (b.volume ∙ sym a.volume) in
      let space : With (field 30 10) =
      two 30 4 6 (text 30 4 (b.volume_dd ∙ sym a.volume_dd)) (two 34 2 4 (number (field 34 2) (b.primary ∙ sym a.primary))
      (two 36 2 2 (number (field 36 2) (b.secondary ∙ sym a.secondary)) (number (field 38 2) (b.units ∙ sym a.units)))) in
      agree_by (opened l true) r s whole whole_too
      (common l ++ l.next_dd ∷ l.below ∷ field 12 4 ∷ field 16 10 ∷ l.cards ∷ field 28 1 ∷ field 30 10 ∷ status_bytes ∷ [])
      (byte 0 kind, (number (field 2 2) owner, (link, (behind, (begins, (codes, (name, (cards, (volume, (space, (status, tt)))))))))))
      a.unused b.unused

  -- without status bytes
  abbrev Without : Field → Type 0
  Without f = Fine (opened l false) r s whole whole_too f

  bare_number : (f : Field) → number_at s f ≡ number_at r f → Without f
  bare_number f e = by_number (opened l false) r s whole whole_too f e

  bare_text : (at width : ℕ) → part s at width ≡ part r at width → Without (field at width)
  bare_text at width e = by_part (opened l false) r s whole whole_too (field at width) e

  bare_byte : (at : ℕ) → byte_at s at ≡ byte_at r at → Without (field at 1)
  bare_byte at e = by_byte (opened l false) r s whole whole_too at e

  bare_two : (at one other : ℕ) → Without (field at one) → Without (field (at + one) other) → Without (field at (one + other))
  bare_two at one other f g = by_two (opened l false) r s whole whole_too at one other f g

  bare_link : Without l.link
  bare_link = by_open (opened l false) r s whole whole_too l.link (λ k is. or_left (is_in l.link k) false is)

  -- JFCB
  pub jfcb_agrees : (p : SetPlan) → SpellsJfcb l p r → SpellsJfcb l p s → AgreeBut (opened l false) r s
  jfcb_agrees p a b =
      let names : Without (field 8 98) =
      bare_two 8 1 97 (bare_byte 8 (b.kind ∙ sym a.kind)) (bare_two 9 3 94 (bare_text 9 3 (b.relative ∙ sym a.relative))
      (bare_two 12 44 50 (bare_text 12 44 (b.name ∙ sym a.name)) (bare_two 56 6 44 (bare_text 56 6 (b.serial ∙ sym a.serial))
      (bare_text 62 44 (b.reference ∙ sym a.reference))))) in
      let said : Without l.expiry_kind = bare_number l.expiry_kind (b.expiry_kind ∙ sym a.expiry_kind) in
      let days : Without l.expiry_days = bare_number l.expiry_days (b.expiry_days ∙ sym a.expiry_days) in
      agree_by (opened l false) r s whole whole_too (jfcb_fields l)
      (bare_byte 0 kind, (bare_number (field 2 2) owner, (bare_link, (names, (said, (days, tt)))))) a.unused b.unused

  -- cards
  pub cards_agree : (here : List (List ℕ)) → SpellsCards l here r → SpellsCards l here s → number_at s l.next_cards ≡ number_at r l.next_cards →
      AgreeBut (opened l false) r s
  cards_agree here a b next =
      let behind : Without l.next_cards = bare_number l.next_cards next in
      let count : Without (field 10 1) = bare_byte 10 (b.count ∙ sym a.count) in
      let cards : Without (field 16 160) = bare_text 16 160 (b.cards ∙ sym a.cards) in
      agree_by (opened l false) r s whole whole_too (card_fields l)
      (bare_byte 0 kind, (bare_number (field 2 2) owner, (bare_link, (behind, (count, (cards, tt)))))) a.unused b.unused
