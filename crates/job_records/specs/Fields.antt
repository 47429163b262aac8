-- What stands in the records of a job, field by field, but for the links of chains. (This profile)
use Rattle.std.specs.Prelude.{ℕ, List}
use Rattle.cb_meaning.specs.declared.layout.Layout.{Layout}
use Rattle.cb_meaning.specs.Fields.{byte_at, field, number_at, part}

pub record JctFields : Type 0 where
  pub message_class : ℕ
  pub first_step : ℕ
  pub steps : ℕ
  pub test_count : ℕ
  pub tests : List ℕ

abbrev pub fields_of_jct : Layout → List ℕ → JctFields
fields_of_jct l r = record {
  message_class = byte_at r 11;
  first_step = number_at r l.first_step;
  steps = number_at r l.steps;
  test_count = byte_at r 24;
  tests = part r 26 24;
}

pub record SctFields : Type 0 where
  pub next : ℕ
  pub first_dd : ℕ
  pub dds : ℕ
  pub after_abend : ℕ
  pub test_count : ℕ
  pub name : List ℕ
  pub procedure_step : List ℕ
  pub program : List ℕ
  pub tests : List ℕ

abbrev pub fields_of_sct : Layout → List ℕ → SctFields
fields_of_sct l r = record {
  next = number_at r l.next_step;
  first_dd = number_at r l.first_dd;
  dds = number_at r l.dds;
  after_abend = byte_at r 14;
  test_count = byte_at r 15;
  name = part r 16 8;
  procedure_step = part r 24 8;
  program = part r 32 8;
  tests = part r 40 40;
}

pub record SiotFields : Type 0 where
  pub next : ℕ
  pub below : ℕ
  pub kind : ℕ
  pub status : ℕ
  pub normal : ℕ
  pub conditional : ℕ
  pub name : List ℕ
  pub marks : ℕ
  pub class : ℕ
  pub cards : ℕ
  pub volume : ℕ
  pub volume_step : ℕ
  pub volume_dd : ℕ
  pub primary : ℕ
  pub secondary : ℕ

abbrev pub fields_of_siot : Layout → List ℕ → SiotFields
fields_of_siot l r = record {
  next = number_at r l.next_dd;
  below = number_at r l.below;
  kind = byte_at r 12;
  status = byte_at r 13;
  normal = byte_at r 14;
  conditional = byte_at r 15;
  name = part r 16 8;
  marks = byte_at r 24;
  class = byte_at r 25;
  cards = number_at r l.cards;
  volume = byte_at r 28;
  volume_step = number_at r (field 30 2);
  volume_dd = number_at r (field 32 2);
  primary = number_at r (field 34 2);
  secondary = number_at r (field 36 2);
}

pub record JfcbFields : Type 0 where
  pub key_kind : ℕ
  pub serial : List ℕ
  pub volume_name : List ℕ
  pub expiry_kind : ℕ
  pub expiry_days : ℕ

abbrev pub fields_of_jfcb : Layout → List ℕ → JfcbFields
fields_of_jfcb l r = record {
  key_kind = byte_at r 8;
  serial = part r 56 6;
  volume_name = part r 62 44;
  expiry_kind = number_at r l.expiry_kind;
  expiry_days = number_at r l.expiry_days;
}

pub record CardsFields : Type 0 where
  pub next : ℕ
  pub count : ℕ
  pub first : List ℕ
  pub second : List ℕ

abbrev pub fields_of_cards : Layout → List ℕ → CardsFields
fields_of_cards l r = record { next = number_at r l.next_cards; count = byte_at r 10; first = part r 16 80; second = part r 96 80 }
