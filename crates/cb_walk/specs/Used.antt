-- The fields that an SIOT uses, in a list of one length: in the place of one that it does not use stands a field of no bytes. (This profile)
use Rattle.std.specs.Prelude.{Bool, List, [], ◌∷◌, if◌then◌else◌}
use Rattle.cb_meaning.specs.declared.layout.Field.{Field}
use Rattle.cb_meaning.specs.declared.layout.Layout.{Layout}
use Rattle.cb_meaning.specs.Fields.{field}

abbrev pub field_if : Bool → Field → Field
field_if used f = if used then f else field 0 0

abbrev pub fields_or_none : Layout → Bool → Bool → Bool → Bool → List Field
fields_or_none l set referred sysout cards =
    field 0 1 ∷ field 2 2 ∷ l.link ∷ l.next_dd ∷ field 12 1 ∷ field 16 9 ∷ field 168 8
    ∷ field_if set l.below ∷ field_if set (field 13 3) ∷ field_if set (field 28 1) ∷ field_if set (field 34 6)
    ∷ field_if referred (field 30 4) ∷ field_if sysout (field 25 1) ∷ field_if cards l.below ∷ field_if cards l.cards ∷ []
