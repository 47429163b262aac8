-- Equal parts of stores.
use Rattle.std.proofs.Common.{List, refl, sym, ◌∙◌}
use Rattle.jcl_meaning.specs.declared.names.HeldName.{HeldName}
use Rattle.jcl_meaning.specs.Parts.{SamePart}
use Rattle.jcl_meaning.specs.Stores.{Store}

pub part_same : (names : List HeldName) (s : Store) → SamePart names s s
part_same names s = record { named = λ name serial h. refl; temporary = λ name serial. refl; unnamed = λ step dd serial. refl; catalog = λ name. refl }

pub part_back : (names : List HeldName) (s t : Store) → SamePart names s t → SamePart names t s
part_back names s t p = record {
  named = λ name serial h. sym (p.named name serial h);
  temporary = λ name serial. sym (p.temporary name serial);
  unnamed = λ step dd serial. sym (p.unnamed step dd serial);
  catalog = λ name. sym (p.catalog name);
}

pub part_along : (names : List HeldName) (s t u : Store) → SamePart names s t → SamePart names t u → SamePart names s u
part_along names s t u p q = record {
  named = λ name serial h. p.named name serial h ∙ q.named name serial h;
  temporary = λ name serial. p.temporary name serial ∙ q.temporary name serial;
  unnamed = λ step dd serial. p.unnamed step dd serial ∙ q.unnamed step dd serial;
  catalog = λ name. p.catalog name ∙ q.catalog name;
}
