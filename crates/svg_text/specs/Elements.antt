-- Elements of XML, and their text. (XML 1.0, sections 2.4, 3.1)
use Rattle.std.specs.Prelude.{ℕ, Bool, ◌||◌, ◌&&◌, ◌==◌, nat_le, List, [], ◌∷◌, ◌++◌, codes, if◌then◌else◌}
use Rattle.std.specs.List.{flat_map}

-- a byte that is written as it is, or stands as an entity: the line end, and what is printable in ASCII
abbrev pub is_shown : ℕ → Bool
is_shown b = b == 10 || (nat_le 32 b && nat_le b 126)

-- the text that stands for a byte: the entities of XML's marks, and a question mark for what is not shown
abbrev pub byte_text : ℕ → List ℕ
byte_text b =
    if b == 38 then codes "&amp;"
    else (if b == 60 then codes "&lt;"
    else (if b == 62 then codes "&gt;"
    else (if b == 34 then codes "&quot;"
    else (if is_shown b then b ∷ [] else codes "?"))))

abbrev pub escaped : List ℕ → List ℕ
escaped text = flat_map byte_text text

pub record Attribute : Type 0 where
  pub name : List ℕ
  pub value : List ℕ

mutual
  -- its name, its attributes, and what stands between its tags
  pub data Element : Type 0 where
    element : List ℕ → List Attribute → Content → Element

  -- texts and elements, in order
  pub data Content : Type 0 where
    nothing : Content
    text : List ℕ → Content → Content
    child : Element → Content → Content

abbrev pub attribute_text : Attribute → List ℕ
attribute_text a = codes " " ++ a.name ++ codes "=\"" ++ escaped a.value ++ codes "\""

abbrev pub attributes_text : List Attribute → List ℕ
attributes_text attributes = flat_map attribute_text attributes

abbrev mutual
  pub element_text : Element → List ℕ
  element_text (element name attributes content) =
      codes "<" ++ name ++ attributes_text attributes ++ codes ">" ++ content_text content ++ codes "</" ++ name ++ codes ">"

  pub content_text : Content → List ℕ
  content_text nothing = []
  content_text (text t rest) = escaped t ++ content_text rest
  content_text (child e rest) = element_text e ++ content_text rest
