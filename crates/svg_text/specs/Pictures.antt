-- The elements of a picture. (SVG 1.1: rect, line, polyline, text, title, g, pattern, svg)
use Rattle.std.specs.Prelude.{ℕ, List, [], ◌∷◌, ◌++◌, codes, decimal, Option, Some, None}
use Rattle.std.specs.List.{flat_map}
use Rattle.svg_text.specs.Elements.{Attribute, Element, element, Content, nothing, text, child, attribute_text, attributes_text, content_text, element_text, escaped}
use Rattle.svg_text.specs.declared.shape.Point.{Point}
use Rattle.svg_text.specs.declared.shape.Size.{Size}
use Rattle.svg_text.specs.declared.shape.Form.{Form}
use Rattle.svg_text.specs.declared.shape.Form.TheVariants as form
use Rattle.svg_text.specs.declared.shape.Mark.{Mark}
use Rattle.svg_text.specs.declared.shape.Group.{Group}
use Rattle.svg_text.specs.declared.shape.Head.{Head}
use Rattle.svg_text.specs.declared.shape.Head.TheVariants as head
use Rattle.svg_text.specs.declared.shape.Picture.{Picture}

abbrev pub said : List ℕ → List ℕ → Attribute
said name value = record { name = name; value = value }

abbrev pub counted : List ℕ → ℕ → Attribute
counted name n = said name (decimal n)

abbrev pub class_of : List ℕ → Attribute
class_of class = said (codes "class") class

-- what a viewer tells of an element, before what else is in it
abbrev pub titled : Option (List ℕ) → Content → Content
titled None rest = rest
titled (Some title) rest = child (element (codes "title") [] (text title nothing)) rest

-- two numbers
abbrev pub pair_text : List ℕ → ℕ → List ℕ → ℕ → List ℕ
pair_text first m second n = attribute_text (counted first m) ++ attribute_text (counted second n)

-- an element on a line of its own
abbrev pub line_text : Element → List ℕ
line_text e = element_text e ++ codes "\n"

-- a point of a line, with a blank
abbrev pub point_text : Point → List ℕ
point_text p = decimal p.x ++ codes "," ++ decimal p.y ++ codes " "

abbrev pub points_text : List Point → List ℕ
points_text ps = flat_map point_text ps

abbrev pub form_name : Form → List ℕ
form_name (form.Rectangle at size) = codes "rect"
form_name (form.Line from to) = codes "line"
form_name (form.Polyline points) = codes "polyline"
form_name (form.Text at t) = codes "text"

-- where it is
abbrev pub form_attributes : Form → List Attribute
form_attributes (form.Rectangle at size) =
    counted (codes "x") at.x ∷ counted (codes "y") at.y ∷ counted (codes "width") size.width ∷ counted (codes "height") size.height ∷ []
form_attributes (form.Line from to) =
    counted (codes "x1") from.x ∷ counted (codes "y1") from.y ∷ counted (codes "x2") to.x ∷ counted (codes "y2") to.y ∷ []
form_attributes (form.Polyline points) = said (codes "points") (points_text points) ∷ []
form_attributes (form.Text at t) = counted (codes "x") at.x ∷ counted (codes "y") at.y ∷ []

-- a start tag without its end
abbrev pub start_text : List ℕ → Form → List ℕ
start_text class f = codes "<" ++ form_name f ++ attributes_text (class_of class ∷ form_attributes f)

-- the text that is drawn
abbrev pub form_content : Form → Content
form_content (form.Rectangle at size) = nothing
form_content (form.Line from to) = nothing
form_content (form.Polyline points) = nothing
form_content (form.Text at t) = text t nothing

abbrev pub mark_element : Mark → Element
mark_element m = element (form_name m.form) (class_of m.class ∷ form_attributes m.form) (titled m.title (form_content m.form))

-- each on a line of its own
abbrev pub marks_content : List Mark → Content
marks_content [] = nothing
marks_content (m ∷ ms) = child (mark_element m) (text (codes "\n") (marks_content ms))

abbrev pub head_name : Head → List ℕ
head_name (head.Plain class title) = codes "g"
head_name (head.Pattern name size) = codes "pattern"

abbrev pub head_attributes : Head → List Attribute
head_attributes (head.Plain class title) = class_of class ∷ []
head_attributes (head.Pattern name size) =
    said (codes "id") name ∷ said (codes "patternUnits") (codes "userSpaceOnUse") ∷ counted (codes "width") size.width
    ∷ counted (codes "height") size.height ∷ []

abbrev pub head_title : Head → Option (List ℕ)
head_title (head.Plain class title) = title
head_title (head.Pattern name size) = None

abbrev pub group_element : Group → Element
group_element g = element (head_name g.head) (head_attributes g.head) (titled (head_title g.head) (marks_content g.marks))

abbrev pub groups_content : List Group → Content
groups_content [] = nothing
groups_content (g ∷ gs) = child (group_element g) (text (codes "\n") (groups_content gs))

abbrev pub box_text : Size → List ℕ
box_text size = codes "0 0 " ++ decimal size.width ++ codes " " ++ decimal size.height

-- the part of the plane that is shown
abbrev pub view_box : Size → Attribute
view_box size = said (codes "viewBox") (box_text size)

abbrev pub svg_attributes : Size → List Attribute
svg_attributes size =
    said (codes "xmlns") (codes "http://www.w3.org/2000/svg") ∷ counted (codes "width") size.width ∷ counted (codes "height") size.height
    ∷ view_box size ∷ []

-- an element that has a text alone
abbrev pub text_element : List ℕ → List ℕ → Element
text_element name t = element name [] (text t nothing)

-- its title, its style, and its groups
abbrev pub picture_element : Picture → Element
picture_element p =
    element (codes "svg") (svg_attributes p.size)
    (child (text_element (codes "title") p.title)
    (child (text_element (codes "style") p.style)
    (text (codes "\n") (groups_content p.groups))))

abbrev pub picture_text : Picture → List ℕ
picture_text p = element_text (picture_element p) ++ codes "\n"

-- what stands after the attributes of an element that has a title and this text
abbrev pub rest_text : List ℕ → Option (List ℕ) → List ℕ → List ℕ
rest_text name title t = codes ">" ++ content_text (titled title nothing) ++ escaped t ++ codes "</" ++ name ++ codes ">"

-- what stands before the shapes of a group, and behind them
abbrev pub head_text : Head → List ℕ
head_text h = codes "<" ++ head_name h ++ attributes_text (head_attributes h) ++ codes ">" ++ content_text (titled (head_title h) nothing)

abbrev pub tail_text : Head → List ℕ
tail_text h = codes "</" ++ head_name h ++ codes ">\n"

-- what stands before the groups
abbrev pub top_text : Picture → List ℕ
top_text p =
    codes "<svg" ++ attributes_text (svg_attributes p.size) ++ codes ">" ++ element_text (text_element (codes "title") p.title)
    ++ element_text (text_element (codes "style") p.style) ++ codes "\n"
