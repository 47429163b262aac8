-- The pieces of a picture's text.
use Rattle.std.proofs.Common.{◌≡◌, ℕ, ◌+◌, ◌<◌, suc, List, [], ◌∷◌, ◌++◌, length, drop, get_or, Option, codes, refl, sym, ap, subst, ◌∙◌, append_assoc, add-one, drop-cons}
use Rattle.svg_text.specs.Elements.{attributes_text, content_text, element, element_text, escaped, nothing}
use Rattle.svg_text.specs.Pictures.{class_of, form_attributes, form_content, form_name, mark_element, marks_content, group_element, groups_content, head_name, head_attributes, head_title, head_text, tail_text, titled, top_text, picture_text, svg_attributes, text_element}
use Rattle.svg_text.specs.declared.shape.Point.{Point}
use Rattle.svg_text.specs.declared.shape.Form.{Form}
use Rattle.svg_text.specs.declared.shape.Form.TheVariants as form
use Rattle.svg_text.specs.declared.shape.Mark.{Mark}
use Rattle.svg_text.specs.declared.shape.Group.{Group}
use Rattle.svg_text.specs.declared.shape.Picture.{Picture}
use Rattle.svg_text.proofs.Titled.{titled_content, titled_text}

pub marks_more : (ms : List Mark) (i : ℕ) (m : Mark) → m ≡ get_or ms i m → i < length ms →
    content_text (marks_content (drop i ms)) ≡ (element_text (mark_element m) ++ codes "\n") ++ content_text (marks_content (drop (i + 1) ms))
marks_more ms i m e within =
    let next : drop i ms ≡ m ∷ drop (i + 1) ms =
    drop-cons ms i m within ∙ ap (λ x. x ∷ drop (suc i) ms) (sym e) ∙ ap (λ n. m ∷ drop n ms) (sym (add-one i)) in
    ap (λ xs. content_text (marks_content xs)) next
    ∙ sym (append_assoc (element_text (mark_element m)) (codes "\n") (content_text (marks_content (drop (i + 1) ms))))

pub groups_more : (gs : List Group) (i : ℕ) (g : Group) → g ≡ get_or gs i g → i < length gs →
    content_text (groups_content (drop i gs)) ≡ (element_text (group_element g) ++ codes "\n") ++ content_text (groups_content (drop (i + 1) gs))
groups_more gs i g e within =
    let next : drop i gs ≡ g ∷ drop (i + 1) gs =
    drop-cons gs i g within ∙ ap (λ x. x ∷ drop (suc i) gs) (sym e) ∙ ap (λ n. g ∷ drop n gs) (sym (add-one i)) in
    ap (λ xs. content_text (groups_content xs)) next
    ∙ sym (append_assoc (element_text (group_element g)) (codes "\n") (content_text (groups_content (drop (i + 1) gs))))

regrouped : (a name attributes b title marks c d e : List ℕ) →
    (a ++ name ++ attributes ++ b ++ title) ++ (marks ++ (c ++ name ++ (d ++ e)))
    ≡ (a ++ name ++ attributes ++ b ++ (title ++ marks) ++ c ++ name ++ d) ++ e
regrouped a name attributes b title marks c d e = simp append_assoc

pub group_pieces : (g : Group) → head_text g.head ++ (content_text (marks_content g.marks) ++ tail_text g.head) ≡ element_text (group_element g) ++ codes "\n"
group_pieces g =
    let name = head_name g.head in
    let attributes = attributes_text (head_attributes g.head) in
    let title = content_text (titled (head_title g.head) nothing) in
    let marks = content_text (marks_content g.marks) in
    regrouped (codes "<") name attributes (codes ">") title marks (codes "</") (codes ">") (codes "\n")
    ∙ ap (λ xs. (codes "<" ++ name ++ attributes ++ codes ">" ++ xs ++ codes "</" ++ name ++ codes ">") ++ codes "\n") (sym (titled_content (head_title g.head) (marks_content g.marks)))

picture_regrouped : (a b attributes c title style groups d e f n : List ℕ) →
    (a ++ b ++ attributes ++ c ++ title ++ style ++ n) ++ (groups ++ (d ++ e ++ f ++ n))
    ≡ (a ++ b ++ attributes ++ c ++ (title ++ (style ++ (n ++ groups))) ++ d ++ e ++ f) ++ n
picture_regrouped a b attributes c title style groups d e f n = simp append_assoc

pub picture_pieces : (p : Picture) → top_text p ++ (content_text (groups_content p.groups) ++ codes "</svg>\n") ≡ picture_text p
picture_pieces p =
    picture_regrouped (codes "<") (codes "svg") (attributes_text (svg_attributes p.size)) (codes ">") (element_text (text_element (codes "title") p.title))
    (element_text (text_element (codes "style") p.style)) (content_text (groups_content p.groups)) (codes "</") (codes "svg") (codes ">") (codes "\n")

text_regrouped : (a name attributes b title t c d : List ℕ) →
    (a ++ name ++ attributes) ++ (b ++ title ++ t ++ c ++ name ++ d) ≡ a ++ name ++ attributes ++ b ++ (title ++ t) ++ c ++ name ++ d
text_regrouped a name attributes b title t c d = simp append_assoc

abbrev pub pieces_of_text : List ℕ → Option (List ℕ) → List ℕ → Form → List ℕ
pieces_of_text class title t f =
    (codes "<" ++ form_name f ++ attributes_text (class_of class ∷ form_attributes f))
    ++ (codes ">" ++ content_text (titled title nothing) ++ escaped t ++ codes "</" ++ codes "text" ++ codes ">")

abbrev pub element_of_form : List ℕ → Option (List ℕ) → Form → List ℕ
element_of_form class title f = element_text (element (form_name f) (class_of class ∷ form_attributes f) (titled title (form_content f)))

pub text_pieces : (m : Mark) (at : Point) (t : List ℕ) → m.form ≡ form.Text at t → pieces_of_text m.class m.title t m.form ≡ element_text (mark_element m)
text_pieces m at t e =
    let attributes = attributes_text (class_of m.class ∷ form_attributes (form.Text at t)) in
    let title = content_text (titled m.title nothing) in
    subst (λ f. pieces_of_text m.class m.title t f ≡ element_of_form m.class m.title f) (sym e)
    (text_regrouped (codes "<") (codes "text") attributes (codes ">") title (escaped t) (codes "</") (codes ">")
    ∙ ap (λ xs. codes "<" ++ codes "text" ++ attributes ++ codes ">" ++ xs ++ codes "</" ++ codes "text" ++ codes ">") (sym (titled_text m.title t)))
