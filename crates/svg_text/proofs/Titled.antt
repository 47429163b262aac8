-- What stands behind a title.
use Rattle.std.proofs.Common.{◌≡◌, ℕ, List, [], ◌++◌, codes, Option, None, Some, refl, sym, ap, ◌∙◌}
use Rattle.std.proofs.lemmas.List.{append-nil}
use Rattle.svg_text.specs.Elements.{Content, nothing, text, content_text, element_text, escaped}
use Rattle.svg_text.specs.Pictures.{titled, text_element}

pub titled_content : (title : Option (List ℕ)) (c : Content) → content_text (titled title c) ≡ content_text (titled title nothing) ++ content_text c
titled_content None c = refl
titled_content (Some title) c = ap (λ xs. xs ++ content_text c) (sym (append-nil (element_text (text_element (codes "title") title))))

pub titled_text : (title : Option (List ℕ)) (t : List ℕ) → content_text (titled title (text t nothing)) ≡ content_text (titled title nothing) ++ escaped t
titled_text title t = titled_content title (text t nothing) ∙ ap (λ xs. content_text (titled title nothing) ++ xs) (append-nil (escaped t))
