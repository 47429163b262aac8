-- Writes, one after another.
use Rattle.std.proofs.Common.{◌≡◌, ℕ, ◌+◌, ◌-◌, ◌≤◌, List, [], ◌++◌, length, take, drop, Option, None, Some, refl, sym, ap, subst, ◌∙◌, append_assoc, arith, length-drop}
use Rattle.std.specs.Io.KnownBytes.{Appends}
use Rattle.std.proofs.Math.Seq.{take-add}
use Rattle.std.proofs.lemmas.List.{append-nil, take_all, take-append-drop}
use Rattle.svg_text.specs.Writing.{GivesFront, Puts}

pub given_none : (a : Option (List ℕ)) → Appends a a []
given_none None = tt
given_none (Some a) = sym (append-nil a)

pub given_twice : (a b c : Option (List ℕ)) (xs ys : List ℕ) → Appends a b xs → Appends b c ys → Appends a c (xs ++ ys)
given_twice None b c xs ys first then = tt
given_twice (Some a) None c xs ys first then = absurd first
given_twice (Some a) (Some b) None xs ys first then = absurd then
given_twice (Some a) (Some b) (Some c) xs ys first then = then ∙ ap (λ z. z ++ ys) first ∙ append_assoc a xs ys

-- what a call took of the rest of a text
pub given_more : (at count : ℕ) (text : List ℕ) → take at text ++ take count (take (length text - at) (drop at text)) ≡ take (at + count) text
given_more at count text =
    ap (λ rest. take at text ++ take count rest) (take_all (length text - at) (drop at text) (omega (arith, length-drop at text))) ∙ sym (take-add at count text)

pub still_within : (at count : ℕ) (text : List ℕ) → at ≤ length text → count ≤ length (take (length text - at) (drop at text)) → at + count ≤ length text
still_within at count text low high =
    let rest = ap length (take_all (length text - at) (drop at text) (omega (arith, length-drop at text))) in
    omega (arith, length-drop at text)

-- nothing was given yet
pub front_of_none : (a : Option (List ℕ)) (text : List ℕ) → GivesFront a a text
front_of_none a text = record { given = []; rest = text; appends = given_none a; front = refl }

pub front_at : (a b c : Option (List ℕ)) (at : ℕ) (text : List ℕ) → Appends a b (take at text) → Appends b c [] → GivesFront a c text
front_at a b c at text given none = record {
  given = take at text ++ [];
  rest = drop at text;
  appends = given_twice a b c (take at text) [] given none;
  front = sym (ap (λ xs. xs ++ drop at text) (append-nil (take at text)) ∙ take-append-drop at text);
}

-- a text is held
pub put_held : (a : Option (List ℕ)) (held text after : List ℕ) → after ≡ held ++ text → Puts a a held after text
put_held a held text after same = record { given = []; appends = given_none a; same = sym same }

-- all that was held is given
pub put_all : (a b : Option (List ℕ)) (held text all after : List ℕ) → all ≡ held ++ text → Appends a b all → after ≡ [] → Puts a b held after text
put_all a b held text all after same given none = record {
  given = all;
  appends = given;
  same = sym same ∙ sym (append-nil all) ∙ ap (λ xs. all ++ xs) (sym none);
}

pub put_twice : (a b c : Option (List ℕ)) (x y z t u : List ℕ) → Puts a b x y t → Puts b c y z u → Puts a c x z (t ++ u)
put_twice a b c x y z t u first then = record {
  given = first.given ++ then.given;
  appends = given_twice a b c first.given then.given first.appends then.appends;
  same = sym (append_assoc x t u) ∙ ap (λ xs. xs ++ u) first.same ∙ append_assoc first.given y u
      ∙ ap (λ xs. first.given ++ xs) then.same ∙ sym (append_assoc first.given then.given z);
}

-- a front of a text is one of a longer text
pub front_of_more : (a b : Option (List ℕ)) (x t u : List ℕ) → GivesFront a b (x ++ t) → GivesFront a b (x ++ (t ++ u))
front_of_more a b x t u first = record {
  given = first.given;
  rest = first.rest ++ u;
  appends = first.appends;
  front = sym (append_assoc x t u) ∙ ap (λ xs. xs ++ u) first.front ∙ append_assoc first.given first.rest u;
}

-- a front of what comes behind
pub front_behind : (a b c : Option (List ℕ)) (x y t u : List ℕ) → Puts a b x y t → GivesFront b c (y ++ u) → GivesFront a c (x ++ (t ++ u))
front_behind a b c x y t u first then = record {
  given = first.given ++ then.given;
  rest = then.rest;
  appends = given_twice a b c first.given then.given first.appends then.appends;
  front = sym (append_assoc x t u) ∙ ap (λ xs. xs ++ u) first.same ∙ append_assoc first.given y u
      ∙ ap (λ xs. first.given ++ xs) then.front ∙ sym (append_assoc first.given then.given then.rest);
}

-- three texts that make a whole
pub three_put : (a b c d : Option (List ℕ)) (x y z w t u v whole : List ℕ) → t ++ (u ++ v) ≡ whole → Puts a b x y t → Puts b c y z u → Puts c d z w v → Puts a d x w whole
three_put a b c d x y z w t u v whole e first then last =
    subst (λ xs. Puts a d x w xs) e (put_twice a b d x y w t (u ++ v) first (put_twice b c d y z w u v then last))

pub three_first : (a b : Option (List ℕ)) (x t u v whole : List ℕ) → t ++ (u ++ v) ≡ whole → GivesFront a b (x ++ t) → GivesFront a b (x ++ whole)
three_first a b x t u v whole e first = subst (λ xs. GivesFront a b (x ++ xs)) e (front_of_more a b x t (u ++ v) first)

pub three_second : (a b c : Option (List ℕ)) (x y t u v whole : List ℕ) → t ++ (u ++ v) ≡ whole → Puts a b x y t → GivesFront b c (y ++ u) → GivesFront a c (x ++ whole)
three_second a b c x y t u v whole e first then =
    subst (λ xs. GivesFront a c (x ++ xs)) e (front_behind a b c x y t (u ++ v) first (front_of_more b c y u v then))

pub three_third : (a b c d : Option (List ℕ)) (x y z t u v whole : List ℕ) → t ++ (u ++ v) ≡ whole → Puts a b x y t → Puts b c y z u → GivesFront c d (z ++ v) → GivesFront a d (x ++ whole)
three_third a b c d x y z t u v whole e first then last =
    subst (λ xs. GivesFront a d (x ++ xs)) e (front_behind a b d x y t (u ++ v) first (front_behind b c d y z u v then last))

-- a text that was put with nothing held before, and all that is held is given
pub all_given : (a b c : Option (List ℕ)) (held after text : List ℕ) → held ≡ [] → Puts a b held after text → Appends b c after → Appends a c text
all_given a b c held after text none put given =
    subst (λ xs. Appends a c xs) (sym put.same ∙ ap (λ xs. xs ++ text) none) (given_twice a b c put.given after put.appends given)

pub front_given : (a b c : Option (List ℕ)) (held after text : List ℕ) → held ≡ [] → Puts a b held after text → GivesFront b c after → GivesFront a c text
front_given a b c held after text none put front = record {
  given = put.given ++ front.given;
  rest = front.rest;
  appends = given_twice a b c put.given front.given put.appends front.appends;
  front = sym (ap (λ xs. xs ++ text) none) ∙ put.same ∙ ap (λ xs. put.given ++ xs) front.front ∙ sym (append_assoc put.given front.given front.rest);
}

pub front_unheld : (a b : Option (List ℕ)) (held text : List ℕ) → held ≡ [] → GivesFront a b (held ++ text) → GivesFront a b text
front_unheld a b held text none front = subst (λ xs. GivesFront a b (xs ++ text)) none front
