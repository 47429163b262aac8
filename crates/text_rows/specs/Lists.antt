-- Short texts that are compared. (plain)
use Rattle.std.specs.Prelude.{◌≡◌, ◌∷◌, [], true, false, nat_eq, codes}
use Rattle.std.specs.Cmp.Lexicographic.{pointwise, slice_cmp}
use Rattle.std.specs.declared.cmp.Ordering.TheVariants.{Equal, Greater, Less}
use Rattle.std.specs.Ordering.{nat_cmp}

-- As in a dictionary: `Short`'s `cmp` gives this, and its `partial_cmp` the same in `Some`.
pub record OrdersTexts : Type 0 where
  pub both_empty : slice_cmp nat_cmp [] [] ≡ Equal
  pub empty_before_a : slice_cmp nat_cmp [] (codes "A") ≡ Less
  pub a_before_ab : slice_cmp nat_cmp (codes "A") (codes "AB") ≡ Less
  pub ab_before_b : slice_cmp nat_cmp (codes "AB") (codes "B") ≡ Less
  pub b_behind_ab : slice_cmp nat_cmp (codes "B") (codes "AB") ≡ Greater
  pub the_same : slice_cmp nat_cmp (codes "ABC") (codes "ABC") ≡ Equal
  pub last_differs : slice_cmp nat_cmp (codes "ABC") (codes "ABD") ≡ Less
  pub longer_behind : slice_cmp nat_cmp (codes "ABCD") (codes "ABC") ≡ Greater
  pub nul_behind : slice_cmp nat_cmp (codes "A") (65 ∷ 0 ∷ []) ≡ Less

-- `Short`'s `eq` gives this.
pub record TellsSameTexts : Type 0 where
  pub both_empty : pointwise nat_eq [] [] ≡ true
  pub empty_before_a : pointwise nat_eq [] (codes "A") ≡ false
  pub a_before_ab : pointwise nat_eq (codes "A") (codes "AB") ≡ false
  pub ab_before_b : pointwise nat_eq (codes "AB") (codes "B") ≡ false
  pub b_behind_ab : pointwise nat_eq (codes "B") (codes "AB") ≡ false
  pub the_same : pointwise nat_eq (codes "ABC") (codes "ABC") ≡ true
  pub last_differs : pointwise nat_eq (codes "ABC") (codes "ABD") ≡ false
  pub longer_behind : pointwise nat_eq (codes "ABCD") (codes "ABC") ≡ false
  pub nul_behind : pointwise nat_eq (codes "A") (65 ∷ 0 ∷ []) ≡ false
