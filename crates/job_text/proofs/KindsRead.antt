-- A DD that is read as a set is one.
use Rattle.std.proofs.Common.{◌≡◌, refl, ap}
use Rattle.jcl_plan.specs.declared.plan.DdKind.{DdKind}
use Rattle.jcl_plan.specs.declared.plan.DdKind.TheVariants as kind
use Rattle.jcl_plan.specs.declared.plan.SetPlan.{SetPlan}
use Rattle.job_text.specs.Texts.{disp_set, disp_text, put_set, put_text, take_set, take_text}
use Rattle.job_text.specs.declared.texts.DispSet.{DispSet}
use Rattle.job_text.specs.declared.texts.DispText.TheVariants as disp
use Rattle.job_text.specs.declared.texts.PutSet.{PutSet}
use Rattle.job_text.specs.declared.texts.PutText.TheVariants as put
use Rattle.job_text.specs.declared.texts.TakeSet.{TakeSet}
use Rattle.job_text.specs.declared.texts.TakeText.TheVariants as take

pub taken_set_is : (k : DdKind) (t : TakeSet) → take_text k ≡ take.Set t → (p : SetPlan) × (k ≡ kind.Set p) × (take_set p ≡ t)
taken_set_is (kind.Sysout class) t e = absurd cc
taken_set_is kind.Dummy t e = absurd cc
taken_set_is (kind.Cards cards) t e = absurd cc
taken_set_is (kind.Set p) t e = (p, refl, cc)

pub put_set_is : (k : DdKind) (t : PutSet) → put_text k ≡ put.Set t → (p : SetPlan) × (k ≡ kind.Set p) × (put_set p ≡ t)
put_set_is (kind.Sysout class) t e = absurd cc
put_set_is kind.Dummy t e = absurd cc
put_set_is (kind.Cards cards) t e = absurd cc
put_set_is (kind.Set p) t e = (p, refl, cc)

pub disposed_set_is : (k : DdKind) (t : DispSet) → disp_text k ≡ disp.Set t → (p : SetPlan) × (k ≡ kind.Set p) × (disp_set p ≡ t)
disposed_set_is (kind.Sysout class) t e = absurd cc
disposed_set_is kind.Dummy t e = absurd cc
disposed_set_is (kind.Cards cards) t e = absurd cc
disposed_set_is (kind.Set p) t e = (p, refl, cc)
