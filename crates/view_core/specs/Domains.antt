-- A part of a job's path is led over from a plain view.
use Rattle.std.specs.Prelude.{ℕ, ◌+◌, List}
use Rattle.disp_core.specs.Courses.{fixed_by}
use Rattle.jcl_meaning.specs.Views.{View}
use Rattle.view_domain.specs.declared.crossed.Crossed.{Crossed}
use Rattle.view_domain.specs.Crossings.{IsCrossed}
use Rattle.view_core.specs.declared.domain.PlainDomain.{PlainDomain}
use Rattle.view_core.specs.declared.scene.PlainView.{PlainView}
use Rattle.view_core.specs.PlainViews.{shown_by}

-- what a view of the domain means before a part
abbrev pub shown_before : PlainDomain → ℕ → PlainView → View
shown_before domain part v = shown_by domain.plan.now domain.given.date part v

-- it comes to this, whatever views stand behind the part
abbrev pub IsLedOver : PlainDomain → ℕ → PlainView → Crossed PlainView → Type 0
IsLedOver domain part v crossed = (there : List View) →
    IsCrossed (shown_before domain (part + 1)) domain.plan.now (fixed_by domain.given) part there (shown_before domain part v) crossed
