-- A layout, or none.
use Rattle.std.specs.Prelude.{Option, Some, None, true, false, is_some}
use Rattle.rules.proofs.Basics.{◌≡◌, refl, sym, ap, ◌∙◌, false≢true}
use Rattle.rules.proofs.Chains.{no_path}
use Rattle.rules.specs.Layout.{Shape}
use Rattle.shapes.specs.declared.ApproxLayout.{ApproxLayout}
use Rattle.shapes.specs.Shapes.{shape}
use Rattle.laying.specs.Told.{Fine}

module _ {l : ApproxLayout} where
  pub no_layout : {A : Type 0} → ◌≡◌ {A = Option ApproxLayout} None (Some l) → A
  no_layout e = absurd (no_path cc)

  pub is_there : {r : Option ApproxLayout} → r ≡ Some l → r ≡ None → ⊥
  is_there e f = no_layout (sym f ∙ e)

  pub same_layout : {m : ApproxLayout} → ◌≡◌ {A = Option ApproxLayout} (Some l) (Some m) → m ≡ l
  same_layout e = cc

  pub fine : {x : Shape} → shape l ≡ x → Fine (Some l) x
  fine h = record { says = λ m e. ap shape (same_layout e) ∙ h; other = is_there refl }

pub some_there : {r : Option ApproxLayout} → is_some r ≡ true → r ≡ None → ⊥
some_there e f = false≢true (sym (ap is_some f) ∙ e)

pub none_there : (r : Option ApproxLayout) → is_some r ≡ false → r ≡ None
none_there None e = refl
none_there (Some l) e = absurd (false≢true (sym e))
