-- Page bytes made here and copied ones, filled in: laws of `fill` where a byte stands for itself.
use Rattle.rules.proofs.Basics.{◌≡◌, refl, ap, List, [], ◌∷◌, ◌++◌, ℕ}
use Rattle.rules.specs.Lines.{Out, made, copied}
use Rattle.rules.specs.Plain.{fill}
use Rattle.rules.specs.Html.{makes, copies}
use Rattle.rules.specs.Answers.{itself}

pub fill_append : (os ps : List (Out ℕ)) → fill itself (os ++ ps) ≡ fill itself os ++ fill itself ps
unfolding fill
fill_append [] ps = refl
fill_append (made b ∷ os) ps = ap (b ∷◌) (fill_append os ps)
fill_append (copied b ∷ os) ps = ap (b ∷◌) (fill_append os ps)

pub fill_makes : (bs : List ℕ) → fill itself (makes bs) ≡ bs
unfolding fill makes
fill_makes [] = refl
fill_makes (b ∷ bs) = ap (b ∷◌) (fill_makes bs)

pub fill_copies : (bs : List ℕ) → fill itself (copies bs) ≡ bs
unfolding fill copies
fill_copies [] = refl
fill_copies (b ∷ bs) = ap (b ∷◌) (fill_copies bs)
