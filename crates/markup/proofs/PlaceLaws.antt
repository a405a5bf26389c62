-- The places of a style's decimals are few.
use Rattle.rules.proofs.Basics.{◌≡◌, ap, ◌∙◌, true, false, ℕ, ◌≤◌, arith, ℤ, pos}
use lib.Ieee.{binary32}
use lib.Signed.{◌≤ℤ◌}
use mir.Syntax.{w8}
use mir.Val.{SFits, to_z, of_z}
use mir.Facts.{to_z-of_z}
use Rattle.rules.specs.Search.{shortest}
use Rattle.rules.specs.Sizes.{signed_decimal, em}
use Rattle.rules.specs.Walk.{right_opacity}
use Rattle.digits.specs.declared.Decimal as Code
use Rattle.digits.specs.Said.{decimal_of}
use Rattle.digits.proofs.Figures.{few_places}
use Rattle.opacities.proofs.Bounds.{places_few}
use Rattle.sizes.proofs.EverySize.{accepted}
use Rattle.sizes.proofs.TextLengths.{em_places}

pub opacity_places : (d : Code.Decimal) (bits : ℕ) → decimal_of d ≡ signed_decimal false (shortest binary32 false bits) → right_opacity bits ≡ true → d.places ≤ 20
unfolding signed_decimal
opacity_places d bits e a = let h = places_few bits a in few_places d e (omega (arith, h))

pub em_size_places : (d : Code.Decimal) {z : ℤ} → SFits w8 z → z ≤ℤ pos 117 → decimal_of d ≡ em (to_z w8 (of_z w8 z)) → d.places ≤ 20
em_size_places d {z} f l e = few_places d (e ∙ ap em (to_z-of_z f)) (em_places z (accepted f l))
