-- `digits::Numeral::push` meets its contract: a byte before the text is one more that is put into an array filled from its end.
use Rattle.rules.proofs.Basics.{◌≡◌, refl, ap, ◌∙◌, [], ◌∷◌, ◌+◌, ◌-◌, ◌<◌, arith, length, length-drop, drop}
use Rattle.digits.proofs.Filling.{one_filled}
use Rattle.digits.proofs.Numeral.push.Goals as goal

pub returns : goal.returns
returns c =
    let l = c.self.inside.bytes in
    let from = c.self.inside.from in
    let some : 0 < from = omega (arith, c.requires, ap length c.self.view_is, length-drop from l, c.self.told) in
    let next : from - 1 + 1 ≡ from = omega (arith, some) in
    let text : drop (from - 1 + 1) l ≡ c.args.self.now = ap (λ k. drop k l) next ∙ c.self.view_is in
    (one_filled {whole = c.args.b ∷ c.args.self.now} [] (from - 1) c.args.b refl (omega (arith, some, c.self.invariant)) (record { long = c.self.told; says = ap (λ t. c.args.b ∷ t) text })).says
