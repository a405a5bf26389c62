-- `digits::Numeral::push_fraction` meets its contract.
use Rattle.rules.proofs.Basics.{◌∙◌, ap, List, ℕ, ◌++◌, ◌∷◌, length, arith}
use Rattle.digits.proofs.Gathered.{point, no_point, places_length}
use Rattle.digits.proofs.Numeral.push_fraction.Goals as goal

pub push-requires : goal.push-requires
push-requires c = omega (arith, ap length c.push_places-left.ensures.1, places_length c.args.places c.args.n c.args.self.now)

pub returns-then-places-gt0 : goal.returns-then-places-gt0
returns-then-places-gt0 c =
    let text = c.args.self.now in
    (c.push_places-left.ensures.0, c.push.ensures ∙ ap (46 ∷◌) c.push_places-left.ensures.1 ∙ ap (λ (l : List ℕ). l ++ text) (point _ _ c.if-places-gt0.true))

pub returns-else-places-gt0 : goal.returns-else-places-gt0
returns-else-places-gt0 c =
    let text = c.args.self.now in
    (c.push_places-left.ensures.0, c.push_places-left.ensures.1 ∙ ap (λ (l : List ℕ). l ++ text) (no_point _ _ c.if-places-gt0.false))
