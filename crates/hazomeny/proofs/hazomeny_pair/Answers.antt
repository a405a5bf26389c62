-- `hazomeny::hazomeny_pair` meets its contract: the answer in one number, which fits 64 bits.
use Rattle.rules.proofs.Basics.{arith, refl, ap, ◌∙◌}
use Rattle.rules.specs.Answers.{coded}
use Rattle.answers.proofs.Turned.{turned}
use Rattle.pairs.specs.Pair.{said}
use Rattle.hazomeny.proofs.Fits.{pair_fits}
use Rattle.hazomeny.proofs.hazomeny_pair.Goals as goal

pub in_one-requires : goal.in_one-requires
unfolding said
in_one-requires c =
    pair_fits _ _ _ (turned said (λ n. refl) _ _ c.map_err.ensures.cases ∙ c.check_texts.ensures) (omega arith) (λ i. omega (arith, c.type_inv.original i)) (λ i. omega (arith, c.type_inv.mask i))

pub returns : goal.returns
unfolding said
returns c = c.in_one.ensures ∙ ap coded (turned said (λ n. refl) _ _ c.map_err.ensures.cases ∙ c.check_texts.ensures)
