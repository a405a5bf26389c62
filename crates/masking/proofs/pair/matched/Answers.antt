-- `masking::pair::matched` meets its contract: 12, then 13.
use Rattle.rules.proofs.Basics.{refl}
use Rattle.pairs.specs.Pair.{said, refusal}
use Rattle.masking.proofs.PairLaws.{not_all, not_as_long, all_same}
use Rattle.masking.proofs.pair.matched.Goals.{then-d-mask-via-then-d-mask, then-d-mask-via-else-d-mask+then-d-original}
use Rattle.masking.proofs.pair.matched.Goals as goal

pub returns-then-d-mask : goal.returns-then-d-mask
unfolding said refusal
returns-then-d-mask c =
    elim c.then-d-mask.branch [
      | then-d-mask-via-then-d-mask w ↦ not_all _ _ _ c.difference-d.ensures refl w.if-d-mask.true
      | then-d-mask-via-else-d-mask+then-d-original w ↦ not_as_long _ _ _ c.difference-d.ensures refl refl w.if-d-mask.false w.if-d-original.true
    ]

pub returns : goal.returns
returns c =
    all_same _ _ _ c.difference-d.ensures refl refl c.if-d-mask.false c.if-d-original.false c.text_there.ensures
