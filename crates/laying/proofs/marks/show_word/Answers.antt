-- `laying::marks::show_word` meets its contract. The loop's invariant: `InWord`.
use Rattle.rules.proofs.Basics.{arith}
use Rattle.laying.proofs.ShownLaws.{word_turn, word_skip, word_ends, word_past}
use Rattle.laying.proofs.marks.show_word.Goals as goal

pub returns-then-s-at : goal.returns-then-s-at
returns-then-s-at c = let I = c.loop-rest.invariant in (omega (arith, I.few, I.ends), word_past I c.if-s-at.true)

pub loop-rest-preserved-then-rest-eq0 : goal.loop-rest-preserved-then-rest-eq0
loop-rest-preserved-then-rest-eq0 c =
    word_skip c.loop-rest.invariant (omega (arith, c.ranges.word)) c.loop-rest-test.true c.if-rest-eq0.true

pub loop-rest-preserved : goal.loop-rest-preserved
loop-rest-preserved c =
    word_turn c.loop-rest.invariant (omega (arith, c.ranges.word)) c.loop-rest-test.true c.show-n.auto.s c.show-n.ensures

pub returns : goal.returns
returns c = let I = c.loop-rest.invariant in (omega (arith, I.few, I.ends), word_ends I c.loop-rest-test.false)
