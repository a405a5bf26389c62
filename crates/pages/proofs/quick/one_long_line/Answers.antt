-- `pages::quick::one_long_line` meets its contract. The loop's invariant: the windows passed have no newline.
use Rattle.rules.proofs.Basics.{false≢true, arith}
use Rattle.looks.specs.Calm.{Lacks}
use Rattle.pages.proofs.ShortTexts.{a_line, no_windows, window_more}
use Rattle.pages.proofs.quick.one_long_line.Goals as goal

pub returns-then-to-from-lt8 : goal.returns-then-to-from-lt8
returns-then-to-from-lt8 c e = absurd (false≢true e)

pub returns-then-not-lacks : goal.returns-then-not-lacks
returns-then-not-lacks c e = absurd (false≢true e)

pub returns : goal.returns
returns c e =
    let last = c.lacks-2.ensures.says e in
    a_line _ _ _ (omega arith) (omega arith) (window_more c.loop-n.invariant.1 (omega (arith, c.loop-n.invariant.0, c.loop-n-test.false)) last)
