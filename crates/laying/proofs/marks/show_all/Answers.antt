-- `laying::marks::show_all` meets its contract: no mark, or word by word. The loop's invariant: `InWords`.
use Rattle.rules.proofs.Basics.{rules, length, ◌≡◌}
use Rattle.laying.proofs.ShownLaws.{words_end, nothing_shown}
use Rattle.laying.proofs.marks.show_all.Goals as goal

pub returns-then-all_marks-eq0 : goal.returns-then-all_marks-eq0
returns-then-all_marks-eq0 c =
    let l : length c.args.bits.now ≡ 938 = search rules in
    nothing_shown _ _ l c.requires c.div_ceil.ensures c.all_marks.ensures c.if-all_marks-eq0.true

pub returns : goal.returns
returns c = let l : length c.args.bits.now ≡ 938 = search rules in words_end c.loop-i.invariant c.requires l c.div_ceil.ensures c.loop-i-test.false
