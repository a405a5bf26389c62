-- `texts::skip_most` meets its contract: it is under a window long, its last window has no newline, or it was passed up to there.
use Rattle.rules.proofs.Basics.{◌≡◌, ◌+◌, ◌-◌, length, arith, rules}
use borrow.Author.Tests.{tests}
use Rattle.texts.proofs.Chunks.{none_passed, clear_passed, windows_passed}
use Rattle.texts.proofs.skip_most.Goals as goal

pub returns-then-v-lt-WINDOW : goal.returns-then-v-lt-WINDOW
returns-then-v-lt-WINDOW c = none_passed _

pub returns-then-is_clear : goal.returns-then-is_clear
returns-then-is_clear c =
    let one = c.clear_windows-chunks.ensures in
    let two = c.clear_windows-at.ensures in
    let p = windows_passed (λ b p. search (rules, tests)) one.clear one.inside.1 two.clear two.inside.0 two.inside.1 in
    let e : length c.args.v.now - 8 + 8 ≡ length c.args.v.now = omega arith in
    let last = rw e at (c.is_clear.ensures.says c.if-is_clear.true) in
    clear_passed (λ b p. search (rules, tests)) p last (omega arith) two.inside.1 (omega arith)

pub returns : goal.returns
returns c =
    let one = c.clear_windows-chunks.ensures in
    let two = c.clear_windows-at.ensures in
    windows_passed (λ b p. search (rules, tests)) one.clear one.inside.1 two.clear two.inside.0 two.inside.1
