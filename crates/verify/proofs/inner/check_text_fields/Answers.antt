-- `verify::inner::check_text_fields` meets its contract: a 16 first, or none.
use Rattle.rules.proofs.Basics.{◌≡◌, ◌<◌, [], get_or, arith}
use Rattle.verify.specs.Said.{verdict}
use Rattle.verify.proofs.SeenLaws.{no_style}
use Rattle.verify.proofs.inner.check_text_fields.Goals as goal
use Rattle.verify.proofs.inner.check_text_fields.Goals.{else-from-end-via-then-from-end+else-s-from-eq16, else-from-end-via-else-from-end}

pub returns-then-is_styled : goal.returns-then-is_styled
returns-then-is_styled c d = unfold verdict in c.is_styled.ensures.says c.if-is_styled.true d _ c.requires

pub returns : goal.returns
returns c d =
    c.check_last.ensures d 0 [] (no_style (λ (l : c.args.from < c.args.end) (e : get_or c.args.s.now c.args.from 0 ≡ 16).
    elim c.else-from-end.branch [ else-from-end-via-then-from-end+else-s-from-eq16 h ↦ h.if-s-from-eq16.false e | else-from-end-via-else-from-end h ↦ omega (arith, h.if-from-end.false) ]))
