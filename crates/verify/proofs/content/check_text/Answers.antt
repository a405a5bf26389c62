-- `verify::content::check_text` meets its contract: in strict mode UTF-8, then no NUL.
use Rattle.verify.proofs.ContentLaws.{loose_text, strict_text}
use Rattle.verify.proofs.content.check_text.Goals as goal

pub returns-then-strict : goal.returns-then-strict
returns-then-strict c =
    strict_text _ _ c.check_bytes-bytes.ensures c.if-strict.true c.check_no_nul-nul.ensures c.in_turn.ensures

pub returns : goal.returns
returns c = loose_text _ _ c.check_bytes-bytes.ensures c.if-strict.false
