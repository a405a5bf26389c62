-- `scribe::checks::check_name` meets its contract: UTF-8 comes before the quote.
use Rattle.std.proofs.lemmas.Result.{err_from_is_err_and}
use Rattle.scribe.proofs.CheckLaws.{broken_name, quoted_name, sound_name}
use Rattle.scribe.proofs.checks.check_name.Goals as goal

pub returns-in_err-check_text : goal.returns-in_err-check_text
returns-in_err-check_text c =
    let p = err_from_is_err_and c.from_residual.result c.from_residual.ensures.1 in rw (p.1, p.2) (broken_name _ _ _ c.in_err-check_text.ensures)

pub returns-then-has_byte : goal.returns-then-has_byte
returns-then-has_byte c = quoted_name _ _ c.in_ok-check_text.ensures c.has_byte.ensures c.if-has_byte.true

pub returns : goal.returns
returns c = sound_name _ _ c.in_ok-check_text.ensures c.has_byte.ensures c.if-has_byte.false
