-- `pages::quick::one_line` meets its contract: the bytes are some, and lack a newline.
use Rattle.pages.proofs.ShortTexts.{a_line}
use Rattle.pages.proofs.quick.one_line.Goals as goal

pub returns-then-from-to : goal.returns-then-from-to
returns-then-from-to c e = a_line _ _ _ c.requires c.if-from-to.true (c.lacks.ensures.says e)
