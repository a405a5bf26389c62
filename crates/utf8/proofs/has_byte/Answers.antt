-- `utf8::has_byte` meets its contract: the library's `contains` and `has` look at the bytes in turn alike.
use Rattle.rules.proofs.Basics.{◌∙◌}
use Rattle.utf8.proofs.Turns.{contained}
use Rattle.utf8.proofs.has_byte.Goals as goal

pub returns : goal.returns
returns c = c.contains.ensures.value ∙ contained c.args.b c.args.s.now
