-- `escaping::escapes::put_escape` meets its contract.
use Rattle.escaping.proofs.EscapeLaws.{ampersand_escaped, less_than_escaped, left_as_it_is}
use Rattle.rules.specs.Bytes.{ascii}
use Rattle.rules.proofs.Basics.{refl, rules}
use Rattle.escaping.proofs.escapes.put_escape.Goals as goal

pub returns-in-38 : goal.returns-in-38
returns-in-38 c = unfold ascii in ampersand_escaped _ (search rules) c.put_bytes.ensures refl

pub returns-in-60 : goal.returns-in-60
returns-in-60 c = unfold ascii in less_than_escaped _ (search rules) c.put_bytes-in-60.ensures refl

pub returns-in_default : goal.returns-in_default
returns-in_default c = search left_as_it_is
