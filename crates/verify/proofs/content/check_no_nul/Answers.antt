-- `verify::content::check_no_nul` meets its contract.
use Rattle.rules.proofs.Basics.{refl}
use Rattle.verify.specs.Said.{verdict}
use Rattle.verify.proofs.ContentLaws.{a_nul, no_nul}
use Rattle.verify.proofs.content.check_no_nul.Goals as goal

pub returns-then-has_byte : goal.returns-then-has_byte
returns-then-has_byte c = a_nul c.requires c.has_byte.ensures c.if-has_byte.true c.fault.ensures

pub returns : goal.returns
returns c = unfold verdict in no_nul c.requires c.has_byte.ensures c.if-has_byte.false refl
