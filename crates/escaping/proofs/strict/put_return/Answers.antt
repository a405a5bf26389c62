-- `escaping::strict::put_return` meets its contract.
use Rattle.rules.proofs.Basics.{refl}
use Rattle.rules.specs.Bytes.{ascii}
use Rattle.escaping.proofs.ReturnLaws.{return_escaped}
use Rattle.escaping.proofs.strict.put_return.Goals as goal

pub returns : goal.returns
returns c = unfold ascii in return_escaped c.put_bytes.ensures refl
