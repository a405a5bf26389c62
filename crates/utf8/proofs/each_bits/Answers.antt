-- `utf8::each_bits` meets its contract: the library's `fold` and `all_bits` take the bytes in turn alike.
use Rattle.std.specs.Prelude.{fold}
use Rattle.rules.proofs.Basics.{◌≡◌, ◌∙◌, rules}
use lib.Bits.{bit_or}
use Rattle.utf8.proofs.FourParts.{all_folded}
use Rattle.utf8.proofs.each_bits.Goals as goal

pub returns : goal.returns
returns c =
    let e : c.fold.result ≡ fold bit_or 0 c.args.s.now = search rules in
    e ∙ all_folded c.args.s.now
