-- `verify::content::check_name` meets its contract: UTF-8 comes before the quote.
use Rattle.rules.proofs.Basics.{refl, rules}
use Rattle.verify.specs.Said.{verdict}
use Rattle.verify.proofs.ContentLaws.{calm_name, broken_name, quoted_name, sound_name}
use Rattle.verify.proofs.content.check_name.Goals as goal

pub returns-then-is_calm_name : goal.returns-then-is_calm_name
returns-then-is_calm_name c = unfold verdict in calm_name c.requires (c.is_calm_name.ensures.says c.if-is_calm_name.true) refl

pub returns-in_default : goal.returns-in_default
returns-in_default c = search broken_name

pub returns-then-has_byte : goal.returns-then-has_byte
returns-then-has_byte c =
    quoted_name c.requires c.check_utf8.ensures (search rules) c.has_byte.ensures c.if-has_byte.true c.fault-then-has_byte.ensures

pub returns : goal.returns
returns c = unfold verdict in search sound_name
