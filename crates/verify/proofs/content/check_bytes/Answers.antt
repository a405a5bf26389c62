-- `verify::content::check_bytes` meets its contract.
use Rattle.rules.proofs.Basics.{refl}
use Rattle.verify.specs.Said.{verdict}
use Rattle.verify.proofs.ContentLaws.{calm_text, broken_text, sound_text}
use Rattle.verify.proofs.content.check_bytes.Goals as goal

pub returns-then-calm : goal.returns-then-calm
returns-then-calm c = unfold verdict in calm_text c.requires (c.calm.ensures.says c.if-calm.true) refl

pub returns-in_default : goal.returns-in_default
returns-in_default c = search broken_text

pub returns : goal.returns
returns c = unfold verdict in search sound_text
