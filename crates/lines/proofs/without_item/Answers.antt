-- `lines::without_item` meets its contract.
use mathlib.Core.Path.{refl}
use Rattle.lines.proofs.Steps.{only_break}
use Rattle.lines.proofs.without_item.Goals as goal

pub returns : goal.returns
returns c = only_break _ _ refl
