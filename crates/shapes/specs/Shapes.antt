-- The shape that a layout says, in the words of the rules.
use Rattle.rules.specs.Layout.{Shape}
use Rattle.rules.specs.Layout as rules
use Rattle.shapes.specs.declared.ApproxLayout.{ApproxLayout}
use Rattle.shapes.specs.declared.ApproxLayout.TheVariants.{Inline, BlockOrMixed}

abbrev pub shape : ApproxLayout → Shape
shape (Inline worst excess) = rules.Inline worst excess
shape (BlockOrMixed pre post) = rules.Block pre post
