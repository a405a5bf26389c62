-- No second answer satisfies the contracts of this crate: layouts that say one shape are one.
use Rattle.rules.proofs.Basics.{◌≡◌, refl, sym, ◌∙◌, ap}
use Rattle.rules.specs.Layout.{Shape}
use Rattle.rules.specs.Layout as rules
use Rattle.shapes.specs.declared.ApproxLayout.{ApproxLayout}
use Rattle.shapes.specs.declared.ApproxLayout.TheVariants.{Inline, BlockOrMixed}
use Rattle.shapes.specs.Shapes.{shape}

said_by : Shape → ApproxLayout
said_by (rules.Inline worst excess) = Inline worst excess
said_by (rules.Block pre post) = BlockOrMixed pre post

said_back : (a : ApproxLayout) → said_by (shape a) ≡ a
unfolding said_by shape
said_back (Inline worst excess) = refl
said_back (BlockOrMixed pre post) = refl

pub shape_unique : (a b : ApproxLayout) → shape a ≡ shape b → a ≡ b
shape_unique a b e = sym (said_back a) ∙ ap said_by e ∙ said_back b
