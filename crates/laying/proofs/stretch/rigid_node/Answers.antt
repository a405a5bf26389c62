-- `laying::stretch::rigid_node` meets its contract: by its tag.
use Rattle.rules.proofs.Basics.{refl}
use Rattle.laying.proofs.Layouts.{fine}
use Rattle.laying.proofs.LeafLaws.{three_told, four_told, no_block, other_told}
use Rattle.laying.proofs.stretch.rigid_node.Goals as goal

pub returns-then-tag-eq3 : goal.returns-then-tag-eq3
returns-then-tag-eq3 c = three_told c.if-tag-eq3.true refl (fine refl)

pub returns-then-tag-eq4 : goal.returns-then-tag-eq4
returns-then-tag-eq4 c = four_told c.if-tag-eq4.true refl (fine refl)

pub leaf-requires : goal.leaf-requires
leaf-requires c = record { node = c.requires; no_block = no_block c.if-tag-eq3.false c.if-tag-eq4.false }

pub returns : goal.returns
returns c = other_told (no_block c.if-tag-eq3.false c.if-tag-eq4.false) c.leaf.ensures
