-- `quick::steps::by_code` meets its contract.
use Rattle.rules.proofs.Basics.{refl}
use Rattle.moves.specs.Plans.{plan, piece_bytes, piece_checks, first_fault}
use Rattle.quick.specs.Quick.{not_here}
use Rattle.quick.proofs.steps.by_code.Goals as goal

pub returns-in-Text : goal.returns-in-Text
returns-in-Text c =
    unfold plan piece_bytes piece_checks first_fault in λ own. rw (c.in-Text.is, ← c.text_here.ensures) c.text.ensures

pub returns-in-Space : goal.returns-in-Space
returns-in-Space c =
    unfold plan piece_bytes piece_checks first_fault in λ own. rw (c.in-Space.is, ← c.fragment_here.ensures) (c.leaf.ensures _ _ _ refl refl)

pub returns-in-Force : goal.returns-in-Force
returns-in-Force c =
    unfold plan piece_bytes piece_checks first_fault in λ own. rw (c.in-Force.is, ← c.fragment_here-in-Force.ensures) (c.leaf-in-Force.ensures _ _ _ refl refl)

pub returns-in-Conditional : goal.returns-in-Conditional
returns-in-Conditional c =
    unfold plan piece_bytes piece_checks first_fault in λ own. rw (c.in-Conditional.is, ← c.fragment_here-in-Conditional.ensures) (c.conditional.ensures _)

pub returns-in-OpenDefinition : goal.returns-in-OpenDefinition
returns-in-OpenDefinition c =
    unfold plan piece_bytes piece_checks first_fault in λ own. rw (c.in-OpenDefinition.is, ← c.fragment_here-in-OpenDefinition.ensures) (c.anchor.ensures _ _ _ refl refl)

pub returns-in-OpenUse : goal.returns-in-OpenUse
returns-in-OpenUse c =
    unfold plan piece_bytes piece_checks first_fault in λ own. rw (c.in-OpenUse.is, ← c.fragment_here-in-OpenUse.ensures) (c.anchor-in-OpenUse.ensures _ _ _ refl refl)

pub returns-in-CloseAnchor : goal.returns-in-CloseAnchor
returns-in-CloseAnchor c =
    unfold plan piece_bytes piece_checks first_fault in λ own. rw c.in-CloseAnchor.is (c.shut.ensures _ _)

pub returns-in-OpenIndented : goal.returns-in-OpenIndented
returns-in-OpenIndented c =
    unfold plan piece_bytes piece_checks first_fault in λ own. rw (c.in-OpenIndented.is, ← c.depth_in.ensures.0, ← c.fragment_here-in-OpenIndented.ensures) (c.block.ensures _ _)

pub returns-in-OpenFlexible : goal.returns-in-OpenFlexible
returns-in-OpenFlexible c =
    unfold plan piece_bytes piece_checks first_fault in λ own. rw (c.in-OpenFlexible.is, ← c.depth_in-in-OpenFlexible.ensures.0, ← c.fragment_here-in-OpenFlexible.ensures) (c.block-in-OpenFlexible.ensures _ _)

pub returns-in-CloseBlock : goal.returns-in-CloseBlock
returns-in-CloseBlock c =
    unfold plan piece_bytes piece_checks first_fault in λ own. rw (c.in-CloseBlock.is, ← c.block_here.ensures) (c.shut-in-CloseBlock.ensures _ _)

pub returns-in-OpenFragment : goal.returns-in-OpenFragment
returns-in-OpenFragment c =
    unfold plan piece_bytes piece_checks first_fault in λ own. rw (c.in-OpenFragment.is, ← c.block_here-in-OpenFragment.ensures) (c.open.ensures _ _)

pub returns-in-CloseFragment : goal.returns-in-CloseFragment
returns-in-CloseFragment c =
    unfold plan piece_bytes piece_checks first_fault in λ own. rw c.in-CloseFragment.is (c.shut-in-CloseFragment.ensures _ _)

pub returns-in_default : goal.returns-in_default
returns-in_default c = λ own. not_here refl refl
