-- `quick::runs::coloured` meets its contract.
use Rattle.quick.proofs.TextLaws.{colour_part, colour_sound}
use Rattle.quick.proofs.runs.coloured.Goals as goal

pub returns : goal.returns
returns c =
    c.node.ensures _ (colour_part _ c.requires.s_value.0 c.requires.s_value.1) (colour_sound _ c.requires.s_value.0 c.requires.s_value.1)
