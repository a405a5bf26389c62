-- `markup::css::put_weight` meets its contract.
use Rattle.rules.proofs.Basics.{rules, sfits_of}
use Rattle.rules.specs.Bytes.{ascii}
use Rattle.markup.proofs.WeightLaws.{no_weight, weight_text}
use Rattle.markup.proofs.Joins.{done, ◌▸◌, one_text, no_row}
use Rattle.markup.proofs.css.put_weight.Goals as goal

pub returns-else-st : goal.returns-else-st
unfolding ascii
returns-else-st c = no_row (no_weight _ (search rules))

pub returns-then-st : goal.returns-then-st
unfolding ascii
returns-then-st c =
    one_text (weight_text _ (search rules) (search rules) (sfits_of c.weight.type_inv) c.weight.ensures) (c.put_bytes.ensures ▸ c.put_signed.ensures ▸ c.put.ensures ▸ done)
