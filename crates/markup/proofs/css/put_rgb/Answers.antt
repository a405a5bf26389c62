-- `markup::css::put_rgb` meets its contract.
use Rattle.rules.proofs.Basics.{◌≡◌, length, rules}
use Rattle.rules.specs.Bytes.{ascii}
use Rattle.rules.specs.Digits.{digits}
use Rattle.markup.proofs.ColourLaws.{separated_text}
use Rattle.markup.proofs.Joins.{done, ◌▸◌, one_text}
use Rattle.markup.proofs.css.put_rgb.Goals as goal

pub returns : goal.returns
unfolding ascii
returns c =
    let l : length c.args.rgb ≡ 3 = search rules in
    one_text (separated_text _ l digits (ascii ",")) (c.put_byte.ensures ▸ c.put.ensures ▸ c.put_byte-2.ensures ▸ c.put-2.ensures ▸ c.put_byte-3.ensures ▸ done)
