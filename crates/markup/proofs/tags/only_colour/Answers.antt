-- `markup::tags::only_colour` meets its contract: by the eight flags that the pattern names.
use Rattle.rules.proofs.Basics.{rules}
use Rattle.markup.proofs.TagLaws.{coloured}
use Rattle.markup.proofs.tags.only_colour.Goals as goal

pub returns-in-true : goal.returns-in-true
returns-in-true c e =
    coloured _ (search rules) (search rules) (search rules) (search rules) (search rules) (search rules) (search rules) (search rules)
