-- `pages::leaves::render_run` meets its contract: a field that is whole is rendered as a text.
use Rattle.pages.proofs.LeafLaws.{cut_run, whole_run}
use Rattle.pages.proofs.leaves.render_run.Goals as goal

pub returns-then-to-at-lt3 : goal.returns-then-to-at-lt3
returns-then-to-at-lt3 c = cut_run _ _ _ c.requires.2 c.if-to-at-lt3.true

pub returns : goal.returns
returns c = search whole_run
