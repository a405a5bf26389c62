-- `pages::leaves::render_runs` meets its contract: the loop's invariant is `Going`.
use Rattle.rules.proofs.Basics.{arith}
use Rattle.fields.proofs.Spans.{end_rises, end_within, end_less}
use Rattle.pages.specs.OpsIn.{runs_in}
use Rattle.pages.proofs.Going.{going_starts, going_more, going_ends}
use Rattle.pages.proofs.leaves.render_runs.Goals as goal

pub loop-at-init : goal.loop-at-init
loop-at-init c = going_starts

pub render_run-requires : goal.render_run-requires
render_run-requires c =
    (omega (arith, c.loop-at.invariant.rendered.indent_kept, c.requires), end_rises c.field_end-to.ensures c.loop-at-test.true, end_within c.field_end-to.ensures c.loop-at-test.true)

pub loop-at-smaller : goal.loop-at-smaller
loop-at-smaller c = search end_less

pub loop-at-preserved : goal.loop-at-preserved
loop-at-preserved c = going_more c.loop-at.invariant c.loop-at-test.true c.field_end-to.ensures c.render_run.ensures

pub returns : goal.returns
returns c = unfold runs_in in going_ends c.loop-at.invariant c.loop-at-test.false
