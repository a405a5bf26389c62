-- `verify::glance::right_styles` meets its contract.
use Rattle.rules.proofs.Basics.{[], arith}
use Rattle.verify.proofs.GlanceLaws.{upto_none, right_there, right_later, right_from_colour, right_from_opacity}
use Rattle.verify.proofs.glance.right_styles.Goals as goal
use Rattle.verify.proofs.glance.right_styles.Goals.{in-Some+else-coloured-stop, in_default}

pub returns-then-coloured-stop : goal.returns-then-coloured-stop
returns-then-coloured-stop c =
    record { says = λ e d place P. (right_from_colour c.requires.1 c.in-Some.ensures (right_there c.if-coloured-stop.true)).said d 0 place [] P upto_none }

pub returns : goal.returns
returns c =
    record {
      says = λ e d place P. let W = c.right_sizes.ensures.says e in
          elim c.match-behind.branch [ in-Some+else-coloured-stop w ↦ right_from_opacity c.requires.1 w.in-Some.ensures _ w.behind_opacity.ensures w.unwrap_or-at.ensures (rw w.at-is at W) d place P | in_default w ↦ (right_later (omega arith) (rw w.at-is at W)).said d 0 place [] P upto_none ];
    }
