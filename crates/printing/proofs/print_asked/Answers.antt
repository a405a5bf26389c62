-- `printing::print_asked` meets its contract: the width's two bytes, and the file behind them.
use Rattle.rules.proofs.Basics.{lt-leb}
use Rattle.printing.specs.Asked.{asked}
use Rattle.printing.proofs.Laws.{asked_laid}
use Rattle.printing.proofs.print_asked.Goals as goal

pub returns-then-input-lt2 : goal.returns-then-input-lt2
returns-then-input-lt2 g c = unfold asked in rw (lt-leb _ _ c.if-input-lt2.true)

pub returns : goal.returns
returns g c =
    asked_laid _ _ _ c.if-input-lt2.false c.width_in-width.ensures c.lay_out_and_print.ensures
