-- `printing::print_plain` meets its contract: the width's two bytes, and the page of the file behind them.
use Rattle.rules.proofs.Basics.{lt-leb}
use Rattle.hazomeny.proofs.Written.{print_in_page}
use Rattle.printing.specs.Asked.{plainly_asked}
use Rattle.printing.proofs.Laws.{asked_plainly}
use Rattle.printing.proofs.print_plain.Goals as goal

pub returns-then-input-lt2 : goal.returns-then-input-lt2
returns-then-input-lt2 g c = unfold plainly_asked in rw (lt-leb _ _ c.if-input-lt2.true)

pub print_answer-requires : goal.print_answer-requires
print_answer-requires g c = record { in_page = λ n q. print_in_page _ _ _ q _ c.print_at-a.ensures }

pub returns : goal.returns
returns g c = asked_plainly _ _ c.if-input-lt2.false c.width_in.ensures c.print_at-a.ensures
