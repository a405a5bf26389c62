-- `printing::lay_out_and_print` meets its contract: the page of the file laid out, or nothing.
use Rattle.printing.proofs.Laws.{laid_page, laid_nothing}
use Rattle.printing.proofs.lay_out_and_print.Goals as goal

pub returns-in-Ok : goal.returns-in-Ok
returns-in-Ok g c = laid_page _ _ _ _ c.layout_file.ensures c.in-Ok.is c.print_page.ensures

pub returns-in-Err : goal.returns-in-Err
returns-in-Err g c = laid_nothing _ _ _ _ c.layout_file.ensures c.in-Err.is
