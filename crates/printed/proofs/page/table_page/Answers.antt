-- `printed::page::table_page` meets its contract.
use Rattle.printed.specs.Page.{printed_for}
use Rattle.printed.proofs.page.table_page.Goals as goal

pub returns : goal.returns
unfolding printed_for
returns c = rw (← c.answer_to.ensures) c.page_of.ensures
