-- `sizes::em` meets its contract.
use borrow.Author.Rules.{rules}
use Rattle.rules.proofs.Open.{all_open}
use Rattle.sizes.specs.Table.{place_of, decimal_at}
use Rattle.sizes.proofs.Entries.{same, test, tested}
use Rattle.sizes.proofs.Placing.{passed}
use Rattle.sizes.proofs.em.Goals as goal

-- the test is computed here, on the table as it stands in the code

pub entry-requires : goal.entry-requires
unfolding all_open place_of decimal_at same test
entry-requires c = record { right = tested _ tt; size_bound = search rules }

pub returns : goal.returns
returns c = rw (passed c.ranges.size) at c.entry.ensures
