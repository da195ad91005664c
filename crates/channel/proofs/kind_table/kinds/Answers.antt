-- `channel::kind_table::kinds` meets its contract: one computed test over the table gives the rule at every entry. Assumes nothing.
use borrow.Author.Rules.{rules}
use Rattle.channel.specs.Kinds.{kind_number}
use Rattle.channel.proofs.KindTable.{table_rule}
use Rattle.channel.proofs.kind_table.kinds.Goals as goal

pub returns : goal.returns
unfolding kind_number
returns c b h = search (table_rule, rules)
