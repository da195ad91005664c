-- `entry_part` hands back the bytes of entry i at their place, or an empty part. Assumes nothing.
use borrow.Author.Rules.{rules}
use Rattle.book.proofs.Lookup.{parts, places, part_within}
use Rattle.book.proofs.entry_part.Goals as goal

pub returns-then-is_err : goal.returns-then-is_err
returns-then-is_err c = record { result_value = search parts; place = search places }

pub returns-then-from-i : goal.returns-then-from-i
returns-then-from-i c = record { result_value = search parts; place = search places }

pub slice_bounds-result-end-2 : goal.slice_bounds-result-end-2
slice_bounds-result-end-2 c = search (part_within, rules)

pub returns : goal.returns
returns c = record { result_value = search parts; place = search places }
