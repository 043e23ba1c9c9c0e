-- The sorts of plain values.
use Rattle.outside.specs.declared.value.Sort.{Sort}
use Rattle.outside.specs.declared.value.Sort.TheVariants as sort
use Rattle.outside.specs.declared.value.PlainValue.{PlainValue}
use Rattle.outside.specs.declared.value.PlainValue.TheVariants as plain

-- the sort of a plain value
abbrev pub sort_of : PlainValue → Sort
sort_of plain.Unit = sort.Unit
sort_of (plain.Bool b) = sort.Bool
sort_of (plain.Int z) = sort.Int
