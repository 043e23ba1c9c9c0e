-- What crosses to an outside and back: plain values, and the sorts of results.
use Rattle.std.specs.Prelude.{Bool, true, false, Some, None, Option}
use Rattle.tables.specs.Layout.{Content}
use Rattle.syntax.specs.declared.types.ValueType.{ValueType}
use Rattle.syntax.specs.declared.types.ValueType.TheVariants as type
use Rattle.outside.specs.declared.value.PlainValue.{PlainValue}
use Rattle.outside.specs.declared.value.PlainValue.TheVariants as plain
use Rattle.outside.specs.declared.value.Sort.{Sort}
use Rattle.outside.specs.declared.value.Sort.TheVariants as sort
use Rattle.evaluation.specs.declared.value.Value.{Value}
use Rattle.evaluation.specs.declared.value.Value.TheVariants as value
use Rattle.steps.specs.declared.records.CallRecord.{CallRecord}
use Rattle.steps.specs.Configurations.{result_type}

-- a plain value as a value of the model
abbrev pub value_of_plain : PlainValue → Value
value_of_plain plain.Unit = value.Unit
value_of_plain (plain.Bool b) = value.Bool b
value_of_plain (plain.Int z) = value.Int z

-- The methods of outside classes take Unit, Bool or Int alone, so that nothing else is ever asked.
abbrev pub plain_of : Value → PlainValue
plain_of (value.Bool b) = plain.Bool b
plain_of (value.Int z) = plain.Int z
plain_of _ = plain.Unit

-- and they give nothing else
abbrev pub sort_of_type : ValueType → Sort
sort_of_type type.Bool = sort.Bool
sort_of_type type.Int = sort.Int
sort_of_type _ = sort.Unit

-- where the type is known
abbrev pub known_sort : Option ValueType → Sort
known_sort None = sort.Unit
known_sort (Some t) = sort_of_type t

-- two sorts are one
abbrev pub same_sort : Sort → Sort → Bool
same_sort sort.Unit sort.Unit = true
same_sort sort.Bool sort.Bool = true
same_sort sort.Int sort.Int = true
same_sort _ _ = false

-- the sort of a call's result
abbrev pub result_sort : Content → CallRecord → Sort
result_sort m x = known_sort (result_type m x)
