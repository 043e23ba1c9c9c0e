-- Four plain values at most.
use Rattle.std.specs.Prelude.{cond, List, [], ◌∷◌, ◌++◌, length, take, nat_lt}
use Rattle.outside.specs.declared.value.PlainValue.{PlainValue}
use Rattle.run_state.specs.declared.values.PlainValues.{PlainValues}

abbrev pub plain_list : PlainValues → List PlainValue
plain_list p = take p.count p.values

abbrev pub with_plain : List PlainValue → PlainValue → List PlainValue
with_plain vs v = cond (nat_lt (length vs) 4) (vs ++ v ∷ []) vs
