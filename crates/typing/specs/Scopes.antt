-- Which slots are bound where an expression stands, and their types.
use Rattle.std.specs.Prelude.{ℕ, zero, suc, ◌+◌, cond, ◌&&◌, List, [], ◌∷◌, is_some, Some, None, Option, nat_lt}
use Rattle.std.specs.List.{slice_get}
use Rattle.tables.specs.declared.rows.ClassRow.{ClassRow}
use Rattle.tables.specs.declared.rows.FunctionRow.{FunctionRow}
use Rattle.tables.specs.declared.rows.ListRow.{ListRow}
use Rattle.tables.specs.declared.rows.MethodRow.{MethodRow}
use Rattle.tables.specs.Layout.{Content}
use Rattle.mapping.specs.declared.mapping.Binding.{Binding}
use Rattle.mapping.specs.Bindings.{lookup}
use Rattle.syntax.specs.declared.types.ValueType.{ValueType}
use Rattle.syntax.specs.Rows.{given, when}
use Rattle.syntax.specs.Types.{type_at}

-- the bindings of a scope, the newest first
abbrev pub Bindings : Type 0
Bindings = List (Binding ValueType)

-- the type that an entry of a list names
abbrev pub entry_type : Content → ListRow → Option ValueType
entry_type m x = type_at m x.entry

-- The type of the slot `k` of a list of `count` slots; a list has at most eight.
abbrev pub declared : Content → (first count k : ℕ) → Option ValueType
declared m first count k = when (nat_lt k 8 && nat_lt k count) (given (slice_get m.lists (first + k)) (entry_type m))

-- A slot that is bound already is not bound anew.
abbrev pub bind_free : ℕ → ValueType → Bindings → Bindings
bind_free slot t s = cond (is_some (lookup slot s)) s (record { slot = slot; entry = t } ∷ s)

-- binds the slot, if it has a type
abbrev pub bind_typed : ℕ → Option ValueType → Bindings → Bindings
bind_typed slot None s = s
bind_typed slot (Some t) s = bind_free slot t s

-- The first `n` slots of a list, which are numbered from `offset` on.
abbrev pub slots_from : (offset : ℕ) → (ℕ → Option ValueType) → ℕ → Bindings → Bindings
slots_from offset types zero s = s
slots_from offset types (suc n) s = bind_typed (offset + n) (types n) (slots_from offset types n s)

-- A function's body is in the scope of the parameters.
abbrev pub function_scope : Content → FunctionRow → Bindings
function_scope m f = slots_from 0 (declared m f.slots_first f.slots) f.parameters []

-- A statement is in the scope of all slots of its method and of all fields of its class, which are numbered from 128 on.
abbrev pub method_scope : Content → ClassRow → MethodRow → Bindings
method_scope m c x =
    slots_from 128 (declared m c.fields_first c.fields) c.fields
    (slots_from 0 (declared m x.slots_first x.slots) x.slots [])
