-- The faults of the classes where there are some.
use Rattle.std.proofs.Common.{◌≡◌, ◌<◌, cond, List, [], ◌∷◌, length, Some, None, refl, arith}
use Rattle.tables.specs.declared.place.Table.TheVariants.{Classes}
use Rattle.tables.specs.declared.place.TableRule.TheVariants.{Shape}
use Rattle.tables.specs.declared.rows.ClassRow.{ClassRow}
use Rattle.tables.specs.Layout.{Content}
use Rattle.tables.specs.Least.{fault, first_below}
use Rattle.rules.specs.Faults.{table_fault, class_places}
use Rattle.shape.specs.Shape.{class_shape, classes_broken}

-- where class 0 is there, the classes are asked row by row
pub classes_there : (m : Content) (xs : List ClassRow) → 0 < length xs →
    table_fault xs (class_shape m) Shape Classes ≡ first_below (λ r. cond (classes_broken m xs r) (Some (fault Shape Classes r)) None) (class_places xs)
classes_there m [] lt = absurd (omega arith)
classes_there m (x ∷ xs) lt = refl
