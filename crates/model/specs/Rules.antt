-- What is judged of a model's bytes: which place breaks which rule.
use Rattle.std.specs.Prelude.{◌≡◌, ℕ, ◌<◌, Bool, false, not, List, [], ◌∷◌, is_some, Option}
use Rattle.tables.specs.declared.place.Fault.{Fault}
use Rattle.tables.specs.declared.place.Table.{Table}
use Rattle.tables.specs.declared.place.Table.TheVariants as table
use Rattle.tables.specs.declared.place.TableRule.{TableRule}
use Rattle.tables.specs.declared.place.TableRule.TheVariants.{Length, Counts, Range, Placement, Shape, Method}
use Rattle.tables.specs.Layout.{Content, wrong_length, wrong_counts, content_of}
use Rattle.tables.specs.Least.{Case, verdict_of}
use Rattle.rules.specs.Faults.{places}
use Rattle.range.specs.Range.{range_broken}
use Rattle.placement.specs.Placement.{placement_broken}
use Rattle.shape.specs.Shape.{shape_broken}
use Rattle.shape.specs.Methods.{method_broken}

-- a fault that only the header can have
abbrev pub at_header : Bool → Table → Bool
at_header wrong table.Header = wrong
at_header wrong table.Types = false
at_header wrong table.Lists = false
at_header wrong table.Constructors = false
at_header wrong table.Functions = false
at_header wrong table.Interfaces = false
at_header wrong table.Signatures = false
at_header wrong table.Classes = false
at_header wrong table.Methods = false
at_header wrong table.Nodes = false
at_header wrong table.Branches = false
at_header wrong table.Statements = false

-- Which places break which rule, where the header's length or its counts are wrong or not.
abbrev pub broken : (length counts : Bool) → Content → TableRule → Table → ℕ → Bool
broken length counts m Length t r = at_header length t
broken length counts m Counts t r = at_header counts t
broken length counts m Range t r = range_broken m t r
broken length counts m Placement t r = placement_broken m t r
broken length counts m Shape t r = shape_broken m t r
broken length counts m Method t r = method_broken m t r

abbrev pub all_rules : List TableRule
all_rules = Length ∷ Counts ∷ Range ∷ Placement ∷ Shape ∷ Method ∷ []

abbrev pub judged_with : (length counts : Bool) → Content → Case TableRule
judged_with length counts m = record { rules = all_rules; rows = places m; broken = broken length counts m }

-- A model's bytes, as they are judged.
abbrev pub case_of : List ℕ → Case TableRule
case_of bs = judged_with (wrong_length bs) (wrong_counts bs) (content_of bs)

-- The least fault of a model's bytes.
unfoldable pub verdict_in : List ℕ → Option (Fault TableRule)
verdict_in bs = verdict_of (case_of bs)

-- Tables that break no rule, behind a header that breaks none.
unfoldable pub keeps_rules : Content → Bool
keeps_rules m = not (is_some (verdict_of (judged_with false false m)))

-- No place of a model breaks a rule.
abbrev pub NoPlaceBreaks : Content → Type 0
NoPlaceBreaks m = (rule : TableRule) (t : Table) (r : ℕ) → r < places m t → broken false false m rule t r ≡ false
