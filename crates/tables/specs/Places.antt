-- The numbers under which rules and tables are reported.
use Rattle.std.specs.Prelude.{ℕ}
use Rattle.tables.specs.declared.place.Table.{Table}
use Rattle.tables.specs.declared.place.Table.TheVariants.{Header, Types, Lists, Constructors, Functions, Interfaces, Signatures, Classes, Methods, Nodes, Branches, Statements}
use Rattle.tables.specs.declared.place.TableRule.{TableRule}
use Rattle.tables.specs.declared.place.TableRule.TheVariants.{Length, Counts, Range, Placement, Shape, Method}

abbrev pub table_number : Table → ℕ
table_number Header = 0
table_number Types = 1
table_number Lists = 2
table_number Constructors = 3
table_number Functions = 4
table_number Interfaces = 5
table_number Signatures = 6
table_number Classes = 7
table_number Methods = 8
table_number Nodes = 9
table_number Branches = 10
table_number Statements = 11

abbrev pub rule_number : TableRule → ℕ
rule_number Length = 1
rule_number Counts = 2
rule_number Range = 3
rule_number Placement = 4
rule_number Shape = 5
rule_number Method = 6
