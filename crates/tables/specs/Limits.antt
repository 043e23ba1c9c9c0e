-- How many rows the tables may have.
use Rattle.std.specs.Prelude.{◌≤◌, length}
use Rattle.tables.specs.Layout.{Content}

-- Each table has 255 rows at most, but the nodes 1,024 and the statements 512.
pub record IsWithinLimits (m : Content) : Type 0 where
  pub types : length m.types ≤ 255
  pub lists : length m.lists ≤ 255
  pub constructors : length m.constructors ≤ 255
  pub functions : length m.functions ≤ 255
  pub interfaces : length m.interfaces ≤ 255
  pub signatures : length m.signatures ≤ 255
  pub classes : length m.classes ≤ 255
  pub methods : length m.methods ≤ 255
  pub nodes : length m.nodes ≤ 1024
  pub branches : length m.branches ≤ 255
  pub statements : length m.statements ≤ 512
