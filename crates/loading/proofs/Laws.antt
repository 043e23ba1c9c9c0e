-- What the rules of an accepted model give.
use Rattle.std.proofs.Common.{◌≡◌, true, None}
use Rattle.tables.specs.Layout.{Content}
use Rattle.tables.specs.Limits.{IsWithinLimits}
use Rattle.model.specs.Rules.{keeps_rules, NoPlaceBreaks}
use Rattle.model.proofs.Kept.{kept}
use Rattle.typing.proofs.ExpressionLaws.{inverts, typed_by}
use Rattle.typing.proofs.PatternLaws.{inverts_pattern, fits_by}
use Rattle.loading.specs.Accepted.{IsAccepted}
use Rattle.loading.specs.Laws.{WellTyped, Lawful}
use Rattle.typing.specs.Typing.{typing_verdict}
use Rattle.loading.specs.Types.{keeps_types}
use Rattle.loading.proofs.Defaults.{defaults}
use Rattle.loading.proofs.Implementing.{signatures}
use Rattle.loading.proofs.Judging.{types_kept}
use Rattle.loading.proofs.Shapes.{well_shaped}
use Rattle.loading.proofs.Typed.{statement_row, functions, statements}

pub well_typed : (m : Content) → NoPlaceBreaks m → keeps_types m ≡ true → WellTyped m
well_typed m keeps types = record { functions = functions m keeps types; statements = statements m keeps types }

pub lawful : (m : Content) → NoPlaceBreaks m → Lawful m
lawful m keeps = record {
  expressions = λ w row s t. (inverts m w row s t, typed_by m w row s t);
  patterns = λ f row s t s'. (inverts_pattern m f row s t s', fits_by m f row s t s');
  rows = λ c x i method within. statement_row m keeps x method.0 i method.1 within;
  interfaces = signatures m keeps;
  defaults = defaults m keeps;
}

pub accepted : (m : Content) → NoPlaceBreaks m → IsWithinLimits m → keeps_types m ≡ true → IsAccepted m
accepted m keeps limits types = record { typed = well_typed m keeps types; lawful = lawful m keeps; shaped = well_shaped m keeps limits }

-- the tables of a read model without a typing fault
pub checked : (m : Content) → keeps_rules m ≡ true → typing_verdict m ≡ None → WellTyped m
checked m keeps none = well_typed m (kept m keeps) (types_kept m none)
