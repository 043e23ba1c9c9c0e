-- The kind of a row, and what a kind that is unknown says.
use Rattle.std.proofs.Common.{◌≡◌, ℕ, Some, None, Ok, Err, Option, refl, sym}
use Rattle.tables.specs.declared.kinds.NodeKind.{NodeKind}
use Rattle.tables.specs.declared.kinds.UnknownKind.{UnknownKind}
use Rattle.tables.specs.Kinds.{known}
use Rattle.evaluation.proofs.Carrying.{ok-err}

pub known_kind : (n : ℕ) (k : Option NodeKind) {kind : NodeKind} → Ok kind ≡ known n k → k ≡ Some kind
known_kind n None e = absurd (ok-err e)
known_kind n (Some k) e = cc

pub unknown_kind : (n : ℕ) (k : Option NodeKind) {e : UnknownKind} → Err e ≡ known n k → k ≡ None
unknown_kind n None same = refl
unknown_kind n (Some k) same = absurd (ok-err (sym same))
