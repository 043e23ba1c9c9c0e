use Rattle.std.proofs.Common.{◌≡◌, ◌+◌, ◌*◌, length, ap, ◌∙◌, arith}
use Rattle.tables.specs.Layout.{cells_of, content}
use Rattle.tables.proofs.Header.{enough, keeps, whole}
use Rattle.tables.proofs.Limits.{within_limits}
use Rattle.tables.proofs.tables.Tables.read.Goals as goal

pub cut_tables-requires : goal.cut_tables-requires
cut_tables-requires c =
    let fill : 27 + 2 * cells_of c.in_ok-counts.counts ≡ length c.args.bytes.now = omega (arith, c.if-cells-bytes.false, c.cells.ensures.cells) in
    let read = ap length (c.as_slice.ensures.value ∙ c.in_ok-cells.ensures.spelled) ∙ enough c.args.bytes.now _ fill in
    omega (arith, read)

pub returns : goal.returns
returns c =
    let counts = c.in_ok-counts.counts in
    let bytes = c.args.bytes.now in
    let fill : 27 + 2 * cells_of counts ≡ length bytes = omega (arith, c.if-cells-bytes.false, c.cells.ensures.cells) in
    let stated = c.in_ok-counts.ensures.counts in
    let cells = c.as_slice.ensures.value ∙ c.in_ok-cells.ensures.spelled in
    let kept = keeps bytes counts c.if-wrong_length.ensures.length stated c.if-over_limit.ensures.limits fill in
    let spelled = whole bytes counts (content c.in_ok-cut_tables.field-0) stated (rw cells at c.in_ok-cut_tables.ensures.cut) in
    record { reads = (kept, spelled); limits = rw spelled (within_limits bytes kept) }
