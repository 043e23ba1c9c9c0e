use Rattle.std.proofs.Common.{◌≡◌, ◌-◌, min, length, vec_items, refl, arith}
use Rattle.std.proofs.lemmas.Result.{err_from_is_err_and}
use Rattle.model.proofs.Inputs.{keeps_more}
use Rattle.model.proofs.input.Input.absorb.Goals as goal

pub returns-in_err-extend_from_slice : goal.returns-in_err-extend_from_slice
returns-in_err-extend_from_slice c =
    let p = err_from_is_err_and c.from_residual.result c.from_residual.ensures.1 in
    rw p.1 (record { absorbs = (c.in_err-extend_from_slice.ensures.items, refl) })

pub returns : goal.returns
returns c =
    let room : c.min.result ≡ min (51675 - length (vec_items c.args.self.now.kept)) (length c.args.piece.now) =
    omega (arith, c.min.ensures, c.len-room.ensures, c.args.self.now.kept.ok.0) in
    record {
      absorbs = λ input h. keeps_more c.args.self.now _ c.args.piece.now input c.min.result h room
          c.in_ok-extend_from_slice.ensures.items c.saturating_add-self.ensures;
    }
