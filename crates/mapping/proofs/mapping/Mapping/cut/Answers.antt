use Rattle.std.proofs.Common.{◌≡◌, ◌-◌, min, refl, ap, ◌∙◌, arith}
use Rattle.std.proofs.Math.ListN.{length-set}
use Rattle.mapping.specs.Bindings.{bound, memory, capacity, used}
use Rattle.mapping.proofs.Bindings.{blank_none, blank_more, blanked_kept, used_blanked, bound_length}
use Rattle.mapping.proofs.mapping.Mapping.cut.Goals as goal

pub loop-self-init : goal.loop-self-init
loop-self-init g c =
    let m = c.args.self.now in
    record { blank = blank_none m.count m.bindings.now g.E.Blank.blank; low = omega arith; few = omega arith; room = refl }

pub loop-self-preserved : goal.loop-self-preserved
loop-self-preserved g c =
    let m = c.args.self.now in
    let i = c.loop-self.invariant in
    let low = i.low in
    let few = i.few in
    let newer = c.loop-self-test.true in
    let fits = m.fits in
    record {
      blank = rw (c.blank.ensures.blank, i.blank) (blank_more m.count m.bindings.now g.E.Blank.blank (c.loop-self.self.count - 1) c.loop-self.self.count (omega arith) (omega arith) fits);
      low = omega arith;
      few = omega arith;
      room = length-set _ _ _ ∙ i.room;
    }

pub returns : goal.returns
unfolding bound memory capacity
returns g c =
    let m = c.args.self.now in
    let i = c.loop-self.invariant in
    let low = i.low in
    let few = i.few in
    let none = c.loop-self-test.false in
    let is : c.loop-self.self.count ≡ min c.args.earlier m.count = omega arith in
    record {
      oldest = ap (used c.loop-self.self.count) i.blank ∙ used_blanked m.count m.bindings.now c.args.earlier c.loop-self.self.count is m.fits g.E.Blank.blank;
      blank = rw (bound_length m) (i.blank ∙ blanked_kept m.count m.bindings.now c.args.earlier c.loop-self.self.count is m.fits g.E.Blank.blank);
      capacity = i.room;
    }
