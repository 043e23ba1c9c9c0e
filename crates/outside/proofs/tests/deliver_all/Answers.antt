use Rattle.std.proofs.Common.{◌≡◌, Bool, true, false, cond, ◌⊎◌, inl, inr, None, Option, ◌∙◌}
use Rattle.outside.proofs.tests.deliver_all.Goals as goal

-- what is gone or as before is so after one more is gone
still : {A : Type 0} (b : Bool) (x y z : Option A) → z ≡ cond b None x → (x ≡ None) ⊎ (x ≡ y) → (z ≡ None) ⊎ (z ≡ y)
still true x y z left before = inl left
still false x y z left before = elim before [ inl none ↦ inl (left ∙ none) | inr same ↦ inr (left ∙ same) ]

pub loop-delivered-preserved : goal.loop-delivered-preserved
loop-delivered-preserved g c = λ n. still _ _ _ _ (c.deliver.ensures.delivers.leaves n) (c.loop-delivered.invariant n)
