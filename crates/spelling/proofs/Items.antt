-- Words and items, with one more of each.
use Rattle.std.proofs.Common.{◌≡◌, ℕ, List, [], ◌∷◌, ◌++◌, Bor, refl}
use Rattle.spelling.specs.Text.{Told, IsItem, AreItems, with_item, with_items}
use Rattle.spelling.specs.declared.text.Item.{Item}

pub items_push : (words : List (Bor (List ℕ))) (items : List Item) (word : Bor (List ℕ)) (item : Item) →
    AreItems words items → IsItem word.now item → AreItems (words ++ (word ∷ [])) (items ++ (item ∷ []))
items_push [] [] word item are is = (is, tt)
items_push [] (x ∷ xs) word item are is = absurd are
items_push (w ∷ ws) [] word item are is = absurd are
items_push (w ∷ ws) (x ∷ xs) word item are is = (are.0, items_push ws xs word item are.1 is)

pub told_push : (items : List Item) (item : Item) (t : Told) → with_items (items ++ (item ∷ [])) t ≡ with_item item (with_items items t)
told_push [] item t = refl
told_push (x ∷ xs) item t = told_push xs item (with_item x t)
