-- The plain page: an item's characters, and no pushes and pops.
use Rattle.std.specs.Prelude.{List, [], ◌∷◌, Bool, ℕ}
use Rattle.rules.specs.Tree.{Frag}
use Rattle.rules.specs.Lines.{Out, made, copied, Item, char, marked, items}

unfoldable pub chars : {X : Type 0} → List (Item X) → List (Out X)
chars [] = []
chars (char c ∷ is) = c ∷ chars is
chars (marked k ∷ is) = chars is

-- the list of page bytes, made here or copied
unfoldable pub plain : {X : Type 0} → (newline : X → Bool) → Frag X → List (Out X)
plain newline t = chars (items newline t)

-- the bytes of such a list, by what stands for a byte
unfoldable pub fill : {X : Type 0} → (byte : X → ℕ) → List (Out X) → List ℕ
fill byte [] = []
fill byte (made b ∷ os) = b ∷ fill byte os
fill byte (copied x ∷ os) = byte x ∷ fill byte os
