-- Layout with the rigid layouts of a stretch ahead, as the code goes over a fragment: one walk, in which no node waits. `Stretches` (proofs)
-- shows that it is the layout of `Layout`, on every fragment.
use Rattle.std.specs.Prelude.{Bool, ℕ, ◌-◌, max}
use Rattle.rules.specs.Limits.{indentation}
use Rattle.rules.specs.Tree.{Kind, indented, flexible, Frag, stop, leaf, block, Frags, none_left, frag}
use Rattle.rules.specs.Layout.{Shape, Inline, Block, ◌⊕◌, room, chosen, rigid}

-- the rigid layouts of a stretch, with a node's own: an Inline goes on with what is `further`, a Block ends it with its pre
unfoldable pub stretch : (so_far own further : Shape) → Shape
stretch so_far (Inline worst excess) further = further
stretch so_far (Block pre post) further = so_far ⊕ Inline pre 0

module _ {X : Type 0} (newline : X → Bool) where
  -- a fragment's rigid layouts are appended ahead of its flexible ones, a stretch at a time: up to the next rigid Block. A tag 3 is a rigid
  -- Block (0, 0), a tag 4 a rigid Inline (0, 0)
  unfoldable pub ahead : Shape → Frag X → Shape
  ahead so_far stop = so_far
  ahead so_far (leaf n r) = let further : Shape = ahead (so_far ⊕ rigid newline n) r in stretch so_far (rigid newline n) further
  ahead so_far (block indented fs r) = stretch so_far (Block 0 0) so_far
  ahead so_far (block flexible fs r) = ahead (so_far ⊕ Inline 0 0) r

  -- past a node whose flexible layout is appended, by its rigid layout: a Block appends Block (0, post), and the next stretch
  unfoldable pub past : Shape → Shape → Frag X → Shape
  past (Inline w e) so_far r = so_far
  past (Block pre post) so_far r = ahead (so_far ⊕ Block 0 post) r

  -- a fragment laid out from the shape so far, at the inline and the block maximum i and b, and its shape; and a block's fragments
  unfoldable mutual
    pub lay : Frag X → (i b : ℕ) → Shape → Frag X × Shape
    lay stop i b so_far = (stop, so_far)
    lay (leaf n r) i b so_far =
        let r' : Frag X × Shape = lay r i b (past (rigid newline n) so_far r) in
        (leaf n r'.0, r'.1)
    lay (block indented fs r) i b so_far =
        let fs' : Frags X × Shape = lay_all fs (b - indentation) (b - indentation) (Inline 0 0) in
        let r' : Frag X × Shape = lay r i b (past (Block 0 0) (so_far ⊕ Block 0 0) r) in
        (block indented fs'.0 r'.0, r'.1)
    lay (block flexible fs r) i b so_far =
        let fs' : Frags X × Shape = lay_all fs (max (room i b so_far) (b - indentation)) (b - indentation) (Inline 0 0) in
        let c : Kind × Shape = chosen (room i b so_far) fs'.1 in
        let r' : Frag X × Shape = lay r i b (so_far ⊕ c.1) in
        (block c.0 fs'.0 r'.0, r'.1)

    pub lay_all : Frags X → (i b : ℕ) → Shape → Frags X × Shape
    lay_all none_left i b so_far = (none_left, so_far)
    lay_all (frag f fs) i b so_far =
        let f' : Frag X × Shape = lay f i b (ahead (Inline 0 0) f) in
        let fs' : Frags X × Shape = lay_all fs i b (so_far ⊕ f'.1) in
        (frag f'.0 fs'.0, fs'.1)
