-- What layout changes: some 4s become 3s, and nothing else.
use Rattle.rules.proofs.Basics.{Bool, true, false, ℕ}
use Rattle.rules.specs.Tree.{Leaf, Kind, indented, flexible, Frag, stop, leaf, block, Frags, none_left, frag}
use Rattle.rules.specs.Layout.{Shape, Inline, Block, kept_inline, chosen, layout}
use Rattle.rules.specs.Ahead.{lay, lay_all}
use Rattle.rules.proofs.Stretches.{layout_ahead}

-- a block's tag may stay, and a 4 may become a 3
pub data Turn : Kind → Kind → Type 0 where
  stays : {k : Kind} → Turn k k
  turned : Turn flexible indented

-- two trees that are equal but for turned tags
mutual
  pub data Laid {X : Type 0} : Frag X → Frag X → Type 0 where
    l_stop : Laid stop stop
    l_leaf : {n : Leaf X} {r r' : Frag X} → Laid r r' → Laid (leaf n r) (leaf n r')
    l_block : {k k' : Kind} {fs fs' : Frags X} {r r' : Frag X} → Turn k k' → Laids fs fs' → Laid r r' → Laid (block k fs r) (block k' fs' r')

  pub data Laids {X : Type 0} : Frags X → Frags X → Type 0 where
    l_none : Laids none_left none_left
    l_frag : {f f' : Frag X} {fs fs' : Frags X} → Laid f f' → Laids fs fs' → Laids (frag f fs) (frag f' fs')

mutual
  pub laid_itself : {X : Type 0} (t : Frag X) → Laid t t
  laid_itself stop = l_stop
  laid_itself (leaf n r) = l_leaf (laid_itself r)
  laid_itself (block k fs r) = l_block stays (laids_itself fs) (laid_itself r)

  laids_itself : {X : Type 0} (fs : Frags X) → Laids fs fs
  laids_itself none_left = l_none
  laids_itself (frag f fs) = l_frag (laid_itself f) (laids_itself fs)

turn_kept : (fits : Bool) (candidate : ℕ) → Turn flexible (kept_inline fits candidate).0
unfolding kept_inline
turn_kept true candidate = stays
turn_kept false candidate = turned

turn_chosen : (i : ℕ) (s : Shape) → Turn flexible (chosen i s).0
unfolding chosen
turn_chosen i (Inline w e) = turn_kept _ _
turn_chosen i (Block pre post) = turned

module _ {X : Type 0} (newline : X → Bool) where
  mutual
    unfolding lay

    lay_laid : (t : Frag X) (i b : ℕ) (so : Shape) → Laid t (lay newline t i b so).0
    lay_laid stop i b so = l_stop
    lay_laid (leaf n r) i b so = l_leaf (lay_laid r i b _)
    lay_laid (block indented fs r) i b so = l_block stays (lay_all_laid fs _ _ _) (lay_laid r i b _)
    lay_laid (block flexible fs r) i b so = l_block (turn_chosen _ _) (lay_all_laid fs _ _ _) (lay_laid r i b _)

    lay_all_laid : (fs : Frags X) (i b : ℕ) (so : Shape) → Laids fs (lay_all newline fs i b so).0
    lay_all_laid none_left i b so = l_none
    lay_all_laid (frag f fs) i b so = l_frag (lay_laid f i b _) (lay_all_laid fs i b _)

  -- LAYOUT TURNS SOME 4S INTO 3S
  pub layout_laid : (w : ℕ) (t : Frag X) → Laid t (layout newline w t)
  layout_laid w t = rw (layout_ahead newline w t) (lay_laid t _ _ _)
