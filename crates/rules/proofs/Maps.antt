-- A tree, its operations and its page with each X replaced by what a function makes of it.
use mathlib.Core.List.{map}
use Rattle.rules.specs.Tree.{Run, Leaf, text, anchor, space, force, if_block, Frag, stop, leaf, block, Frags, none_left, frag}
use Rattle.rules.specs.Lines.{LineOp, part, mark, empty_anchor, new_line, break, indent, unindent, Mark, push, pop, open_anchor, close_anchor, Item, char, marked, Out, made, copied}

module _ {X Y : Type 0} (f : X → Y) where
  abbrev pub map_run : Run X → Run Y
  map_run r = record { style = r.style; chars = map f r.chars }

  abbrev pub map_leaf : Leaf X → Leaf Y
  map_leaf (text r) = text (map_run r)
  map_leaf (anchor d a rs) = anchor d (map f a) (map map_run rs)
  map_leaf space = space
  map_leaf force = force
  map_leaf (if_block v) = if_block (map f v)

  abbrev mutual
    pub map_frag : Frag X → Frag Y
    map_frag stop = stop
    map_frag (leaf n r) = leaf (map_leaf n) (map_frag r)
    map_frag (block k fs r) = block k (map_frags fs) (map_frag r)

    pub map_frags : Frags X → Frags Y
    map_frags none_left = none_left
    map_frags (frag g fs) = frag (map_frag g) (map_frags fs)

  abbrev pub map_out : Out X → Out Y
  map_out (made b) = made b
  map_out (copied x) = copied (f x)

  abbrev pub map_mark : Mark X → Mark Y
  map_mark (push s) = push s
  map_mark (pop s) = pop s
  map_mark (open_anchor d a) = open_anchor d (map f a)
  map_mark close_anchor = close_anchor

  abbrev pub map_item : Item X → Item Y
  map_item (char o) = char (map_out o)
  map_item (marked k) = marked (map_mark k)

  abbrev pub map_op : LineOp X → LineOp Y
  map_op (part v) = part (map f v)
  map_op (mark k) = mark (map_mark k)
  map_op (empty_anchor d a) = empty_anchor d (map f a)
  map_op new_line = new_line
  map_op (break b) = break b
  map_op indent = indent
  map_op unindent = unindent
