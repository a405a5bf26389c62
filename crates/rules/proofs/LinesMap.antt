-- Naturality of the items of a page: those of a mapped tree are the mapped items, as long as newlines stand alike.
use Rattle.std.specs.Prelude.{if◌then◌else◌}
use Rattle.rules.proofs.Basics.{◌≡◌, refl, ap, List, [], ◌∷◌, map, Option, none, some, Bool, true, false, ℕ, ltb}
use Rattle.rules.specs.Walk.{Fields}
use Rattle.rules.specs.Tree.{Run, Leaf, text, anchor, space, force, if_block, indented, flexible, Frag, stop, leaf, block, Frags, none_left, frag}
use Rattle.rules.specs.Lines.{LineOp, part, mark, empty_anchor, new_line, break, indent, unindent, Item, char, marked, open_anchor, close_anchor, copied, later, styled, text_ops, run_ops, runs_ops, leaf_ops, ops, indented_ops, inline_ops, Break, a_space, a_newline, Line, empty, indented_by, has_text, Machine, ignored, target, making, release, levels, spacing, item, broken, unless_empty, step, run, items}
use Rattle.rules.proofs.Maps.{map_run, map_leaf, map_frag, map_frags, map_item, map_op}
use Rattle.rules.proofs.Lists.{map_append, map_map}
use Rattle.rules.proofs.LayoutMap.{old, parts_map}

-- ---- line operations

module _ {X Y : Type 0} (f : X → Y) where
  later_map : (ps : List (List X)) → later (map (map f) ps) ≡ map (map_op f) (later ps)
  unfolding later
  later_map [] = refl
  later_map (p ∷ ps) = rw (later_map ps)

  styled_map : (s : Option (Fields ℕ)) (os : List (LineOp X)) → styled s (map (map_op f) os) ≡ map (map_op f) (styled s os)
  unfolding styled
  styled_map none os = refl
  styled_map (some s) os = simp map_append

module _ {X Y : Type 0} (f : X → Y) (newline : Y → Bool) where
  text_ops_map : (v : List X) → text_ops newline (map f v) ≡ map (map_op f) (text_ops (old f newline) v)
  unfolding text_ops
  text_ops_map v = simp (parts_map, later_map)

  run_ops_map : (r : Run X) → run_ops newline (map_run f r) ≡ map (map_op f) (run_ops (old f newline) r)
  unfolding run_ops
  run_ops_map r = simp (text_ops_map, styled_map)

  runs_ops_map : (rs : List (Run X)) → runs_ops newline (map (map_run f) rs) ≡ map (map_op f) (runs_ops (old f newline) rs)
  unfolding runs_ops
  runs_ops_map [] = refl
  runs_ops_map (r ∷ rs) = simp (run_ops_map, runs_ops_map rs, map_append)

  leaf_ops_map : (d : Bool) (n : Leaf X) → leaf_ops newline d (map_leaf f n) ≡ map (map_op f) (leaf_ops (old f newline) d n)
  unfolding leaf_ops
  leaf_ops_map d (text r) = run_ops_map r
  leaf_ops_map d (anchor def a []) = refl
  leaf_ops_map d (anchor def a (r ∷ rs)) = simp (runs_ops_map (r ∷ rs), map_append)
  leaf_ops_map d space = refl
  leaf_ops_map d force = refl
  leaf_ops_map true (if_block v) = text_ops_map v
  leaf_ops_map false (if_block v) = refl

  mutual
    unfolding ops

    pub ops_map : (d : Bool) (t : Frag X) → ops newline d (map_frag f t) ≡ map (map_op f) (ops (old f newline) d t)
    ops_map d stop = refl
    ops_map d (leaf n r) = simp (leaf_ops_map, ops_map d r, map_append)
    ops_map d (block indented fs r) = simp (indented_ops_map fs, ops_map d r, map_append)
    ops_map d (block flexible fs r) = simp (inline_ops_map fs, ops_map d r, map_append)

    indented_ops_map : (fs : Frags X) → indented_ops newline (map_frags f fs) ≡ map (map_op f) (indented_ops (old f newline) fs)
    indented_ops_map none_left = refl
    indented_ops_map (frag g fs) = simp (ops_map true g, indented_ops_map fs, map_append)

    inline_ops_map : (fs : Frags X) → inline_ops newline (map_frags f fs) ≡ map (map_op f) (inline_ops (old f newline) fs)
    inline_ops_map none_left = refl
    inline_ops_map (frag g fs) = simp (ops_map false g, inline_ops_map fs, map_append)

-- ---- the line machine

module _ {X Y : Type 0} (f : X → Y) where
  abbrev mapped : {A : Type 0} → List (Item X) × A → List (Item Y) × A
  mapped p = (map (map_item f) p.0, p.1)

  making_map : (bs : List ℕ) → making bs ≡ map (map_item f) (making bs)
  unfolding making
  making_map bs = simp map_map

  release_map : (w : Option Break) (l : Line) → release w l ≡ mapped (release w l)
  unfolding release making
  release_map none l = refl
  release_map (some a_space) l = refl
  release_map (some a_newline) l = refl

  either_map : (b : Bool) (p q : List ℕ) → (if b then making p else making q) ≡ map (map_item f) (if b then making p else making q)
  either_map true p q = making_map p
  either_map false p q = making_map q

  levels_map : (k t : ℕ) → levels k t ≡ map (map_item f) (levels k t)
  unfolding levels
  levels_map k t = either_map (ltb t k) _ _

  spacing_map : (d : ℕ) (a : Bool) (l : Line) → spacing d a l ≡ mapped (spacing d a l)
  unfolding spacing
  spacing_map d a empty = ap (λ is. (is, indented_by (target d a 0))) (levels_map 0 (target d a 0))
  spacing_map d a (indented_by k) = ap (λ is. (is, indented_by (target d a k))) (levels_map k (target d a k))
  spacing_map d a has_text = refl

  item_map : (m : Machine) (a : Bool) (is : List (Item X)) (g : Line → Line) → item m a (map (map_item f) is) g ≡ mapped (item m a is g)
  unfolding item
  item_map m a is g = simp (release_map, spacing_map, map_append)

  copy_map : (s : List X) → map (λ y. char (copied y)) (map f s) ≡ map (map_item f) (map (λ y. char (copied y)) s)
  copy_map s = simp map_map

  broken_map : (e : Bool) (m : Machine) (b : Break) → broken e m b ≡ mapped (broken e m b)
  unfolding broken
  broken_map true m b = refl
  broken_map false m b = refl

  unless_empty_map : (s : List X) (m : Machine) (r : List (Item X) × Machine) → unless_empty (map f s) m (mapped r) ≡ mapped (unless_empty s m r)
  unless_empty_map [] m r = refl
  unless_empty_map (x ∷ s) m r = refl

  step_map : (m : Machine) (o : LineOp X) → step m (map_op f o) ≡ mapped (step m o)
  unfolding step
  step_map m (part s) = simp (copy_map, item_map, unless_empty_map)
  step_map m (mark k) = item_map m false (marked k ∷ []) (λ l. l)
  step_map m (empty_anchor d a) = item_map m true (marked (open_anchor d a) ∷ marked close_anchor ∷ []) (λ l. l)
  step_map m new_line = ap (λ is. (is, record { level = m.level; line = empty; waiting = none })) (making_map (10 ∷ []))
  step_map m (break b) = broken_map (ignored m.level m.line) m b
  step_map m indent = refl
  step_map m unindent = refl

  run_map : (m : Machine) (os : List (LineOp X)) → run m (map (map_op f) os) ≡ map (map_item f) (run m os)
  unfolding run
  run_map m [] = refl
  run_map m (o ∷ os) = simp (step_map m o, run_map (step m o).1 os, map_append)

  -- THE ITEMS OF A MAPPED TREE
  pub items_map : (newline : Y → Bool) (t : Frag X) → items newline (map_frag f t) ≡ map (map_item f) (items (old f newline) t)
  unfolding items
  items_map newline t = simp (ops_map f newline, run_map)
