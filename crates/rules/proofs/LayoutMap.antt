-- Naturality of layout: the layout of a mapped tree is the mapped layout, as long as newlines stand alike.
use Rattle.std.specs.Prelude.{if◌then◌else◌}
use Rattle.rules.proofs.Basics.{◌≡◌, refl, sym, ap, ◌∙◌, List, [], ◌∷◌, map, Option, none, Bool, true, false, ℕ, ◌*◌, ◌-◌, max, length-map}
use Rattle.rules.specs.Limits.{indentation}
use Rattle.rules.specs.Walk.{Fields}
use Rattle.rules.specs.Tree.{Run, Leaf, text, anchor, space, force, if_block, Kind, indented, flexible, Frag, stop, leaf, block, Frags, none_left, frag}
use Rattle.rules.specs.Layout.{parts, Shape, Inline, Block, ◌⊕◌, width, last, room, rigid_text, rigid_runs, rigid, chosen, layout, parts_shape, only_if_block}
use Rattle.rules.specs.Ahead.{stretch, ahead, past, lay, lay_all}
use Rattle.rules.proofs.Stretches.{layout_ahead}
use Rattle.rules.proofs.Maps.{map_run, map_leaf, map_frag, map_frags}

module _ {X Y : Type 0} (f : X → Y) (newline : Y → Bool) where
  -- what stands for a newline before the change
  abbrev pub old : X → Bool
  old x = newline (f x)

  abbrev pub map_parts : List X × List (List X) → List Y × List (List Y)
  map_parts p = (map f p.0, map (map f) p.1)

  pub parts_map : (s : List X) → parts newline (map f s) ≡ map_parts (parts old s)
  unfolding parts
  parts_map [] = refl
  parts_map (x ∷ s) = rw (parts_map s) (go (newline (f x)))
    where
      go : (b : Bool) → (let l : List Y × List (List Y) = map_parts (parts old s) in if b then ([], l.0 ∷ l.1) else (f x ∷ l.0, l.1))
          ≡ map_parts (let l : List X × List (List X) = parts old s in if b then ([], l.0 ∷ l.1) else (x ∷ l.0, l.1))
      go true = refl
      go false = refl

  width_map : (s : Option (Fields ℕ)) (v : List X) → width s (map f v) ≡ width s v
  unfolding width
  width_map s v = simp length-map

  last_map : (a : List X) (l : List (List X)) → last (map f a) (map (map f) l) ≡ map f (last a l)
  unfolding last
  last_map a [] = refl
  last_map a (b ∷ l) = last_map b l

  parts_shape_map : (s : Option (Fields ℕ)) (a : List X) (l : List (List X)) → parts_shape s (map f a) (map (map f) l) ≡ parts_shape s a l
  unfolding parts_shape
  parts_shape_map s a [] = simp width_map
  parts_shape_map s a (b ∷ bs) = simp (last_map b bs, width_map)

  rigid_text_map : (s : Option (Fields ℕ)) (v : List X) → rigid_text newline s (map f v) ≡ rigid_text old s v
  unfolding rigid_text
  rigid_text_map s v = simp (parts_map v, parts_shape_map)

  rigid_runs_map : (so : Shape) (rs : List (Run X)) → rigid_runs newline so (map (map_run f) rs) ≡ rigid_runs old so rs
  unfolding rigid_runs
  rigid_runs_map so [] = refl
  rigid_runs_map so (r ∷ rs) = λ i. rigid_runs_map (so ⊕ rigid_text_map r.style r.chars i) rs i

  rigid_map : (n : Leaf X) → rigid newline (map_leaf f n) ≡ rigid old n
  unfolding rigid
  rigid_map (text r) = rigid_text_map r.style r.chars
  rigid_map (anchor d a rs) = rigid_runs_map (Inline 0 0) rs
  rigid_map space = refl
  rigid_map force = refl
  rigid_map (if_block v) = ap only_if_block (rigid_text_map none v)

  ahead_map : (so : Shape) (t : Frag X) → ahead newline so (map_frag f t) ≡ ahead old so t
  unfolding ahead
  ahead_map so stop = refl
  ahead_map so (leaf n r) = λ i. stretch so (rigid_map n i) (ahead_map (so ⊕ rigid_map n i) r i)
  ahead_map so (block indented fs r) = refl
  ahead_map so (block flexible fs r) = ahead_map (so ⊕ Inline 0 0) r

  past_map : (s so : Shape) (r : Frag X) → past newline s so (map_frag f r) ≡ past old s so r
  unfolding past
  past_map (Inline w e) so r = refl
  past_map (Block pre post) so r = ahead_map (so ⊕ Block 0 post) r

  abbrev map_laid : Frag X × Shape → Frag Y × Shape
  map_laid p = (map_frag f p.0, p.1)

  abbrev map_laids : Frags X × Shape → Frags Y × Shape
  map_laids p = (map_frags f p.0, p.1)

  mutual
    unfolding lay

    lay_map : (t : Frag X) (i b : ℕ) (so : Shape) → lay newline (map_frag f t) i b so ≡ map_laid (lay old t i b so)
    lay_map stop i b so = refl
    lay_map (leaf n r) i b so =
        λ j. let r' : Frag Y × Shape = lay_map r i b (past_map (rigid_map n j) so r j) j in
        (leaf (map_leaf f n) r'.0, r'.1)
    lay_map (block indented fs r) i b so =
        λ j. let r' : Frag Y × Shape = lay_map r i b (past_map (Block 0 0) (so ⊕ Block 0 0) r j) j in
        (block indented (lay_all_map fs (b - indentation) (b - indentation) (Inline 0 0) j).0 r'.0, r'.1)
    lay_map (block flexible fs r) i b so =
        λ j. let fs' : Frags Y × Shape = lay_all_map fs (max (room i b so) (b - indentation)) (b - indentation) (Inline 0 0) j in
        let c : Kind × Shape = chosen (room i b so) fs'.1 in
        let r' : Frag Y × Shape = lay_map r i b (so ⊕ c.1) j in
        (block c.0 fs'.0 r'.0, r'.1)

    lay_all_map : (fs : Frags X) (i b : ℕ) (so : Shape) → lay_all newline (map_frags f fs) i b so ≡ map_laids (lay_all old fs i b so)
    lay_all_map none_left i b so = refl
    lay_all_map (frag g fs) i b so =
        λ j. let f' : Frag Y × Shape = lay_map g i b (ahead_map (Inline 0 0) g j) j in
        let fs' : Frags Y × Shape = lay_all_map fs i b (so ⊕ f'.1) j in
        (frag f'.0 fs'.0, fs'.1)

  -- THE LAYOUT OF A MAPPED TREE
  pub layout_map : (w : ℕ) (t : Frag X) → layout newline w (map_frag f t) ≡ map_frag f (layout old w t)
  layout_map w t =
      layout_ahead newline w (map_frag f t) ∙ (λ j. (lay_map t (10 * w) (10 * w) (ahead_map (Inline 0 0) t j) j).0) ∙ ap (map_frag f) (sym (layout_ahead old w t))
