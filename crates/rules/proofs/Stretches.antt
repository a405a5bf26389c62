-- Layout with a stretch ahead (`Ahead`), which the code follows, is the layout of `Layout`, on every fragment.
use Rattle.std.specs.Prelude.{if◌then◌else◌}
use Rattle.rules.proofs.Basics.{max, ◌-◌, ◌≡◌, refl, ap, ap₂, ◌∙◌, List, [], ◌∷◌, ◌++◌, append-nil, Option, none, Bool, true, false, ℕ, ◌+◌, ◌*◌, ◌≤◌, min, arith, leb, length, leb-true, leb-false}
use Rattle.rules.specs.Limits.{indentation, most_tenths}
use Rattle.rules.specs.Bytes.{cap}
use Rattle.rules.specs.Walk.{Fields}
use Rattle.rules.specs.Tree.{Run, Leaf, text, anchor, space, force, if_block, Kind, indented, flexible, Frag, stop, leaf, block, Frags, none_left, frag}
use Rattle.rules.specs.Layout.{Shape, Inline, Block, ◌⊕◌, styled_width, width, last, parts, parts_shape, only_if_block, room, kept_inline, chosen, rigid_text, rigid_runs, rigid, rigid_block, Node, a_leaf, a_block, before, Flexible, SoFar, leaf_flexible, block_flexible, in_turn, nothing_yet, and_node, at_end, fragment_layout, fragments_layout, layout}
use Rattle.rules.specs.Ahead.{stretch, ahead, past, lay, lay_all}

-- ---- shapes to which Inline (0, 0), the flexible layout of a leaf, adds nothing: their parts are capped

abbrev Settled : Shape → Type 0
Settled s = s ⊕ Inline 0 0 ≡ s

-- a cap is a minimum, which omega reads
pub cap_min : (n : ℕ) → cap n ≡ min n most_tenths
unfolding cap
cap_min n = go (leb n most_tenths) refl
  where
    go : (b : Bool) → leb n most_tenths ≡ b → (if b then n else most_tenths) ≡ min n most_tenths
    go true e = omega (arith, leb-true n most_tenths e)
    go false e = omega (arith, leb-false n most_tenths e)

capped : (n : ℕ) → cap (cap n + 0) ≡ cap n
capped n = omega (arith, cap_min n, cap_min (cap n + 0))

settled_inline : (s : Shape) (w e : ℕ) → Settled (s ⊕ Inline w e)
unfolding ◌⊕◌
settled_inline (Inline w' e') w e = ap₂ Inline (capped (w' + w)) (capped (e' + e))
settled_inline (Block pre post) w e = ap (Block pre) (capped (post + w))

settled_post : {pre post : ℕ} → Settled (Block pre post) → (pre' : ℕ) → Settled (Block pre' post)
unfolding ◌⊕◌
settled_post {pre} {post} S pre' = let e : cap (post + 0) ≡ post = cc in ap (Block pre') e

settled_append : (s t : Shape) → Settled t → Settled (s ⊕ t)
unfolding ◌⊕◌
settled_append s (Inline w e) S = settled_inline s w e
settled_append (Inline w e) (Block pre post) S = settled_post S (cap (w + pre))
settled_append (Block pre post) (Block pre' post') S = settled_post S pre

settled_worst : {w e : ℕ} → Settled (Inline w e) → w ≤ most_tenths
unfolding ◌⊕◌
settled_worst {w} {e} S = let least : cap (w + 0) ≡ w = cc in omega (arith, least, cap_min (w + 0))

kept_settled : (fits : Bool) (candidate : ℕ) → candidate ≤ most_tenths → Settled (kept_inline fits candidate).1
unfolding ◌⊕◌ kept_inline cap
kept_settled true candidate h = ap (λ (n : ℕ). Inline n 0) (omega (arith, cap_min (candidate + 0)))
kept_settled false candidate h = refl

chosen_settled : (i : ℕ) (s : Shape) → Settled s → Settled (chosen i s).1
unfolding chosen ◌⊕◌ cap
chosen_settled i (Inline w e) S = kept_settled _ _ (omega (arith, settled_worst S))
chosen_settled i (Block pre post) S = refl

only_if_block_settled : (s : Shape) → Settled s → Settled (only_if_block s)
unfolding ◌⊕◌ only_if_block cap
only_if_block_settled (Inline w e) S = let least : cap (w + 0) ≡ w = cc in ap₂ Inline least least
only_if_block_settled (Block pre post) S = refl

-- ---- flexible layouts in turn

module _ {X : Type 0} where
  -- flexible layouts whose shapes are settled
  abbrev Steady : List (Flexible X) → Type 0
  Steady [] = Unit {0}
  Steady (f ∷ fs) = ((i b : ℕ) → Settled (f i b).1) × Steady fs

  steady_append : (fs : List (Flexible X)) (f : Flexible X) → Steady fs → ((i b : ℕ) → Settled (f i b).1) → Steady (fs ++ (f ∷ []))
  steady_append [] f S h = (h, tt)
  steady_append (g ∷ fs) f S h = (S.0, steady_append fs f S.1 h)

  in_turn_settled : (i b : ℕ) (fs : List (Flexible X)) (so : Shape) → Steady fs → Settled so → Settled (in_turn i b fs so).1
  unfolding in_turn
  in_turn_settled i b [] so W S = S
  in_turn_settled i b (f ∷ fs) so W S = in_turn_settled i b fs _ W.1 (settled_append so _ (W.0 _ _))

  -- one more, after the others
  one_more : (i b : ℕ) → Flexible X → List (Node X) × Shape → List (Node X) × Shape
  one_more i b f ns = (ns.0 ++ ((f (room i b ns.1) b).0 ∷ []), ns.1 ⊕ (f (room i b ns.1) b).1)

  in_turn_more : (i b : ℕ) (fs : List (Flexible X)) (f : Flexible X) (so : Shape) → in_turn i b (fs ++ (f ∷ [])) so ≡ one_more i b f (in_turn i b fs so)
  unfolding in_turn one_more
  in_turn_more i b [] f so = refl
  in_turn_more i b (g ∷ fs) f so = ap (λ (ns : List (Node X) × Shape). ((g (room i b so) b).0 ∷ ns.0, ns.1)) (in_turn_more i b fs f _)

  before_append : (ns ms : List (Node X)) (r : Frag X) → before (ns ++ ms) r ≡ before ns (before ms r)
  unfolding before
  before_append [] ms r = refl
  before_append (a_leaf n ∷ ns) ms r = ap (leaf n) (before_append ns ms r)
  before_append (a_block k fs ∷ ns) ms r = ap (block k fs) (before_append ns ms r)

  before_more : (ns ms : List (Node X)) (n : Node X) (r : Frag X) → before (ns ++ (ms ++ (n ∷ []))) r ≡ before (ns ++ ms) (before (n ∷ []) r)
  before_more ns ms n r = rw (before_append ns (ms ++ (n ∷ [])), before_append ms (n ∷ []), before_append ns ms) refl

module _ {X : Type 0} (newline : X → Bool) where
  -- ---- settled shapes of fragments

  rigid_text_settled : (style : Option (Fields ℕ)) (v : List X) → Settled (rigid_text newline style v)
  unfolding rigid_text parts_shape ◌⊕◌ width cap
  rigid_text_settled style v = go (parts newline v).0 (parts newline v).1
    where
      go : (a : List X) (bs : List (List X)) → Settled (parts_shape style a bs)
      go a [] = ap (λ (n : ℕ). Inline n 0) (capped (length a * styled_width style))
      go a (c ∷ bs) = ap (Block (width style a)) (capped (length (last c bs) * styled_width style))

  rigid_runs_settled : (so : Shape) (rs : List (Run X)) → Settled so → Settled (rigid_runs newline so rs)
  unfolding rigid_runs
  rigid_runs_settled so [] S = S
  rigid_runs_settled so (r ∷ rs) S = rigid_runs_settled (so ⊕ rigid_text newline r.style r.chars) rs (settled_append so _ (rigid_text_settled r.style r.chars))

  rigid_settled : (n : Leaf X) → Settled (rigid newline n)
  unfolding rigid ◌⊕◌ cap
  rigid_settled (text r) = rigid_text_settled r.style r.chars
  rigid_settled (anchor definition a rs) = rigid_runs_settled (Inline 0 0) rs refl
  rigid_settled space = refl
  rigid_settled force = refl
  rigid_settled (if_block v) = only_if_block_settled _ (rigid_text_settled none v)

  ahead_settled : (so : Shape) (t : Frag X) → Settled so → Settled (ahead newline so t)
  unfolding ahead stretch
  ahead_settled so stop S = S
  ahead_settled so (leaf n r) S = go (rigid newline n) (ahead_settled (so ⊕ rigid newline n) r (settled_append so _ (rigid_settled n)))
    where
      go : (own : Shape) {further : Shape} → Settled further → Settled (stretch so own further)
      go (Inline w e) F = F
      go (Block pre post) F = settled_inline so pre 0
  ahead_settled so (block indented fs r) S = settled_inline so 0 0
  ahead_settled so (block flexible fs r) S = ahead_settled (so ⊕ Inline 0 0) r (settled_inline so 0 0)

  past_settled : (own so : Shape) (r : Frag X) → Settled own → Settled so → Settled (past newline own so r)
  unfolding past
  past_settled (Inline w e) so r O S = S
  past_settled (Block pre post) so r O S = ahead_settled _ r (settled_append so _ (settled_post O 0))

  mutual
    unfolding lay ◌⊕◌ cap

    lay_settled : (t : Frag X) (i b : ℕ) (so : Shape) → Settled so → Settled (lay newline t i b so).1
    lay_settled stop i b so S = S
    lay_settled (leaf n r) i b so S = lay_settled r i b (past newline (rigid newline n) so r) (past_settled _ so r (rigid_settled n) S)
    lay_settled (block indented fs r) i b so S = lay_settled r i b (past newline (Block 0 0) (so ⊕ Block 0 0) r) (past_settled (Block 0 0) _ r refl (settled_append so (Block 0 0) refl))
    lay_settled (block flexible fs r) i b so S =
        let c : Kind × Shape = chosen (room i b so) (lay_all newline fs (max (room i b so) (b - indentation)) (b - indentation) (Inline 0 0)).1 in
        lay_settled r i b (so ⊕ c.1) (settled_append so _ (chosen_settled _ _ (lay_all_settled fs _ _ (Inline 0 0) refl)))

    lay_all_settled : (fs : Frags X) (i b : ℕ) (so : Shape) → Settled so → Settled (lay_all newline fs i b so).1
    lay_all_settled none_left i b so S = S
    lay_all_settled (frag f fs) i b so S = lay_all_settled fs i b (so ⊕ (lay newline f i b (ahead newline (Inline 0 0) f)).1) (settled_append so _ (lay_settled f i b _ (ahead_settled (Inline 0 0) f refl)))

  -- ---- a node

  -- the nodes that are done and those that were waiting, then the rest of a fragment, with a stretch ahead
  abbrev then_lay : (i b : ℕ) → List (Node X) → List (Node X) × Shape → Frag X → Frag X × Shape
  then_lay i b done ns r = (before (done ++ ns.0) (lay newline r i b ns.1).0, (lay newline r i b ns.1).1)

  abbrev goes_on : (i b : ℕ) → SoFar X → Frag X → Frag X × Shape
  goes_on i b s r = then_lay i b s.done (in_turn i b s.waiting (ahead newline s.shape r)) r

  -- the same with a node between them, by its rigid and its flexible layout
  abbrev then_node : (i b : ℕ) → Shape → Flexible X → List (Node X) → List (Node X) × Shape → Frag X → Frag X × Shape
  then_node i b own f done ns r =
      let n : Node X × Shape = f (room i b ns.1) b in
      let r' : Frag X × Shape = lay newline r i b (past newline own (ns.1 ⊕ n.1) r) in
      (before (done ++ ns.0) (before (n.0 ∷ []) r'.0), r'.1)

  node_turn : (i b : ℕ) (own : Shape) (f : Flexible X) (s : SoFar X) (r : Frag X)
      → goes_on i b (and_node i b own f s) r
      ≡ then_node i b own f s.done (in_turn i b s.waiting (stretch s.shape own (ahead newline (s.shape ⊕ own) r))) r
  unfolding and_node stretch past one_more in_turn
  node_turn i b (Inline w e) f s r =
      let so : Shape = ahead newline (s.shape ⊕ Inline w e) r in
      let ns : List (Node X) × Shape = in_turn i b s.waiting so in
      let n : Node X × Shape = f (room i b ns.1) b in
      ap (λ (ns : List (Node X) × Shape). then_lay i b s.done ns r) (in_turn_more i b s.waiting f so)
      ∙ ap (λ (t : Frag X). (t, (lay newline r i b (ns.1 ⊕ n.1)).1)) (before_more s.done ns.0 n.0 _)
  node_turn i b (Block pre post) f s r =
      let so : Shape = s.shape ⊕ Inline pre 0 in
      let ns : List (Node X) × Shape = in_turn i b s.waiting so in
      let n : Node X × Shape = f (room i b ns.1) b in
      let r' : Frag X × Shape = lay newline r i b (ahead newline (ns.1 ⊕ n.1 ⊕ Block 0 post) r) in
      ap (λ (ns : List (Node X) × Shape). then_lay i b (s.done ++ ns.0) ([], ahead newline (ns.1 ⊕ Block 0 post) r) r) (in_turn_more i b s.waiting f so)
      ∙ ap (λ (t : Frag X). (t, r'.1)) (ap (λ (l : List (Node X)). before l r'.0) (append-nil _) ∙ before_more s.done ns.0 n.0 _)

  -- what a node leaves is settled, and what waits is steady
  node_settled : (i b : ℕ) (own : Shape) (f : Flexible X) (s : SoFar X) → Settled own → Settled (and_node i b own f s).shape
  unfolding and_node
  node_settled i b (Inline w e) f s O = settled_inline s.shape w e
  node_settled i b (Block pre post) f s O = settled_append _ _ (settled_post O 0)

  node_steady : (i b : ℕ) (own : Shape) (f : Flexible X) (s : SoFar X) → Steady s.waiting → ((i b : ℕ) → Settled (f i b).1) → Steady (and_node i b own f s).waiting
  unfolding and_node
  node_steady i b (Inline w e) f s W h = steady_append s.waiting f W h
  node_steady i b (Block pre post) f s W h = tt

  leaf_steady : (n : Leaf X) (i b : ℕ) → Settled (leaf_flexible n i b).1
  unfolding leaf_flexible ◌⊕◌ cap
  leaf_steady n i b = refl

  block_steady : (k : Kind) (fs : Frags X) (i b : ℕ) → Settled (block_flexible k (λ i b. lay_all newline fs i b (Inline 0 0)) i b).1
  unfolding block_flexible ◌⊕◌ cap
  block_steady indented fs i b = refl
  block_steady flexible fs i b = chosen_settled _ _ (lay_all_settled fs _ _ (Inline 0 0) refl)

  block_settled : (k : Kind) → Settled (rigid_block k)
  unfolding rigid_block ◌⊕◌ cap
  block_settled indented = refl
  block_settled flexible = refl

  -- a block, by its fragments with a stretch ahead
  block_turn : (k : Kind) (fs : Frags X) (r : Frag X) (i b : ℕ) (s : SoFar X)
      → then_node i b (rigid_block k) (block_flexible k (λ i b. lay_all newline fs i b (Inline 0 0))) s.done
      (in_turn i b s.waiting (stretch s.shape (rigid_block k) (ahead newline (s.shape ⊕ rigid_block k) r))) r
      ≡ goes_on i b s (block k fs r)
  unfolding rigid_block block_flexible stretch ahead past lay before
  block_turn indented fs r i b s = refl
  block_turn flexible fs r i b s = refl

  -- ---- THE LAYOUT OF A FRAGMENT, AND OF A BLOCK'S FRAGMENTS

  mutual
    unfolding fragment_layout at_end nothing_yet in_turn lay ahead leaf_flexible before ◌⊕◌ cap

    fragment_ahead : (t : Frag X) (i b : ℕ) (s : SoFar X) → Settled s.shape → Steady s.waiting → fragment_layout newline t i b s ≡ goes_on i b s t
    fragment_ahead stop i b s S W = refl
    fragment_ahead (leaf n r) i b s S W =
        let own : Shape = rigid newline n in
        let ns : List (Node X) × Shape = in_turn i b s.waiting (ahead newline s.shape (leaf n r)) in
        let same : ns.1 ⊕ Inline 0 0 ≡ ns.1 = in_turn_settled i b s.waiting _ W (ahead_settled s.shape (leaf n r) S) in
        fragment_ahead r i b (and_node i b own (leaf_flexible n) s) (node_settled i b own (leaf_flexible n) s (rigid_settled n)) (node_steady i b own (leaf_flexible n) s W (leaf_steady n))
        ∙ node_turn i b own (leaf_flexible n) s r
        ∙ ap (λ (so : Shape). let r' : Frag X × Shape = lay newline r i b (past newline own so r) in (before (s.done ++ ns.0) (before ((leaf_flexible n i b).0 ∷ []) r'.0), r'.1)) same
    fragment_ahead (block k fs r) i b s S W =
        let f : Flexible X = block_flexible k (λ i b. lay_all newline fs i b (Inline 0 0)) in
        (λ j. fragment_layout newline r i b (and_node i b (rigid_block k) (block_flexible k (λ i b. fragments_ahead fs i b (Inline 0 0) j)) s))
        ∙ fragment_ahead r i b (and_node i b (rigid_block k) f s) (node_settled i b _ f s (block_settled k)) (node_steady i b (rigid_block k) f s W (block_steady k fs))
        ∙ node_turn i b (rigid_block k) f s r
        ∙ block_turn k fs r i b s

    fragments_ahead : (fs : Frags X) (i b : ℕ) (so : Shape) → fragments_layout newline fs i b so ≡ lay_all newline fs i b so
    fragments_ahead none_left i b so = refl
    fragments_ahead (frag f fs) i b so =
        λ j. let f' : Frag X × Shape = fragment_ahead f i b nothing_yet refl tt j in
        let fs' : Frags X × Shape = fragments_ahead fs i b (so ⊕ f'.1) j in
        (frag f'.0 fs'.0, fs'.1)

  -- THE LAYOUT OF A TREE
  pub layout_ahead : (w : ℕ) (t : Frag X) → layout newline w t ≡ (lay newline t (10 * w) (10 * w) (ahead newline (Inline 0 0) t)).0
  unfolding layout nothing_yet in_turn before ◌⊕◌ cap
  layout_ahead w t = ap (λ x. x.0) (fragment_ahead t (10 * w) (10 * w) nothing_yet refl tt)
