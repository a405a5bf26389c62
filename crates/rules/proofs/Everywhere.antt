-- What holds of every item of a page: it holds of what the line machine makes, of pushes and pops, of the bytes of texts and of the names of anchors.
use Rattle.std.specs.Prelude.{if◌then◌else◌}
use Rattle.rules.proofs.Basics.{◌≡◌, refl, List, [], ◌∷◌, ◌++◌, Option, none, some, Bool, true, false, ℕ, zero, suc, ◌-◌, ◌*◌, ltb, replicate}
use Rattle.rules.specs.Bytes.{newline}
use Rattle.rules.specs.Walk.{Fields, end, bytes, inside, is_text}
use Rattle.rules.specs.Tree.{Styles, styles_of, Run, Leaf, text, anchor, space, force, if_block, indented, flexible, Frag, stop, leaf, block, Frags, none_left, frag}
use Rattle.rules.specs.Encode.{run_fields, runs_fields, anchor_tag, leaf_fields, frag_fields, frags_fields}
use Rattle.rules.specs.Layout.{parts}
use Rattle.rules.specs.Lines.{LineOp, part, mark, empty_anchor, new_line, break, indent, unindent, push, pop, open_anchor, close_anchor, later, styled, text_ops, run_ops, runs_ops, leaf_ops, ops, indented_ops, inline_ops, Break, a_space, a_newline, Line, empty, indented_by, has_text, Machine, start, Item, char, marked, made, ignored, target, making, release, levels, spacing, item, broken, step, run, items}
use Rattle.rules.proofs.Runs.{Ops, Items}
use Rattle.rules.proofs.Said.{text_said}
use Rattle.rules.proofs.Visible.{own_items}

-- it holds of each of a list
abbrev pub Each : {A : Type 0} → (A → Type 0) → List A → Type 0
Each P [] = Unit {0}
Each P (x ∷ xs) = P x × Each P xs

each_append : {A : Type 0} (P : A → Type 0) (xs ys : List A) → Each P xs → Each P ys → Each P (xs ++ ys)
each_append P [] ys h k = k
each_append P (x ∷ xs) ys h k = (h.0, each_append P xs ys h.1 k)

-- it holds of each value of bytes among some fields, with its tag
abbrev pub Values : (ℕ → List ℕ → Type 0) → Fields ℕ → Type 0
Values Q end = Unit {0}
Values Q (bytes t v r) = Q t v × Values Q r
Values Q (inside t i r) = Values Q i × Values Q r

-- P holds of every item that a file's page can have, if Q holds of the file's values
pub record Held (Q : ℕ → List ℕ → Type 0) (P : Item ℕ → Type 0) : Type 0 where
  pub newline_made : P (char (made 10))
  pub space_made : P (char (made 32))
  pub pushed : (s : Styles) → P (marked (push s))
  pub popped : (s : Styles) → P (marked (pop s))
  pub opened : (definition : Bool) (a : List ℕ) → Q (anchor_tag definition) a → P (marked (open_anchor definition a))
  pub closed : P (marked close_anchor)
  pub texts : (t : ℕ) (v : List ℕ) → is_text t ≡ true → Q t v → Each P (text_said v)

module _ {Q : ℕ → List ℕ → Type 0} {P : Item ℕ → Type 0} (H : Held Q P) where
  -- ---- the line machine

  spaces_each : (n : ℕ) → Each P (making (replicate n 32))
  unfolding making
  spaces_each zero = tt
  spaces_each (suc n) = (H.space_made, spaces_each n)

  levels_each : (k t : ℕ) → Each P (levels k t)
  unfolding levels making
  levels_each k t = go (ltb t k)
    where
      go : (b : Bool) → Each P (if b then making (10 ∷ replicate (2 * t) 32) else making (replicate (2 * (t - k)) 32))
      go true = (H.newline_made, spaces_each (2 * t))
      go false = spaces_each (2 * (t - k))

  release_each : (w : Option Break) (l : Line) → Each P (release w l).0
  unfolding release making
  release_each none l = tt
  release_each (some a_space) l = (H.space_made, tt)
  release_each (some a_newline) l = (H.newline_made, tt)

  spacing_each : (level : ℕ) (bare : Bool) (l : Line) → Each P (spacing level bare l).0
  unfolding spacing
  spacing_each level bare empty = levels_each 0 (target level bare 0)
  spacing_each level bare (indented_by k) = levels_each k (target level bare k)
  spacing_each level bare has_text = tt

  item_each : (m : Machine) (bare : Bool) (is : Items) (f : Line → Line) → Each P is → Each P (item m bare is f).0
  unfolding item
  item_each m bare is f h =
      let w : Items × Line = release m.waiting m.line in
      let s : Items × Line = spacing m.level bare w.1 in
      each_append P w.0 (s.0 ++ is) (release_each m.waiting m.line) (each_append P s.0 is (spacing_each m.level bare w.1) h)

  broken_each : (i : Bool) (m : Machine) (b : Break) → Each P (broken i m b).0
  unfolding broken
  broken_each true m b = tt
  broken_each false m b = tt

  -- it holds of the items that an operation holds itself
  abbrev Own : LineOp ℕ → Type 0
  Own o = Each P (own_items o)

  step_each : (m : Machine) (o : LineOp ℕ) → Own o → Each P (step m o).0
  unfolding step own_items text_said making
  step_each m (part []) h = tt
  step_each m (part (x ∷ s)) h = item_each m false (text_said (x ∷ s)) (λ l. has_text) h
  step_each m (mark k) h = item_each m false (marked k ∷ []) (λ l. l) h
  step_each m (empty_anchor definition a) h = item_each m true (marked (open_anchor definition a) ∷ marked close_anchor ∷ []) (λ l. l) h
  step_each m new_line h = (H.newline_made, tt)
  step_each m (break b) h = broken_each (ignored m.level m.line) m b
  step_each m indent h = tt
  step_each m unindent h = tt

  run_each : (m : Machine) (os : Ops) → Each Own os → Each P (run m os)
  unfolding run
  run_each m [] h = tt
  run_each m (o ∷ os) h = each_append P (step m o).0 (run (step m o).1 os) (step_each m o h.0) (run_each (step m o).1 os h.1)

  -- ---- the operations of a tree

  abbrev part_ops : List ℕ × List (List ℕ) → Ops
  part_ops l = part l.0 ∷ later l.1

  text_each : (v : List ℕ) → Each P (text_said v) → Each Own (text_ops newline v)
  unfolding text_ops parts later own_items text_said
  text_each [] h = (tt, tt)
  text_each (x ∷ v) h = go (newline x) (text_each v h.1)
    where
      l : List ℕ × List (List ℕ)
      l = parts newline v

      go : (b : Bool) → Each Own (part_ops l) → Each Own (part_ops (if b then ([], l.0 ∷ l.1) else (x ∷ l.0, l.1)))
      go true k = (tt, (tt, k))
      go false k = ((h.0, k.0), k.1)

  run_ops_each : (style : Option (Fields ℕ)) (v : List ℕ) → Values Q (run_fields style v) → Each Own (styled style (text_ops newline v))
  unfolding styled run_fields own_items is_text
  run_ops_each none v q = text_each v (H.texts 17 v refl q.0)
  run_ops_each (some j) v q =
      ((H.pushed (styles_of j), tt), each_append Own (text_ops newline v) (mark (pop (styles_of j)) ∷ []) (text_each v (H.texts 17 v refl q.1.0)) ((H.popped (styles_of j), tt), tt))

  runs_ops_each : (rs : List (Run ℕ)) → Values Q (runs_fields rs) → Each Own (runs_ops newline rs)
  unfolding runs_ops run_ops runs_fields
  runs_ops_each [] q = tt
  runs_ops_each (r ∷ rs) q =
      each_append Own (styled r.style (text_ops newline r.chars)) (runs_ops newline rs) (run_ops_each r.style r.chars q.0) (runs_ops_each rs q.1)

  -- a leaf, and what follows it
  leaf_ops_each : (directly : Bool) (n : Leaf ℕ) (r : Fields ℕ) → Values Q (leaf_fields n r) → Each Own (leaf_ops newline directly n) × Values Q r
  unfolding leaf_ops run_ops leaf_fields own_items is_text
  leaf_ops_each directly (text x) r q = (run_ops_each x.style x.chars q.0, q.1)
  leaf_ops_each directly (anchor definition a []) r q = (((H.opened definition a q.0.0, (H.closed, tt)), tt), q.1)
  leaf_ops_each directly (anchor definition a (x ∷ xs)) r q =
      (((H.opened definition a q.0.0, tt), each_append Own (runs_ops newline (x ∷ xs)) (mark close_anchor ∷ []) (runs_ops_each (x ∷ xs) q.0.1) ((H.closed, tt), tt)), q.1)
  leaf_ops_each directly space r q = ((tt, tt), q.1)
  leaf_ops_each directly force r q = ((tt, tt), q.1)
  leaf_ops_each true (if_block v) r q = (text_each v (H.texts 7 v refl q.0), q.1)
  leaf_ops_each false (if_block v) r q = (tt, q.1)

  mutual
    unfolding ops frag_fields own_items

    ops_each : (directly : Bool) (t : Frag ℕ) → Values Q (frag_fields t) → Each Own (ops newline directly t)
    ops_each directly stop q = tt
    ops_each directly (leaf n r) q =
        let (h, k) = leaf_ops_each directly n (frag_fields r) q in
        each_append Own (leaf_ops newline directly n) (ops newline directly r) h (ops_each directly r k)
    ops_each directly (block indented fs r) q =
        (tt, (tt, each_append Own (indented_ops newline fs) (unindent ∷ ops newline directly r) (indented_each fs q.0) (tt, ops_each directly r q.1)))
    ops_each directly (block flexible fs r) q = each_append Own (inline_ops newline fs) (ops newline directly r) (inline_each fs q.0) (ops_each directly r q.1)

    indented_each : (fs : Frags ℕ) → Values Q (frags_fields fs) → Each Own (indented_ops newline fs)
    indented_each none_left q = tt
    indented_each (frag f fs) q = each_append Own (ops newline true f) (break a_newline ∷ indented_ops newline fs) (ops_each true f q.0) (tt, indented_each fs q.1)

    inline_each : (fs : Frags ℕ) → Values Q (frags_fields fs) → Each Own (inline_ops newline fs)
    inline_each none_left q = tt
    inline_each (frag f fs) q = each_append Own (ops newline false f) (inline_ops newline fs) (ops_each false f q.0) (inline_each fs q.1)

  -- IT HOLDS OF EVERY ITEM OF A TREE'S PAGE
  pub items_each : (t : Frag ℕ) → Values Q (frag_fields t) → Each P (items newline t)
  unfolding items
  items_each t q = run_each start (ops newline false t) (ops_each false t q)
