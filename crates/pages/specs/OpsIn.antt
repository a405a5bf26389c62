-- The line operations of a node, of a block's fragments and of a fragment's nodes, by their bytes and the place where these stand in the file, which a choice is
-- asked for; for any bytes, so that the functions have no preconditions beyond the indent's and the place's.
use Rattle.std.specs.Prelude.{List, [], ◌∷◌, ◌++◌, Bool, true, false, ℕ, zero, suc, ◌+◌, leb, eqb, length, get_or, drop, if◌then◌else◌}
use Rattle.rules.specs.Bytes.{newline}
use Rattle.rules.specs.Lines.{mark, push, pop, open_anchor, close_anchor, empty_anchor, break, a_space, a_newline, indent, unindent, text_ops}
use Rattle.fields.specs.declared.Field.{Field}
use Rattle.fields.specs.declared.Field.TheVariants.{Whole, Past, Cut}
use Rattle.fields.specs.FieldAt.{field_at}
use Rattle.styles.specs.StylesIn.{styles_in}
use Rattle.fields.specs.Walk.{part, span, here, rest}
use Rattle.pens.specs.Ops.{Ops}

-- f's operations at each field in turn, for at most k fields; f is given a field's place too
unfoldable pub each : (ℕ → List ℕ → Ops) → ℕ → (at : ℕ) → List ℕ → Ops
each f zero at s = []
each f (suc k) at [] = []
each f (suc k) at (x ∷ s) = f at (here (x ∷ s)) ++ each f k (at + span (x ∷ s)) (rest (x ∷ s))

-- at each field from `from` on, where s stands at `at`
unfoldable pub each_from : (ℕ → List ℕ → Ops) → (at from : ℕ) → List ℕ → Ops
each_from f at from s = each f (length s) (at + from) (drop from s)

-- ---- a text

-- the 17 behind a style
unfoldable pub styled_in : List ℕ → (style : List ℕ) → Field → Ops
styled_in v style (Whole t from to) =
    mark (push (styles_in style)) ∷ (text_ops newline (part v from to) ++ (mark (pop (styles_in style)) ∷ []))
styled_in v style (Past t) = []
styled_in v style Cut = []

-- a 17, or a 16 and a 17
unfoldable pub run_fields_in : List ℕ → Field → Ops
run_fields_in v (Whole t from to) = if eqb t 16 then styled_in v (part v from to) (field_at v to) else text_ops newline (part v from to)
run_fields_in v (Past t) = []
run_fields_in v Cut = []

-- the value of a 1
unfoldable pub run_in : List ℕ → Ops
run_in v = run_fields_in v (field_at v 0)

-- ---- an anchor

-- a field of a 2 behind its name
unfoldable pub run_field_in : List ℕ → Ops
run_field_in h = if leb 3 (length h) then run_in (drop 3 h) else []

-- those from `from` on, wherever they stand
unfoldable pub runs_in : (from : ℕ) → List ℕ → Ops
runs_in from v = each_from (λ at. run_field_in) 0 from v

-- the name, and the runs from `to` on
unfoldable pub named_in : (definition : Bool) → (name : List ℕ) → (to : ℕ) → List ℕ → Ops
named_in definition name to v =
    if leb (length v) to
    then empty_anchor definition name ∷ []
    else mark (open_anchor definition name) ∷ (runs_in to v ++ (mark close_anchor ∷ []))

unfoldable pub anchor_fields_in : List ℕ → Field → Ops
anchor_fields_in v (Whole t from to) = named_in (eqb t 18) (part v from to) to v
anchor_fields_in v (Past t) = []
anchor_fields_in v Cut = []

-- the value of a 2
unfoldable pub anchor_in : List ℕ → Ops
anchor_in v = anchor_fields_in v (field_at v 0)

-- ---- a node

-- a 7 counts only directly in a block
unfoldable pub if_block_in : (directly : Bool) → List ℕ → Ops
if_block_in true v = text_ops newline v
if_block_in false v = []

-- a node that is no block, by its tag
unfoldable pub leaf_in : (directly : Bool) → ℕ → List ℕ → Ops
leaf_in directly t v =
    if eqb t 1 then run_in v else
    if eqb t 2 then anchor_in v else
    if eqb t 5 then break a_space ∷ [] else
    if eqb t 6 then break a_newline ∷ [] else
    if eqb t 7 then if_block_in directly v else
    []

-- a node, whose whole field is h; what a 3 and a 4 give
unfoldable pub node_by : (directly : Bool) → (three four : Ops) → List ℕ → Ops
node_by directly three four h =
    if leb 3 (length h)
    then (if eqb (get_or h 0 0) 3 then three else if eqb (get_or h 0 0) 4 then four else leaf_in directly (get_or h 0 0) (drop 3 h))
    else []

-- behind a fragment of a block
unfoldable pub behind_fragment : (directly : Bool) → Ops
behind_fragment true = break a_newline ∷ []
behind_fragment false = []

-- a block's fragments, each node by g; h is the block's whole field
unfoldable pub fragments_by : (directly : Bool) → (ℕ → List ℕ → Ops) → (at : ℕ) → List ℕ → Ops
fragments_by directly g at h = each_from (λ at f. each_from g at 3 f ++ behind_fragment directly) at 3 h

-- an indented block
unfoldable pub indented_by : (ℕ → List ℕ → Ops) → (at : ℕ) → List ℕ → Ops
indented_by g at h = indent ∷ ((break a_newline ∷ fragments_by true g at h) ++ (unindent ∷ []))

module _ (choice : ℕ → Bool) where
  -- a node, and a fragment's nodes from `from` on, with at most `left` blocks inside each other. A 4 that is chosen is as a 3
  unfoldable pub node_in : (left : ℕ) → (directly : Bool) → (at : ℕ) → List ℕ → Ops
  node_in zero directly at h = node_by directly [] [] h
  node_in (suc left) directly at h =
      let three : Ops = indented_by (node_in left true) at h in
      node_by directly three (if choice at then three else fragments_by false (node_in left false) at h) h

  -- what a 3 gives, and what a 4 does
  unfoldable pub three_in : (left : ℕ) → (at : ℕ) → List ℕ → Ops
  three_in zero at h = []
  three_in (suc left) at h = indented_by (node_in left true) at h

  unfoldable pub four_in : (left : ℕ) → (at : ℕ) → List ℕ → Ops
  four_in zero at h = []
  four_in (suc left) at h = if choice at then indented_by (node_in left true) at h else fragments_by false (node_in left false) at h

  unfoldable pub fragment_in : (left : ℕ) → (directly : Bool) → (at from : ℕ) → List ℕ → Ops
  fragment_in left directly at from s = each_from (node_in left directly) at from s
