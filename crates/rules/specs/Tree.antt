-- The tree of a fragment file. X is what stands for a byte of a text or an anchor: the byte itself, or its place in the file.
use Rattle.std.specs.Prelude.{List, [], ◌∷◌, map, Bool, true, false, ℕ, eqb, ℤ, if◌then◌else◌}
use Rattle.std.proofs.Math.Option
use Rattle.std.proofs.Math.Option.{Option, none, some}
use Rattle.rules.specs.Limits.{last_style}
use Rattle.rules.specs.Bytes.{has, number}
use Rattle.rules.specs.Digits.{signed}
use Rattle.rules.specs.Result.{Result, accepted, ◌>>=◌}
use Rattle.rules.specs.Walk.{Fields, end, bytes, inside, tags, Content, check_to}

-- what the fields of a 16 say: three bytes of colour, the opacity's float bits, signed bytes for thickness and size
pub record Styles : Type 0 where
  pub colour : Option (List ℕ)
  pub opacity : Option ℕ
  pub thickness : Option ℤ
  pub size : Option ℤ
  pub subscript : Bool
  pub superscript : Bool
  pub dim : Bool
  pub underline : Bool

-- a text, with the fields of its 16 where it has one
pub record Run (X : Type 0) : Type 0 where
  pub style : Option (Fields ℕ)
  pub chars : List X

-- the nodes that hold no fragments: tags 1, 2 (a definition or a use), 5, 6 and 7
pub data Leaf (X : Type 0) : Type 0 where
  text : Run X → Leaf X
  anchor : (definition : Bool) → List X → List (Run X) → Leaf X
  space : Leaf X
  force : Leaf X
  if_block : List X → Leaf X

-- tags 3 and 4
pub data Kind : Type 0 where
  indented flexible : Kind

-- a fragment is nodes in order, a block fragments in order
mutual
  pub data Frag (X : Type 0) : Type 0 where
    stop : Frag X
    leaf : Leaf X → Frag X → Frag X
    block : Kind → Frags X → Frag X → Frag X

  pub data Frags (X : Type 0) : Type 0 where
    none_left : Frags X
    frag : Frag X → Frags X → Frags X

-- ---- the tree of some fields

-- the bytes, or the fields, of the first field with a tag
unfoldable pub bytes_of : {X : Type 0} → ℕ → Fields X → Option (List X)
bytes_of t end = none
bytes_of t (bytes u v r) = if eqb t u then some v else bytes_of t r
bytes_of t (inside u i r) = bytes_of t r

unfoldable pub fields_of : {X : Type 0} → ℕ → Fields X → Option (Fields X)
fields_of t end = none
fields_of t (bytes u v r) = fields_of t r
fields_of t (inside u i r) = if eqb t u then some i else fields_of t r

unfoldable pub or_empty : {X : Type 0} → Option (List X) → List X
or_empty none = []
or_empty (some v) = v

-- the same fields, each X replaced by a function
unfoldable pub map_fields : {X Y : Type 0} → (X → Y) → Fields X → Fields Y
map_fields f end = end
map_fields f (bytes t v r) = bytes t (map f v) (map_fields f r)
map_fields f (inside t i r) = inside t (map_fields f i) (map_fields f r)

unfoldable pub signed_byte : List ℕ → ℤ
signed_byte v = signed (number v)

unfoldable pub styles_of : Fields ℕ → Styles
styles_of i = record {
  colour = bytes_of 32 i;
  opacity = Option.map number (bytes_of 33 i);
  thickness = Option.map signed_byte (bytes_of 34 i);
  size = Option.map signed_byte (bytes_of 35 i);
  subscript = has 36 (tags i);
  superscript = has 37 (tags i);
  dim = has 38 (tags i);
  underline = has 39 (tags i);
}

module _ {X : Type 0} (byte : X → ℕ) where
  unfoldable pub run_of : Fields X → Run X
  run_of i = record { style = Option.map (map_fields byte) (fields_of 16 i); chars = or_empty (bytes_of 17 i) }

  unfoldable pub runs_of : Fields X → List (Run X)
  runs_of end = []
  runs_of (bytes t v r) = runs_of r
  runs_of (inside t i r) = run_of i ∷ runs_of r

  unfoldable pub anchor_of : Fields X → Leaf X
  anchor_of i =
      if has 18 (tags i)
      then anchor true (or_empty (bytes_of 18 i)) (runs_of i)
      else anchor false (or_empty (bytes_of 19 i)) (runs_of i)

  unfoldable mutual
    pub frag_of : Fields X → Frag X
    frag_of end = stop
    frag_of (bytes t v r) = leaf (if eqb t 5 then space else if eqb t 6 then force else if_block v) (frag_of r)
    frag_of (inside t i r) =
        if eqb t 1 then leaf (text (run_of i)) (frag_of r) else
        if eqb t 2 then leaf (anchor_of i) (frag_of r) else
        block (if eqb t 3 then indented else flexible) (frags_of i) (frag_of r)

    pub frags_of : Fields X → Frags X
    frags_of end = none_left
    frags_of (bytes t v r) = frags_of r
    frags_of (inside t i r) = frag (frag_of i) (frags_of r)

-- an accepted file's tree, or the refusal
unfoldable pub read_to : (last : ℕ) → Content → {X : Type 0} → (X → ℕ) → List X → Result (Frag X)
read_to last asked byte s = do
  i ← check_to last asked byte s
  accepted (frag_of byte i)

abbrev pub read : Content → {X : Type 0} → (X → ℕ) → List X → Result (Frag X)
read asked byte s = read_to last_style asked byte s
