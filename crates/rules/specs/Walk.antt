-- The file check: house fields, what may stand where, and the walk from the front with refusals 1 and 3 to 9.
-- X is what stands for a byte of the file: the byte itself, or its place in the file.
use Rattle.std.specs.Prelude.{List, [], ◌∷◌, ◌++◌, map, Bool, true, false, ◌&&◌, ◌||◌, not, ℕ, zero, suc, ◌+◌, ◌-◌, leb, ltb, eqb, length, take, drop, if◌then◌else◌}
use Rattle.std.proofs.Math.Option.{Option, none, some}
use Rattle.rules.specs.Limits.{most_bytes, most_blocks, first_style, last_style}
use Rattle.rules.specs.Bytes.{within, has, number}
use Rattle.rules.specs.Utf8.{utf8}
use Rattle.rules.specs.Result.{Result, accepted, ◌>>=◌, ◌>>◌, need, Check, ◌or_refuse◌, sound}

-- ---- the table of fields

-- what holds fields: the file and 8; 3 and 4; 1; 2; 16
pub data Holder : Type 0 where
  in_fragment in_block in_text in_anchor in_styles : Holder

-- what the field of a tag is to the fields in its value; none where its value is bytes
unfoldable pub holds : ℕ → Option Holder
holds t =
    if eqb t 1 then some in_text else
    if eqb t 2 then some in_anchor else
    if eqb t 3 || eqb t 4 then some in_block else
    if eqb t 8 then some in_fragment else
    if eqb t 16 then some in_styles else
    none

-- the tag t is allowed there, after the tag before (0 where it is the first). The last tag of a style is open here and in the walk, so that the rules
-- before a new one are the same definitions (`Earlier`)
unfoldable pub allowed_to : (last : ℕ) → Holder → (before : ℕ) → ℕ → Bool
allowed_to last in_fragment before t = within 1 7 t
allowed_to last in_block before t = eqb t 8
allowed_to last in_text before t = (eqb before 0 && eqb t 16) || (leb before 16 && eqb t 17)
allowed_to last in_anchor before t = if eqb before 0 then eqb t 18 || eqb t 19 else eqb t 1
allowed_to last in_styles before t = within first_style last t && ltb before t

abbrev pub allowed : Holder → (before : ℕ) → ℕ → Bool
allowed h before t = allowed_to last_style h before t

-- the length n is right for the tag: fixed lengths
unfoldable pub right_length : ℕ → ℕ → Bool
right_length t n =
    if eqb t 5 || eqb t 6 || within 36 last_style t then eqb n 0 else
    if eqb t 32 then eqb n 3 else
    if eqb t 33 then eqb n 4 else
    if eqb t 34 || eqb t 35 then eqb n 1 else
    true

-- blocks, whose depth counts
unfoldable pub is_block : ℕ → Bool
is_block t = eqb t 3 || eqb t 4

-- ---- what is asked of a value, in document 01's order

-- the checks of a value of bytes, by its tag. The walk is given them, so that a check that asks for more is the same walk
abbrev pub Content : Type 0
Content = ℕ → List ℕ → List Check

-- an opacity: +0, or the bits of a float from 1/1024 to 1
unfoldable pub right_opacity : ℕ → Bool
right_opacity bits = eqb bits 0 || within 0x3a80_0000 0x3f80_0000 bits

-- a size: a signed byte that is at most 117
unfoldable pub right_size : ℕ → Bool
right_size b = leb b 117 || leb 128 b

-- a text's bytes
unfoldable pub text_content : List ℕ → List Check
text_content v = utf8 v or_refuse 7 ∷ []

-- an anchor's: UTF-8, then no quote
unfoldable pub anchor_content : List ℕ → List Check
anchor_content v = utf8 v or_refuse 7 ∷ not (has 34 v) or_refuse 9 ∷ []

-- document 01's content
unfoldable pub content : Content
content t v =
    if eqb t 17 || eqb t 7 then text_content v else
    if eqb t 18 || eqb t 19 then anchor_content v else
    if eqb t 33 then right_opacity (number v) or_refuse 8 ∷ [] else
    if eqb t 35 then right_size (number v) or_refuse 8 ∷ [] else
    []

-- texts are the values of 17 and 7
unfoldable pub is_text : ℕ → Bool
is_text t = eqb t 17 || eqb t 7

-- strict mode's: document 01's, and then no NUL in a text
unfoldable pub strict_content : Content
strict_content t v = if is_text t then content t v ++ (not (has 0 v) or_refuse 14 ∷ []) else content t v

-- by the mode
abbrev pub content_in : (strict : Bool) → Content
content_in false t v = content t v
content_in true t v = strict_content t v

-- the checks of the tags that a value of fields has together: a text; a name; colour where there is opacity, and not both scripts
unfoldable pub complete : Holder → List ℕ → List Check
complete in_fragment tags = []
complete in_block tags = []
complete in_text tags = has 17 tags or_refuse 5 ∷ []
complete in_anchor tags = (has 18 tags || has 19 tags) or_refuse 5 ∷ []
complete in_styles tags = not (has 33 tags && not (has 32 tags)) or_refuse 8 ∷ not (has 36 tags && has 37 tags) or_refuse 8 ∷ []

-- ---- the walk

-- the fields of a value, in order: a tag with bytes, or a tag with fields inside
pub data Fields (X : Type 0) : Type 0 where
  end : Fields X
  bytes : ℕ → List X → Fields X → Fields X
  inside : ℕ → Fields X → Fields X → Fields X

unfoldable pub tags : {X : Type 0} → Fields X → List ℕ
tags end = []
tags (bytes t v r) = t ∷ tags r
tags (inside t i r) = t ∷ tags r

-- a field's value, as it was read
pub data Value (X : Type 0) : Type 0 where
  of_bytes : List X → Value X
  of_fields : Fields X → Value X

abbrev pub put : {X : Type 0} → ℕ → Value X → Fields X → Fields X
put t (of_bytes v) r = bytes t v r
put t (of_fields i) r = inside t i r

-- a field at the front of some bytes: its tag, its value, and the bytes after it
pub record Field (X : Type 0) : Type 0 where
  pub tag : ℕ
  pub value : List X
  pub rest : List X

module _ (last : ℕ) {X : Type 0} (byte : X → ℕ) where
  -- the field at the front of x ∷ s, at the place p, in the holder h, inside d blocks, after the tag before: three bytes there, tag, length fits, fixed
  -- length, depth
  unfoldable pub front_to : Holder → (d before p : ℕ) → X → List X → Result (Field X)
  front_to h d before p x s =
      let t : ℕ = byte x in
      let n : ℕ = number (map byte (take 2 s)) in
      do
        need (leb 2 (length s)) 3 p
        need (allowed_to last h before t) 4 p
        need (leb n (length s - 2)) 3 p
        need (right_length t n) 5 p
        need (not (is_block t && leb most_blocks d)) 6 p
        accepted (record { tag = t; value = take n (drop 2 s); rest = drop n (drop 2 s) })

module _ (asked : Content) {X : Type 0} (byte : X → ℕ) where
  -- its content: bytes that are as asked, or the fields that `read` reads, complete
  unfoldable pub valued : Option Holder → (t p : ℕ) → List X → (Holder → Result (Fields X)) → Result (Value X)
  valued none t p v read = do
    sound (asked t (map byte v)) p
    accepted (of_bytes v)
  valued (some h) t p v read = do
    i ← read h
    sound (complete h (tags i)) p
    accepted (of_fields i)

module _ (last : ℕ) (asked : Content) {X : Type 0} (byte : X → ℕ) where
  -- the fields s in the holder h, inside d blocks, from the place p on, after the tag before. k is fuel, as many fields as
  -- there are bytes: where it is used up no byte is left, since more of it changes nothing (`Fuel.enough`)
  unfoldable pub walk_to : ℕ → Holder → (d before p : ℕ) → List X → Result (Fields X)
  walk_to zero h d before p s = accepted end
  walk_to (suc k) h d before p [] = accepted end
  walk_to (suc k) h d before p (x ∷ s) = do
    f ← front_to last byte h d before p x s
    v ← valued asked byte (holds f.tag) f.tag p f.value (λ h'. walk_to k h' (if is_block f.tag then suc d else d) 0 (p + 3) f.value)
    r ← walk_to k h d f.tag (p + (3 + length f.value)) f.rest
    accepted (put f.tag v r)

  -- the file check: its length, then the walk
  unfoldable pub check_to : List X → Result (Fields X)
  check_to s = do
    need (leb (length s) most_bytes) 1 0
    walk_to (length s) in_fragment 0 0 0 s

-- with the style's last tag
abbrev pub front : {X : Type 0} → (X → ℕ) → Holder → (d before p : ℕ) → X → List X → Result (Field X)
front byte h d before p x s = front_to last_style byte h d before p x s

abbrev pub walk : Content → {X : Type 0} → (X → ℕ) → ℕ → Holder → (d before p : ℕ) → List X → Result (Fields X)
walk asked byte k h d before p s = walk_to last_style asked byte k h d before p s

abbrev pub check : Content → {X : Type 0} → (X → ℕ) → List X → Result (Fields X)
check asked byte s = check_to last_style asked byte s
