-- What the check of a value and of the fields in it answers: the rules' walk in either mode, as a check.
use Rattle.std.specs.Prelude.{List, ◌++◌, ◌≡◌, Bool, true, false, ◌&&◌, ◌||◌, not, ℕ, ◌+◌, ◌≤◌, ◌<◌, ◌^◌, leb, eqb, length, get_or}
use Rattle.rules.specs.Limits.{most_blocks}
use Rattle.rules.specs.Bytes.{has}
use Rattle.rules.specs.Result.{Result, ◌>>=◌, ◌>>◌, need, sound}
use Rattle.rules.specs.Walk.{Holder, in_fragment, in_text, Value, content_in, valued, walk, holds, complete, tags, allowed, right_length, is_block}
use Rattle.rules.specs.Tree.{Frag}
use Rattle.rules.specs.Good.{depth_in}
use Rattle.rules.specs.Answers.{itself, tree, strict_tree, check_answer_by}
use Rattle.verify.specs.Said.{done}

-- the content of a field of the tag t at the place p, inside d blocks
unfoldable pub content_result : (strict : Bool) → (t d p : ℕ) → List ℕ → Result (Value ℕ)
content_result strict t d p v = valued (content_in strict) itself (holds t) t p v (λ h. walk (content_in strict) itself (length v) h (depth_in t d) 0 (p + 3) v)

-- its fixed length and its depth, then its content
unfoldable pub value_result : (strict : Bool) → (t d p : ℕ) → List ℕ → Result (Value ℕ)
value_result strict t d p v = need (right_length t (length v)) 5 p >> (need (not (is_block t && leb most_blocks d)) 6 p >> content_result strict t d p v)

-- what is left of the fields of the holder h at `place`, inside d blocks: r, which stands at `at`, after the tags ts, the last of which is before
unfoldable pub rest_result : (strict : Bool) → Holder → (ts : List ℕ) → (d before place at : ℕ) → List ℕ → Result (Unit {0})
rest_result strict h ts d before place at r = walk (content_in strict) itself (length r) h d before at r >>= λ i. sound (complete h (ts ++ tags i)) place

-- the file's tree and the file check's answer
abbrev pub tree_in : (strict : Bool) → List ℕ → Result (Frag ℕ)
tree_in false s = tree s
tree_in true s = strict_tree s

abbrev pub answer_in : (strict : Bool) → List ℕ → Result ℕ
answer_in strict s = check_answer_by (tree_in strict) s

-- ---- as checks

pub record ValueSaid (strict : Bool) (t d p : ℕ) (v : List ℕ) (x : Result (Unit {0})) : Type 0 where
  pub is : x ≡ done (value_result strict t d p v)

pub record RestSaid (strict : Bool) (h : Holder) (ts : List ℕ) (d before place at : ℕ) (r : List ℕ) (x : Result (Unit {0})) : Type 0 where
  pub is : x ≡ rest_result strict h ts d before place at r

-- ---- what they ask for

-- the bytes of s from `from` to `end`, held by what stands at `place`; places leave room for a number
pub record Between (s : List ℕ) (place from end : ℕ) : Type 0 where
  pub behind : place ≤ from
  pub rising : from ≤ end
  pub ends : end ≤ length s
  pub small : length s < 2 ^ 48

-- a node of the tag t at `at` of s, up to `to`
pub record Node (s : List ℕ) (t at to : ℕ) : Type 0 where
  pub right_tag : allowed in_fragment 0 t ≡ true
  pub value : Between s at (at + 3) to

-- one that is no block
pub record Leaf (s : List ℕ) (t at to : ℕ) : Type 0 where
  pub node : Node s t at to
  pub no_block : is_block t ≡ false

-- in a text, after the tags ts, the last of which is before: a 17 has not come, and what stands at `at`, if anything does, has to be one
pub record TextLeft (before : ℕ) (ts s : List ℕ) (at end : ℕ) : Type 0 where
  pub none_yet : has 17 ts ≡ false
  pub one_wanted : at < end → allowed in_text before (get_or s at 0) ≡ eqb (get_or s at 0) 17

-- in an anchor, after the tags ts, the last of which is before: its name has come
pub record Named (before : ℕ) (ts : List ℕ) : Type 0 where
  pub not_first : before ≡ 0 → ⊥
  pub named : (has 18 ts || has 19 ts) ≡ true
