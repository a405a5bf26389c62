-- The rules before a style could be underlined: the same definitions, with 38 as a style's last tag.
use Rattle.std.specs.Prelude.{List, [], ◌∷◌, Bool, true, false, ◌&&◌, not, ℕ, zero, suc, eqb, length, take, drop}
use Rattle.std.proofs.Math.Option.{Option, none, some}
use Rattle.rules.specs.Bytes.{number}
use Rattle.rules.specs.Result.{Result}
use Rattle.rules.specs.Walk.{Holder, in_fragment, in_block, in_text, in_anchor, in_styles, holds, content}
use Rattle.rules.specs.Tree.{Frag, read_to}
use Rattle.rules.specs.Answers.{itself}

-- the last tag of a style then
abbrev pub earlier_last : ℕ
earlier_last = 38

-- a file's tree by the earlier rules
unfoldable pub earlier_tree : List ℕ → Result (Frag ℕ)
earlier_tree s = read_to earlier_last content itself s

-- ---- files in which no 16 holds a 39

unfoldable pub underlines : Holder → ℕ → Bool
underlines in_fragment t = false
underlines in_block t = false
underlines in_text t = false
underlines in_anchor t = false
underlines in_styles t = eqb t 39

-- what is asked of the fields inside a value; of bytes nothing is
unfoldable pub of_inside : Option Holder → (Holder → Bool) → Bool
of_inside none ask = true
of_inside (some h) ask = ask h

-- no 16 among the fields s of the holder h, or inside them, holds a 39. Fields are read by their headers, whatever else is wrong with them. k is fuel, as
-- many fields as there are bytes
unfoldable pub not_underlined : ℕ → Holder → List ℕ → Bool
not_underlined zero h s = true
not_underlined (suc k) h [] = true
not_underlined (suc k) h (t ∷ s) =
    let n : ℕ = number (take 2 s) in
    not (underlines h t) && (of_inside (holds t) (λ h'. not_underlined k h' (take n (drop 2 s))) && not_underlined k h (drop n (drop 2 s)))

unfoldable pub without_39 : List ℕ → Bool
without_39 s = not_underlined (length s) in_fragment s
