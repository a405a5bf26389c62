-- Scripts, computed: the file of each, or its refusal with number and place.
use Rattle.rules.proofs.Basics.{◌≡◌, refl, List, [], ◌∷◌, ◌++◌, map, Option, none, some, true, false, ℕ, zero, suc, replicate}
use Prim.Native.String.{String}
use Rattle.rules.specs.Bytes.{ascii}
use Rattle.rules.specs.Result.{Result, refused, accepted, ◌>>=◌}
use Rattle.rules.specs.Walk.{Fields, end, bytes}
use Rattle.rules.specs.Tree.{Run, indented, flexible}
use Rattle.rules.specs.Encode.{field}
use Rattle.rules.specs.Cases.{unhex, nested}
use Rattle.scripts.specs.Joins.{unstyled}
use Rattle.scripts.specs.Script.{spaced, commas, start}
use Rattle.scripts.specs.Shown.{shown}
use Rattle.scripts.specs.Steps.{Step, put_text, put_space, put_force, put_conditional, open_anchor, close_anchor, open_block, close_block, open_fragment, close_fragment, begin_join, next_entry, end_space_join, end_comma_join, steps, finish}
use Rattle.scripts.proofs.Open.{scripts_open}

pub record ScriptCase : Type 0 where
  pub room : ℕ
  pub asked : List Step
  pub right : Result (List ℕ)

unfoldable pub file : (room : ℕ) → List Step → Result (List ℕ)
file room xs = do
  s ← steps room xs start
  n ← finish s
  accepted (shown s)

unfoldable pub writes : (room : ℕ) → String → List Step → ScriptCase
writes room s xs = record { room = room; asked = xs; right = accepted (unhex s) }

unfoldable pub no : (room number place : ℕ) → List Step → ScriptCase
no room n p xs = record { room = room; asked = xs; right = refused n p }

abbrev pub plain : String → Run ℕ
plain s = unstyled (ascii s)

abbrev pub say : String → Step
say s = put_text (plain s)

abbrev pub long : ℕ → Step
long n = put_text (unstyled (replicate n 97))

-- a byte that is not UTF-8
abbrev pub wrong : List ℕ
wrong = 255 ∷ []

-- a size of 118, which is too large
abbrev pub large : Option (Fields ℕ)
large = some (bytes 35 (118 ∷ []) end)

-- n blocks around some steps, and n blocks that are opened before them
unfoldable pub around : ℕ → List Step → List Step
around zero xs = xs
around (suc n) xs = (open_block indented ∷ open_fragment ∷ around n xs) ++ (close_fragment ∷ close_block ∷ [])

unfoldable pub behind : ℕ → List Step → List Step
behind zero xs = xs
behind (suc n) xs = open_block indented ∷ open_fragment ∷ behind n xs

-- P1's call
abbrev pub call : List Step
call = begin_join commas (some (plain "f(")) ∷ next_entry ∷ say "a" ∷ next_entry ∷ say "b" ∷ end_comma_join (plain ")") ∷ []

unfoldable pub scripts : List ScriptCase
scripts =
    -- P1 by a comma join, in 52 bytes and in 51
    writes 52 "0100051100026628 040022 080011 01000411000161 0100041100012C 050000 08000B 01000411000162 0700012C 01000411000129" call
    ∷ no 51 10 52 call
    -- joins without entries; a space join
    ∷ writes 60 "01000411000128 040000 01000411000129" (begin_join commas (some (plain "(")) ∷ end_comma_join (plain ")") ∷ [])
    ∷ writes 60 "01000411000178 040000" (begin_join spaced (some (plain "x")) ∷ end_space_join ∷ [])
    ∷ writes 60 "01000411000178 04000D 08000A 050000 01000411000179" (begin_join spaced (some (plain "x")) ∷ next_entry ∷ say "y" ∷ end_space_join ∷ [])
    -- a join in a join
    ∷ writes 60 "01000411000128 04001E 08001B 01000411000178 04000D 08000A 050000 01000411000179 0700012C 01000411000129"
    (begin_join commas (some (plain "(")) ∷ next_entry ∷ begin_join spaced (some (plain "x")) ∷ next_entry ∷ say "y" ∷ end_space_join ∷ end_comma_join (plain ")") ∷ [])
    -- behind the node just written: a text, an anchor, a join
    ∷ writes 60 "01000411000178 040006 080003 050000" (say "x" ∷ begin_join spaced none ∷ next_entry ∷ end_space_join ∷ [])
    ∷ writes 60 "02000B 13000170 01000411000178 040007 080004 0700012C 01000411000129"
    (open_anchor false (ascii "p") ∷ say "x" ∷ close_anchor ∷ begin_join commas none ∷ next_entry ∷ end_comma_join (plain ")") ∷ [])
    ∷ writes 60 "01000411000178 040000 040000" (begin_join spaced (some (plain "x")) ∷ end_space_join ∷ begin_join spaced none ∷ end_space_join ∷ [])
    -- all other steps
    ∷ writes 60 "060000 0700017C 040006 080003 050000"
    (put_force ∷ put_conditional (ascii "|") ∷ open_block flexible ∷ open_fragment ∷ put_space ∷ close_fragment ∷ close_block ∷ [])
    ∷ writes 60 "020004 12000170" (open_anchor true (ascii "p") ∷ close_anchor ∷ [])
    -- 32 blocks, and a 33rd
    ∷ record { room = 192; asked = around 32 []; right = accepted (nested 32) }
    ∷ no 400 6 192 (around 33 [])
    -- 11: no node to stand behind, also where a space join put its 5; what is open is another; finishing with one open
    ∷ no 60 11 0 (begin_join spaced none ∷ [])
    ∷ no 60 11 16 (begin_join spaced (some (plain "x")) ∷ next_entry ∷ begin_join spaced none ∷ [])
    ∷ no 60 11 3 (put_space ∷ close_block ∷ [])
    ∷ no 60 11 16 (begin_join spaced (some (plain "x")) ∷ next_entry ∷ close_fragment ∷ [])
    ∷ no 60 11 10 (begin_join commas (some (plain "x")) ∷ end_space_join ∷ [])
    ∷ no 60 11 3 (open_block flexible ∷ [])
    -- 7, 8, 9, 10 at the write position, 10 with the bytes needed
    ∷ no 60 7 3 (put_space ∷ put_text (unstyled wrong) ∷ [])
    ∷ no 60 8 3 (put_space ∷ put_text (record { style = large; chars = [] }) ∷ [])
    ∷ no 60 9 3 (put_space ∷ open_anchor true (ascii "\"") ∷ [])
    ∷ no 6 10 7 (say "a" ∷ [])
    -- 11 before 7, 8 before 7, 7 before 9, 7 and 8 before 6, 7 before 10
    ∷ no 60 11 3 (open_block flexible ∷ put_text (unstyled wrong) ∷ [])
    ∷ no 60 8 0 (put_text (record { style = large; chars = wrong }) ∷ [])
    ∷ no 60 7 0 (open_anchor true (34 ∷ wrong) ∷ [])
    ∷ no 400 7 192 (behind 32 (begin_join commas (some (unstyled wrong)) ∷ []))
    ∷ no 400 8 192 (behind 32 (begin_join commas (some (record { style = large; chars = [] })) ∷ []))
    ∷ no 400 6 192 (behind 32 (begin_join commas (some (plain "x")) ∷ []))
    ∷ no 6 7 0 (put_text (unstyled wrong) ∷ [])
    -- 60,000 bytes and one more, which is 1 before 10
    ∷ record { room = 60_000; asked = put_space ∷ long 59_991 ∷ []; right = accepted (field 5 [] ++ field 1 (field 17 (replicate 59_991 97))) }
    ∷ no 6 1 3 (put_space ∷ long 59_992 ∷ [])
    ∷ []

pub scripts_hold : map (λ c. file c.room c.asked) scripts ≡ map (λ c. c.right) scripts
unfolding scripts_open file writes no around behind scripts
scripts_hold = refl
