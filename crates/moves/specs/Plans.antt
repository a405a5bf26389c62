-- What each step does where it is allowed: the table of steps by what is open. Kinds are the numbers of `Shown.opened_number`, and 8 the root.
use Rattle.std.specs.Prelude.{List, [], ◌∷◌, ◌++◌, Bool, true, false, ◌&&◌, ◌||◌, not, Option, Some, None, ℕ, zero, suc, ◌+◌, ◌*◌, ◌/◌, ◌%◌, leb, ltb, eqb, if◌then◌else◌}
use Rattle.rules.specs.Limits.{most_bytes, most_blocks}
use Rattle.rules.specs.Result.{Check, ◌or_refuse◌}
use Rattle.rules.specs.Walk.{text_content, anchor_content}
use Rattle.rules.specs.Encode.{field}
use Rattle.scripts.specs.Joins.{comma, unstyled}
use Rattle.scripts.specs.Shown.{run_bytes, open_header}
use Rattle.scripts.specs.Steps.{run_checks}
use Rattle.moves.specs.declared.Style.{Style}
use Rattle.moves.specs.declared.Op.{Op}
use Rattle.moves.specs.declared.Op.TheVariants as op
use Rattle.moves.specs.declared.Piece.{Piece}
use Rattle.moves.specs.declared.Piece.TheVariants as piece
use Rattle.moves.specs.declared.Plan.{Plan}
use Rattle.moves.specs.Style.{run, style_size}
use Rattle.moves.specs.Opened.{root_code, link_at}

-- ---- the table

-- the root, a block's fragment or an entry
unfoldable pub fragment_here : (kind : ℕ) → Bool
fragment_here k = leb k 2 || eqb k 8

-- the blocks around the fragment that is open
unfoldable pub depth_in : (code : ℕ) → ℕ
depth_in c = if eqb c root_code then 0 else (c % 32 + 1)

-- fields closed between two pieces
unfoldable pub shuts : Bool → Piece → (closes : ℕ) → Piece → Plan
shuts a b n p = record { allowed = a; before = b; closes = n; opens = None; too_deep = false; behind = p }

unfoldable pub puts : Bool → Piece → Plan
puts a b = shuts a b 0 piece.Nothing

-- and a field opened by its code
unfoldable pub opens : Bool → Piece → (closes code : ℕ) → Piece → Plan
opens a b n c p = record { allowed = a; before = b; closes = n; opens = Some c; too_deep = false; behind = p }

-- a block of a kind, whose depth counts
unfoldable pub begins : Bool → Piece → (kind depth : ℕ) → Plan
begins a b k d = record { allowed = a; before = b; closes = 0; opens = Some (32 * k + d); too_deep = leb most_blocks d; behind = piece.Nothing }

unfoldable pub next_plan : (kind around : ℕ) → Plan
next_plan k d =
    if eqb k 1 then opens true piece.Nothing 1 (32 + d) piece.Space else
    if eqb k 2 then opens true piece.CommaSpace 1 (64 + d) piece.Nothing else
    if eqb k 5 then opens true piece.Nothing 0 (32 + d) piece.Space else
    if eqb k 6 then opens true piece.Nothing 0 (64 + d) piece.Nothing else
    puts false piece.Nothing

unfoldable pub end_space_plan : (kind : ℕ) → Plan
end_space_plan k =
    if eqb k 1 then shuts true piece.Nothing 2 piece.Nothing else
    if eqb k 5 then shuts true piece.Nothing 1 piece.Nothing else
    puts false piece.Nothing

unfoldable pub end_comma_plan : (kind : ℕ) → Plan
end_comma_plan k =
    if eqb k 2 then shuts true piece.LastComma 2 piece.Run else
    if eqb k 6 then shuts true piece.Nothing 1 piece.Run else
    puts false piece.Nothing

-- by the code of what is open; `own` where the open fragment has a node of its own
unfoldable pub plan : Op → (code : ℕ) → (own : Bool) → Plan
plan op.Text c own = puts (fragment_here (c / 32) || eqb (c / 32) 7) piece.Run
plan op.Space c own = puts (fragment_here (c / 32)) piece.Space
plan op.Force c own = puts (fragment_here (c / 32)) piece.Force
plan op.Conditional c own = puts (fragment_here (c / 32)) piece.Conditional
plan op.OpenDefinition c own = opens (fragment_here (c / 32)) piece.Nothing 0 224 piece.Definition
plan op.OpenUse c own = opens (fragment_here (c / 32)) piece.Nothing 0 224 piece.Use
plan op.CloseAnchor c own = shuts (eqb (c / 32) 7) piece.Nothing 1 piece.Nothing
plan op.OpenIndented c own = begins (fragment_here (c / 32)) piece.Nothing 3 (depth_in c)
plan op.OpenFlexible c own = begins (fragment_here (c / 32)) piece.Nothing 4 (depth_in c)
plan op.CloseBlock c own = shuts (eqb (c / 32) 3 || eqb (c / 32) 4) piece.Nothing 1 piece.Nothing
plan op.OpenFragment c own = opens (eqb (c / 32) 3 || eqb (c / 32) 4) piece.Nothing 0 (c % 32) piece.Nothing
plan op.CloseFragment c own = shuts (eqb (c / 32) 0) piece.Nothing 1 piece.Nothing
plan op.BeginSpaceJoin c own = begins (fragment_here (c / 32)) piece.Run 5 (depth_in c)
plan op.BeginSpaceJoinBehind c own = begins (fragment_here (c / 32) && own) piece.Nothing 5 (depth_in c)
plan op.BeginCommaJoin c own = begins (fragment_here (c / 32)) piece.Run 6 (depth_in c)
plan op.BeginCommaJoinBehind c own = begins (fragment_here (c / 32) && own) piece.Nothing 6 (depth_in c)
plan op.NextEntry c own = next_plan (c / 32) (c % 32)
plan op.EndSpaceJoin c own = end_space_plan (c / 32)
plan op.EndCommaJoin c own = end_comma_plan (c / 32)
plan op.Finish c own = puts (eqb (c / 32) 8) piece.Nothing

-- where the nodes of the open fragment begin, behind the 5 that a space join puts before an entry
unfoldable pub first_node : (code top : ℕ) → ℕ
first_node c top =
    if eqb c root_code then 0 else
    if eqb (c / 32) 1 then top + 5 else
    (top + 2)

-- ---- pieces

unfoldable pub piece_bytes : Piece → Style → (text : List ℕ) → List ℕ
piece_bytes piece.Nothing st v = []
piece_bytes piece.Run st v = run_bytes (run st v)
piece_bytes piece.Space st v = field 5 []
piece_bytes piece.Force st v = field 6 []
piece_bytes piece.Conditional st v = field 7 v
piece_bytes piece.Definition st v = field 18 v
piece_bytes piece.Use st v = field 19 v
piece_bytes piece.CommaSpace st v = run_bytes (unstyled comma) ++ field 5 []
piece_bytes piece.LastComma st v = field 7 comma

unfoldable pub piece_size : Piece → Style → (n : ℕ) → ℕ
piece_size piece.Nothing st n = 0
piece_size piece.Run st n = 6 + style_size st + n
piece_size piece.Space st n = 3
piece_size piece.Force st n = 3
piece_size piece.Conditional st n = 3 + n
piece_size piece.Definition st n = 3 + n
piece_size piece.Use st n = 3 + n
piece_size piece.CommaSpace st n = 10
piece_size piece.LastComma st n = 4

unfoldable pub piece_checks : Piece → Style → (text : List ℕ) → List Check
piece_checks piece.Nothing st v = []
piece_checks piece.Run st v = run_checks (run st v)
piece_checks piece.Space st v = []
piece_checks piece.Force st v = []
piece_checks piece.Conditional st v = text_content v
piece_checks piece.Definition st v = anchor_content v
piece_checks piece.Use st v = anchor_content v
piece_checks piece.CommaSpace st v = []
piece_checks piece.LastComma st v = []

-- ---- plans

-- a header with a code, or none
unfoldable pub opened_header : (opens : Option ℕ) → (top : ℕ) → List ℕ
opened_header (Some c) top = open_header c top
opened_header None top = []

unfoldable pub opened_top : (opens : Option ℕ) → (at top : ℕ) → ℕ
opened_top (Some c) at top = suc at
opened_top None at top = top

unfoldable pub header_size : (opens : Option ℕ) → ℕ
header_size (Some c) = 3
header_size None = 0

unfoldable pub plan_size : Plan → Style → (n : ℕ) → ℕ
plan_size p st n = piece_size p.before st n + header_size p.opens + piece_size p.behind st n

unfoldable pub plan_checks : Plan → Style → (text : List ℕ) → List Check
plan_checks p st v = piece_checks p.before st v ++ (piece_checks p.behind st v ++ (not p.too_deep or_refuse 6 ∷ []))

-- the number of the first check that fails, or 0
unfoldable pub first_fault : List Check → ℕ
first_fault [] = 0
first_fault (b or_refuse n ∷ cs) = if b then first_fault cs else n

-- ---- states

-- numbers that a writer can have: the position is in a file and in the buffer, and an open header in front of it
unfoldable pub sane : (room at top : ℕ) → Bool
sane room at top = leb at most_bytes && leb at room && (eqb top 0 || leb (top + 2) at)

-- so many fields are open; where two are closed, the outer one stands in front of the inner one
unfoldable pub closable : List ℕ → (top closes : ℕ) → Bool
closable w top zero = true
closable w top (suc zero) = leb 1 top
closable w top (suc (suc n)) = leb 1 top && (leb 1 (link_at w top) && ltb (link_at w top) top)
