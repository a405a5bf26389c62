-- Unfinished headers: the code of what is open, the link to what is open around it, and closing.
use Rattle.std.specs.Prelude.{List, ℕ, zero, suc, ◌+◌, ◌-◌, ◌*◌, ◌/◌, ◌%◌, leb, eqb, set, get_or, if◌then◌else◌}

-- the root's code, above every byte
abbrev pub root_code : ℕ
root_code = 256

-- the code of what is open there: the place of its header and 1, or 0
unfoldable pub code_at : List ℕ → (top : ℕ) → ℕ
code_at w zero = root_code
code_at w (suc p) = get_or w p 0

-- where the open field around it is
unfoldable pub link_at : List ℕ → (top : ℕ) → ℕ
link_at w top = get_or w top 0 * 256 + get_or w (top + 1) 0

-- the tag that a field gets when it is closed, by the number of what is open (`Shown.opened_number`)
unfoldable pub true_tag : ℕ → ℕ
true_tag kind =
    if leb kind 2 then 8 else
    if eqb kind 3 then 3 else
    if leb kind 6 then 4 else
    2

-- the header gets its tag and the length of what stands behind it, up to `at`
unfoldable pub closed_in : List ℕ → (at top : ℕ) → List ℕ
closed_in w at top =
    let n : ℕ = at - (top + 2) in
    set (set (set w (top - 1) (true_tag (get_or w (top - 1) 0 / 32))) top (n / 256)) (top + 1) (n % 256)

-- so many fields closed, at most two
unfoldable pub closed_bytes : List ℕ → (at top closes : ℕ) → List ℕ
closed_bytes w at top zero = w
closed_bytes w at top (suc zero) = closed_in w at top
closed_bytes w at top (suc (suc n)) = closed_in (closed_in w at top) at (link_at w top)

unfoldable pub closed_top : List ℕ → (at top closes : ℕ) → ℕ
closed_top w at top zero = top
closed_top w at top (suc zero) = link_at w top
closed_top w at top (suc (suc n)) = link_at (closed_in w at top) (link_at w top)
