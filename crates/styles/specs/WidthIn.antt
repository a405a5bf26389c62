-- The width of a byte under the style that the fields of some bytes say, put in from the front as one number.
use Rattle.std.specs.Prelude.{List, ◌||◌, ℕ, ◌+◌, ltb, eqb, length, ℤ, if◌then◌else◌}
use Rattle.std.proofs.Math.Option.{Option, none, some}
use Rattle.rules.specs.Tree.{Styles, signed_byte}
use Rattle.rules.specs.Layout.{byte_width, effective}
use Rattle.styles.specs.StylesIn.{right_value}

-- 256 are added once a size was read
unfoldable pub sized : Option ℤ → ℕ → ℕ
sized none w = w
sized (some size) w = 256 + w

-- the number of a style
unfoldable pub measure : Styles → ℕ
measure st = sized st.size (byte_width (effective st))

-- a script: a size that was read stays
unfoldable pub script : ℕ → ℕ
script n = if ltb n 256 then 8 else n

unfoldable pub script_with : ℕ → List ℕ → ℕ
script_with n v = if eqb (length v) 0 then script n else n

-- a field put into the number, where its value counts
unfoldable pub width_with : ℕ → ℕ → List ℕ → ℕ
width_with n t v =
    if right_value t v
    then
    (if eqb 35 t then 256 + byte_width (some (signed_byte v)) else
    if (eqb 36 t || eqb 37 t) then script n else n)
    else n
