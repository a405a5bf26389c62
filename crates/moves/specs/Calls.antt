-- The style record of the fields of a 16, and the call of a step: what an accepted file is read off as. And what the types of a call's style say.
use Rattle.std.specs.Prelude.{◌≡◌, List, [], ◌∷◌, map, Bool, true, false, ℕ, ◌<◌, length, get_or}
use Rattle.std.proofs.Math.Option.{Option, none, some}
use Rattle.rules.specs.Walk.{Fields}
use Rattle.rules.specs.Tree.{Run, bytes_of, indented, flexible}
use Rattle.rules.specs.Good.{Bytes}
use Rattle.scripts.specs.Script.{spaced, commas}
use Rattle.scripts.specs.Steps.{Step, put_text, put_space, put_force, put_conditional, open_anchor, close_anchor, open_block, close_block, open_fragment, close_fragment, begin_join, next_entry, end_space_join, end_comma_join}
use Rattle.moves.specs.declared.Style.{Style}
use Rattle.moves.specs.declared.Op.{Op}
use Rattle.moves.specs.declared.Op.TheVariants as op
use Rattle.moves.specs.Asked.{Call}

-- ---- styles

-- a colour is three bytes and an opacity four, by their types
pub record Sized (st : Style) : Type 0 where
  pub colour_is : length st.colour ≡ 3
  pub opacity_is : length st.opacity ≡ 4

abbrev pub AllSized : List Call → Type 0
AllSized [] = Unit {0}
AllSized (c ∷ cs) = Sized c.style × AllSized cs

-- and their bytes are below 256
pub record InBytes (c : Call) : Type 0 where
  pub colour_bytes : Bytes c.style.colour
  pub opacity_bytes : Bytes c.style.opacity
  pub thickness_byte : c.style.thickness < 256
  pub size_byte : c.style.size < 256
  pub text_bytes : Bytes c.text

abbrev pub AllInBytes : List Call → Type 0
AllInBytes [] = Unit {0}
AllInBytes (c ∷ cs) = InBytes c × AllInBytes cs

unfoldable pub is_some : {A : Type 0} → Option A → Bool
is_some none = false
is_some (some a) = true

-- a field's value, or another where there is none
unfoldable pub or_else : Option (List ℕ) → List ℕ → List ℕ
or_else none d = d
or_else (some v) d = v

unfoldable pub no_style : Style
no_style = record {
  styled = false;
  has_colour = false;
  colour = 0 ∷ 0 ∷ 0 ∷ [];
  has_opacity = false;
  opacity = 0 ∷ 0 ∷ 0 ∷ 0 ∷ [];
  has_thickness = false;
  thickness = 0;
  has_size = false;
  size = 0;
  subscript = false;
  superscript = false;
  dim = false;
  underline = false;
}

unfoldable pub style_record : Option (Fields ℕ) → Style
style_record none = no_style
style_record (some i) = record {
  styled = true;
  has_colour = is_some (bytes_of 32 i);
  colour = or_else (bytes_of 32 i) (0 ∷ 0 ∷ 0 ∷ []);
  has_opacity = is_some (bytes_of 33 i);
  opacity = or_else (bytes_of 33 i) (0 ∷ 0 ∷ 0 ∷ 0 ∷ []);
  has_thickness = is_some (bytes_of 34 i);
  thickness = get_or (or_else (bytes_of 34 i) []) 0 0;
  has_size = is_some (bytes_of 35 i);
  size = get_or (or_else (bytes_of 35 i) []) 0 0;
  subscript = is_some (bytes_of 36 i);
  superscript = is_some (bytes_of 37 i);
  dim = is_some (bytes_of 38 i);
  underline = is_some (bytes_of 39 i);
}

-- ---- calls

abbrev pub with_run : Op → Run ℕ → Call
with_run o r = record { op = o; style = style_record r.style; text = r.chars }

abbrev pub with_text : Op → List ℕ → Call
with_text o v = record { op = o; style = no_style; text = v }

unfoldable pub call_of : Step → Call
call_of (put_text r) = with_run op.Text r
call_of put_space = with_text op.Space []
call_of put_force = with_text op.Force []
call_of (put_conditional v) = with_text op.Conditional v
call_of (open_anchor true v) = with_text op.OpenDefinition v
call_of (open_anchor false v) = with_text op.OpenUse v
call_of close_anchor = with_text op.CloseAnchor []
call_of (open_block indented) = with_text op.OpenIndented []
call_of (open_block flexible) = with_text op.OpenFlexible []
call_of close_block = with_text op.CloseBlock []
call_of open_fragment = with_text op.OpenFragment []
call_of close_fragment = with_text op.CloseFragment []
call_of (begin_join spaced (some r)) = with_run op.BeginSpaceJoin r
call_of (begin_join spaced none) = with_text op.BeginSpaceJoinBehind []
call_of (begin_join commas (some r)) = with_run op.BeginCommaJoin r
call_of (begin_join commas none) = with_text op.BeginCommaJoinBehind []
call_of next_entry = with_text op.NextEntry []
call_of end_space_join = with_text op.EndSpaceJoin []
call_of (end_comma_join r) = with_run op.EndCommaJoin r

unfoldable pub calls_of : List Step → List Call
calls_of xs = map call_of xs
