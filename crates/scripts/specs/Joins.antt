-- The two joins of document 000 on trees: `join_space` and `join_comma_sep`, line by line. `Fragment::new` puts the nodes of what it is given one after the
-- other, so that a join's nodes stand in the fragment around it; here `r` is what follows them there.
use Rattle.std.specs.Prelude.{List, [], ◌∷◌, ℕ}
use Rattle.std.proofs.Math.Option.{none}
use Rattle.rules.specs.Tree.{Run, text, space, if_block, Frag, stop, leaf, block, Frags, none_left, frag, flexible}

-- the nodes of one fragment, then those of another
infixr 25 ◌⧺◌
unfoldable pub ◌⧺◌ : Frag ℕ → Frag ℕ → Frag ℕ
stop ⧺ r = r
leaf n f ⧺ r = leaf n (f ⧺ r)
block k fs f ⧺ r = block k fs (f ⧺ r)

-- ","
abbrev pub comma : List ℕ
comma = 44 ∷ []

abbrev pub unstyled : List ℕ → Run ℕ
unstyled v = record { style = none; chars = v }

-- contents.map(|entry| Fragment::new(once(BreakingOnlySpace).chain(entry.nodes)))
unfoldable pub after_spaces : Frags ℕ → Frags ℕ
after_spaces none_left = none_left
after_spaces (frag f fs) = frag (leaf space f) (after_spaces fs)

unfoldable pub join_space : (header : Frag ℕ) → Frags ℕ → Frag ℕ → Frag ℕ
join_space header contents r = header ⧺ block flexible (after_spaces contents) r

-- non_last_child.nodes.extend([",".into(), BreakingOnlySpace])
abbrev pub then_comma : Frag ℕ → Frag ℕ
then_comma f = f ⧺ leaf (text (unstyled comma)) (leaf space stop)

-- last_child.nodes.push(IfBlockLayout(","))
abbrev pub last_comma : Frag ℕ → Frag ℕ
last_comma f = f ⧺ leaf (if_block comma) stop

unfoldable pub with_commas : Frags ℕ → Frags ℕ
with_commas none_left = none_left
with_commas (frag f none_left) = frag (last_comma f) none_left
with_commas (frag f (frag g gs)) = frag (then_comma f) (with_commas (frag g gs))

unfoldable pub join_comma_sep : (prefix : Frag ℕ) → Frags ℕ → (suffix : Frag ℕ) → Frag ℕ → Frag ℕ
join_comma_sep prefix contents suffix r = prefix ⧺ block flexible (with_commas contents) (suffix ⧺ r)
