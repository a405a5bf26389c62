-- `markup::css::put_own_size` meets its contract.
use Rattle.rules.proofs.Basics.{rules}
use mir.Syntax.{w8}
use mir.Val.{SFits}
use Rattle.rules.specs.Bytes.{ascii}
use Rattle.markup.proofs.SizeLaws.{own_text, own_allowed}
use Rattle.markup.proofs.Joins.{done, ◌▸◌, one_text}
use Rattle.markup.proofs.css.put_own_size.Goals as goal

pub put_em-requires : goal.put_em-requires
put_em-requires c =
    let f : SFits w8 c.args.st.size = search rules in own_allowed _ c.requires.has_size_value f c.requires.allowed_size

pub returns : goal.returns
unfolding ascii
returns c =
    let f : SFits w8 c.args.st.size = search rules in
    one_text (own_text _ c.requires.has_size_value f)
    (c.put_bytes.ensures ▸ c.put_em.ensures ▸ c.put_bytes-2.ensures ▸ c.put_alignment.ensures ▸ done)
