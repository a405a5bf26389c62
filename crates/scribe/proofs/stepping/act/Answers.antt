-- `scribe::stepping::act` meets its contract: a piece, fields closed, a field opened, a piece.
use Rattle.rules.proofs.Basics.{refl}
use Rattle.moves.specs.Stepped.{said}
use Rattle.scribe.proofs.ActLaws.{before_short, behind_short, sane₁, closable₁, position₁, near, carried}
use Rattle.scribe.proofs.stepping.act.Goals as goal

pub put_piece-a-requires : goal.put_piece-a-requires
put_piece-a-requires c = before_short _ _ _ _ _ _ c.requires

pub open_field-s-requires : goal.open_field-s-requires
open_field-s-requires c = (position₁ _ _ _ _ _ _ c.requires c.put_piece-a.ensures, c.close_fields-t.ensures.1)

pub put_piece-b-requires : goal.put_piece-b-requires
put_piece-b-requires c = behind_short _ _ _ _ _ _ c.requires

pub returns : goal.returns
returns c =
    unfold said in let r = carried _ _ _ _ _ _ c.requires c.put_piece-a.ensures c.close_fields-t.ensures c.open_field-s.ensures c.put_piece-b.ensures (refl, refl, refl) in
    record { says = r; near = near _ _ _ _ _ _ c.requires c.put_piece-a.ensures c.close_fields-t.ensures c.open_field-s.ensures r refl }

pub close_fields-t-requires-clause-top_value : goal.close_fields-t-requires-clause-top_value
close_fields-t-requires-clause-top_value c = sane₁ _ _ _ _ _ _ c.requires c.put_piece-a.ensures

pub close_fields-t-requires-clause-closes_value : goal.close_fields-t-requires-clause-closes_value
close_fields-t-requires-clause-closes_value c = closable₁ _ _ _ _ _ _ c.requires c.put_piece-a.ensures
