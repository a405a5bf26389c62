-- `writing::Page::put` meets its contract: within the page the byte is stored, past its end it is dropped.
use Rattle.rules.proofs.Basics.{refl, arith}
use Rattle.writing.proofs.Turns.{saturated, stored, dropped}
use Rattle.writing.proofs.Page.put.Goals as goal
use Rattle.writing.proofs.Page.put.Goals.{else-at-self, then-at-self}

pub returns : goal.returns
returns c =
    let e = saturated _ (omega arith) c.saturating_add-self.ensures in
    elim c.if-at-self.branch [ then-at-self w ↦ rw w.self-is (record { same = refl; written = stored _ _ _ e }) | else-at-self w ↦ rw w.self-is (record { same = refl; written = dropped _ _ _ e w.if-at-self.false }) ]
