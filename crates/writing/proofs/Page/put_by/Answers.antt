-- `writing::Page::put_by` meets its contract: what fits is written, and the position moves by the whole length.
use Rattle.rules.proofs.Basics.{◌≡◌, refl, arith, ◌+◌}
use Rattle.writing.proofs.Turns.{saturated}
use Rattle.writing.proofs.Parts.{all_put, some_put, past_the_end}
use Rattle.writing.proofs.Page.put_by.Goals as goal

pub returns-then-n-room : goal.returns-then-n-room
returns-then-n-room g c =
    let e : c.saturating_add-self.result ≡ c.args.self.now.at + c.args.n = omega (arith, c.saturating_add-self.ensures, c.if-n-room.true, c.if-at-self.true) in
    record { put = λ text l begins. record { same = refl; written = rw e (all_put _ _ text l (omega arith) c.if-at-self.true c.if-n-room.true (λ h. begins _ _ h (record { shown = _; shows = refl; left = _; met = c.write.ensures; leaves = refl }))) }; same_page = refl }

pub returns-else-n-room : goal.returns-else-n-room
returns-else-n-room g c =
    let e = saturated _ (omega arith) c.saturating_add-self.ensures in
    record { put = λ text l begins. record { same = refl; written = some_put _ _ text l (omega arith) c.if-at-self.true c.if-n-room.false e (λ h. begins _ _ h (record { shown = _; shows = refl; left = _; met = c.write-else-n-room.ensures; leaves = refl })) }; same_page = refl }

pub returns-else-at-self : goal.returns-else-at-self
returns-else-at-self g c =
    let e = saturated _ (omega arith) c.saturating_add-self.ensures in
    record { put = λ text l begins. record { same = refl; written = past_the_end _ _ _ l e c.if-at-self.false }; same_page = refl }
