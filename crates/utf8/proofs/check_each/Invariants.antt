-- `utf8::check_each` meets its contract. The loop's invariant: the bytes not yet read are right after what is still wanted exactly if the
-- whole is UTF-8.
use Rattle.rules.proofs.Basics.{◌≡◌, drop}
use Rattle.rules.specs.Utf8.{utf8, utf8_after}
use Rattle.utf8.specs.Owing.{wanted_by}
use Rattle.utf8.proofs.check_each.Given as goal

abbrev pub invariant-loop-b : goal.invariant-loop-b
invariant-loop-b l = utf8_after (wanted_by l.owed) (drop l.b-index l.s) ≡ utf8 l.s
