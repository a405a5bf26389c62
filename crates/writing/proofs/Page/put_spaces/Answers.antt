-- `writing::Page::put_spaces` meets its contract.
use Rattle.rules.proofs.Basics.{rules, ◌≡◌, sym, ◌∙◌, length, length-replicate, replicate}
use Rattle.std.proofs.lemmas.List.{take-replicate}
use Rattle.writing.proofs.Page.put_spaces.Goals as goal

pub returns : goal.returns
returns c = c.put_by.ensures.put (replicate c.args.n 32) (length-replicate _ _) (λ to to' h p. let q : to' ≡ replicate (length to) 32 = search rules in q ∙ sym (take-replicate _ _ _ h))
