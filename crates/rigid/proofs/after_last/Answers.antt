-- `rigid::after_last` meets its contract.
use Rattle.rules.proofs.Basics.{◌∙◌, ap, length}
use Rattle.std.specs.Option.{unwrap_or}
use Rattle.rigid.proofs.Lines.{after_is}
use Rattle.rigid.proofs.after_last.Goals as goal

pub returns : goal.returns
returns c = c.unwrap_or.ensures ∙ ap (λ o. unwrap_or o (length c.args.v.now)) c.last_newline.ensures ∙ after_is c.args.v.now
