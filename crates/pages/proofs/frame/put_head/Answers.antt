-- `pages::frame::put_head` meets its contract: the constants are the rules' texts, by computing.
use Rattle.rules.proofs.Basics.{rules}
use Rattle.rules.proofs.Open.{all_open}
use Rattle.writing.proofs.Laws.{put_nothing, put_then, same_page}
use Rattle.pages.specs.Kinds.{head}
use Rattle.pages.proofs.frame.put_head.Goals as goal

pub returns-in_default : goal.returns-in_default
returns-in_default c = unfold head in record { put = rw c.in_default.is put_nothing; same_page = search rules }

pub returns-in-Body : goal.returns-in-Body
returns-in-Body c = unfold all_open head in record { put = rw (c.in-Some.is, c.in-Body.is) c.put_bytes.ensures; same_page = same_page c.put_bytes.ensures }

pub returns-in-Document : goal.returns-in-Document
returns-in-Document c =
    let both = put_then c.put_bytes-in-Document.ensures c.put_bytes-in-Document-2.ensures in
    unfold all_open head in record { put = rw (c.in-Some.is, c.in-Document.is) both; same_page = same_page both }
