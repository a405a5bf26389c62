-- Texts that are put in a row are one text, put whole.
use Rattle.rules.proofs.Basics.{◌≡◌, List, [], ◌∷◌, ℕ}
use Rattle.rules.specs.Bytes.{join}
use Rattle.writing.specs.declared.Page.{Page}
use Rattle.writing.specs.Written.{Put}
use Rattle.writing.proofs.Laws.{put_nothing, put_then}

infixr 20 ◌▸◌
-- texts that are put one after the other
pub data Row : (p : Page) (texts : List (List ℕ)) (q : Page) → Type 0 where
  done : {p : Page} → Row p [] p
  ◌▸◌ : {p q r : Page} {text : List ℕ} {texts : List (List ℕ)} → Put p text q → Row q texts r → Row p (text ∷ texts) r

put_row : {p q : Page} {texts : List (List ℕ)} → Row p texts q → Put p (join texts) q
unfolding join
put_row done = put_nothing
put_row (f ▸ fs) = put_then f (put_row fs)

pub one_text : {p q : Page} {text : List ℕ} {texts : List (List ℕ)} → join texts ≡ text → Row p texts q → Put p text q
one_text e fs = rw e at (put_row fs)

-- one text, and none
pub one_row : {p q : Page} {text t : List ℕ} → join (t ∷ []) ≡ text → Put p t q → Put p text q
one_row e f = one_text e (f ▸ done)

pub no_row : {p : Page} {text : List ℕ} → join [] ≡ text → Put p text p
no_row e = one_text e done
