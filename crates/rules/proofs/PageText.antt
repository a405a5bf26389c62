-- What an accepted answer of a page's entry says: the bytes in front of the page are its text.
use Rattle.rules.proofs.Basics.{◌≡◌, sym, ◌∙◌, ap, List, Bool, true, false, ℕ, leb, length, take, drop, take_at}
use Rattle.rules.specs.Result.{Result, refused, accepted}
use Rattle.rules.specs.Answers.{written, left_page}
use Rattle.rules.proofs.Chains.{no_path}

pub text_written : (x : Result (List ℕ)) (q r : List ℕ) (m : ℕ) → (accepted m, r) ≡ left_page x q → x ≡ accepted (take m r)
unfolding left_page written
text_written (refused n p) q r m e = let a : accepted m ≡ refused n p = ap (λ o. o.0) e in no_path (cc)
text_written (accepted text) q r m e = go (leb (length text) (length q)) e
  where
    go : (fits : Bool) → (accepted m, r) ≡ written fits text q → accepted text ≡ accepted (take m r)
    go true e =
        let a : accepted m ≡ accepted (length text) = ap (λ o. o.0) e in
        let n : m ≡ length text = cc in
        ap accepted (sym (ap (take m) (ap (λ o. o.1) e) ∙ take_at text (drop (length text) q) m (sym n)))
    go false e = let a : accepted m ≡ refused 10 (length text) = ap (λ o. o.0) e in no_path (cc)
