-- Layout brings no byte into a text: where no text of a file has the byte b, none has of what layout leaves.
use Rattle.rules.proofs.Basics.{◌≡◌, sym, ◌∙◌, List, Bool, true, false, ℕ, ◌<◌, arith, leb, length}
use Rattle.rules.specs.Limits.{most_columns}
use Rattle.rules.specs.Bytes.{has, newline}
use Rattle.rules.specs.Result.{accepted, ◌>>◌, need}
use Rattle.rules.specs.Tree.{Frag}
use Rattle.rules.specs.Good.{Bytes}
use Rattle.rules.specs.Layout.{layout}
use Rattle.rules.specs.Answers.{tree, changed, left_laid, layout_outcome}
use Rattle.rules.specs.Mask.{Without}
use Rattle.rules.specs.Alike.{Page, plain_page, html_body, html_document, strict_body, strict_document, Clear, at}
use Rattle.rules.proofs.Changed.{turns_length, three_at}
use Rattle.rules.proofs.LeftLaid.{laid, turns, turned_byte, laid_places, laid_by_width}

-- a byte that is not 3 and stands there now stood there before
was_there : (c : Bool) (a b : ℕ) → (b ≡ 3 → ⊥) → three_at c a ≡ b → a ≡ b
was_there true a b n e = absurd (n (sym e))
was_there false a b n e = e

module _ (b : ℕ) (n : b ≡ 3 → ⊥) (w : ℕ) (s : List ℕ) (t : Frag ℕ) (bs : Bytes s) (e : tree s ≡ accepted t) (W : Without b s) where
  laid_without : Without b (laid w s t bs e)
  laid_without =
      let m : length s ≡ length (laid w s t bs e) = turns_length s _ (turns w s t bs e) in
      record {
        nowhere = λ k l f q.
            let l₁ : k < length s = rw (sym m) at l in
            W.nowhere k l₁ (rw (laid_places w s t bs e) at f) (was_there (has k (changed 0 s (laid w s t bs e))) (at s k) b n (sym (turned_byte w s t bs e k l₁) ∙ q));
      }

  pub left_without : Without b (layout_outcome w s).1
  unfolding left_laid need ◌>>◌
  left_without = rw (laid_by_width w s t bs e) (go (leb w most_columns))
    where
      go : (fits : Bool) → Without b (left_laid s (need fits 2 0 >> accepted (layout newline w t))).1
      go true = laid_without
      go false = W

-- so a file that a strict page can be made of stays one
pub left_clear : (k : Page) (w : ℕ) (s : List ℕ) (t : Frag ℕ) → Bytes s → tree s ≡ accepted t → Clear k s → Clear k (layout_outcome w s).1
left_clear plain_page w s t bs e C = tt
left_clear html_body w s t bs e C = tt
left_clear html_document w s t bs e C = tt
left_clear strict_body w s t bs e C = left_without 0 (omega arith) w s t bs e C
left_clear strict_document w s t bs e C = left_without 0 (omega arith) w s t bs e C
