-- What layout leaves of an accepted file: bytes, texts at the same places, and the tree laid out; or the file itself where the width is refused.
use Rattle.rules.proofs.Basics.{◌≡◌, refl, sym, ◌∙◌, ap, List, [], ◌∷◌, Bool, true, false, ⊎_elim, ℕ, ◌≤◌, ◌<◌, zero-add, arith, leb, length, le-leb}
use Rattle.rules.specs.Limits.{most_bytes, most_columns}
use Rattle.rules.specs.Bytes.{has, newline}
use Rattle.rules.specs.Result.{accepted, ◌>>=◌, ◌>>◌, need}
use Rattle.rules.specs.Tree.{Frag}
use Rattle.rules.specs.Encode.{frag_fields, encode}
use Rattle.rules.specs.Layout.{layout}
use Rattle.rules.specs.Good.{Bytes}
use Rattle.rules.specs.Answers.{tree, check_answer, check_answer_by, laid_out_by, changed, left_laid, layout_outcome, layout_outcome_by}
use Rattle.rules.specs.Mask.{in_texts, accepted_texts, text_places}
use Rattle.rules.specs.Alike.{at}
use Rattle.rules.proofs.Files.{Read, tree_read, good_check}
use Rattle.rules.proofs.Laid.{Laid, laid_itself, layout_laid}
use Rattle.rules.proofs.LaidFile.{layout_good, layout_read}
use Rattle.rules.proofs.Changed.{Turns, turns_length, three_at, turned_at}
use Rattle.rules.proofs.Turned.{layout_turns}
use Rattle.rules.proofs.Filled.{laid_texts}

-- bytes of which a 4 became a 3 are bytes
pub turned_bytes : (s u : List ℕ) → Turns s u → Bytes s → Bytes u
turned_bytes [] [] x b = tt
turned_bytes [] (y ∷ u) x b = absurd x
turned_bytes (a ∷ s) [] x b = absurd x
turned_bytes (a ∷ s) (y ∷ u) x b = (⊎_elim (λ (e : a ≡ y). omega arith) (λ h. omega arith) x.0, turned_bytes s u x.1 b.1)

texts_of_read : {s : List ℕ} {t : Frag ℕ} → Read s t → text_places s ≡ in_texts (frag_fields t)
unfolding text_places accepted_texts
texts_of_read R = ap accepted_texts R.checked

module _ (w : ℕ) (s : List ℕ) (t : Frag ℕ) (bs : Bytes s) (e : tree s ≡ accepted t) where
  abbrev pub laid : List ℕ
  laid = encode (layout newline w t)

  pub turns : Turns s laid
  turns = rw (tree_read s t bs e).encodes at (layout_turns newline w t)

  pub turned_byte : (k : ℕ) → k < length s → at laid k ≡ three_at (has k (changed 0 s laid)) (at s k)
  turned_byte k l = rw zero-add at (turned_at 0 k s laid l turns)

  pub laid_places : text_places laid ≡ text_places s
  laid_places =
      let R = tree_read s t bs e in
      let G = layout_good newline w t R.good in
      texts_of_read (record { checked = good_check _ G; encodes = refl; good = G }) ∙ sym (laid_texts (layout_laid newline w t)) ∙ sym (texts_of_read R)

  pub laid_passes : check_answer laid ≡ accepted 0
  unfolding check_answer_by ◌>>=◌
  laid_passes = rw (layout_read newline w s t bs e)

  -- an accepted file is not too long, so that only the width can be refused
  pub laid_by_width : layout_outcome w s ≡ left_laid s (need (leb w most_columns) 2 0 >> accepted (layout newline w t))
  unfolding layout_outcome_by laid_out_by need ◌>>◌ ◌>>=◌
  laid_by_width =
      let R = tree_read s t bs e in
      let short : length s ≤ most_bytes = rw R.encodes at R.good.short in
      rw (le-leb (length s) most_bytes short, e)

-- the file u is left of s, whose tree is t, by layout at some width or by none
pub record Left (s : List ℕ) (t : Frag ℕ) (u : List ℕ) : Type 0 where
  pub root : Frag ℕ
  pub reads : tree u ≡ accepted root
  pub laid_root : Laid t root
  pub same_length : length u ≡ length s
  pub are_bytes : Bytes u

pub left_itself : (s : List ℕ) (t : Frag ℕ) → Bytes s → tree s ≡ accepted t → Left s t s
left_itself s t bs e = record { root = t; reads = e; laid_root = laid_itself t; same_length = refl; are_bytes = bs }

pub left_by_layout : (w : ℕ) (s : List ℕ) (t : Frag ℕ) → Bytes s → tree s ≡ accepted t → Left s t (layout_outcome w s).1
unfolding left_laid need ◌>>◌
left_by_layout w s t bs e = rw (laid_by_width w s t bs e) (go (leb w most_columns))
  where
    go : (fits : Bool) → Left s t (left_laid s (need fits 2 0 >> accepted (layout newline w t))).1
    go true =
        record {
          root = layout newline w t;
          reads = layout_read newline w s t bs e;
          laid_root = layout_laid newline w t;
          same_length = sym (turns_length s _ (turns w s t bs e));
          are_bytes = turned_bytes s _ (turns w s t bs e) bs;
        }
    go false = left_itself s t bs e
