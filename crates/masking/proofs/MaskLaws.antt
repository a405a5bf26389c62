-- What is answered and left when a mask is made.
use Rattle.rules.proofs.Basics.{◌≡◌, refl, sym, ap, ap₂, ◌∙◌, List, Bool, ℕ, leb, ◌≤◌, ◌<◌, arith, length, take, take_all, le-leb, lt-leb}
use Rattle.std.specs.Prelude.{Ok, Err}
use Rattle.rules.specs.declared.Refusal.{Refusal}
use Rattle.rules.specs.Result.{Answer, refused, accepted, said, ◌>>=◌}
use Rattle.rules.specs.Good.{Bytes}
use Rattle.rules.specs.Encode.{frag_fields, encode}
use Rattle.rules.specs.Answers.{check_answer, left_page, written}
use Rattle.rules.specs.Mask.{accepted_texts, text_places, newlines, mask_bytes, mask}
use Rattle.verify.proofs.Verdicts.{RefusedSo, refused_so, AcceptedAs, accepted_as}
use Rattle.writing.specs.Written.{last, Written}
use Rattle.writing.proofs.Laws.{fits}
use Rattle.pairs.specs.Masking.{mask_text, mask_outcome}
use Rattle.pairs.specs.Flat.{flags}
use Rattle.pairs.proofs.OfFiles.{flags_of_file}
use Rattle.pairs.proofs.MaskBytes.{mask_long}
use Rattle.pairs.proofs.Pairs.{texts_length}
use Rattle.masking.specs.Value.{flat_mask}

module _ (s page : List ℕ) where
  pub mask_refused : (a x : Answer) {r y : Refusal} → a ≡ Err r → said a ≡ check_answer s → x ≡ Err y → y ≡ r → (said x, page) ≡ mask_outcome s page
  unfolding mask_outcome mask_text left_page ◌>>=◌
  mask_refused a x q e w z =
      let R : RefusedSo s (said a) = refused_so s a q e in
      let same : x ≡ a = cc in
      ap (λ (x : Answer). (said x, page)) same ∙ ap (λ r. (r, page)) R.says ∙ sym (ap (λ x. left_page (x >>= (λ t. accepted (mask newlines s))) page) R.no_tree)

  module _ (b : Bytes s) (a : Answer) {n : ℕ} (q : a ≡ Ok n) (e : said a ≡ check_answer s) where
    abbrev A : AcceptedAs s
    A = accepted_as s a b q e

    flags_are : flags s ≡ text_places s
    flags_are = flags_of_file s A.root b A.its_tree

    flags_long : length (flags s) ≡ length s
    unfolding text_places accepted_texts encode
    flags_long = ap length flags_are ∙ rw A.read.checked (texts_length (frag_fields A.root) ∙ ap length A.read.encodes)

    -- the fields one after the other give the mask
    flat_is : flat_mask s ≡ mask newlines s
    unfolding flat_mask mask
    flat_is = ap₂ (λ (ms : List Bool) (x : List ℕ). mask_bytes newlines ms x) flags_are (ap (λ (k : ℕ). take k s) flags_long ∙ take_all (length s) s (omega arith))

    as_long : length (mask newlines s) ≡ length s
    unfolding mask
    as_long = mask_long (text_places s) s

    outcome_is : mask_outcome s page ≡ written (leb (length s) (length page)) (mask newlines s) page
    unfolding mask_outcome mask_text left_page ◌>>=◌
    outcome_is = rw (A.its_tree, as_long)

    pub mask_too_short : length page < length s → (refused 10 (length s), page) ≡ mask_outcome s page
    unfolding written
    mask_too_short h = rw (outcome_is, lt-leb (length s) (length page) h, as_long) refl

    pub mask_made : {r : ℕ} {page' : List ℕ} → length s ≤ last → length s ≤ length page → Written page 0 (flat_mask s) page' r → (accepted (length s), page') ≡ mask_outcome s page
    unfolding written
    mask_made {page' = page'} z h w =
        let w' : Written page 0 (mask newlines s) page' _ = rw flat_is at w in
        rw (outcome_is, le-leb (length s) (length page) h, fits w' (omega (arith, as_long, z)) (omega (arith, as_long, h)), as_long) refl
