-- The text that a reader is given: a part of the one file or the other.
use Rattle.rules.proofs.Basics.{◌≡◌, refl, sym, ap, ◌∙◌, List, [], Bool, true, false, ℕ, ◌+◌, ◌-◌, ◌≤◌, arith, length, take, drop}
use Rattle.std.specs.Prelude.{if◌then◌else◌}
use Rattle.rules.specs.declared.Refusal as Own
use Rattle.rules.specs.declared.Refusal.TheVariants.{TooLong, TooWide, Cut, WrongTag, WrongLength, TooDeep, NotUtf8, BadStyle, QuoteInAnchor, PageTooShort, NulInText}
use Rattle.rules.specs.Result as rules
use Rattle.rules.specs.Result.{accepted}
use Rattle.rules.specs.Good.{Bytes}
use Rattle.std.specs.Prelude.{Ok, Err}
use Rattle.pairs.specs.declared.Refusal.{Refusal}
use Rattle.pairs.specs.declared.Refusal.TheVariants.{File, NotMask, NoText}
use Rattle.pairs.specs.Pair.{Answer, refusal, said, pair_answer, part_of, given_text}
use Rattle.pairs.proofs.Pairs.{pair_is}

module _ (o m : List ℕ) (p : ℕ) (a : Answer) (e : said a ≡ pair_answer o m p) where
  pub nothing_given : (names : Bool) {r : Refusal} → a ≡ Err r → [] ≡ given_text o m p names
  unfolding given_text part_of said refusal rules.refusal
  nothing_given names {r} w = rw (sym e, w) (go r)
    where
      by_file : (r : Own.Refusal) → [] ≡ part_of (rules.refusal r) p (if names then o else m)
      by_file TooLong = refl
      by_file TooWide = refl
      by_file (Cut p) = refl
      by_file (WrongTag p) = refl
      by_file (WrongLength p) = refl
      by_file (TooDeep p) = refl
      by_file (NotUtf8 p) = refl
      by_file (BadStyle p) = refl
      by_file (QuoteInAnchor p) = refl
      by_file (PageTooShort n) = refl
      by_file (NulInText p) = refl

      go : (r : Refusal) → [] ≡ part_of (refusal r) p (if names then o else m)
      go (File r) = by_file r
      go (NotMask p) = refl
      go (NoText p) = refl

  module _ {n : ℕ} (b : Bytes o) (w : a ≡ Ok n) where
    accepted_so : pair_answer o m p ≡ accepted n
    unfolding said
    accepted_so = sym e ∙ ap said w

    pub inside : (p + 3 + n ≤ length o) × (p + 3 + n ≤ length m)
    inside = (pair_is o m p n b accepted_so).ends

    pub with_right : {names : Bool} → names ≡ true → take (p + 3 + n - (p + 3)) (drop (p + 3) o) ≡ given_text o m p names
    unfolding given_text part_of
    with_right h = let k : p + 3 + n - (p + 3) ≡ n = omega arith in rw (k, accepted_so, h)

    pub without_right : {names : Bool} → names ≡ false → take (p + 3 + n - (p + 3)) (drop (p + 3) m) ≡ given_text o m p names
    unfolding given_text part_of
    without_right h = let k : p + 3 + n - (p + 3) ≡ n = omega arith in rw (k, accepted_so, h)
