-- Runs of bytes that are not escaped, and what they are on the page.
use Rattle.rules.proofs.Basics.{◌≡◌, sym, ap, subst, Bool, false, List, [], ◌∷◌, ℕ, zero, suc, ◌+◌, ◌-◌, ◌<◌, ◌≤◌, add-one, arith, length, get_or, set, take, drop, length-drop, take_all, take-suc, ne_eqb}
use lib.Seq.{take-add, get_or-drop}
use Rattle.std.specs.Array.{IsFirstChunk}
use Rattle.rules.specs.Html.{escape, escaped}
use Rattle.rules.specs.Plain.{fill}
use Rattle.looks.specs.Calm.{Clear}
use Rattle.writing.specs.declared.Page.{Page}
use Rattle.writing.specs.Written.{last, moved, Written, Put}
use Rattle.writing.proofs.Laws.{nothing, then, put_nothing, put_then}
use Rattle.writing.proofs.Turns.{stored}
use Rattle.escaping.specs.Runs.{escaped_text, Plain, PlainTo, Copied, Begun}
use Rattle.escaping.proofs.EscapeLaws.{escaped_byte, more, no_bytes, text_append, last_byte, all}

-- ---- one byte

as_it_stands : (b : ℕ) → (b ≡ 38 → ⊥) → (b ≡ 60 → ⊥) → escaped_byte b ≡ b ∷ []
unfolding escape escaped fill
as_it_stands b n m = rw (ne_eqb b 38 n, ne_eqb b 60 m)

one_plain : (text : List ℕ) (k : ℕ) → Plain (take k text) → k < length text → (get_or text k 0 ≡ 38 → ⊥) → (get_or text k 0 ≡ 60 → ⊥) → Plain (take (k + 1) text)
one_plain text k P h n m =
    record { same = rw (add-one, take-suc text k 0 h, last_byte escape (take k text) (get_or text k 0), P.same, as_it_stands (get_or text k 0) n m) }

-- ---- bytes that are counted

pub none_counted : (text : List ℕ) → PlainTo text 0
none_counted text = record { within = omega arith; plain = record { same = no_bytes escape } }

-- in which the test finds none that is escaped
module _ {P : ℕ → Type 0} (tells : (b : ℕ) → P b → (b ≡ 38 → ⊥) × (b ≡ 60 → ⊥)) where
  counted : {text : List ℕ} (n : ℕ) → n ≤ length text → Clear P text 0 n → PlainTo text n
  counted {text} zero h C = none_counted text
  counted {text} (suc n) h C =
      let C' : Clear P text 0 n = record { each = λ k a b. C.each k a (omega (arith, b)) } in
      let o = tells (get_or text n 0) (C.each n (omega arith) (omega arith)) in
      let P' = one_plain text n (counted n (omega arith) C').plain (omega arith) o.0 o.1 in
      let e : n + 1 ≡ suc n = omega arith in
      record { within = h; plain = rw e at P' }

  pub clear_counted : {text : List ℕ} {n : ℕ} → n ≤ length text → Clear P text 0 n → PlainTo text n
  clear_counted {n = n} h C = counted n h C

  -- m of them from n on
  clear_part : {text : List ℕ} {n : ℕ} (m : ℕ) → n + m ≤ length text → Clear P text n (n + m) → Plain (take m (drop n text))
  clear_part {text} {n} m h C =
      let D : Clear P (drop n text) 0 m = record { each = λ k a b. subst P (sym (get_or-drop n text k 0)) (C.each (n + k) (omega arith) (omega (arith, b))) } in
      (counted m (omega (arith, length-drop n text)) D).plain

-- ---- a run that is copied

pub none_copied : {page : List ℕ} {at : ℕ} {text : List ℕ} → Copied page at text page 0
none_copied {at = at} {text} = let e : at + 0 ≡ at = omega arith in record { counted = none_counted text; written = rw e nothing }

module _ {page text page' : List ℕ} {at n : ℕ} (f : Copied page at text page' n) (room : at + length text ≤ last) where
  -- a window more
  pub window_copied : {P : ℕ → Type 0} → ((b : ℕ) → P b → (b ≡ 38 → ⊥) × (b ≡ 60 → ⊥)) → {w : List ℕ} → IsFirstChunk (take (length text - n) (drop n text)) w 8
      → Clear P text n (n + 8) → {page'' : List ℕ} → Written page' (at + n) w page'' (at + n + 8) → Copied page at text page'' (n + 8)
  window_copied tells first C w =
      let rest : take (length text - n) (drop n text) ≡ drop n text = take_all (length text - n) (drop n text) (omega (arith, length-drop n text)) in
      let h : n + 8 ≤ length text = omega (arith, first.enough, ap length rest, length-drop n text, f.counted.within) in
      let k : at + n + 8 ≡ at + (n + 8) = omega arith in
      let same = (clear_part tells 8 h C).same in
      record {
        counted = record { within = h; plain = record { same = rw (take-add n 8 text, text_append escape (take n text) (take 8 (drop n text)), f.counted.plain.same, same) } };
        written = rw (take-add n 8 text) (rw (first.same, rest, k) at (then f.written w));
      }

  -- a byte more
  pub byte_copied : n < length text → {r : Bool} → (r ≡ false → (get_or text n 0 ≡ 38 → ⊥) × (get_or text n 0 ≡ 60 → ⊥)) → r ≡ false
      → Copied page at text (set page' (at + n) (get_or text n 0)) (n + 1)
  unfolding moved
  byte_copied h o e =
      let b = get_or text n 0 in
      record {
        counted = record { within = omega arith; plain = one_plain text n f.counted.plain h (o e).0 (o e).1 };
        written = rw (add-one, take-suc text n 0 h) (then f.written (stored page' (at + n) b (omega arith)));
      }

-- ---- a text that is begun

pub none_begun : {p : Page} {text : List ℕ} → Begun p text p 0
none_begun = record { within = omega arith; put = rw (no_bytes escape) put_nothing }

-- by bytes that were counted, or copied
pub counted_begun : {p q : Page} {text : List ℕ} {n : ℕ} → PlainTo text n → Put p (take n text) q → Begun p text q n
counted_begun C w = record { within = C.within; put = rw C.plain.same w }

module _ {p q r : Page} {text : List ℕ} {i : ℕ} (g : Begun p text q i) where
  -- by a run more, of what is left
  pub run_more : {n : ℕ} → Begun q (take (length text - i) (drop i text)) r n → Begun p text r (i + n)
  run_more {n} f =
      let e : take (length text - i) (drop i text) ≡ drop i text = take_all (length text - i) (drop i text) (omega (arith, length-drop i text)) in
      record {
        within = omega (arith, f.within, ap length e, length-drop i text, g.within);
        put = rw (take-add i n text, text_append escape (take i text) (take n (drop i text))) (put_then g.put (rw e at f.put));
      }

  -- by a byte more
  pub byte_more : i < length text → Put q (escaped_byte (get_or text i 0)) r → Begun p text r (i + 1)
  byte_more h w = record { within = omega arith; put = more escape text i g.put h w }

pub all_begun : {p q : Page} {text : List ℕ} {i : ℕ} → Begun p text q i → length text ≤ i → Put p (escaped_text text) q
all_begun {text = text} {i = i} g h = all escape text i g.put h
