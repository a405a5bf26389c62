-- Strict mode: the bytes up to a CR, and the CR.
use Rattle.rules.proofs.Basics.{◌≡◌, sym, ap, ◌∙◌, List, ℕ, zero, suc, ◌+◌, ◌-◌, ◌<◌, ◌≤◌, add-one, arith, length, get_or, take, drop, length-drop, take_all, take-suc, ne_eqb}
use lib.Seq.{take-add, get_or-drop}
use Rattle.rules.specs.Bytes.{ascii}
use Rattle.rules.specs.Html.{escape, strict_escape, escaped}
use Rattle.looks.specs.Calm.{Clear}
use Rattle.writing.specs.declared.Page.{Page}
use Rattle.writing.specs.Written.{Put}
use Rattle.writing.proofs.Laws.{put_then}
use Rattle.escaping.specs.Runs.{escaped_text}
use Rattle.escaping.specs.Returns.{strict_text, NoReturnTo, FirstReturn}
use Rattle.rules.proofs.Fills.{fill_makes}
use Rattle.escaping.proofs.EscapeLaws.{byte_by, escaped_byte, no_bytes, text_append, last_byte, more, all}

-- ---- one byte

abbrev strict_byte : ℕ → List ℕ
strict_byte b = byte_by strict_escape b

no_return : (b : ℕ) → (b ≡ 13 → ⊥) → strict_byte b ≡ escaped_byte b
unfolding strict_escape
no_return b n = rw (ne_eqb b 13 n)

pub return_escaped : {p q : Page} {s : List ℕ} → Put p s q → s ≡ ascii "&#13;" → Put p (strict_byte 13) q
unfolding strict_escape escaped
return_escaped f w = rw (fill_makes, ← w) f

-- ---- bytes that are counted

pub none_counted : (text : List ℕ) → NoReturnTo text 0
none_counted text = record { within = omega arith; same = no_bytes strict_escape ∙ sym (no_bytes escape) }

pub byte_counted : {text : List ℕ} {n : ℕ} → NoReturnTo text n → n < length text → (get_or text n 0 ≡ 13 → ⊥) → NoReturnTo text (n + 1)
byte_counted {text} {n} C h o =
    let b = get_or text n 0 in
    record {
      within = omega arith;
      same = rw (add-one, take-suc text n 0 h, last_byte strict_escape (take n text) b, last_byte escape (take n text) b, C.same, no_return b o);
    }

-- in which the test finds no CR
module _ {P : ℕ → Type 0} {text : List ℕ} where
  counted : ((b : ℕ) → P b → b ≡ 13 → ⊥) → (n : ℕ) → n ≤ length text → Clear P text 0 n → NoReturnTo text n
  counted tells zero h C = none_counted text
  counted tells (suc n) h C =
      let C' : Clear P text 0 n = record { each = λ k a b. C.each k a (omega (arith, b)) } in
      rw (← add-one) (byte_counted (counted tells n (omega arith) C') (omega arith) (tells (get_or text n 0) (C.each n (omega arith) (omega arith))))

  pub first_counted : ((b : ℕ) → P b → b ≡ 13 → ⊥) → {n : ℕ} → n ≤ length text → Clear P text 0 n → (n < length text → get_or text n 0 ≡ 13) → FirstReturn text n
  first_counted tells {n} h C next = record { before = counted tells n h C; next = next }

-- ---- a text that is put

-- its first i bytes are, and a CR is next, or the end
pub record UpTo (p : Page) (text : List ℕ) (q : Page) (i : ℕ) : Type 0 where
  pub within : i ≤ length text
  pub put : Put p (strict_text (take i text)) q
  pub next : i < length text → get_or text i 0 ≡ 13

pub first_part : {p q : Page} {text : List ℕ} {n : ℕ} → FirstReturn text n → Put p (escaped_text (take n text)) q → UpTo p text q n
first_part f w = record { within = f.before.within; put = rw f.before.same w; next = f.next }

module _ {p q q' : Page} {text : List ℕ} {i n : ℕ} (g : UpTo p text q i) (more_left : i < length text) (cr : Put q (strict_byte 13) q')
    (f : FirstReturn (take (length text - (i + 1)) (drop (i + 1) text)) n) where
  rest : take (length text - (i + 1)) (drop (i + 1) text) ≡ drop (i + 1) text
  rest = take_all (length text - (i + 1)) (drop (i + 1) text) (omega (arith, length-drop (i + 1) text))

  pub in_text : i + 1 + n ≤ length text
  in_text = omega (arith, f.before.within, ap length rest, length-drop (i + 1) text)

  -- a CR more, and the part behind it
  pub part_more : {r : Page} → Put q' (escaped_text (take (i + 1 + n - (i + 1)) (drop (i + 1) text))) r → UpTo p text r (i + 1 + n)
  part_more w =
      let e : i + 1 + n - (i + 1) ≡ n = omega arith in
      let same : strict_text (take n (drop (i + 1) text)) ≡ escaped_text (take n (drop (i + 1) text)) = rw rest at f.before.same in
      let cr' = more strict_escape text i g.put more_left (rw (g.next more_left) cr) in
      record {
        within = in_text;
        put = rw (take-add (i + 1) n text, text_append strict_escape (take (i + 1) text) (take n (drop (i + 1) text)), same) (put_then cr' (rw e at w));
        next = λ h. sym (get_or-drop (i + 1) text n 0) ∙ (rw rest at f.next) (omega (arith, in_text, length-drop (i + 1) text));
      }

pub all_parts : {p q : Page} {text : List ℕ} {i : ℕ} → UpTo p text q i → length text ≤ i → Put p (strict_text text) q
all_parts {text = text} {i = i} g h = all strict_escape text i g.put h
