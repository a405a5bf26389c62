-- Document 01's checked examples as a list of cases: what is asked, of which file, and what is right.
use Rattle.std.specs.Prelude.{List, [], ◌∷◌, ◌&&◌, ℕ, zero, suc, ◌+◌, ◌*◌, ◌-◌, leb, ℤ, pos, negsuc, if◌then◌else◌}
use Rattle.std.proofs.Math.Option.{Option, none, some}
use Prim.Native.String.{String}
use Rattle.rules.specs.Bytes.{ascii}
use Rattle.rules.specs.Result.{Result, refused, accepted, ◌>>=◌}
use Rattle.rules.specs.Encode.{encode, field}
use Rattle.rules.specs.Sizes.{em_text, opacity_text}
use Rattle.rules.specs.Answers.{laid_out, plain_text, body_text, document_text, check_answer, strict_check_answer, strict_body_text}

-- ---- files in hexadecimal digits, two to a byte; other characters are passed over

unfoldable pub nibble : ℕ → Option ℕ
nibble c =
    if leb 48 c && leb c 57 then some (c - 48) else
    if leb 97 c && leb c 102 then some (c - 87) else
    if leb 65 c && leb c 70 then some (c - 55) else
    none

unfoldable pub paired : Option ℕ → Option ℕ → List ℕ → List ℕ
paired none digit rest = rest
paired (some high) none rest = rest
paired (some high) (some low) rest = (16 * high + low) ∷ rest

unfoldable pub still : Option ℕ → Option ℕ → Option ℕ
still none digit = digit
still (some high) none = some high
still (some high) (some low) = none

unfoldable pub pairs : Option ℕ → List ℕ → List ℕ
pairs high [] = []
pairs high (c ∷ s) = let rest : List ℕ = pairs (still high (nibble c)) s in paired high (nibble c) rest

unfoldable pub unhex : String → List ℕ
unhex s = pairs none (ascii s)

-- ---- cases

pub data Question : Type 0 where
  verdict : Question
  laid : (width : ℕ) → Question
  printed : (width : ℕ) → Question
  plainly : Question
  in_html : Question
  in_a_document : Question
  strict_verdict : Question
  in_strict_html : Question
  em_of : (size : ℤ) → Question
  opacity_of : (bits : ℕ) → Question

-- lay out, then print
unfoldable pub print_at : ℕ → List ℕ → Result (List ℕ)
print_at w s = do
  t ← laid_out w s
  plain_text (encode t)

unfoldable pub answer : Question → List ℕ → Result (List ℕ)
answer verdict s = do
  n ← check_answer s
  accepted []
answer (laid w) s = do
  t ← laid_out w s
  accepted (encode t)
answer (printed w) s = print_at w s
answer plainly s = plain_text s
answer in_html s = body_text s
answer in_a_document s = document_text s
answer strict_verdict s = do
  n ← strict_check_answer s
  accepted []
answer in_strict_html s = strict_body_text s
answer (em_of size) s = accepted (em_text size)
answer (opacity_of bits) s = accepted (opacity_text bits)

pub record Case : Type 0 where
  pub asked : Question
  pub file : List ℕ
  pub right : Result (List ℕ)

unfoldable pub case : Question → String → Result (List ℕ) → Case
case q s r = record { asked = q; file = unhex s; right = r }

unfoldable pub writes : String → Result (List ℕ)
writes s = accepted (ascii s)

unfoldable pub leaves : String → Result (List ℕ)
leaves s = accepted (unhex s)

-- n blocks, each inside the one before
unfoldable pub nested : ℕ → List ℕ
nested zero = []
nested (suc n) = field 3 (field 8 (nested n))

-- f(a, b)
unfoldable pub call : String
call = "01000511000266 28 040022 080011 01000411000161 0100041100012C 050000 08000B 01000411000162 0700012C 01000411000129"

-- one list for each width w, which P10 alone looks at
unfoldable pub examples : (w : ℕ) → List Case
examples w =
    -- P1, P2
    case (printed 7) call (writes "f(a, b)")
    ∷ case (printed 6) call (writes "f(\n  a,\n  b,\n)")
    ∷ case (laid 7) call (leaves call)
    ∷ case (laid 6) call (leaves "01000511000266 28 030022 080011 01000411000161 0100041100012C 050000 08000B 01000411000162 0700012C 01000411000129")
    -- P3
    ∷ case (printed 80) "" (writes "")
    -- P4, P5
    ∷ case (printed 80) "01000411000161 060000" (writes "a")
    ∷ case (printed 80) "01000411000161 050000 060000 01000411000162" (writes "a\nb")
    -- P6, P7
    ∷ case (printed 80) "01000411000161 050000 0100051100020A62" (writes "a\nb")
    ∷ case (printed 80) "01000411000161 050000 010008 100000 1100020A62" (writes "a \nb")
    -- P8
    ∷ case (printed 80) "03000C 080009 010006 100000 110000 01000411000178" (writes "  \nx")
    ∷ case (printed 80) "030009 080006 010003 110000 01000411000178" (writes "x")
    -- P9
    ∷ case (laid 2) "040012 08000F 01000C 100003 240000 110003616263" (leaves "030012 08000F 01000C 100003 240000 110003616263")
    ∷ case (laid 3) "040012 08000F 01000C 100003 240000 110003616263" (leaves "040012 08000F 01000C 100003 240000 110003616263")
    -- P10: at every width
    ∷ case (printed w) "01000411000178 04000C 080009 010006 110003610A62" (writes "x\n  a\n  b")
    -- P11
    ∷ case (printed 80) "030011 08000E 020004 13000170 01000411000178" (writes "  x")
    ∷ case in_html "030011 08000E 020004 13000170 01000411000178" (writes "<pre class=\"spirt-90c2056d-5b38-4644-824a-b4be1c82f14d\">\n<a href=\"#p\"></a>  x</pre>")
    -- P12
    ∷ case (laid 6_553) "" (leaves "")
    ∷ case (laid 6_554) "" (refused 2 0)
    ∷ case verdict "01000A 100004 23000175 110000" (accepted [])
    ∷ case verdict "01000A 100004 23000176 110000" (refused 8 6)
    ∷ case (laid 0) "040013 080010 01000D 100004 230001F6 110003616263" (leaves "040013 080010 01000D 100004 230001F6 110003616263")
    -- underlined: the last item of a style, and no wider
    ∷ case in_html "01000A 100003 270000 11000178" (writes "<pre class=\"spirt-90c2056d-5b38-4644-824a-b4be1c82f14d\">\n<span style=\"text-decoration:underline;\">x</span></pre>")
    ∷ case in_html "010011 10000A 2300010A 260000 270000 11000178" (writes "<pre class=\"spirt-90c2056d-5b38-4644-824a-b4be1c82f14d\">\n<span style=\"font-size:2em;vertical-align:middle;text-decoration:underline;\" class=\"unchanged\">x</span></pre>")
    ∷ case (laid 2) "040012 08000F 01000C 100003 270000 110003616263" (leaves "030012 08000F 01000C 100003 270000 110003616263")
    ∷ case (laid 3) "040012 08000F 01000C 100003 270000 110003616263" (leaves "040012 08000F 01000C 100003 270000 110003616263")
    -- strict HTML: a CR in a text, and a 7 that counts; an anchor's name keeps its CR and its NUL
    ∷ case in_strict_html "010007 110004 610D263C" (writes "<pre class=\"spirt-90c2056d-5b38-4644-824a-b4be1c82f14d\">\na&#13;&amp;&lt;</pre>")
    ∷ case in_strict_html "030008 080005 070002 0D0D" (writes "<pre class=\"spirt-90c2056d-5b38-4644-824a-b4be1c82f14d\">\n  &#13;&#13;</pre>")
    ∷ case strict_verdict "020005 120002 0D00" (accepted [])
    ∷ case verdict "010004 110001 00" (accepted [])
    -- the others
    ∷ case (em_of (negsuc 1)) "" (writes "0.8")
    ∷ case (em_of (negsuc 8)) "" (writes "0.09999999999999998")
    ∷ case (em_of (negsuc 9)) "" (writes "0")
    ∷ case (em_of (pos 0)) "" (writes "1")
    ∷ case (opacity_of 0x3f00_0000) "" (writes "0.5")
    ∷ case (opacity_of 0x3a80_0000) "" (writes "0.0009765625")
    ∷ case (opacity_of 0x3e81_0000) "" (writes "0.25195313")
    ∷ record { asked = verdict; file = nested 32; right = accepted [] }
    ∷ record { asked = verdict; file = nested 33; right = refused 6 192 }
    ∷ case verdict "63" (refused 3 0)
    -- a tag 4 whose line is ended by a later text: that text's pre counts before the tag 4 is laid out
    ∷ case (printed 3) "04000B 080008 0100051100026162 010007 110004 63640A65" (writes "  ab\ncd\ne")
    ∷ case (printed 4) "04000B 080008 0100051100026162 010007 110004 63640A65" (writes "abcd\ne")
    -- an ignored break leaves the one that waits
    ∷ case (printed 80) "03000C 080009 010006 100000 110000 050000 03000A 080007 010004 11000178" (writes "   x")
    ∷ []
