-- Refused files: at least one for each number, and one for each conflict that document 01's order settles, with number and place.
use Rattle.std.specs.Prelude.{List, [], ◌∷◌, ℕ, zero, suc, replicate}
use Prim.Native.String.{String}
use Rattle.rules.specs.Result.{Result}
use Rattle.rules.specs.Encode.{field}
use Rattle.rules.specs.Answers.{check_answer, layout_outcome, plain_outcome, body_outcome, document_outcome, strict_check_answer, strict_body_outcome, strict_document_outcome}
use Rattle.rules.specs.Cases.{unhex, nested}

pub data Entry : Type 0 where
  file_check : Entry
  layout_at : (width : ℕ) → Entry
  plain_page_of : (room : ℕ) → Entry
  body_of : (room : ℕ) → Entry
  document_of : (room : ℕ) → Entry
  strict_check : Entry
  strict_body_of : (room : ℕ) → Entry
  strict_document_of : (room : ℕ) → Entry

unfoldable pub answers : Entry → List ℕ → Result ℕ
answers file_check s = check_answer s
answers (layout_at w) s = (layout_outcome w s).0
answers (plain_page_of room) s = (plain_outcome s (replicate room 0)).0
answers (body_of room) s = (body_outcome s (replicate room 0)).0
answers (document_of room) s = (document_outcome s (replicate room 0)).0
answers strict_check s = strict_check_answer s
answers (strict_body_of room) s = (strict_body_outcome s (replicate room 0)).0
answers (strict_document_of room) s = (strict_document_outcome s (replicate room 0)).0

pub record RefusedCase : Type 0 where
  pub entry : Entry
  pub file : List ℕ
  pub number : ℕ
  pub place : ℕ

unfoldable pub no : Entry → String → (number place : ℕ) → RefusedCase
no e s n p = record { entry = e; file = unhex s; number = n; place = p }

unfoldable pub no_bytes : Entry → List ℕ → (number place : ℕ) → RefusedCase
no_bytes e s n p = record { entry = e; file = s; number = n; place = p }

-- some bytes inside n blocks
unfoldable pub inside_blocks : ℕ → List ℕ → List ℕ
inside_blocks zero v = v
inside_blocks (suc n) v = field 3 (field 8 (inside_blocks n v))

unfoldable pub refusals : List RefusedCase
refusals =
    -- 1, and before 2 and the walk
    no_bytes file_check (replicate 60_001 99) 1 0
    ∷ no_bytes (layout_at 6_554) (replicate 60_001 99) 1 0
    -- 2, and before the walk
    ∷ no (layout_at 6_554) "" 2 0
    ∷ no (layout_at 65_535) "63" 2 0
    -- 3: under three bytes for a field; a length that passes the end of the file, or of the innermost value
    ∷ no file_check "63" 3 0
    ∷ no file_check "0500" 3 0
    ∷ no file_check "010004 110001" 3 0
    ∷ no file_check "010004 110002 61 62" 3 3
    -- 4: a tag that is not allowed; a wrong field where 18 or 19 should stand; repeated and falling style tags; anything after a 17
    ∷ no file_check "080000" 4 0
    ∷ no file_check "020007 010004 11000161" 4 3
    ∷ no file_check "01000C 100006 240000 240000 110000" 4 9
    ∷ no file_check "01000C 100006 250000 240000 110000" 4 9
    ∷ no file_check "01000C 100006 270000 270000 110000" 4 9
    ∷ no file_check "01000C 100006 270000 260000 110000" 4 9
    ∷ no file_check "010009 100003 280000 110000" 4 6
    ∷ no file_check "010006 110000 110000" 4 6
    -- 5: a fixed length; a 1 without 17, a 2 without 18 or 19
    ∷ no file_check "050001 00" 5 0
    ∷ no file_check "010009 100003 200000 110000" 5 6
    ∷ no file_check "01000A 100004 270001 00 110000" 5 6
    ∷ no file_check "010000" 5 0
    ∷ no file_check "010003 100000" 5 0
    ∷ no file_check "020000" 5 0
    -- 6: a block inside 32 others
    ∷ no_bytes file_check (nested 33) 6 192
    -- 7: bytes that are not UTF-8, in 17, 7, 18 and 19
    ∷ no file_check "010004 110001 FF" 7 3
    ∷ no file_check "070001 80" 7 0
    ∷ no file_check "020005 120002 C080" 7 3
    ∷ no file_check "020006 130003 EDA080" 7 3
    -- 8: size; opacities -0, NaN, below 1/1024, above 1; opacity without colour; both scripts
    ∷ no file_check "01000A 100004 23000176 110000" 8 6
    ∷ no file_check "010013 10000D 200003000000 21000480000000 110000" 8 12
    ∷ no file_check "010013 10000D 200003000000 2100047FC00000 110000" 8 12
    ∷ no file_check "010013 10000D 200003000000 2100043A7FFFFF 110000" 8 12
    ∷ no file_check "010013 10000D 200003000000 2100043F800001 110000" 8 12
    ∷ no file_check "01000D 100007 2100043F000000 110000" 8 3
    ∷ no file_check "01000C 100006 240000 250000 110000" 8 3
    -- 9
    ∷ no file_check "020004 120001 22" 9 3
    -- 10: the bytes needed; after the walk
    ∷ no (plain_page_of 0) "01000411000161" 10 1
    ∷ no (plain_page_of 0) "63" 3 0
    ∷ no (body_of 62) "" 10 63
    ∷ no (document_of 0) "050001 00" 5 0
    -- 14, in strict mode: a NUL in a 17, in a 7 and in an anchor's text; before 10, and behind 1 and what stands before it
    ∷ no strict_check "010004 110001 00" 14 3
    ∷ no strict_check "070003 610062" 14 0
    ∷ no strict_check "02000B 120001 00 010004 110001 00" 14 10
    ∷ no (strict_body_of 0) "010004 110001 00" 14 3
    ∷ no (strict_document_of 0) "010004 110001 00" 14 3
    ∷ no (strict_body_of 67) "010004 110001 0D" 10 68
    ∷ no_bytes strict_check (replicate 60_001 0) 1 0
    ∷ no strict_check "050001 00 070001 00" 5 0
    -- a NUL behind bytes that are not UTF-8, in the same text and in one before it; and before a later fault
    ∷ no strict_check "010005 110002 00FF" 7 3
    ∷ no strict_check "070001 FF 070001 00" 7 0
    ∷ no strict_check "070001 00 070001 FF" 14 0
    -- two faults at one field: three bytes there before tag, tag before length, length fits before fixed length, these before depth, depth before content
    ∷ no file_check "09 FF" 3 0
    ∷ no file_check "09 FFFF" 4 0
    ∷ no file_check "050001" 3 0
    ∷ no_bytes file_check (inside_blocks 32 (unhex "030001")) 3 192
    ∷ no_bytes file_check (inside_blocks 32 (unhex "030001 00")) 6 192
    -- a fault inside a field before one behind it, and before one in what encloses it
    ∷ no file_check "010004 110001 FF 080000" 7 3
    ∷ no file_check "030008 080004 050001 00 63" 5 6
    -- UTF-8 before the quote
    ∷ no file_check "020005 120002 22FF" 7 3
    -- a 16's fields before its own two faults, a missing colour before both scripts
    ∷ no file_check "01000D 100007 21000480000000 110000" 8 6
    ∷ no file_check "010016 100010 2100043F000000 23000176 240000 250000" 3 0
    ∷ no file_check "010017 100011 2100043F000000 23000176 240000 250000 110000" 8 13
    -- a faulty 16 before the missing 17
    ∷ no file_check "010009 100006 240000 250000" 8 3
    -- what stands after the 17: one or two bytes are 3, three or more are 4
    ∷ no file_check "010004 110000 00" 3 6
    ∷ no file_check "010006 110000 00FFFF" 4 6
    ∷ []
