-- What the line machine adds is white: of a run shows what its operations hold themselves.
use Rattle.std.specs.Prelude.{if◌then◌else◌}
use Rattle.rules.proofs.Basics.{◌≡◌, refl, ◌∙◌, ap, List, [], ◌∷◌, ◌++◌, Option, none, some, Bool, true, false, ℕ, zero, suc, ◌-◌, ◌*◌, ltb, replicate}
use Rattle.rules.specs.Bytes.{newline}
use Rattle.rules.specs.Lines.{LineOp, part, mark, empty_anchor, new_line, break, indent, unindent, open_anchor, close_anchor, Break, a_space, a_newline, Line, empty, indented_by, has_text, Machine, Out, char, marked, made, copied, ignored, target, making, release, levels, spacing, item, broken, step, run}
use Rattle.rules.specs.Plain.{chars, fill}
use Rattle.rules.specs.Answers.{itself}
use Rattle.rules.specs.SameWords.{white, white_item, without, words, visible, marks}
use Rattle.rules.proofs.Runs.{Ops, Items}
use Rattle.rules.proofs.Said.{text_said}

-- ---- taking out

pub without_append : {A : Type 0} (test : A → Bool) (xs ys : List A) → without test (xs ++ ys) ≡ without test xs ++ without test ys
unfolding without
without_append test [] ys = refl
without_append {A} test (x ∷ xs) ys = go (test x) _ _ _ (without_append test xs ys)
  where
    go : (b : Bool) (l m n : List A) → l ≡ m ++ n → (if b then l else x ∷ l) ≡ (if b then m else x ∷ m) ++ n
    go true l m n e = e
    go false l m n e = ap (x ∷◌) e

pub visible_append : (is js : Items) → visible (is ++ js) ≡ visible is ++ visible js
unfolding visible
visible_append is js = without_append white_item is js

-- the words of a page are the characters that show
word_kept : (w : Bool) (c : Out ℕ) (l : List ℕ) (js : Items) → l ≡ fill itself (chars js)
    → (if w then l else fill itself (c ∷ []) ++ l) ≡ fill itself (chars (if w then js else char c ∷ js))
unfolding chars fill
word_kept true c l js e = e
word_kept false (made b) l js e = ap (b ∷◌) e
word_kept false (copied b) l js e = ap (b ∷◌) e

pub words_visible : (is : Items) → words (fill itself (chars is)) ≡ fill itself (chars (visible is))
unfolding words visible without chars fill white_item
words_visible [] = refl
words_visible (char (made b) ∷ is) = word_kept (white b) (made b) _ _ (words_visible is)
words_visible (char (copied b) ∷ is) = word_kept (white b) (copied b) _ _ (words_visible is)
words_visible (marked k ∷ is) = words_visible is

-- and its pushes and pops are those that show
pub marks_visible : (is : Items) → marks (visible is) ≡ marks is
unfolding marks visible without white_item
marks_visible [] = refl
marks_visible (char c ∷ is) = go (white_item (char c)) (visible is) ∙ marks_visible is
  where
    go : (w : Bool) (js : Items) → marks (if w then js else char c ∷ js) ≡ marks js
    go true js = refl
    go false js = refl
marks_visible (marked k ∷ is) = ap (k ∷◌) (marks_visible is)

-- ---- what the machine makes is white

spaces_white : (n : ℕ) → visible (making (replicate n 32)) ≡ []
unfolding visible without making white_item white newline
spaces_white zero = refl
spaces_white (suc n) = spaces_white n

levels_white : (k t : ℕ) → visible (levels k t) ≡ []
unfolding levels visible without making white_item white newline
levels_white k t = go (ltb t k)
  where
    go : (b : Bool) → visible (if b then making (10 ∷ replicate (2 * t) 32) else making (replicate (2 * (t - k)) 32)) ≡ []
    go true = spaces_white (2 * t)
    go false = spaces_white (2 * (t - k))

release_white : (w : Option Break) (l : Line) → visible (release w l).0 ≡ []
unfolding release visible without making white_item white newline
release_white none l = refl
release_white (some a_space) l = refl
release_white (some a_newline) l = refl

spacing_white : (level : ℕ) (bare : Bool) (l : Line) → visible (spacing level bare l).0 ≡ []
unfolding spacing visible without
spacing_white level bare empty = levels_white 0 (target level bare 0)
spacing_white level bare (indented_by k) = levels_white k (target level bare k)
spacing_white level bare has_text = refl

item_visible : (m : Machine) (bare : Bool) (is : Items) (f : Line → Line) → visible (item m bare is f).0 ≡ visible is
unfolding item
item_visible m bare is f =
    let w : Items × Line = release m.waiting m.line in
    let s : Items × Line = spacing m.level bare w.1 in
    rw (visible_append w.0 (s.0 ++ is), visible_append s.0 is, release_white m.waiting m.line, spacing_white m.level bare w.1)

broken_nothing : (i : Bool) (m : Machine) (b : Break) → (broken {X = ℕ} i m b).0 ≡ []
unfolding broken
broken_nothing true m b = refl
broken_nothing false m b = refl

-- ---- what shows of operations

-- the items that an operation holds itself
unfoldable pub own_items : LineOp ℕ → Items
own_items (part p) = text_said p
own_items (mark k) = marked k ∷ []
own_items (empty_anchor definition a) = marked (open_anchor definition a) ∷ marked close_anchor ∷ []
own_items new_line = []
own_items (break b) = []
own_items indent = []
own_items unindent = []

unfoldable pub showing : Ops → Items
showing [] = []
showing (o ∷ os) = visible (own_items o) ++ showing os

step_visible : (m : Machine) (o : LineOp ℕ) → visible (step m o).0 ≡ visible (own_items o)
unfolding step own_items text_said visible without making white_item white newline
step_visible m (part []) = refl
step_visible m (part (x ∷ s)) = item_visible m false (text_said (x ∷ s)) (λ l. has_text)
step_visible m (mark k) = item_visible m false (marked k ∷ []) (λ l. l)
step_visible m (empty_anchor definition a) = item_visible m true (marked (open_anchor definition a) ∷ marked close_anchor ∷ []) (λ l. l)
step_visible m new_line = refl
step_visible m (break b) = ap visible (broken_nothing (ignored m.level m.line) m b)
step_visible m indent = refl
step_visible m unindent = refl

-- WHAT SHOWS OF A RUN IS WHAT SHOWS OF ITS OPERATIONS, WHATEVER THE MACHINE IS
pub run_visible : (m : Machine) (os : Ops) → visible (run m os) ≡ showing os
unfolding run showing visible without
run_visible m [] = refl
run_visible m (o ∷ os) = rw (visible_append (step m o).0 (run (step m o).1 os), step_visible m o, run_visible (step m o).1 os)
