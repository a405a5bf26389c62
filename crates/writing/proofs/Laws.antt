-- Laws of writing, for callers: writings in a row, and what a page looks like afterwards.
use Rattle.rules.proofs.Basics.{◌≡◌, refl, sym, ap, ◌∙◌, List, [], ◌∷◌, ◌++◌, ℕ, suc, ◌+◌, ◌≤◌, min, max, arith, length, set, drop, length-append, length-set, sets-eq}
use denote.Ref.{at_last}
use lib.Seq.{sets}
use Rattle.writing.specs.declared.Page.{Page}
use Rattle.writing.specs.Written.{last, moved, with_text, Written, Put}

-- ---- positions

moved_none : (at : ℕ) → moved at 0 ≡ at
unfolding moved
moved_none at = omega arith

pub moved_then : (at n m : ℕ) → moved (moved at n) m ≡ moved at (n + m)
unfolding moved
moved_then at n m = omega arith

pub moved_far : (n : ℕ) → n ≤ last → moved 0 n ≡ n
unfolding moved
moved_far n h = omega arith

-- ---- pages

pub with_append : (page : List ℕ) (at : ℕ) (xs ys : List ℕ) → with_text page at (xs ++ ys) ≡ with_text (with_text page at xs) (moved at (length xs)) ys
unfolding with_text
with_append page at [] ys = rw moved_none
with_append page at (x ∷ xs) ys =
    let e : moved (moved at 1) (length xs) ≡ moved at (suc (length xs)) = moved_then at 1 (length xs) ∙ ap (moved at) (omega arith) in
    rw (← e) (with_append (set page at x) (moved at 1) xs ys)

pub with_length : (page : List ℕ) (at : ℕ) (text : List ℕ) → length (with_text page at text) ≡ length page
unfolding with_text
with_length page at [] = refl
with_length page at (b ∷ text) = with_length (set page at b) (moved at 1) text ∙ length-set page at b

pub with_sets : (page : List ℕ) (at : ℕ) (text : List ℕ) → at + length text ≤ last → with_text page at text ≡ sets page at text
unfolding with_text moved
with_sets page at [] h = refl
with_sets page at (b ∷ text) h =
    let e : min (at + 1) (max at last) ≡ suc at = omega arith in
    rw e (with_sets (set page at b) (suc at) text (omega arith))

with_none : (at : ℕ) (text : List ℕ) → with_text [] at text ≡ []
unfolding with_text
with_none at [] = refl
with_none at (b ∷ text) = with_none (moved at 1) text

-- ---- writings

-- nothing is written
pub nothing : {page : List ℕ} {at : ℕ} → Written page at [] page at
unfolding with_text
nothing {at = at} = record { next = sym (moved_none at); page_is = refl }

-- two writings in a row are one, of the one text after the other
pub then : {page page' page'' : List ℕ} {at b r : ℕ} {xs ys : List ℕ} → Written page at xs page' b → Written page' b ys page'' r
    → Written page at (xs ++ ys) page'' r
then {page} {at = at} {xs = xs} {ys} f g =
    record {
      next = g.next ∙ rw (f.next, moved_then at (length xs) (length ys), length-append xs ys);
      page_is = rw (g.page_is, f.page_is, f.next, ← with_append page at xs ys);
    }

-- the page's length is kept
pub kept : {page : List ℕ} {at : ℕ} {text page' : List ℕ} {r : ℕ} → Written page at text page' r → length page' ≡ length page
kept {page} {at} {text} f = ap length f.page_is ∙ with_length page at text

-- the position says how long a text is that has an end
pub how_long : {page text page' : List ℕ} {r : ℕ} → Written page 0 text page' r → length text ≤ last → r ≡ length text
how_long {text = text} f h = f.next ∙ moved_far (length text) h

-- a text that fits stands at the page's start, and later bytes stay
pub fits : {page text page' : List ℕ} {r : ℕ} → Written page 0 text page' r → length text ≤ last → length text ≤ length page
    → page' ≡ text ++ drop (length text) page
fits {page} {text} f l h =
    let e : 0 + length text ≡ length text = omega arith in
    let h' : 0 + length text ≤ length page = omega arith in
    f.page_is ∙ with_sets page 0 text (omega arith) ∙ rw e at (sets-eq text page 0 h')

-- a page without bytes stays so
pub no_page : {at : ℕ} {text page' : List ℕ} {r : ℕ} → Written [] at text page' r → page' ≡ []
no_page {at} {text} f = f.page_is ∙ with_none at text

-- ---- the same of a page that is put on

-- nothing is put
pub put_nothing : {p : Page} → Put p [] p
put_nothing = record { same = refl; written = nothing }

-- two texts put in a row are one, of the one text after the other
pub put_then : {p q r : Page} {xs ys : List ℕ} → Put p xs q → Put q ys r → Put p (xs ++ ys) r
put_then {r = r} f g = record { same = g.same ∙ ap (λ b. at_last b r.bytes.now) f.same; written = then f.written g.written }

-- it stays the page that was lent
pub same_page : {p q : Page} {text : List ℕ} → Put p text q → q.bytes.ghost_name ≡ p.bytes.ghost_name
same_page f = ap (λ b. b.ghost_name) f.same
