-- THE SAME WORDS AT EVERY WIDTH: layout turns the tags of blocks alone, and those give breaks and indents alone.
use Rattle.std.specs.Prelude.{if◌then◌else◌}
use Rattle.rules.proofs.Basics.{◌≡◌, refl, sym, ◌∙◌, ap, ap₂, List, [], ◌∷◌, ◌++◌, append_assoc, Option, none, some, Bool, true, false, ◌||◌, ◌&&◌, and-eq-true_iff, or-true, ℕ, eqb}
use Rattle.rules.specs.Bytes.{newline}
use Rattle.rules.specs.Result.{accepted, ◌>>=◌}
use Rattle.rules.specs.Walk.{Fields, bytes}
use Rattle.rules.specs.Tree.{styles_of, Run, Leaf, text, anchor, space, force, if_block, indented, flexible, Frag, Frags}
use Rattle.rules.specs.Encode.{run_fields, runs_fields, anchor_tag, leaf_fields, frag_fields, frags_fields}
use Rattle.rules.specs.Good.{Bytes}
use Rattle.rules.specs.Layout.{parts}
use Rattle.rules.specs.Lines.{LineOp, part, mark, Mark, push, pop, open_anchor, close_anchor, char, marked, copied, later, styled, text_ops, run_ops, runs_ops, leaf_ops, ops, indented_ops, inline_ops, start, items}
use Rattle.rules.specs.Answers.{tree, check_answer, check_answer_by, layout_outcome}
use Rattle.rules.specs.SameWords.{white, white_item, without, words, visible, marks, accepted_fields, file_fields, texts, without_7, page_items, SaysTheSame}
use Rattle.rules.proofs.Chains.{no_path, bind_inv}
use Rattle.rules.proofs.Files.{Read, tree_read}
use Rattle.rules.proofs.Laid.{Laid, l_stop, l_leaf, l_block, Laids, l_none, l_frag, laid_itself}
use Rattle.rules.proofs.LeftLaid.{Left, left_itself, left_by_layout}
use Rattle.rules.proofs.Runs.{Ops, Items}
use Rattle.rules.proofs.Said.{spoken, text_said, run_said, runs_said, leaf_said, frag_said, frags_said, frag_spoken}
use Rattle.rules.proofs.Visible.{visible_append, words_visible, marks_visible, own_items, showing, run_visible}

-- ---- what shows of a tree's operations is what shows of what the tree says

showing_append : (os us : Ops) → showing (os ++ us) ≡ showing os ++ showing us
unfolding showing
showing_append [] us = refl
showing_append (o ∷ os) us = ap (visible (own_items o) ++◌) (showing_append os us) ∙ sym (append_assoc (visible (own_items o)) (showing os) (showing us))

-- operations show what some items do
record Shows (os : Ops) (is : Items) : Type 0 where
  same : showing os ≡ visible is

shows_append : {os us : Ops} {is js : Items} → Shows os is → Shows us js → Shows (os ++ us) (is ++ js)
shows_append {os} {us} {is} {js} e f = record { same = showing_append os us ∙ ap₂ ◌++◌ e.same f.same ∙ sym (visible_append is js) }

shows_nothing : Shows [] []
unfolding showing visible without
shows_nothing = record { same = refl }

-- an operation that holds no items itself
shows_quiet : {o : LineOp ℕ} {os : Ops} {is : Items} → own_items o ≡ [] → Shows os is → Shows (o ∷ os) is
unfolding showing visible without
shows_quiet {o} {os} {is} q e = record { same = ap (λ (js : Items). visible js ++ showing os) q ∙ e.same }

-- a text: its newlines are white
abbrev part_ops : List ℕ × List (List ℕ) → Ops
part_ops l = part l.0 ∷ later l.1

newline_white : (x : ℕ) → newline x ≡ true → white x ≡ true
unfolding white
newline_white x h = ap (eqb x 32 ||◌) h ∙ or-true (eqb x 32)

text_shows : (v : List ℕ) → Shows (text_ops newline v) (text_said v)
unfolding text_ops parts later showing own_items text_said visible without white_item
text_shows [] = record { same = refl }
text_shows (x ∷ v) = go (newline x) refl (text_shows v)
  where
    l : List ℕ × List (List ℕ)
    l = parts newline v

    more : (w : Bool) (is js ks : Items) → is ++ js ≡ ks → (if w then is else char (copied x) ∷ is) ++ js ≡ (if w then ks else char (copied x) ∷ ks)
    more true is js ks e = e
    more false is js ks e = ap (char (copied x) ∷◌) e

    go : (b : Bool) → newline x ≡ b → Shows (part_ops l) (text_said v)
        → Shows (part_ops (if b then ([], l.0 ∷ l.1) else (x ∷ l.0, l.1))) (text_said (x ∷ v))
    go true q h = record { same = h.same ∙ ap (λ (w : Bool). if w then visible (text_said v) else char (copied x) ∷ visible (text_said v)) (sym (newline_white x q)) }
    go false q h = record { same = more (white x) _ _ _ h.same }

-- a push or a pop
shows_mark : (k : Mark ℕ) → Shows (mark k ∷ []) (marked k ∷ [])
unfolding showing own_items visible without white_item
shows_mark k = record { same = refl }

run_shows : (style : Option (Fields ℕ)) (v : List ℕ) → Shows (styled style (text_ops newline v)) (run_said style v)
unfolding styled run_said
run_shows none v = text_shows v
run_shows (some j) v = shows_append (shows_mark (push (styles_of j))) (shows_append (text_shows v) (shows_mark (pop (styles_of j))))

runs_show : (rs : List (Run ℕ)) → Shows (runs_ops newline rs) (runs_said rs)
unfolding runs_ops run_ops runs_said
runs_show [] = shows_nothing
runs_show (r ∷ rs) = shows_append (run_shows r.style r.chars) (runs_show rs)

-- a leaf, but for a 7; and what follows has none
behind : (i r : Fields ℕ) → (without_7 i && without_7 r) ≡ true → without_7 r ≡ true
behind i r h = ((and-eq-true_iff (without_7 i) (without_7 r)).0 h).1

leaf_shows : (directly : Bool) (n : Leaf ℕ) (r : Fields ℕ) → without_7 (leaf_fields n r) ≡ true → Shows (leaf_ops newline directly n) (leaf_said n) × (without_7 r ≡ true)
unfolding leaf_ops run_ops leaf_said runs_said leaf_fields without_7 showing own_items visible without white_item
leaf_shows directly (text x) r h = (run_shows x.style x.chars, behind (run_fields x.style x.chars) r h)
leaf_shows directly (anchor definition a []) r h = (record { same = refl }, behind (bytes (anchor_tag definition) a (runs_fields [])) r h)
leaf_shows directly (anchor definition a (x ∷ xs)) r h = (
  shows_append (shows_mark (open_anchor definition a)) (shows_append (runs_show (x ∷ xs)) (shows_mark close_anchor)),
  behind (bytes (anchor_tag definition) a (runs_fields (x ∷ xs))) r h,
)
leaf_shows directly space r h = (shows_quiet refl shows_nothing, h)
leaf_shows directly force r h = (shows_quiet refl shows_nothing, h)
leaf_shows directly (if_block v) r h = no_path (cc)

-- a tree, laid out or not: a block's tag gives breaks and indents, which hold no items
mutual
  unfolding ops frag_said frag_fields without_7 own_items

  laid_shows : {t u : Frag ℕ} → Laid t u → without_7 (frag_fields t) ≡ true → (directly : Bool) → Shows (ops newline directly u) (frag_said t)
  laid_shows l_stop h directly = shows_nothing
  laid_shows (l_leaf {n = n} {r} l) h directly = let (q, h') = leaf_shows directly n (frag_fields r) h in shows_append q (laid_shows l h' directly)
  laid_shows (l_block {k' = indented} {fs} {r = r} k ls l) h directly =
      let h' = (and-eq-true_iff (without_7 (frags_fields fs)) (without_7 (frag_fields r))).0 h in
      shows_quiet refl (shows_quiet refl (shows_append (indented_show ls h'.0) (shows_quiet refl (laid_shows l h'.1 directly))))
  laid_shows (l_block {k' = flexible} {fs} {r = r} k ls l) h directly =
      let h' = (and-eq-true_iff (without_7 (frags_fields fs)) (without_7 (frag_fields r))).0 h in
      shows_append (inline_show ls h'.0) (laid_shows l h'.1 directly)

  indented_show : {fs gs : Frags ℕ} → Laids fs gs → without_7 (frags_fields fs) ≡ true → Shows (indented_ops newline gs) (frags_said fs)
  indented_show l_none h = shows_nothing
  indented_show (l_frag {f} {fs = fs} l ls) h =
      let h' = (and-eq-true_iff (without_7 (frag_fields f)) (without_7 (frags_fields fs))).0 h in
      shows_append (laid_shows l h'.0 true) (shows_quiet refl (indented_show ls h'.1))

  inline_show : {fs gs : Frags ℕ} → Laids fs gs → without_7 (frags_fields fs) ≡ true → Shows (inline_ops newline gs) (frags_said fs)
  inline_show l_none h = shows_nothing
  inline_show (l_frag {f} {fs = fs} l ls) h =
      let h' = (and-eq-true_iff (without_7 (frag_fields f)) (without_7 (frags_fields fs))).0 h in
      shows_append (laid_shows l h'.0 false) (inline_show ls h'.1)

-- ---- the theorem, of accepted files without a 7

-- what is left of a file says what the file says
left_says : {s u : List ℕ} {t : Frag ℕ} → Read s t → tree s ≡ accepted t → without_7 (frag_fields t) ≡ true → Left s t u → SaysTheSame s u
unfolding page_items items file_fields accepted_fields ◌>>=◌
left_says {s} {u} {t} R e h L =
    let shown : (v : Frag ℕ) → Laid t v → visible (items newline v) ≡ visible (frag_said t) =
    λ v l. run_visible start (ops newline false v) ∙ (laid_shows l h false).same in
    let said : visible (items newline L.root) ≡ visible (frag_said t) = shown L.root L.laid_root in
    let q : visible (items newline L.root) ≡ visible (items newline t) = said ∙ sym (shown t (laid_itself t)) in
    record {
      of_s = items newline t;
      of_t = items newline L.root;
      items_of_s = rw e;
      items_of_t = rw L.reads;
      same_items = q;
      same_marks = sym (marks_visible (items newline L.root)) ∙ ap marks q ∙ marks_visible (items newline t);
      same_words =
          words_visible (items newline L.root)
          ∙ ap spoken said
          ∙ sym (words_visible (frag_said t))
          ∙ ap words (frag_spoken t 0 0 R.good.good ∙ sym (ap texts (ap accepted_fields R.checked)));
    }

module _ (s : List ℕ) (bs : Bytes s) (p : check_answer s ≡ accepted 0) (h : without_7 (file_fields s) ≡ true) where
  left_same : (u : List ℕ) → ((t : Frag ℕ) → tree s ≡ accepted t → Left s t u) → SaysTheSame s u
  unfolding check_answer_by file_fields accepted_fields
  left_same u left =
      let (t, e, q) = bind_inv _ _ _ p in
      let R = tree_read s t bs e in
      left_says R e (sym (ap without_7 (ap accepted_fields R.checked)) ∙ h) (left t e)

  -- WHAT LAYOUT LEAVES AT ANY WIDTH SAYS WHAT THE FILE SAYS, AND SO DOES THE FILE ITSELF
  pub same_at_every_width : (w : ℕ) → SaysTheSame s (layout_outcome w s).1
  same_at_every_width w = left_same (layout_outcome w s).1 (λ t e. left_by_layout w s t bs e)

  pub same_as_it_is : SaysTheSame s s
  same_as_it_is = left_same s (λ t e. left_itself s t bs e)
