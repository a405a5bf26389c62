-- What the pen writes: an operation's own bytes, and all of one operation.
use Rattle.std.specs.Prelude.{Option as Held, Some, None}
use Rattle.rules.proofs.Basics.{◌≡◌, refl, ap, subst, ◌∙◌, List, [], ◌∷◌, ◌++◌, append-nil, Bool, ℕ}
use Rattle.rules.specs.Lines.{Mark, open_anchor, close_anchor, Item, marked, making, step, run, after}
use Rattle.rules.specs.Plain.{chars, fill}
use Rattle.rules.specs.Html.{Escape, escape, strict_escape, mark_html, item_html, items_html}
use Rattle.rules.specs.Answers.{itself}
use Rattle.writing.specs.declared.Page.{Page}
use Rattle.writing.specs.Written.{Put}
use Rattle.writing.proofs.Laws as writing
use Rattle.lines.specs.declared.LineOp as O
use Rattle.lines.specs.declared.Machine as M
use Rattle.lines.specs.declared.Stepped.{Stepped}
use Rattle.lines.specs.declared.Break as B
use Rattle.lines.specs.Said.{break_of, waiting_of, break_bytes, machine_of, before_bytes, step_of, operation, copies, own}
use Rattle.pens.specs.States.{waiting_bytes}
use Rattle.pens.specs.Ran.{shown, machine, form, IsMark, Interpreted}
use Rattle.pens.specs.declared.state.Form as F
use Rattle.pens.specs.declared.pen.Pen.{Pen}
use Rattle.pens.proofs.Running.{shown_append}

-- ---- a break, in the rules' words and in the code's

pub break_said : (w : Held B.Break) → waiting_bytes (waiting_of w) ≡ break_bytes w
unfolding waiting_bytes waiting_of break_of break_bytes
break_said None = refl
break_said (Some B.TheVariants.Space) = refl
break_said (Some B.TheVariants.NewLine) = refl

-- ---- an operation's own bytes on a plain page

pub shown_copies : (v : List ℕ) → shown F.TheVariants.Plain (copies v) ≡ v
unfolding shown copies chars fill
shown_copies [] = refl
shown_copies (b ∷ v) = ap (λ (s : List ℕ). b ∷ s) (shown_copies v)

pub shows_nothing : (op : O.LineOp) (v : List ℕ) {p : Page} → (op ≡ O.TheVariants.AppendToLine → ⊥) → Put p (shown F.TheVariants.Plain (own op v)) p
unfolding own shown chars fill
shows_nothing O.TheVariants.PushIndent v n = writing.put_nothing
shows_nothing O.TheVariants.PopIndent v n = writing.put_nothing
shows_nothing O.TheVariants.PushStyles v n = writing.put_nothing
shows_nothing O.TheVariants.PopStyles v n = writing.put_nothing
shows_nothing (O.TheVariants.PushAnchor d) v n = writing.put_nothing
shows_nothing O.TheVariants.PopAnchor v n = writing.put_nothing
shows_nothing (O.TheVariants.EmptyAnchor d) v n = writing.put_nothing
shows_nothing O.TheVariants.AppendToLine v n = absurd (n refl)
shows_nothing O.TheVariants.StartNewLine v n = writing.put_nothing
shows_nothing (O.TheVariants.BreakIfWithinLine b) v n = writing.put_nothing

pub mark_no_text : (op : O.LineOp) → IsMark op → op ≡ O.TheVariants.AppendToLine → ⊥
unfolding IsMark
mark_no_text op q e = subst IsMark e q

pub mark_shows_nothing : (op : O.LineOp) (v : List ℕ) {p : Page} → IsMark op → Put p (shown F.TheVariants.Plain (own op v)) p
mark_shows_nothing op v q = shows_nothing op v (mark_no_text op q)

-- ---- in HTML

abbrev html : List (Item ℕ) → List ℕ
html is = shown F.TheVariants.Html is

-- one mark
pub html_mark : (k : Mark ℕ) → html (marked k ∷ []) ≡ fill itself (mark_html k)
unfolding shown items_html item_html
html_mark k = ap (fill itself) (append-nil (mark_html k))

pub shows_both : (v : List ℕ) (d : Bool) {p q r : Page} → Put p (fill itself (mark_html (open_anchor d v))) q
    → Put q (fill itself (mark_html {X = ℕ} close_anchor)) r → Put p (html (own (O.TheVariants.EmptyAnchor d) v)) r
unfolding own
shows_both v d f g =
    rw (shown_append F.TheVariants.Html (marked (open_anchor d v) ∷ []) (marked close_anchor ∷ []), html_mark (open_anchor d v), html_mark close_anchor) (writing.put_then f g)

-- the tags of both modes are the same
same_tags : (op : O.LineOp) (v : List ℕ) → (op ≡ O.TheVariants.AppendToLine → ⊥) → html (own op v) ≡ shown F.TheVariants.Strict (own op v)
unfolding own shown items_html item_html
same_tags O.TheVariants.PushIndent v n = refl
same_tags O.TheVariants.PopIndent v n = refl
same_tags O.TheVariants.PushStyles v n = refl
same_tags O.TheVariants.PopStyles v n = refl
same_tags (O.TheVariants.PushAnchor d) v n = refl
same_tags O.TheVariants.PopAnchor v n = refl
same_tags (O.TheVariants.EmptyAnchor d) v n = refl
same_tags O.TheVariants.AppendToLine v n = absurd (n refl)
same_tags O.TheVariants.StartNewLine v n = refl
same_tags (O.TheVariants.BreakIfWithinLine b) v n = refl

pub strict_tags : (op : O.LineOp) (v : List ℕ) {p r : Page} → (op ≡ O.TheVariants.AppendToLine → ⊥)
    → Put p (html (own op v)) r → Put p (shown F.TheVariants.Strict (own op v)) r
strict_tags op v m w = rw (← same_tags op v m) w

pub html_tags : (f : F.Form) (op : O.LineOp) (v : List ℕ) {p r : Page} → (f ≡ F.TheVariants.Plain → ⊥) → (op ≡ O.TheVariants.AppendToLine → ⊥)
    → Put p (html (own op v)) r → Put p (shown f (own op v)) r
html_tags F.TheVariants.Plain op v n m w = absurd (n refl)
html_tags F.TheVariants.Html op v n m w = w
html_tags F.TheVariants.Strict op v n m w = strict_tags op v m w

-- ---- one operation

made_chars : (bs : List ℕ) → fill itself (chars (making bs)) ≡ bs
unfolding making chars fill
made_chars [] = refl
made_chars (b ∷ bs) = ap (λ (s : List ℕ). b ∷ s) (made_chars bs)

made_html : (look : ℕ → Escape) (bs : List ℕ) → fill itself (items_html look (making bs)) ≡ bs
unfolding making items_html item_html fill
made_html look [] = refl
made_html look (b ∷ bs) = ap (λ (s : List ℕ). b ∷ s) (made_html look bs)

pub shown_making : (f : F.Form) (bs : List ℕ) → shown f (making bs) ≡ bs
unfolding shown
shown_making F.TheVariants.Plain bs = made_chars bs
shown_making F.TheVariants.Html bs = made_html escape bs
shown_making F.TheVariants.Strict bs = made_html strict_escape bs

pub one_operation : (op : O.LineOp) (v : List ℕ) (m : M.Machine) (f : F.Form) {p p' : Pen} {q : Page} (s : Stepped) → machine_of m ≡ machine p → f ≡ form p
    → step_of s (own op v) ≡ step (machine_of m) (operation op v) → Put p.page (before_bytes s.before) q → Put q (shown f (own op v)) p'.page
    → machine p' ≡ machine_of s.machine → form p' ≡ f → Interpreted op v p p'
unfolding step_of after run
one_operation op v m f {p} {p'} s mine its e w own-w is kept =
    let items : List (Item ℕ) = making (before_bytes s.before) ++ own op v in
    let shows : shown f (items ++ []) ≡ before_bytes s.before ++ shown f (own op v) =
    rw (append-nil items, shown_append f (making (before_bytes s.before)) (own op v), shown_making f (before_bytes s.before)) in
    let stepped : step_of s (own op v) ≡ step (machine p) (operation op v) = e ∙ ap (λ x. step x (operation op v)) mine in
    record {
      ran = record {
        machine_then = is ∙ ap (λ x. x.1) stepped;
        put = rw (← (ap (λ x. x.0) stepped), ← its, shows) (writing.put_then w own-w);
        form_kept = kept ∙ its;
      };
    }
