-- What stands before a part or a mark: its bytes, the line there, and what the operation then leaves.
use Rattle.std.specs.Prelude.{if◌then◌else◌}
use Rattle.rules.proofs.Basics.{◌≡◌, refl, sym, ap, ◌∙◌, List, [], ◌∷◌, ◌++◌, append-nil, Option, none, some, Bool, true, false, ℕ, ◌-◌, ◌*◌, ◌<◌, ◌≤◌, arith, ltb, lt-ltb, le-ltb, length, replicate}
use Rattle.rules.specs.Lines as rules
use Rattle.rules.specs.Lines.{Machine, Line, Break, LineOp, Item, making, release, levels, spacing, item, step, run, after, part}
use Rattle.writing.specs.declared.Page.{Page}
use Rattle.writing.specs.Written.{Put}
use Rattle.writing.proofs.Laws as writing
use Rattle.lines.specs.declared.LineOp as O
use Rattle.lines.specs.Said.{operation, copies, own}
use Rattle.lines.specs.declared.LineState as L
use Rattle.lines.specs.Said.{line_of}
use Rattle.pens.specs.States.{waiting_bytes, levels_bytes, line_bytes, line_then, ready_bytes, line_ready, on_line}
use Rattle.pens.specs.Ran.{shown, machine, form, Ran, IsMark, Interpreted}
use Rattle.pens.specs.declared.state.Form as F
use Rattle.pens.specs.declared.pen.Pen.{Pen}
use Rattle.pens.proofs.Running.{shown_append, shown_nothing}
use Rattle.pens.proofs.Pens.{shown_making, shown_copies}

-- ---- the rules' items are these bytes

released : (w : Option Break) (l : Line) (bs : List ℕ) (is : List (Item ℕ)) → making (waiting_bytes w ++ bs) ++ is ≡ (release w l).0 ++ (making bs ++ is)
unfolding release making waiting_bytes
released none l bs is = refl
released (some rules.a_space) l bs is = refl
released (some rules.a_newline) l bs is = refl

making_either : (b : Bool) (xs ys : List ℕ) → making {X = ℕ} (if b then xs else ys) ≡ (if b then making xs else making ys)
making_either true xs ys = refl
making_either false xs ys = refl

levels_said : (k t : ℕ) → making (levels_bytes k t) ≡ levels {X = ℕ} k t
unfolding levels levels_bytes
levels_said k t = making_either (ltb t k) (10 ∷ replicate (2 * t) 32) (replicate (2 * (t - k)) 32)

spaced : (level : ℕ) (l : Line) → making (line_bytes level l) ≡ (spacing {X = ℕ} level false l).0
unfolding spacing line_bytes making rules.target
spaced level rules.empty = levels_said 0 level
spaced level (rules.indented_by k) = levels_said k level
spaced level rules.has_text = refl

pub item_says : (m : Machine) (is : List (Item ℕ)) (f : Line → Line) → item m false is f ≡ (making (ready_bytes m) ++ is, on_line m (f (line_ready m)))
unfolding item ready_bytes line_ready line_then on_line
item_says m is f =
    let w : List (Item ℕ) × Line = release m.waiting m.line in
    ap (λ (x : List (Item ℕ)). (w.0 ++ (x ++ is), on_line m (f (line_ready m)))) (sym (spaced m.level w.1))
    ∙ ap (λ (x : List (Item ℕ)). (x, on_line m (f (line_ready m)))) (sym (released m.waiting m.line (line_bytes m.level w.1) is))

-- ---- an operation with an item

item_ran : (o : LineOp ℕ) (is : List (Item ℕ)) (f : Line → Line) {p p' : Pen} {q : Page} {g : F.Form} → step (machine p) o ≡ item (machine p) false is f
    → Put p.page (ready_bytes (machine p)) q → g ≡ form p → Put q (shown g is) p'.page
    → machine p' ≡ on_line (machine p) (f (line_ready (machine p))) → form p' ≡ form p → Ran (o ∷ []) p p'
unfolding after run
item_ran o is f {p} {g = g} e w q w' m k =
    let s : step (machine p) o ≡ (making (ready_bytes (machine p)) ++ is, on_line (machine p) (f (line_ready (machine p)))) = e ∙ item_says (machine p) is f in
    let bs : List ℕ = ready_bytes (machine p) in
    record {
      machine_then = m ∙ sym (ap (λ x. x.1) s);
      put = rw (ap (λ x. x.0) s, append-nil (making bs ++ is), shown_append (form p) (making bs) is, shown_making (form p) bs, ← q) (writing.put_then w w');
      form_kept = k;
    }

pub mark_item : (op : O.LineOp) (v : List ℕ) (m : Machine) → IsMark op → step m (operation op v) ≡ item m false (own op v) (λ l. l)
unfolding step operation own IsMark
mark_item O.TheVariants.PushStyles v m q = refl
mark_item O.TheVariants.PopStyles v m q = refl
mark_item (O.TheVariants.PushAnchor d) v m q = refl
mark_item O.TheVariants.PopAnchor v m q = refl
mark_item O.TheVariants.PushIndent v m q = absurd q
mark_item O.TheVariants.PopIndent v m q = absurd q
mark_item (O.TheVariants.EmptyAnchor d) v m q = absurd q
mark_item O.TheVariants.AppendToLine v m q = absurd q
mark_item O.TheVariants.StartNewLine v m q = absurd q
mark_item (O.TheVariants.BreakIfWithinLine b) v m q = absurd q

pub part_item : (v : List ℕ) (m : Machine) → 0 < length v → step m (part v) ≡ item m false (copies v) (λ l. rules.has_text)
unfolding step copies
part_item [] m h = absurd (omega arith)
part_item (x ∷ v) m h = refl

module _ (v : List ℕ) {p p' : Pen} {z : Page} (w : Put p.page (ready_bytes (machine p)) z) where
  pub mark_ready : (op : O.LineOp) (l : L.LineState) → IsMark op → Put z (shown (form p) (own op v)) p'.page → line_of l ≡ line_ready (machine p)
      → machine p' ≡ on_line (machine p) (line_of l) → form p' ≡ form p → Interpreted op v p p'
  mark_ready op l i w' e m k =
      record { ran = item_ran (operation op v) (own op v) (λ l. l) (mark_item op v (machine p) i) w refl w' (m ∙ ap (on_line (machine p)) e) k }

  pub part_ready : 0 < length v → Put z (shown (form p) (copies v)) p'.page → machine p' ≡ on_line (machine p) (line_of L.TheVariants.HasText) → form p' ≡ form p
      → Interpreted O.TheVariants.AppendToLine v p p'
  unfolding operation line_of
  part_ready h w' m k = record { ran = item_ran (part v) (copies v) (λ l. rules.has_text) (part_item v (machine p) h) w refl w' m k }

-- on a plain page its bytes are its own
pub plain_ready : (v : List ℕ) {p p' : Pen} {q : Page} → Put p.page (ready_bytes (machine p)) q → form p ≡ F.TheVariants.Plain → 0 < length v
    → Put q v p'.page → machine p' ≡ on_line (machine p) (line_of L.TheVariants.HasText) → form p' ≡ form p → Interpreted O.TheVariants.AppendToLine v p p'
plain_ready v w f h w' m k = part_ready v w h (rw (f, shown_copies v) w') m k

-- ---- a line brought to the indent

pub fewer_levels : (k t : ℕ) {p q : Page} → k ≤ t → Put p (replicate (2 * (t - k)) 32) q → Put p (levels_bytes k t) q
unfolding levels_bytes
fewer_levels k t h w = rw (le-ltb t k h) w

pub no_levels : (t : ℕ) {p : Page} → t ≡ 0 → Put p (levels_bytes 0 t) p
unfolding levels_bytes
no_levels t e = rw e writing.put_nothing

pub too_many : (k t : ℕ) {p q r : Page} → t < k → Put p (10 ∷ []) q → Put q (replicate (2 * t) 32) r → Put p (levels_bytes k t) r
unfolding levels_bytes
too_many k t h w w' = rw (lt-ltb t k h) (writing.put_then w w')

-- it has its levels then
pub brought : (l : L.LineState) (m : Machine) → line_of l ≡ line_then m → (l ≡ L.TheVariants.HasText → ⊥) → rules.indented_by m.level ≡ line_ready m
unfolding line_ready line_of spacing rules.target
brought L.TheVariants.Empty m e n = ap (λ (x : Line). (spacing {X = ℕ} m.level false x).1) e
brought (L.TheVariants.Indented k) m e n = ap (λ (x : Line). (spacing {X = ℕ} m.level false x).1) e
brought L.TheVariants.HasText m e n = absurd (n refl)

-- ---- a part without bytes

pub no_part : (v : List ℕ) {p : Pen} → length v ≡ 0 → Interpreted O.TheVariants.AppendToLine v p p
unfolding operation step after run
no_part [] {p} h = record { ran = record { machine_then = refl; put = rw (shown_nothing (form p)) writing.put_nothing; form_kept = refl } }
no_part (x ∷ v) h = absurd (omega arith)
