-- Where no mark shows, the file with its marks is the file.
use Rattle.rules.proofs.Basics.{◌≡◌, sym, ap, subst, ◌∙◌, List, ℕ, ◌+◌, ◌-◌, ◌≤◌, ◌<◌, arith, length, get_or, take, drop, add-zero, length-take, length-drop, length-take-le, replicate, length-replicate}
use lib.Seq.{get_or-take, get_or-drop}
use Rattle.fields.specs.Walk.{part, span, Ends}
use Rattle.verify.proofs.Parts.{sliced}
use Rattle.layout.specs.Stretches.{Path, Stretched}
use Rattle.layout.proofs.LoopLaws.{after_same, later_same}
use Rattle.rules.specs.Layout.{Shape}
use Rattle.layout.specs.LaidIn.{Ending, ahead_in}
use Rattle.layout.specs.Stretches.{Closes, Quiet}
use Rattle.rules.specs.Marks.{painted}
use Rattle.laying.specs.Beside.{Clear}
use Rattle.rules.proofs.Marked.{painted_long, painted_none}

module _ {ws s : List ℕ} {a : ℕ} (C : Clear ws s a) where
  pub clear_later : {b : ℕ} → a ≤ b → Clear ws s b
  clear_later l = record { words = C.words; short = C.short; is = later_same s (painted ws s) l C.is }

  -- after a change that ends at b
  pub clear_on : {b : ℕ} → a ≤ b → {ws' : List ℕ} → length ws' ≡ length ws → drop b (painted ws' s) ≡ drop b (painted ws s) → Clear ws' s b
  clear_on l w e = record { words = w ∙ C.words; short = C.short; is = e ∙ (clear_later l).is }

  -- in what ends at `end`
  pub clear_in : {end : ℕ} → a ≤ end → drop a (take end (painted ws s)) ≡ drop a (take end s)
  clear_in {end} l = sym (sliced (painted ws s) a end l) ∙ ap (take (end - a)) C.is ∙ sliced s a end l

  pub clear_ends : {end to : ℕ} → a ≤ end → Ends (take end s) a to → Ends (take end (painted ws s)) a to
  clear_ends l e = record { end = e.end ∙ ap (λ (u : List ℕ). a + span u) (sym (clear_in l)) }

  pub clear_tag : {to : ℕ} → a < to → get_or (part (painted ws s) a to) 0 0 ≡ get_or s a 0
  unfolding part
  clear_tag {to} l =
      get_or-take (to - a) (drop a (painted ws s)) 0 0 (omega arith) ∙ ap (λ (u : List ℕ). get_or u 0 0) C.is ∙ get_or-drop a s 0 0 ∙ ap (λ (k : ℕ). get_or s k 0) (add-zero a)

-- how long
pub painted_up_to : (ws s : List ℕ) (end : ℕ) → end ≤ length s → length (take end (painted ws s)) ≡ end
painted_up_to ws s end l = length-take-le end (painted ws s) (omega (arith, l, painted_long ws s))

pub taken_long : (ws ws' s : List ℕ) (end : ℕ) → length (take end (painted ws' s)) ≡ length (take end (painted ws s))
taken_long ws ws' s end = omega (arith, length-take end (painted ws s), length-take end (painted ws' s), painted_long ws s, painted_long ws' s)

pub part_long : (ws ws' s : List ℕ) (end at to : ℕ) → length (part (take end (painted ws' s)) at to) ≡ length (part (take end (painted ws s)) at to)
unfolding part
part_long ws ws' s end at to =
    let u : List ℕ = take end (painted ws s) in
    let v : List ℕ = take end (painted ws' s) in
    omega (arith, taken_long ws ws' s end, length-take (to - at) (drop at u), length-take (to - at) (drop at v), length-drop at u, length-drop at v)

-- no mark at all
pub no_marks : (s : List ℕ) → length s ≤ 60_000 → Clear (replicate 938 0) s 0
no_marks s h = record { words = length-replicate {A = ℕ} 938 0; short = h; is = painted_none 938 s }

-- ---- what is seen from a place on

module _ {s s' : List ℕ} (l : length s' ≡ length s) where
  pub path_same : {a b : ℕ} → drop a s' ≡ drop a s → Path s a b → Path s' a b
  path_same {a} e p = record { inside = omega (arith, l, p.inside); steps = p.steps; ends = after_same s s' p.steps a e ∙ p.ends }

  pub stretched_same : {from : ℕ} {so_far layout : Shape} {first bound : ℕ} {e : Ending} → drop from s' ≡ drop from s → from ≤ first → first ≤ bound
      → Stretched s from so_far layout first bound e → Stretched s' from so_far layout first bound e
  stretched_same {from} {so_far} {layout} {first} {bound} {e} q f b S = record {
    rigid = S.rigid ∙ ap (λ (t : List ℕ). ahead_in (length t) so_far t) (sym q);
    closes = subst (Closes e from) (sym q) S.closes;
    lead = subst (λ (t : List ℕ). Quiet e t from first) (sym q) S.lead;
    middle = path_same (later_same s s' f q) S.middle;
    tail = subst (λ (t : List ℕ). Quiet e t bound e.0) (sym (later_same s s' {a = from} {b = bound} (omega (arith, f, b)) q)) S.tail;
    bounded = S.bounded;
    inside = omega (arith, l, S.inside);
    rises = S.rises;
  }
