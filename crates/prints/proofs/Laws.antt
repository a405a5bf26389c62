-- Printing after the first walk: what is refused, and the page of what the marks show.
use Rattle.std.specs.Prelude.{Option, None}
use Rattle.rules.proofs.Basics.{◌≡◌, refl, sym, ap, ◌∙◌, List, ℕ}
use Rattle.rules.specs.Result.{Result, refused}
use Rattle.rules.specs.Good.{Bytes}
use Rattle.rules.specs.Answers.{tree, check_answer, layout_outcome, plain_outcome}
use Rattle.rules.specs.Marks.{painted}
use Rattle.rules.specs.Prints.{printed, print_outcome}
use Rattle.rules.proofs.Marked.{ShownBy, shown_by_layout}
use Rattle.shapes.specs.declared.ApproxLayout.{ApproxLayout}
use Rattle.laying.specs.Outcomes.{Refuses, FirstWalk}

-- by what layout answers and leaves
by_layout : (w : ℕ) (s page : List ℕ) {x : Result ℕ} {u : List ℕ} → (x, u) ≡ layout_outcome w s → printed x u page ≡ print_outcome w s page
unfolding print_outcome
by_layout w s page e = ap (λ y. printed y.0 y.1 page) e

module _ {w : ℕ} {s : List ℕ} {r : Option ApproxLayout} {ws : List ℕ} (F : FirstWalk w s r ws) where
  -- the file is refused as the check says
  pub print_refused : r ≡ None → (page : List ℕ) {x : Result ℕ} → x ≡ check_answer s → (x, page) ≡ print_outcome w s page
  unfolding printed
  print_refused e page {x} q =
      let R : Refuses s = F.refuses e in
      let f : x ≡ refused R.number R.place = q ∙ R.is in
      ap (λ x. (x, page)) f ∙ ap (λ x. printed x s page) (sym f) ∙ by_layout w s page (F.wrong e x q)

  module _ (n : r ≡ None → ⊥) where
    -- the marks show what layout leaves
    pub walk_shown : Bytes s → ShownBy tree s (painted ws s)
    walk_shown b = shown_by_layout w ws s b (F.laid n _ refl)

    pub print_shown : (page : List ℕ) {x : Result ℕ × List ℕ} → x ≡ plain_outcome (painted ws s) page → x ≡ print_outcome w s page
    unfolding printed
    print_shown page e = e ∙ by_layout w s page (F.laid n _ refl)
