-- The tags of anchors.
use Rattle.rules.proofs.Basics.{◌≡◌, List, [], ◌∷◌, append-nil, Bool, true, false, ℕ}
use Rattle.rules.specs.Answers.{itself}
use Rattle.rules.specs.Bytes.{ascii, join}
use Rattle.rules.specs.Html.{id_attribute, mark_html}
use Rattle.rules.specs.Lines.{open_anchor, close_anchor}
use Rattle.rules.specs.Plain.{fill}
use Rattle.rules.proofs.Fills.{fill_append, fill_makes, fill_copies}

module _ (name : List ℕ) where
  pub id_text : (definition : Bool) → definition ≡ true
      → join (ascii " id=\"" ∷ name ∷ ascii "\"" ∷ []) ≡ fill itself (id_attribute definition name)
  unfolding join id_attribute
  id_text definition e = rw e (simp (fill_append, fill_makes, fill_copies, append-nil))

  pub no_id : (definition : Bool) → definition ≡ false → join [] ≡ fill itself (id_attribute definition name)
  unfolding join id_attribute fill
  no_id definition e = rw e

  pub anchor_text : (definition : Bool)
      → join (ascii "<a" ∷ fill itself (id_attribute definition name) ∷ ascii " href=\"#" ∷ name ∷ ascii "\">" ∷ [])
      ≡ fill itself (mark_html (open_anchor definition name))
  unfolding join mark_html
  anchor_text definition = simp (fill_append, fill_makes, fill_copies, append-nil)

pub anchor_end : join (ascii "</a>" ∷ []) ≡ fill itself (mark_html {X = ℕ} close_anchor)
unfolding join mark_html
anchor_end = simp (fill_makes, append-nil)
