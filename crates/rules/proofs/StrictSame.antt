-- Where no text of an accepted file has a CR or a NUL, strict HTML is today's HTML.
use Rattle.rules.proofs.Basics.{◌≡◌, refl, ap₂, subst, List, [], ◌∷◌, ◌++◌, true, ℕ, length, replicate, ne_eqb}
use Rattle.rules.specs.Bytes.{newline}
use Rattle.rules.specs.Result.{accepted, ◌>>=◌}
use Rattle.rules.specs.Walk.{Fields, end, bytes, inside, is_text}
use Rattle.rules.specs.Tree.{Frag}
use Rattle.rules.specs.Encode.{frag_fields}
use Rattle.rules.specs.Good.{Bytes}
use Rattle.rules.specs.Lines.{Item, items}
use Rattle.rules.specs.Html.{escape, strict_escape, item_html, items_html, body, document}
use Rattle.rules.specs.Answers.{tree, body_outcome, body_outcome_by, body_text_by, document_outcome, document_outcome_by, document_text_by, strict_body_outcome, strict_document_outcome}
use Rattle.rules.specs.Mask.{Without}
use Rattle.rules.proofs.Said.{text_said}
use Rattle.rules.proofs.Strict.{Along, Lacks, lacks_bytes, lacks_inside, lacking, strict_reads}
use Rattle.rules.proofs.Everywhere.{Each, Values, Held, items_each}

-- ---- values without the byte b, where they are texts

abbrev LacksValue : (b t : ℕ) (v : List ℕ) → Type 0
LacksValue b t v = Along b (replicate (length v) (is_text t)) v

lacks_values : (b : ℕ) (i : Fields ℕ) → Lacks b i → Values (LacksValue b) i
lacks_values b end l = tt
lacks_values b (bytes t v r) l = let (h, k) = lacks_bytes b t v r l in (h, lacks_values b r k)
lacks_values b (inside t i r) l = let (h, k) = lacks_inside b t i r l in (lacks_values b i h, lacks_values b r k)

-- ---- an item is written alike

abbrev Same : Item ℕ → Type 0
Same i = item_html strict_escape i ≡ item_html escape i

text_same : (v : List ℕ) → Along 13 (replicate (length v) true) v → Each Same (text_said v)
unfolding text_said item_html strict_escape
text_same [] h = tt
text_same (x ∷ v) h = (rw (ne_eqb x 13 (h.0 refl)), text_same v h.1)

every_same : Held (LacksValue 13) Same
unfolding item_html
every_same =
    record {
      newline_made = refl;
      space_made = refl;
      pushed = λ s. refl;
      popped = λ s. refl;
      opened = λ definition a h. refl;
      closed = refl;
      texts = λ t v e h. text_same v (subst (λ x. Along 13 (replicate (length v) x) v) e h);
    }

all_same : (is : List (Item ℕ)) → Each Same is → items_html strict_escape is ≡ items_html escape is
unfolding items_html
all_same [] h = refl
all_same (i ∷ is) h = ap₂ ◌++◌ h.0 (all_same is h.1)

items_same : (t : Frag ℕ) → Lacks 13 (frag_fields t) → items_html strict_escape (items newline t) ≡ items_html escape (items newline t)
items_same t l = all_same (items newline t) (items_each every_same t (lacks_values 13 (frag_fields t) l))

-- ---- the pages

module _ (s : List ℕ) (t : Frag ℕ) (bs : Bytes s) (e : tree s ≡ accepted t) (no-cr : Without 13 s) (no_nul : Without 0 s) where
  body_same : body strict_escape newline t ≡ body escape newline t
  unfolding body
  body_same = rw (items_same t (lacking 13 s t bs e no-cr))

  -- THE BODY IS THE SAME, AND THE DOCUMENT IS
  pub strict_body_same : (page : List ℕ) → strict_body_outcome s page ≡ body_outcome s page
  unfolding body_outcome_by body_text_by ◌>>=◌
  strict_body_same page = rw (strict_reads s t bs e no_nul, e, body_same)

  pub strict_document_same : (page : List ℕ) → strict_document_outcome s page ≡ document_outcome s page
  unfolding document_outcome_by document_text_by document ◌>>=◌
  strict_document_same page = rw (strict_reads s t bs e no_nul, e, body_same)
