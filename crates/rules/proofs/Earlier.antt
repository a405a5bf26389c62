-- Files in which no 16 holds a 39 have the answers that they had before a style could be underlined.
use Rattle.rules.proofs.Basics.{◌≡◌, refl, ◌∙◌, ap, subst, List, [], ◌∷◌, Bool, true, false, and-eq-true_iff, Option, none, some, ℕ, zero, suc, ◌+◌, arith, leb, eqb, length, take, drop, leb-true, leb-false, eqb-false, not-true}
use Rattle.rules.specs.Limits.{last_style}
use Rattle.rules.specs.Bytes.{number}
use Rattle.rules.specs.Result.{Result, accepted, ◌>>=◌}
use Rattle.rules.specs.Walk.{Holder, in_fragment, in_block, in_text, in_anchor, in_styles, Fields, Field, Value, put, Content, content, allowed_to, front_to, valued, walk_to, check, check_to, holds}
use Rattle.rules.specs.Tree.{read_to}
use Rattle.rules.specs.Html.{escape}
use Rattle.rules.specs.Good.{depth_in}
use Rattle.rules.specs.Answers.{itself, tree, check_answer, check_answer_by, layout_outcome, layout_outcome_by, laid_out_by, plain_outcome, plain_outcome_by, plain_text_by, body_outcome, body_outcome_by, body_text_by, document_outcome, document_outcome_by, document_text_by}
use Rattle.rules.specs.Earlier.{earlier_last, earlier_tree, underlines, of_inside, not_underlined, without_39}
use Rattle.rules.proofs.Chains.{need_inv}
use Rattle.rules.proofs.Accepted.{map_itself}
use Rattle.rules.proofs.Fuel.{bind_cong}

-- ---- a field

-- a tag that is not 39 is in both ranges or in none
up_to : (t : ℕ) → eqb t 39 ≡ false → leb t earlier_last ≡ leb t last_style
up_to t e = go (leb t earlier_last) (leb t last_style) refl refl
  where
    go : (b c : Bool) → leb t earlier_last ≡ b → leb t last_style ≡ c → b ≡ c
    go true true f g = refl
    go false false f g = refl
    go true false f g = absurd (omega (arith, leb-true t earlier_last f, leb-false t last_style g))
    go false true f g = absurd (eqb-false t 39 e (omega (arith, leb-false t earlier_last f, leb-true t last_style g)))

allowed_alike : (h : Holder) (before t : ℕ) → underlines h t ≡ false → allowed_to earlier_last h before t ≡ allowed_to last_style h before t
unfolding allowed_to underlines
allowed_alike in_fragment before t e = refl
allowed_alike in_block before t e = refl
allowed_alike in_text before t e = refl
allowed_alike in_anchor before t e = refl
allowed_alike in_styles before t e = rw (up_to t e)

front_alike : (h : Holder) (d before p x : ℕ) (s : List ℕ) → underlines h x ≡ false → front_to earlier_last itself h d before p x s ≡ front_to last_style itself h d before p x s
unfolding front_to
front_alike h d before p x s e = rw (allowed_alike h before x e)

-- what an accepted header says
front_says : (h : Holder) (d before p x : ℕ) (s : List ℕ) (f : Field ℕ) → front_to last_style itself h d before p x s ≡ accepted f
    → record { tag = x; value = take (number (take 2 s)) (drop 2 s); rest = drop (number (take 2 s)) (drop 2 s) } ≡ f
unfolding front_to
front_says h d before p x s f e =
    let e₁ = need_inv _ _ _ _ _ e in
    let e₂ = need_inv _ _ _ _ _ e₁.1 in
    let e₃ = need_inv _ _ _ _ _ e₂.1 in
    let e₄ = need_inv _ _ _ _ _ e₃.1 in
    let e₅ = need_inv _ _ _ _ _ e₄.1 in
    rw (map_itself (take 2 s)) at (said e₅.1)
  where
    said : {g : Field ℕ} → accepted g ≡ accepted f → g ≡ f
    said q = cc

-- ---- the walk

module _ (asked : Content) where
  valued_alike : (o : Option Holder) (t p : ℕ) (v : List ℕ) (read read' : Holder → Result (Fields ℕ)) (bare : Holder → Bool)
      → of_inside o bare ≡ true → ((h : Holder) → bare h ≡ true → read h ≡ read' h) → valued asked itself o t p v read ≡ valued asked itself o t p v read'
  unfolding valued of_inside
  valued_alike none t p v read read' bare e same = refl
  valued_alike (some h) t p v read read' bare e same = rw (same h e)

  walk_alike : (k : ℕ) (h : Holder) (d before p : ℕ) (s : List ℕ) → not_underlined k h s ≡ true
      → walk_to earlier_last asked itself k h d before p s ≡ walk_to last_style asked itself k h d before p s
  unfolding walk_to not_underlined
  walk_alike zero h d before p s e = refl
  walk_alike (suc k) h d before p [] e = refl
  walk_alike (suc k) h d before p (x ∷ s) e =
      let (a, e₁) = (and-eq-true_iff _ _).0 e in
      let (b, c) = (and-eq-true_iff _ _).0 e₁ in
      rw (front_alike h d before p x s (not-true _ a))
      (bind_cong (front_to last_style itself h d before p x s) _ _ λ f ef.
      let says = front_says h d before p x s f ef in
      let inner = subst (λ (f : Field ℕ). of_inside (holds f.tag) (λ h'. not_underlined k h' f.value) ≡ true) says b in
      let rest = subst (λ (f : Field ℕ). not_underlined k h f.rest ≡ true) says c in
      let t : ℕ = f.tag in
      let behind : ℕ = p + (3 + length f.value) in
      ap (λ (g : Result (Value ℕ)). g >>= λ w. walk_to earlier_last asked itself k h d t behind f.rest >>= λ r. accepted (put t w r))
      (valued_alike (holds t) t p f.value _ _ _ inner (λ h' q. walk_alike k h' (depth_in t d) 0 (p + 3) f.value q))
      ∙ bind_cong (valued asked itself (holds t) t p f.value (λ h'. walk_to last_style asked itself k h' (depth_in t d) 0 (p + 3) f.value)) _ _ λ w ew.
      ap (λ (r : Result (Fields ℕ)). r >>= λ i. accepted (put t w i)) (walk_alike k h d t behind f.rest rest))

-- ---- the answers

same_fields : (s : List ℕ) → without_39 s ≡ true → check_to earlier_last content itself s ≡ check content itself s
unfolding without_39 check_to
same_fields s e = rw (walk_alike content (length s) in_fragment 0 0 0 s e)

same_tree : (s : List ℕ) → without_39 s ≡ true → earlier_tree s ≡ tree s
unfolding earlier_tree tree read_to
same_tree s e = rw (same_fields s e)

-- what is read of a file, of which masks and pairs are made, is what it was; and so is what every other entry answers and leaves
pub record AsBefore (s : List ℕ) : Type 0 where
  pub fields : check_to earlier_last content itself s ≡ check content itself s
  pub read : earlier_tree s ≡ tree s
  pub checked : check_answer_by earlier_tree s ≡ check_answer s
  pub laid_out : (w : ℕ) → layout_outcome_by earlier_tree w s ≡ layout_outcome w s
  pub plain : (page : List ℕ) → plain_outcome_by earlier_tree s page ≡ plain_outcome s page
  pub body : (page : List ℕ) → body_outcome_by earlier_tree escape s page ≡ body_outcome s page
  pub document : (page : List ℕ) → document_outcome_by earlier_tree escape s page ≡ document_outcome s page

pub as_before : (s : List ℕ) → without_39 s ≡ true → AsBefore s
unfolding check_answer_by layout_outcome_by laid_out_by plain_outcome_by plain_text_by body_outcome_by body_text_by document_outcome_by document_text_by
as_before s e =
    let same : earlier_tree s ≡ tree s = same_tree s e in
    record { fields = same_fields s e; read = same; checked = rw same; laid_out = λ w. rw same; plain = λ page. rw same; body = λ page. rw same; document = λ page. rw same }
