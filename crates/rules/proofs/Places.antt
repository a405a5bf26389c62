-- A file read by its places: the tree over places, read through the file, is the file's tree, and a page's list copies from the file's places alone.
use Rattle.rules.proofs.Basics.{◌≡◌, refl, sym, ◌∙◌, ap, ap₂, subst, List, [], ◌∷◌, ◌++◌, map, Bool, false, ℕ, zero, suc, ◌+◌, ◌<◌, ◌≤◌, zero-add, add-zero, arith, length, get_or, replicate, length-map}
use Rattle.rules.specs.Bytes.{newline}
use Rattle.rules.specs.Result.{Result, refused, accepted}
use Rattle.rules.specs.Walk.{Fields, end, bytes, inside, in_fragment, check, content, is_text}
use Rattle.rules.specs.Tree.{Frag, map_fields, frag_of, read}
use Rattle.rules.specs.Encode.{frag_fields}
use Rattle.rules.specs.Good.{Bytes, Good}
use Rattle.rules.specs.Lines.{Out, made, copied}
use Rattle.rules.specs.Html.{Escape}
use Rattle.rules.specs.Answers.{itself, tree, check_answer, check_answer_by}
use Rattle.rules.specs.Mask.{in_texts, accepted_texts, text_places}
use Rattle.rules.specs.Alike.{Page, plain_page, html_body, html_document, strict_body, strict_document, shown, at, places, place_tree, Below}
use Rattle.rules.proofs.Chains.{no_path, bind_inv}
use Rattle.rules.proofs.Files.{tree_read, frag_back}
use Rattle.rules.proofs.Maps.{map_frag, map_out}
use Rattle.rules.proofs.LayoutMap.{old}
use Rattle.rules.proofs.PageMap.{plain_map, old_look, body_map, document_map}
use Rattle.rules.proofs.ReadMap.{map_result, check_map, frag_of_map, read_map}
use Rattle.rules.proofs.Reread.{Like}

-- ---- a file through its places

places_through : (f : ℕ → ℕ) (p : ℕ) (s : List ℕ) → ((k : ℕ) → f (p + k) ≡ at s k) → map f (places p (length s)) ≡ s
unfolding places
places_through f p [] h = refl
places_through f p (x ∷ s) h =
    ap₂ ◌∷◌ (ap f (sym (add-zero p)) ∙ h 0) (places_through f (suc p) s (λ k. let q : suc p + k ≡ p + suc k = omega arith in ap f q ∙ h (suc k)))

read_places : (s : List ℕ) → map (at s) (places 0 (length s)) ≡ s
read_places s = places_through (at s) 0 s (λ k. ap (at s) (zero-add k))

pub check_places : (s : List ℕ) → check content itself s ≡ map_result (map_fields (at s)) (check content (at s) (places 0 (length s)))
check_places s = ap (check content itself) (sym (read_places s)) ∙ check_map content (at s) itself (places 0 (length s))

map_texts : {X : Type 0} (f : X → ℕ) (i : Fields X) → in_texts (map_fields f i) ≡ in_texts i
unfolding in_texts map_fields
map_texts f end = refl
map_texts f (bytes t v r) = λ j. false ∷ false ∷ false ∷ (replicate (length-map v f j) (is_text t) ++ map_texts f r j)
map_texts f (inside t i r) = λ j. false ∷ false ∷ false ∷ (map_texts f i j ++ map_texts f r j)

-- what reading an accepted file by its places gives
pub record Placed (s : List ℕ) : Type 0 where
  pub fields : Fields ℕ
  pub checked : check content (at s) (places 0 (length s)) ≡ accepted fields
  pub texts : text_places s ≡ in_texts fields
  pub good : Good in_fragment 0 0 (map_fields (at s) fields)
  pub through : tree s ≡ accepted (map_frag (at s) (frag_of (at s) fields))

pub placed : (s : List ℕ) → Bytes s → check_answer s ≡ accepted 0 → Placed s
unfolding check_answer_by text_places accepted_texts
placed s bs e =
    let (t, et, _) = bind_inv _ _ _ e in
    let R = tree_read s t bs et in
    go t et R.checked R.good.good (check content (at s) (places 0 (length s))) refl
  where
    go : (t : Frag ℕ) → tree s ≡ accepted t → check content itself s ≡ accepted (frag_fields t) → Good in_fragment 0 0 (frag_fields t)
        → (c : Result (Fields ℕ)) → check content (at s) (places 0 (length s)) ≡ c → Placed s
    go t et q G (refused n p) ec = let z : check content itself s ≡ refused n p = check_places s ∙ ap (map_result (map_fields (at s))) ec in no_path (cc)
    go t et q G (accepted i) ec =
        let z : check content itself s ≡ accepted (map_fields (at s) i) = check_places s ∙ ap (map_result (map_fields (at s))) ec in
        let f : frag_fields t ≡ map_fields (at s) i = cc in
        record {
          fields = i;
          checked = ec;
          texts = ap accepted_texts z ∙ map_texts (at s) i;
          good = subst (λ i. Good in_fragment 0 0 i) f G;
          through = et ∙ ap accepted (sym (frag_back t) ∙ ap (frag_of itself) f ∙ frag_of_map content (at s) itself i);
        }

-- the flags of places that stand one after the other
pub like_places : {b b' : ℕ → ℕ} (Q : Bool → ℕ → Type 0) (outside : (p : ℕ) → Q false p → b p ≡ b' p) (ms : List Bool) (p n : ℕ)
    → ((k : ℕ) → k < n → Q (get_or ms k false) (p + k)) → Like content b b' Q outside ms (places p n)
unfolding places
like_places Q outside ms p zero h = tt
like_places Q outside [] p (suc n) h = tt
like_places Q outside (m ∷ ms) p (suc n) h = (
  rw add-zero at (h 0 (omega arith)),
  like_places Q outside ms (suc p) n (λ k l. let q : p + suc k ≡ suc p + k = omega arith in subst (Q (get_or ms k false)) q (h (suc k) (omega arith))),
)

-- ---- copied places are places of the file

-- a page of a mapped tree is the mapped page
pub shown_map : (k : Page) {X Y : Type 0} (f : X → Y) (look : Y → Escape) (newline : Y → Bool) (t : Frag X)
    → shown k look newline (map_frag f t) ≡ map (map_out f) (shown k (old_look f look) (old f newline) t)
shown_map plain_page f look newline t = plain_map f newline t
shown_map html_body f look newline t = body_map f look newline t
shown_map html_document f look newline t = document_map f look newline t
shown_map strict_body f look newline t = body_map f look newline t
shown_map strict_document f look newline t = document_map f look newline t

-- a place below n
abbrev Place : ℕ → Type 0
Place n = (p : ℕ) × (p < n)

abbrev number : {n : ℕ} → Place n → ℕ
number x = x.0

places_below : (m p n : ℕ) → p + n ≤ m → (xs : List (Place m)) × (places p n ≡ map number xs)
unfolding places
places_below m p zero l = ([], refl)
places_below m p (suc n) l = let (xs, e) = places_below m (suc p) n (omega arith) in ((p, omega arith) ∷ xs, ap (p ∷◌) e)

copied_below : {n : ℕ} (os : List (Out (Place n))) → Below n (map (map_out number) os)
copied_below [] = tt
copied_below (made b ∷ os) = copied_below os
copied_below (copied x ∷ os) = (x.1, copied_below os)

-- EACH COPIED PLACE IS BELOW THE FILE'S LENGTH
pub list_below : (k : Page) (s : List ℕ) (look : ℕ → Escape) (newline : ℕ → Bool) (t : Frag ℕ) → place_tree s ≡ accepted t
    → Below (length s) (shown k look newline t)
unfolding place_tree
list_below k s look newline t e =
    let (xs, q) = places_below (length s) 0 (length s) (omega arith) in
    go (read content (λ x. at s (number x)) xs) (sym (read_map content number (at s) xs) ∙ ap (read content (at s)) (sym q) ∙ e)
  where
    go : (r : Result (Frag (Place (length s)))) → map_result (map_frag number) r ≡ accepted t → Below (length s) (shown k look newline t)
    go (refused n p) e = no_path (cc)
    go (accepted u) e =
        let f : map_frag number u ≡ t = cc in
        subst (λ t. Below (length s) (shown k look newline t)) f (rw (shown_map k number look newline u) (copied_below (shown k (old_look number look) (old number newline) u)))
