-- The innermost open field: its code and its link are read off its header, and closing it makes it the field of what stands behind.
use Rattle.rules.proofs.Basics.{◌≡◌, refl, sym, ap, ◌∙◌, List, [], ◌∷◌, ◌++◌, append_assoc, true, ◌||◌, or-true, ℕ, suc, ◌+◌, ◌-◌, ◌/◌, ◌%◌, arith, leb, eqb, le-leb, length, length-append, take, drop, sets-eq, add-one, sub-one}
use lib.Seq.{get_or-append_seam, get_or-append-add, take-append_seam, drop-append-add}
use Rattle.rules.specs.Encode.{field}
use Rattle.scripts.specs.Shown.{open_header}
use Rattle.moves.specs.Opened.{code_at, link_at, true_tag, closed_in, closed_bytes, closed_top}

-- the innermost open field of w: behind u, with the code c and the link p, and v stands in it so far
pub record Tops (w : List ℕ) (top : ℕ) (u : List ℕ) (c p : ℕ) (v : List ℕ) : Type 0 where
  pub bytes_are : w ≡ u ++ (open_header c p ++ v)
  pub top_is : top ≡ suc (length u)

pub tops_here : (u : List ℕ) (c p : ℕ) (v : List ℕ) → Tops (u ++ (open_header c p ++ v)) (suc (length u)) u c p v
tops_here u c p v = record { bytes_are = refl; top_is = refl }

module _ {w : List ℕ} {top : ℕ} {u : List ℕ} {c p : ℕ} {v : List ℕ} where
  pub tops_more : (r : List ℕ) → Tops w top u c p v → Tops (w ++ r) top u c p (v ++ r)
  tops_more r k = record { bytes_are = rw k.bytes_are (append_assoc u _ r); top_is = k.top_is }

  pub tops_code : Tops w top u c p v → code_at w top ≡ c
  unfolding code_at
  tops_code k = rw (k.bytes_are, k.top_is) (get_or-append_seam u c _ 0)

  pub tops_link : Tops w top u c p v → link_at w top ≡ p
  unfolding link_at
  tops_link k =
      let one : suc (length u) ≡ length u + 1 = omega arith in
      let two : length u + 1 + 1 ≡ length u + 2 = omega arith in
      rw (k.bytes_are, k.top_is, one, two, get_or-append-add u _ 1 0, get_or-append-add u _ 2 0) (omega arith)

  -- it stands in front of the position
  pub tops_stands : Tops w top u c p v → (eqb top 0 || leb (top + 2) (length w)) ≡ true
  tops_stands k =
      let e : top ≡ suc (length u) = k.top_is in
      let l : length w ≡ length u + length (open_header c p ++ v) = ap length k.bytes_are ∙ length-append u _ in
      rw (le-leb (top + 2) (length w) (omega arith)) (or-true (eqb top 0))

  -- closed
  pub tops_closed : Tops w top u c p v → closed_in w (length w) top ≡ u ++ field (true_tag (c / 32)) v
  unfolding closed_in field
  tops_closed k =
      let l = length-append u (open_header c p ++ v) in
      let n : length (u ++ (open_header c p ++ v)) - (suc (length u) + 2) ≡ length v = omega arith in
      let vs : List ℕ = true_tag (c / 32) ∷ (length v / 256) ∷ (length v % 256) ∷ [] in
      let t : take (length u) (u ++ (open_header c p ++ v)) ≡ u = take-append_seam u _ in
      let d : drop (length u + 3) (u ++ (open_header c p ++ v)) ≡ v = drop-append-add u _ 3 in
      rw (k.bytes_are, k.top_is, n, add-one, sub-one, get_or-append_seam)
      (sets-eq vs (u ++ (open_header c p ++ v)) (length u) (omega arith) ∙ rw (t, d, append_assoc))

  -- as a step closes one
  pub one_bytes : Tops w top u c p v → closed_bytes w (length w) top 1 ≡ u ++ field (true_tag (c / 32)) v
  unfolding closed_bytes
  one_bytes k = tops_closed k

  pub one_top : Tops w top u c p v → closed_top w (length w) top 1 ≡ p
  unfolding closed_top
  one_top k = tops_link k

-- two closed, the outer one that of which the inner one's link is the place
module _ {w : List ℕ} {top : ℕ} {u : List ℕ} {c p : ℕ} {v u' : List ℕ} {c' p' : ℕ} {d : List ℕ} (k : Tops w top u c p v) (k' : Tops u p u' c' p' d) where
  outer : Tops (closed_in w (length w) top) p u' c' p' (d ++ field (true_tag (c / 32)) v)
  outer = rw (tops_closed k) (tops_more (field (true_tag (c / 32)) v) k')

  pub two_bytes : closed_bytes w (length w) top 2 ≡ u' ++ field (true_tag (c' / 32)) (d ++ field (true_tag (c / 32)) v)
  unfolding closed_bytes field
  two_bytes =
      let n : length w ≡ length (closed_in w (length w) top) = rw (tops_closed k, k.bytes_are) (length-append u _ ∙ sym (length-append u _)) in
      rw (tops_link k) (ap (λ m. closed_in (closed_in w (length w) top) m p) n ∙ tops_closed outer)

  pub two_top : closed_top w (length w) top 2 ≡ p'
  unfolding closed_top
  two_top = rw (tops_link k) (tops_link outer)
