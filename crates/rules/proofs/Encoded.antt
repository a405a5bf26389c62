-- The encoding of good fields is accepted, as those fields.
use Rattle.rules.proofs.Basics.{◌≡◌, refl, List, [], ◌∷◌, ◌++◌, map, true, ℕ, zero, suc, ◌+◌, ◌-◌, ◌/◌, ◌%◌, ◌≤◌, arith, leb, length, length-append, take_at, drop_at, le-leb}
use Rattle.rules.specs.Bytes.{number}
use Rattle.rules.specs.Result.{accepted, ◌>>=◌, ◌>>◌, need}
use Rattle.rules.specs.Walk.{Fields, end, bytes, inside, Holder, Content, front, front_to, valued, walk, walk_to, complete, tags}
use Rattle.rules.specs.Encode.{field, encode_fields}
use Rattle.rules.specs.Good.{depth_in, Stands, GoodAs}
use Rattle.rules.specs.Answers.{itself}
use Rattle.rules.proofs.Chains.{all_sound}
use Rattle.rules.proofs.Accepted.{number_two, map_itself}

front_field : (h : Holder) (d before p t : ℕ) (v rest : List ℕ) → Stands h d before t (length v)
    → front itself h d before p t ((length v / 256) ∷ (length v % 256) ∷ (v ++ rest)) ≡ accepted (record { tag = t; value = v; rest = rest })
unfolding front_to need ◌>>◌
front_field h d before p t v rest S =
    let n : number (map itself ((length v / 256) ∷ (length v % 256) ∷ [])) ≡ length v = omega (arith, number_two (length v / 256) (length v % 256)) in
    let s : List ℕ = (length v / 256) ∷ (length v % 256) ∷ (v ++ rest) in
    let l₁ : leb 2 (length s) ≡ true = le-leb 2 (length s) (omega arith) in
    let l₂ : leb (length v) (length s - 2) ≡ true = le-leb (length v) (length s - 2) (omega (arith, length-append v rest)) in
    simp (n, l₁, S.right_tag, l₂, S.length_right, S.not_deep, take_at, drop_at)

pub good_walk : (asked : Content) (i : Fields ℕ) (k : ℕ) (h : Holder) (d before p : ℕ) → length (encode_fields i) ≤ k → GoodAs asked h d before i
    → walk asked itself k h d before p (encode_fields i) ≡ accepted i
unfolding walk_to encode_fields field valued ◌>>=◌ ◌>>◌
good_walk asked end zero h d before p l G = refl
good_walk asked end (suc k) h d before p l G = refl
good_walk asked (bytes t v r) zero h d before p l G = absurd (omega arith)
good_walk asked (bytes t v r) (suc k) h d before p l G =
    simp (
      front_field h d before p t v (encode_fields r) G.0,
      G.1,
      map_itself,
      all_sound (asked t v) p G.2,
      good_walk asked r k h d t (p + (3 + length v)) (omega (arith, length-append v (encode_fields r))) G.3,
    )
good_walk asked (inside t i r) zero h d before p l G = absurd (omega arith)
good_walk asked (inside t i r) (suc k) h d before p l G =
    let v : List ℕ = encode_fields i in
    simp (
      front_field h d before p t v (encode_fields r) G.0,
      G.1.1,
      all_sound (complete G.1.0 (tags i)) p G.1.2,
      good_walk asked i k G.1.0 (depth_in t d) 0 (p + 3) (omega (arith, length-append v (encode_fields r))) G.1.3,
      good_walk asked r k h d t (p + (3 + length v)) (omega (arith, length-append v (encode_fields r))) G.2,
    )
