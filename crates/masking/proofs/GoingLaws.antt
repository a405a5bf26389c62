-- The mask of the fields passed so far, one field after the other.
use Rattle.rules.proofs.Basics.{◌≡◌, refl, sym, ap, ap₂, subst, ◌∙◌, List, [], ◌∷◌, ◌++◌, append_assoc, append-nil, Bool, true, false, ℕ, zero, suc, ◌+◌, ◌-◌, ◌<◌, ◌≤◌, arith, length, length-map, length-append, length-take-le, length-drop, length-replicate, replicate, take, drop}
use lib.Seq.{take-add}
use Rattle.rules.specs.Walk.{is_text}
use Rattle.rules.specs.Mask.{newlines, mask_byte, mask_bytes}
use Rattle.fields.specs.declared.Field.{Field}
use Rattle.fields.specs.declared.Field.TheVariants.{Whole}
use Rattle.fields.specs.FieldAt.{field_at}
use Rattle.fields.proofs.Laws.{cut, is_whole, IsWhole, NotWhole, not_whole}
use Rattle.writing.specs.Written.{Written, last, moved}
use Rattle.writing.proofs.Laws.{nothing, then, kept}
use Rattle.pairs.proofs.MaskBytes.{mask_append, mask_text_bytes}
use Rattle.pairs.specs.Flat.{is_holder, next_place, flags_of, flags_past, flags_from, flags}
use Rattle.masking.specs.Value.{veiled, mask_value, flat_mask}

-- ---- the mask of a header and of a value

-- a header stays
mask_header : (h : List ℕ) → length h ≡ 3 → mask_bytes newlines (false ∷ false ∷ false ∷ []) h ≡ h
unfolding mask_bytes mask_byte
mask_header [] e = refl
mask_header (a ∷ []) e = refl
mask_header (a ∷ b ∷ []) e = refl
mask_header (a ∷ b ∷ c ∷ []) e = refl
mask_header (a ∷ b ∷ c ∷ d ∷ h) e = refl

mask_run : (x : Bool) (v : List ℕ) → mask_bytes newlines (replicate (length v) x) v ≡ mask_value x v
unfolding mask_bytes mask_byte mask_value veiled
mask_run true v = mask_text_bytes v
mask_run false [] = refl
mask_run false (b ∷ v) = ap (b ∷◌) (mask_run false v)

-- ---- one field

module _ (s : List ℕ) (at next : ℕ) (h : at + 3 ≤ next) (l : next ≤ length s) where
  abbrev header : List ℕ
  header = take 3 (drop at s)

  abbrev value : List ℕ
  value = take (next - (at + 3)) (drop (at + 3) s)

  header_long : length header ≡ 3
  header_long = length-take-le 3 (drop at s) (omega (arith, length-drop at s))

  value_long : length value ≡ next - (at + 3)
  value_long = length-take-le (next - (at + 3)) (drop (at + 3) s) (omega (arith, length-drop (at + 3) s))

  taken : take next s ≡ take at s ++ (header ++ value)
  taken =
      let e : next ≡ at + 3 + (next - (at + 3)) = omega arith in
      ap (λ (n : ℕ). take n s) e ∙ take-add (at + 3) (next - (at + 3)) s ∙ ap (◌++ value) (take-add at 3 s) ∙ append_assoc (take at s) header value

  field_masked : (x : Bool) → mask_bytes newlines (false ∷ false ∷ false ∷ replicate (next - (at + 3)) x) (header ++ value) ≡ header ++ mask_value x value
  field_masked x =
      mask_append (false ∷ false ∷ false ∷ []) (replicate (next - (at + 3)) x) header value (sym header_long)
      ∙ ap₂ ◌++◌ (mask_header header header_long) (ap (λ (n : ℕ). mask_bytes newlines (replicate n x) value) (sym value_long) ∙ mask_run x value)

  -- its header written, and then its value
  module _ {page page₁ : List ℕ} {n : ℕ} (k : length s ≤ length page) (z : length page ≤ last) (g : Written page at (take (at + 3 - at) (drop at s)) page₁ n) where
    three : at + 3 - at ≡ 3
    three = omega arith

    behind : n ≡ at + 3
    unfolding moved
    behind = omega (arith, rw three at g.next, header_long, k, z)

    pub value_fits : n + length value ≤ length page₁
    value_fits = omega (arith, behind, value_long, kept g, k)

    pub field_written : (x : Bool) {page₂ : List ℕ} {r : ℕ} → Written page₁ n (mask_value x value) page₂ r → Written page at (header ++ mask_value x value) page₂ r
    field_written x f = then (rw three at g) f

-- ---- the loop

-- it stands at a place: the flags of what was passed, and the mask of that is written
pub record Going (s page₀ page : List ℕ) (at : ℕ) : Type 0 where
  pub fuel : ℕ
  pub passed : List Bool
  pub enough : length s ≤ at + fuel
  pub inside : at ≤ length s
  pub rest : flags s ≡ passed ++ flags_from fuel s at
  pub long : length passed ≡ at
  pub written : Written page₀ 0 (mask_bytes newlines passed (take at s)) page at

pub begin : {s page : List ℕ} → Going s page page 0
unfolding flags mask_bytes
begin {s} = record { fuel = length s; passed = []; enough = omega arith; inside = omega arith; rest = refl; long = refl; written = nothing }

stopped : {s page₀ page : List ℕ} {at : ℕ} (G : Going s page₀ page at) → flags_from G.fuel s at ≡ [] → Written page₀ 0 (flat_mask s) page at
unfolding flat_mask
stopped {s} {page₀} {page} {at} G e =
    let f : flags s ≡ G.passed = G.rest ∙ ap (G.passed ++◌) e ∙ append-nil G.passed in
    let n : length (flags s) ≡ at = ap length f ∙ G.long in
    subst (λ (x : List ℕ). Written page₀ 0 x page at) (ap₂ (λ (ms : List Bool) (k : ℕ). mask_bytes newlines ms (take k s)) (sym f) (sym n)) G.written

-- a field that is not whole ends it
pub not_further : {s page₀ page : List ℕ} {at : ℕ} {f : Field} → Going s page₀ page at → f ≡ field_at s at → NotWhole f → Written page₀ 0 (flat_mask s) page at
unfolding flags_from flags_past
not_further {s} {at = at} {f} G e n = stopped G (go G.fuel)
  where
    go : (k : ℕ) → flags_from k s at ≡ []
    go zero = refl
    go (suc k) = rw (sym e) (not_whole (flags_past (flags_from k s)) (λ t. refl) refl f n)

-- and so does the file's end
pub at_end : {s page₀ page : List ℕ} {at : ℕ} → Going s page₀ page at → length s ≤ at → Written page₀ 0 (flat_mask s) page at
unfolding flags_from flags_past
at_end {s} {at = at} G l = stopped G (go G.fuel)
  where
    go : (k : ℕ) → flags_from k s at ≡ []
    go zero = refl
    go (suc k) = rw (sym (cut s at (omega arith))) refl

-- where the next field stands
pub next_within : (s : List ℕ) (at t from to next : ℕ) (f : Field) → f ≡ field_at s at → f ≡ Whole t from to → next ≡ next_place t from to → (at + 3 ≤ next) × (next ≤ length s)
unfolding next_place
next_within s at t from to next f e w q = go (is_holder t) refl
  where
    W : IsWhole s at t from to
    W = is_whole s at t from to f e w

    go : (b : Bool) → is_holder t ≡ b → (at + 3 ≤ next) × (next ≤ length s)
    go true h = let n : next ≡ from = q ∙ rw h in (omega (arith, n, W.from_is), omega (arith, n, W.from_is, W.to_is, W.ends))
    go false h = let n : next ≡ to = q ∙ rw h in (omega (arith, n, W.to_is), omega (arith, n, W.ends))

pub next_in : {s page₀ page : List ℕ} {at t from to next : ℕ} {f : Field} → Going s page₀ page at → f ≡ field_at s at → f ≡ Whole t from to → next ≡ next_place t from to → (at + 3 ≤ next) × (next ≤ length s)
next_in {s} {at = at} {t} {from} {to} {next} {f} G e w q = next_within s at t from to next f e w q

pub flags_on : (k : ℕ) (s : List ℕ) (at t from to next : ℕ) (x : Bool) (f : Field) → f ≡ field_at s at → f ≡ Whole t from to → next ≡ next_place t from to → x ≡ is_text t
    → flags_from (suc k) s at ≡ (false ∷ false ∷ false ∷ replicate (next - (at + 3)) x) ++ flags_from k s next
unfolding flags_from flags_past flags_of
flags_on k s at t from to next x f e w q y =
    let W : IsWhole s at t from to = is_whole s at t from to f e w in
    rw (sym e ∙ w, sym q, sym y, W.from_is) refl

-- one field more
module _ {s page₀ page page' : List ℕ} {at t from to next r : ℕ} {x : Bool} {f : Field} (G : Going s page₀ page at) (i : at < length s) (z : length s ≤ last) (e : f ≡ field_at s at) (w : f ≡ Whole t from to)
    (q : next ≡ next_place t from to) (y : x ≡ is_text t) (g : Written page at (take 3 (drop at s) ++ mask_value x (take (next - (at + 3)) (drop (at + 3) s))) page' r) where
  N : (at + 3 ≤ next) × (next ≤ length s)
  N = next_within s at t from to next f e w q

  more : List Bool
  more = false ∷ false ∷ false ∷ replicate (next - (at + 3)) x

  more_long : length more ≡ next - at
  unfolding more
  more_long = omega (arith, length-replicate (next - (at + 3)) x, N.0)

  value_length : (x : Bool) (v : List ℕ) → length (mask_value x v) ≡ length v
  unfolding mask_value veiled
  value_length true v = length-map v _
  value_length false v = refl

  pub reached : r ≡ next
  unfolding moved
  reached =
      omega (
        arith,
        g.next,
        length-append (take 3 (drop at s)) (mask_value x (take (next - (at + 3)) (drop (at + 3) s))),
        header_long s at next N.0 N.1,
        value_length x (take (next - (at + 3)) (drop (at + 3) s)),
        value_long s at next N.0 N.1,
        N.0,
        N.1,
        z,
      )

  text_is : mask_bytes newlines (G.passed ++ more) (take next s) ≡ mask_bytes newlines G.passed (take at s) ++ (take 3 (drop at s) ++ mask_value x (take (next - (at + 3)) (drop (at + 3) s)))
  unfolding more
  text_is =
      ap (mask_bytes newlines (G.passed ++ more)) (taken s at next N.0 N.1)
      ∙ mask_append G.passed more (take at s) _ (G.long ∙ sym (length-take-le at s G.inside))
      ∙ ap (mask_bytes newlines G.passed (take at s) ++◌) (field_masked s at next N.0 N.1 x)

  pub further : Going s page₀ page' r
  further = go G.fuel G.enough G.rest
    where
      go : (k : ℕ) → length s ≤ at + k → flags s ≡ G.passed ++ flags_from k s at → Going s page₀ page' r
      go zero h d = absurd (omega arith)
      go (suc k) h d =
          rw reached (record {
            fuel = k;
            passed = G.passed ++ more;
            enough = omega (arith, N.0);
            inside = N.1;
            rest = unfold more in (d ∙ ap (G.passed ++◌) (flags_on k s at t from to next x f e w q y) ∙ sym (append_assoc G.passed more (flags_from k s next)));
            long = length-append G.passed more ∙ omega (arith, G.long, more_long, N.0);
            written = subst (λ (u : List ℕ). Written page₀ 0 u page' next) (sym text_is) (rw reached at (then G.written g));
          })
