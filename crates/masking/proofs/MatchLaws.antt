-- Where a file first differs from the mask of another: byte by byte, field by field, and to the end.
use Rattle.rules.proofs.Basics.{◌≡◌, refl, sym, ap, subst, ◌∙◌, List, [], ◌∷◌, ◌++◌, append_assoc, Bool, false, inl, inr, ℕ, zero, suc, ◌+◌, ◌-◌, ◌<◌, ◌≤◌, min, arith, dec_lt, length, length-append, length-replicate, get_or, replicate, get_or-replicate}
use lib.ListN.{get_or-append}
use lib.Seq.{get_or-append-add}
use Rattle.rules.specs.Walk.{is_text}
use Rattle.rules.specs.Mask.{newlines, mask_byte, mask_bytes}
use Rattle.fields.specs.declared.Field.{Field}
use Rattle.fields.specs.declared.Field.TheVariants.{Whole}
use Rattle.fields.specs.FieldAt.{field_at}
use Rattle.fields.proofs.Laws.{NotWhole, not_whole}
use Rattle.pairs.specs.Pair.{first_difference}
use Rattle.pairs.proofs.MaskBytes.{mask_long, mask_at}
use Rattle.pairs.proofs.Pairs.{Agree, agree_none, first_difference_is}
use Rattle.pairs.specs.Flat.{next_place, flags_past, flags_from, flags}
use Rattle.masking.specs.Off.{Off, OffField}
use Rattle.masking.proofs.GoingLaws.{next_within, flags_on}

-- ---- byte by byte

-- the bytes from `from` to i are the same
pub record Same (o m : List ℕ) (text : Bool) (from to i : ℕ) : Type 0 where
  pub after : from ≤ i
  pub before : i ≤ to
  pub each : (k : ℕ) → from ≤ k → k < i → get_or m k 0 ≡ mask_byte newlines text (get_or o k 0)

pub none_same : {o m : List ℕ} {text : Bool} {from to : ℕ} → from ≤ to → Same o m text from to from
none_same l = record { after = omega arith; before = l; each = λ k h g. absurd (omega (arith, h, g)) }

module _ {o m : List ℕ} {text : Bool} {from to i : ℕ} (S : Same o m text from to i) where
  pub one_same : i < to → get_or m i 0 ≡ mask_byte newlines text (get_or o i 0) → Same o m text from to (i + 1)
  one_same l e =
      record {
        after = omega (arith, S.after);
        before = omega arith;
        each = λ k h g. elim (dec_lt k i) [
          | yes q ↦ S.each k h q
          | no q ↦ let z : i ≡ k = omega (arith, g, q) in subst (λ (k : ℕ). get_or m k 0 ≡ mask_byte newlines text (get_or o k 0)) z e
        ];
      }

  pub off_here : (get_or m i 0 ≡ mask_byte newlines text (get_or o i 0) → ⊥) → Off o m text from to i
  off_here d = record { after = S.after; before = S.before; same = S.each; differs = λ l. d }

  pub off_nowhere : to ≤ i → Off o m text from to to
  off_nowhere h = record { after = omega (arith, S.after, S.before); before = omega arith; same = λ k l g. S.each k l (omega (arith, g, h)); differs = λ l. absurd (omega (arith, l)) }

-- ---- a field: its three bytes, and what stands behind them

plain_byte : (b : ℕ) → mask_byte newlines false b ≡ b
unfolding mask_byte
plain_byte b = refl

module _ {o m : List ℕ} {text : Bool} {at from end r : ℕ} (e : from ≡ min (at + 3) end) (H : Off o m false at from r) where
  pub off_in_header : r < from → OffField o m text at end r
  off_in_header l =
      record {
        after = H.after;
        before = omega arith;
        same_header = λ k h g q. H.same k h g ∙ plain_byte (get_or o k 0);
        same_value = λ k h g. absurd (omega (arith, h, g));
        header_differs = λ g h d. H.differs l (d ∙ sym (plain_byte (get_or o r 0)));
        value_differs = λ g h. absurd (omega (arith, g, h));
      }

  pub off_behind_header : {r₂ : ℕ} → from ≤ r → at ≤ end → Off o m text from end r₂ → OffField o m text at end r₂
  off_behind_header {r₂} l w B =
      let q : r ≡ from = omega (arith, H.before, l) in
      record {
        after = omega (arith, B.after);
        before = B.before;
        same_header = λ k h g u. H.same k h (omega (arith, B.before, g, u, q)) ∙ plain_byte (get_or o k 0);
        same_value = λ k h g. B.same k (omega (arith, h)) g;
        header_differs = λ g h. absurd (omega (arith, B.after, g, h));
        value_differs = λ g h. B.differs g;
      }

-- ---- the mask, place by place

behind : (a b : List Bool) (n k : ℕ) → length a ≡ n → n ≤ k → get_or (a ++ b) k false ≡ get_or b (k - n) false
behind a b n k e l =
    let q : k ≡ length a + (k - n) = omega arith in
    ap (λ (j : ℕ). get_or (a ++ b) j false) q ∙ get_or-append-add a b (k - n) false

-- three that do not, and then n alike
three_then : (x : Bool) (n : ℕ) (k : ℕ) → 3 ≤ k → k < n + 3 → get_or (false ∷ false ∷ false ∷ replicate n x) k false ≡ x
three_then x n zero h l = absurd (omega arith)
three_then x n (suc zero) h l = absurd (omega arith)
three_then x n (suc (suc zero)) h l = absurd (omega arith)
three_then x n (suc (suc (suc k))) h l = get_or-replicate n k x false (omega arith)

three_plain : (ms : List Bool) (k : ℕ) → k < 3 → get_or (false ∷ false ∷ false ∷ ms) k false ≡ false
three_plain ms zero l = refl
three_plain ms (suc zero) l = refl
three_plain ms (suc (suc zero)) l = refl
three_plain ms (suc (suc (suc k))) l = absurd (omega arith)

-- ---- the walk

-- a field begins at the place: the flags of what was passed, and those from there on
pub record Walk (s : List ℕ) (at : ℕ) : Type 0 where
  pub fuel : ℕ
  pub passed : List Bool
  pub enough : length s ≤ at + fuel
  pub rest : flags s ≡ passed ++ flags_from fuel s at
  pub long : length passed ≡ at

walk_begins : (s : List ℕ) → Walk s 0
unfolding flags
walk_begins s = record { fuel = length s; passed = []; enough = omega arith; rest = refl; long = refl }

module _ {s : List ℕ} {at : ℕ} (W : Walk s at) where
  rest_at : (k : ℕ) → at ≤ k → get_or (flags s) k false ≡ get_or (flags_from W.fuel s at) (k - at) false
  rest_at k h = ap (λ (ms : List Bool). get_or ms k false) W.rest ∙ behind W.passed (flags_from W.fuel s at) at k W.long h

  -- where no field is whole, nothing behind stands in a text
  none_behind : (f : Field) → f ≡ field_at s at → NotWhole f → (k : ℕ) → at ≤ k → get_or (flags s) k false ≡ false
  unfolding flags_from flags_past
  none_behind f e n k h = rest_at k h ∙ ap (λ (ms : List Bool). get_or ms (k - at) false) (go W.fuel)
    where
      go : (k : ℕ) → flags_from k s at ≡ []
      go zero = refl
      go (suc k) = rw (sym e) (not_whole (flags_past (flags_from k s)) (λ t. refl) refl f n)

  -- a whole field
  module _ {t from to next : ℕ} {x : Bool} {f : Field} (i : at < length s) (e : f ≡ field_at s at) (w : f ≡ Whole t from to) (q : next ≡ next_place t from to) (y : x ≡ is_text t) where
    N : (at + 3 ≤ next) × (next ≤ length s)
    N = next_within s at t from to next f e w q

    more : List Bool
    more = false ∷ false ∷ false ∷ replicate (next - (at + 3)) x

    more_long : length more ≡ next - at
    unfolding more
    more_long = omega (arith, length-replicate (next - (at + 3)) x, N.0)

    record Passed : Type 0 where
      less : ℕ
      left : length s ≤ at + suc less
      is : flags s ≡ W.passed ++ (more ++ flags_from less s next)

    passed_it : Passed
    passed_it = go W.fuel W.enough W.rest
      where
        go : (k : ℕ) → length s ≤ at + k → flags s ≡ W.passed ++ flags_from k s at → Passed
        go zero h d = absurd (omega arith)
        go (suc k) h d = record { less = k; left = h; is = unfold more in (d ∙ ap (W.passed ++◌) (flags_on k s at t from to next x f e w q y)) }

    walk_on : Walk s next
    walk_on =
        let P : Passed = passed_it in
        record {
          fuel = P.less;
          passed = W.passed ++ more;
          enough = omega (arith, P.left, N.0);
          rest = P.is ∙ sym (append_assoc W.passed more (flags_from P.less s next));
          long = length-append W.passed more ∙ omega (arith, W.long, more_long, N.0);
        }

    in_field : (k : ℕ) → at ≤ k → k < next → get_or (flags s) k false ≡ get_or more (k - at) false
    in_field k h l =
        let P : Passed = passed_it in
        ap (λ (ms : List Bool). get_or ms k false) P.is ∙ behind W.passed (more ++ flags_from P.less s next) at k W.long h
        ∙ get_or-append more (flags_from P.less s next) false (k - at) (omega (arith, more_long))

    header_plain : (k : ℕ) → at ≤ k → k < at + 3 → get_or (flags s) k false ≡ false
    header_plain k h l = in_field k h (omega (arith, N.0)) ∙ (unfold more in three_plain (replicate (next - (at + 3)) x) (k - at) (omega arith))

    value_flagged : (k : ℕ) → at + 3 ≤ k → k < next → get_or (flags s) k false ≡ x
    value_flagged k h l = in_field k (omega arith) l ∙ (unfold more in three_then x (next - (at + 3)) (k - at) (omega arith) (omega arith))

-- ---- the loop

abbrev its_mask : List ℕ → List ℕ
its_mask o = mask_bytes newlines (flags o) o

byte_of : (o : List ℕ) (k : ℕ) {x : Bool} → k < length o → get_or (flags o) k false ≡ x → get_or (its_mask o) k 0 ≡ mask_byte newlines x (get_or o k 0)
byte_of o k l e = mask_at (flags o) o k l ∙ ap (λ (x : Bool). mask_byte newlines x (get_or o k 0)) e

agree_to : {a b : List ℕ} {r r₂ : ℕ} → Agree a b r → r₂ ≤ length a → r₂ ≤ length b → ((k : ℕ) → r ≤ k → k < r₂ → get_or a k 0 ≡ get_or b k 0) → Agree a b r₂
agree_to {r = r} A l m e = record { within_first = l; within_second = m; each = λ k h. elim (dec_lt k r) [ yes q ↦ A.each k q | no q ↦ e k (omega (arith, q)) h ] }

-- up to here they agree, and if both go on a field of the first begins
pub record Ahead (o m : List ℕ) (at : ℕ) : Type 0 where
  pub inside : at ≤ min (length o) (length m)
  pub agree : Agree m (mask_bytes newlines (flags o) o) at
  pub walk : at < min (length o) (length m) → Walk o at

pub ahead_begins : {o m : List ℕ} → Ahead o m 0
ahead_begins {o} {m} = record { inside = omega arith; agree = agree_none m (its_mask o); walk = λ l. walk_begins o }

module _ {o m : List ℕ} {at : ℕ} (A : Ahead o m at) where
  -- one of them ends
  pub no_difference : min (length o) (length m) ≤ at → at ≡ first_difference m (its_mask o)
  no_difference l =
      first_difference_is A.agree
      (elim (dec_lt at (length m)) [
        | yes q ↦ inr (inl (omega (arith, q, mask_long (flags o) o, A.inside)))
        | no q ↦ inl (omega (arith, q, A.inside))
      ])

  module _ {n : ℕ} (c : n ≡ min (length o) (length m)) (i : at < n) where
    W : Walk o at
    W = A.walk (omega arith)

    -- no whole field: the rest is compared as it stands
    pub rest_compared : {f : Field} {r : ℕ} → f ≡ field_at o at → NotWhole f → Off o m false at n r → r ≡ first_difference m (its_mask o)
    rest_compared {f} {r} e h F =
        let byte : (k : ℕ) → at ≤ k → k < length o → get_or (its_mask o) k 0 ≡ mask_byte newlines false (get_or o k 0) = λ k h₁ l. byte_of o k l (none_behind W f e h k h₁) in
        let B : Agree m (its_mask o) r =
        agree_to A.agree (omega (arith, F.before)) (omega (arith, F.before, mask_long (flags o) o)) (λ k h₁ l. F.same k h₁ l ∙ sym (byte k h₁ (omega (arith, l, F.before)))) in
        first_difference_is B
        (elim (dec_lt r n) [
          | yes q ↦ inr (inr (λ d. F.differs q (d ∙ byte r F.after (omega (arith, q)))))
          | no q ↦ elim (dec_lt r (length m)) [
            | yes p ↦ inr (inl (omega (arith, p, q, mask_long (flags o) o, F.before)))
            | no p ↦ inl (omega (arith, p, F.before))
          ]
        ])

    -- what is looked at of a whole field stands in both
    pub end_within : {t from to next end : ℕ} {f : Field} → f ≡ field_at o at → f ≡ Whole t from to → next ≡ next_place t from to → end ≡ min next n → (at < end) × (end ≤ length o) × (end ≤ length m)
    end_within {t} {from} {to} {next} {end} {f} e w q z =
        let M = next_within o at t from to next f e w q in
        (omega (arith, M.0), omega arith, omega arith)

    module _ {t from to next end r : ℕ} {x : Bool} {f : Field} (e : f ≡ field_at o at) (w : f ≡ Whole t from to) (q : next ≡ next_place t from to) (z : end ≡ min next n) (y : x ≡ is_text t)
        (F : OffField o m x at end r) where
      M : (at + 3 ≤ next) × (next ≤ length o)
      M = next_within o at t from to next f e w q

      short : at < length o
      short = omega arith

      header_byte : (k : ℕ) → at ≤ k → k < at + 3 → k < length o → get_or (its_mask o) k 0 ≡ get_or o k 0
      header_byte k h g l = byte_of o k l (header_plain W short e w q y k h g) ∙ plain_byte (get_or o k 0)

      value_byte : (k : ℕ) → at + 3 ≤ k → k < next → get_or (its_mask o) k 0 ≡ mask_byte newlines x (get_or o k 0)
      value_byte k h g = byte_of o k (omega (arith, M.1)) (value_flagged W short e w q y k h g)

      agrees : Agree m (its_mask o) r
      agrees =
          agree_to A.agree (omega (arith, F.before)) (omega (arith, F.before, mask_long (flags o) o))
          (λ k h l. elim (dec_lt k (at + 3)) [
            | yes p ↦ F.same_header k h l p ∙ sym (header_byte k h p (omega (arith, l, F.before)))
            | no p ↦ F.same_value k (omega (arith, p)) l ∙ sym (value_byte k (omega (arith, p)) (omega (arith, l, F.before)))
          ])

      -- they differ in this field
      pub differs_here : r < end → r ≡ first_difference m (its_mask o)
      differs_here l =
          first_difference_is agrees
          (inr (inr (λ d. elim (dec_lt r (at + 3)) [
            | yes p ↦ F.header_differs l p (d ∙ header_byte r F.after p (omega (arith, l)))
            | no p ↦ F.value_differs l (omega (arith, p)) (d ∙ value_byte r (omega (arith, p)) (omega (arith, l)))
          ])))

      -- or the next begins
      pub next_ahead : end ≤ r → Ahead o m end
      next_ahead l =
          let u : r ≡ end = omega (arith, l, F.before) in
          record {
            inside = omega arith;
            agree = subst (λ (r : ℕ). Agree m (its_mask o) r) u agrees;
            walk = λ h. let v : next ≡ end = omega (arith, h) in subst (λ (a : ℕ). Walk o a) v (walk_on W short e w q y);
          }
