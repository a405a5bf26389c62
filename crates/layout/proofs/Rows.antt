-- Rows of fields, laid out one after the other: what a walk makes of them, with the number of bytes it changes.
use Rattle.rules.proofs.Basics.{◌≡◌, refl, sym, ap, subst, ◌∙◌, List, [], ◌++◌, ℕ, zero, suc, ◌+◌, ◌≤◌, ◌<◌, arith, eqb, length, length-append, eq-eqb}
use Rattle.rules.specs.Bytes.{cap}
use Rattle.rules.specs.Layout.{Shape, ◌⊕◌}
use Rattle.rules.specs.Encode.{field}
use Rattle.rules.specs.Answers.{changed}
use Rattle.rules.proofs.Changed.{changed_append, changed_same}
use Rattle.fields.specs.Walk.{walk, over}
use Rattle.fields.proofs.Loops.{walk_nil}
use Rattle.rules.proofs.SoundFields.{length_field}
use Rattle.fields.proofs.OfFields.{walk_field}
use Rattle.rigid.specs.RigidIn.{rigid_in}
use Rattle.layout.specs.LaidIn.{Laid, past_in, with_node, with_fragment}
use Rattle.rules.proofs.Stretches.{cap_min}
use Rattle.layout.proofs.Counted.{cap_sum, one_unless, field_count}

-- s becomes s', which is as long, and differs from it at `count` places
pub record Changes (s s' : List ℕ) (count : ℕ) : Type 0 where
  pub long : length s' ≡ length s
  pub differ : (p : ℕ) → length (changed p s s') ≡ count

-- x is the shape so and the bytes s' that s became
pub record Laying (x : Laid × List ℕ) (s s' : List ℕ) (so : Shape) : Type 0 where
  pub count : ℕ
  pub says : x ≡ ((so, cap count), s')
  pub changes : Changes s s' count

-- f, at the field h before r, makes of the shape so the shape so', and h' of h
pub record Turn (f : Laid → List ℕ → List ℕ → Laid × List ℕ) (h r h' : List ℕ) (so so' : Shape) : Type 0 where
  pub count : ℕ
  pub says : (m : ℕ) → f (so, cap m) h r ≡ ((so', cap (m + count)), h')
  pub changes : Changes h h' count

-- the walk of f over v makes of the shape so the shape so', and v' of v
pub record Row (f : Laid → List ℕ → List ℕ → Laid × List ℕ) (v v' : List ℕ) (so so' : Shape) : Type 0 where
  pub count : ℕ
  pub says : (k m : ℕ) → length v ≤ k → walk f k (so, cap m) v ≡ ((so', cap (m + count)), v')
  pub changes : Changes v v' count

changes_append : {s s' u u' : List ℕ} {c d : ℕ} → Changes s s' c → Changes u u' d → Changes (s ++ u) (s' ++ u') (c + d)
changes_append {s} {s'} {u} {u'} {c} {d} x y = record {
  long = omega (arith, length-append s u, length-append s' u', x.long, y.long);
  differ = λ p.
      ap length (changed_append p s s' u u' (sym x.long))
      ∙ omega (arith, length-append (changed p s s') (changed (p + length s) u u'), x.differ p, y.differ (p + length s));
}

-- no field
pub row_nil : (f : Laid → List ℕ → List ℕ → Laid × List ℕ) (so : Shape) → Row f [] [] so so
unfolding changed
row_nil f so = record {
  count = 0;
  says = λ k m h. walk_nil f k (so, cap m) ∙ (let e : m ≡ m + 0 = omega arith in ap (λ (n : ℕ). ((so, cap n), [])) e);
  changes = record { long = refl; differ = λ p. refl };
}

-- a field, and a row
pub row_more : (f : Laid → List ℕ → List ℕ → Laid × List ℕ) (t : ℕ) (v r : List ℕ) {h' r' : List ℕ} {so so₁ so₂ : Shape} → length v < 65_536
    → Turn f (field t v) r h' so so₁ → Row f r r' so₁ so₂ → Row f (field t v ++ r) (h' ++ r') so so₂
row_more f t v r {h'} {r'} {so} {so₁} {so₂} fits x y = record {
  count = x.count + y.count;
  says = go;
  changes = changes_append x.changes y.changes;
}
  where
    go : (k m : ℕ) → length (field t v ++ r) ≤ k → walk f k (so, cap m) (field t v ++ r) ≡ ((so₂, cap (m + (x.count + y.count))), h' ++ r')
    go zero m h = absurd (omega (arith, length-append (field t v) r, length_field t v))
    go (suc k) m h =
        let e : m + x.count + y.count ≡ m + (x.count + y.count) = omega arith in
        walk_field t v r fits f k (so, cap m)
        ∙ rw (x.says m, y.says k (m + x.count) (omega (arith, length-append (field t v) r, length_field t v)), e)

-- a walk starts with no change
pub row_start : {f : Laid → List ℕ → List ℕ → Laid × List ℕ} {v v' : List ℕ} {so so' : Shape} (x : Row f v v' so so') (k : ℕ) → length v ≤ k
    → walk f k (so, 0) v ≡ ((so', cap x.count), v')
row_start {f} {v} {v'} {so} {so'} x k h =
    let e : cap 0 ≡ 0 = omega (arith, cap_min 0) in
    let z : 0 + x.count ≡ x.count = omega arith in
    subst (λ (n : ℕ). walk f k (so, n) v ≡ ((so', cap x.count), v')) e (x.says k 0 h ∙ ap (λ (n : ℕ). ((so', cap n), v')) z)

-- a node of a fragment
pub node_turn : (g : Shape → List ℕ → Laid × List ℕ) (h r : List ℕ) {h' : List ℕ} (so : Shape) {so₁ so₂ : Shape}
    → Laying (g so h) h h' so₁ → past_in (rigid_in h) so₁ r ≡ so₂ → Turn (with_node g) h r h' so so₂
unfolding with_node
node_turn g h r {h'} so {so₁} {so₂} x e = record {
  count = x.count;
  says = λ m. rw (x.says, e, cap_sum m x.count);
  changes = x.changes;
}

-- a fragment of a block
pub fragment_turn : (g : List ℕ → Laid × List ℕ) (h r : List ℕ) {h' : List ℕ} (so : Shape) {so₁ : Shape}
    → Laying (g h) h h' so₁ → Turn (with_fragment g) h r h' so (so ⊕ so₁)
unfolding with_fragment
fragment_turn g h r {h'} so {so₁} x = record {
  count = x.count;
  says = λ m. rw (x.says, cap_sum m x.count);
  changes = x.changes;
}

-- a field changes as its value does, and its tag
pub tag_changes : (t t' : ℕ) {v v' : List ℕ} {c : ℕ} → Changes v v' c → Changes (field t v) (field t' v') (c + one_unless (eqb t t'))
tag_changes t t' {v} {v'} {c} x = record {
  long = omega (arith, length_field t v, length_field t' v', x.long);
  differ = λ p. field_count p t t' v v' c (sym x.long) (x.differ (p + 3));
}

pub field_changes : (t : ℕ) {v v' : List ℕ} {c : ℕ} → Changes v v' c → Changes (field t v) (field t v') c
field_changes t {v} {v'} {c} x =
    let e : c + one_unless (eqb t t) ≡ c = rw (eq-eqb t t refl) (omega arith) in
    subst (λ (n : ℕ). Changes (field t v) (field t v') n) e (tag_changes t t x)

pub same_changes : (s : List ℕ) → Changes s s 0
same_changes s = record { long = refl; differ = λ p. ap length (changed_same p s) }

-- going over a field's value is a row
pub over_says : (f : Laid → List ℕ → List ℕ → Laid × List ℕ) {v v' : List ℕ} {so so' : Shape} (t : ℕ) (x : Row f v v' so so')
    → over f 3 (so, 0) (field t v) ≡ ((so', cap x.count), field t v')
unfolding over field
over_says f {v} {v'} {so} {so'} t x = rw (row_start x (length (field t v)) (omega arith), x.changes.long)

pub over_field : (f : Laid → List ℕ → List ℕ → Laid × List ℕ) {v v' : List ℕ} {so so' : Shape} (t : ℕ) → Row f v v' so so'
    → Laying (over f 3 (so, 0) (field t v)) (field t v) (field t v') so'
over_field f t x = record { count = x.count; says = over_says f t x; changes = field_changes t x.changes }
