-- The loops over a block's fragments, over a stretch's nodes and over a fragment's stretches: their start, a turn and their end.
use Rattle.rules.proofs.Basics.{◌≡◌, refl, sym, subst, ap, ◌∙◌, List, ◌++◌, append_assoc, Bool, true, false, ℕ, zero, suc, ◌+◌, ◌-◌, ◌<◌, ◌≤◌, le_of_lt, arith, eqb, length, take, drop, length-drop, length-take, length-append, take-append-drop, get_or, drop_of_length-le, drop_at, drop-drop, eq-eqb, ne_eqb, eqb-true, eqb-false}
use lib.Seq.{get_or-drop, get_or-take}
use Rattle.rules.specs.Bytes.{cap}
use Rattle.rules.specs.Layout.{Shape, Inline, ◌⊕◌}
use Rattle.rules.proofs.Stretches.{cap_min}
use Rattle.rigid.specs.RigidIn.{rigid_in}
use Rattle.fields.specs.Walk.{span, here, rest, Is, Ends}
use Rattle.fields.proofs.Spans.{end_after, end_within}
use Rattle.fields.proofs.Loops.{Part, starts, more, ends}
use Rattle.layout.specs.LaidIn.{Laid, Ending, ahead_in, past_in, with_fragment, with_node, nodes_in, flex_in, behind_in}
use Rattle.layout.specs.Stretches.{Closes, laid_at, Going, Quiet, after, Path, Stretched, Onwards}
use Rattle.layout.proofs.Counted.{cap_more}
use Rattle.layout.proofs.NodeLaws.{other_tag}
use Rattle.layout.proofs.StretchLaws.{ahead_nil, here_at, before_end, at_end}

-- ---- a block's fragments

pub fragment_more : (g : List ℕ → Laid × List ℕ) (so_far : Shape) (n : ℕ) (h r : List ℕ) {l : Laid} {ys : List ℕ} {x : Shape} {m : ℕ}
    → Is (g h) l ys → x ≡ so_far ⊕ l.0 → m ≡ cap (n + l.1) → Is (with_fragment g (so_far, n) h r) (x, m) ys
unfolding with_fragment
fragment_more g so_far n h r {m = m} i e f = record {
  value = ap (λ x. (x, m)) (e ∙ ap (λ l. so_far ⊕ l.0) i.value) ∙ ap (λ (m : ℕ). (so_far ⊕ (g h).0.0, m)) (f ∙ ap (λ l. cap (n + l.1)) i.value);
  bytes = i.bytes;
}

-- ---- a node of a stretch

-- what stands behind a node, once it has become ys
stays : (s : List ℕ) (at to : ℕ) (ys : List ℕ) → at ≤ to → to ≤ length s → length ys ≡ length (take (to - at) (drop at s))
    → drop to (take at s ++ (ys ++ drop (to - at) (drop at s))) ≡ drop (to - at) (drop at s)
stays s at to ys l m e =
    let d : List ℕ = drop (to - at) (drop at s) in
    let hd : length (take at s ++ ys) ≡ to = omega (arith, length-append (take at s) ys, length-take at s, e, length-take (to - at) (drop at s), length-drop at s) in
    ap (drop to) (sym (append_assoc (take at s) ys d)) ∙ drop_at (take at s ++ ys) d to hd

node_more : (g : Shape → List ℕ → Laid × List ℕ) (so_far : Shape) (n : ℕ) (h r : List ℕ) {l : Laid} {ys : List ℕ} {x : Shape} {m : ℕ}
    → Is (g so_far h) l ys → x ≡ past_in (rigid_in h) l.0 r → m ≡ cap (n + l.1) → Is (with_node g (so_far, n) h r) (x, m) ys
unfolding with_node
node_more g so_far n h r {l} {m = m} i e f = record {
  value = ap (λ x. (x, m)) (e ∙ ap (λ (l : Laid). past_in (rigid_in h) l.0 r) i.value)
      ∙ ap (λ (m : ℕ). (past_in (rigid_in h) (g so_far h).0.0 r, m)) (f ∙ ap (λ (l : Laid). cap (n + l.1)) i.value);
  bytes = i.bytes;
}

module _ {g : Shape → List ℕ → Laid × List ℕ} {from : ℕ} {s₀ : List ℕ} {e : Ending} {node : ℕ} {so_far : Shape} {n : ℕ} {s : List ℕ} (p : Going g from s₀ e node so_far n s)
    (x : node ≡ e.0 → ⊥) where
  -- before the end nothing more is ahead
  here_so_far : Part (with_node g) from (ahead_in (length (drop from s₀)) (Inline 0 0) (drop from s₀), 0) s₀ node (so_far, n) s
  unfolding laid_at
  here_so_far =
      let q : laid_at e node so_far s ≡ so_far = rw (ne_eqb node e.0 x) in
      subst (λ (so_far : Shape). Part (with_node g) from (ahead_in (length (drop from s₀)) (Inline 0 0) (drop from s₀), 0) s₀ node (so_far, n) s) q p.part

  -- the node was laid out as l, and became ys
  pub node_turn : node < length s → {to : ℕ} → Ends s node to → {l : Laid} {ys : List ℕ} → Is (g so_far (take (to - node) (drop node s))) l ys
      → length ys ≡ length (take (to - node) (drop node s)) → {m : ℕ} → m ≡ cap (n + l.1)
      → Going g from s₀ e to l.0 m (take node s ++ (ys ++ drop (to - node) (drop node s)))
  unfolding laid_at rest
  node_turn h {to} z {l} {ys} i j {m} f = go (eqb to e.0) refl
    where
      t : List ℕ
      t = drop node s

      r : List ℕ
      r = drop (to - node) t

      s' : List ℕ
      s' = take node s ++ (ys ++ r)

      some_left : 0 < length t
      some_left = omega (arith, length-drop node s)

      behind : drop to s' ≡ r
      behind = stays s node to ys (le_of_lt (end_after z h)) (end_within z h) j

      rest_is : rest t ≡ r
      rest_is = let k : span t ≡ to - node = omega (arith, z.end) in ap (λ (k : ℕ). drop k t) k

      turn : {x : Shape} → x ≡ past_in (rigid_in (here t)) l.0 r
          → Part (with_node g) from (ahead_in (length (drop from s₀)) (Inline 0 0) (drop from s₀), 0) s₀ to (x, m) s'
      turn q = more here_so_far h z (node_more g so_far n _ _ i (q ∙ ap (λ (h : List ℕ). past_in (rigid_in h) l.0 r) (sym (here_at z))) f) j

      go : (d : Bool) → eqb to e.0 ≡ d → Going g from s₀ e to l.0 m s'
      go true y =
          let q : laid_at e to l.0 s' ≡ ahead_in (length r) (behind_in e.1 l.0) r = rw (y, behind) in
          let at-it : node + span t ≡ e.0 = sym z.end ∙ eqb-true to e.0 y in
          record {
            part = turn (q ∙ sym (at_end (p.block x) some_left at-it l.0 r (ap length (sym rest_is))));
            block = λ n. absurd (n (eqb-true to e.0 y));
          }
      go false y =
          let q : laid_at e to l.0 s' ≡ l.0 = rw y in
          let (past, further) = before_end (p.block x) some_left (λ w. eqb-false to e.0 y (z.end ∙ w)) in
          record {
            part = turn (q ∙ sym (past l.0 r));
            block = λ n. subst (λ (k : ℕ). Closes e k (drop to s')) (sym z.end) (subst (λ (t : List ℕ). Closes e (node + span (drop node s)) t) (rest_is ∙ sym behind) further);
          }

-- ---- places some fields further

after_from : (s : List ℕ) (k at : ℕ) → at ≤ after s k at
unfolding after
after_from s zero at = omega arith
after_from s (suc k) at = omega (arith, after_from s k (at + span (drop at s)))

after_snoc : (s : List ℕ) (k at : ℕ) → after s (suc k) at ≡ after s k at + span (drop (after s k at) s)
unfolding after
after_snoc s zero at = refl
after_snoc s (suc k) at = after_snoc s k (at + span (drop at s))

-- they depend on the bytes from there on
pub after_same : (s s' : List ℕ) (k at : ℕ) → drop at s' ≡ drop at s → after s' k at ≡ after s k at
unfolding after
after_same s s' zero at e = refl
after_same s s' (suc k) at e =
    let n : ℕ = span (drop at s) in
    let q : drop (at + n) s' ≡ drop (at + n) s = sym (drop-drop n at s') ∙ ap (drop n) e ∙ drop-drop n at s in
    ap (λ (t : List ℕ). after s' k (at + span t)) e ∙ after_same s s' k (at + n) q

pub path_none : (s : List ℕ) (a : ℕ) → a ≤ length s → Path s a a
unfolding after
path_none s a h = record { inside = h; steps = 0; ends = refl }

pub path_on : {s : List ℕ} {a b to : ℕ} → Path s a b → b < length s → Ends s b to → Path s a to
path_on {s} {a} {b} {to} p h e = record {
  inside = end_within e h;
  steps = suc p.steps;
  ends = after_snoc s p.steps a ∙ ap (λ (b : ℕ). b + span (drop b s)) p.ends ∙ sym e.end;
}

pub path_rises : {s : List ℕ} {a b : ℕ} → Path s a b → a ≤ b
path_rises {s} {a} p = omega (arith, after_from s p.steps a, p.ends)

-- a field less
path_less : {s : List ℕ} {a b to : ℕ} → Path s a b → a < b → Ends s a to → (s' : List ℕ) → length s' ≡ length s → drop to s' ≡ drop to s → Path s' to b
unfolding after
path_less {s} {a} {b} {to} p h e s' l d = go p.steps p.ends
  where
    go : (k : ℕ) → after s k a ≡ b → Path s' to b
    go zero q = absurd (omega (arith, q))
    go (suc k) q = record {
      inside = omega (arith, p.inside, l);
      steps = k;
      ends = after_same s s' k to d ∙ ap (after s k) e.end ∙ q;
    }

-- ---- the nodes of a stretch from a to b

-- the loop has come to a node with so_far, n changes and s
pub record Along (g : Shape → List ℕ → Laid × List ℕ) (a b : ℕ) (so-far₀ : Shape) (s₀ : List ℕ) (node : ℕ) (so_far : Shape) (n : ℕ) (s : List ℕ) : Type 0 where
  pub long : length s ≡ length s₀
  pub path : Path s node b
  pub done : Onwards g a node so-far₀ s₀ (so_far, n) s

-- no change more
same_count : (n : ℕ) → cap n ≡ n → n ≡ cap (n + 0)
same_count n c = omega (arith, c, cap_min n, cap_min (n + 0))

pub later_same : (s s' : List ℕ) {a b : ℕ} → a ≤ b → drop a s' ≡ drop a s → drop b s' ≡ drop b s
later_same s s' {a} {b} l e =
    let q : a + (b - a) ≡ b = omega arith in
    rw q at (sym (drop-drop (b - a) a s') ∙ ap (drop (b - a)) e ∙ drop-drop (b - a) a s)

module _ {g : Shape → List ℕ → Laid × List ℕ} {a b : ℕ} {so-far₀ : Shape} {s₀ : List ℕ} where
  pub along_starts : Path s₀ a b → Along g a b so-far₀ s₀ a so-far₀ 0 s₀
  along_starts p = record {
    long = refl;
    path = p;
    done = record { stays = refl; onwards = λ from n e z c l G. subst (λ (m : ℕ). Going g from z e a so-far₀ m s₀) (same_count n c) G };
  }

  module _ {node : ℕ} {so_far : Shape} {n : ℕ} {s : List ℕ} (p : Along g a b so-far₀ s₀ node so_far n s) where
    pub along_turn : node < b → {to : ℕ} → Ends s node to → {l : Laid} {ys : List ℕ} → Is (g so_far (take (to - node) (drop node s))) l ys
        → length ys ≡ length (take (to - node) (drop node s)) → {m : ℕ} → m ≡ cap (n + l.1)
        → Along g a b so-far₀ s₀ to l.0 m (take node s ++ (ys ++ drop (to - node) (drop node s)))
    along_turn h {to} z {l} {ys} i j {m} f =
        let k : node < length s = omega (arith, p.path.inside) in
        let r : List ℕ = drop (to - node) (drop node s) in
        let s' : List ℕ = take node s ++ (ys ++ r) in
        let q : node + (to - node) ≡ to = omega (arith, end_after z k) in
        let long : length s' ≡ length s = omega (arith, length-append (take node s) (ys ++ r), length-append ys r, j, length-take node s, length-take (to - node) (drop node s), length-drop (to - node) (drop node s), length-drop node s, end_after z k, end_within z k) in
        let behind : drop to s' ≡ drop to s = stays s node to ys (le_of_lt (end_after z k)) (end_within z k) j ∙ rw q at (drop-drop (to - node) node s) in
        record {
          long = long ∙ p.long;
          path = path_less p.path h z s' long behind;
          done = record {
            stays = behind ∙ later_same s₀ s (le_of_lt (end_after z k)) p.done.stays;
            onwards = λ from c e y d w G. node_turn (p.done.onwards from c e y d (omega (arith, end_after z k, w)) G) (λ o. absurd (omega (arith, o, end_after z k, w))) k z i j
                (omega (arith, f, cap_more (c + n) l.1, cap_min (c + m), cap_min (n + l.1), cap_min (c + n + l.1)));
          };
        }

    pub along_ends : b ≤ node → Onwards g a b so-far₀ s₀ (so_far, n) s
    along_ends h = let q : node ≡ b = omega (arith, path_rises p.path) in rw q at p.done

-- ---- nodes that change nothing

pub quiet_none : (e : Ending) (t : List ℕ) (a : ℕ) → Quiet e t a a
quiet_none e t a = record { onwards = λ left i m from n so_far s₀ s c d G. G }

pub quiet_on : {e : Ending} (s : List ℕ) {a p to : ℕ} → Quiet e (drop a s) a p → a ≤ p → (p ≡ e.0 → ⊥) → p < length s → Ends s p to
    → (get_or s p 0 ≡ 3 → ⊥) → (get_or s p 0 ≡ 4 → ⊥) → Quiet e (drop a s) a to
quiet_on {e} s {a} {p} {to} Q l x h z n3 n4 = record { onwards = go }
  where
    go : (left i m from n : ℕ) (so_far : Shape) (s₀ u : List ℕ) → cap n ≡ n → drop a u ≡ drop a s
        → Going (flex_in left i m) from s₀ e a so_far n u → Going (flex_in left i m) from s₀ e to so_far n u
    go left i m from n so_far s₀ u c d G =
        let dp : drop p u ≡ drop p s = later_same s u l d in
        let v : List ℕ = take (to - p) (drop p u) in
        let there : p < length u = omega (arith, ap length dp, length-drop p u, length-drop p s) in
        let z' : Ends u p to = record { end = z.end ∙ ap (λ (t : List ℕ). p + span t) (sym dp) } in
        let zero_more : p + 0 ≡ p = omega arith in
        let tag : get_or v 0 0 ≡ get_or s p 0 =
        get_or-take (to - p) (drop p u) 0 0 (omega (arith, end_after z h)) ∙ ap (λ (t : List ℕ). get_or t 0 0) dp ∙ rw zero_more at (get_or-drop p s 0 0) in
        let same : take p u ++ (v ++ drop (to - p) (drop p u)) ≡ u = ap (λ (t : List ℕ). take p u ++ t) (take-append-drop (to - p) (drop p u)) ∙ take-append-drop p u in
        subst (λ (u : List ℕ). Going (flex_in left i m) from s₀ e to so_far n u) same
        (node_turn (Q.onwards left i m from n so_far s₀ u c d G) x there z' (other_tag left i m so_far v (λ q. n3 (sym tag ∙ q)) (λ q. n4 (sym tag ∙ q))) refl (same_count n c))

-- ---- a fragment's stretches

-- the walk has come to the beginning of a stretch with so_far, n changes and s
pub record Begun (g : Shape → List ℕ → Laid × List ℕ) (from : ℕ) (s₀ : List ℕ) (at : ℕ) (so_far : Shape) (n : ℕ) (s : List ℕ) : Type 0 where
  pub capped : cap n ≡ n
  pub part : Part (with_node g) from (ahead_in (length (drop from s₀)) (Inline 0 0) (drop from s₀), 0) s₀ at (ahead_in (length (drop at s)) so_far (drop at s), n) s

pub begun_starts : (g : Shape → List ℕ → Laid × List ℕ) (from : ℕ) (s : List ℕ) {x : Shape} → x ≡ Inline 0 0 → Begun g from s from x 0 s
begun_starts g from s e = rw e (record { capped = omega (arith, cap_min 0); part = starts })

module _ (left i m : ℕ) {from : ℕ} {s₀ : List ℕ} {at : ℕ} {so_far : Shape} {n : ℕ} {s : List ℕ} (p : Begun (flex_in left i m) from s₀ at so_far n s) where
  -- its first node
  enters : {layout : Shape} {first bound : ℕ} {e : Ending} → Stretched s at so_far layout first bound e → Going (flex_in left i m) from s₀ e at layout n s
  unfolding laid_at
  enters {layout} {e = e} S =
      let x : at ≡ e.0 → ⊥ = λ q. absurd (omega (arith, q, S.rises)) in
      let q : ahead_in (length (drop at s)) so_far (drop at s) ≡ laid_at e at layout s = sym S.rigid ∙ sym (rw (ne_eqb at e.0 x)) in
      record {
        part = subst (λ (so_far : Shape). Part (with_node (flex_in left i m)) from (ahead_in (length (drop from s₀)) (Inline 0 0) (drop from s₀), 0) s₀ at (so_far, n) s) q p.part;
        block = λ n. S.closes;
      }

  -- all of it
  pub stretch_turn : {layout : Shape} {first bound stop : ℕ} {last : Shape} → Stretched s at so_far layout first bound (stop, last)
      → {l : Laid} {s' : List ℕ} → Onwards (flex_in left i m) first bound layout s l s' → {next : Shape} → next ≡ behind_in last l.0 → {k : ℕ} → k ≡ cap (n + l.1)
      → Begun (flex_in left i m) from s₀ stop next k s'
  unfolding laid_at
  stretch_turn {layout} {first} {bound} {stop} {last} S {l} {s'} O {next} b {k} f =
      let e : Ending = (stop, last) in
      let ck : cap k ≡ k = omega (arith, f, cap_min k, cap_min (n + l.1)) in
      let G : Going (flex_in left i m) from s₀ e bound l.0 (cap (n + l.1)) s' = O.onwards from n e s₀ p.capped S.bounded (S.lead.onwards left i m from n layout s₀ s p.capped refl (enters S)) in
      let H : Going (flex_in left i m) from s₀ e stop l.0 k s' = S.tail.onwards left i m from k l.0 s₀ s' ck O.stays (subst (λ (k : ℕ). Going (flex_in left i m) from s₀ e bound l.0 k s') (sym f) G) in
      let q : laid_at e stop l.0 s' ≡ ahead_in (length (drop stop s')) next (drop stop s') = rw (eq-eqb stop stop refl) (ap (λ (x : Shape). ahead_in (length (drop stop s')) x (drop stop s')) (sym b)) in
      record {
        capped = ck;
        part = subst (λ (x : Shape). Part (with_node (flex_in left i m)) from (ahead_in (length (drop from s₀)) (Inline 0 0) (drop from s₀), 0) s₀ stop (x, k) s') q H.part;
      }

  -- past the last
  pub begun_ends : length s ≤ at → Is (nodes_in (flex_in left i m) from s₀) (so_far, n) s
  unfolding nodes_in
  begun_ends h =
      let x = ends p.part h in
      let q : so_far ≡ ahead_in (length (drop at s)) so_far (drop at s) = sym (ap (λ (t : List ℕ). ahead_in (length (drop at s)) so_far t) (drop_of_length-le s h) ∙ ahead_nil (length (drop at s)) so_far) in
      record { value = ap (λ (x : Shape). (x, n)) q ∙ x.value; bytes = x.bytes }
