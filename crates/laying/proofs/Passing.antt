-- The check of a fragment's nodes, some of which are passed over and checked later: what is left says, and where something is wrong.
use Rattle.std.specs.Prelude.{Option, None}
use Rattle.std.specs.Prelude.{if◌then◌else◌}
use Rattle.rules.proofs.Basics.{◌≡◌, refl, sym, subst, ◌∙◌, List, [], ◌∷◌, ◌++◌, Bool, true, false, ℕ, zero, suc, ◌+◌, ◌≤◌, ◌<◌, arith, leb, eqb, eqb-true, get_or, take}
use lib.Seq.{slice}
use Rattle.rules.specs.Result.{Result, refused, accepted}
use Rattle.rules.specs.Walk.{in_fragment, complete, allowed, is_block}
use Rattle.fields.specs.FieldAt.{field_at}
use Rattle.fields.specs.declared.Field.{Field}
use Rattle.fields.proofs.Laws.{NotWhole}
use Rattle.verify.specs.Said.{done}
use Rattle.verify.specs.Fronts.{no_field}
use Rattle.verify.specs.Walked.{value_result, ValueSaid, Between}
use Rattle.verify.proofs.FrontLaws.{no_field_faulty}
use Rattle.verify.proofs.RestLaws.{At, begins, rest_part, rest_none, rest_short, whole_wrong, whole_stops, whole_on}
use Rattle.verify.proofs.LoopLaws.{node_next, nothing_asked}
use Rattle.shapes.specs.declared.ApproxLayout.{ApproxLayout}
use Rattle.laying.specs.Told.{Wrong, Rest, Passed, Checked, Nodes, Open, Seen, NodeTold}

-- ---- passed

pub passed_none : (d : ℕ) (s : List ℕ) (end a : ℕ) → Passed d s end a a
passed_none d s end a = record { onwards = λ x R. R }

pub passed_on : {d : ℕ} {s : List ℕ} {end a b c : ℕ} → Passed d s end a b → Passed d s end b c → Passed d s end a c
passed_on p q = record { onwards = λ x R. p.onwards x (q.onwards x R) }

pub passed_wrong : {d : ℕ} {s : List ℕ} {end a b : ℕ} → Passed d s end a b → Wrong (Rest d s end b) → Wrong (Rest d s end a)
passed_wrong p w = record { what = w.what; all = p.onwards w.what w.all; faulty = w.faulty }

-- ---- a node

module _ {s : List ℕ} {end t a to : ℕ} (P : Between s 0 a end) (C : Checked s end t a to) (d : ℕ) where
  right : (before : ℕ) → allowed in_fragment before t ≡ true
  right before = sym (node_next before t) ∙ C.right

  pub node_passed : ValueSaid false t d a (slice (a + 3) to s) (accepted tt) → Passed d s end a to
  node_passed W = record { onwards = λ x R before ts. whole_on P in_fragment ts d before C.there (right before) W (R t (ts ++ (t ∷ []))) }

  pub node_wrong : Wrong (ValueSaid false t d a (slice (a + 3) to s)) → Wrong (Rest d s end a)
  node_wrong W = record { what = W.what; all = λ before ts. whole_stops P in_fragment ts d before C.there (right before) W.all W.faulty; faulty = W.faulty }

  -- whatever it is itself
  node_before : Wrong (Rest d s end to) → Wrong (Rest d s end a)
  node_before w = go (done (value_result false t d a (slice (a + 3) to s))) refl
    where
      go : (x : Result (Unit {0})) → x ≡ done (value_result false t d a (slice (a + 3) to s)) → Wrong (Rest d s end a)
      go (refused n p) e = node_wrong (record { what = refused n p; all = record { is = e }; faulty = record { number = n; place = p; is = refl } })
      go (accepted tt) e = passed_wrong (node_passed (record { is = e })) w

  pub leaf_passed : is_block t ≡ false → Passed d s end a to
  leaf_passed n = node_passed (C.leaf n d)

-- no node
module _ {s : List ℕ} {end a : ℕ} (P : Between s 0 a end) (d : ℕ) where
  pub none_left : end ≤ a → Rest d s end a (accepted tt)
  unfolding complete
  none_left l = λ before ts. rest_none P in_fragment ts d before l (nothing_asked in_fragment ts 0 refl refl)

  pub no_field_wrong : a < end → {f : Field} → f ≡ field_at (take end s) a → NotWhole f → Wrong (Rest d s end a)
  no_field_wrong l e n = record {
    what = no_field (leb (a + 3) end) (allowed in_fragment 0 (get_or s a 0)) a;
    all = λ before ts. rest_short P in_fragment ts d before l e n (node_next before (get_or s a 0)) refl;
    faulty = no_field_faulty (leb (a + 3) end) (allowed in_fragment 0 (get_or s a 0)) a;
  }

  pub tag_wrong : {t from to : ℕ} → At s end a t from to → allowed in_fragment 0 t ≡ false → Wrong (Rest d s end a)
  tag_wrong {t} A n = record {
    what = refused 4 a;
    all = λ before ts. whole_wrong P in_fragment ts d before A (sym (node_next before t) ∙ n) refl;
    faulty = record { number = 4; place = a; is = refl };
  }

-- a node that is told to be wrong is no block
pub leaf_wrong : {s : List ℕ} {end a : ℕ} → Between s 0 a end → {t from to : ℕ} → At s end a t from to → allowed in_fragment 0 t ≡ true → {r : Option ApproxLayout} → NodeTold s t a to r → r ≡ None
    → (d : ℕ) → Wrong (Rest d s end a)
leaf_wrong {s} {end} {a} P {t} {from} {to} A right {r} N e d = go (is_block t) refl
  where
    go : (b : Bool) → is_block t ≡ b → Wrong (Rest d s end a)
    go true q = absurd (N.block q e)
    go false q =
        let w = (N.check q).wrong e in
        record {
          what = w.what;
          all = λ before ts. whole_stops P in_fragment ts d before A (sym (node_next before t) ∙ right) (rw (begins A) at (w.all d)) w.faulty;
          faulty = w.faulty;
        }

-- ---- nodes whose blocks are still to be checked

pub open_none : (s : List ℕ) (end a : ℕ) → Open s end a a
open_none s end a = record { count = 0; nodes = refl }

pub open_more : {s : List ℕ} {end a b t to : ℕ} → Open s end a b → Checked s end t b to → Open s end a to
open_more {s} {end} {a} {b} {t} {to} O C = record { count = suc O.count; nodes = go O.count a O.nodes }
  where
    go : (n a : ℕ) → Nodes s end n a b → Nodes s end (suc n) a to
    go zero a e = subst (λ (b : ℕ). Nodes s end 1 b to) (sym e) (t, (to, (C, refl)))
    go (suc n) a (t', (to', (C', r))) = (t', (to', (C', go n to' r)))

-- the first of them
pub record First (s : List ℕ) (end a b : ℕ) : Type 0 where
  pub tag : ℕ
  pub to : ℕ
  pub node : Checked s end tag a to
  pub further : Open s end to b

pub open_first : {s : List ℕ} {end a b : ℕ} → Open s end a b → a < b → First s end a b
open_first {s} {end} {a} {b} O h = go O.count O.nodes
  where
    go : (n : ℕ) → Nodes s end n a b → First s end a b
    go zero e = absurd (omega (arith, e))
    go (suc n) (t, (to, (C, r))) = record { tag = t; to = to; node = C; further = record { count = n; nodes = r } }

pub open_wrong : {s : List ℕ} {end a b : ℕ} → Open s end a b → Between s 0 a end → (d : ℕ) → Wrong (Rest d s end b) → Wrong (Rest d s end a)
open_wrong {s} {end} {a} {b} O P d w = go O.count a O.nodes P
  where
    go : (n a : ℕ) → Nodes s end n a b → Between s 0 a end → Wrong (Rest d s end a)
    go zero a e P = subst (λ (a : ℕ). Wrong (Rest d s end a)) (sym e) w
    go (suc n) a (t, (to, (C, r))) P = node_before P C d (go n to r (rest_part P C.there))

-- ---- the loop over a stretch's nodes has come to `at`

pub record Looked (s : List ℕ) (end from at first bound : ℕ) : Type 0 where
  pub part : Between s 0 at end
  pub start : Between s 0 first end
  pub begins : from ≤ first
  pub lead : (d : ℕ) → Passed d s end from first
  pub reach : Open s end first at
  pub middle : Open s end first bound
  pub tail : (d : ℕ) → Passed d s end bound at

pub looked_starts : {s : List ℕ} {end from : ℕ} → Between s 0 from end → Looked s end from from from from
looked_starts {s} {end} {from} P = record {
  part = P;
  start = P;
  begins = omega arith;
  lead = λ d. passed_none d s end from;
  reach = open_none s end from;
  middle = open_none s end from;
  tail = λ d. passed_none d s end from;
}

module _ {s : List ℕ} {end from at first bound : ℕ} (L : Looked s end from at first bound) where
  pub looked_wrong : (d : ℕ) → Wrong (Rest d s end at) → Wrong (Rest d s end from)
  looked_wrong d w = passed_wrong (L.lead d) (open_wrong L.reach L.start d w)

  module _ {t to : ℕ} (C : Checked s end t at to) where
    -- a block
    pub looked_block : from ≤ at → {first' bound' : ℕ} → first' ≡ (if eqb bound from then at else first) → bound' ≡ to → Looked s end from to first' bound'
    looked_block l f b = rw (f, b) (go (eqb bound from) refl)
      where
        go : (e : Bool) → eqb bound from ≡ e → Looked s end from to (if e then at else first) to
        go true e = record {
          part = rest_part L.part C.there;
          start = L.part;
          begins = l;
          lead = λ d. rw (eqb-true bound from e) at (L.tail d);
          reach = open_more (open_none s end at) C;
          middle = open_more (open_none s end at) C;
          tail = λ d. passed_none d s end to;
        }
        go false e = record {
          part = rest_part L.part C.there;
          start = L.start;
          begins = L.begins;
          lead = L.lead;
          reach = open_more L.reach C;
          middle = open_more L.reach C;
          tail = λ d. passed_none d s end to;
        }

    -- any other node
    pub looked_leaf : is_block t ≡ false → {first' bound' : ℕ} → first' ≡ first → bound' ≡ bound → Looked s end from to first' bound'
    looked_leaf n f b = rw (f, b) (record {
      part = rest_part L.part C.there;
      start = L.start;
      begins = L.begins;
      lead = L.lead;
      reach = open_more L.reach C;
      middle = L.middle;
      tail = λ d. passed_on (L.tail d) (leaf_passed L.part C d n);
    })

  pub looked_seen : {stop : ℕ} → at ≡ stop → Seen s end from first bound stop
  looked_seen e = rw (← e) (record { begins = L.begins; lead = L.lead; middle = L.middle; tail = L.tail })
