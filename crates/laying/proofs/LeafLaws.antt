-- A node's check and its rigid layout, as one number.
use Rattle.std.specs.Prelude.{Option, Some, None}
use Rattle.rules.proofs.Basics.{◌≡◌, refl, sym, subst, ◌∙◌, List, Bool, true, false, ℕ, ◌+◌, ◌-◌, ◌≤◌, ◌<◌, take, arith, false≢true, eqb, eq-eqb, ne_eqb, eqb-true}
use Rattle.rules.specs.Result.{refused, accepted}
use Rattle.rules.specs.Walk.{is_block}
use Rattle.rules.specs.Layout.{Shape, Inline, Block}
use Rattle.shapes.specs.Shapes.{shape}
use Rattle.fields.specs.Walk.{part}
use Rattle.fields.specs.FieldAt.{field_at, length_at}
use Rattle.fields.specs.declared.Field.TheVariants.{Whole}
use Rattle.fields.proofs.Laws.{whole_in}
use Rattle.looks.specs.Calm.{Calm, Lacks, Says}
use Rattle.looks.proofs.CalmBytes.{calm_utf8}
use Rattle.rigid.specs.RigidIn.{wide, by_tag}
use Rattle.rigid.proofs.Lines.{lacking_if_block}
use Rattle.rigid.proofs.Runs.{plain_quick}
use Rattle.verify.specs.Said.{verdict}
use Rattle.verify.specs.Walked.{Between, Leaf}
use Rattle.verify.specs.Glanced.{Stands}
use Rattle.verify.proofs.Parts.{part_length}
use Rattle.verify.proofs.TagLaws.{fragment_tags}
use Rattle.layout.proofs.AheadLaws.{not_either}
use Rattle.verify.proofs.ContentLaws.{calm_text, loose_text}
use Rattle.verify.proofs.ValueLaws.{run_value, note_value, empty_value, filled_value}
use Rattle.verify.proofs.GlanceLaws.{filled_alone}
use Rattle.verify.proofs.SaidLaws.{faulty_said, sound_said}
use Rattle.shapes.specs.declared.ApproxLayout.{ApproxLayout}
use Rattle.laying.proofs.Layouts.{no_layout, fine}
use Rattle.laying.specs.Told.{Fine, LeafSaid, LeafTold, NodeTold, Valued}

pub no_block : {t : ℕ} → (t ≡ 3 → ⊥) → (t ≡ 4 → ⊥) → is_block t ≡ false
unfolding is_block
no_block {t} n m = rw (ne_eqb t 3 n, ne_eqb t 4 m)

pub other_four : {t : ℕ} → is_block t ≡ true → (t ≡ 3 → ⊥) → t ≡ 4
unfolding is_block
other_four {t} k n = eqb-true t 4 (rw (ne_eqb t 3 n) at k)

module _ {s : List ℕ} {t at to : ℕ} where
  -- the check finds a fault
  pub leaf_wrong : {v : ℕ} → LeafSaid s t at to (verdict v) → (v ≡ 0 → ⊥) → LeafTold s t at to None
  leaf_wrong {v} S n = record {
    check = record { wrong = λ e. record { what = verdict v; all = S; faulty = faulty_said n }; sound = λ o. absurd (o refl) };
    layout = λ l e. no_layout e;
  }

  -- it finds none, and r is the layout
  pub leaf_sound : {v : ℕ} → LeafSaid s t at to (verdict v) → v ≡ 0 → {x : Shape} → x ≡ by_tag t (part s (at + 3) to) → {r : Option ApproxLayout} → Fine r x → LeafTold s t at to r
  leaf_sound S e x F = record {
    check = record { wrong = λ o. absurd (F.other o); sound = λ o d. rw (sound_said e) at (S d) };
    layout = λ l q. F.says l q ∙ x;
  }

  -- a block: its rigid layout by its tag
  pub three_told : t ≡ 3 → {x : Shape} → x ≡ Block 0 0 → {r : Option ApproxLayout} → Fine r x → NodeTold s t at to r
  unfolding by_tag is_block
  three_told e f F = record { check = λ n. absurd (false≢true (sym n ∙ rw e)); block = λ b. F.other; layout = λ l q. F.says l q ∙ f ∙ rw e }

  pub four_told : t ≡ 4 → {x : Shape} → x ≡ Inline 0 0 → {r : Option ApproxLayout} → Fine r x → NodeTold s t at to r
  unfolding by_tag is_block
  four_told e f F = record { check = λ n. absurd (false≢true (sym n ∙ rw e)); block = λ b. F.other; layout = λ l q. F.says l q ∙ f ∙ rw e }

  -- any other
  pub other_told : is_block t ≡ false → {r : Option ApproxLayout} → LeafTold s t at to r → NodeTold s t at to r
  other_told n L = record { check = λ o. L.check; block = λ b. absurd (false≢true (sym n ∙ b)); layout = L.layout }

-- a look that finds bytes calm finds that they lack what it looks for
no_newline : {s : List ℕ} {from to : ℕ} {c : Bool} → Says c (Calm 10 s from to) → Says c (Lacks 10 s from to)
no_newline C = record { says = λ e. record { each = λ k l m. ((C.says e).each k l m).1 } }

-- the field that is found there
stands_there : {s : List ℕ} {place at end : ℕ} → Between s place at end → {t to : ℕ} → Stands s t at to → to ≤ end → field_at (take end s) at ≡ Whole t (at + 3) to
stands_there {s} {at = at} {end} P S h = sym (whole_in s at end P.ends (length_at s at) refl (omega (arith, S.ends, h))) ∙ rw (S.tag, S.ends)

module _ {s : List ℕ} {at to : ℕ} (P : Between s at (at + 3) to) where
  -- sound, and part of a line
  found_line : {t : ℕ} → LeafSaid s t at to (accepted tt) → {r : ApproxLayout} {x : Shape} → shape r ≡ x → x ≡ by_tag t (part s (at + 3) to) → LeafTold s t at to (Some r)
  found_line S e q = let F = fine e in record { check = record { wrong = λ z. absurd (F.other z); sound = λ o. S }; layout = λ l z. F.says l z ∙ q }

  -- a text of one line
  pub text_found : {f : Bool} → Says f (Stands s 17 (at + 3) to) → f ≡ true → {c : Bool} → Says c (Calm 10 s (at + 3 + 3) to) → c ≡ true → {x : ℕ} → x ≡ wide (to - (at + 3 + 3)) 10
      → {r : ApproxLayout} → shape r ≡ Inline x 0 → LeafTold s 1 at to (Some r)
  unfolding by_tag
  text_found f t C y x q =
      let S = f.says t in
      found_line (λ d. run_value d _ _ refl refl (filled_alone P S (calm_utf8 P.ends (omega (arith, S.ends)) (C.says y)) d)) q
      (plain_quick s (at + 3) to P.ends 17 (at + 3 + 3) to refl (stands_there P S (omega arith)) (λ z. absurd (omega (arith, z))) (no_newline C) y x refl)

  -- a 7 of one line
  pub note_found : {c : Bool} → Says c (Calm 10 s (at + 3) to) → c ≡ true → {x : ℕ} → x ≡ wide (to - (at + 3)) 10 → {r : ApproxLayout} → shape r ≡ Inline x x → LeafTold s 7 at to (Some r)
  unfolding by_tag
  note_found C y x q = found_line (λ d. note_value d _ _ refl (loose_text _ _ (calm_text P (C.says y) refl) refl)) q (lacking_if_block P.rising P.ends (no_newline C) y x refl)

-- a tag of a fragment that is no other
among : (t : ℕ) → 1 ≤ t → t ≤ 7 → (t ≡ 1 → ⊥) → (t ≡ 2 → ⊥) → (t ≡ 3 → ⊥) → (t ≡ 4 → ⊥) → (t ≡ 5 → ⊥) → (t ≡ 7 → ⊥) → t ≡ 6
among t lo hi n1 n2 n3 n4 n5 n7 = let high : 4 < t = low t lo n1 n2 n3 n4 in high_six t high hi n5 n7
  where
    low : (t : ℕ) → 1 ≤ t → (t ≡ 1 → ⊥) → (t ≡ 2 → ⊥) → (t ≡ 3 → ⊥) → (t ≡ 4 → ⊥) → 4 < t
    low t lo n1 n2 n3 n4 = omega arith

    high_six : (t : ℕ) → 4 < t → t ≤ 7 → (t ≡ 5 → ⊥) → (t ≡ 7 → ⊥) → t ≡ 6
    high_six t h hi n5 n7 = omega arith

-- .. whose field has a value
seven : (t : ℕ) → 1 ≤ t → t ≤ 7 → (t ≡ 1 → ⊥) → (t ≡ 2 → ⊥) → (t ≡ 3 → ⊥) → (t ≡ 4 → ⊥) → (t ≡ 5 → ⊥) → (t ≡ 6 → ⊥) → t ≡ 7
seven t lo hi n1 n2 n3 n4 n5 n6 = let high : 4 < t = low t lo n1 n2 n3 n4 in high_seven t high hi n5 n6
  where
    low : (t : ℕ) → 1 ≤ t → (t ≡ 1 → ⊥) → (t ≡ 2 → ⊥) → (t ≡ 3 → ⊥) → (t ≡ 4 → ⊥) → 4 < t
    low t lo n1 n2 n3 n4 = omega arith

    high_seven : (t : ℕ) → 4 < t → t ≤ 7 → (t ≡ 5 → ⊥) → (t ≡ 6 → ⊥) → t ≡ 7
    high_seven t h hi n5 n6 = omega arith

-- a leaf that is neither a 5 nor a 6
pub has_value : {s : List ℕ} {t at to : ℕ} → Leaf s t at to → (t ≡ 5 → ⊥) → (t ≡ 6 → ⊥) → Valued t
unfolding is_block
has_value {t = t} L n5 n6 =
    let (lo, hi) = fragment_tags {before = 0} (record { yes = L.node.right_tag }) in
    let n = not_either (eqb t 3) (eqb t 4) L.no_block in
    let n3 : t ≡ 3 → ⊥ = λ e. n.0 (eq-eqb t 3 e) in
    let n4 : t ≡ 4 → ⊥ = λ e. n.1 (eq-eqb t 4 e) in
    record { last = λ n1 n2. seven t lo hi n1 n2 n3 n4 n5 n6 }

-- a 5 or a 6
module _ {s : List ℕ} {t at to : ℕ} (L : Leaf s t at to) (n1 : t ≡ 1 → ⊥) (n2 : t ≡ 2 → ⊥) (n7 : t ≡ 7 → ⊥) where
  P : Between s at (at + 3) to
  P = L.node.value

  pub empty_wrong : (at + 3 ≡ to → ⊥) → LeafTold s t at to None
  empty_wrong n = record {
    check = record {
      wrong = λ z. record { what = refused 5 at; all = λ d. filled_value L n1 n2 n7 d _ _ (λ e. omega (arith, part_length P, P.rising, e, n)) refl; faulty = record { number = 5; place = at; is = refl } };
      sound = λ o. absurd (o refl);
    };
    layout = λ l e. no_layout e;
  }

  module _ (e : at + 3 ≡ to) where
    nothing_inside : LeafSaid s t at to (accepted tt)
    nothing_inside d = empty_value L n1 n2 n7 d _ _ (omega (arith, part_length P, e)) refl

    pub space_told : t ≡ 5 → {r : ApproxLayout} → shape r ≡ Inline 10 0 → LeafTold s t at to (Some r)
    unfolding by_tag
    space_told q h = found_line P nothing_inside h (rw q)

    pub break_told : (t ≡ 5 → ⊥) → {x : Shape} → x ≡ Block 0 0 → {r : Option ApproxLayout} → Fine r x → LeafTold s t at to r
    unfolding by_tag is_block
    break_told m h F =
        let (lo, hi) = fragment_tags {before = 0} (record { yes = L.node.right_tag }) in
        let n = not_either (eqb t 3) (eqb t 4) L.no_block in
        let n3 : t ≡ 3 → ⊥ = λ e. n.0 (eq-eqb t 3 e) in
        let n4 : t ≡ 4 → ⊥ = λ e. n.1 (eq-eqb t 4 e) in
        let six : t ≡ 6 = among t lo hi n1 n2 n3 n4 m n7 in
        record { check = record { wrong = λ z. absurd (F.other z); sound = λ o. nothing_inside }; layout = λ l q. F.says l q ∙ h ∙ rw six }

-- by the tag that was tested for
pub as_tag : {s : List ℕ} {t k at to : ℕ} {r : Option ApproxLayout} → t ≡ k → LeafTold s k at to r → LeafTold s t at to r
as_tag {s} {at = at} {to} {r} e L = subst (λ (t : ℕ). LeafTold s t at to r) (sym e) L
