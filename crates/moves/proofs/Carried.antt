-- What a plan carries out from one state of a script to another, by how many fields it closes.
use Rattle.rules.proofs.Basics.{◌≡◌, refl, ap, ◌∙◌, List, [], ◌∷◌, ◌++◌, true, ℕ, suc, ◌+◌, ◌/◌, arith, length, length-append, le-leb, lt-ltb}
use Rattle.rules.specs.Result.{Check, ◌or_refuse◌, sound, need, ◌>>◌}
use Rattle.rules.specs.Encode.{field}
use Rattle.scripts.specs.Script.{Open}
use Rattle.scripts.specs.Shown.{open_header, shown, top_of}
use Rattle.scripts.specs.Steps.{Step, checks, depth_of}
use Rattle.moves.specs.declared.Style.{Style}
use Rattle.moves.specs.declared.Plan.{Plan}
use Rattle.moves.specs.Opened.{true_tag, closed_bytes, closed_top}
use Rattle.moves.specs.Plans.{piece_bytes, opened_header, opened_top, plan_checks, closable}
use Rattle.moves.specs.Stepped.{Written, carried_out}
use Rattle.moves.proofs.Closing.{Tops, tops_more, tops_link, one_bytes, one_top, two_bytes, two_top}

-- what a state of a script shows
abbrev pub shows_of : Open → Written
shows_of s = record { bytes = shown s; top = top_of s }

-- a plan asks what a step asks
abbrev pub Asks : Plan → Style → List ℕ → Step → Open → Type 0
Asks p st v x s = (place : ℕ) → sound (plan_checks p st v) place ≡ sound (checks x (depth_of s)) place

pub record Carries (p : Plan) (st : Style) (v : List ℕ) (x : Step) (s t : Open) : Type 0 where
  -- the fields that it closes are open, whatever the buffer holds behind
  pub closing : (r : List ℕ) → closable (shown s ++ r) (top_of s) p.closes ≡ true
  pub checked : Asks p st v x s
  pub written : carried_out p st v (shows_of s) ≡ shows_of t

-- checks with one behind that holds
pub passes : (cs : List Check) (n place : ℕ) → sound (cs ++ (true or_refuse n ∷ [])) place ≡ sound cs place
unfolding sound need ◌>>◌
passes [] n place = refl
passes (b or_refuse m ∷ cs) n place = ap (λ r. need b m place >> r) (passes cs n place)

-- ---- by what there is when its fields are closed: the bytes c, and the innermost open field at q

-- with a header and a piece behind, that is the state t
pub record Ends (p : Plan) (st : Style) (v c : List ℕ) (q : ℕ) (t : Open) : Type 0 where
  pub bytes_end : (c ++ opened_header p.opens q) ++ piece_bytes p.behind st v ≡ shown t
  pub top_ends : opened_top p.opens (length c) q ≡ top_of t

pub ends : {p : Plan} {st : Style} {v c : List ℕ} {q : ℕ} {t : Open} → (c ++ opened_header p.opens q) ++ piece_bytes p.behind st v ≡ shown t
    → opened_top p.opens (length c) q ≡ top_of t → Ends p st v c q t
ends e f = record { bytes_end = e; top_ends = f }

module _ {p : Plan} {st : Style} {v : List ℕ} {x : Step} {s t : Open} (check : Asks p st v x s) where
  -- none is closed
  pub carries_none : p.closes ≡ 0 → Ends p st v (shown s ++ piece_bytes p.before st v) (top_of s) t → Carries p st v x s t
  unfolding carried_out closable closed_bytes closed_top
  carries_none n e = record {
    closing = λ r. rw n;
    checked = check;
    written = rw n (λ i. record { bytes = e.bytes_end i; top = e.top_ends i });
  }

  pub carries_one : {u : List ℕ} {c q tag : ℕ} {w : List ℕ} → Tops (shown s) (top_of s) u c q w → true_tag (c / 32) ≡ tag → p.closes ≡ 1
      → Ends p st v (u ++ field tag (w ++ piece_bytes p.before st v)) q t → Carries p st v x s t
  unfolding carried_out closable
  carries_one k g n e =
      let m = tops_more (piece_bytes p.before st v) k in
      record {
        closing = λ r. rw (n, le-leb 1 (top_of s) (omega (arith, k.top_is)));
        checked = check;
        written = rw (n, one_bytes m, one_top m, g) (λ i. record { bytes = e.bytes_end i; top = e.top_ends i });
      }

  pub carries_two : {u : List ℕ} {c q tag : ℕ} {w u' : List ℕ} {c' q' tag' : ℕ} {d : List ℕ}
      → Tops (shown s) (top_of s) u c q w → true_tag (c / 32) ≡ tag → Tops u q u' c' q' d → true_tag (c' / 32) ≡ tag' → p.closes ≡ 2
      → Ends p st v (u' ++ field tag' (d ++ field tag (w ++ piece_bytes p.before st v))) q' t → Carries p st v x s t
  unfolding carried_out closable
  carries_two {u} {c} {q} {tag} {w} {u'} {c'} {q'} {tag'} {d} k g k' g' n e =
      let m = tops_more (piece_bytes p.before st v) k in
      let a : top_of s ≡ suc (length u) = k.top_is in
      let b : q ≡ suc (length u') = k'.top_is in
      let l : length u ≡ length u' + length (open_header c' q' ++ d) = ap length k'.bytes_are ∙ length-append u' _ in
      record {
        closing = λ r. rw (n, tops_link (tops_more r k), le-leb 1 (top_of s) (omega arith), le-leb 1 q (omega arith), lt-ltb q (top_of s) (omega arith));
        checked = check;
        written = rw (n, two_bytes m k', two_top m k', g, g') (λ i. record { bytes = e.bytes_end i; top = e.top_ends i });
      }
