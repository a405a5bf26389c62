-- The loop over a value's fields: how far it has come, and what it may say. One for all holders.
use Rattle.rules.proofs.Basics.{◌≡◌, refl, List, [], ◌∷◌, ◌++◌, Bool, true, false, ℕ, ◌+◌, ◌≤◌, ◌<◌, leb, eqb, get_or, take}
use lib.Seq.{slice}
use Rattle.rules.specs.Result.{Result, refused, accepted, sound}
use Rattle.rules.specs.Walk.{Holder, in_fragment, in_block, complete, allowed, allowed_to}
use Rattle.fields.specs.FieldAt.{field_at}
use Rattle.fields.specs.declared.Field.{Field}
use Rattle.fields.proofs.Laws.{NotWhole}
use Rattle.verify.specs.Fronts.{no_field}
use Rattle.verify.specs.Walked.{ValueSaid, RestSaid, Between}
use Rattle.verify.proofs.SaidLaws.{Faulty}
use Rattle.verify.proofs.RestLaws.{At, rest_part, rest_none, rest_short, whole_wrong, whole_stops, whole_on}

-- the loop has come to `at`: what is left there says what all fields do (All). K holds of the last tag and the tags so far
pub record Come (strict : Bool) (K : ℕ → List ℕ → Type 0) (h : Holder) (d : ℕ) (s : List ℕ) (place end at : ℕ) (All : Result (Unit {0}) → Type 0) : Type 0 where
  pub part : Between s place at end
  pub before : ℕ
  pub so_far : List ℕ
  pub keeps : K before so_far
  pub onwards : (x : Result (Unit {0})) → RestSaid strict h so_far d before place at (slice at end s) x → All x

pub come_first : {strict : Bool} {K : ℕ → List ℕ → Type 0} {s : List ℕ} {place end at : ℕ} (h : Holder) (d before : ℕ) (ts : List ℕ) → Between s place at end → K before ts
    → Come strict K h d s place end at (RestSaid strict h ts d before place at (slice at end s))
come_first h d before ts P k = record { part = P; before = before; so_far = ts; keeps = k; onwards = λ x R. R }

module _ {strict : Bool} {K : ℕ → List ℕ → Type 0} {h : Holder} {d : ℕ} {s : List ℕ} {place end at : ℕ} {All : Result (Unit {0}) → Type 0} (C : Come strict K h d s place end at All) where
  -- the end: what the tags have together answers
  pub come_last : {x : Result (Unit {0})} → end ≤ at → x ≡ sound (complete h C.so_far) place → All x
  come_last l e = C.onwards _ (rest_none C.part h C.so_far d C.before l e)

  -- no whole field
  pub come_short : {f : Field} {b : Bool} {x : Result (Unit {0})} → at < end → f ≡ field_at (take end s) at → NotWhole f → b ≡ allowed h C.before (get_or s at 0)
      → x ≡ no_field (leb (at + 3) end) b at → All x
  come_short l e n a q = C.onwards _ (rest_short C.part h C.so_far d C.before l e n a q)

  -- a whole field: its tag is not allowed; its value is at fault; it is sound, and the loop goes on
  module _ {t from to : ℕ} (A : At s end at t from to) where
    pub come_wrong : {x : Result (Unit {0})} → allowed h C.before t ≡ false → x ≡ refused 4 at → All x
    come_wrong a q = C.onwards _ (whole_wrong C.part h C.so_far d C.before A a q)

    module _ (a : allowed h C.before t ≡ true) where
      pub come_stops : {x : Result (Unit {0})} → ValueSaid strict t d at (slice from to s) x → Faulty x → All x
      come_stops W F = C.onwards _ (whole_stops C.part h C.so_far d C.before A a W F)

      pub come_on : {K' : ℕ → List ℕ → Type 0} → ValueSaid strict t d at (slice from to s) (accepted tt) → K' t (C.so_far ++ (t ∷ [])) → Come strict K' h d s place end to All
      come_on W k =
          record {
            part = rest_part C.part A;
            before = t;
            so_far = C.so_far ++ (t ∷ []);
            keeps = k;
            onwards = λ x R. C.onwards x (whole_on C.part h C.so_far d C.before A a W R);
          }

-- ---- nodes and fragments, which ask neither which tag came before nor which there are

pub piece_next : (before t : ℕ) → eqb t 8 ≡ allowed in_block before t
unfolding allowed_to
piece_next before t = refl

pub node_next : (before t : ℕ) → allowed in_fragment 0 t ≡ allowed in_fragment before t
unfolding allowed_to
node_next before t = refl

pub nothing_asked : (h : Holder) (ts : List ℕ) (p : ℕ) {x : Result (Unit {0})} → complete h ts ≡ [] → x ≡ accepted tt → x ≡ sound (complete h ts) p
unfolding sound
nothing_asked h ts p e q = rw e q

-- a fragment without nodes
pub no_nodes : {strict : Bool} {s : List ℕ} {from to : ℕ} (d : ℕ) → Between s 0 from to → to ≤ from → RestSaid strict in_fragment [] d 0 0 from (slice from to s) (accepted tt)
unfolding complete
no_nodes d P l = rest_none P in_fragment [] d 0 l (nothing_asked in_fragment [] 0 refl refl)

-- nothing is asked of the tags
abbrev pub Any : ℕ → List ℕ → Type 0
Any before ts = Unit {0}
