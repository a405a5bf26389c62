-- Refusals: a refused file's place is at most its length, and its number is one of the walk's.
use Rattle.std.specs.Prelude.{if◌then◌else◌}
use Rattle.rules.proofs.Basics.{◌≡◌, refl, sym, List, [], ◌∷◌, ◌++◌, map, Option, none, some, Bool, true, false, not, ◌||◌, inl, inr, ◌⊎◌, ℕ, zero, suc, ◌+◌, ◌≤◌, ◌<◌, le_refl, arith, leb, eqb, length, take, leb-true, leb-false}
use Rattle.rules.specs.Limits.{most_bytes}
use Rattle.rules.specs.Bytes.{has}
use Rattle.rules.specs.Result.{Result, refused, accepted, ◌>>=◌, ◌>>◌, need, Check, ◌or_refuse◌, sound}
use Rattle.rules.specs.Walk.{Fields, Holder, in_fragment, in_block, in_text, in_anchor, in_styles, front, front_to, Content, valued, walk, walk_to, check_to, text_content, anchor_content, content, is_text, strict_content, content_in, complete, tags, holds}
use Rattle.rules.specs.Tree.{Frag, read, read_to, frag_of}
use Rattle.rules.specs.Good.{depth_in}
use Rattle.rules.specs.Answers.{itself, tree, strict_tree}
use Rattle.rules.proofs.Chains.{no_path}
use Rattle.rules.proofs.Fuel.{front_fits}

-- ---- numbers

-- each check that may fail has a number that is allowed
abbrev Numbers : (ℕ → Type 0) → List Check → Type 0
Numbers Ok [] = Unit {0}
Numbers Ok (b or_refuse n ∷ cs) = Ok n × Numbers Ok cs

-- the numbers of document 01's walk
abbrev pub Fault : ℕ → Type 0
Fault n = (3 ≤ n) × (n ≤ 9)

-- and those of a walk in either mode
abbrev pub StrictFault : ℕ → Type 0
StrictFault n = Fault n ⊎ (n ≡ 14)

if_faults : (Ok : ℕ → Type 0) (b : Bool) (cs ds : List Check) → Numbers Ok cs → Numbers Ok ds → Numbers Ok (if b then cs else ds)
if_faults Ok true cs ds x y = x
if_faults Ok false cs ds x y = y

content_faults : (t : ℕ) (v : List ℕ) → Numbers Fault (content t v)
unfolding content text_content anchor_content
content_faults t v =
    if_faults Fault (eqb t 17 || eqb t 7) _ _ (omega arith, tt)
    (if_faults Fault (eqb t 18 || eqb t 19) _ _ (omega arith, (omega arith, tt))
    (if_faults Fault (eqb t 33) _ _ (omega arith, tt) (if_faults Fault (eqb t 35) _ [] (omega arith, tt) tt)))

also_strict : (cs : List Check) → Numbers Fault cs → Numbers StrictFault cs
also_strict [] x = tt
also_strict (b or_refuse n ∷ cs) x = (inl x.0, also_strict cs x.1)

with_last : (cs : List Check) (b : Bool) (n : ℕ) → Numbers StrictFault cs → StrictFault n → Numbers StrictFault (cs ++ (b or_refuse n ∷ []))
with_last [] b n x y = (y, tt)
with_last (c or_refuse m ∷ cs) b n x y = (x.0, with_last cs b n x.1 y)

faults_in : (strict : Bool) (t : ℕ) (v : List ℕ) → Numbers StrictFault (content_in strict t v)
unfolding strict_content
faults_in false t v = also_strict (content t v) (content_faults t v)
faults_in true t v =
    let loose = also_strict (content t v) (content_faults t v) in
    if_faults StrictFault (is_text t) _ _ (with_last (content t v) (not (has 0 v)) 14 loose (inr refl)) loose

-- ---- where a refusal stands, for any content and whatever numbers it has beside document 01's

module _ (Ok : ℕ → Type 0) where
  -- the refusal n at p is allowed, and stands from `lo` to `hi`
  record Stood (lo hi n p : ℕ) : Type 0 where
    number : Ok n
    from : lo ≤ p
    to : p ≤ hi

  -- whatever a result refuses, it refuses so
  abbrev StandsWithin : {A : Type 0} → ℕ → ℕ → Result A → Type 0
  StandsWithin lo hi (refused n p) = Stood lo hi n p
  StandsWithin lo hi (accepted a) = Unit {0}

  bind_stood : {A B : Type 0} (lo hi : ℕ) (m : Result A) (f : A → Result B) → StandsWithin lo hi m → ((a : A) → m ≡ accepted a → StandsWithin lo hi (f a)) → StandsWithin lo hi (m >>= f)
  unfolding ◌>>=◌
  bind_stood lo hi (refused n p) f x y = x
  bind_stood lo hi (accepted a) f x y = y a refl

  need_stood : {B : Type 0} (lo hi : ℕ) (t : Bool) (n p : ℕ) (r : Result B) → Stood lo hi n p → (t ≡ true → StandsWithin lo hi r) → StandsWithin lo hi (need t n p >> r)
  unfolding need ◌>>◌
  need_stood lo hi true n p r x y = y refl
  need_stood lo hi false n p r x y = x

  sound_stood : {B : Type 0} (lo hi p : ℕ) (cs : List Check) (r : Result B) → Numbers Ok cs → lo ≤ p → p ≤ hi → StandsWithin lo hi r → StandsWithin lo hi (sound cs p >> r)
  unfolding sound need ◌>>◌
  sound_stood lo hi p [] r x l h y = y
  sound_stood lo hi p (true or_refuse n ∷ cs) r x l h y = sound_stood lo hi p cs r x.1 l h y
  sound_stood lo hi p (false or_refuse n ∷ cs) r x l h y = record { number = x.0; from = l; to = h }

  wider : {A : Type 0} (lo hi lo' hi' : ℕ) (r : Result A) → lo ≤ lo' → hi' ≤ hi → StandsWithin lo' hi' r → StandsWithin lo hi r
  wider lo hi lo' hi' (refused n p) l h x = record { number = x.number; from = omega (arith, x.from); to = omega (arith, x.to) }
  wider lo hi lo' hi' (accepted a) l h x = tt

  module _ (low : (n : ℕ) → Fault n → Ok n) (asked : Content) (F : (t : ℕ) (v : List ℕ) → Numbers Ok (asked t v)) {X : Type 0} (byte : X → ℕ) where
    front_stood : (h : Holder) (d before p : ℕ) (x : X) (s : List X) → StandsWithin p (p + length (x ∷ s)) (front byte h d before p x s)
    unfolding front_to
    front_stood h d before p x s =
        let at : (n : ℕ) → Fault n → Stood p (p + length (x ∷ s)) n p = λ n f. record { number = low n f; from = le_refl p; to = omega arith } in
        need_stood _ _ _ 3 p _ (at 3 (omega arith)) λ _.
        need_stood _ _ _ 4 p _ (at 4 (omega arith)) λ _.
        need_stood _ _ _ 3 p _ (at 3 (omega arith)) λ _.
        need_stood _ _ _ 5 p _ (at 5 (omega arith)) λ _.
        need_stood _ _ _ 6 p _ (at 6 (omega arith)) λ _.
        tt

    complete_numbers : (h : Holder) (ts : List ℕ) → Numbers Ok (complete h ts)
    unfolding complete
    complete_numbers in_fragment ts = tt
    complete_numbers in_block ts = tt
    complete_numbers in_text ts = (low 5 (omega arith), tt)
    complete_numbers in_anchor ts = (low 5 (omega arith), tt)
    complete_numbers in_styles ts = (low 8 (omega arith), (low 8 (omega arith), tt))

    valued_stood : (o : Option Holder) (t p hi : ℕ) (v : List X) (sub : Holder → Result (Fields X)) → p ≤ hi
        → ((h : Holder) → StandsWithin p hi (sub h)) → StandsWithin p hi (valued asked byte o t p v sub)
    unfolding valued
    valued_stood none t p hi v sub l ih = sound_stood p hi p (asked t (map byte v)) _ (F t (map byte v)) (le_refl p) l tt
    valued_stood (some h) t p hi v sub l ih =
        bind_stood p hi _ _ (ih h) λ i _. sound_stood p hi p (complete h (tags i)) _ (complete_numbers h (tags i)) (le_refl p) l tt

    walk_stood : (k : ℕ) (h : Holder) (d before p : ℕ) (s : List X) → StandsWithin p (p + length s) (walk asked byte k h d before p s)
    unfolding walk_to
    walk_stood zero h d before p s = tt
    walk_stood (suc k) h d before p [] = tt
    walk_stood (suc k) h d before p (x ∷ s) =
        let hi = p + length (x ∷ s) in
        bind_stood p hi _ _ (front_stood h d before p x s) λ f ef.
        let (inner, after) = front_fits byte h d before p x s f ef in
        bind_stood p hi _ _
        (valued_stood (holds f.tag) f.tag p hi f.value _ (omega arith)
        (λ h'. wider p hi (p + 3) (p + 3 + length f.value) (walk asked byte k h' (depth_in f.tag d) 0 (p + 3) f.value) (omega arith) inner (walk_stood k h' (depth_in f.tag d) 0 (p + 3) f.value))) λ v _.
        bind_stood p hi _ _
        (wider p hi (p + (3 + length f.value)) (p + (3 + length f.value) + length f.rest) (walk asked byte k h d f.tag (p + (3 + length f.value)) f.rest) (omega arith) after
        (walk_stood k h d f.tag (p + (3 + length f.value)) f.rest)) λ r _.
        tt

-- what a refused file is: too long, or at fault in the walk
pub data RefusableBy (Ok : ℕ → Type 0) (s : List ℕ) (n p : ℕ) : Type 0 where
  too_long : n ≡ 1 → p ≡ 0 → most_bytes < length s → RefusableBy Ok s n p
  at_fault : Ok n → p ≤ length s → length s ≤ most_bytes → RefusableBy Ok s n p

abbrev pub Refusable : (s : List ℕ) (n p : ℕ) → Type 0
Refusable s n p = RefusableBy Fault s n p

-- A REFUSED FILE'S PLACE IS AT MOST ITS LENGTH
module _ (Ok : ℕ → Type 0) (low : (n : ℕ) → Fault n → Ok n) (asked : Content) (F : (t : ℕ) (v : List ℕ) → Numbers Ok (asked t v)) (s : List ℕ) (n p : ℕ) where
  refused_by : read asked itself s ≡ refused n p → RefusableBy Ok s n p
  unfolding read_to check_to ◌>>=◌ ◌>>◌ need
  refused_by e = go (leb (length s) most_bytes) (walk asked itself (length s) in_fragment 0 0 0 s) refl (walk_stood Ok low asked F itself (length s) in_fragment 0 0 0 s) e
    where
      go : (b : Bool) (r : Result (Fields ℕ)) → b ≡ leb (length s) most_bytes → StandsWithin Ok 0 (0 + length s) r
          → ((need b 1 0 >> r) >>= (λ i. accepted (frag_of itself i))) ≡ refused n p → RefusableBy Ok s n p
      go false r q S e = too_long (cc) (cc) (leb-false (length s) most_bytes (sym q))
      go true (accepted i) q S e = no_path (cc)
      go true (refused m r) q S e =
          let x : m ≡ n = cc in
          let y : r ≡ p = cc in
          at_fault (rw x at S.number) (omega (arith, S.to)) (leb-true (length s) most_bytes (sym q))

pub refused_place : (s : List ℕ) (n p : ℕ) → tree s ≡ refused n p → Refusable s n p
unfolding tree
refused_place s n p e = refused_by Fault (λ n f. f) content content_faults s n p e

pub refused_in : (strict : Bool) (s : List ℕ) (n p : ℕ) → read (content_in strict) itself s ≡ refused n p → RefusableBy StrictFault s n p
refused_in strict s n p e = refused_by StrictFault (λ n f. inl f) (content_in strict) (faults_in strict) s n p e

pub strict_refused_place : (s : List ℕ) (n p : ℕ) → strict_tree s ≡ refused n p → RefusableBy StrictFault s n p
unfolding strict_tree
strict_refused_place s n p e = refused_in true s n p e

-- ONE VERDICT: every file, a cut one too, is accepted or refused, and never both
pub data Verdict (s : List ℕ) : Type 0 where
  is_accepted : (t : Frag ℕ) → tree s ≡ accepted t → Verdict s
  is_refused : (n p : ℕ) → tree s ≡ refused n p → Refusable s n p → Verdict s

pub verdict : (s : List ℕ) → Verdict s
verdict s = go (tree s) refl
  where
    go : (r : Result (Frag ℕ)) → tree s ≡ r → Verdict s
    go (accepted t) e = is_accepted t e
    go (refused n p) e = is_refused n p e (refused_place s n p e)

pub never_both : (s : List ℕ) (t : Frag ℕ) (n p : ℕ) → tree s ≡ accepted t → tree s ≡ refused n p → ⊥
never_both s t n p x y = let z : ◌≡◌ {A = ℕ} 0 1 = cc in no_path z

-- the bytes of an accepted file up to any place: one verdict, at a place of what is left
pub cut_verdict : (s : List ℕ) (k : ℕ) → Verdict (take k s)
cut_verdict s k = verdict (take k s)
