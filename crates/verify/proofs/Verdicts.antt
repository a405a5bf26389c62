-- What an answer of the file check says of the file, for whoever goes on from it.
use Rattle.rules.proofs.Basics.{◌≡◌, refl, sym, ap, ◌∙◌, List, [], ◌∷◌, ℕ, suc, ◌<◌, get_or}
use Rattle.rules.specs.declared.Refusal.{Refusal}
use Rattle.rules.specs.declared.Refusal.TheVariants.{TooLong, TooWide, Cut, WrongTag, WrongLength, TooDeep, NotUtf8, BadStyle, QuoteInAnchor, PageTooShort, NulInText}
use Rattle.std.specs.Prelude.{Ok, Err}
use Rattle.rules.specs.Result.{Result, Answer, refused, accepted, ◌>>=◌, refusal, said}
use Rattle.rules.specs.Tree.{Frag}
use Rattle.rules.specs.Good.{Bytes}
use Rattle.rules.specs.Answers.{tree, check_answer, check_answer_by}
use Rattle.rules.proofs.Chains.{no_path}
use Rattle.rules.proofs.Files.{Read, tree_read}

-- a list of which each is below 256
pub every_byte : (s : List ℕ) → ((i : ℕ) → get_or s i 0 < 256) → Bytes s
every_byte [] h = tt
every_byte (x ∷ s) h = (h 0, every_byte s (λ i. h (suc i)))

-- an answer is not a refusal
differ : {A : Type 0} {a : A} {n p : ℕ} → accepted a ≡ refused n p → ⊥
differ e = no_path (cc)

not_accepted : (r : Refusal) (n : ℕ) → refusal r ≡ accepted n → ⊥
unfolding refusal
not_accepted TooLong n e = differ (sym e)
not_accepted TooWide n e = differ (sym e)
not_accepted (Cut p) n e = differ (sym e)
not_accepted (WrongTag p) n e = differ (sym e)
not_accepted (WrongLength p) n e = differ (sym e)
not_accepted (TooDeep p) n e = differ (sym e)
not_accepted (NotUtf8 p) n e = differ (sym e)
not_accepted (BadStyle p) n e = differ (sym e)
not_accepted (QuoteInAnchor p) n e = differ (sym e)
not_accepted (PageTooShort p) n e = differ (sym e)
not_accepted (NulInText p) n e = differ (sym e)

-- by how the file is read: it was refused, with the answer's number and place, or accepted
module _ (reading : List ℕ → Result (Frag ℕ)) (s : List ℕ) (a : Answer) (e : said a ≡ check_answer_by reading s) where
  pub refused_by : {r : Refusal} → a ≡ Err r → (n : ℕ) × (p : ℕ) × (reading s ≡ refused n p) × (said a ≡ refused n p)
  unfolding check_answer_by said ◌>>=◌
  refused_by {r} q = go (reading s) refl
    where
      go : (x : Result (Frag ℕ)) → reading s ≡ x → (n : ℕ) × (p : ℕ) × (reading s ≡ refused n p) × (said a ≡ refused n p)
      go (accepted t) f = absurd (not_accepted r 0 (sym (ap said q) ∙ e ∙ ap (λ x. x >>= (λ t. accepted 0)) f))
      go (refused n p) f = (n, p, f, e ∙ ap (λ x. x >>= (λ t. accepted 0)) f)

  pub accepted_by : {n : ℕ} → a ≡ Ok n → (t : Frag ℕ) × (reading s ≡ accepted t)
  unfolding check_answer_by said ◌>>=◌
  accepted_by {n} q = go (reading s) refl
    where
      go : (x : Result (Frag ℕ)) → reading s ≡ x → (t : Frag ℕ) × (reading s ≡ accepted t)
      go (accepted t) f = (t, f)
      go (refused m k) f =
          let z : ◌≡◌ {A = Result ℕ} (accepted n) (refused m k) = sym (ap said q) ∙ e ∙ ap (λ x. x >>= (λ t. accepted 0)) f in
          absurd (differ z)

-- ---- by document 01's content

pub record RefusedSo (s : List ℕ) (x : Result ℕ) : Type 0 where
  pub number : ℕ
  pub place : ℕ
  pub no_tree : tree s ≡ refused number place
  pub says : x ≡ refused number place

pub refused_so : (s : List ℕ) (a : Answer) {r : Refusal} → a ≡ Err r → said a ≡ check_answer s → RefusedSo s (said a)
refused_so s a q e = let (n, p, f, g) = refused_by tree s a e q in record { number = n; place = p; no_tree = f; says = g }

-- it is the bytes of a good tree
pub record AcceptedAs (s : List ℕ) : Type 0 where
  pub root : Frag ℕ
  pub its_tree : tree s ≡ accepted root
  pub read : Read s root

pub accepted_as : (s : List ℕ) (a : Answer) {n : ℕ} → Bytes s → a ≡ Ok n → said a ≡ check_answer s → AcceptedAs s
accepted_as s a b q e = let (t, f) = accepted_by tree s a e q in record { root = t; its_tree = f; read = tree_read s t b f }
