-- Going over the fields of a list of bytes.
use Rattle.std.specs.Prelude.{◌≡◌, List, [], ◌∷◌, ◌++◌, ℕ, zero, suc, ◌+◌, ◌-◌, ◌*◌, min, length, get_or, take, drop}

-- the bytes from `from` to `to`
unfoldable pub part : List ℕ → (from to : ℕ) → List ℕ
part s from to = take (to - from) (drop from s)

-- how many bytes the first field has, its header with it; a field that is cut has what is there
unfoldable pub span : List ℕ → ℕ
span s = min (3 + (get_or s 1 0 * 256 + get_or s 2 0)) (length s)

unfoldable pub here : List ℕ → List ℕ
here s = take (span s) s

unfoldable pub rest : List ℕ → List ℕ
rest s = drop (span s) s

-- f at each field in turn, given the field and what follows it, for at most k fields: what it makes of a, and the bytes that it leaves
unfoldable pub walk : {A : Type 0} → (A → List ℕ → List ℕ → A × List ℕ) → ℕ → A → List ℕ → A × List ℕ
walk f zero a s = (a, s)
walk f (suc k) a [] = (a, [])
walk {A = A} f (suc k) a (x ∷ s) =
    let done : A × List ℕ = f a (here (x ∷ s)) (rest (x ∷ s)) in
    let further : A × List ℕ = walk f k done.0 (rest (x ∷ s)) in
    (further.0, done.1 ++ further.1)

-- the fields from `from` on
unfoldable pub over : {A : Type 0} → (A → List ℕ → List ℕ → A × List ℕ) → ℕ → A → List ℕ → A × List ℕ
over {A = A} f from a s =
    let walked : A × List ℕ = walk f (length s) a (drop from s) in
    (walked.0, take from s ++ walked.1)

-- f at each field in turn, where no byte changes
unfoldable pub fold : {A : Type 0} → (A → List ℕ → A) → ℕ → A → List ℕ → A
fold f zero a s = a
fold f (suc k) a [] = a
fold f (suc k) a (x ∷ s) = fold f k (f a (here (x ∷ s))) (rest (x ∷ s))

-- r and s are what x says
pub record Is {A : Type 0} (x : A × List ℕ) (r : A) (s : List ℕ) : Type 0 where
  pub value : r ≡ x.0
  pub bytes : s ≡ x.1

-- r is where the field at `at` ends
pub record Ends (s : List ℕ) (at r : ℕ) : Type 0 where
  pub end : r ≡ at + span (drop at s)
