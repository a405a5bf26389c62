-- Reading back, one text after the other: what two texts show, what a value shows, and what page bytes show, made here or copied.
use Rattle.rules.proofs.Basics.{◌≡◌, refl, sym, ◌∙◌, ap, ap₂, List, [], ◌∷◌, ◌++◌, append_assoc, Bool, true, false, ◌||◌, ℕ, eqb, ne_eqb, eqb-false}
use Rattle.rules.specs.Bytes.{has}
use Rattle.rules.specs.Lines.{Out}
use Rattle.rules.specs.Plain.{fill}
use Rattle.rules.specs.Html.{makes, copies}
use Rattle.rules.specs.Answers.{itself}
use Rattle.rules.specs.ReadBack.{Reading, at_value, onward, shows, shown_from, ending, Reads}
use Rattle.rules.proofs.Chains.{no_path}
use Rattle.rules.proofs.Fills.{fill_append, fill_makes, fill_copies}

-- ---- one text after the other

shown_append : (r : Reading) (a b : List ℕ) → shown_from r (a ++ b) ≡ shown_from r a ++ shown_from (ending r a) b
unfolding shown_from ending
shown_append r [] b = refl
shown_append r (x ∷ a) b = ap (shows r x ++◌) (shown_append (onward r x) a b) ∙ sym (append_assoc (shows r x) (shown_from (onward r x) a) (shown_from (ending (onward r x) a) b))

ending_append : (r : Reading) (a b : List ℕ) → ending r (a ++ b) ≡ ending (ending r a) b
unfolding ending
ending_append r [] b = refl
ending_append r (x ∷ a) b = ending_append (onward r x) a b

pub reads_append : {p q r : Reading} {a b o u : List ℕ} → Reads p a o q → Reads q b u r → Reads p (a ++ b) (o ++ u) r
reads_append {p} {q} {r} {a} {b} A B =
    record {
      taken_out = shown_append p a b ∙ ap₂ ◌++◌ A.taken_out (ap (λ q. shown_from q b) A.ends ∙ B.taken_out);
      ends = ending_append p a b ∙ ap (λ q. ending q b) A.ends ∙ B.ends;
    }

pub reads_nothing : {p : Reading} → Reads p [] [] p
unfolding shown_from ending
reads_nothing = record { taken_out = refl; ends = refl }

-- ---- values

-- bytes of a value, which do not end it
abbrev pub InValue : List ℕ → Type 0
InValue v = Reads at_value v [] at_value

pub one_byte : (b : ℕ) → (b ≡ 34 → ⊥) → InValue (b ∷ [])
unfolding shown_from ending onward shows
one_byte b n = record { taken_out = refl; ends = rw (ne_eqb b 34 n) }

pub quoteless : (v : List ℕ) → has 34 v ≡ false → InValue v
unfolding has
quoteless [] h = reads_nothing
quoteless (x ∷ v) h = go (eqb 34 x) refl h (quoteless v)
  where
    go : (c : Bool) → eqb 34 x ≡ c → (c || has 34 v) ≡ false → (has 34 v ≡ false → InValue v) → InValue (x ∷ v)
    go true e h more = no_path (cc)
    go false e h more = reads_append (one_byte x (λ z. eqb-false 34 x e (sym z))) (more h)

-- ---- page bytes, made here or copied

pub record PageReads (from : Reading) (os : List (Out ℕ)) (o : List ℕ) (to : Reading) : Type 0 where
  pub reads : Reads from (fill itself os) o to

pub page_append : {p q r : Reading} {os us : List (Out ℕ)} {a b : List ℕ} → PageReads p os a q → PageReads q us b r → PageReads p (os ++ us) (a ++ b) r
page_append {os = os} {us} A B = record { reads = rw (fill_append os us) (reads_append A.reads B.reads) }

pub page_nothing : {p : Reading} → PageReads p [] [] p
unfolding fill
page_nothing = record { reads = reads_nothing }

pub page_made : {p q : Reading} {bs o : List ℕ} → Reads p bs o q → PageReads p (makes bs) o q
page_made {bs = bs} A = record { reads = rw (fill_makes bs) A }

pub page_name : {a : List ℕ} → InValue a → PageReads at_value (copies a) [] at_value
page_name {a} A = record { reads = rw (fill_copies a) A }
