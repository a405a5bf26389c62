-- No second answer satisfies the contracts of this crate.
use Rattle.rules.proofs.Basics.{◌≡◌, sym, ap, ◌∙◌, List, ℕ}
use denote.Ref.{at_last}
use Rattle.writing.specs.declared.Page.{Page}
use Rattle.writing.specs.Written.{Written, Put}

pub written_unique : {page : List ℕ} {at : ℕ} {text p q : List ℕ} {r s : ℕ} → Written page at text p r → Written page at text q s → (p ≡ q) × (r ≡ s)
written_unique x y = (x.page_is ∙ sym y.page_is, x.next ∙ sym y.next)

pub put_unique : {p q r : Page} {text : List ℕ} → Put p text q → Put p text r → q ≡ r
put_unique {p} x y =
    let n = written_unique x.written y.written in
    let bytes = x.same ∙ ap (at_last p.bytes) n.0 ∙ sym y.same in
    λ i. record { bytes = bytes i; at = n.1 i }
