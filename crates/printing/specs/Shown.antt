-- An accepted answer counts bytes that stand in the page.
use Rattle.std.specs.Prelude.{◌≡◌, List, ℕ, Ok}
use Rattle.rules.specs.Result.{Answer}
use Rattle.hazomeny.proofs.Written.{InPage}

pub record Shown (a : Answer) (page : List ℕ) : Type 0 where
  pub in_page : (n : ℕ) → a ≡ Ok n → InPage n page
