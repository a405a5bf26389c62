-- The spaces of an indent: a number that saturates writes what the whole number would, for no page goes that far.
use Rattle.std.proofs.lemmas.List.{set_past, replicate-append-replicate}
use Rattle.rules.proofs.Basics.{◌≡◌, refl, sym, List, [], ◌∷◌, Bool, true, false, ℕ, ◌+◌, ◌-◌, ◌*◌, ◌<◌, ◌≤◌, min, arith, leb, leb-true, leb-false, length, replicate, length-replicate}
use Rattle.writing.specs.declared.Page.{Page}
use Rattle.writing.specs.Written.{last, moved, with_text, Put}
use Rattle.writing.proofs.Laws.{kept, put_then}

past_end : (page : List ℕ) (at : ℕ) (text : List ℕ) → length page ≤ at → with_text page at text ≡ page
unfolding with_text moved
past_end page at [] h = refl
past_end page at (b ∷ text) h = rw (set_past page at b h) (past_end page (moved at 1) text (omega (arith, h)))

-- at the last position nothing more is written
beyond : {q : Page} (text : List ℕ) → length q.bytes.now ≤ last → last ≤ q.at → Put q text q
unfolding moved
beyond {q} text l h = record { same = refl; written = record { next = omega (arith, h); page_is = sym (past_end q.bytes.now q.at text (omega (arith, l, h))) } }

module _ {p q : Page} {n : ℕ} (k : ℕ) (l : length p.bytes.now ≤ last) (e : n ≡ min (k * 2) last) (w : Put p (replicate n 32) q) where
  far : last < 2 * k → Put p (replicate (2 * k) 32) q
  unfolding moved
  far h =
      let c : length q.bytes.now ≡ length p.bytes.now = kept w.written in
      let at : last ≤ q.at = omega (arith, w.written.next, length-replicate {A = ℕ} n 32, e, h) in
      let s : n + (2 * k - n) ≡ 2 * k = omega (arith, e, h) in
      rw (← s, ← replicate-append-replicate {A = ℕ} n (2 * k - n) 32) (put_then w (beyond (replicate (2 * k - n) 32) (omega (arith, c, l)) at))

  near : 2 * k ≤ last → Put p (replicate (2 * k) 32) q
  near h = let s : n ≡ 2 * k = omega (arith, e, h) in rw s at w

  pub indent_put : Put p (replicate (2 * k) 32) q
  indent_put = go (leb (2 * k) last) refl
    where
      go : (b : Bool) → leb (2 * k) last ≡ b → Put p (replicate (2 * k) 32) q
      go true t = near (leb-true (2 * k) last t)
      go false t = far (leb-false (2 * k) last t)
