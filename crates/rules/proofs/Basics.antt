-- The libraries' names that proofs here use, passed on, so that a proof brings them in by one line.
pub use Prim.Native.Nat.{ℕ, zero, suc, ◌+◌, ◌≤◌, ◌<◌, ◌-◌, ◌*◌, ◌/◌, ◌%◌, ◌^◌, max, min, zero-le}
pub use borrow.Author.Rules.{rules, sfits_of}
pub use borrow.Author.Tests.{leb-true, leb-false, eqb-true, ne_eqb, lt-ltb, le-ltb, le-leb, eq-eqb, ltb-true, ltb-false, lt-leb, not-true, eqb-false, not-false}
pub use lib.Dec.{ltb, leb, eqb, T, leb→le, le→leb, ltb→lt, eqb→eq}
pub use lib.IntN.{ℤ, pos, negsuc, nat_abs, ◌-ℤ◌, ◌+ℤ◌}
pub use lib.ListN.{length, take, drop, length-take, length-drop, length-append, length-map, get_or, replicate, length-replicate, take-append-drop, set, length-set, get_or-replicate, drop_of_length-le}
pub use lib.Seq.{take_at, drop_at, set_out, sets-eq, drop-drop, length-take-le, take_all, take-suc, drop-cons}
pub use mathlib.Core.Bool.{Bool, true, false, ◌||◌, ◌&&◌, and-eq-true_iff, or-true, or-false, false≢true, not}
pub use mathlib.Core.List.{List, [], ◌∷◌, map, ◌++◌, append-nil, append_assoc}
pub use mathlib.Core.Logic.{◌⊎◌, inl, inr, ⊎_elim, ◌↔◌}
pub use mathlib.Core.Option.{Option, none, some, map as Option·map}
pub use mathlib.Core.Path.{◌≡◌, refl, ap, sym, ◌∙◌, ap₂, subst, subst⁻¹}
pub use native.Mathlib.Decide.{dec_lt, dec_le}
pub use native.Mathlib.Nat.{le_refl, le_trans, le_of_lt, add-zero, suc-mul, mul-le-mul_right, mul-lt-mul_of_pos_right, pow-suc, div-add-mod', mod-lt, div-div-eq-div-mul, mul_comm, div-one, zero-add, mul_assoc, le_of_mul-le-mul_right}
pub use native.Mathlib.Numerals.{add-one, sub-one}
pub use native.Mathlib.Omega.{arith}
