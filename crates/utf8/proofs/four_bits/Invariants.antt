-- `utf8::four_bits` meets its contract. The loop's invariant: of each part the bits so far, with those of the bytes from i on, are all.
use Rattle.utf8.proofs.FourParts.{Or}
use Rattle.utf8.proofs.four_bits.Given as goal

abbrev pub invariant-loop-i : goal.invariant-loop-i
invariant-loop-i l = Or l.a l.i l.first × Or l.b l.i l.second × Or l.c l.i l.third × Or l.d l.i l.fourth
