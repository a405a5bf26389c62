-- The answer of the UTF-8 check.
use Rattle.std.specs.Prelude.{List, Bool, true, false, ℕ}
use Rattle.rules.specs.Utf8.{utf8}
use Rattle.utf8.specs.declared.Utf8.{Utf8}
use Rattle.utf8.specs.declared.Utf8.TheVariants.{Sound, Broken}

abbrev pub sound_if : Bool → Utf8
sound_if true = Sound
sound_if false = Broken

unfoldable pub utf8_answer : List ℕ → Utf8
utf8_answer s = sound_if (utf8 s)
