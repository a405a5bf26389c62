-- What an answer of the code says whose refusal is a number and a place: any number and any place.
use Rattle.std.specs.Prelude.{ℕ, Ok, Err, Result as Answer}
use Rattle.rules.specs.Result.{Result, refused, accepted}
use Rattle.answers.specs.declared.Numbered.{Numbered}

unfoldable pub said : Answer ℕ Numbered → Result ℕ
said (Ok n) = accepted n
said (Err t) = refused t.number t.place
