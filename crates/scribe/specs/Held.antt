-- What a writer is once a step was taken.
use denote.Ref.{at_last}
use Rattle.scribe.specs.declared.held.Writer.{Writer}
use Rattle.moves.specs.Stepped.{State}

-- the same borrow, at a state's bytes, position and innermost open field
abbrev pub at_state : Writer → State → Writer
at_state w s = record { buf = at_last w.buf s.bytes; at = s.at; top = s.top }
