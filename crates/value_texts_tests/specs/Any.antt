-- What is kept of values.
use Rattle.ir_print.specs.Pieces.{ValueTree}
use Rattle.value_texts_tests.specs.declared.counts.Size.{Size}

-- a size is that of any piece
abbrev pub shows_any : Size → ValueTree → Type 0
shows_any size t = Unit {0}
