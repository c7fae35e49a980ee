use Rattle.std.proofs.Common.{◌≡◌, replicate, None}
use Rattle.ir_formats.specs.Spelling.{known_texts}
use Rattle.ir_formats.proofs.Spelled.{Begun}
use Rattle.ir_formats.proofs.words.Spellings.new.Given as goal

-- the first words are put in, and no sign was met
abbrev pub invariant-loop-number : goal.invariant-loop-number
invariant-loop-number l = Begun l.words l.number (known_texts l.spellings) l.spellings.words.items × (l.spellings.signs.items ≡ replicate 128 None)
