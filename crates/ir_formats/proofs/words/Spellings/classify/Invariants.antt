use Rattle.std.proofs.Common.{◌-◌, length}
use Rattle.ir_characters.specs.Texts.{codes_of}
use Rattle.ir_formats.specs.Spelling.{known_texts, AreSigns}
use Rattle.ir_formats.specs.Words.{spellings}
use Rattle.ir_formats.proofs.Classifying.{Classifying}
use Rattle.ir_formats.proofs.words.Spellings.classify.Given as goal

abbrev pub invariant-reading : goal.invariant-reading
invariant-reading l =
    Classifying (spellings l.words) (codes_of l.chars) (known_texts l.fn.self) l.at
    (known_texts l.self) l.self.words.items l.classified.starts l.classified.kinds.items
    l.classified.names
    × AreSigns (spellings l.words) (known_texts l.self) l.self.signs.items

abbrev pub decreases-reading : goal.decreases-reading
decreases-reading l = length (codes_of l.chars) - l.at
