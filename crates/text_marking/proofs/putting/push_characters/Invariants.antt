use Rattle.std.proofs.Common.{◌≡◌, ◌++◌, take}
use Rattle.text_marking.proofs.putting.push_characters.Given as goal

abbrev pub invariant-loop-digit : goal.invariant-loop-digit
invariant-loop-digit l = l.characters.items ≡ l.initial.characters.items ++ take l.digit-index l.digit-items
