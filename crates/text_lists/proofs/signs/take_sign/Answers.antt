use Rattle.std.proofs.Common.{refl}
use Rattle.text_lists.proofs.signs.take_sign.Goals as goal

pub returns-then-is_there-clause-there : goal.returns-then-is_there-clause-there
returns-then-is_there-clause-there g c = λ there. record {
  behind = c.take_character-is_there.new.stream;
  read = c.take_character-is_there.ensures.there there;
  spaces = record { behind = c.skip_spaces-stream.ensures; state = refl };
}
