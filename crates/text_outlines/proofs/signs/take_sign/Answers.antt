use Rattle.std.proofs.Common.{refl}
use Rattle.text_outlines.proofs.signs.take_sign.Goals as goal

pub returns-in-Some-clause-there : goal.returns-in-Some-clause-there
returns-in-Some-clause-there g c = λ _. record {
  here = record { position = c.skip_spaces.result; state = c.args.stream.now.state };
  spaces = record { behind = c.skip_spaces.ensures; state = refl };
  sign_read = record { behind = c.in-Some.ensures; state = refl };
}

pub returns-in-None-clause-without : goal.returns-in-None-clause-without
returns-in-None-clause-without g c = λ _. (
  refl,
  record {
    here = record { position = c.skip_spaces.result; state = c.args.stream.now.state };
    spaces = record { behind = c.skip_spaces.ensures; state = refl };
    without = c.in-None.ensures;
  },
)
