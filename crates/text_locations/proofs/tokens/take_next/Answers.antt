use Rattle.std.proofs.Common.{refl}
use Rattle.text_locations.proofs.tokens.take_next.Goals as goal

pub returns-in-Some-clause-there : goal.returns-in-Some-clause-there
returns-in-Some-clause-there g c = λ _. record {
  here = record { position = c.skip_spaces.result; state = c.args.stream.now.state };
  spaces = record { behind = c.skip_spaces.ensures; state = refl };
  token_read = record { there = c.in-Some.ensures.1; reads = record { behind = c.in-Some.ensures.0; state = refl } };
}

pub returns-in-None-clause-without : goal.returns-in-None-clause-without
returns-in-None-clause-without g c = λ _. (
  refl,
  record {
    here = record { position = c.skip_spaces.result; state = c.args.stream.now.state };
    spaces = record { behind = c.skip_spaces.ensures; state = refl };
    without = c.in-None.ensures;
  },
)
