use Rattle.irkit_driver.proofs.RunLemmas.{one_program, some_program}
use Rattle.irkit_driver.proofs.laws.inputs_have_one_program.Goals as goal

pub returns : goal.returns
returns c = record {
  some = λ numbered bytes s root said. some_program numbered bytes s root said;
  one = λ numbered bytes p q a b. one_program c.texts_have_one_program.ensures numbered bytes p q a b;
}
