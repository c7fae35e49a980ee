use Rattle.irkit_driver.proofs.RunLemmas.{run_alike, run_bound, run_faces, run_goal}
use Rattle.irkit_driver.proofs.laws.written_texts_behave_alike.Goals as goal

pub returns : goal.returns
returns c = let law = c.texts_have_one_program.ensures in record {
  faces = λ passes bytes text p q h. run_faces law passes bytes text p q h;
  alike = λ passes bytes text p q h. run_alike law passes bytes text p q h;
  bound = λ pass bytes text p q h. run_bound law pass bytes text p q h;
  goal = λ passes bytes text p q h. run_goal law passes bytes text p q h;
}
