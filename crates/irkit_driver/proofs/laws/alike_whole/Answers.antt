use Rattle.irkit_driver.proofs.ModuleLemmas.{accepted_module, alike, bound, content, faces, have_programs}
use Rattle.irkit_driver.proofs.laws.alike_whole.Goals as goal

pub returns : goal.returns
returns c = record {
  accepted = λ bytes s root said. accepted_module bytes s root said;
  programs = λ passes s numbered t u ruled made. have_programs passes s numbered t u ruled made;
  faces = λ passes t u p q h. faces passes t u p q h;
  content = λ passes t u p q h path. content passes t u p q h path;
  alike = λ passes t u p q h. alike passes t u p q h;
  bound = λ pass t u p q h. bound pass t u p q h;
}
