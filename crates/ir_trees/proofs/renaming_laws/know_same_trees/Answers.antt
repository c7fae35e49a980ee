use Rattle.std.proofs.Common.{subst}
use Rattle.ir_program.proofs.defined.Arrivals.{same_value}
use Rattle.ir_trees.specs.Renames.{HaveTests, IsSameUpToNames, own_names}
use Rattle.ir_trees.specs.Stands.{by_handle}
use Rattle.ir_program.proofs.made.Frames.{same_or_not}
use Rattle.ir_trees.proofs.Same.{same_renamed, renaming_found}
use Rattle.ir_trees.proofs.renaming_laws.know_same_trees.Goals as goal

handle_tests : HaveTests by_handle
handle_tests = record { operation = same_or_not; block = same_or_not; value = same_value }

pub returns : goal.returns
returns g c t u = ((λ s. renaming_found handle_tests own_names t u s), (λ r. subst (λ x. IsSameUpToNames t x) r.2 (same_renamed r.0 t r.1)))
