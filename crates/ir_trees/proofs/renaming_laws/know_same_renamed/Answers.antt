use Rattle.std.proofs.Common.{subst}
use Rattle.ir_trees.specs.Renames.{IsSameUpToNames}
use Rattle.ir_trees.proofs.Same.{same_renamed, renaming_found}
use Rattle.ir_trees.proofs.renaming_laws.know_same_renamed.Goals as goal

pub returns-clause-renamed : goal.returns-clause-renamed
returns-clause-renamed g c t u r = subst (λ x. IsSameUpToNames t x) r.2 (same_renamed r.0 t r.1)

pub returns-clause-found : goal.returns-clause-found
returns-clause-found g c t u tests other s = renaming_found tests other t u s
