use Rattle.std.proofs.Common.{◌∙◌, ap, map, Bor, List, ℕ}
use Rattle.irkit_driver.proofs.ExecutionLemmas.{path_found}
use Rattle.irkit_driver.proofs.executing.names_of_path.Goals as goal

pub returns : goal.returns
returns c = path_found (λ v. v.items) c.args.path.now _ c.identifiers.result (ap (map (λ (t : Bor (List ℕ)). t.now)) c.as_slice.ensures.value ∙ c.in_ok-parts.ensures) c.identifiers.ensures
