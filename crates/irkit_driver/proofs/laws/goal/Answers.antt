use Rattle.irkit_driver.proofs.ModuleLemmas as modules
use Rattle.irkit_driver.proofs.laws.goal.Goals as goal

pub returns : goal.returns
returns c = λ passes t u p q h. modules.goal passes t u p q h
