-- Lists of passes cut from one context to another.
use Rattle.std.proofs.Common.{◌≡◌, ℕ, List, ◌++◌, sym, subst}
use Rattle.ir_program.specs.declared.handles.Operation.{Operation}
use Rattle.ir_program.specs.declared.handles.Ptr.{Ptr}
use Rattle.kit.specs.Context.{KitContext}
use Rattle.kit_behaviour.specs.Machine.{FunctionsByPath}
use Rattle.kit_behaviour.specs.PassLists.{Pass, IsAfter}
use Rattle.kit_behaviour.specs.Places.{Place}
use Rattle.kit_behaviour.proofs.PassListLemmas.{after_cut}
use Rattle.kit_optimiser.specs.Programs.{PassedPrograms}
use Rattle.kit_optimiser.proofs.ProgramsOfModules.{fit}

pub cut : (xs ys : List Pass) (start mid again end other new : KitContext) (root root_again root_there : Ptr Operation)
    (numbered : List ℕ → ℕ) (begun : PassedPrograms xs start mid root numbered)
    (whole : PassedPrograms (xs ++ ys) again end root_again numbered)
    (rest : PassedPrograms ys other new root_there numbered) → whole.first ≡ begun.first → rest.first ≡ begun.last
    → rest.last ≡ whole.last
cut xs ys start mid again end other new root root_again root_there numbered begun whole rest one same =
    sym (after_cut xs ys begun.first begun.last whole.last rest.last
    (fit start root begun.before numbered begun.first begun.is_first).rules begun.passed
    (subst (λ (p : FunctionsByPath Place). IsAfter (xs ++ ys) p whole.last) one whole.passed)
    (subst (λ (p : FunctionsByPath Place). IsAfter ys p rest.last) same rest.passed))
