-- What a search among definitions finds.
use Rattle.std.proofs.Common.{◌≡◌, ℕ, ◌∙◌, sym, ap, refl, cond, eqb, List, [], ◌∷◌, slice_get, Some}
use Rattle.std.specs.List.{find}
use Rattle.ir_entities.specs.Links.{AreDistinctNumbers}
use Rattle.ir_program.specs.Program.{numbered}
use Rattle.ir_program.specs.declared.records.Definition.{Definition}
use Rattle.ir_program.proofs.defined.Numbers.{numbers_of, stands-found}

-- the first definition that has the number
pub numbered-find : (n : ℕ) (ds : List Definition) → numbered n ds ≡ find (λ (d : Definition). eqb d.number n) ds
numbered-find n [] = refl
numbered-find n (d ∷ ds) = ap (cond (eqb d.number n) (Some d)) (numbered-find n ds)

-- a definition that stands in the list is found by its number
pub numbered-at : (n : ℕ) (ds : List Definition) (k : ℕ) (d : Definition) → AreDistinctNumbers (numbers_of ds) → slice_get ds k ≡ Some d → d.number ≡ n → numbered n ds ≡ Some d
numbered-at n ds k d distinct e h = ap (λ (m : ℕ). numbered m ds) (sym h) ∙ stands-found ds k d distinct e
