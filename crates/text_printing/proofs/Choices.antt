-- The formats of a choice, by their numbers.
use Rattle.std.proofs.Common.{◌≡◌, ℕ, zero, suc, ◌≤◌, List, [], ◌∷◌, length, Some, None, refl, ap, arith, Bor}
use Rattle.std.specs.Prelude.{slice_get}
use Rattle.ir_print.specs.Formats.{choices_of, alternative, steps_of}
use Rattle.ir_print.specs.declared.format.Directive.{Directive}

-- the format with a number
pub alternative_at : (fs : List (Bor (List Directive))) (n : ℕ) (format : Bor (List Directive)) → slice_get fs n ≡ Some format → alternative (choices_of fs) n ≡ Some (steps_of format.now)
alternative_at [] n format e = cc
alternative_at (f ∷ fs) zero format e = let same : f ≡ format = cc in ap (λ (x : Bor (List Directive)). Some (steps_of x.now)) same
alternative_at (f ∷ fs) (suc n) format e = alternative_at fs n format e

-- there is none behind the last
pub no_alternative : (fs : List (Bor (List Directive))) (n : ℕ) → length fs ≤ n → alternative (choices_of fs) n ≡ None
no_alternative [] n h = refl
no_alternative (f ∷ fs) zero h = absurd (omega (arith, h))
no_alternative (f ∷ fs) (suc n) h = no_alternative fs n (omega (arith, h))
