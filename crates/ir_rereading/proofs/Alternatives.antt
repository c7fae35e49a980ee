-- What is known of formats of which one is taken.
use Rattle.std.proofs.Common.{◌≡◌, ℕ, zero, suc, List, Option, Some, None, true, refl, subst}
use Rattle.ir_print.specs.Formats.{Step, Steps, Choices, no_choice, a_choice, alternative}
use Rattle.ir_print.specs.Shapes.{parts_in, IsKnownOf}
use Rattle.ir_rereading.specs.Outer.{are_value_steps, are_value_choices}
use Rattle.ir_formats.proofs.Booleans.{both_hold}

-- what is known of a format, there being one
pub known_format : (o : Option Steps) (P : List Step → Type 0) → IsKnownOf o P → (ss : Steps) × (o ≡ Some ss) × P (parts_in ss)
known_format None P h = absurd h
known_format (Some ss) P h = (ss, refl, h)

-- something else is known of it
pub known_along : (o : Option Steps) (P Q : List Step → Type 0) → ((ss : List Step) → P ss → Q ss) → IsKnownOf o P → IsKnownOf o Q
known_along None P Q f h = h
known_along (Some ss) P Q f h = f (parts_in ss) h

-- where no format says operands, edges or regions, none does by its number
pub value_alternative : (cs : Choices) (n : ℕ) (ss : Steps) → are_value_choices cs ≡ true → alternative cs n ≡ Some ss → are_value_steps ss ≡ true
value_alternative no_choice n ss h e = cc
value_alternative (a_choice fs cs) zero ss h e =
    let same : fs ≡ ss = let t : Some fs ≡ Some ss = e in cc in
    subst (λ (x : Steps). are_value_steps x ≡ true) same (both_hold (are_value_steps fs) (are_value_choices cs) h).0
value_alternative (a_choice fs cs) (suc n) ss h e = value_alternative cs n ss (both_hold (are_value_steps fs) (are_value_choices cs) h).1 e
