-- How many types and attributes are in one another.
use Rattle.std.specs.Prelude.{◌≡◌, ℕ, suc, List, Some, slice_get}
use Rattle.ir_print.specs.declared.format.LeafSort.{LeafSort}
use Rattle.ir_print.specs.declared.format.ValueSort.{ValueSort}
use Rattle.ir_print.specs.Formats.{Step, a_value, list_of, choice_of, Steps, no_steps, step, Choices, alternative, Kind, Formats, kinds_of}
use Rattle.ir_print.specs.Pieces.{Leaf, Pieces, Values}
use Rattle.ir_format_checks.specs.Tokens.{given, dotted}
use Rattle.value_texts.specs.Texts.{Says, these, some}
use Rattle.value_texts.specs.Tokens.{TakesToken}

-- The characters begin as a text of the steps does that has so many types and attributes in one another. Of each the id is there, and
-- what it says before the next one, which is inside it.
pub data IsDeep (f : Formats) (v : Values) (leaf_in : LeafSort → List ℕ → Leaf) : ℕ → Steps → List ℕ → Type 0 where
  innermost : {ss : Steps} {sort : ValueSort} {cs mid : List ℕ} (i : ℕ) (k : Kind)
      → slice_get (kinds_of f sort) i ≡ Some k → TakesToken dotted cs k.id mid → IsDeep f v leaf_in 1 (step (a_value sort) ss) cs
  inside : {n : ℕ} {ss : Steps} {sort : ValueSort} {cs mid : List ℕ} (i : ℕ) (k : Kind)
      → slice_get (kinds_of f sort) i ≡ Some k → TakesToken dotted cs k.id mid → IsDeep f v leaf_in n k.format mid
      → IsDeep f v leaf_in (suc n) (step (a_value sort) ss) cs
  behind_step : {n d : ℕ} {s : Step} {ss : Steps} {qs : Pieces} {cs mid : List ℕ} → Says f v leaf_in (these d (step s no_steps) qs) cs mid
      → IsDeep f v leaf_in n ss mid → IsDeep f v leaf_in n (step s ss) cs
  in_first_member : {n : ℕ} {m ss : Steps} {printed w cs : List ℕ} → IsDeep f v leaf_in n m cs
      → IsDeep f v leaf_in n (step (list_of m printed w) ss) cs
  in_next_member : {n d : ℕ} {m ss : Steps} {ms : Pieces} {printed w text cs mid behind : List ℕ} → Says f v leaf_in (some d m w ms) cs mid
      → TakesToken (given w) mid text behind → IsDeep f v leaf_in n m behind → IsDeep f v leaf_in n (step (list_of m printed w) ss) cs
  in_choice : {n : ℕ} {cs : Choices} {a ss : Steps} {all : List ℕ} (i : ℕ) → alternative cs i ≡ Some a → IsDeep f v leaf_in n a all
      → IsDeep f v leaf_in n (step (choice_of cs) ss) all
