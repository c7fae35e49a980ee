-- Languages whose texts have one reading, which the next token decides.
use Rattle.std.specs.Prelude.{◌≡◌, ℕ, zero, suc, true, Some, slice_get}
use Rattle.ir_print.specs.declared.format.ValueSort.{ValueSort}
use Rattle.ir_print.specs.Formats.{Step, list_of, choice_of, Steps, no_steps, step, Choices, no_choice, a_choice, Kind, Formats, kinds_of, is_small}
use Rattle.ir_format_readings.specs.Language.{IsAcceptedLanguage}

abbrev mutual
  -- Lists and choices are in one another at most so deep.
  pub IsFlat : Step → ℕ → Type 0
  IsFlat (list_of member printed separator) zero = ⊥
  IsFlat (list_of member printed separator) (suc n) = AreFlat member n
  IsFlat (choice_of cs) zero = ⊥
  IsFlat (choice_of cs) (suc n) = AllAreFlat cs n
  IsFlat _ n = Unit {0}

  pub AreFlat : Steps → ℕ → Type 0
  AreFlat no_steps n = Unit {0}
  AreFlat (step s ss) n = IsFlat s n × AreFlat ss n

  pub AllAreFlat : Choices → ℕ → Type 0
  AllAreFlat no_choice n = Unit {0}
  AllAreFlat (a_choice ss cs) n = AreFlat ss n × AllAreFlat cs n

-- The formats of the types and attributes are those that `check_format` accepts, with lists and choices at most 64 deep in one
-- another. There are at most 256 kinds of each sort, each with an id of its own.
pub record IsReadable (f : Formats) : Type 0 where
  pub accepted : IsAcceptedLanguage f
  pub few : is_small f ≡ true
  pub flat : (sort : ValueSort) (i : ℕ) (k : Kind) → slice_get (kinds_of f sort) i ≡ Some k → AreFlat k.format 64
