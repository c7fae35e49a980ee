-- How many lists and choices of a format stand in one another.
use Rattle.std.specs.Prelude.{ℕ, zero, suc, List, [], ◌∷◌, Bool, true, false, ◌&&◌}
use Rattle.ir_print.specs.Formats as step
use Rattle.ir_print.specs.Formats.{Formats, Kind, Step, Steps, no_steps, Choices, no_choice, a_choice}

-- the test one level deeper, where there is one left
abbrev pub deeper : ℕ → (ℕ → Bool) → Bool
deeper zero test = false
deeper (suc d) test = test d

abbrev mutual
  -- at most so many lists and choices stand in one another at a step
  pub is_nested : ℕ → Step → Bool
  is_nested d (step.list_of member printed text) = deeper d (λ e. are_nested e member)
  is_nested d (step.choice_of cs) = deeper d (λ e. are_choices_nested e cs)
  is_nested d _ = true

  -- and in a format
  pub are_nested : ℕ → Steps → Bool
  are_nested d no_steps = true
  are_nested d (step.step s ss) = is_nested d s && are_nested d ss

  -- and in each of several formats
  pub are_choices_nested : ℕ → Choices → Bool
  are_choices_nested d no_choice = true
  are_choices_nested d (a_choice ss cs) = are_nested d ss && are_choices_nested d cs

-- and in the format of each kind
abbrev pub kinds_nested : ℕ → List Kind → Bool
kinds_nested d [] = true
kinds_nested d (k ∷ ks) = are_nested d k.format && kinds_nested d ks

-- at most 64 lists and choices stand in one another in the formats of a dialect
abbrev pub is_nested_little : Formats → Bool
is_nested_little f = kinds_nested 64 f.operations && kinds_nested 64 f.types && kinds_nested 64 f.attributes
