-- Which formats say operands, edges and regions at operations alone.
use Rattle.std.specs.Prelude.{Bool, true, false, ◌&&◌}
use Rattle.std.specs.List.{list_all}
use Rattle.ir_print.specs.Formats as step
use Rattle.ir_print.specs.Formats.{Formats, Kind, Step, Steps, no_steps, Choices, no_choice, a_choice}

-- No operands, no edge and no region are said at a step, nor in the members of a list, nor in a format that may be taken there.
abbrev mutual
  pub is_value_step : Step → Bool
  is_value_step step.operands = false
  is_value_step step.operand = false
  is_value_step step.successor = false
  is_value_step step.a_region = false
  is_value_step (step.list_of member printed text) = are_value_steps member
  is_value_step (step.choice_of cs) = are_value_choices cs
  is_value_step _ = true

  -- the same of each step
  pub are_value_steps : Steps → Bool
  are_value_steps no_steps = true
  are_value_steps (step.step s ss) = is_value_step s && are_value_steps ss

  -- the same of each of several formats
  pub are_value_choices : Choices → Bool
  are_value_choices no_choice = true
  are_value_choices (a_choice ss cs) = are_value_steps ss && are_value_choices cs

-- the members of a list say none of them, nor do formats of which one is taken
abbrev pub is_plain_step : Step → Bool
is_plain_step (step.list_of member printed text) = are_value_steps member
is_plain_step (step.choice_of cs) = are_value_choices cs
is_plain_step _ = true

-- the same of each step
abbrev pub are_plain_steps : Steps → Bool
are_plain_steps no_steps = true
are_plain_steps (step.step s ss) = is_plain_step s && are_plain_steps ss

-- Operands, edges and regions are said by operations alone, outside of lists and choices.
abbrev pub has_outer_operands : Formats → Bool
has_outer_operands f = list_all (λ k. are_plain_steps k.format) f.operations && list_all (λ k. are_value_steps k.format) f.types && list_all (λ k. are_value_steps k.format) f.attributes
