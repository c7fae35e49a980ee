-- Which interfaces the table of a kind lists.
use Rattle.std.specs.Prelude.{Bool, true, false, List}
use Rattle.std.specs.List.{list_any}
use Rattle.ir_names.specs.contracts.interfaces.OpInterfacePartialEq.TheImpl as of_interfaces
use Rattle.ir_names.specs.declared.interfaces.OpInterface.{OpInterface}
use Rattle.ir_names.specs.declared.interfaces.OpInterface.TheVariants as interface

-- one of these compares equal to the interface
abbrev pub lists_interface : List OpInterface → OpInterface → Bool
lists_interface interfaces i = list_any (λ h. of_interfaces.eq-value.it h i) interfaces

-- the interface has no parameters but numbers: no test of types, and no name of a dialect's own
abbrev pub has_only_numbers : OpInterface → Bool
has_only_numbers (interface.AllOperands test) = false
has_only_numbers (interface.OperandN n test) = false
has_only_numbers (interface.OperandsMN m n test) = false
has_only_numbers (interface.SegmentN n test) = false
has_only_numbers (interface.AllResults test) = false
has_only_numbers (interface.ResultN n test) = false
has_only_numbers (interface.ResultsMN m n test) = false
has_only_numbers (interface.Other name) = false
has_only_numbers i = true
