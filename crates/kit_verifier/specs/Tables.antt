-- Which rule a table is for, and what it has.
use Rattle.ir_program.specs.Program.{Program}
use Rattle.ir_program.specs.declared.handles.Ptr.{Ptr}
use Rattle.ir_program.specs.declared.handles.Operation.{Operation}
use Rattle.kit_checks.specs.World.{World}
use Rattle.kit_checks.specs.declared.rule.Rule.{Rule}
use Rattle.kit_checks.specs.declared.rule.Rule.TheVariants.{ModuleHolds, CallsFit}
use Rattle.kit_verifier.specs.Callees.{AreCallees, callables_of}
use Rattle.kit_verifier.specs.Repeats.{AreRepeats}
use Rattle.kit_verifier.specs.declared.table.Table.{Table}
use Rattle.kit_verifier.specs.declared.table.Table.TheVariants.{Repeats, Callees}

-- what modules hold, or what calls call
abbrev pub rule_of : Table → Rule
rule_of (Repeats repeats) = ModuleHolds
rule_of (Callees callees) = CallsFit

-- the table is that of what is inside the root
abbrev pub IsTable : {O B : Type 0} → World O B → Program O B → Ptr Operation → Table → Type 0
IsTable w c root (Repeats repeats) = AreRepeats w c root repeats.keys
IsTable w c root (Callees callees) = AreCallees w c root (callables_of callees.keys)
