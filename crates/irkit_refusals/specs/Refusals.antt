-- Refusals, and which bytes deserve which.
use Rattle.std.specs.Prelude.{ℕ, List}
use Rattle.ir_base.specs.declared.growth.GrowError.{GrowError}
use Rattle.ir_base.specs.declared.growth.GrowError.TheVariants as grow
use Rattle.ir_tokens.specs.declared.faults.TextFault.{TextFault}
use Rattle.ir_tokens.specs.declared.faults.TextFault.TheVariants as text
use Rattle.kit_checks.specs.declared.rule.RuleFault.{RuleFault}
use Rattle.kit_checks.specs.declared.rule.RuleFault.TheVariants as rules
use Rattle.kit_interpreter.specs.declared.executing.ExecFault.{ExecFault}
use Rattle.kit_interpreter.specs.declared.executing.ExecFault.TheVariants as exec
use Rattle.irkit_streams.specs.Ends.{IsNotUtf8}
use Rattle.irkit_streams.specs.declared.faults.ReadFault.{ReadFault}
use Rattle.irkit_streams.specs.declared.faults.ReadFault.TheVariants as read
use Rattle.irkit_streams.specs.declared.faults.DecodeFault.{DecodeFault}
use Rattle.irkit_streams.specs.declared.faults.DecodeFault.TheVariants as decode
use Rattle.irkit_streams.specs.declared.faults.WriteFault.{WriteFault}
use Rattle.irkit_refusals.specs.declared.refusal.Refusal.{Refusal}
use Rattle.irkit_refusals.specs.declared.refusal.ExecutionFault.{ExecutionFault}
use Rattle.irkit_refusals.specs.declared.refusal.ExecutionFault.TheVariants.{Refused, WrongPath, WrongArguments}
use Rattle.irkit_refusals.specs.declared.refusal.Refusal.TheVariants.{NotUtf8, Syntax, TooDeep, Scope, Rule, Memory, CounterFull, Read, Write}
use Rattle.irkit_refusals.specs.Texts.{HasFirstTextFault, BreaksRule}

-- the number of a refusal, from 1
abbrev pub number_of : Refusal → ℕ
number_of (NotUtf8 _) = 1
number_of (Syntax _ _) = 2
number_of (TooDeep _ _) = 3
number_of (Scope _ _ _) = 4
number_of (Rule _ _) = 5
number_of Memory = 6
number_of CounterFull = 7
number_of Read = 8
number_of (Write _) = 9

-- The whole input is refused so: it is no UTF-8 from that byte on, or this is the first fault of its characters, or they say a tree that breaks this rule.
abbrev pub Deserves : List ℕ → Refusal → Type 0
Deserves bytes (NotUtf8 b) = IsNotUtf8 bytes b
Deserves bytes (Syntax line column) = HasFirstTextFault bytes (text.Syntax line column)
Deserves bytes (TooDeep line column) = HasFirstTextFault bytes (text.TooDeep line column)
Deserves bytes (Scope line column cause) = HasFirstTextFault bytes (text.Scope line column cause)
Deserves bytes (Rule rule place) = BreaksRule bytes rule place.children.items
Deserves bytes Memory = ⊥
Deserves bytes CounterFull = ⊥
Deserves bytes Read = ⊥
Deserves bytes (Write b) = ⊥

-- the refusal where the input isn't read to its end
abbrev pub of_read_fault : ReadFault → Refusal
of_read_fault read.Read = Read
of_read_fault read.Memory = Memory

-- the refusal where the input's bytes are no characters
abbrev pub of_decode_fault : DecodeFault → Refusal
of_decode_fault (decode.NotUtf8 at) = NotUtf8 at
of_decode_fault decode.Memory = Memory

-- the refusal where a text isn't all written
abbrev pub of_write_fault : WriteFault → Refusal
of_write_fault fault = Write fault.taken

-- the refusal of the same name
abbrev pub of_text_fault : TextFault → Refusal
of_text_fault text.Memory = Memory
of_text_fault text.CounterFull = CounterFull
of_text_fault (text.Syntax line column) = Syntax line column
of_text_fault (text.TooDeep line column) = TooDeep line column
of_text_fault (text.Scope line column cause) = Scope line column cause

-- the refusal for a module that isn't accepted
abbrev pub of_rule_fault : RuleFault → Refusal
of_rule_fault rules.Memory = Memory
of_rule_fault (rules.Broken rule place) = Rule rule place

-- the refusal where nothing grows
abbrev pub of_grow_error : GrowError → Refusal
of_grow_error grow.Memory = Memory
of_grow_error grow.CounterFull = CounterFull

-- the fault of a call that runs a function
abbrev pub of_exec_fault : ExecFault → ExecutionFault
of_exec_fault exec.Memory = Refused Memory
of_exec_fault exec.WrongPath = WrongPath
of_exec_fault exec.WrongArguments = WrongArguments
