-- Values of the program as what they stand for.
use Rattle.std.specs.Prelude.{Bool, codes, ◌||◌, if◌then◌else◌}
use Rattle.ir_print.specs.Formats.{steps_of}
use Rattle.ir_format_checks.specs.declared.classes.Class.{Class}
use Rattle.ir_format_checks.specs.declared.classes.Class.TheVariants as class
use Rattle.ir_format_checks.specs.declared.check.FormatSort.{FormatSort}
use Rattle.ir_format_checks.specs.declared.decided.Next.{Next, Next-F, fold-Next}
use Rattle.ir_format_checks.specs.Tokens.{TokenClass, given, a_name, dotted, digits, number, width, quotation, mark}
use Rattle.ir_format_checks.specs.Decided.{anything, these, or_next}
use Rattle.ir_format_checks.specs.Test.{Classes, overlap, next_of, is_operation}

-- the class
abbrev pub class_of : Class → TokenClass
class_of (class.Given text) = given text.now
class_of class.Name = a_name
class_of class.Dotted = dotted
class_of class.Digits = digits
class_of class.Number = number
class_of class.Width = width
class_of class.Text = quotation
class_of class.Mark = mark

-- The token of a class may come behind an operation.
abbrev pub behind_operation : TokenClass → Bool
behind_operation c =
    overlap mark c || (overlap (given (codes ";")) c || (overlap (given (codes "^")) c || overlap (given (codes "}")) c))

-- the classes of tokens that may come next, those of what comes behind being known
abbrev pub classes_by : Next-F Classes → Classes
classes_by Next-F.Anything = anything
classes_by Next-F.BehindOperation = these behind_operation
classes_by (Next-F.Directives directives outer) = next_of (steps_of directives.now) outer.now
classes_by (Next-F.Word word outer) = or_next (overlap (given word.now)) outer.now

-- the classes of tokens that may come next
abbrev pub classes_of : Next → Classes
classes_of n = fold-Next Classes classes_by n

-- the classes of tokens that may come behind a format of this sort
abbrev pub classes_behind : FormatSort → Classes
classes_behind sort = if is_operation sort then these behind_operation else anything
