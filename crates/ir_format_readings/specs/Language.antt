-- Languages whose formats are all accepted.
use Rattle.std.specs.Prelude.{◌≡◌, ℕ, Bool, true, List, Some, slice_get}
use Rattle.ir_print.specs.Formats.{Kind, Formats, kinds_of}
use Rattle.ir_print.specs.declared.format.ValueSort.{ValueSort}
use Rattle.ir_print.specs.declared.format.ValueSort.TheVariants as sorts
use Rattle.ir_format_checks.specs.declared.check.FormatSort.{FormatSort}
use Rattle.ir_format_checks.specs.declared.check.FormatSort.TheVariants.{«Type», Attribute}
use Rattle.ir_format_checks.specs.Tokens.{Column}
use Rattle.ir_format_checks.specs.Decided.{Follow, anything, these}
use Rattle.ir_format_checks.specs.Accepted.{behind, IsAccepted}
use Rattle.ir_format_readings.specs.Readings.{Item, column_of}

-- each format is accepted
abbrev pub AreAccepted : FormatSort → List Kind → Type 0
AreAccepted sort kinds = (i : ℕ) (k : Kind) → slice_get kinds i ≡ Some k → IsAccepted sort k.format

-- no two kinds have one id
abbrev pub AreIdsDistinct : List Kind → Type 0
AreIdsDistinct kinds = (i j : ℕ) (k l : Kind)
    → slice_get kinds i ≡ Some k → slice_get kinds j ≡ Some l → k.id ≡ l.id → i ≡ j

-- a format of a value of this sort
abbrev pub format_sort : ValueSort → FormatSort
format_sort sorts.«Type» = «Type»
format_sort sorts.Attribute = Attribute

-- A language whose types and attributes have formats that are accepted, and ids of their own.
pub record IsAcceptedLanguage (f : Formats) : Type 0 where
  pub values : (sort : ValueSort) → AreAccepted (format_sort sort) (kinds_of f sort)
  pub distinct : (sort : ValueSort) → AreIdsDistinct (kinds_of f sort)

-- ---- what comes behind

-- this may come next
abbrev pub allows : Follow Column → Column → Bool
allows anything x = true
allows (these q) x = q x

-- The items may come behind a text of a format of this sort: behind an operation a mark, `;`, `^`, `}` or none at all, and
-- behind a type or an attribute any.
abbrev pub MayComeBehind : FormatSort → List Item → Type 0
MayComeBehind sort items = allows (behind sort) (column_of items) ≡ true
