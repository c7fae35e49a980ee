-- A plain text of which nothing is left out.
use Rattle.std.specs.Prelude.{◌≡◌, ℕ, List, ◌++◌, Option, None}
use Rattle.std.specs.List.{All}
use Rattle.std.specs.String.{string_bytes}
use Rattle.ir_names.specs.declared.identifier.Identifier.{Identifier}
use Rattle.outlined_writing.specs.declared.entries.Beside.{Beside}
use Rattle.outlined_writing.specs.declared.outlining.Given.{Given}
use Rattle.outlined_writing.specs.declared.outlining.Outlining.{Outlining}

-- no value has a name
abbrev pub AreNoNames : List (Option Identifier) → Type 0
AreNoNames names = All (λ name. name ≡ None) names

-- there is no note, and no origin
abbrev pub IsNothing : Beside → Type 0
IsNothing it = (it.note ≡ None) × (it.origin ≡ None)

-- beside no item is anything
abbrev pub AreNothing : List Beside → Type 0
AreNothing beside = All IsNothing beside

-- nothing is beside items, and no value has a name
abbrev pub IsBare : Given → Type 0
IsBare given = AreNothing given.beside.now × AreNoNames given.names.now

-- the text became longer by these bytes, and no item was marked
abbrev pub AddsText : Outlining → Outlining → List ℕ → Type 0
AddsText old new text = (string_bytes new.text ≡ string_bytes old.text ++ text) × (new.entries ≡ old.entries)
