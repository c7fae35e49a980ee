-- Values that may be missing.
use Rattle.std.specs.Prelude.{ℕ, ◌≡◌, ◌&&◌, not, List, [], Bool, true, false, Option, None, Some, Ok, Err}
use Rattle.text_streams.specs.declared.faults.TextError.{TextError}
use Rattle.text_streams.specs.declared.faults.TextError.TheVariants.{Syntax}
use Rattle.text_parsables.specs.Fronts.{Fronts, is_some_text}

abbrev pub is_syntax : TextError → Bool
is_syntax Syntax = true
is_syntax _ = false

-- whether a value is missing: a syntax fault before which nothing was read
abbrev pub is_missing : List ℕ × TextError → Bool
is_missing fault = is_syntax fault.1 && not (is_some_text fault.0)

-- A value, or none where it is missing. Any other fault is one.
abbrev pub OptionStands : {S T : Type 0} → Fronts S T → Fronts S (Option T)
OptionStands {T = T} Stands text old (Ok answer) new =
    elim answer.1 [ None ↦ (answer.0 ≡ []) × Stands text old (Err ([], Syntax)) new | Some value ↦ Stands text old (Ok (answer.0, value)) new ]
OptionStands Stands text old (Err fault) new = Stands text old (Err fault) new × (is_missing fault ≡ false)
