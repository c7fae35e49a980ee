-- The tokens of a location's text.
use Rattle.std.specs.Prelude.{ℕ, List, [], ◌∷◌, ◌++◌, Option, None, Some, codes}
use Rattle.std.specs.String.{string_bytes}
use Rattle.ir_locations.specs.declared.source.Source.{Source}
use Rattle.ir_locations.specs.declared.source.Source.TheVariants.{InMemory, File}
use Rattle.ir_locations.specs.declared.location.Location.{Location}
use Rattle.ir_locations.specs.declared.location.Location.TheOpen.{Location-F, SrcPos, Fused, Named, CallSite, Unknown}
use Rattle.ir_locations.specs.declared.location.Location.TheFolds.{fold-Location}

-- These characters; a `,` or a `:`, which is printed with a space behind it; a number; the bytes of a text that is said in quotes;
-- metadata.
pub data Token (A : Type 0) : Type 0 where
  sign : List ℕ → Token A
  separator : ℕ → Token A
  number : ℕ → Token A
  text : List ℕ → Token A
  metadata : A → Token A

-- `: line: 3, column: 4`, by the codes of `:` (58) and `,` (44)
abbrev pub place_tokens : {A : Type 0} → ℕ → ℕ → List (Token A)
place_tokens line column =
    separator 58 ∷ sign (codes "line") ∷ separator 58 ∷ number line
    ∷ separator 44 ∷ sign (codes "column") ∷ separator 58 ∷ number column ∷ []

-- `<metadata>`, where there is some
abbrev pub metadata_tokens : {A : Type 0} → Option A → List (Token A)
metadata_tokens None = []
metadata_tokens (Some a) = sign (codes "<") ∷ metadata a ∷ sign (codes ">") ∷ []

-- the members of a list behind the first, each behind a `,`, and the `]`
abbrev pub further_tokens : {A : Type 0} → List (List (Token A)) → List (Token A)
further_tokens [] = sign (codes "]") ∷ []
further_tokens (ts ∷ tss) = separator 44 ∷ (ts ++ further_tokens tss)

-- the members of a list, with a `,` between them, and the `]`
abbrev pub member_tokens : {A : Type 0} → List (List (Token A)) → List (Token A)
member_tokens [] = sign (codes "]") ∷ []
member_tokens (ts ∷ tss) = ts ++ further_tokens tss

-- a `,`, one more part, and the `]`
abbrev pub last_tokens : {A : Type 0} → List (Token A) → List (Token A)
last_tokens ts = separator 44 ∷ (ts ++ sign (codes "]") ∷ [])

abbrev pub named_tokens : {A : Type 0} → List ℕ → List (Token A) → List (Token A)
named_tokens name child = sign (codes "[") ∷ text name ∷ last_tokens child

abbrev pub call_site_tokens : {A : Type 0} → List (Token A) → List (Token A) → List (Token A)
call_site_tokens callee caller = sign (codes "[") ∷ (callee ++ last_tokens caller)

abbrev pub fused_tokens : {A : Type 0} → Option A → List (List (Token A)) → List (Token A)
fused_tokens m members = metadata_tokens m ++ sign (codes "[") ∷ member_tokens members

abbrev pub source_token : {A : Type 0} → Source → Token A
source_token InMemory = sign (codes "<in-memory>")
source_token (File name) = text (string_bytes name)

-- one location, with the tokens of each location in it in its place
abbrev pub tokens_step : {A : Type 0} → Location-F A (List (Token A)) → List (Token A)
tokens_step (SrcPos source line column) = source_token source ∷ place_tokens line column
tokens_step (Fused m locations) = sign (codes "fused") ∷ fused_tokens m locations.items
tokens_step (Named name child) = sign (codes "named") ∷ named_tokens (string_bytes name) child.value
tokens_step (CallSite callee caller) = sign (codes "callsite") ∷ call_site_tokens callee.value caller.value
tokens_step Unknown = sign (codes "?") ∷ []

-- the tokens of a location's text, in order
abbrev pub tokens_of : {A : Type 0} → Location A → List (Token A)
tokens_of {A} = fold-Location A (List (Token A)) tokens_step
