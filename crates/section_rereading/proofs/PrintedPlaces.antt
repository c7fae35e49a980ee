-- What places in a text without a name are printed as.
use Rattle.std.proofs.Common.{◌≡◌, ℕ, List, [], ◌∷◌, ◌++◌, refl, sym, ◌∙◌, ap, subst, append_assoc, decimal}
use Rattle.std.specs.Prelude.{codes}
use Rattle.ir_locations.specs.declared.location.Location.TheVariants as whole
use Rattle.ir_locations.specs.declared.location.Location.TheVariants.{rolls-SrcPos}
use Rattle.ir_locations.specs.declared.location.Location.TheOpen as locations
use Rattle.ir_locations.specs.declared.location.Location.TheFolds.{fold-roll-Location}
use Rattle.ir_locations.specs.declared.source.Source.TheVariants as sources
use Rattle.printed_locations.specs.Printed.{AddsTokens, IsTextOf}
use Rattle.printed_locations.specs.Tokens.{Token, place_tokens, source_token, tokens_of, tokens_step}
use Rattle.section_rereading.specs.Places.{place_text}

place_is : {A : Type 0} (line column : ℕ) → tokens_of {A = A} (whole.SrcPos sources.InMemory line column) ≡ source_token sources.InMemory ∷ place_tokens line column
place_is {A} line column =
    ap tokens_of (sym (rolls-SrcPos sources.InMemory line column)) ∙ fold-roll-Location A (List (Token A)) tokens_step (locations.SrcPos sources.InMemory line column)

-- one token more
added : (old new bytes text before : List ℕ) → new ≡ old ++ bytes → bytes ≡ text → old ≡ before → new ≡ before ++ text
added old new bytes text before is same front = is ∙ ap (λ (xs : List ℕ). old ++ xs) same ∙ ap (λ (xs : List ℕ). xs ++ text) front

tokens_are : {A : Type 0} (prints : A → List ℕ → Type 0) (line column : ℕ) (bytes : List ℕ)
    → AddsTokens prints [] (source_token sources.InMemory ∷ place_tokens line column) bytes → bytes ≡ place_text line column
tokens_are prints line column bytes (a, sa, (b, sb, (d, sd, (e, se, (f, sf, (g, sg, (h, sh, (i, si, (j, sj, end))))))))) =
    let one = added _ a _ (codes "<in-memory>") [] sa.2 sa.1 refl in
    let two = added _ b _ (58 ∷ 32 ∷ []) _ sb.2 sb.1 one in
    let three = added _ d _ (codes "line") _ sd.2 sd.1 two in
    let four = added _ e _ (58 ∷ 32 ∷ []) _ se.2 se.1 three in
    let five = added _ f _ (decimal line) _ sf.2 sf.1 four in
    let six = added _ g _ (44 ∷ 32 ∷ []) _ sg.2 sg.1 five in
    let seven = added _ h _ (codes "column") _ sh.2 sh.1 six in
    let eight = added _ i _ (58 ∷ 32 ∷ []) _ si.2 si.1 seven in
    let nine = added _ j _ (decimal column) _ sj.2 sj.1 eight in
    sym end ∙ nine ∙ simp append_assoc

pub place_bytes : {A : Type 0} (prints : A → List ℕ → Type 0) (line column : ℕ) (bytes : List ℕ) → IsTextOf prints (whole.SrcPos sources.InMemory line column) bytes
    → bytes ≡ place_text line column
place_bytes prints line column bytes h =
    tokens_are prints line column bytes (subst (λ (ts : List (Token _)). AddsTokens prints [] ts bytes) (place_is line column) h)
