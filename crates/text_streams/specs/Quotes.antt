-- A text in quotes, at the front of a text.
use Rattle.std.specs.Prelude.{ℕ, ◌≡◌, ◌==◌, ◌||◌, List, [], ◌∷◌, ◌++◌, Option, None, Some, MatchOption, encode_utf8_all, if◌then◌else◌}
use Rattle.std.specs.String.{string_bytes}
use Rattle.std.specs.declared.string.String.{String}
use Rattle.std.specs.declared.alloc.Global.{Global}
use Rattle.text_streams.specs.declared.position.Position.{Position}
use Rattle.text_streams.specs.Positions.{LiesBehind}

-- What is said, and the characters that say it.
abbrev pub Said : Type 0
Said = List ℕ × List ℕ

-- that with a character before it, which these characters say
abbrev pub saying : ℕ → List ℕ → Option Said → Option Said
saying c cs None = None
saying c cs (Some said) = Some (c ∷ said.0, cs ++ said.1)

abbrev mutual
  -- What is said up to the closing `"` (34). A `\` (92) stands before a `"` or a `\` that is said, and before nothing else.
  pub said_in : List ℕ → Option Said
  said_in [] = None
  said_in (c ∷ cs) = if c == 34 then Some ([], c ∷ []) else (if c == 92 then said_behind cs else saying c (c ∷ []) (said_in cs))

  -- what is said behind a `\`
  pub said_behind : List ℕ → Option Said
  said_behind [] = None
  said_behind (c ∷ cs) = if c == 34 || c == 92 then saying c (92 ∷ c ∷ []) (said_in cs) else None

-- what a text in quotes says that begins here
abbrev pub quoted_text : List ℕ → Option Said
quoted_text [] = None
quoted_text (c ∷ cs) = if c == 34 then (elim (said_in cs) [ None ↦ None | Some said ↦ Some (said.0, 34 ∷ said.1) ]) else None

-- A text and the place behind it, or none: what is said from a place on, behind these bytes.
abbrev pub Answers : Option Said → List ℕ → Position → Option (String Global × Position) → Type 0
Answers None bytes from result = result ≡ None
Answers (Some said) bytes from result = MatchOption result ⊥ (λ r.
    (string_bytes r.0 ≡ bytes ++ encode_utf8_all said.0) × LiesBehind from r.1 said.1)
