-- A text taken apart.
use Rattle.std.specs.Prelude.{◌≡◌, ℕ, List, map}
use Rattle.ir_characters.specs.Texts.{owned_codes}
use Rattle.ir_tokens.specs.declared.tokens.Token.{Token}
use Rattle.ir_tokens.specs.Tokens.{ReadsAs}
use Rattle.text_marking.specs.Marks.{marks_of, token_characters, without_marks}
use Rattle.text_marking.specs.Taking.{TakesMarks}
use Rattle.outlined_texts.specs.declared.splitting.OutlinedText.{OutlinedText}
use Rattle.outlined_texts.specs.Sections.{front_of, section_of, tokens_before}

-- The text has these tokens, by which its section begins where is said. What is before that has the tokens before it, and
-- its marks were taken.
pub record IsSplit (cs : List ℕ) (split : OutlinedText) : Type 0 where
  pub tokens : List Token
  pub reads : ReadsAs cs 0 tokens
  pub section : split.section ≡ section_of cs tokens
  pub before : ReadsAs (front_of split.section cs) 0 (tokens_before split.section tokens)
  pub taken : TakesMarks (front_of split.section cs) (record { bare = split.front; marks = split.marks })

-- The parts of a text that has these tokens have those before its section: the marks are the marks among them, and the front
-- has the others, each where it was and with the same kind and characters.
pub record KeepsTokens (cs : List ℕ) (ts : List Token) (split : OutlinedText) : Type 0 where
  pub marks : split.marks.items ≡ marks_of cs (tokens_before split.section ts)
  pub tokens : ReadsAs (owned_codes split.front) 0 (without_marks (tokens_before split.section ts))
  pub characters : map (token_characters (owned_codes split.front)) (without_marks (tokens_before split.section ts))
      ≡ map (token_characters cs) (without_marks (tokens_before split.section ts))
