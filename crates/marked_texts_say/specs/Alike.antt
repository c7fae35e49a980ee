-- Texts that are alike.
use Rattle.std.specs.Prelude.{◌≡◌, ℕ, List, map}
use Rattle.ir_tokens.specs.declared.tokens.Token.{Token}
use Rattle.ir_tokens.specs.Tokens.{ReadsAs}
use Rattle.text_marking.specs.PutAndTaken.{kind_and_characters}

-- The two texts have these tokens, which have the same kinds and characters in order, wherever they are.
pub record AreAlike (cs : List ℕ) (ts : List Token) (ds : List ℕ) (us : List Token) : Type 0 where
  pub first : ReadsAs cs 0 ts
  pub second : ReadsAs ds 0 us
  pub same : map (kind_and_characters ds) us ≡ map (kind_and_characters cs) ts
