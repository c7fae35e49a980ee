-- Texts into which marks may be put, and behind which a section may be.
use Rattle.std.specs.Prelude.{◌≡◌, ℕ, ◌==◌, ◌&&◌, true, false, List, [], ◌∷◌}
use Rattle.std.specs.List.{list_any}
use Rattle.ir_tokens.specs.declared.tokens.Token.{Token}
use Rattle.ir_tokens.specs.Tokens.{is_bad, ReadsAs}
use Rattle.outlined_texts.specs.Appended.{depth_behind, held_behind}
use Rattle.outlined_texts.specs.Sections.{braces_behind, is_section_name}
use Rattle.text_marking.specs.Marks.{marks_of}

-- none of these tokens, before which so many braces are open, is the section's name outside all braces
abbrev pub IsWithoutWord : List ℕ → ℕ → List Token → Type 0
IsWithoutWord cs depth [] = Unit {0}
IsWithoutWord cs depth (t ∷ ts) = ((depth == 0 && is_section_name cs t) ≡ false) × IsWithoutWord cs (braces_behind depth t.kind) ts

-- The text has these tokens, one at least, none of which is a mark, or bad, or the section's name outside all braces. Its braces are closed,
-- and it doesn't end in `@` or `,`.
pub record CanOutline (cs : List ℕ) (ts : List Token) : Type 0 where
  pub reads : ReadsAs cs 0 ts
  pub bare : marks_of cs ts ≡ []
  pub good : list_any (λ t. is_bad t.kind) ts ≡ false
  pub no_word : IsWithoutWord cs 0 ts
  pub closed : depth_behind 0 ts ≡ 0
  pub free : held_behind true ts ≡ false
