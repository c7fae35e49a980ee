-- A section put behind a text.
use Rattle.std.specs.Prelude.{◌≡◌, ℕ, Bool, true, false, List, [], ◌∷◌, Some, None}
use Rattle.std.specs.List.{list_any}
use Rattle.ir_tokens.specs.declared.tokens.Token.{Token}
use Rattle.ir_tokens.specs.Tokens.{is_bad, ReadsAs}
use Rattle.outlined_texts.specs.Sections.{begins_with_colon, braces_behind, holds_name, section_behind, section_of}

-- how many braces are open behind some tokens, where so many are before them
abbrev pub depth_behind : ℕ → List Token → ℕ
depth_behind depth [] = depth
depth_behind depth (t ∷ ts) = depth_behind (braces_behind depth t.kind) ts

-- whether the last of some tokens holds a name, or the one before them where there are none
abbrev pub held_behind : Bool → List Token → Bool
held_behind held [] = held
held_behind held (t ∷ ts) = held_behind (holds_name t.kind) ts

-- The text has these tokens, one at least, none of which is bad. It has no section, its braces are closed, and it doesn't end in
-- `@` or `,`.
pub record IsWithoutSection (cs : List ℕ) (ts : List Token) : Type 0 where
  pub reads : ReadsAs cs 0 ts
  pub good : list_any (λ t. is_bad t.kind) ts ≡ false
  pub none : section_of cs ts ≡ None
  pub closed : depth_behind 0 ts ≡ 0
  pub free : held_behind true ts ≡ false

-- The text, which begins with a line feed (10) and then these characters, has these tokens, and behind a token of another text its
-- section begins behind the line feed.
pub record IsSectionText (more : List ℕ) (us : List Token) : Type 0 where
  pub reads : ReadsAs (10 ∷ more) 0 us
  pub begins : section_behind (10 ∷ more) 0 false us ≡ Some 1
  pub no_colon : begins_with_colon us ≡ false
