-- What a leaf is spelled as is one token.
use Rattle.std.proofs.Common.{◌≡◌, ℕ, false, List, [], ◌∷◌, ◌++◌, map, refl, sym, subst, arith}
use Rattle.std.proofs.lemmas.List.{append-nil}
use Rattle.ir_print.specs.Layout.{number_text, width_text, mark_text, leaf_text}
use Rattle.ir_print.specs.Pieces.{Leaf, name, number, unsigned, width, quoted, mark}
use Rattle.ir_print.specs.Shapes.{IsInRange}
use Rattle.ir_tokens.specs.declared.tokens.Token.{Token}
use Rattle.ir_tokens.specs.Tokens.{ReadsAs}
use Rattle.ir_formats.specs.Words.{text_of}
use Rattle.ir_rereading.proofs.layouts.Lexemes.{Lexes, ended, ArePlaced, placed_all}
use Rattle.ir_rereading.proofs.layouts.LexedWords.{Follows, Opens, IsLexeme, lexeme_opens, quoted_opens, identifier_is, number_is, width_is, mark_is}

-- the end stops every token
at_end : Follows [] []
at_end = record { opens = record { read = ended; fresh = refl }; clean = refl }

-- a token alone
alone : (x : List ℕ) → Opens (x ++ []) (x ∷ []) → Lexes x (x ∷ [])
alone x o = subst (λ (cs : List ℕ). Lexes cs (x ∷ [])) (append-nil x) o.read

leaf_lexed : (x : Leaf) → IsInRange x → Lexes (leaf_text x) (leaf_text x ∷ [])
leaf_lexed (name cs) h = alone cs (lexeme_opens cs (identifier_is cs h) at_end)
leaf_lexed (number negative magnitude) h = alone (number_text negative magnitude) (lexeme_opens (number_text negative magnitude) (number_is negative magnitude h) at_end)
leaf_lexed (unsigned magnitude) h = alone (number_text false magnitude) (lexeme_opens (number_text false magnitude) (number_is false magnitude h) at_end)
leaf_lexed (width sign bits) h = alone (width_text sign bits) (lexeme_opens (width_text sign bits) (width_is sign bits h) at_end)
leaf_lexed (mark n) h = alone (mark_text n) (lexeme_opens (mark_text n) (mark_is n h) at_end)
leaf_lexed (quoted cs) h = alone (leaf_text (quoted cs)) (quoted_opens cs at_end)

-- one text is that of one token
one_token : (cs : List ℕ) (ts : List Token) (x : List ℕ) → ReadsAs cs 0 ts → map (text_of cs) ts ≡ x ∷ [] → (t : Token) × ReadsAs cs 0 (t ∷ []) × (text_of cs t ≡ x)
one_token cs [] x r e = cc
one_token cs (t ∷ []) x r e = (t, r, cc)
one_token cs (t ∷ u ∷ ts) x r e = cc

pub leaf_token : (x : Leaf) → IsInRange x → (t : Token) × ReadsAs (leaf_text x) 0 (t ∷ []) × (text_of (leaf_text x) t ≡ leaf_text x)
leaf_token x h = let placed = placed_all (leaf_lexed x h) in one_token (leaf_text x) placed.found (leaf_text x) placed.read placed.texts
