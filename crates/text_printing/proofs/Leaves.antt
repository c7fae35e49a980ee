-- What printing a leaf adds.
use Rattle.std.proofs.Common.{◌≡◌, ℕ, List, ◌∷◌, ◌++◌, String, string_bytes, chars, encode_utf8_all, refl, sym, ap, ◌∙◌, subst}
use Rattle.std.specs.Prelude.{Option}
use Rattle.std.specs.Global.{Global}
use Rattle.std.specs.Fmt.{decimal}
use Rattle.ir_names.specs.declared.kinds.Signedness.{Signedness}
use Rattle.ir_print.specs.declared.format.LeafValue.{LeafValue}
use Rattle.ir_print.specs.declared.format.LeafValue.TheVariants as read
use Rattle.ir_print.specs.declared.format.Number.{Number}
use Rattle.ir_print.specs.Formats as step
use Rattle.ir_print.specs.Formats.{Step}
use Rattle.ir_print.specs.Layout.{Chunk, token, quotation, in_quotes, spell, leaf_on, number_text, width_text, mark_text}
use Rattle.ir_print.specs.Pieces.{name, number, unsigned, width, quoted, mark}
use Rattle.text_printing.specs.Printing.{AddsText, AddsLeaf, AddsMark, AddsNumber, AddsUnsigned, AddsWidth, sign_of}
use Rattle.text_printing.proofs.Owed.{wrote}

spelled : (s : Step) (c : Chunk) (rest : List Chunk) → spell (leaf_on s c rest) ≡ sign_of s ++ spell (c ∷ rest)
spelled step.symbol_name c rest = refl
spelled _ c rest = refl

-- The sign is written from `old` to `mid`, and the leaf behind it.
module _ (s : Step) (old mid new : List ℕ) (sign : mid ≡ old ++ sign_of s) where
  chunk_added : (c : Chunk) (cs : List ℕ) (rest : List Chunk) → spell (c ∷ rest) ≡ cs ++ spell rest → new ≡ mid ++ cs → AddsText old new rest (leaf_on s c rest)
  chunk_added c cs rest is e =
      wrote mid new cs (spell rest) e ∙ ap (λ t. mid ++ t) (sym is) ∙ wrote old mid (sign_of s) (spell (c ∷ rest)) sign ∙ ap (λ t. old ++ t) (sym (spelled s c rest))

  text_added : (cs : List ℕ) (rest : List Chunk) → new ≡ mid ++ cs → AddsText old new rest (leaf_on s (token cs) rest)
  text_added cs rest e = chunk_added (token cs) cs rest refl e

  number_added : (o : Option Number) → AddsNumber o mid new → AddsLeaf s (read.Number o) old new
  number_added o e (number negative magnitude) rest h k = text_added (number_text negative magnitude) rest (e negative magnitude h k)
  number_added o e (name cs) rest h k = absurd h
  number_added o e (unsigned magnitude) rest h k = absurd h
  number_added o e (width shown bits) rest h k = absurd h
  number_added o e (quoted cs) rest h k = absurd h
  number_added o e (mark n) rest h k = absurd h

  pub number_printed : (l : LeafValue) (o : Option Number) → l ≡ read.Number o → AddsNumber o mid new → AddsLeaf s l old new
  number_printed l o q e = subst (λ k. AddsLeaf s k old new) (sym q) (number_added o e)

  unsigned_added : (o : Option ℕ) → AddsUnsigned o mid new → AddsLeaf s (read.Digits o) old new
  unsigned_added o e (unsigned magnitude) rest h k = text_added (decimal magnitude) rest (e magnitude h k)
  unsigned_added o e (name cs) rest h k = absurd h
  unsigned_added o e (number negative magnitude) rest h k = absurd h
  unsigned_added o e (width shown bits) rest h k = absurd h
  unsigned_added o e (quoted cs) rest h k = absurd h
  unsigned_added o e (mark n) rest h k = absurd h

  pub unsigned_printed : (l : LeafValue) (o : Option ℕ) → l ≡ read.Digits o → AddsUnsigned o mid new → AddsLeaf s l old new
  unsigned_printed l o q e = subst (λ k. AddsLeaf s k old new) (sym q) (unsigned_added o e)

  width_added : (made : Signedness) (o : Option ℕ) → AddsWidth made o mid new → AddsLeaf s (read.Width made o) old new
  width_added made o e (width shown bits) rest h k =
      text_added (width_text shown bits) rest (e bits h.1 k ∙ ap (λ t. mid ++ width_text t bits) h.0)
  width_added made o e (name cs) rest h k = absurd h
  width_added made o e (unsigned magnitude) rest h k = absurd h
  width_added made o e (number negative magnitude) rest h k = absurd h
  width_added made o e (quoted cs) rest h k = absurd h
  width_added made o e (mark n) rest h k = absurd h

  pub width_printed : (l : LeafValue) (made : Signedness) (o : Option ℕ) → l ≡ read.Width made o → AddsWidth made o mid new → AddsLeaf s l old new
  width_printed l made o q e = subst (λ k. AddsLeaf s k old new) (sym q) (width_added made o e)

  quoted_added : (string : String Global) → new ≡ mid ++ encode_utf8_all (in_quotes (chars (string_bytes string))) → AddsLeaf s (read.Text string) old new
  quoted_added string e (quoted cs) rest h k = chunk_added (quotation cs) (encode_utf8_all (in_quotes cs)) rest refl (e ∙ ap (λ t. mid ++ encode_utf8_all (in_quotes t)) h)
  quoted_added string e (name cs) rest h k = absurd h
  quoted_added string e (unsigned magnitude) rest h k = absurd h
  quoted_added string e (number negative magnitude) rest h k = absurd h
  quoted_added string e (width shown bits) rest h k = absurd h
  quoted_added string e (mark n) rest h k = absurd h

  pub quoted_printed : (l : LeafValue) (string : String Global) → l ≡ read.Text string → new ≡ mid ++ encode_utf8_all (in_quotes (chars (string_bytes string))) → AddsLeaf s l old new
  quoted_printed l string q e = subst (λ k. AddsLeaf s k old new) (sym q) (quoted_added string e)

  mark_added : (o : Option ℕ) → AddsMark o mid new → AddsLeaf s (read.Mark o) old new
  mark_added o e (mark n) rest h k = text_added (mark_text n) rest (e n h k)
  mark_added o e (name cs) rest h k = absurd h
  mark_added o e (number negative magnitude) rest h k = absurd h
  mark_added o e (unsigned magnitude) rest h k = absurd h
  mark_added o e (width shown bits) rest h k = absurd h
  mark_added o e (quoted cs) rest h k = absurd h

  pub mark_printed : (l : LeafValue) (o : Option ℕ) → l ≡ read.Mark o → AddsMark o mid new → AddsLeaf s l old new
  mark_printed l o q e = subst (λ k. AddsLeaf s k old new) (sym q) (mark_added o e)
