-- From a layout of a tree back to the tree.
use Rattle.std.proofs.Common.{◌≡◌, ℕ, ◌<◌, ◌^◌, List, [], ◌∷◌, ◌++◌, length, chars, sym, ap, subst, ◌∙◌, arith}
use Rattle.std.proofs.lemmas.Str.{length-le-encodes, encodes-chars}
use Rattle.std.specs.Prelude.{IsUtf8}
use Rattle.ir_print.specs.Pieces.{Entity}
use Rattle.ir_print.specs.Layout.{spell}
use Rattle.ir_print.specs.Printed.{value_name}
use Rattle.ir_grammar.specs.declared.grammar.Grammar.{Grammar}
use Rattle.ir_forest.specs.Closed.{IsClosedTree, IsNumbered, IsSameModule}
use Rattle.ir_rereading.specs.Printable.{IsLayoutOf, CanPrint}
use Rattle.ir_rereading.specs.Texts.{Says}
use Rattle.ir_formats.specs.Rules.{IsGrammarOf}
use Rattle.ir_forest.specs.Language.{Language}
use Rattle.ir_rereading.proofs.layouts.LayoutCharacters.{layout_chunks}
use Rattle.ir_rereading.proofs.layouts.LayoutPlain.{printed_bare}
use Rattle.ir_rereading.proofs.layouts.LayoutTokens.{layout_coded}
use Rattle.ir_rereading.proofs.layouts.Marks.{chunks, characters, marks, IsSpelt}
use Rattle.ir_rereading.proofs.layouts.PrintedDefinitions.{printed_spelt}
use Rattle.ir_rereading.proofs.ReadBack.{read_again}
use Rattle.ir_rereading.proofs.trees.TreeClosed.{closed_renamed}

module _ (l : Language) (can : CanPrint l) (tree : Entity ℕ) (text : List ℕ) (closed : IsClosedTree l tree) (of : IsLayoutOf l.formats tree text) where
  abbrev ν : ℕ → List ℕ
  ν n = value_name (of.number n)

  there : IsClosedTree l of.printed
  there = closed_renamed ν of.label l tree of.printed closed of.named (printed_bare ν of.label of.printed tree of.named closed.bare)

  spelt : IsSpelt of.printed
  spelt = printed_spelt of.number of.small of.label of.printed tree of.named of.blocks there.edges

  same_bytes : text ++ 10 ∷ [] ≡ spell (chunks (marks l.formats of.printed)) ++ 10 ∷ []
  same_bytes = ap (λ cs. cs ++ 10 ∷ []) (of.spelt ∙ ap spell (sym (layout_chunks l.formats of.printed)))

  coded : IsUtf8 (text ++ 10 ∷ []) × (chars (text ++ 10 ∷ []) ≡ characters (marks l.formats of.printed) ++ 10 ∷ [])
  coded =
      subst (λ bs. IsUtf8 bs × (chars bs ≡ characters (marks l.formats of.printed) ++ 10 ∷ [])) (sym same_bytes)
      (layout_coded l.formats l.values of.printed can.printable there.fits spelt)

  -- there are no more characters than bytes
  few_characters : length (text ++ 10 ∷ []) < 2 ^ 63 → length (characters (marks l.formats of.printed) ++ 10 ∷ []) < 2 ^ 63
  few_characters few =
      let some = length-le-encodes (chars (text ++ 10 ∷ [])) in
      let bytes = ap length (encodes-chars (text ++ 10 ∷ []) coded.0) in
      let same = ap length coded.1 in
      omega (arith, few, some, bytes, same)

  -- A text of a closed tree says a tree that is the same.
  pub text_again : IsNumbered tree → (g : Grammar) → IsGrammarOf l.formats g → length (text ++ 10 ∷ []) < 2 ^ 63 → (again : Entity ℕ) × Says l (chars (text ++ 10 ∷ [])) again × IsSameModule again tree
  text_again numbered g known few =
      subst (λ cs. (again : Entity ℕ) × Says l cs again × IsSameModule again tree) (sym coded.1)
      (read_again l can.leads can.ordered can.printable can.outer g known tree of.printed ν of.label closed numbered of.named of.distinct spelt of.labelled (few_characters few))

  -- Its bytes are UTF-8.
  pub text_bytes : IsUtf8 (text ++ 10 ∷ [])
  text_bytes = coded.0
