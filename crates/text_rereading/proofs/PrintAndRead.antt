-- From a context to its text, and back to its tree.
use Rattle.std.proofs.Common.{◌≡◌, ℕ, ◌<◌, ◌^◌, List, [], ◌∷◌, ◌++◌, length, chars, refl, sym, subst}
use Rattle.std.specs.Prelude.{IsUtf8}
use Rattle.ir_forest.specs.Closed.{IsClosedTree, IsNumbered, IsSameModule, unlabelled}
use Rattle.ir_forest.specs.Language.{Language}
use Rattle.ir_forest.specs.Meaning.{renamed}
use Rattle.ir_formats.specs.Rules.{IsGrammarOf}
use Rattle.ir_grammar.specs.declared.grammar.Grammar.{Grammar}
use Rattle.ir_print.specs.Pieces.{Entity}
use Rattle.ir_print.specs.Shapes.{SaysTypes, SaysAttributes, SaysOperations}
use Rattle.ir_print.specs.Shown.{Saying}
use Rattle.ir_program.specs.declared.handles.Ptr.{Ptr}
use Rattle.ir_program.specs.declared.handles.Operation.{Operation}
use Rattle.ir_rereading.proofs.layouts.LayoutPlain.{printed_bare}
use Rattle.ir_rereading.proofs.PrintAndRead.{text_again, text_bytes}
use Rattle.ir_rereading.proofs.ReadClosed.{read_closed}
use Rattle.ir_rereading.proofs.trees.TreeClosed.{closed_renamed}
use Rattle.ir_rereading.specs.Printable.{CanPrint, IsLayoutOf}
use Rattle.ir_rereading.specs.Texts.{Says}
use Rattle.text_dialect.specs.Printed.{IsBlockName}
use Rattle.text_dialect.specs.Seen.{Seen}
use Rattle.text_dialect.specs.Standing.{Naming, HasOwnLabel, StandsForTexts}
use Rattle.text_rereading.proofs.Definitions.{tree_names}
use Rattle.text_rereading.proofs.Fits.{tree_fits}
use Rattle.text_rereading.proofs.Labels.{labelled_tree}
use Rattle.text_rereading.proofs.NamedTrees.{number_at, number_small, name_at, block_name_at, named_tree}
use Rattle.text_rereading.specs.Places.{itself, AreSmallInside, HasOwnPlaces}
use Rattle.text_rereading.specs.Rereading.{Numbering, Named, IsPrinted, IsPrintedAs}

-- The tree of a text, for which an operation stands, is closed, and its definitions are numbered.
pub stood_closed : {K A T : Type 0} (l : Language) → CanPrint l → (says : Saying K A T)
    → SaysTypes says l.formats l.values → SaysAttributes says l.formats l.values
    → SaysOperations says l.formats l.values
    → (Named : Naming ℕ) (s : Seen K A T) (p : Ptr Operation) (cs : List ℕ) (tree : Entity ℕ)
    → Says l cs tree → StandsForTexts says Named s p tree → IsClosedTree l tree × IsNumbered tree
stood_closed l can says types attributes operations Named s p cs tree said stands =
    let known = read_closed l can.leads can.ordered can.depth can.bare cs tree said in (
      record {
        operation = known.operation;
        fits = tree_fits says l.formats l.values types attributes operations Named HasOwnLabel s tree p stands;
        scoped = known.scoped;
        edges = known.edges;
        isolated = known.isolated;
        shallow = known.shallow;
        bare = known.bare;
      },
      known.numbered,
    )

-- An operation that stands for a closed tree is printed as a text of it.
pub stood_printed : {K A T : Type 0} (l : Language) (says : Saying K A T) (s : Seen K A T) (p : Ptr Operation)
    (numbering : Numbering) (tree : Entity ℕ) → HasOwnPlaces s → StandsForTexts says (Named numbering) s p tree
    → AreSmallInside s p → IsClosedTree l tree → IsPrintedAs l says s p tree
stood_printed l says s p numbering tree places stands small closed =
    let named = named_tree says HasOwnLabel s numbering p small tree p itself closed.edges stands in
    let labels = labelled_tree says (Named numbering) s places p small tree named.0 p itself stands named.1 in
    let name = name_at numbering.values in
    let label = block_name_at s numbering.blocks in
    let same : unlabelled named.0 ≡ unlabelled (renamed name label tree) = named.2 in
    let there =
    closed_renamed name label l tree named.0 closed same
    (printed_bare name label named.0 tree same closed.bare) in
    record {
      printed = named.0;
      prints = named.1;
      shallow = there.shallow;
      laid_out = record {
        number = number_at numbering.values;
        small = number_small numbering.values;
        label = label;
        printed = named.0;
        named = same;
        distinct = (tree_names says IsBlockName s places p small named.0 p itself named.1).0;
        blocks = labels.0;
        labelled = labels.1;
        spelt = refl;
      };
    }

module _ {K A T : Type 0} (l : Language) (says : Saying K A T) (s : Seen K A T) (p : Ptr Operation)
    (numbering : Numbering) (tree : Entity ℕ) (text : List ℕ)
    (places : HasOwnPlaces s) (stands : StandsForTexts says (Named numbering) s p tree) (small : AreSmallInside s p)
    (closed : IsClosedTree l tree)
    (is_printed : IsPrinted l.formats says s p text) where
  -- What is printed is a layout of the tree.
  pub printed_layout : IsLayoutOf l.formats tree text
  printed_layout =
      let print = stood_printed l says s p numbering tree places stands small closed in
      subst (IsLayoutOf l.formats tree) (sym (is_printed print.printed print.prints print.shallow)) print.laid_out

  module _ (can : CanPrint l) where
    -- Its bytes are UTF-8.
    pub printed_bytes : IsUtf8 (text ++ 10 ∷ [])
    printed_bytes = text_bytes l can tree text closed printed_layout

    -- It is read again as the same module.
    pub printed_again : IsNumbered tree → (g : Grammar) → IsGrammarOf l.formats g → length (text ++ 10 ∷ []) < 2 ^ 63
        → (again : Entity ℕ) × Says l (chars (text ++ 10 ∷ [])) again × IsSameModule again tree
    printed_again numbered g known few = text_again l can tree text closed printed_layout numbered g known few
