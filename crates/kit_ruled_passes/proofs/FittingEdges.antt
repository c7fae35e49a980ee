-- Edges of a tree forward as many operands as the blocks that they lead to have arguments.
use Rattle.std.proofs.Common.{◌≡◌, ℕ, suc, ◌<◌, true, List, [], ◌∷◌, map, length, Some, slice_get}
use Rattle.std.proofs.Common.{refl, sym, ap, ◌∙◌, subst}
use Rattle.std.proofs.lemmas.List.{length-map}
use Rattle.ir_program.specs.Program.{TypedValue, arguments_at}
use Rattle.ir_program.specs.declared.handles.Operation.{Operation}
use Rattle.ir_program.specs.declared.handles.Ptr.{Ptr}
use Rattle.ir_trees.specs.Renames.{names_of}
use Rattle.ir_trees.specs.Stands.{ProgramHead, ProgramLabel}
use Rattle.kit.specs.Context.{KitProgram}
use Rattle.opt_inside.specs.Edges.{FitsEdgesBelow}
use Rattle.opt_inside.specs.Occurring.{IsOccurrence, IsBlockOccurrence}
use Rattle.opt_inside.proofs.Among.{arguments_are}
use Rattle.opt_trees.specs.Facts.{forwarded}
use Rattle.opt_trees.specs.Occurrences.{cons_if, picks}
use Rattle.kit.specs.Lawful.{kit_lawful}
use Rattle.kit.specs.Meaning.{KitOperation, KitBlock, kit}
use Rattle.kit_views.proofs.Forwarded.{get_there}
use Rattle.kit_ruled_passes.proofs.ScopeUses.{KitOccurrence, KitBlockOccurrence}

picks_length : {X : Type 0} (xs : List X) (is : List ℕ)
    → ((k j : ℕ) → slice_get is k ≡ Some j → j < length xs) → length (picks xs is) ≡ length is
picks_length xs [] within = refl
picks_length xs (i ∷ is) within =
    let y = get_there xs i (within 0 i refl) in
    ap (λ o. length (cons_if o (picks xs is))) y.1 ∙ ap suc (picks_length xs is (λ k. within (suc k)))

module _ (c : KitProgram) (root : Ptr Operation) (fits : FitsEdgesBelow kit c root) where
  pub edge_fits : (o : KitOccurrence) (y : KitBlockOccurrence) (i : ℕ) → IsOccurrence c root o
      → IsBlockOccurrence c root y → kit.is_branch o.head.content ≡ true
      → slice_get o.head.successors i ≡ Some y.label.name
      → length (forwarded kit o.head i) ≡ length (names_of y.label.arguments)
  edge_fits o y i at to branch leads =
      let h = o.head in
      let picked = picks_length h.operands (kit.forwards h.content (length h.operands) i)
      (λ k j g. kit_lawful.forwards_within h.content (length h.operands) i k j g) in
      let many = fits h.name at.view i y.label.name at.below at.there
      (subst (λ (z : ProgramHead KitOperation KitBlock). kit.is_branch z.content ≡ true) at.head branch)
      (subst (λ (z : ProgramHead KitOperation KitBlock). slice_get z.successors i ≡ Some y.label.name) at.head leads) in
      let forwards : length (kit.forwards h.content (length h.operands) i) ≡ length (arguments_at c y.label.name) =
      ap (λ (z : ProgramHead KitOperation KitBlock). length (kit.forwards z.content (length z.operands) i)) at.head
      ∙ many in
      let names : names_of y.label.arguments ≡ map (λ (t : TypedValue). t.value) (arguments_at c y.label.name) =
      ap (λ (z : ProgramLabel KitOperation KitBlock). names_of z.arguments) to.label
      ∙ arguments_are c y.label.name to.view to.there in
      picked ∙ forwards
      ∙ sym (length-map (arguments_at c y.label.name) (λ (t : TypedValue). t.value)) ∙ sym (ap length names)
