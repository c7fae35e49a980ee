-- What the test of two nodes says.
use Rattle.std.proofs.Common.{◌≡◌, Bool, true, false, ⊎_elim, refl, sym, ap, ◌∙◌}
use Rattle.ir_program.specs.Handles.{handle}
use Rattle.ir_program.specs.Replacing.{same_block}
use Rattle.ir_program.specs.contracts.handles.IRNodePartialEq.TheImpl.{eq-value}
use Rattle.ir_program.specs.declared.handles.BasicBlock.{BasicBlock}
use Rattle.ir_program.specs.declared.handles.IRNode.{IRNode}
use Rattle.ir_program.specs.declared.handles.IRNode.TheVariants.{Operation as OperationNode, Region as RegionNode, BasicBlock as BlockNode}
use Rattle.ir_program.specs.declared.handles.Ptr.{Ptr}
use Rattle.ir_program.proofs.made.Frames.{same_or_not, same_handle}
use Rattle.ir_program.proofs.used.Renaming.{block-test}

-- handles of one kind as handles of blocks
abbrev as_block : {E : Type 0} → Ptr E → Ptr BasicBlock
as_block p = handle p.key

test_same : {E : Type 0} (p q : Ptr E) → same_block (as_block p) (as_block q) ≡ true → p ≡ q
test_same p q h = ⊎_elim
    (λ e. e)
    (λ ne. let f = block-test.no (as_block p) (as_block q) (λ s. ne (same_handle p q (ap (λ (x : Ptr BasicBlock). x.key) s))) in let t : true ≡ false = sym h ∙ f in cc)
    (same_or_not p q)

node_same : (a b : IRNode) → eq-value.it a b ≡ true → a ≡ b
node_same (OperationNode p) (OperationNode q) h = ap OperationNode (test_same p q h)
node_same (BlockNode p) (BlockNode q) h = ap BlockNode (test_same p q h)
node_same (RegionNode p) (RegionNode q) h = ap RegionNode (test_same p q h)
node_same (OperationNode p) (BlockNode q) h = let f : false ≡ true = h in cc
node_same (OperationNode p) (RegionNode q) h = let f : false ≡ true = h in cc
node_same (BlockNode p) (OperationNode q) h = let f : false ≡ true = h in cc
node_same (BlockNode p) (RegionNode q) h = let f : false ≡ true = h in cc
node_same (RegionNode p) (OperationNode q) h = let f : false ≡ true = h in cc
node_same (RegionNode p) (BlockNode q) h = let f : false ≡ true = h in cc

node_own : (a : IRNode) → eq-value.it a a ≡ true
node_own (OperationNode p) = block-test.yes (as_block p) (as_block p) refl
node_own (BlockNode p) = block-test.yes (as_block p) (as_block p) refl
node_own (RegionNode p) = block-test.yes (as_block p) (as_block p) refl

module _ (a b : IRNode) (is : Bool) (says : is ≡ eq-value.it a b) where
  pub nodes_equal : is ≡ true → a ≡ b
  nodes_equal h = node_same a b (sym says ∙ h)

  pub nodes_differ : is ≡ false → a ≡ b → ⊥
  nodes_differ h same = let no : true ≡ false = sym (node_own a) ∙ ap (eq-value.it a) same ∙ sym says ∙ h in cc
