-- What tests of handles tell.
use Rattle.std.proofs.Common.{◌≡◌, ◌≢◌, ⊎_elim, Bool, true, false, eqb, ◌&&◌, sym, ap, ◌∙◌}
use Rattle.ir_program.specs.Handles.{handle}
use Rattle.ir_program.specs.declared.handles.Ptr.{Ptr}
use Rattle.ir_program.specs.declared.handles.BasicBlock.{BasicBlock}
use Rattle.ir_program.proofs.made.Frames.{same_handle, same_or_not}
use Rattle.ir_trees.proofs.HandleTests.{block_yes, block_no}

abbrev as_block : {E : Type 0} → Ptr E → Ptr BasicBlock
as_block p = handle p.key

module _ {E : Type 0} (p q : Ptr E) (is : Bool) (says : is ≡ (eqb p.key.slot q.key.slot && eqb p.key.version q.key.version)) where
  -- the handles are the same where the test says so, and only there
  pub same_yes : is ≡ true → p ≡ q
  same_yes h = ⊎_elim
      (λ e. same_handle p q (ap (λ (x : Ptr BasicBlock). x.key) e))
      (λ ne. let f : true ≡ false = sym h ∙ says ∙ block_no (as_block p) (as_block q) ne in cc)
      (same_or_not (as_block p) (as_block q))

  pub yes_same : p ≡ q → is ≡ true
  yes_same e = says ∙ block_yes (as_block p) (as_block q) (ap as_block e)

  pub not_same : is ≡ false → p ≢ q
  not_same h e = let t : true ≡ false = sym (yes_same e) ∙ h in cc
