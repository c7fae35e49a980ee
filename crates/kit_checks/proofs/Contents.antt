-- What an operation or a block carries is what its tree says it carries.
use Rattle.std.proofs.Common.{◌≡◌, Some, option_map, sym, ap, ◌∙◌}
use Rattle.ir_program.specs.Lent.{payload_at, block_payload_at}
use Rattle.ir_program.specs.Program.{Program, OperationView, BlockView}
use Rattle.ir_program.specs.declared.handles.Ptr.{Ptr}
use Rattle.ir_program.specs.declared.handles.Operation.{Operation}
use Rattle.ir_program.specs.declared.handles.BasicBlock.{BasicBlock}
use Rattle.ir_trees.specs.Stands.{ProgramTree, StandsFor}
use Rattle.kit_checks.specs.Located.{IsBody}
use Rattle.kit_checks.specs.Sites.{Body}

module _ {O B : Type 0} (c : Program O B) where
  pub content_is : {X : Type 0} (op : Ptr Operation) (u : ProgramTree O B) (s : StandsFor c op u) (f : O → X) (x : X) → option_map f (payload_at c op) ≡ Some x → f u.head.content ≡ x
  content_is op u s f x h =
      let e : Some (f s.view.payload) ≡ Some x = sym (ap (λ o. option_map f (option_map (λ (v : OperationView O). v.payload) o)) s.there) ∙ h in
      let same : f s.view.payload ≡ x = cc in
      ap (λ h. f h.content) s.head ∙ same

  pub label_is : (block : Ptr BasicBlock) (b : Body O B) (s : IsBody c block b) (x : B) → block_payload_at c block ≡ Some x → b.label.content ≡ x
  label_is block b s x h =
      let e : Some s.view.payload ≡ Some x = sym (ap (option_map (λ (v : BlockView B). v.payload)) s.there) ∙ h in
      let same : s.view.payload ≡ x = cc in
      ap (λ l. l.content) s.label ∙ same
