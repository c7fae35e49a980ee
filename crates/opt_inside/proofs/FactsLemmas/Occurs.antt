-- What is found below the root of a tree is what is below it in the program.
use Rattle.std.specs.Prelude.{◌≡◌, ◌↔◌}
use Rattle.ir_program.specs.Program.{Program}
use Rattle.ir_program.specs.declared.handles.Ptr.{Ptr}
use Rattle.ir_program.specs.declared.handles.Operation.{Operation}
use Rattle.ir_program.specs.declared.handles.BasicBlock.{BasicBlock}
use Rattle.ir_program.specs.declared.handles.Value.{Value}
use Rattle.ir_trees.specs.Stands.{by_handle, in_program, ProgramTree, StandsFor}
use Rattle.opt_trees.specs.Occurrences.{Has, Occurrence, BlockOccurrence, occurrences_of, block_occurrences_of, defined_in, OperationsApart}
use Rattle.opt_inside.specs.Occurring.{IsBelowRoot, IsBlockBelow, IsBlockOccurrence, IsOccurrence, IsDefinedBelow, OfItsTree, EachFound, EachBlock, IsFound, IsBlockFound, BlockNamesApart, SiteIsFound, DefinesAllBelow}

pub record Occurs {O B : Type 0} (c : Program O B) (op : Ptr Operation) (t : ProgramTree O B) : Type 0 where
  pub sound : (o : Occurrence by_handle (in_program O B)) → Has o (occurrences_of t) → IsOccurrence c op o
  pub found : (p : Ptr Operation) → IsBelowRoot c op p → (o : Occurrence by_handle (in_program O B)) × Has o (occurrences_of t) × (o.head.name ≡ p)
  pub one : (o p : Occurrence by_handle (in_program O B)) → Has o (occurrences_of t) → Has p (occurrences_of t) → o.head.name ≡ p.head.name → o ≡ p
  pub blocks_sound : (x : BlockOccurrence by_handle (in_program O B)) → Has x (block_occurrences_of t) → IsBlockOccurrence c op x
  pub blocks_found : (b : Ptr BasicBlock) → IsBlockBelow c op b → (x : BlockOccurrence by_handle (in_program O B)) × Has x (block_occurrences_of t) × (x.label.name ≡ b)
  pub blocks_one : (x y : BlockOccurrence by_handle (in_program O B)) → Has x (block_occurrences_of t) → Has y (block_occurrences_of t) → x.label.name ≡ y.label.name → x ≡ y
  pub site : (o : Occurrence by_handle (in_program O B)) → Has o (occurrences_of t) → (x : BlockOccurrence by_handle (in_program O B)) × Has x (block_occurrences_of t) × (x.label ≡ o.site.label) × (x.spot ≡ o.site.spot)
  pub defined : (v : Value) → Has v (defined_in t.regions) ↔ IsDefinedBelow c op v

-- the law of what is found tells it of each tree that the operation stands for
pub occurs_by : {O B : Type 0} (c : Program O B) (op : Ptr Operation) → OfItsTree c op (λ t. EachFound t (IsOccurrence c op)) → OfItsTree c op (λ t. (p : Ptr Operation) → IsBelowRoot c op p → IsFound t p) → OfItsTree c op OperationsApart
    → OfItsTree c op (λ t. EachBlock t (IsBlockOccurrence c op)) → OfItsTree c op (λ t. (b : Ptr BasicBlock) → IsBlockBelow c op b → IsBlockFound t b) → OfItsTree c op (λ t. BlockNamesApart t)
    → OfItsTree c op (λ t. EachFound t (SiteIsFound c t)) → OfItsTree c op (λ t. DefinesAllBelow c op t.regions) → (t : ProgramTree O B) → StandsFor c op t → Occurs c op t
occurs_by c op sound found one blocks_sound blocks_found blocks_one site defined t stands = record {
  sound = sound t stands;
  found = found t stands;
  one = one t stands;
  blocks_sound = blocks_sound t stands;
  blocks_found = blocks_found t stands;
  blocks_one = blocks_one t stands;
  site = λ o h. let w = site t stands o h in (w.block, w.found, w.label, w.spot);
  defined = defined t stands;
}
