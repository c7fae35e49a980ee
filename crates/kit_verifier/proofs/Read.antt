-- What a program says of an operation is what its tree says of it.
use Rattle.std.proofs.Common.{◌≡◌, ◌↔◌, ℕ, Bool, List, Some, IsTrue, option_map, option_and_then, sym, ap, ◌∙◌, subst}
use Rattle.ir_program.specs.Lent.{payload_at}
use Rattle.ir_program.specs.Program.{Program, OperationView}
use Rattle.ir_program.specs.declared.handles.Ptr.{Ptr}
use Rattle.ir_program.specs.declared.handles.Operation.{Operation}
use Rattle.ir_names.specs.Dictionary.{attribute_at}
use Rattle.ir_trees.specs.Stands.{ProgramTree, StandsFor}
use Rattle.kit_ops.specs.declared.attributes.keys.TheConstants.{SYMBOL_NAME}
use Rattle.kit_ops.specs.declared.kinds.KitOp.{KitOp}
use Rattle.kit_checks.specs.Words.{attribute_of, identifier_in, kind_of, symbol_name, type_in}
use Rattle.kit_checks.specs.World.{World}
use Rattle.kit_verifier.specs.Reading.{kind_at, name_at, text_under, type_under}

module _ {O B : Type 0} (w : World O B) (c : Program O B) (op : Ptr Operation) (u : ProgramTree O B) (s : StandsFor c op u) where
  carried : payload_at c op ≡ Some u.head.content
  carried = ap (option_map (λ (v : OperationView O). v.payload)) s.there ∙ ap Some (sym (ap (λ h. h.content) s.head))

  pub kind_is : kind_at w c op ≡ Some (kind_of w u)
  kind_is = ap (option_map w.kind) carried

  pub kind_from : (k : KitOp) → kind_at w c op ≡ Some k → kind_of w u ≡ k
  kind_from k h = let e : Some (kind_of w u) ≡ Some k = sym kind_is ∙ h in cc

  pub text_is : (key : List ℕ) → text_under w c key op ≡ option_and_then identifier_in (attribute_of w u key)
  text_is key = ap (option_and_then (λ o. option_and_then identifier_in (attribute_at (w.attributes o) key))) carried

  pub type_is : (key : List ℕ) → type_under w c key op ≡ option_and_then type_in (attribute_of w u key)
  type_is key = ap (option_and_then (λ o. option_and_then type_in (attribute_at (w.attributes o) key))) carried

  pub name_is : name_at w c op ≡ symbol_name w u
  name_is = text_is SYMBOL_NAME.now

  -- a test of its kind
  pub kind_tells : (k m : KitOp) (is : Bool) → kind_at w c op ≡ Some k → IsTrue is ↔ (k ≡ m) → IsTrue is ↔ (kind_of w u ≡ m)
  kind_tells k m is here tells = subst (λ z. IsTrue is ↔ (z ≡ m)) (sym (kind_from k here)) tells
