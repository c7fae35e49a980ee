-- What the tests of an operation say: whether none comes behind it, and whether its payload is a terminator's.
use Rattle.std.proofs.Common.{◌≡◌, Bool, true, false, not, Option, None, Some, is_some, option_map, refl, sym, ap, ◌∙◌}
use Rattle.std.proofs.lemmas.Option.{same_Some}
use Rattle.ir_program.specs.Program.{OperationView}

-- what `is_none` says of an option
none_from : {X : Type 0} (o : Option X) (b : Bool) → is_some o ≡ not b → b ≡ true → o ≡ None
none_from None b e t = refl
none_from (Some j) b e t = let wrong : true ≡ false = e ∙ ap not t in cc

pub no_next : {X : Type 0} (o r : Option X) (b : Bool) → r ≡ o → is_some r ≡ not b → b ≡ true → o ≡ None
no_next o r b same e t = sym same ∙ none_from r b e t

pub none_is : {X : Type 0} (o : Option X) (b : Bool) → is_some o ≡ not b → o ≡ None → b ≡ true
none_is o true e n = refl
none_is o false e n = let wrong : false ≡ true = ap is_some (sym n) ∙ e in cc

-- what a test of the payload says of the operation
module _ {O : Type 0} (f : O → Bool) where
  pub payload_passes : (o : Option (OperationView O)) (x : O) (r : Bool) → option_map (λ (v : OperationView O). v.payload) o ≡ Some x → r ≡ f x → r ≡ true → (v : OperationView O) × (o ≡ Some v) × (f v.payload ≡ true)
  payload_passes None x r here is t = cc
  payload_passes (Some v) x r here is t = (v, refl, ap f (same_Some v.payload x here) ∙ sym is ∙ t)

  pub passes_payload : (o : Option (OperationView O)) (x : O) (r : Bool) (v : OperationView O) → option_map (λ (v : OperationView O). v.payload) o ≡ Some x → r ≡ f x → o ≡ Some v → f v.payload ≡ true → r ≡ true
  passes_payload o x r v here is there t =
      let same : Some v.payload ≡ Some x = sym (ap (option_map (λ (v : OperationView O). v.payload)) there) ∙ here in
      is ∙ sym (ap f (same_Some v.payload x same)) ∙ t
