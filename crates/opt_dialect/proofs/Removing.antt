-- Whether a dialect lets arguments of a block go, by what is asked of the program.
use Rattle.std.proofs.Common.{◌≡◌, ℕ, Bool, true, false, List, [], Option, Some, None, refl, slice_get, option_map, unwrap_or, sym, ap, subst, ◌∙◌}
use Rattle.std.specs.Prelude.{◌↔◌, IsSome}
use Rattle.std.proofs.lemmas.Option.{same_Some}
use Rattle.ir_program.specs.Lent.{payload_at}
use Rattle.ir_program.specs.Lists.{StandsInRegion, StandsInOperation, regions_in, blocks_in}
use Rattle.ir_program.specs.Program.{Program, OperationView, operation_at}
use Rattle.ir_program.specs.declared.handles.Ptr.{Ptr}
use Rattle.ir_program.specs.declared.handles.Operation.{Operation}
use Rattle.ir_program.specs.declared.handles.BasicBlock.{BasicBlock}
use Rattle.ir_program.specs.declared.handles.Region.{Region}
use Rattle.ir_trees.specs.Stands.{in_program}
use Rattle.opt_trees.specs.Dialect.{Dialect}
use Rattle.opt_dialect.specs.Removable.{IsRemovable}

pub the_some : {X : Type 0} (o : Option X) → IsSome o → (x : X) × (o ≡ Some x)
the_some None h = cc
the_some (Some x) h = (x, refl)

pub same_truth : (x y : Bool) → (x ≡ true → y ≡ true) → (y ≡ true → x ≡ true) → x ≡ y
same_truth true y f h = sym (f refl)
same_truth false true f h = h refl
same_truth false false f h = refl

module _ {O B A : Type 0} (d : Dialect (in_program O B) A) (c : Program O B) where
  pub payload_is : (p : Ptr Operation) (v : OperationView O) (w : O) → payload_at c p ≡ Some w → operation_at c p ≡ Some v → v.payload ≡ w
  payload_is p v w h there = same_Some v.payload w (ap (option_map (λ (o : OperationView O). o.payload)) (sym there) ∙ h)

  regions_of : (p : Ptr Operation) (w : OperationView O) → operation_at c p ≡ Some w → regions_in c p ≡ w.regions
  regions_of p w h = ap (λ o. unwrap_or (option_map (λ (z : OperationView O). z.regions) o) []) h

  module _ (b : Ptr BasicBlock) (region : Ptr Region) (owner : Ptr Operation) (payload : O) (index : ℕ) (first : Bool)
      (in_region : StandsInRegion c b region)
      (in_operation : StandsInOperation c region owner)
      (carries : payload_at c owner ≡ Some payload)
      (indexed : (p : Ptr Operation) (k : ℕ) → slice_get (regions_in c p) k ≡ Some region → index ≡ k)
      (entry : (first ≡ true) ↔ (slice_get (blocks_in c region) 0 ≡ Some b)) where
    pub removable_to : d.can_remove payload index first ≡ true → IsRemovable d c b
    removable_to e =
        let view = the_some (operation_at c owner) in_operation.operation in
        let at : index ≡ in_operation.index = indexed owner in_operation.index in_operation.here in
        record {
          region = region;
          in_region = in_region;
          owner = owner;
          view = view.0;
          there = view.1;
          index = index;
          here = ap (λ (l : List (Ptr Region)). slice_get l index) (sym (regions_of owner view.0 view.1)) ∙ (ap (slice_get (regions_in c owner)) at ∙ in_operation.here);
          first = first;
          entry = entry;
          removable = ap (λ z. d.can_remove z index first) (payload_is owner view.0 payload carries view.1) ∙ e;
        }

    pub removable_from : ((r : Ptr Region) → StandsInRegion c b r → region ≡ r) → ((p : Ptr Operation) → StandsInOperation c region p → owner ≡ p) → ((p : Ptr Operation) (k : ℕ) (r : Ptr Region) → slice_get (regions_in c p) k ≡ Some r → StandsInOperation c r p) → IsRemovable d c b → d.can_remove payload index first ≡ true
    removable_from one_region one_owner stands r =
        let same : region ≡ r.region = one_region r.region r.in_region in
        let here : slice_get (regions_in c r.owner) r.index ≡ Some region = ap (λ (l : List (Ptr Region)). slice_get l r.index) (regions_of r.owner r.view r.there) ∙ (r.here ∙ ap Some (sym same)) in
        let who : owner ≡ r.owner = one_owner r.owner (stands r.owner r.index region here) in
        let content : payload ≡ r.view.payload = sym (payload_is owner r.view payload carries (ap (operation_at c) who ∙ r.there)) in
        let flag : first ≡ r.first = same_truth first r.first
        (λ e. r.entry.1 (subst (λ z. slice_get (blocks_in c z) 0 ≡ Some b) same (entry.0 e)))
        (λ e. entry.1 (subst (λ z. slice_get (blocks_in c z) 0 ≡ Some b) (sym same) (r.entry.0 e))) in
        let at : index ≡ r.index = indexed r.owner r.index here in
        let all : d.can_remove payload index first ≡ d.can_remove r.view.payload r.index r.first = (λ k. d.can_remove (content k) (at k) (flag k)) in
        all ∙ r.removable
