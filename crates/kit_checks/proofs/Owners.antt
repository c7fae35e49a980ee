-- The operation that owns the region that another is in.
use Rattle.std.proofs.Common.{◌≡◌, ◌≢◌, ◌↔◌, Bool, Option, Some, None, IsTrue, refl, sym, ap, ◌∙◌, subst}
use Rattle.ir_context.specs.Holders.{HasParent}
use Rattle.ir_program.specs.Program.{Program}
use Rattle.ir_program.specs.declared.handles.Ptr.{Ptr}
use Rattle.ir_program.specs.declared.handles.Operation.{Operation}
use Rattle.kit_ops.specs.declared.kinds.KitOp.{KitOp}
use Rattle.kit_checks.specs.Located.{IsAround, IsAroundIf, IsSiteOf}
use Rattle.kit_checks.specs.Reading.{IsOwner, IsInKind, OfSite, OfTree}
use Rattle.kit_checks.specs.Sites.{Around, Site}
use Rattle.kit_checks.specs.Words.{kind_of}
use Rattle.kit_checks.specs.World.{World}

module _ {O B : Type 0} (c : Program O B) (root op : Ptr Operation) where
  parent_of : (a : Around O B) (at : IsAround c root op a) → HasParent c op at.owner
  parent_of a at = record { block = at.block; inner = at.in_block; outer = record { region = at.region; inner = at.in_region; outer = at.in_owner } }

  -- nothing is around the root alone
  pub at_root : op ≡ root → (o : Option (Around O B)) → IsAroundIf c root op o → o ≡ None
  at_root same None at = refl
  at_root same (Some a) at = absurd (at.other same)

  owner_if : (p : Option (Ptr Operation)) → ((parent : Ptr Operation) → HasParent c op parent → p ≡ Some parent) → op ≢ root →
      (o : Option (Around O B)) → IsAroundIf c root op o → IsOwner c o p
  owner_if p only other None at = absurd (other at)
  owner_if p only other (Some a) at = subst (IsOwner c (Some a)) (sym (only at.owner (parent_of a at))) at.owner_is

  pub owner_found : (p : Option (Ptr Operation)) → ((parent : Ptr Operation) → HasParent c op parent → p ≡ Some parent) → op ≢ root → OfSite c root op (λ s. IsOwner c s.around p)
  owner_found p only other s at = owner_if p only other s.around at.around

  pub root_has_none : op ≡ root → OfSite c root op (λ s. IsOwner c s.around None)
  root_has_none same s at = subst (λ o. IsOwner c o None) (sym (at_root same s.around at.around)) tt

  -- a test of the kind of the owner
  module _ (w : World O B) (k : KitOp) where
    owner_kind : (owner : Ptr Operation) (kind : KitOp) (is : Bool) → OfTree c owner (λ u. kind_of w u ≡ kind) → IsTrue is ↔ (kind ≡ k) →
        (s : Site O B) (o : Option (Around O B)) → s.around ≡ o → IsOwner c o (Some owner) → IsTrue is ↔ IsInKind w s k
    owner_kind owner kind is read test s None here it = absurd it
    owner_kind owner kind is read test s (Some a) here it = (
      λ yes. (a, (here, read a.owner it ∙ test.0 yes)),
      λ h. test.1 (let same : h.0 ≡ a = let e : Some h.0 ≡ Some a = sym h.1.0 ∙ here in cc in sym (read a.owner it) ∙ ap (λ (x : Around O B). kind_of w x.owner) (sym same) ∙ h.1.1),
    )

    pub in_kind : (o : Option (Ptr Operation)) (owner : Ptr Operation) (kind : KitOp) (is : Bool) → o ≡ Some owner → OfTree c owner (λ u. kind_of w u ≡ kind) → IsTrue is ↔ (kind ≡ k) →
        OfSite c root op (λ s. IsOwner c s.around o) → OfSite c root op (λ s. IsTrue is ↔ IsInKind w s k)
    in_kind o owner kind is there read test found s at = owner_kind owner kind is read test s s.around refl (subst (IsOwner c s.around) there (found s at))

    not_in : (s : Site O B) (o : Option (Around O B)) → s.around ≡ o → IsOwner c o None → IsInKind w s k → ⊥
    not_in s None here it h = let e : None ≡ Some h.0 = sym here ∙ h.1.0 in cc
    not_in s (Some a) here it h = it

    pub in_nothing : (o : Option (Ptr Operation)) → o ≡ None → OfSite c root op (λ s. IsOwner c s.around o) → (s : Site O B) → IsSiteOf c root op s → IsInKind w s k → ⊥
    in_nothing o there found s at h = not_in s s.around refl (subst (IsOwner c s.around) there (found s at)) h
