-- What a call calls, said of trees and of handles.
use Rattle.std.proofs.Common.{◌≡◌, ◌≢◌, ◌↔◌, ◌⊎◌, inl, inr, ⊎_elim, ℕ, Bool, true, false, cond, List, Option, Some, None, IsTrue, option_and_then, slice_get, refl, sym, ap, ◌∙◌, subst}
use Rattle.std.proofs.lemmas.Bool.{false≢true}
use Rattle.ir_base.specs.declared.types.TypeHandle.{TypeHandle}
use Rattle.ir_context.specs.Holders.{HasParent}
use Rattle.ir_program.specs.Lists.{StandsInside, in_block, in_region, in_operation, blocks_in}
use Rattle.ir_program.specs.Program.{Program}
use Rattle.ir_program.specs.declared.handles.IRNode.{IRNode}
use Rattle.ir_program.specs.declared.handles.IRNode.TheVariants.{Operation as OperationNode, Region as RegionNode, BasicBlock as BlockNode}
use Rattle.ir_program.specs.declared.handles.Ptr.{Ptr}
use Rattle.ir_program.specs.declared.handles.Operation.{Operation}
use Rattle.ir_program.specs.declared.handles.Region.{Region}
use Rattle.ir_program.specs.declared.handles.BasicBlock.{BasicBlock}
use Rattle.ir_trees.specs.Searched.{Lists}
use Rattle.ir_trees.specs.Stands.{ProgramTree, StandsFor}
use Rattle.ir_trees.proofs.Members.{Has, at_has, has_at}
use Rattle.opt_inside.proofs.Around.{HasLists, around_operation, around_block, around_region}
use Rattle.kit_ops.specs.declared.attributes.keys.TheConstants.{CALLEE, CALLEE_TYPE, FUNCTION_TYPE}
use Rattle.kit_ops.specs.declared.kinds.KitOp.{KitOp}
use Rattle.kit_ops.specs.declared.kinds.KitOp.TheVariants.{Call, Func}
use Rattle.kit_checks.specs.Located.{AreOuter, at_root, further, IsBody, IsOwnedBy, IsSiteOf}
use Rattle.kit_checks.specs.Reading.{OfSite}
use Rattle.kit_checks.specs.Sites.{Around, Body, Site, block_list, operation_list, region_list}
use Rattle.kit_checks.specs.Words.{bodies_of, callee_name, callee_type, first_module, function_type, is_module, kind_of, members_of}
use Rattle.kit_checks.specs.World.{World}
use Rattle.kit_checks.proofs.Down.{block_listed, operation_listed, operations_are, region_listed, regions_are}
use Rattle.kit_checks.proofs.Passed.{from_joined, in_joined}
use Rattle.kit_checks.proofs.Upward.{block_tree, operation_tree, region_tree}
use Rattle.kit_verifier.specs.Callees.{AreCallees, Callable, Calls, CallsOne, HasSignature, IsCallable, IsCallableAt, callable_from}
use Rattle.kit_verifier.specs.Reading.{kind_at, name_at, text_under, type_under}
use Rattle.kit_verifier.specs.Scopes.{StandsIf, outer_of, with_outer}
use Rattle.kit_verifier.proofs.Climbed.{outers}
use Rattle.kit_verifier.proofs.Read.{kind_is, kind_from, name_is, text_is, type_is}

-- what is known of a function is put together only where all of it is known
put_together : (scope : Option (Ptr Operation)) (name : Option (List ℕ)) (ty : Option TypeHandle) (q : Callable) → callable_from scope name ty ≡ Some q → (scope ≡ Some q.scope) × (name ≡ Some q.name) × (ty ≡ Some q.ty)
put_together None name ty q h = cc
put_together (Some scope) None ty q h = cc
put_together (Some scope) (Some name) None q h = cc
put_together (Some scope) (Some name) (Some ty) q h =
    let made : Callable = record { scope = scope; name = name; ty = ty } in
    let same : made ≡ q = cc in
    (ap (λ (x : Callable). Some x.scope) same, ap (λ (x : Callable). Some x.name) same, ap (λ (x : Callable). Some x.ty) same)

together : (scope : Option (Ptr Operation)) (name : Option (List ℕ)) (ty : Option TypeHandle) (q : Callable) → scope ≡ Some q.scope → name ≡ Some q.name → ty ≡ Some q.ty → callable_from scope name ty ≡ Some q
together scope name ty q a b d = λ i. callable_from (a i) (b i) (d i)

module _ {O B : Type 0} (c : Program O B) where
  -- two operations that stand for one tree are the same
  one_root : (p q : Ptr Operation) (t : ProgramTree O B) → StandsFor c p t → StandsFor c q t → p ≡ q
  one_root p q t a b = sym (ap (λ h. h.name) a.head) ∙ ap (λ h. h.name) b.head

  scope_is : (found : Option (ProgramTree O B)) (p : Option (Ptr Operation)) (t : ProgramTree O B) (q : Ptr Operation) → StandsIf c found p → found ≡ Some t → StandsFor c q t → p ≡ Some q
  scope_is None p t q s is stands = cc
  scope_is (Some u) None t q s is stands = absurd s
  scope_is (Some u) (Some p) t q s is stands = let same : u ≡ t = cc in ap Some (one_root p q t (subst (StandsFor c p) same s) stands)

  scope_tree : (found : Option (ProgramTree O B)) (p : Ptr Operation) → StandsIf c found (Some p) → (t : ProgramTree O B) × (found ≡ Some t) × StandsFor c p t
  scope_tree None p s = absurd s
  scope_tree (Some u) p s = (u, refl, s)

  -- the operation that owns the region is the parent
  owned_parent : (op owner : Ptr Operation) → IsOwnedBy c op owner → HasParent c op owner
  owned_parent op owner o = record { block = o.block; inner = o.in_block; outer = record { region = o.region; inner = o.in_region; outer = o.in_owner } }

  parent_owns : (op owner : Ptr Operation) → HasParent c op owner → IsOwnedBy c op owner
  parent_owns op owner h = record { block = h.block; region = h.outer.region; in_block = h.inner; in_region = h.outer.inner; in_owner = h.outer.outer }

  -- an operation that another owns is a member of its tree
  pub member_of : (f owner : Ptr Operation) (t : ProgramTree O B) → IsOwnedBy c f owner → StandsFor c owner t → (u : ProgramTree O B) × Lists (members_of t) u × StandsFor c f u
  member_of f owner t o s =
      let r = region_tree c s.view.regions t.regions s.regions o.in_owner.index o.region (subst (λ l. slice_get l o.in_owner.index ≡ Some o.region) (sym (regions_are c owner t s)) o.in_owner.here) in
      let b = block_tree c (blocks_in c o.region) r.0 r.2.listed o.in_region.index o.block o.in_region.here in
      let u = operation_tree c b.2.view.operations b.0.operations b.2.operations o.in_block.index f (subst (λ l. slice_get l o.in_block.index ≡ Some f) (sym (operations_are c o.block b.0 b.2)) o.in_block.here) in
      let body : Has b.0 (bodies_of t) = in_joined block_list (region_list t.regions) r.0 b.0 (at_has (region_list t.regions) o.in_owner.index r.0 r.1) (at_has (block_list r.0) o.in_region.index b.0 b.1) in
      let member : Has u.0 (members_of t) = in_joined (λ (x : Body O B). operation_list x.operations) (bodies_of t) b.0 u.0 body (at_has (operation_list b.0.operations) o.in_block.index u.0 u.1) in
      (u.0, has_at (members_of t) u.0 member, u.2)

  owned_at : HasLists c → (owner op : Ptr Operation) (block : Ptr BasicBlock) (region : Ptr Region) (t : ProgramTree O B) (body : Body O B) (j k i : ℕ) (s : StandsFor c owner t) (b : IsBody c block body) → slice_get s.view.regions j ≡ Some region →
      slice_get (blocks_in c region) k ≡ Some block → slice_get b.view.operations i ≡ Some op → IsOwnedBy c op owner
  owned_at lists owner op block region t body j k i s b region_here block_here op_here = record {
    block = block;
    region = region;
    in_block = lists.operations block i op (subst (λ x. slice_get x i ≡ Some op) (operations_are c block body b) op_here);
    in_region = lists.blocks region k block block_here;
    in_owner = lists.regions owner j region (subst (λ x. slice_get x j ≡ Some region) (regions_are c owner t s) region_here);
  }

  -- a member of its tree is an operation that it owns
  pub owned_member : HasLists c → (owner : Ptr Operation) (t u : ProgramTree O B) → StandsFor c owner t → Lists (members_of t) u → IsOwnedBy c u.head.name owner × StandsFor c u.head.name u
  owned_member lists owner t u s l =
      let m = from_joined (λ (x : Body O B). operation_list x.operations) (bodies_of t) u (at_has (members_of t) l.0 u l.1) in
      let n = from_joined block_list (region_list t.regions) m.0 m.1 in
      let j = has_at (region_list t.regions) n.0 n.1 in
      let k = has_at (block_list n.0) m.0 n.2 in
      let i = has_at (operation_list m.0.operations) u m.2 in
      let r = region_listed c s.view.regions t.regions s.regions j.0 n.0 j.1 in
      let b = block_listed c (blocks_in c r.0) n.0 r.2.listed k.0 m.0 k.1 in
      let o = operation_listed c b.1.view.operations m.0.operations b.1.operations i.0 u i.1 in
      (owned_at lists owner u.head.name m.0.label.name r.0 t m.0 j.0 k.0 i.0 s b.1 r.1 b.0 o.0, o.1)

  owned_inside : (root op owner : Ptr Operation) → IsOwnedBy c op owner → StandsInside c (OperationNode root) (OperationNode owner) → StandsInside c (OperationNode root) (OperationNode op)
  owned_inside root op owner o i = in_block op o.block o.in_block (in_region o.block o.region o.in_region (in_operation o.region owner o.in_owner i))

  -- the owner of an operation below the root is inside the root
  owner_inside : HasLists c → (root op owner : Ptr Operation) → op ≢ root → IsOwnedBy c op owner → StandsInside c (OperationNode root) (OperationNode op) → StandsInside c (OperationNode root) (OperationNode owner)
  owner_inside lists root op owner other o i =
      let b : StandsInside c (OperationNode root) (BlockNode o.block) = ⊎_elim
      (λ (same : OperationNode root ≡ OperationNode op). absurd (other (let e : op ≡ root = cc in e)))
      (λ h. h)
      (around_operation c lists (OperationNode root) op o.block o.in_block i) in
      let r : StandsInside c (OperationNode root) (RegionNode o.region) = ⊎_elim
      (λ (same : OperationNode root ≡ BlockNode o.block). absurd (cc))
      (λ h. h)
      (around_block c lists (OperationNode root) o.block o.region o.in_region b) in
      ⊎_elim
      (λ (same : OperationNode root ≡ RegionNode o.region). absurd (cc))
      (λ h. h)
      (around_region c lists (OperationNode root) o.region owner o.in_owner r)

module _ {O B : Type 0} (w : World O B) (c : Program O B) where
  -- how a function can be called
  pub callable_is : (op : Ptr Operation) (kind : KitOp) (parent : Option (Ptr Operation)) (name : Option (List ℕ)) (ty : Option TypeHandle) → kind_at w c op ≡ Some kind → kind ≡ Func →
      ((p : Ptr Operation) → parent ≡ Some p → HasParent c op p) → ((p : Ptr Operation) → HasParent c op p → parent ≡ Some p) → name ≡ name_at w c op → ty ≡ type_under w c FUNCTION_TYPE.now op →
      (q : Callable) → (callable_from parent name ty ≡ Some q) ↔ IsCallable w c op q
  callable_is op kind parent name ty is func found only named typed q = (
    λ h. let p = put_together parent name ty q h in record {
      owner = parent_owns c op q.scope (found q.scope p.0);
      is_function = is ∙ ap Some func;
      named = sym named ∙ p.1;
      typed = sym typed ∙ p.2;
    },
    λ h. together parent name ty q (only q.scope (owned_parent c op q.scope h.owner)) (named ∙ h.named) (typed ∙ h.typed),
  )

  module _ (root op : Ptr Operation) where
    -- a call isn't a module
    call_outer : (s : Site O B) → kind_of w s.op ≡ Call → first_module w (with_outer s) ≡ first_module w (outer_of s.around)
    call_outer s is = ap (λ k. cond (is_module k) (Some s.op) (first_module w (outer_of s.around))) is

    make_calls : (s : Site O B) (q : Callable) (o : Option (Around O B)) → s.around ≡ o → (t : ProgramTree O B) → first_module w (outer_of o) ≡ Some t → StandsFor c q.scope t → callee_name w s.op ≡ Some q.name → callee_type w s.op ≡ Some q.ty → Calls w c s q
    make_calls s q None here t near stands name type = let e : None ≡ Some t = near in cc
    make_calls s q (Some a) here t near stands name type = record { around = a; is_in = here; scope = t; nearest = near; scope_is = stands; name = name; type = type }

    -- what a call says that it calls
    pub called_is : (scope : Option (Ptr Operation)) (name : Option (List ℕ)) (ty : Option TypeHandle) → kind_at w c op ≡ Some Call → OfSite c root op (λ s. StandsIf c (first_module w (with_outer s)) scope) →
        name ≡ text_under w c CALLEE.now op → ty ≡ type_under w c CALLEE_TYPE.now op → OfSite c root op (λ s. (q : Callable) → (callable_from scope name ty ≡ Some q) ↔ Calls w c s q)
    called_is scope name ty is near named typed s at q =
        let call : kind_of w s.op ≡ Call = kind_from w c op s.op at.tree Call is in
        let name_as : name ≡ callee_name w s.op = named ∙ text_is w c op s.op at.tree CALLEE.now in
        let type_as : ty ≡ callee_type w s.op = typed ∙ type_is w c op s.op at.tree CALLEE_TYPE.now in (
          λ h.
              let p = put_together scope name ty q h in
              let t = scope_tree c (first_module w (with_outer s)) q.scope (subst (StandsIf c (first_module w (with_outer s))) p.0 (near s at)) in
              make_calls s q s.around refl t.0 (sym (call_outer s call) ∙ t.1) t.2 (sym name_as ∙ p.1) (sym type_as ∙ p.2),
          λ h.
              let near_is : first_module w (with_outer s) ≡ Some h.scope = call_outer s call ∙ ap (λ (o : Option (Around O B)). first_module w (outer_of o)) h.is_in ∙ h.nearest in
              together scope name ty q (scope_is c (first_module w (with_outer s)) scope h.scope q.scope (near s at) near_is h.scope_is) (name_as ∙ h.name) (type_as ∙ h.type),
        )

    picked : (b : Bool) (t u : ProgramTree O B) (rest : Option (ProgramTree O B)) → cond b (Some t) rest ≡ Some u → (t ≡ u) ⊎ (rest ≡ Some u)
    picked true t u rest h = let same : t ≡ u = cc in inl same
    picked false t u rest h = inr h

    -- the nearest module is inside the root
    module_inside : HasLists c → (p : Ptr Operation) (ts : List (ProgramTree O B)) → StandsInside c (OperationNode root) (OperationNode p) → AreOuter c root p ts →
        (u : ProgramTree O B) → first_module w ts ≡ Some u → (m : Ptr Operation) × StandsInside c (OperationNode root) (OperationNode m) × StandsFor c m u
    module_inside lists _ _ inside at_root u h = cc
    module_inside lists p _ inside (further _ owner tree trees other owned stands outer) u h =
        let i = owner_inside c lists root p owner other owned inside in
        ⊎_elim
        (λ (same : tree ≡ u). (owner, i, subst (StandsFor c owner) same stands))
        (λ rest. module_inside lists owner trees i outer u rest)
        (picked (is_module (kind_of w tree)) tree u (first_module w trees) h)

    module _ (callees : List Callable) (are : AreCallees w c root callees) where
      -- what a call calls is a function of the tree
      calls_tree : (s : Site O B) (q : Callable) → Calls w c s q → HasSignature w s.op q.ty → (f : Ptr Operation) → IsCallable w c f q → CallsOne w s
      calls_tree s q h g f call =
          let m = member_of c f q.scope h.scope call.owner h.scope_is in (
            h.around,
            h.is_in,
            record {
              scope = h.scope;
              nearest = h.nearest;
              name = q.name;
              has_name = h.name;
              function = m.0;
              member = m.1;
              is_function = kind_from w c f m.0 m.2 Func call.is_function;
              named = sym (name_is w c f m.0 m.2) ∙ call.named;
              type = q.ty;
              has_type = h.type;
              same_type = sym (type_is w c f m.0 m.2 FUNCTION_TYPE.now) ∙ call.typed;
              signature = g.signature;
              is_signature = ap (option_and_then (function_type w)) h.type ∙ g.is_signature;
              operands = g.operands;
              results = g.results;
            },
          )

      at_entity : (s : Site O B) (q : Callable) → Calls w c s q → HasSignature w s.op q.ty → (e : IRNode) → IsCallableAt w c e q → CallsOne w s
      at_entity s q h g (OperationNode f) call = calls_tree s q h g f call
      at_entity s q h g (BlockNode b) call = absurd call
      at_entity s q h g (RegionNode r) call = absurd call

      -- a function of the tree that is called is one of those that can be called
      pub record CallsListed (s : Site O B) : Type 0 where
        pub called : Callable
        pub calls : Calls w c s called
        pub listed : Has called callees
        pub signature : HasSignature w s.op called.ty

      calls_listed : HasLists c → (s : Site O B) → IsSiteOf c root op s → CallsOne w s → CallsListed s
      calls_listed lists s at h =
          let f = h.2 in
          let near : first_module w (outer_of s.around) ≡ Some f.scope = ap (λ (o : Option (Around O B)). first_module w (outer_of o)) h.1 ∙ f.nearest in
          let m = module_inside lists op (outer_of s.around) at.inside (outers w c root op s.around at.around) f.scope near in
          let o = owned_member c lists m.0 f.scope f.function m.2 f.member in
          let q : Callable = record { scope = m.0; name = f.name; ty = f.type } in
          let callable : IsCallable w c f.function.head.name q = record {
            owner = o.0;
            is_function = kind_is w c f.function.head.name f.function o.1 ∙ ap Some f.is_function;
            named = name_is w c f.function.head.name f.function o.1 ∙ f.named;
            typed = type_is w c f.function.head.name f.function o.1 FUNCTION_TYPE.now ∙ f.same_type;
          } in
          record {
            called = q;
            calls = record { around = h.0; is_in = h.1; scope = f.scope; nearest = f.nearest; scope_is = m.2; name = f.has_name; type = f.has_type };
            listed = (are q).1 (OperationNode f.function.head.name, owned_inside c root f.function.head.name m.0 o.0 m.1, callable);
            signature = record { signature = f.signature; is_signature = sym (ap (option_and_then (function_type w)) f.has_type) ∙ f.is_signature; operands = f.operands; results = f.results };
          }

      module _ (lists : HasLists c) (s : Site O B) (at : IsSiteOf c root op s) (found : Option Callable) (tells : (q : Callable) → (found ≡ Some q) ↔ Calls w c s q) where
        -- the call says too little
        pub calls_none : found ≡ None → IsTrue false ↔ CallsOne w s
        calls_none none = (
          λ h. absurd (false≢true h),
          λ h. let l = calls_listed lists s at h in let e : None ≡ Some l.called = sym none ∙ (tells l.called).1 l.calls in cc,
        )

        -- there is no such function
        pub calls_unlisted : (q : Callable) → found ≡ Some q → (is : Bool) → is ≡ false → IsTrue is ↔ Has q callees → IsTrue false ↔ CallsOne w s
        calls_unlisted q here is fails has = (
          λ h. absurd (false≢true h),
          λ h.
              let l = calls_listed lists s at h in
              let same : l.called ≡ q = let e : Some l.called ≡ Some q = sym ((tells l.called).1 l.calls) ∙ here in cc in
              absurd (false≢true (sym fails ∙ has.1 (subst (λ x. Has x callees) same l.listed))),
        )

        -- there is one, and it has the type or not
        pub calls_it : (q : Callable) → found ≡ Some q → (is : Bool) → is ≡ true → IsTrue is ↔ Has q callees → (r : Bool) → IsTrue r ↔ HasSignature w s.op q.ty → IsTrue r ↔ CallsOne w s
        calls_it q here is holds has r signed = (
          λ h. let m = (are q).0 (has.0 holds) in at_entity s q ((tells q).0 here) (signed.0 h) m.0 m.2,
          λ h.
              let l = calls_listed lists s at h in
              let same : l.called ≡ q = let e : Some l.called ≡ Some q = sym ((tells l.called).1 l.calls) ∙ here in cc in
              signed.1 (subst (λ (x : Callable). HasSignature w s.op x.ty) same l.signature),
        )
