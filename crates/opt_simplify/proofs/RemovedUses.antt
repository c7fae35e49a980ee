-- Which values of what goes are taken by what stays.
use Rattle.std.proofs.Common.{◌≡◌, ◌⊎◌, inl, inr, ⊎_elim, ℕ, ◌+◌, ◌≤◌, Bool, true, false, List, [], ◌∷◌, ◌++◌, length, take, Option, Some, None, slice_get, option_map, unwrap_or, refl, sym, ap, ◌∙◌, subst}
use Rattle.std.specs.Prelude.{◌↔◌, if◌then◌else◌}
use Rattle.std.specs.List.{list_any}
use Rattle.std.proofs.lemmas.Option.{none-some, slice_get_within, get_or_from_slice_get}
use Rattle.std.proofs.lemmas.List.Folds.{list_any_at}
use Rattle.indexmap.specs.IndexSet.{insert_key}
use Rattle.indexmap.proofs.CallerLemmas.{Contains-list_any}
use Rattle.std.proofs.lemmas.List.{append-nil}
use Rattle.ir_program.specs.Erased.{definer_node}
use Rattle.ir_program.specs.Lists.{StandsInside}
use Rattle.ir_program.specs.Preorder.{AreInside}
use Rattle.ir_program.specs.Program.{Program, OperationView, IsLiveValue, operation_at}
use Rattle.ir_program.specs.Rows.{operands_at}
use Rattle.ir_program.specs.Uses.{AreUsesOf, IsUsed}
use Rattle.ir_program.specs.declared.handles.IRNode.{IRNode}
use Rattle.ir_program.specs.declared.handles.IRNode.TheVariants.{Operation as OperationNode, BasicBlock as BlockNode}
use Rattle.ir_program.specs.declared.handles.Ptr.{Ptr}
use Rattle.ir_program.specs.declared.handles.Operation.{Operation}
use Rattle.ir_program.specs.declared.handles.BasicBlock.{BasicBlock}
use Rattle.ir_program.specs.declared.handles.Use.{Use}
use Rattle.ir_program.specs.declared.handles.Value.{Value}
use Rattle.ir_trees.specs.Searched.{Lists}
use Rattle.opt_simplify.specs.Removed.{GainsMembers, IsTakenBy, IsTakenOutsideBlocks, IsWithinPickedBlocks, TakesListed, TakesWithin, is_listed}
use Rattle.ir_trees.proofs.Members.{Has, at_has}
use Rattle.opt_simplify.proofs.RemovedErased.{node_found}
use Rattle.opt_simplify.proofs.RemovedAmong.{among_more, also_it, also_picked, it_or_picked}
use Rattle.opt_inside.proofs.ReachLemmas.Lists.{get_last, get_end, get_front, take_all}
use Rattle.opt_inside.proofs.ReachLemmas.Members.{contains_lists}

module _ {X : Type 0} where
  pub lists_more : (xs : List X) (x y : X) → Lists (xs ++ x ∷ []) y ↔ (Lists xs y ⊎ (y ≡ x))
  lists_more xs x y = (
    λ l. ⊎_elim (λ h. inl (l.0, h)) (λ (h : (l.0 ≡ length xs) × (y ≡ x)). inr h.1) (get_last xs x l.0 y l.1),
    λ h. ⊎_elim (λ (l : Lists xs y). (l.0, get_front xs (x ∷ []) l.0 y l.1)) (λ (e : y ≡ x). (length xs, get_end xs x ∙ ap Some (sym e))) h,
  )

  -- a set with an item more
  pub gained : (eq : X → X → Bool) → ((a b : X) → eq a b ≡ true → a ≡ b) → (keys after : List X) (x : X) → after ≡ insert_key eq keys x → GainsMembers keys after (λ y. y ≡ x)
  gained eq same keys after x is = subst (λ ks. GainsMembers keys ks (λ y. y ≡ x)) (sym is) (by_test (list_any (eq x) keys) refl) where
    by_test : (b : Bool) → list_any (eq x) keys ≡ b → GainsMembers keys (if b then keys else keys ++ x ∷ []) (λ y. y ≡ x)
    by_test true e y = (λ l. inl l, λ h. ⊎_elim (λ l. l) (λ (s : y ≡ x). subst (Lists keys) (sym s) (contains_lists keys x (Contains-list_any eq same keys x e))) h)
    by_test false e y = lists_more keys x y

  pub any_listed : (eq : X → X → Bool) → ((a b : X) → eq a b ≡ true → a ≡ b) → (keys : List X) (x : X) → eq x x ≡ true → (b : Bool) → b ≡ list_any (eq x) keys → (b ≡ true) ↔ Lists keys x
  any_listed eq same keys x own b is = (
    λ h. contains_lists keys x (Contains-list_any eq same keys x (sym is ∙ h)),
    λ l. is ∙ list_any_at (eq x) keys l.0 x (slice_get_within keys l.0 x l.1) (ap (eq x) (get_or_from_slice_get keys l.0 x x l.1) ∙ own),
  )

  -- gained one after the other
  pub gains_none : (keys : List X) → GainsMembers keys keys (λ y. ⊥)
  gains_none keys y = (λ l. inl l, λ h. ⊎_elim (λ l. l) (λ (n : ⊥). absurd n) h)

  pub gains_both : (a b c : List X) (P Q R : X → Type 0) → GainsMembers a b P → GainsMembers b c Q → ((y : X) → R y ↔ (P y ⊎ Q y)) → GainsMembers a c R
  gains_both a b c P Q R p q r y = (
    λ l. ⊎_elim
        (λ m. ⊎_elim (λ n. inl n) (λ h. inr ((r y).1 (inl h))) ((p y).0 m))
        (λ h. inr ((r y).1 (inr h)))
        ((q y).0 l),
    λ h. ⊎_elim
        (λ l. (q y).1 (inl ((p y).1 (inl l))))
        (λ g. ⊎_elim (λ m. (q y).1 (inl ((p y).1 (inr m)))) (λ m. (q y).1 (inr m)) ((r y).0 g))
        h,
  )

module _ {O B : Type 0} (c : Program O B) where
  -- all of a list is in it
  pub whole : {X : Type 0} (done rest all : List X) → done ++ rest ≡ all → rest ≡ [] → done ≡ all
  whole done rest all e r = sym (append-nil done) ∙ ap (λ l. done ++ l) (sym r) ∙ e

  pub none_yet : {X : Type 0} (x : X) → Lists [] x → ⊥
  none_yet x l = none-some x l.1

  -- a block and what is in it, one after the other
  pub node_gained : (old mid new : List IRNode) (done : List IRNode) (e : IRNode) → GainsMembers old mid (Lists done) → GainsMembers mid new (λ x. x ≡ e) → GainsMembers old new (Lists (done ++ e ∷ []))
  node_gained old mid new done e p q = gains_both old mid new (Lists done) (λ x. x ≡ e) (Lists (done ++ e ∷ [])) p q (λ y. lists_more done e y)

  pub block_gained : (b : Ptr BasicBlock) (old new done all : List IRNode) → AreInside c (BlockNode b) all → done ≡ all → GainsMembers old new (Lists done) → GainsMembers old new (StandsInside c (BlockNode b))
  block_gained b old new done all members same g y =
      let h = subst (λ es. Lists new y ↔ (Lists old y ⊎ Lists es y)) same (g y) in (
        λ l. ⊎_elim (λ m. inl m) (λ (m : Lists all y). inr (members.inside m.0 y m.1)) (h.0 l),
        λ r. h.1 (⊎_elim (λ m. inl m) (λ i. inr (members.all y i)) r),
      )

  -- the first blocks
  pub within_none : (nodes : List IRNode) → ((e : IRNode) → Lists nodes e → ⊥) → (e : IRNode) → Lists nodes e ↔ IsWithinPickedBlocks c (λ b. false) e
  within_none nodes none e = (λ l. absurd (none e l), λ h. let f : false ≡ true = h.1 in cc)

  pub within_next : (bs : List (Ptr BasicBlock)) (i : ℕ) (a : Ptr BasicBlock) → slice_get bs i ≡ Some a → (nodes nodes' : List IRNode) → GainsMembers nodes nodes' (StandsInside c (BlockNode a))
      → ((e : IRNode) → Lists nodes e ↔ IsWithinPickedBlocks c (is_listed (take i bs)) e) → (e : IRNode) → Lists nodes' e ↔ IsWithinPickedBlocks c (is_listed (take (i + 1) bs)) e
  within_next bs i a here nodes nodes' g known e = subst (λ picks. Lists nodes' e ↔ IsWithinPickedBlocks c picks e) (among_more bs i a here) (
    λ l. ⊎_elim
        (λ m. let w = (known e).0 m in (w.0, also_picked a (is_listed (take i bs)) w.0 w.1, w.2))
        (λ s. (a, also_it a (is_listed (take i bs)), s))
        ((g e).0 l),
    λ w. (g e).1 (⊎_elim
        (λ (s : w.0 ≡ a). inr (subst (λ x. StandsInside c (BlockNode x) e) s w.2))
        (λ t. inl ((known e).1 (w.0, t, w.2)))
        (it_or_picked a (is_listed (take i bs)) w.0 w.1)),
  )

  pub within_all : (bs : List (Ptr BasicBlock)) (i : ℕ) → length bs ≤ i → (nodes : List IRNode) → ((e : IRNode) → Lists nodes e ↔ IsWithinPickedBlocks c (is_listed (take i bs)) e) → (e : IRNode) → Lists nodes e ↔ IsWithinPickedBlocks c (is_listed bs) e
  within_all bs i all nodes h = subst (λ xs. (e : IRNode) → Lists nodes e ↔ IsWithinPickedBlocks c (is_listed xs) e) (take_all bs i all) h

  -- uses of a value
  pub taken_here : (nodes : List IRNode) (v : Value) (us : List (Use Value)) → AreUsesOf c v us → (done rest : List (Use Value)) (u : Use Value) → done ++ u ∷ rest ≡ us → (Lists nodes (OperationNode u.user_op) → ⊥) → IsTakenBy c nodes v
  taken_here nodes v us all done rest u e out =
      let at : slice_get us (length done) ≡ Some u = ap (λ l. slice_get l (length done)) (sym e) ∙ behind done in
      let s = all.sound (length done) u at in
      (u.user_op, (u.index, s.0 ∙ ap Some s.1), out)
    where
      behind : (xs : List (Use Value)) → slice_get (xs ++ u ∷ rest) (length xs) ≡ Some u
      behind [] = refl
      behind (x ∷ xs) = behind xs

  pub taken_nowhere : (nodes : List IRNode) (v : Value) (us : List (Use Value)) → AreUsesOf c v us → ((u : Use Value) → Lists us u → Lists nodes (OperationNode u.user_op)) → IsTakenBy c nodes v → ⊥
  taken_nowhere nodes v us all inside t =
      let u : Use Value = record { user_op = t.0; index = t.1.0; def = v } in
      let k = all.all u t.1.1 refl in
      t.2 (inside u (k.0, k.1))

-- nothing is gained yet
pub begun : {X : Type 0} (keys : List X) → GainsMembers keys keys (Lists [])
begun keys y = (λ l. inl l, λ h. ⊎_elim (λ l. l) (λ (n : Lists [] y). absurd (none-some y n.1)) h)

-- whether values of these entities are taken by others
module _ {O B : Type 0} (c : Program O B) (picks : Ptr BasicBlock → Bool) (used : (v : Value) → IsUsed c v → IsLiveValue c v) (values : List Value)
    (all : (v : Value) → IsLiveValue c v → IsWithinPickedBlocks c picks (definer_node v.definer) → Lists values v) (nodes : List IRNode) (known : (e : IRNode) → Lists nodes e ↔ IsWithinPickedBlocks c picks e) where
  pub taken_outside : TakesListed c nodes values → IsTakenOutsideBlocks c picks
  taken_outside t = record { user = t.3.0; value = t.0; takes = t.3.1; defined = (known (definer_node t.0.definer)).0 t.2; outside = λ w. t.3.2 ((known (OperationNode t.3.0)).1 w) }

  used_at : (p : Ptr Operation) (k : ℕ) (v : Value) → slice_get (operands_at c p) k ≡ Some v → IsUsed c v
  used_at p k v h = by_view (operation_at c p) refl h where
    by_view : (o : Option (OperationView O)) → operation_at c p ≡ o → slice_get (unwrap_or (option_map (λ (x : OperationView O). x.operands) o) []) k ≡ Some v → IsUsed c v
    by_view None e m = absurd (none-some v m)
    by_view (Some o) e m = (p, o, e, k, m)

  pub taken_within : (TakesListed c nodes values → ⊥) → TakesWithin c picks
  taken_within none p k v h w = ⊎_elim
      (λ (l : (j : ℕ) × (slice_get nodes j ≡ Some (OperationNode p))). (known (OperationNode p)).0 l)
      (λ (out : Has (OperationNode p) nodes → ⊥).
      absurd (none (v, all v (used v (used_at p k v h)) w, (known (definer_node v.definer)).1 w, (p, (k, h), λ l. out (at_has nodes l.0 (OperationNode p) l.1)))))
      (node_found (OperationNode p) nodes)
