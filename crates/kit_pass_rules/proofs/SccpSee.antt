-- In a tree with constants an operation sees, in place of what it saw, the value or its constant, of the same type.
use Rattle.std.proofs.Common.{◌≡◌, ⊎_elim, inl, ℕ, ◌^◌, ◌<◌, Bool, true, false, cond, List, [], ◌∷◌, ◌++◌, map, take, Option, Some, None, slice_get, refl, sym, ap, ◌∙◌, subst}
use Rattle.std.specs.Prelude.{◌==◌}
use Rattle.ir_base.specs.declared.types.TypeHandle.{TypeHandle}
use Rattle.ir_program.specs.declared.handles.Value.{Value}
use Rattle.ir_trees.specs.Renames.{Maps, rename_defined}
use Rattle.ir_trees.specs.Stands.{by_handle}
use Rattle.ir_trees.specs.Trees.{Defined}
use Rattle.kit.specs.Context.{KitTree}
use Rattle.kit_checks.specs.KitWorld.{HasDeclaredTypes, kit_world}
use Rattle.kit_checks.specs.Sites.{operation_list, block_list}
use Rattle.kit_checks.specs.Words.{values_of, results_of, values_before, values_in, values_if, first_body, visible, integer_type}
use Rattle.kit_checks.proofs.Passed.{from_joined, in_joined}
use Rattle.kit_ops.specs.declared.attributes.IntegerAttr.{IntegerAttr}
use Rattle.kit_ops.specs.declared.types.KitType.{KitType}
use Rattle.kit_pass_rules.specs.Laws.{IsGood}
use Rattle.kit_pass_rules.proofs.DceCame.{KitAround}
use Rattle.kit_pass_rules.proofs.Lists.{map_get, from_take, has_at_index, index_of_has}
use Rattle.kit_pass_rules.proofs.PutIn.{q_blocks, q_tree, q_body, constant_tree, constants, fronts, woven, list_put, blocks_put, fronts_has, constants_has, woven_has}
use Rattle.kit_pass_rules.proofs.SccpCame.{q_around, Was}
use Rattle.kit_pass_rules.proofs.Thin.{KitBody}
use Rattle.kit_pass_rules.proofs.Walk.{block_of, within, occurrence_of, child_of, block_here}
use Rattle.opt_trees.specs.Occurrences.{Has}
use Rattle.opt_trees.specs.Sccp.{Old, New, fresh, used_as}
use Rattle.opt_trees.proofs.Lists.{some_same, has-map, has-from_map}
use Rattle.opt_trees.proofs.NoneDead.{has-append, has-left, has-right}

-- the attribute is an integer of the type of the value
pub record Fits (leads : TypeHandle → Option KitType) (old : Value → Option TypeHandle) (v : Value) (a : IntegerAttr) : Type 0 where
  pub typed : old v ≡ Some a.ty
  pub is_type : integer_type (kit_world leads old) a.ty ≡ Some a.integer
  pub in_range : a.bits < 2 ^ a.integer.width

module _ (leads : TypeHandle → Option KitType) (old new : Value → Option TypeHandle) (t : KitTree) (good : IsGood leads old t)
    (made : Value → Option IntegerAttr) (names : Maps (fresh by_handle) by_handle) (fits : (v : Value) (a : IntegerAttr) → made v ≡ Some a → Fits leads old v a)
    (typed : HasDeclaredTypes new (q_tree made names t)) where
  -- what is used in place of a value
  abbrev pub use_of : Value → Value
  use_of v = names.value (used_as v (made v))

  -- an operation of the list whose result is used in place of a value of this type
  pub record Given (v : Value) (ty : TypeHandle) (list : List KitTree) : Type 0 where
    pub y : KitTree
    pub here : Has y list
    pub d : Defined Value TypeHandle
    pub has : Has d y.head.results
    pub name : d.name ≡ use_of v
    pub holds : d.holds ≡ ty

  more_given : (v : Value) (ty : TypeHandle) (xs ys : List KitTree) → ((y : KitTree) → Has y xs → Has y ys) → Given v ty xs → Given v ty ys
  more_given v ty xs ys sub x = record { y = x.y; here = sub x.y x.here; d = x.d; has = x.has; name = x.name; holds = x.holds }

  constant_type : (v : Value) (a : IntegerAttr) (ty : TypeHandle) → made v ≡ Some a → old v ≡ Some ty → a.ty ≡ ty
  constant_type v a ty e was = some_same a.ty ty (sym (fits v a e).typed ∙ was)

  result_given : (x : KitTree) (d : Defined Value TypeHandle) → Has d x.head.results → old d.name ≡ Some d.holds → (o : Option IntegerAttr) → made d.name ≡ o →
      Given d.name d.holds (constants made names x.head.results ++ (q_tree made names x ∷ []))
  result_given x d h was None e = record {
    y = q_tree made names x;
    here = has-right (q_tree made names x) (constants made names x.head.results) (q_tree made names x ∷ []) (inl refl);
    d = rename_defined names.value (rename_defined Old d);
    has = has-map (rename_defined names.value) (rename_defined Old d) (map (rename_defined Old) x.head.results) (has-map (rename_defined Old) d x.head.results h);
    name = ap (λ z. names.value (used_as d.name z)) (sym e);
    holds = refl;
  }
  result_given x d h was (Some a) e = record {
    y = constant_tree made names d.name a;
    here = has-left (constant_tree made names d.name a) (constants made names x.head.results) (q_tree made names x ∷ []) (constants_has made names x.head.results d a h e);
    d = record { name = names.value (New d.name); holds = a.ty };
    has = inl refl;
    name = ap (λ z. names.value (used_as d.name z)) (sym e);
    holds = constant_type d.name a d.holds e was;
  }

  module _ (u : KitTree) (a : KitAround) (j : ℕ) (o : Was leads old t good made names u a j) where
    abbrev list_of : KitBody → List KitTree
    list_of body = operation_list (q_body made names body).operations

    new_block : (b : ℕ) (body : KitBody) → slice_get (block_list a.blocks) b ≡ Some body → slice_get (block_list (q_blocks made names a.blocks)) b ≡ Some (q_body made names body)
    new_block b body hb = ap (λ l. slice_get l b) (blocks_put made names a.blocks) ∙ map_get (q_body made names) (block_list a.blocks) b body hb

    -- what is given in a block has its type
    given_typed : (b : ℕ) (body : KitBody) → slice_get (block_list a.blocks) b ≡ Some body → (v : Value) (ty : TypeHandle) → Given v ty (list_of body) → new (use_of v) ≡ Some ty
    given_typed b body hb v ty x =
        let i = index_of_has (list_of body) x.y x.here in
        let c = child_of (q_tree made names t) (record { op = q_tree made names a.owner; around = o.new_around }) (map (q_tree made names) a.outer) o.new_up o.region b i.0
        (q_blocks made names a.blocks) (q_body made names body) x.y o.new_region_here (new_block b body hb) i.1 in
        sym (ap new x.name) ∙ (typed.results (occurrence_of (within c.spot (q_body made names body)) x.y) c.here x.d x.has ∙ ap Some x.holds)

    given_seen : (v : Value) (ty : TypeHandle) (list : List KitTree) → Given v ty list → Has (use_of v) (results_of list)
    given_seen v ty list x =
        in_joined (λ (z : KitTree). values_of z.head.results) list x.y (use_of v) x.here
        (subst (λ z. Has z (values_of x.y.head.results)) x.name (has-map (λ (d : Defined Value TypeHandle). d.name) x.d x.y.head.results x.has))

    -- a value of a block: seen in a list of these arguments and operations, and of the same type
    pub record Seen (v : Value) (ds : List (Defined Value TypeHandle)) (list : List KitTree) : Type 0 where
      pub seen : Has (use_of v) (values_of ds ++ results_of list)
      pub same : new (use_of v) ≡ old v

    abbrev arguments_of : KitBody → List (Defined Value TypeHandle)
    arguments_of body = (q_body made names body).label.arguments

    by_result : (b : ℕ) (body : KitBody) → slice_get (block_list a.blocks) b ≡ Some body → (v : Value) (ty : TypeHandle) → old v ≡ Some ty → (list : List KitTree) →
        Given v ty list → ((y : KitTree) → Has y list → Has y (list_of body)) → Seen v (arguments_of body) list
    by_result b body hb v ty was list x sub = record {
      seen = has-right (use_of v) (values_of (arguments_of body)) (results_of list) (given_seen v ty list x);
      same = given_typed b body hb v ty (more_given v ty list (list_of body) sub x) ∙ sym was;
    }

    see_result : (b : ℕ) (body : KitBody) → slice_get (block_list a.blocks) b ≡ Some body → (i : ℕ) (x : KitTree) → slice_get (operation_list body.operations) i ≡ Some x → (v : Value) → Has v (values_of x.head.results) →
        (list : List KitTree) → ((y : KitTree) → Has y (constants made names x.head.results ++ (q_tree made names x ∷ [])) → Has y list) → ((y : KitTree) → Has y list → Has y (list_of body)) → Seen v (arguments_of body) list
    see_result b body hb i x hi v h list wide sub =
        let c = child_of t (record { op = a.owner; around = o.up_around }) a.outer o.up o.region b i a.blocks body x o.region_here hb hi in
        let p = has-from_map (λ (d : Defined Value TypeHandle). d.name) v x.head.results h in
        let was : old p.it.name ≡ Some p.it.holds = good.typed_in.results (occurrence_of (within c.spot body) x) c.here p.it p.stands in
        subst (λ z. Seen z (arguments_of body) list) p.is
        (by_result b body hb p.it.name p.it.holds was list
        (more_given p.it.name p.it.holds (constants made names x.head.results ++ (q_tree made names x ∷ [])) list wide (result_given x p.it p.stands was (made p.it.name) refl)) sub)

    by_argument : (b : ℕ) (body : KitBody) → slice_get (block_list a.blocks) b ≡ Some body → (d : Defined Value TypeHandle) → Has d body.label.arguments → (m : Option IntegerAttr) → made d.name ≡ m →
        (list : List KitTree) → ((y : KitTree) → Has y (fronts made names body.label.arguments) → Has y list) → ((y : KitTree) → Has y list → Has y (list_of body)) → Seen d.name (arguments_of body) list
    by_argument b body hb d h None e list wide sub =
        let x = block_here t (record { op = a.owner; around = o.up_around }) a.outer o.up o.region b a.blocks body o.region_here hb in
        let y = block_here (q_tree made names t) (record { op = q_tree made names a.owner; around = o.new_around }) (map (q_tree made names) a.outer) o.new_up o.region b (q_blocks made names a.blocks) (q_body made names body) o.new_region_here (new_block b body hb) in
        let f : Defined Value TypeHandle = rename_defined names.value (rename_defined Old d) in
        let has : Has f (arguments_of body) = has-map (rename_defined names.value) (rename_defined Old d) (map (rename_defined Old) body.label.arguments) (has-map (rename_defined Old) d body.label.arguments h) in
        let name : names.value (Old d.name) ≡ use_of d.name = ap (λ z. names.value (used_as d.name z)) (sym e) in
        let was : old d.name ≡ Some d.holds = good.typed_in.arguments (block_of x.spot body) x.block d h in
        record {
          seen = has-left (use_of d.name) (values_of (arguments_of body)) (results_of list)
              (subst (λ z. Has z (values_of (arguments_of body))) name (has-map (λ (d : Defined Value TypeHandle). d.name) f (arguments_of body) has));
          same = sym (ap new name) ∙ (typed.arguments (block_of y.spot (q_body made names body)) y.block f has ∙ sym was);
        }
    by_argument b body hb d h (Some attribute) e list wide sub =
        let x = block_here t (record { op = a.owner; around = o.up_around }) a.outer o.up o.region b a.blocks body o.region_here hb in
        let was : old d.name ≡ Some d.holds = good.typed_in.arguments (block_of x.spot body) x.block d h in
        by_result b body hb d.name d.holds was list (record {
          y = constant_tree made names d.name attribute;
          here = wide (constant_tree made names d.name attribute) (fronts_has made names body.label.arguments d attribute h e);
          d = record { name = names.value (New d.name); holds = attribute.ty };
          has = inl refl;
          name = ap (λ z. names.value (used_as d.name z)) (sym e);
          holds = constant_type d.name attribute d.holds e was;
        }) sub

    see_argument : (b : ℕ) (body : KitBody) → slice_get (block_list a.blocks) b ≡ Some body → (v : Value) → Has v (values_of body.label.arguments) →
        (list : List KitTree) → ((y : KitTree) → Has y (fronts made names body.label.arguments) → Has y list) → ((y : KitTree) → Has y list → Has y (list_of body)) → Seen v (arguments_of body) list
    see_argument b body hb v h list wide sub =
        let p = has-from_map (λ (d : Defined Value TypeHandle). d.name) v body.label.arguments h in
        subst (λ z. Seen z (arguments_of body) list) p.is (by_argument b body hb p.it p.stands (made p.it.name) refl list wide sub)

    -- the values before the operation
    taken : (y : KitTree) → Has y (take j (list_of a.body)) → Has y (list_of a.body)
    taken y h =
        let i = index_of_has (take j (list_of a.body)) y h in
        let x = from_take (list_of a.body) j i.0 y i.1 in has_at_index (list_of a.body) i.0 y x.1

    own_seen : (v : Value) → Has v (values_before a.body a.index) → Seen v (arguments_of a.body) (take j (list_of a.body))
    own_seen v h = ⊎_elim
        (λ x. see_argument a.number a.body o.block_here v x (take j (list_of a.body))
        (λ y i. o.before y (has-left y (fronts made names a.body.label.arguments) (woven made names (take a.index (operation_list a.body.operations))) i)) taken)
        (λ x.
        let s = from_joined (λ (z : KitTree). values_of z.head.results) (take a.index (operation_list a.body.operations)) v x in
        let i = index_of_has (take a.index (operation_list a.body.operations)) s.0 s.1 in
        let at = from_take (operation_list a.body.operations) a.index i.0 s.0 i.1 in
        see_result a.number a.body o.block_here i.0 s.0 at.1 v s.2 (take j (list_of a.body))
        (λ y z. o.before y (has-right y (fronts made names a.body.label.arguments) (woven made names (take a.index (operation_list a.body.operations)))
        (woven_has made names (take a.index (operation_list a.body.operations)) s.0 y s.1 z))) taken)
        (has-append v (values_of a.body.label.arguments) (results_of (take a.index (operation_list a.body.operations))) h)

    -- the values of a whole block
    all_seen : (b : ℕ) (body : KitBody) → slice_get (block_list a.blocks) b ≡ Some body → (v : Value) → Has v (values_in body) → Seen v (arguments_of body) (list_of body)
    all_seen b body hb v h = ⊎_elim
        (λ x. see_argument b body hb v x (list_of body)
        (λ y i. subst (Has y) (sym (list_put made names body)) (has-left y (fronts made names body.label.arguments) (woven made names (operation_list body.operations)) i)) (λ y i. i))
        (λ x.
        let s = from_joined (λ (z : KitTree). values_of z.head.results) (operation_list body.operations) v x in
        let i = index_of_has (operation_list body.operations) s.0 s.1 in
        see_result b body hb i.0 s.0 i.1 v s.2 (list_of body)
        (λ y z. subst (Has y) (sym (list_put made names body)) (has-right y (fronts made names body.label.arguments) (woven made names (operation_list body.operations))
        (woven_has made names (operation_list body.operations) s.0 y s.1 z))) (λ y i. i))
        (has-append v (values_of body.label.arguments) (results_of (operation_list body.operations)) h)

    abbrev pub Sees : Value → List Value → Type 0
    Sees v list = Has (use_of v) list × (new (use_of v) ≡ old v)

    entry_seen : (v : Value) (e f : Option KitBody) → slice_get (block_list a.blocks) 0 ≡ e → slice_get (block_list (q_blocks made names a.blocks)) 0 ≡ f → Has v (values_if e) → Sees v (values_if f)
    entry_seen v None f he hf h = absurd h
    entry_seen v (Some e) f he hf h = let s = all_seen 0 e he v h in (subst (λ z. Has (use_of v) (values_if z)) (sym (new_block 0 e he) ∙ hf) s.seen, s.same)

    if_entry : (b : Bool) (v : Value) (xs ys : List Value) → (Has v xs → Sees v ys) → Has v (cond b [] xs) → Sees v (cond b [] ys)
    if_entry true v xs ys f h = absurd h
    if_entry false v xs ys f h = f h

    pub sees : (v : Value) → Has v (visible a) → Sees v (visible (q_around leads old t good made names a j))
    sees v h =
        let own : List Value = values_before (q_body made names a.body) j in
        let others : List Value = cond (a.number == 0) [] (values_if (first_body (q_blocks made names a.blocks))) in
        ⊎_elim
        (λ x. let s = own_seen v x in (has-left (use_of v) own others s.seen, s.same))
        (λ x.
        let s = if_entry (a.number == 0) v (values_if (first_body a.blocks)) (values_if (first_body (q_blocks made names a.blocks)))
        (entry_seen v (first_body a.blocks) (first_body (q_blocks made names a.blocks)) refl refl) x in
        (has-right (use_of v) own others s.0, s.1))
        (has-append v (values_before a.body a.index) (cond (a.number == 0) [] (values_if (first_body a.blocks))) h)
