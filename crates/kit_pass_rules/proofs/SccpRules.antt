-- A tree with constants put in keeps the rules.
use Rattle.std.proofs.Common.{◌≡◌, inl, inr, ℕ, zero, suc, List, [], ◌∷◌, map, take, Option, Some, None, option_and_then, slice_get, refl, sym, ap, ◌∙◌, subst}
use Rattle.std.specs.Prelude as std
use Rattle.ir_base.specs.declared.types.TypeHandle.{TypeHandle}
use Rattle.ir_program.specs.declared.handles.Value.{Value}
use Rattle.ir_trees.specs.Renames.{Maps, rename_defined}
use Rattle.ir_trees.specs.Searched.{Lists}
use Rattle.ir_trees.specs.Stands.{by_handle}
use Rattle.ir_trees.specs.Trees.{Defined}
use Rattle.kit.specs.Context.{KitTree}
use Rattle.kit_checks.specs.Faults.{Keeps}
use Rattle.kit_checks.specs.KitWorld.{HasDeclaredTypes, kit_world}
use Rattle.kit_checks.specs.Rules as rules
use Rattle.kit_checks.specs.Sites.{block_list, region_list}
use Rattle.kit_checks.specs.Words.{Every, IsValueType, types_of, bodies_of, first_body, kind_of, is_instruction, visible, along_edge, segment}
use Rattle.kit_checks.specs.declared.rule.Rule.{Rule}
use Rattle.kit_checks.specs.declared.rule.Rule.TheVariants as rule
use Rattle.kit_checks.proofs.Down.{both}
use Rattle.kit_ops.specs.declared.attributes.IntegerAttr.{IntegerAttr}
use Rattle.kit_ops.specs.declared.kinds.KitOp.{KitOp}
use Rattle.kit_ops.specs.declared.kinds.KitOp.TheVariants as ops
use Rattle.kit_ops.specs.declared.types.KitType.{KitType}
use Rattle.kit_pass_rules.specs.Laws.{IsGood}
use Rattle.kit_pass_rules.proofs.DceCame.{KitAround, KitSite}
use Rattle.kit_pass_rules.proofs.Lists.{map_get, map_at, from_take, has_at_index, index_of_has}
use Rattle.kit_pass_rules.proofs.PutIn.{q_regions, q_blocks, q_tree, q_body, blocks_put, regions_put, bodies_put}
use Rattle.kit_pass_rules.proofs.SccpCame.{Put, q_around, Was, Comes, at_root, below, constant, keeps_below}
use Rattle.kit_pass_rules.proofs.SccpSee.{Fits, sees}
use Rattle.kit_pass_rules.proofs.Thin.{KitBody}
use Rattle.opt_trees.specs.Occurrences.{Has}
use Rattle.opt_trees.specs.Sccp.{Old, fresh, used_as}
use Rattle.opt_trees.proofs.Lists.{some_same, none_some, map-map}

-- ---- lists under a map

map_take : {X Y : Type 0} (f : X → Y) (n : ℕ) (xs : List X) → take n (map f xs) ≡ map f (take n xs)
map_take f zero xs = refl
map_take f (suc n) [] = refl
map_take f (suc n) (x ∷ xs) = ap (λ l. f x ∷ l) (map_take f n xs)

map_drop : {X Y : Type 0} (f : X → Y) (n : ℕ) (xs : List X) → std.drop n (map f xs) ≡ map f (std.drop n xs)
map_drop f zero xs = refl
map_drop f (suc n) [] = refl
map_drop f (suc n) (x ∷ xs) = map_drop f n xs

map_segment : {X Y : Type 0} (f : X → Y) (sizes : List ℕ) (i : ℕ) (xs : List X) → segment (map f xs) sizes i ≡ map f (segment xs sizes i)
map_segment f [] i xs = refl
map_segment f (n ∷ sizes) zero xs = map_take f n xs
map_segment f (n ∷ sizes) (suc i) xs = ap (λ l. segment l sizes i) (map_drop f n xs) ∙ map_segment f sizes i (std.drop n xs)

pub map_along : (f : Value → Value) (k : KitOp) (sizes : List ℕ) (xs : List Value) (i : ℕ) → along_edge k sizes (map f xs) i ≡ map f (along_edge k sizes xs i)
map_along f ops.Br sizes xs i = refl
map_along f ops.CondBr sizes xs i = map_segment f sizes (suc i) xs
map_along f k sizes xs i = refl

from_taken : {X : Type 0} (n : ℕ) (xs : List X) (x : X) → Has x (take n xs) → Has x xs
from_taken n xs x h = let i = index_of_has (take n xs) x h in let y = from_take xs n i.0 x i.1 in has_at_index xs i.0 x y.1

from_dropped : {X : Type 0} (n : ℕ) (xs : List X) (x : X) → Has x (std.drop n xs) → Has x xs
from_dropped zero xs x h = h
from_dropped (suc n) [] x h = h
from_dropped (suc n) (y ∷ xs) x h = inr (from_dropped n xs x h)

from_segment : {X : Type 0} (sizes : List ℕ) (i : ℕ) (xs : List X) (x : X) → Has x (segment xs sizes i) → Has x xs
from_segment [] i xs x h = absurd h
from_segment (n ∷ sizes) zero xs x h = from_taken n xs x h
from_segment (n ∷ sizes) (suc i) xs x h = from_dropped n xs x (from_segment sizes i (std.drop n xs) x h)

pub from_along : (k : KitOp) (sizes : List ℕ) (xs : List Value) (i : ℕ) (x : Value) → Has x (along_edge k sizes xs i) → Has x xs
from_along ops.Br sizes xs i x h = h
from_along ops.CondBr sizes xs i x h = from_segment sizes (suc i) xs x h
from_along k sizes xs i x h = absurd h

module _ (leads : TypeHandle → Option KitType) (old new : Value → Option TypeHandle) (t : KitTree) (good : IsGood leads old t)
    (made : Value → Option IntegerAttr) (names : Maps (fresh by_handle) by_handle) (fits : (v : Value) (a : IntegerAttr) → made v ≡ Some a → Fits leads old v a)
    (typed : HasDeclaredTypes new (q_tree made names t)) where
  abbrev pub uses : Value → Value
  uses v = names.value (used_as v (made v))

  abbrev pub q : KitTree → KitTree
  q u = q_tree made names u

  abbrev pub around_of : KitAround → ℕ → KitAround
  around_of a j = q_around leads old t good made names a j

  abbrev pub Comes_ : KitSite → Type 0
  Comes_ s = Comes leads old t good made names s

  abbrev pub Was_ : KitTree → KitAround → ℕ → Type 0
  Was_ u a j = Was leads old t good made names u a j

  pub root_keeps : (r : Rule) → Keeps (kit_world leads old) r (record { op = t; around = None })
  root_keeps r = good.obeys r [] (record { op = t; around = None }) refl

  pub keeps : (u : KitTree) (a : KitAround) (j : ℕ) → Was_ u a j → (r : Rule) → Keeps (kit_world leads old) r (record { op = u; around = Some a })
  keeps u a j o r = keeps_below leads old t good made names (record { op = a.owner; around = o.up_around }) a.outer o.up o.region a.number a.index a.blocks a.body u o.region_here o.block_here o.here r

  pub operands_of : (xs : List Value) → map names.value (map (λ v. used_as v (made v)) xs) ≡ map uses xs
  operands_of xs = map-map names.value (λ v. used_as v (made v)) xs

  pub holds_of : (ds : List (Defined Value TypeHandle)) → types_of (map (rename_defined names.value) (map (rename_defined Old) ds)) ≡ types_of ds
  holds_of [] = refl
  holds_of (d ∷ ds) = ap (λ l. d.holds ∷ l) (holds_of ds)

  -- rule 7
  pub seen_operand : (u : KitTree) (a : KitAround) (j : ℕ) (o : Was_ u a j) (v : Value) → Has v u.head.operands → Has (uses v) (visible (around_of a j)) × (new (uses v) ≡ old v)
  seen_operand u a j o v h =
      let r : rules.OperandsAreVisible (kit_world leads old) (record { op = u; around = Some a }) = keeps u a j o rule.OperandsAreVisible in
      let i = index_of_has u.head.operands v h in
      let l = r.inside a refl i.0 v i.1 in
      sees leads old new t good made names fits typed u a j o v (has_at_index (visible a) l.0 v l.1)

  pub same_types : (xs ys : List Value) → ((v : Value) → Has v ys → new (uses v) ≡ old v) → xs ≡ map uses ys → map new xs ≡ map old ys
  same_types xs ys h e = ap (map new) e ∙ step ys h
    where
      step : (ys : List Value) → ((v : Value) → Has v ys → new (uses v) ≡ old v) → map new (map uses ys) ≡ map old ys
      step [] h = refl
      step (y ∷ ys) h = ap (λ z. z ∷ map new (map uses ys)) (h y (inl refl)) ∙ ap (λ l. old y ∷ l) (step ys (λ v i. h v (inr i)))

  pub operand_types : (u : KitTree) (a : KitAround) (j : ℕ) → Was_ u a j → map new (q u).head.operands ≡ map old u.head.operands
  operand_types u a j o = same_types (q u).head.operands u.head.operands (λ v h. (seen_operand u a j o v h).1) (operands_of u.head.operands)

  pub rule_visible : (s : KitSite) → Comes_ s → rules.OperandsAreVisible (kit_world leads new) s
  rule_visible _ at_root =
      let r : rules.OperandsAreVisible (kit_world leads old) (record { op = t; around = None }) = root_keeps rule.OperandsAreVisible in
      record { inside = λ a e. absurd (none_some a e); root = λ e. operands_of t.head.operands ∙ ap (map uses) (r.root refl) }
  rule_visible _ (below u a j o) = record {
    inside = λ b e. subst (λ (z : KitAround). Every (Lists (visible z)) (q u).head.operands) (some_same (around_of a j) b e)
        (λ k v h.
        let x = map_at uses u.head.operands k v (sym (ap (λ l. slice_get l k) (operands_of u.head.operands)) ∙ h) in
        index_of_has (visible (around_of a j)) v (subst (λ z. Has z (visible (around_of a j))) x.2 (seen_operand u a j o x.0 (has_at_index u.head.operands k x.0 x.1)).0));
    root = λ e. absurd (none_some (around_of a j) (sym e));
  }
  rule_visible _ (constant s c) = record {
    inside = λ b e k v h. absurd (none_some v (ap (λ (z : KitTree). slice_get z.head.operands k) c.is ∙ h));
    root = λ e. absurd (none_some c.around (sym e ∙ c.is_in));
  }

  pub rule_root : (s : KitSite) → Comes_ s → rules.RootIsModule (kit_world leads new) s
  rule_root _ at_root = λ e. let r : rules.RootIsModule (kit_world leads old) (record { op = t; around = None }) = root_keeps rule.RootIsModule in r refl
  rule_root _ (below u a j o) = λ e. absurd (none_some (around_of a j) (sym e))
  rule_root _ (constant s c) = λ e. absurd (none_some c.around (sym e ∙ c.is_in))

  -- the kind of a constant
  pub constant_kind : (s : KitSite) → Put leads old t good made names s → kind_of (kit_world leads new) s.op ≡ ops.Constant
  constant_kind s c = sym (ap (λ (z : KitTree). z.head.content.kind) c.is)

  pub is_kind : (s : KitSite) → Put leads old t good made names s → (k : KitOp) → (ops.Constant ≡ k → ⊥) → kind_of (kit_world leads new) s.op ≡ k → ⊥
  is_kind s c k other e = other (sym (constant_kind s c) ∙ e)

  owner_kind : (s : KitSite) (c : Put leads old t good made names s) (a : KitAround) (k : KitOp) → rules.InKind (kit_world leads new) s k a → k ≡ ops.Func
  owner_kind s c a k h = sym h.1 ∙ (ap (λ (z : KitAround). z.owner.head.content.kind) (some_same a c.around (sym h.0 ∙ c.is_in)) ∙ c.in_function)

  function_body : (u : KitTree) → rules.HasFunctionBody (kit_world leads old) u → rules.HasFunctionBody (kit_world leads new) (q u)
  function_body u h =
      let x = both first_body (slice_get (region_list u.regions) 0) h.entry h.has_entry in
      let region : slice_get (region_list (q_regions made names u.regions)) 0 ≡ Some (q_blocks made names x.0) =
      ap (λ l. slice_get l 0) (regions_put made names u.regions) ∙ map_get (q_blocks made names) (region_list u.regions) 0 x.0 x.1 in
      let block : slice_get (block_list (q_blocks made names x.0)) 0 ≡ Some (q_body made names h.entry) =
      ap (λ l. slice_get l 0) (blocks_put made names x.0) ∙ map_get (q_body made names) (block_list x.0) 0 h.entry x.2 in
      record {
        type = h.type;
        has_type = h.has_type;
        inputs = h.inputs;
        results = h.results;
        entry = q_body made names h.entry;
        has_entry = ap (option_and_then first_body) region ∙ block;
        arguments = holds_of h.entry.label.arguments ∙ h.arguments;
      }

  pub rule_function : (s : KitSite) → Comes_ s → rules.FunctionHasType (kit_world leads new) s
  rule_function _ at_root = λ e.
      let r : rules.FunctionHasType (kit_world leads old) (record { op = t; around = None }) = root_keeps rule.FunctionHasType in function_body t (r e)
  rule_function _ (below u a j o) = λ e.
      let r : rules.FunctionHasType (kit_world leads old) (record { op = u; around = Some a }) = keeps u a j o rule.FunctionHasType in function_body u (r e)
  rule_function _ (constant s c) = λ e. absurd (is_kind s c ops.Func (λ z. cc z) e)

  pub rule_holds : (s : KitSite) → Comes_ s → rules.FunctionHolds (kit_world leads new) s
  rule_holds _ at_root = λ a h. absurd (none_some a h.0)
  rule_holds _ (below u a j o) = λ b h.
      let r : rules.FunctionHolds (kit_world leads old) (record { op = u; around = Some a }) = keeps u a j o rule.FunctionHolds in
      let x = r a (refl, ap (λ (z : KitAround). kind_of (kit_world leads new) z.owner) (some_same (around_of a j) b h.0) ∙ h.1) in
      (x.0, regions_put made names u.regions ∙ ap (map (q_blocks made names)) x.1)
  rule_holds _ (constant s c) = λ b h. (ap is_instruction (constant_kind s c), sym (ap (λ (z : KitTree). region_list z.regions) c.is))

  value_types : (u : KitTree) → Every (λ (b : KitBody). Every (IsValueType (kit_world leads old)) (types_of b.label.arguments)) (bodies_of u) →
      Every (λ (b : KitBody). Every (IsValueType (kit_world leads new)) (types_of b.label.arguments)) (bodies_of (q u))
  value_types u h k b e =
      let x = map_at (q_body made names) (bodies_of u) k b (sym (ap (λ l. slice_get l k) (bodies_put made names u)) ∙ e) in
      subst (λ (z : KitBody). Every (IsValueType (kit_world leads new)) (types_of z.label.arguments)) x.2
      (subst (Every (IsValueType (kit_world leads new))) (sym (holds_of x.0.label.arguments)) (h k x.0 x.1))

  pub rule_values : (s : KitSite) → Comes_ s → rules.ValuesAreIntegers (kit_world leads new) s
  rule_values _ at_root =
      let r : rules.ValuesAreIntegers (kit_world leads old) (record { op = t; around = None }) = root_keeps rule.ValuesAreIntegers in
      record { results = subst (Every (IsValueType (kit_world leads new))) (sym (holds_of t.head.results)) r.results; arguments = value_types t r.arguments }
  rule_values _ (below u a j o) =
      let r : rules.ValuesAreIntegers (kit_world leads old) (record { op = u; around = Some a }) = keeps u a j o rule.ValuesAreIntegers in
      record { results = subst (Every (IsValueType (kit_world leads new))) (sym (holds_of u.head.results)) r.results; arguments = value_types u r.arguments }
  rule_values _ (constant s c) =
      let f = fits c.value c.attribute c.is_made in
      let ty : c.attribute.ty ≡ c.typed.type = some_same c.attribute.ty c.typed.type (sym f.typed ∙ c.typed.was) in
      record {
        results = subst (λ (z : KitTree). Every (IsValueType (kit_world leads new)) (types_of z.head.results)) c.is
            (one c.attribute.ty (subst (IsValueType (kit_world leads new)) (sym ty) c.typed.value));
        arguments = λ k b e. absurd (none_some b (ap (λ (z : KitTree). slice_get (bodies_of z) k) c.is ∙ e));
      }
    where
      one : (ty : TypeHandle) → IsValueType (kit_world leads new) ty → Every (IsValueType (kit_world leads new)) (ty ∷ [])
      one ty h zero x e = subst (IsValueType (kit_world leads new)) (some_same ty x e) h
      one ty h (suc k) x e = absurd (none_some x e)
