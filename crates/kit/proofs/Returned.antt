-- The types of the results of a function type are shown by those of the members of its second list.
use Rattle.std.proofs.Common.{◌≡◌, ℕ, ◌^◌, List, [], ◌∷◌, Some, slice_get, nat_lt, sym, ap, ◌∙◌, subst}
use Rattle.std.proofs.lemmas.Option.{some_pair_parts}
use Rattle.ir_base.specs.declared.types.TypeHandle.{TypeHandle}
use Rattle.ir_names.specs.Tree.{Trees, node, no_tree, a_tree}
use Rattle.ir_print.specs.Pieces.{value_of_kind, list, item, width, ValueTree, Pieces}
use Rattle.ir_print.specs.Shown.{Said, said_type, said_leaf, said_list, said_item, alone, Pairs, ShowsAll, ShowsType}
use Rattle.kit_ops.specs.declared.types.KitType.{KitType}
use Rattle.kit_ops.specs.declared.types.KitType.TheVariants as keys
use Rattle.kit_ops.specs.declared.attributes.KitAttr.{KitAttr}
use Rattle.kit.specs.Making.{returned_by}
use Rattle.kit.specs.Readable.{said_if}
use Rattle.kit.specs.Says.{says, one, two, types_said, said_of_type, member_types, types_returned}
use Rattle.ir_print.specs.declared.format.ValueSort.TheVariants as sorts
use Rattle.kit.specs.Seen.{seen, one_seen, two_seen}

module _ (types : List KitType) where
  -- a list of types is shown by the types of its members
  members_typed : (tys : List TypeHandle) (ms : Pieces) → ShowsAll says types (types_said tys) ms
      → Pairs (ShowsType says types) tys (member_types ms)
  members_typed [] no_tree h = tt
  members_typed [] (a_tree t ts) h = absurd h
  members_typed (ty ∷ tys) no_tree h = absurd h
  members_typed (ty ∷ tys) (a_tree t ts) h =
      let member = seen says types (node said_item (one (alone (said_type ty)))) t h.0 in
      let type = one_seen says types (alone (said_type ty)) member.0 member.2 in
      let shown : ShowsType says types ty type.0 =
      subst (λ (v : ValueTree). ShowsType says types ty v) (sym type.2.2) type.2.3 in
      let is : t ≡ node item (a_tree type.0 no_tree) = member.1 ∙ ap (λ (us : Pieces). node item us) type.1 in
      subst (λ (v : ValueTree). Pairs (ShowsType says types) (ty ∷ tys) (member_types (a_tree v ts))) (sym is)
      (shown, members_typed tys ts h.1)

  abbrev AreReturned : KitType → ℕ → Pieces → Type 0
  AreReturned key n ts =
      Pairs (ShowsType says types) (returned_by (Some key)) (types_returned (node (value_of_kind sorts.«Type» n) ts))

  -- those of a key are those of what it says
  key_returns : (key : KitType) (n : ℕ) (us : Trees (Said KitAttr)) (ts : Pieces) → said_of_type key ≡ Some (n, us)
      → ShowsAll says types us ts → AreReturned key n ts
  key_returns (keys.Integer t) n us ts e h =
      let said = said_if (nat_lt t.width (2 ^ 32)) (Some (0, one (alone (said_leaf (width t.signedness t.width))))) n us e in
      let same = some_pair_parts 0 n (one (alone (said_leaf (width t.signedness t.width)))) us said.1 in
      subst (λ (m : ℕ). AreReturned (keys.Integer t) m ts) same.0 tt
  key_returns (keys.Function f) n us ts e h =
      let first = node said_list (types_said f.inputs.items) in
      let second = node said_list (types_said f.results.items) in
      let same = some_pair_parts 1 n (two first second) us e in
      let shown = subst (λ (vs : Trees (Said KitAttr)). ShowsAll says types vs ts) (sym same.1) h in
      let pieces = two_seen says types first second ts shown in
      let is : ts ≡ a_tree pieces.0 (a_tree (node list pieces.4.0) no_tree) =
      pieces.2 ∙ ap (λ (v : ValueTree). a_tree pieces.0 (a_tree v no_tree)) pieces.4.1 in
      subst (λ (m : ℕ). AreReturned (keys.Function f) m ts) same.0
      (subst (λ (vs : Pieces). AreReturned (keys.Function f) 1 vs) (sym is)
      (members_typed f.results.items pieces.4.0 pieces.4.2))
  key_returns keys.Unit n us ts e h =
      let same = some_pair_parts 2 n no_tree us e in subst (λ (m : ℕ). AreReturned keys.Unit m ts) same.0 tt

  -- and those under a handle are those of the type that it shows
  pub returned_shown : (ty : TypeHandle) (n : ℕ) (ts : Pieces) → ShowsType says types ty (node (value_of_kind sorts.«Type» n) ts)
      → Pairs (ShowsType says types) (returned_by (slice_get types ty.number))
      (types_returned (node (value_of_kind sorts.«Type» n) ts))
  returned_shown ty n ts h =
      let same : h.0 ≡ ty = let f = h.3 in cc in
      let key : Some h.1 ≡ slice_get types ty.number =
      sym (ap (λ (x : TypeHandle). slice_get types x.number) (sym same) ∙ h.4) in
      subst (λ o. Pairs (ShowsType says types) (returned_by o) (types_returned (node (value_of_kind sorts.«Type» n) ts))) key
      (key_returns h.1 n h.2 ts h.5 h.6)
