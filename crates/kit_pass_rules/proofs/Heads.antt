-- What a head says that has lost operands: its attributes, all but the sizes of its segments.
use Rattle.std.proofs.Common.{◌≡◌, ⊎_elim, inl, inr, ℕ, zero, suc, ◌+◌, ◌-◌, ◌<◌, Bool, true, false, List, [], ◌∷◌, Option, Some, None, option_and_then, slice_get, refl, ap, ◌∙◌, subst, arith}
use Rattle.std.specs.Prelude.{if◌then◌else◌, bytes_eq, nat_eq, min}
use Rattle.ir_base.specs.declared.types.TypeHandle.{TypeHandle}
use Rattle.ir_names.specs.Dictionary.{attribute_at, with_attribute}
use Rattle.ir_names.specs.declared.interfaces.OpInterface.TheVariants as op
use Rattle.ir_names.proofs.Entries.{attribute_at-with_attribute}
use Rattle.ir_program.specs.declared.handles.Value.{Value}
use Rattle.ir_trees.specs.Stands.{by_handle}
use Rattle.kit.specs.Context.{KitTree}
use Rattle.kit.specs.Meaning.{Entries, changed_to, changed_at, dropped_of, without_operands, without_names, range, forwards_of}
use Rattle.kit.specs.Ranges.{range_at}
use Rattle.kit_checks.specs.KitWorld.{kit_world}
use Rattle.kit_checks.specs.Rules.{MayHave, IsCommon}
use Rattle.kit_checks.specs.Words.{Every, is_terminator, symbol_name, own_type, signature, constant_value, callee_name, callee_type, callee_signature, identifier_in, type_in, integer_in, function_type, attribute_of}
use Rattle.kit_ops.specs.declared.attributes.keys.TheConstants.{SYMBOL_NAME, FUNCTION_TYPE, CONSTANT_VALUE, CALLEE, CALLEE_TYPE}
use Rattle.kit_ops.specs.declared.attributes.KitAttr.{KitAttr}
use Rattle.kit_ops.specs.declared.attributes.KitAttr.TheVariants as attrs
use Rattle.kit_ops.specs.declared.kinds.KitOp.{KitOp}
use Rattle.kit_ops.specs.declared.kinds.KitOp.TheVariants as ops
use Rattle.kit_ops.specs.declared.types.KitType.{KitType}
use Rattle.kit_ops.specs.Keys as keys
use Rattle.kit_ops.specs.Table.{has_interface}
use Rattle.kit_pass_rules.proofs.Thin.{thin_tree}
use Rattle.opt_trees.specs.Dce.{Gone}
use Rattle.opt_trees.proofs.Lists.{some_same, none_some}

-- ---- lookups

changed_lookup : (es : Entries) (f : KitAttr → KitAttr) (key : List ℕ) (o : Option KitAttr) → bytes_eq keys.segment_sizes key ≡ false →
    attribute_at (changed_to es keys.segment_sizes f o) key ≡ attribute_at es key
changed_lookup es f key None q = refl
changed_lookup es f key (Some a) q = attribute_at-with_attribute es keys.segment_sizes (f a) key ∙ ap (λ (b : Bool). if b then Some (f a) else attribute_at es key) q

dropped_lookup : (k : KitOp) (p : ℕ → Bool) (es : Entries) (key : List ℕ) → bytes_eq keys.segment_sizes key ≡ false → attribute_at (dropped_of k p es) key ≡ attribute_at es key
dropped_lookup ops.CondBr p es key q = changed_lookup es (without_operands p) key (attribute_at es keys.segment_sizes) q
dropped_lookup k p es key q = refl

module _ (leads : TypeHandle → Option KitType) (old new : Value → Option TypeHandle) (g : Gone by_handle) (u : KitTree) where
  pub attribute_same : (key : List ℕ) → bytes_eq keys.segment_sizes key ≡ false → attribute_of (kit_world leads new) (thin_tree g u) key ≡ attribute_of (kit_world leads old) u key
  attribute_same key q = dropped_lookup u.head.content.kind (g.operand u.head.name) u.head.content.notes.attributes key q

  pub symbol_same : symbol_name (kit_world leads new) (thin_tree g u) ≡ symbol_name (kit_world leads old) u
  symbol_same = ap (option_and_then identifier_in) (attribute_same SYMBOL_NAME.now refl)

  pub own_type_same : own_type (kit_world leads new) (thin_tree g u) ≡ own_type (kit_world leads old) u
  own_type_same = ap (option_and_then type_in) (attribute_same FUNCTION_TYPE.now refl)

  pub signature_same : signature (kit_world leads new) (thin_tree g u) ≡ signature (kit_world leads old) u
  signature_same = ap (option_and_then (function_type (kit_world leads old))) own_type_same

  pub constant_same : constant_value (kit_world leads new) (thin_tree g u) ≡ constant_value (kit_world leads old) u
  constant_same = ap (option_and_then integer_in) (attribute_same CONSTANT_VALUE.now refl)

  pub callee_same : callee_name (kit_world leads new) (thin_tree g u) ≡ callee_name (kit_world leads old) u
  callee_same = ap (option_and_then identifier_in) (attribute_same CALLEE.now refl)

  pub callee_type_same : callee_type (kit_world leads new) (thin_tree g u) ≡ callee_type (kit_world leads old) u
  callee_type_same = ap (option_and_then type_in) (attribute_same CALLEE_TYPE.now refl)

  pub callee_signature_same : callee_signature (kit_world leads new) (thin_tree g u) ≡ callee_signature (kit_world leads old) u
  callee_signature_same = ap (option_and_then (function_type (kit_world leads old))) callee_type_same

-- ---- what entries are

-- where the attribute under a key is changed, each entry is one that was there, or one that was there, changed
module _ (P : List ℕ × KitAttr → Type 0) (f : KitAttr → KitAttr) (key : List ℕ) where
  all_behind : (e : List ℕ × KitAttr) (es : Entries) → Every P (e ∷ es) → Every P es
  all_behind e es h k x q = h (suc k) x q

  all_first : (e : List ℕ × KitAttr) (es : Entries) → P e → Every P es → Every P (e ∷ es)
  all_first e es p h zero x q = subst P (some_same e x q) p
  all_first e es p h (suc k) x q = h k x q

  put_every : (es : Entries) (a : KitAttr) → attribute_at es key ≡ Some a → Every P es → ((e : List ℕ × KitAttr) → P e → P (e.0, f e.1)) →
      Every P (with_attribute es key (f a))
  put_every [] a q h c = absurd (none_some a q)
  put_every (e ∷ es) a q h c = step (bytes_eq key e.0) q (λ z. put_every es a z (all_behind e es h) c)
    where
      step : (b : Bool) → (if b then Some e.1 else attribute_at es key) ≡ Some a → (attribute_at es key ≡ Some a → Every P (with_attribute es key (f a))) →
          Every P (if b then (e.0, f a) ∷ es else e ∷ with_attribute es key (f a))
      step true z ih = all_first (e.0, f a) es (subst (λ x. P (e.0, f x)) (some_same e.1 a z) (c e (h 0 e refl))) (all_behind e es h)
      step false z ih = all_first e (with_attribute es key (f a)) (h 0 e refl) (ih z)

  changed_case : (es : Entries) (o : Option KitAttr) → attribute_at es key ≡ o → Every P es → ((e : List ℕ × KitAttr) → P e → P (e.0, f e.1)) → Every P (changed_to es key f o)
  changed_case es None q h c = h
  changed_case es (Some a) q h c = put_every es a q h c

  pub changed_every : (es : Entries) → Every P es → ((e : List ℕ × KitAttr) → P e → P (e.0, f e.1)) → Every P (changed_at es key f)
  changed_every es h c = changed_case es (attribute_at es key) refl h c

common_less : (p : ℕ → Bool) (key : List ℕ) (a : KitAttr) → IsCommon (key, a) → IsCommon (key, without_operands p a)
common_less p key (attrs.SegmentSizes sizes) h = absurd h
common_less p key (attrs.GivenNames names) h = h
common_less p key (attrs.Note text) h = h
common_less p key (attrs.Origin text) h = h
common_less p key a h = absurd h

pub common_named : (p : ℕ → Bool) (e : List ℕ × KitAttr) → IsCommon e → IsCommon (e.0, without_names p e.1)
common_named p (key, attrs.GivenNames names) h = h
common_named p (key, attrs.Note text) h = h
common_named p (key, attrs.Origin text) h = h
common_named p (key, a) h = absurd h

pub attributes_kept : (k : KitOp) (p : ℕ → Bool) (es : Entries) → Every (MayHave k) es → Every (MayHave k) (dropped_of k p es)
attributes_kept ops.CondBr p es h = changed_every (MayHave ops.CondBr) (without_operands p) keys.segment_sizes es h
    (λ e m. ⊎_elim (λ own. inl own) (λ common. inr (common_less p e.0 e.1 common)) m)
attributes_kept k p es h = h

-- ---- kinds

pub ends : (k : KitOp) → is_terminator k ≡ true → has_interface k op.IsTerminator ≡ true
ends ops.Br e = refl
ends ops.CondBr e = refl
ends ops.Return e = refl
ends k e = absurd (cc e)

-- the condition isn't forwarded
pub not_condition : (first n s k i : ℕ) → slice_get (forwards_of ops.CondBr first n s) k ≡ Some i → 0 < i
not_condition first n s k i e = step (nat_eq s 0) (nat_eq s 1) e
  where
    step : (b c : Bool) → slice_get (if b then range 1 (min first (n - 1)) else (if c then range (1 + first) (n - (1 + first)) else [])) k ≡ Some i → 0 < i
    step true c e = let r = range_at 1 (min first (n - 1)) k i e in let a : i ≡ 1 + k = r.0 in omega arith
    step false true e = let r = range_at (1 + first) (n - (1 + first)) k i e in let a : i ≡ (1 + first) + k = r.0 in omega arith
    step false false e = absurd (none_some i e)
