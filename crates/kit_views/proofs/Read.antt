-- What a dialect says of operations is said by the kinds that are read.
use Rattle.std.proofs.Common.{◌≡◌, ℕ, Bool, List, refl, ap, ◌∙◌}
use Rattle.std.specs.Prelude.{not, ◌&&◌}
use Rattle.ir_base.specs.declared.types.TypeHandle.{TypeHandle}
use Rattle.ir_names.specs.declared.interfaces.OpInterface.TheVariants as op
use Rattle.ir_trees.specs.Names.{Contents}
use Rattle.opt_trees.specs.Dialect.{Dialect}
use Rattle.kit_ops.specs.declared.kinds.KitOp.{KitOp}
use Rattle.kit_ops.specs.declared.kinds.KitOp.TheVariants as ops
use Rattle.kit_ops.specs.declared.types.KitType.{KitType}
use Rattle.std.specs.Prelude.{Option}
use Rattle.kit.specs.Dropped.{kept}
use Rattle.kit.specs.Entries.{first_left}
use Rattle.kit.specs.Meaning.{Entries, kit, forwards_of, is_function, dropped_of, first_size}
use Rattle.kit_ops.specs.Table.{row_of, has_interface}
use Rattle.kit_views.specs.Reading.{Reading, kit_reading}

pub record Reads {S : Contents} {A : Type 0} (d : Dialect S A) (r : Reading S) : Type 0 where
  pub effects : (c : S.of_operation) → d.has_effects c ≡ (row_of (r.kind c)).has_effects
  pub ends : (c : S.of_operation) → d.is_terminator c ≡ has_interface (r.kind c) op.IsTerminator
  pub branches : (c : S.of_operation) → d.is_branch c ≡ has_interface (r.kind c) op.Branch
  pub forwards : (c : S.of_operation) (n s : ℕ) → d.forwards c n s ≡ forwards_of (r.kind c) (r.first c) n s
  pub removes : (c : S.of_operation) (region : ℕ) (first : Bool) → d.can_remove c region first ≡ is_function (r.kind c) && not first
  pub drops_kind : (c : S.of_operation) (p : ℕ → Bool) → r.kind (d.drop_operands c p) ≡ r.kind c
  pub drops_first : (c : S.of_operation) (p : ℕ → Bool) → r.kind c ≡ ops.CondBr → r.first (d.drop_operands c p) ≡ kept p 1 (r.first c)
  pub drops_others : (c : S.of_operation) (p : ℕ → Bool) → (r.kind c ≡ ops.CondBr → ⊥) → d.drop_operands c p ≡ c

others_stay : (k : KitOp) (p : ℕ → Bool) (es : Entries) → (k ≡ ops.CondBr → ⊥) → dropped_of k p es ≡ es
others_stay ops.CondBr p es h = absurd (h refl)
others_stay k p es h = refl

pub kit_reads : (leads : TypeHandle → Option KitType) (numbered : List ℕ → ℕ) → Reads kit (kit_reading leads numbered)
kit_reads leads numbered = record {
  effects = λ c. refl;
  ends = λ c. refl;
  branches = λ c. refl;
  forwards = λ c n s. refl;
  removes = λ c region first. refl;
  drops_kind = λ c p. refl;
  drops_first = λ c p e. ap (λ k. first_size (dropped_of k p c.notes.attributes)) e ∙ first_left p c.notes.attributes;
  drops_others = λ c p h. ap (λ es. record c { notes = record c.notes { attributes = es } }) (others_stay c.kind p c.notes.attributes h);
}
