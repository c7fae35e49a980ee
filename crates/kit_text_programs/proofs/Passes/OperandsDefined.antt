-- Operands in the tree of a sound module are defined in it.
use Rattle.std.proofs.Common.{⊎_elim, ℕ, List, Option, sym, subst}
use Rattle.ir_base.specs.declared.types.TypeHandle.{TypeHandle}
use Rattle.ir_trees.specs.Names.{Names}
use Rattle.ir_trees.specs.Trees.{Root}
use Rattle.opt_trees.specs.Occurrences.{Has, Occurrence, at_root, occurrences_of, defined_in}
use Rattle.opt_trees.proofs.Defined.{definer, result_defined, argument_defined}
use Rattle.opt_trees.proofs.Lists.{has-from_map}
use Rattle.kit_ops.specs.declared.types.KitType.{KitType}
use Rattle.kit_views.specs.Reading.{kit_contents}
use Rattle.kit_ruled_views.specs.Sound.{tree_of, IsHolder, IsInFunction, IsSound}
use Rattle.kit_ruled_views.proofs.programs.Inside.{Function, function_at, up, up_block, inside_up, there, block_there}

module _ {N : Names} (leads : TypeHandle → Option KitType) (numbered : List ℕ → ℕ) (type_at : N.value → TypeHandle)
    (t : Root N kit_contents) (sound : IsSound {N = N} leads numbered type_at t) where
  -- what is defined in a function is defined in the module
  inside_defined : (o : Occurrence N kit_contents) → Function {N = N} leads numbered type_at t sound o → (x : N.value) →
      Has x (defined_in o.regions) → Has x (defined_in t.regions)
  inside_defined o fn x h =
      ⊎_elim
      (λ z. result_defined t.regions (at_root t) (up {N = N} leads numbered type_at t sound o z.it) x
      (there {N = N} leads numbered type_at t sound o fn z.it z.stands) z.value)
      (λ z. argument_defined t.regions (at_root t) (up_block {N = N} leads numbered type_at t sound o z.it) x
      (block_there {N = N} leads numbered type_at t sound o fn z.it z.stands) z.value)
      (definer o.regions (at_root (tree_of o)) x h)

  pub defined : (o : Occurrence N kit_contents) → Has o (occurrences_of t) → (v : N.value) → Has v o.head.operands →
      Has v (defined_in t.regions)
  defined o h v m =
      ⊎_elim
      (λ (z : IsHolder {N = N} o). absurd (subst (Has v) z.no_operands m))
      (λ (z : IsInFunction {N = N} t o).
      let f : Occurrence N kit_contents = z.function in
      let fn : Function {N = N} leads numbered type_at t sound f =
      function_at {N = N} leads numbered type_at t sound f z.stands z.is in
      let s = has-from_map (up {N = N} leads numbered type_at t sound f) o (occurrences_of (tree_of f))
      (subst (Has o) (inside_up {N = N} leads numbered type_at t sound f fn) z.inside) in
      inside_defined f fn v (fn.sound_function.is_typed.operands s.it v s.stands
      (subst (λ (x : Occurrence N kit_contents). Has v x.head.operands) (sym s.is) m)))
      (sound.others o h)

-- an operand is defined in the tree
pub operand_defined : {N : Names} (leads : TypeHandle → Option KitType) (numbered : List ℕ → ℕ)
    (type_at : N.value → TypeHandle) (t : Root N kit_contents) → IsSound {N = N} leads numbered type_at t →
    (o : Occurrence N kit_contents) → Has o (occurrences_of t) → (v : N.value) → Has v o.head.operands →
    Has v (defined_in t.regions)
operand_defined {N} leads numbered type_at t sound = defined {N = N} leads numbered type_at t sound
