-- In trees that say the same the same is known of operands: those of constants, where exactly these are known.
use Rattle.std.proofs.Common.{◌≡◌, ℕ, List, Option, Some, option_and_then, option_map, slice_get, sym, ap, ◌∙◌, subst}
use Rattle.ir_base.specs.declared.types.TypeHandle.{TypeHandle}
use Rattle.ir_names.specs.Dictionary.{attribute_at}
use Rattle.ir_trees.specs.Names.{Names}
use Rattle.ir_trees.specs.Renames.{rename_root, names_of}
use Rattle.ir_trees.specs.Trees.{Root}
use Rattle.opt_trees.specs.Dce.{TreeSurroundings}
use Rattle.opt_trees.specs.Occurrences.{Has, Occurrence, occurrences_of, defined_in, rename_occurrence, Renaming, maps}
use Rattle.opt_trees.proofs.Lists.{at-map, has-map, has-apart, some_same, from_some, option_both}
use Rattle.opt_meanings.specs.Laws.{KnowAlike}
use Rattle.opt_meanings.specs.Meanings.{Bijection, mean_root, worded_around}
use Rattle.opt_meanings.proofs.Said.{operation_from}
use Rattle.kit_ops.specs.Keys.{constant_value}
use Rattle.kit_ops.specs.declared.attributes.IntegerAttr.{IntegerAttr}
use Rattle.kit_ops.specs.declared.types.KitType.{KitType}
use Rattle.kit_views.specs.FlatBranches.{KnowsConstants}
use Rattle.kit_views.specs.Reading.{kit_contents}
use Rattle.kit_views.proofs.Lists.{has_get}
use Rattle.kit_ruled_views.specs.Sound.{IsSound}
use Rattle.kit_text_programs.specs.Meanings.{sayings, Number, number_meant, attribute_meant, meanings, integers}
use Rattle.kit_text_programs.specs.Meanings.{kit_said}
use Rattle.kit_text_programs.proofs.Passes.Beside.{Beside, from_one, from_other, one_kind, results_are, attributes_are}
use Rattle.kit_text_programs.proofs.Passes.Beside.{operations_are}
use Rattle.kit_text_programs.proofs.Passes.IntegersMeant.{means_number}
use Rattle.kit_text_programs.proofs.Passes.OperandsDefined.{operand_defined}

module _ {N : Names} (c e : TypeHandle → ℕ) (r : Renaming N N) (t u : Root N kit_contents)
    (same : rename_root (maps r) (mean_root (meanings c) t) ≡ mean_root (meanings e) u) (w z : TreeSurroundings N IntegerAttr)
    (knows : KnowsConstants w t) (knows_other : KnowsConstants z u) where
  abbrev Op : Type 0
  Op = Occurrence N kit_contents

  abbrev Said : Type 0
  Said = Occurrence N sayings

  module _ (v : N.value) (here : Has v (defined_in t.regions)) (there : Has (r.value.to v) (defined_in u.regions))
    where
      -- what is known of a value of the one tree is known of that of the other
      forth : (n : Number) → option_map (number_meant c) (w.alone v) ≡ Some n →
          option_map (number_meant e) (z.alone (r.value.to v)) ≡ Some n
      forth n h =
          let a = from_some (number_meant c) (w.alone v) n h in
          let k = (knows v a.it here).0 a.some in
          let b = from_one {N = N} c e r t u same k.definer k.stands in
          let q : Op = b.0 in
          let b1 : Beside {N = N} c e r t u same k.definer q = b.1 in
          let m = means_number e (number_meant c a.it) (attribute_at q.head.content.notes.attributes constant_value)
          (sym (attributes_are {N = N} c e r t u same k.definer q b1 constant_value)
          ∙ ap (option_and_then (attribute_meant c)) k.value) in
          let known : z.alone (r.value.to v) ≡ Some m.it = (knows_other (r.value.to v) m.it there).1 (record {
            definer = q;
            stands = b1.other;
            constant = sym (one_kind {N = N} c e r t u same k.definer q b1) ∙ k.constant;
            result = subst (Has (r.value.to v)) (sym (results_are {N = N} c e r t u same k.definer q b1))
                (has-map r.value.to v (names_of k.definer.head.results) k.result);
            value = m.some;
          }) in
          ap (option_map (number_meant e)) known ∙ ap Some (m.is ∙ a.is)

      -- and the other way round
      back : (n : Number) → option_map (number_meant e) (z.alone (r.value.to v)) ≡ Some n →
          option_map (number_meant c) (w.alone v) ≡ Some n
      back n h =
          let a = from_some (number_meant e) (z.alone (r.value.to v)) n h in
          let k = (knows_other (r.value.to v) a.it there).0 a.some in
          let b = from_other {N = N} c e r t u same k.definer k.stands in
          let o : Op = b.0 in
          let b1 : Beside {N = N} c e r t u same o k.definer = b.1 in
          let m = means_number c (number_meant e a.it) (attribute_at o.head.content.notes.attributes constant_value)
          (attributes_are {N = N} c e r t u same o k.definer b1 constant_value
          ∙ ap (option_and_then (attribute_meant e)) k.value) in
          let known : w.alone v ≡ Some m.it = (knows v m.it here).1 (record {
            definer = o;
            stands = b1.stands;
            constant = one_kind {N = N} c e r t u same o k.definer b1 ∙ k.constant;
            result = has-apart r.value v (names_of o.head.results)
                (subst (Has (r.value.to v)) (results_are {N = N} c e r t u same o k.definer b1) k.result);
            value = m.some;
          }) in
          ap (option_map (number_meant c)) known ∙ ap Some (m.is ∙ a.is)

      -- the same is known of both
      known_both : option_map (number_meant c) (w.alone v) ≡ option_map (number_meant e) (z.alone (r.value.to v))
      known_both =
          option_both (option_map (number_meant c) (w.alone v)) (option_map (number_meant e) (z.alone (r.value.to v)))
          forth back

  -- operands at one place of operations at one place are one under other names
  module _ (i j : ℕ) (o p : Said) (v x : N.value)
      (at_one : slice_get (occurrences_of (mean_root (meanings c) t)) i ≡ Some o)
      (at_other : slice_get (occurrences_of (mean_root (meanings e) u)) i ≡ Some p)
      (takes : slice_get o.head.operands j ≡ Some v) (takes_other : slice_get p.head.operands j ≡ Some x) where
    operation_is : rename_occurrence (maps r) o ≡ p
    operation_is = some_same (rename_occurrence (maps r) o) p
        (sym (ap (option_map (rename_occurrence (maps r))) at_one)
        ∙ sym (at-map (rename_occurrence (maps r)) (occurrences_of (mean_root (meanings c) t)) i)
        ∙ sym (ap (λ l. slice_get l i) (operations_are {N = N} c e r t u same)) ∙ at_other)

    operand_is : r.value.to v ≡ x
    operand_is = some_same (r.value.to v) x
        (sym (ap (option_map r.value.to) takes) ∙ sym (at-map r.value.to o.head.operands j)
        ∙ ap (λ (q : Said). slice_get q.head.operands j) operation_is ∙ takes_other)

  -- an operand of what a sound tree means is defined in the tree
  said_operand : (number : TypeHandle → ℕ) (s : Root N kit_contents) →
      ((o : Op) → Has o (occurrences_of s) → (v : N.value) → Has v o.head.operands → Has v (defined_in s.regions)) →
      (i j : ℕ) (o : Said) (v : N.value) → slice_get (occurrences_of (mean_root (meanings number) s)) i ≡ Some o →
      slice_get o.head.operands j ≡ Some v → Has v (defined_in s.regions)
  said_operand number s defined i j o v at takes =
      let p = operation_from (meanings number) s o
      (has_get (occurrences_of (mean_root (meanings number) s)) i o at) in
      defined p.it p.stands v (subst (λ (q : Said). Has v q.head.operands) (sym p.is)
      (has_get o.head.operands j v takes))

-- of operands at one place of two sound trees that say the same the same is known
pub known_alike : {N : Names} (leads others : TypeHandle → Option KitType) (numbered other_numbered : List ℕ → ℕ)
    (type_at other_type_at : N.value → TypeHandle) (c e : Bijection TypeHandle ℕ) (r : Renaming N N)
    (t u : Root N kit_contents) →
    rename_root (maps r) (mean_root (meanings c.to) t) ≡ mean_root (meanings e.to) u →
    IsSound {N = N} leads numbered type_at t → IsSound {N = N} others other_numbered other_type_at u →
    (w z : TreeSurroundings N IntegerAttr) → KnowsConstants w t → KnowsConstants z u →
    KnowAlike kit_said (worded_around (integers c) w) (worded_around (integers e) z)
    (mean_root (meanings c.to) t) (mean_root (meanings e.to) u)
known_alike {N} leads others numbered other_numbered type_at other_type_at c e r t u same sound other_sound w z knows
    knows_other i j o p v x at_one at_other is_branch takes takes_other =
    let is : r.value.to v ≡ x =
    operand_is {N = N} c.to e.to r t u same w z knows knows_other i j o p v x at_one at_other takes takes_other in
    let here : Has v (defined_in t.regions) =
    said_operand {N = N} c.to e.to r t u same w z knows knows_other c.to t
    (operand_defined {N = N} leads numbered type_at t sound) i j o v at_one takes in
    let there : Has x (defined_in u.regions) =
    said_operand {N = N} c.to e.to r t u same w z knows knows_other e.to u
    (operand_defined {N = N} others other_numbered other_type_at u other_sound) i j p x at_other takes_other in
    known_both {N = N} c.to e.to r t u same w z knows knows_other v here
    (subst (λ y. Has y (defined_in u.regions)) (sym is) there)
    ∙ ap (λ y. option_map (number_meant e.to) (z.alone y)) is
