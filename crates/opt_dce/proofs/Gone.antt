-- What is dead is below the root, and where nothing is dead the tree without it is the tree itself.
use Rattle.std.proofs.Common.{◌≡◌, ⊎_elim, ℕ, zero, suc, ◌<◌, Bool, true, false, List, [], ◌∷◌, map, Option, Some, None, option_map, unwrap_or, slice_get, refl, sym, ap, ◌∙◌, subst}
use Rattle.std.proofs.lemmas.Option.{slice_get_within}
use Rattle.std.specs.Prelude.{if◌then◌else◌}
use Rattle.ir_program.specs.Definers.{values_at}
use Rattle.ir_program.specs.Erased.{definer_node}
use Rattle.ir_program.specs.Lists.{StandsInside}
use Rattle.ir_program.specs.Program.{Program, TypedValue, BlockView, value_in}
use Rattle.ir_program.specs.declared.handles.IRNode.TheVariants.{Operation as OperationNode}
use Rattle.ir_program.specs.declared.handles.DefiningEntity.{DefiningEntity}
use Rattle.ir_program.specs.declared.handles.DefiningEntity.TheVariants.{Block as ByBlock}
use Rattle.ir_program.specs.declared.handles.Ptr.{Ptr}
use Rattle.ir_program.specs.declared.handles.Operation.{Operation}
use Rattle.ir_program.specs.declared.handles.Value.{Value}
use Rattle.ir_trees.specs.Names.{Names, Contents}
use Rattle.ir_trees.specs.Renames.{names_of}
use Rattle.ir_trees.specs.Stands.{by_handle, in_program, ProgramTree, defined_by}
use Rattle.ir_trees.specs.Trees.{Defined, Head, Label, Sort, Operations, Blocks, Regions, Tree, end, operation, block, region, Root}
use Rattle.ir_trees.proofs.Members.{has_at, has_either}
use Rattle.opt_trees.specs.Dialect.{Dialect, drop, Lawful}
use Rattle.opt_trees.specs.Dce.{TreeSurroundings, Gone, Item, Whole, Slot, May, IsDead, dies, IsGoneExactly, gone_at, thin, thin_head, thin_label}
use Rattle.opt_trees.specs.Occurrences.{Has, Inside, Occurrence, BlockOccurrence, inner, next_block, next_region, at_root, occurrences_in, block_occurrences_in, occurrences_of, block_occurrences_of}
use Rattle.opt_inside.specs.Occurring.{Found, FoundBlock, IsBelowRoot, IsOccurrence, IsBlockOccurrence}
use Rattle.opt_dce.specs.liveness.Plans.{IsPlan}
use Rattle.opt_dce.specs.declared.liveness.plan.DeadPlan.{DeadPlan}
use Rattle.opt_dce.specs.Steps.{GoesBelowRoot}
use Rattle.opt_dce.specs.Thins.{IsIdle}
use Rattle.opt_dce.proofs.Picking.{not_true, drop_none}
use Rattle.opt_dce.proofs.Thinned.{was_at, at_value}
use Rattle.opt_dce.proofs.Turns.{there_within}

named_at : (ts : List TypedValue) (k : ℕ) → slice_get (names_of (map defined_by ts)) k ≡ value_in ts k
named_at [] k = refl
named_at (t ∷ ts) zero = refl
named_at (t ∷ ts) (suc k) = named_at ts k

module _ {N : Names} {S : Contents} {A : Type 0} (d : Dialect S A) (g : Gone N) where
  -- where nothing goes the tree stays
  module _ (law : Lawful d) (no_item : (x : Item N) → g.item x ≡ false) (no_operand : (a : N.operation) (i : ℕ) → g.operand a i ≡ false) where
    none_at : (o : Option (Defined N.value S.of_value)) → gone_at g o ≡ false
    none_at None = refl
    none_at (Some v) = no_item (Slot v.name)

    head_stays : (h : Head N S) → thin_head d g h ≡ h
    head_stays h =
        let none : g.operand h.name ≡ (λ i. false) = λ j i. no_operand h.name i j in
        ap (λ (p : ℕ → Bool). record h { content = d.drop_operands h.content p; operands = drop p h.operands }) none
        ∙ (λ j. record h { content = law.drop_no_operands h.content j; operands = drop_none h.operands j })

    label_stays : (l : Label N S) → thin_label d g l ≡ l
    label_stays l =
        let none : (λ i. gone_at g (slice_get l.arguments i)) ≡ (λ i. false) = λ j i. none_at (slice_get l.arguments i) j in
        ap (λ (p : ℕ → Bool). record l { content = d.drop_names l.content p; arguments = drop p l.arguments }) none
        ∙ (λ j. record l { content = law.drop_no_names l.content j; arguments = drop_none l.arguments j })

    pub all_stays : (s : Sort) (t : Tree N S s) → thin d g t ≡ t
    all_stays _ end = refl
    all_stays _ (operation h rs rest) =
        let head = head_stays h in
        let below = all_stays Regions rs in
        let later = all_stays Operations rest in
        ap (λ (b : Bool). if b then thin d g rest else operation (thin_head d g h) (thin d g rs) (thin d g rest)) (no_item (Whole h.name)) ∙ (λ j. operation (head j) (below j) (later j))
    all_stays _ (block l ops rest) =
        let label = label_stays l in
        let inside = all_stays Operations ops in
        let later = all_stays Blocks rest in
        λ j. block (label j) (inside j) (later j)
    all_stays _ (region bs rest) =
        let inside = all_stays Blocks bs in
        let later = all_stays Regions rest in
        λ j. region (inside j) (later j)

  -- what is left doesn't go
  none_left : (s : Sort) (t : Tree N S s) (i : Inside N S s) (o : Occurrence N S) → Has o (occurrences_in (thin d g t) i) → g.item (Whole o.head.name) ≡ false
  none_left _ end i o h = absurd h
  none_left _ (operation hd rs rest) i o h = by_case (none_left Operations rest i o) (none_left Regions rs (inner (thin_head d g hd) i) o) (g.item (Whole hd.name)) refl h where
    by_case : (Has o (occurrences_in (thin d g rest) i) → g.item (Whole o.head.name) ≡ false) → (Has o (occurrences_in (thin d g rs) (inner (thin_head d g hd) i)) → g.item (Whole o.head.name) ≡ false) → (b : Bool) → g.item (Whole hd.name) ≡ b → Has o (occurrences_in (if b then thin d g rest else operation (thin_head d g hd) (thin d g rs) (thin d g rest)) i) → g.item (Whole o.head.name) ≡ false
    by_case later below true e h = later h
    by_case later below false e h = ⊎_elim
        (λ same. ap (λ (x : Occurrence N S). g.item (Whole x.head.name)) same ∙ e)
        (λ more. ⊎_elim below later (has_either (occurrences_in (thin d g rs) (inner (thin_head d g hd) i)) (occurrences_in (thin d g rest) i) o more))
        h
  none_left _ (block l ops rest) i o h = ⊎_elim
      (none_left Operations ops (record { spot = i; label = thin_label d g l }) o)
      (none_left Blocks rest (next_block i) o)
      (has_either (occurrences_in (thin d g ops) (record { spot = i; label = thin_label d g l })) (occurrences_in (thin d g rest) (next_block i)) o h)
  none_left _ (region bs rest) i o h = ⊎_elim
      (none_left Blocks bs i o)
      (none_left Regions rest (next_region i) o)
      (has_either (occurrences_in (thin d g bs) i) (occurrences_in (thin d g rest) (next_region i)) o h)

  stays_at : (l : Label N S) (v : N.value) (x : Defined N.value S.of_value) (j : ℕ) → x.name ≡ v → slice_get l.arguments j ≡ Some x → gone_at g (slice_get l.arguments j) ≡ false → g.item (Slot v) ≡ false
  stays_at l v x j name at out = ap (λ (n : N.value). g.item (Slot n)) (sym name) ∙ ap (gone_at g) (sym at) ∙ out

  -- a definition that stays isn't gone
  argument_left : (l : Label N S) (v : N.value) → Has v (names_of (thin_label d g l).arguments) → g.item (Slot v) ≡ false
  argument_left l v h =
      let k = has_at (names_of (thin_label d g l).arguments) v h in
      let x = named_from (thin_label d g l).arguments k.0 v k.1 in
      let was = was_at (λ i. gone_at g (slice_get l.arguments i)) l.arguments k.0 x.0 x.1 in
      stays_at l v x.0 was.0 x.2 was.1 was.2 where
        named_from : (ds : List (Defined N.value S.of_value)) (k : ℕ) (y : N.value) → slice_get (names_of ds) k ≡ Some y → (x : Defined N.value S.of_value) × (slice_get ds k ≡ Some x) × (x.name ≡ y)
        named_from [] k y e = cc
        named_from (x ∷ ds) zero y e = let s : Some x.name ≡ Some y = e in let same : x.name ≡ y = cc in (x, refl, same)
        named_from (x ∷ ds) (suc k) y e = named_from ds k y e

  no_argument_left : (s : Sort) (t : Tree N S s) (i : Inside N S s) (x : BlockOccurrence N S) → Has x (block_occurrences_in (thin d g t) i) → (v : N.value) → Has v (names_of x.label.arguments) → g.item (Slot v) ≡ false
  no_argument_left _ end i x h = absurd h
  no_argument_left _ (operation hd rs rest) i x h = by_case (no_argument_left Operations rest i x) (no_argument_left Regions rs (inner (thin_head d g hd) i) x) (g.item (Whole hd.name)) h where
    by_case : (Has x (block_occurrences_in (thin d g rest) i) → (v : N.value) → Has v (names_of x.label.arguments) → g.item (Slot v) ≡ false)
        → (Has x (block_occurrences_in (thin d g rs) (inner (thin_head d g hd) i)) → (v : N.value) → Has v (names_of x.label.arguments) → g.item (Slot v) ≡ false)
        → (b : Bool) → Has x (block_occurrences_in (if b then thin d g rest else operation (thin_head d g hd) (thin d g rs) (thin d g rest)) i) → (v : N.value) → Has v (names_of x.label.arguments) → g.item (Slot v) ≡ false
    by_case later below true h = later h
    by_case later below false h = ⊎_elim below later (has_either (block_occurrences_in (thin d g rs) (inner (thin_head d g hd) i)) (block_occurrences_in (thin d g rest) i) x h)
  no_argument_left _ (block l ops rest) i x h = ⊎_elim
      (λ same v has. argument_left l v (subst (λ (y : BlockOccurrence N S). Has v (names_of y.label.arguments)) same has))
      (λ more. ⊎_elim
      (no_argument_left Operations ops (record { spot = i; label = thin_label d g l }) x)
      (no_argument_left Blocks rest (next_block i) x)
      (has_either (block_occurrences_in (thin d g ops) (record { spot = i; label = thin_label d g l })) (block_occurrences_in (thin d g rest) (next_block i)) x more))
      h
  no_argument_left _ (region bs rest) i x h = ⊎_elim
      (no_argument_left Blocks bs i x)
      (no_argument_left Regions rest (next_region i) x)
      (has_either (block_occurrences_in (thin d g bs) i) (block_occurrences_in (thin d g rest) (next_region i)) x h)

-- what is dead may go
may_go : {N : Names} {S : Contents} {A : Type 0} (d : Dialect S A) (w : TreeSurroundings N A) (t : Root N S) (x : Item N) → IsDead d w t x → May d t x
may_go d w t _ (dies x may kept used) = may

module _ {O B A : Type 0} (d : Dialect (in_program O B) A) (law : Lawful d) (c : Program O B) (op : Ptr Operation) (t : ProgramTree O B)
    (sound : (o : Found O B) → Has o (occurrences_of t) → IsOccurrence c op o)
    (blocks_sound : (x : FoundBlock O B) → Has x (block_occurrences_of t) → IsBlockOccurrence c op x)
    (definer : (e : DefiningEntity) (k : ℕ) (v : Value) → value_in (values_at c e) k ≡ Some v → v.definer ≡ e)
    (w : TreeSurroundings by_handle A) (g : Gone by_handle) (is : IsGoneExactly d w t g) where
  -- an argument of a block that is found
  argument_at : (x : FoundBlock O B) → Has x (block_occurrences_of t) → (v : Value) → Has v (names_of x.label.arguments) → (k : ℕ) × (value_in (values_at c (ByBlock x.label.name)) k ≡ Some v)
  argument_at x found v has =
      let it = blocks_sound x found in
      let listed : Has v (names_of (map defined_by it.view.arguments)) = subst (λ (l : Label by_handle (in_program O B)). Has v (names_of l.arguments)) it.label has in
      let k = has_at (names_of (map defined_by it.view.arguments)) v listed in
      (k.0, ap (λ o. value_in (unwrap_or (option_map (λ (y : BlockView B). y.arguments) o) []) k.0) it.there ∙ sym (named_at it.view.arguments k.0) ∙ k.1)

  pub gone_below : GoesBelowRoot c op g
  gone_below = record {
    operations = λ a h.
        let m = may_go d w t (Whole a) (is.dead (Whole a) h) in
        subst (IsBelowRoot c op) m.name (sound m.it m.stands).below;
    arguments = λ v h.
        let m = may_go d w t (Slot v) (is.dead (Slot v) h) in
        let at = argument_at m.it m.stands v m.argument in
        subst (λ e. StandsInside c (OperationNode op) (definer_node e)) (sym (definer (ByBlock m.it.label.name) at.0 v at.1)) (blocks_sound m.it m.stands).below;
    operands = λ p i h.
        let l = is.lost p i h in
        subst (IsBelowRoot c op) l.name (sound l.user l.stands).below;
  }

  -- where the plan takes nothing the tree stays, and the other way round
  module _ (plan : DeadPlan) (planned : IsPlan c g plan) where
    no_item : IsIdle plan → (x : Item by_handle) → g.item x ≡ false
    no_item idle (Whole a) = not_true (g.item (Whole a)) (λ h. idle.operations a ((planned.operations a).1 h))
    no_item idle (Slot v) = not_true (g.item (Slot v)) (λ h.
        let m = may_go d w t (Slot v) (is.dead (Slot v) h) in
        let at = argument_at m.it m.stands v m.argument in
        let a = planned.all_arguments v h in
        let e : ByBlock m.it.label.name ≡ ByBlock a.0.block = sym (definer (ByBlock m.it.label.name) at.0 v at.1) ∙ a.2 in
        let same : m.it.label.name ≡ a.0.block = cc in
        let view = planned.blocks_live a.0 a.1 in
        let here : value_in view.0.arguments at.0 ≡ Some v = ap (λ o. value_in (unwrap_or (option_map (λ (y : BlockView B). y.arguments) o) []) at.0) (sym view.1) ∙ ap (λ b. value_in (values_at c (ByBlock b)) at.0) (sym same) ∙ at.1 in
        idle.arguments a.0 a.1 (at.0, ((planned.arguments a.0 view.0 a.1 view.1).1 at.0 v (at_value view.0.arguments at.0 ∙ here)).1 h))

    no_operand : IsIdle plan → (a : Ptr Operation) (i : ℕ) → g.operand a i ≡ false
    no_operand idle a i = not_true (g.operand a i) (λ h.
        let l = is.lost a i h in
        let goes : g.item (Slot l.argument) ≡ true = is.all (Slot l.argument) l.dead in
        let stays : g.item (Slot l.argument) ≡ false = no_item idle (Slot l.argument) in cc)

    pub idle_same : IsIdle plan → record { head = t.head; regions = thin d g t.regions } ≡ t
    idle_same idle =
        let same = all_stays d g law (no_item idle) (no_operand idle) Regions t.regions in
        λ j. record { head = t.head; regions = same j }

    pub same_idle : record { head = t.head; regions = thin d g t.regions } ≡ t → IsIdle plan
    same_idle e =
        let regions : thin d g t.regions ≡ t.regions = ap (λ (r : ProgramTree O B). r.regions) e in
        record {
          operations = λ p h.
              let goes = (planned.operations p).0 h in
              let m = may_go d w t (Whole p) (is.dead (Whole p) goes) in
              let stays : g.item (Whole m.it.head.name) ≡ false = none_left d g Regions t.regions (at_root t) m.it (subst (λ r. Has m.it (occurrences_in r (at_root t))) (sym regions) m.stands) in
              let f : false ≡ true = sym stays ∙ ap (λ q. g.item (Whole q)) m.name ∙ goes in cc;
          arguments = λ a h mark.
              let view = planned.blocks_live a h in
              let exact = planned.arguments a view.0 h view.1 in
              let x = there_within view.0.arguments mark.0 (subst (λ n. mark.0 < n) exact.0 (slice_get_within a.marks.items mark.0 true mark.1)) in
              let here : slice_get (map (λ (y : TypedValue). y.value) view.0.arguments) mark.0 ≡ Some x.0.value = at_value view.0.arguments mark.0 ∙ ap (option_map (λ (y : TypedValue). y.value)) x.1 in
              let goes = (exact.1 mark.0 x.0.value here).0 mark.1 in
              let m = may_go d w t (Slot x.0.value) (is.dead (Slot x.0.value) goes) in
              let stays : g.item (Slot x.0.value) ≡ false = no_argument_left d g Regions t.regions (at_root t) m.it (subst (λ r. Has m.it (block_occurrences_in r (at_root t))) (sym regions) m.stands) x.0.value m.argument in
              cc;
        }
