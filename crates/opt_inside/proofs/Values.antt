-- The values that are defined in a tree are those that are defined below its root.
use Rattle.std.proofs.Common.{◌≡◌, ◌↔◌, ◌⊎◌, inl, inr, ⊎_elim, ◌++◌, Option, Some, refl, sym, ap, ◌∙◌, subst}
use Rattle.ir_program.specs.Program.{Program, operation_at, block_at}
use Rattle.ir_program.specs.declared.handles.Ptr.{Ptr}
use Rattle.ir_program.specs.declared.handles.Operation.{Operation}
use Rattle.ir_program.specs.declared.handles.Value.{Value}
use Rattle.ir_trees.specs.Names.{Names, Contents}
use Rattle.ir_trees.specs.Renames.{names_of}
use Rattle.ir_trees.specs.Trees.{Head, Label, Sort, Operations, Blocks, Regions, Tree, end, operation, block, region}
use Rattle.ir_trees.specs.Stands.{by_handle, in_program, ProgramTree, head_of, label_of, StandsFor}
use Rattle.ir_trees.proofs.Members.{has_front, has_back, has_either}
use Rattle.opt_trees.specs.Occurrences.{Has, Inside, Occurrence, BlockOccurrence, inner, next_block, next_region, at_root, occurrences_in, block_occurrences_in, defined_in, occurrences_of}
use Rattle.opt_inside.specs.Occurring.{Found, IsDefinedBelow}
use Rattle.opt_inside.proofs.Around.{HasLists}
use Rattle.opt_inside.proofs.Reached.{found, blocks_found}
use Rattle.opt_inside.proofs.Walked.{sound, blocks_sound}

same_some : {X : Type 0} (o : Option X) (x y : X) → o ≡ Some x → o ≡ Some y → x ≡ y
same_some o x y h g = let e : Some x ≡ Some y = sym h ∙ g in cc

module _ {N : Names} {S : Contents} where
  -- a result of an operation that is found, or an argument of a block
  abbrev IsOfFound : {s : Sort} → Tree N S s → Inside N S s → N.value → Type 0
  IsOfFound t i v = ((o : Occurrence N S) × Has o (occurrences_in t i) × Has v (names_of o.head.results)) ⊎ ((x : BlockOccurrence N S) × Has x (block_occurrences_in t i) × Has v (names_of x.label.arguments))

  defined_by_found : (s : Sort) (t : Tree N S s) (i : Inside N S s) (v : N.value) → Has v (defined_in t) → IsOfFound t i v
  defined_by_found _ end i v h = absurd h
  defined_by_found _ (operation h rs rest) i v has = ⊎_elim
      (λ a. inl (record { site = i; head = h; regions = rs }, inl refl, a))
      (λ more. ⊎_elim
      (λ a. ⊎_elim
      (λ g. inl (g.0, inr (has_front (occurrences_in rs (inner h i)) (occurrences_in rest i) g.0 g.1), g.2))
      (λ g. inr (g.0, has_front (block_occurrences_in rs (inner h i)) (block_occurrences_in rest i) g.0 g.1, g.2))
      (defined_by_found Regions rs (inner h i) v a))
      (λ b. ⊎_elim
      (λ g. inl (g.0, inr (has_back (occurrences_in rs (inner h i)) (occurrences_in rest i) g.0 g.1), g.2))
      (λ g. inr (g.0, has_back (block_occurrences_in rs (inner h i)) (block_occurrences_in rest i) g.0 g.1, g.2))
      (defined_by_found Operations rest i v b))
      (has_either (defined_in rs) (defined_in rest) v more))
      (has_either (names_of h.results) (defined_in rs ++ defined_in rest) v has)
  defined_by_found _ (block l ops rest) i v has = ⊎_elim
      (λ a. inr (record { spot = i; label = l; operations = ops }, inl refl, a))
      (λ more. ⊎_elim
      (λ a. ⊎_elim
      (λ g. inl (g.0, has_front (occurrences_in ops (record { spot = i; label = l })) (occurrences_in rest (next_block i)) g.0 g.1, g.2))
      (λ g. inr (g.0, inr (has_front (block_occurrences_in ops (record { spot = i; label = l })) (block_occurrences_in rest (next_block i)) g.0 g.1), g.2))
      (defined_by_found Operations ops (record { spot = i; label = l }) v a))
      (λ b. ⊎_elim
      (λ g. inl (g.0, has_back (occurrences_in ops (record { spot = i; label = l })) (occurrences_in rest (next_block i)) g.0 g.1, g.2))
      (λ g. inr (g.0, inr (has_back (block_occurrences_in ops (record { spot = i; label = l })) (block_occurrences_in rest (next_block i)) g.0 g.1), g.2))
      (defined_by_found Blocks rest (next_block i) v b))
      (has_either (defined_in ops) (defined_in rest) v more))
      (has_either (names_of l.arguments) (defined_in ops ++ defined_in rest) v has)
  defined_by_found _ (region bs rest) i v has = ⊎_elim
      (λ a. ⊎_elim
      (λ g. inl (g.0, has_front (occurrences_in bs i) (occurrences_in rest (next_region i)) g.0 g.1, g.2))
      (λ g. inr (g.0, has_front (block_occurrences_in bs i) (block_occurrences_in rest (next_region i)) g.0 g.1, g.2))
      (defined_by_found Blocks bs i v a))
      (λ b. ⊎_elim
      (λ g. inl (g.0, has_back (occurrences_in bs i) (occurrences_in rest (next_region i)) g.0 g.1, g.2))
      (λ g. inr (g.0, has_back (block_occurrences_in bs i) (block_occurrences_in rest (next_region i)) g.0 g.1, g.2))
      (defined_by_found Regions rest (next_region i) v b))
      (has_either (defined_in bs) (defined_in rest) v has)

  result_defined : (s : Sort) (t : Tree N S s) (i : Inside N S s) (v : N.value) (o : Occurrence N S) → Has o (occurrences_in t i) → Has v (names_of o.head.results) → Has v (defined_in t)
  result_defined _ end i v o has d = absurd has
  result_defined _ (operation h rs rest) i v o has d = ⊎_elim
      (λ same. has_front (names_of h.results) (defined_in rs ++ defined_in rest) v (subst (λ (z : Occurrence N S). Has v (names_of z.head.results)) same d))
      (λ more. has_back (names_of h.results) (defined_in rs ++ defined_in rest) v (⊎_elim
      (λ a. has_front (defined_in rs) (defined_in rest) v (result_defined Regions rs (inner h i) v o a d))
      (λ b. has_back (defined_in rs) (defined_in rest) v (result_defined Operations rest i v o b d))
      (has_either (occurrences_in rs (inner h i)) (occurrences_in rest i) o more)))
      has
  result_defined _ (block l ops rest) i v o has d = has_back (names_of l.arguments) (defined_in ops ++ defined_in rest) v (⊎_elim
      (λ a. has_front (defined_in ops) (defined_in rest) v (result_defined Operations ops (record { spot = i; label = l }) v o a d))
      (λ b. has_back (defined_in ops) (defined_in rest) v (result_defined Blocks rest (next_block i) v o b d))
      (has_either (occurrences_in ops (record { spot = i; label = l })) (occurrences_in rest (next_block i)) o has))
  result_defined _ (region bs rest) i v o has d = ⊎_elim
      (λ a. has_front (defined_in bs) (defined_in rest) v (result_defined Blocks bs i v o a d))
      (λ b. has_back (defined_in bs) (defined_in rest) v (result_defined Regions rest (next_region i) v o b d))
      (has_either (occurrences_in bs i) (occurrences_in rest (next_region i)) o has)

  argument_defined : (s : Sort) (t : Tree N S s) (i : Inside N S s) (v : N.value) (x : BlockOccurrence N S) → Has x (block_occurrences_in t i) → Has v (names_of x.label.arguments) → Has v (defined_in t)
  argument_defined _ end i v x has d = absurd has
  argument_defined _ (operation h rs rest) i v x has d = has_back (names_of h.results) (defined_in rs ++ defined_in rest) v (⊎_elim
      (λ a. has_front (defined_in rs) (defined_in rest) v (argument_defined Regions rs (inner h i) v x a d))
      (λ b. has_back (defined_in rs) (defined_in rest) v (argument_defined Operations rest i v x b d))
      (has_either (block_occurrences_in rs (inner h i)) (block_occurrences_in rest i) x has))
  argument_defined _ (block l ops rest) i v x has d = ⊎_elim
      (λ same. has_front (names_of l.arguments) (defined_in ops ++ defined_in rest) v (subst (λ (z : BlockOccurrence N S). Has v (names_of z.label.arguments)) same d))
      (λ more. has_back (names_of l.arguments) (defined_in ops ++ defined_in rest) v (⊎_elim
      (λ a. has_front (defined_in ops) (defined_in rest) v (argument_defined Operations ops (record { spot = i; label = l }) v x a d))
      (λ b. has_back (defined_in ops) (defined_in rest) v (argument_defined Blocks rest (next_block i) v x b d))
      (has_either (block_occurrences_in ops (record { spot = i; label = l })) (block_occurrences_in rest (next_block i)) x more)))
      has
  argument_defined _ (region bs rest) i v x has d = ⊎_elim
      (λ a. has_front (defined_in bs) (defined_in rest) v (argument_defined Blocks bs i v x a d))
      (λ b. has_back (defined_in bs) (defined_in rest) v (argument_defined Regions rest (next_region i) v x b d))
      (has_either (block_occurrences_in bs i) (block_occurrences_in rest (next_region i)) x has)

module _ {O B : Type 0} (c : Program O B) (lists : HasLists c) where
  pub defined : (op : Ptr Operation) (t : ProgramTree O B) → StandsFor c op t → (v : Value) → Has v (defined_in t.regions) ↔ IsDefinedBelow c op v
  defined op t stands v = (
    λ has. ⊎_elim
        (λ g. let i = sound c op lists t stands g.0 g.1 in
        inl (g.0.head.name, i.view, i.below, i.there, subst (λ (h : Head by_handle (in_program O B)). Has v (names_of h.results)) i.head g.2))
        (λ g. let i = blocks_sound c op lists t stands g.0 g.1 in
        inr (g.0.label.name, i.view, i.below, i.there, subst (λ (l : Label by_handle (in_program O B)). Has v (names_of l.arguments)) i.label g.2))
        (defined_by_found Regions t.regions (at_root t) v has),
    λ d. ⊎_elim
        (λ g. let o = found c op lists t stands g.0 g.2 in
        let i = sound c op lists t stands o.0 o.1 in
        let w : g.1 ≡ i.view = same_some (operation_at c g.0) g.1 i.view g.3 (ap (operation_at c) (sym o.2) ∙ i.there) in
        let h : head_of g.0 g.1 ≡ o.0.head = (λ k. head_of {B = B} (sym o.2 k) (w k)) ∙ sym i.head in
        result_defined Regions t.regions (at_root t) v o.0 o.1 (subst (λ (z : Head by_handle (in_program O B)). Has v (names_of z.results)) h g.4))
        (λ g. let x = blocks_found c op lists t stands g.0 g.2 in
        let i = blocks_sound c op lists t stands x.0 x.1 in
        let w : g.1 ≡ i.view = same_some (block_at c g.0) g.1 i.view g.3 (ap (block_at c) (sym x.2) ∙ i.there) in
        let l : label_of g.0 g.1 ≡ x.0.label = (λ k. label_of {O = O} (sym x.2 k) (w k)) ∙ sym i.label in
        argument_defined Regions t.regions (at_root t) v x.0 x.1 (subst (λ (z : Label by_handle (in_program O B)). Has v (names_of z.arguments)) l g.4))
        d,
  )

  pub defined_inside : (op : Ptr Operation) (t : ProgramTree O B) → StandsFor c op t → (o : Found O B) → Has o (occurrences_of t) → (v : Value) → Has v (defined_in o.regions) ↔ IsDefinedBelow c o.head.name v
  defined_inside op t stands o has =
      let i = sound c op lists t stands o has in
      defined o.head.name (record { head = o.head; regions = o.regions }) (record { view = i.view; there = i.there; head = i.head; regions = i.regions })
