-- Operands that are in scope are defined, each in the block of the operation or in an entry block.
use Rattle.std.proofs.Common.{◌≡◌, ◌⊎◌, inl, inr, ⊎_elim, Bool, true, ◌++◌, refl, sym, ap, ◌∙◌}
use Rattle.std.proofs.Common.{subst}
use Rattle.ir_program.specs.declared.handles.BasicBlock.{BasicBlock}
use Rattle.ir_program.specs.declared.handles.DefiningEntity.TheVariants.{Block as ByBlock}
use Rattle.ir_program.specs.declared.handles.Ptr.{Ptr}
use Rattle.ir_program.specs.declared.handles.Value.{Value}
use Rattle.ir_trees.specs.Renames.{names_of}
use Rattle.ir_trees.specs.Stands.{by_handle, in_program}
use Rattle.ir_trees.specs.Trees.{Sort, Operations, Blocks, Regions, end, operation, block, region}
use Rattle.opt_trees.specs.Occurrences.{Has, Occurrence, BlockOccurrence, Inside, inner, next_block, next_region}
use Rattle.opt_trees.specs.Occurrences.{occurrences_in, block_occurrences_in, defined_in}
use Rattle.opt_trees.proofs.NoneDead.{has-append, has-left, has-right}
use Rattle.kit.specs.Meaning.{KitOperation, KitBlock}
use Rattle.kit_ruled_passes.specs.Scopes.{Part, KitLabel, IsResultHere, IsOfBlock, IsOfEntry, IsNone, Scoped}
use Rattle.kit_ruled_passes.proofs.Scopes.{IsByOp, IsHome, Homed}

abbrev pub KitOccurrence : Type 0
KitOccurrence = Occurrence by_handle (in_program KitOperation KitBlock)

abbrev pub KitBlockOccurrence : Type 0
KitBlockOccurrence = BlockOccurrence by_handle (in_program KitOperation KitBlock)

abbrev pub Where : Sort → Type 0
Where s = Inside by_handle (in_program KitOperation KitBlock) s

-- ---- operands are defined

result_defined : (os : Part Operations) (x : Value) → IsResultHere os x → Has x (defined_in os)
result_defined end x has = has
result_defined (operation h rs rest) x has = ⊎_elim
    (λ i. has-left x (names_of h.results) (defined_in rs ++ defined_in rest) i)
    (λ i. has-right x (names_of h.results) (defined_in rs ++ defined_in rest)
    (has-right x (defined_in rs) (defined_in rest) (result_defined rest x i)))
    has

of_block_defined : (l : KitLabel) (os : Part Operations) (rest : Part Blocks) (x : Value) → IsOfBlock l os x
    → Has x (defined_in (block l os rest))
of_block_defined l os rest x has = ⊎_elim
    (λ i. has-left x (names_of l.arguments) (defined_in os ++ defined_in rest) i)
    (λ i. has-right x (names_of l.arguments) (defined_in os ++ defined_in rest)
    (has-left x (defined_in os) (defined_in rest) (result_defined os x i)))
    has

of_entry_defined : (bs : Part Blocks) (x : Value) → IsOfEntry bs x → Has x (defined_in bs)
of_entry_defined end x has = has
of_entry_defined (block l os rest) x has = of_block_defined l os rest x has

pub operand_defined : {s : Sort} (t : Part s) (P : Value → Type 0) (c : Where s) → Scoped t P → (o : KitOccurrence)
    → Has o (occurrences_in t c) → (x : Value) → Has x o.head.operands → Has x (defined_in t) ⊎ P x
operand_defined end P c q o has x takes = absurd has
operand_defined (operation h rs rest) P c q o has x takes = ⊎_elim
    (λ e. inr (q.0 x (subst (λ (z : KitOccurrence). Has x z.head.operands) e takes)))
    (λ more. ⊎_elim
    (λ i. ⊎_elim
    (λ d. inl (has-right x (names_of h.results) (defined_in rs ++ defined_in rest)
    (has-left x (defined_in rs) (defined_in rest) d)))
    (λ none. absurd none)
    (operand_defined rs IsNone (inner h c) q.1 o i x takes))
    (λ i. ⊎_elim
    (λ d. inl (has-right x (names_of h.results) (defined_in rs ++ defined_in rest)
    (has-right x (defined_in rs) (defined_in rest) d)))
    (λ p. inr p)
    (operand_defined rest P c q.2 o i x takes))
    (has-append o (occurrences_in rs (inner h c)) (occurrences_in rest c) more))
    has
operand_defined (block l os rest) P c q o has x takes = ⊎_elim
    (λ i. ⊎_elim
    (λ d. inl (has-right x (names_of l.arguments) (defined_in os ++ defined_in rest)
    (has-left x (defined_in os) (defined_in rest) d)))
    (λ p. ⊎_elim (λ own. inl (of_block_defined l os rest x own)) (λ other. inr other) p)
    (operand_defined os (λ y. IsOfBlock l os y ⊎ P y) (record { spot = c; label = l }) q.0 o i x takes))
    (λ i. ⊎_elim
    (λ d. inl (has-right x (names_of l.arguments) (defined_in os ++ defined_in rest)
    (has-right x (defined_in os) (defined_in rest) d)))
    (λ p. inr p)
    (operand_defined rest P (next_block c) q.1 o i x takes))
    (has-append o (occurrences_in os (record { spot = c; label = l })) (occurrences_in rest (next_block c)) has)
operand_defined (region bs rest) P c q o has x takes = ⊎_elim
    (λ i. ⊎_elim
    (λ d. inl (has-left x (defined_in bs) (defined_in rest) d))
    (λ p. inl (has-left x (defined_in bs) (defined_in rest) (of_entry_defined bs x p)))
    (operand_defined bs (IsOfEntry bs) c q.0 o i x takes))
    (λ i. ⊎_elim
    (λ d. inl (has-right x (defined_in bs) (defined_in rest) d))
    (λ p. inr p)
    (operand_defined rest P (next_region c) q.1 o i x takes))
    (has-append o (occurrences_in bs c) (occurrences_in rest (next_region c)) has)

-- ---- arguments that are operands

-- regions are read from their start
abbrev pub IsAtStart : (s : Sort) → Where s → Type 0
IsAtStart Operations c = Unit {0}
IsAtStart Blocks c = Unit {0}
IsAtStart Regions c = c.first ≡ true

-- the flag of the first block that is read
abbrev pub first_at : (s : Sort) → Where s → Bool
first_at Operations c = true
first_at Blocks c = c.first
first_at Regions c = true

module _ (E : Ptr BasicBlock → Type 0) where
  -- what a block that is found is, and its arguments say
  pub block_home : {s : Sort} (t : Part s) (c : Where s) → IsAtStart s c → Homed E t (first_at s c)
      → (y : KitBlockOccurrence) → Has y (block_occurrences_in t c) → IsHome E y.label y.spot.first
  block_home end c start q y has = absurd has
  block_home (operation h rs rest) c start q y has = ⊎_elim
      (λ a. block_home rs (inner h c) refl q.1 y a)
      (λ a. block_home rest c tt q.2 y a)
      (has-append y (block_occurrences_in rs (inner h c)) (block_occurrences_in rest c) has)
  block_home (block l os rest) c start q y has = ⊎_elim
      (λ e. subst (λ (z : KitBlockOccurrence). IsHome E z.label z.spot.first) (sym e) q.0)
      (λ more. ⊎_elim
      (λ a. block_home os (record { spot = c; label = l }) tt q.1 y a)
      (λ a. block_home rest (next_block c) tt q.2 y a)
      (has-append y (block_occurrences_in os (record { spot = c; label = l }))
      (block_occurrences_in rest (next_block c)) more))
      has
  block_home (region bs rest) c start q y has = ⊎_elim
      (λ a. block_home bs c tt (subst (Homed E bs) (sym start) q.0) y a)
      (λ a. block_home rest (next_region c) start q.1 y a)
      (has-append y (block_occurrences_in bs c) (block_occurrences_in rest (next_region c)) has)

  result_by_op : (os : Part Operations) (first : Bool) → Homed E os first → (x : Value) → IsResultHere os x
      → IsByOp x.definer
  result_by_op end first q x has = absurd has
  result_by_op (operation h rs rest) first q x has =
      ⊎_elim (λ i. q.0 x i) (λ i. result_by_op rest first q.2 x i) has

  -- an argument of a block that is no entry is in scope in that block alone
  module _ (b : Ptr BasicBlock) (x : Value) (is : x.definer ≡ ByBlock b) (no_entry : E b → ⊥) where
    no_result : (os : Part Operations) (first : Bool) → Homed E os first → IsResultHere os x → ⊥
    no_result os first q has = subst IsByOp is (result_by_op os first q x has)

    same_block : (d : Ptr BasicBlock) → x.definer ≡ ByBlock d → d ≡ b
    same_block d e = let two : ByBlock d ≡ ByBlock b = sym e ∙ is in cc

    not_of_entry : (bs : Part Blocks) → Homed E bs true → IsOfEntry bs x → ⊥
    not_of_entry end q has = has
    not_of_entry (block l os rest) q has = ⊎_elim
        (λ i. no_entry (subst E (same_block l.name (q.0.1 x i)) q.0.0))
        (λ i. no_result os true q.1 i)
        has

    -- it is in the list that is read, and stands where that does
    abbrev Here : (s : Sort) → Where s → KitOccurrence → Type 0
    Here Operations c o = o.site ≡ c
    Here Blocks c o = Unit {0}
    Here Regions c o = Unit {0}

    pub own_block : {s : Sort} (t : Part s) (P : Value → Type 0) (c : Where s) → IsAtStart s c → Scoped t P
        → Homed E t (first_at s c) → (o : KitOccurrence) → Has o (occurrences_in t c) → Has x o.head.operands
        → (o.site.label.name ≡ b) ⊎ (Here s c o × P x)
    own_block end P c start q h o has takes = absurd has
    own_block (operation g rs rest) P c start q h o has takes = ⊎_elim
        (λ e. inr (
          ap (λ (z : KitOccurrence). z.site) e,
          q.0 x (subst (λ (z : KitOccurrence). Has x z.head.operands) e takes),
        ))
        (λ more. ⊎_elim
        (λ i. ⊎_elim
        (λ own. inl own)
        (λ none. absurd none.1)
        (own_block rs IsNone (inner g c) refl q.1 h.1 o i takes))
        (λ i. own_block rest P c tt q.2 h.2 o i takes)
        (has-append o (occurrences_in rs (inner g c)) (occurrences_in rest c) more))
        has
    own_block (block l os rest) P c start q h o has takes = ⊎_elim
        (λ i. ⊎_elim
        (λ own. inl own)
        (λ here. ⊎_elim
        (λ mine. ⊎_elim
        (λ a. inl (ap (λ (z : Where Operations). z.label.name) here.0 ∙ same_block l.name (h.0.1 x a)))
        (λ r. absurd (no_result os true h.1 r))
        mine)
        (λ other. inr (tt, other))
        here.1)
        (own_block os (λ y. IsOfBlock l os y ⊎ P y) (record { spot = c; label = l }) tt q.0 h.1 o i takes))
        (λ i. ⊎_elim
        (λ own. inl own)
        (λ here. inr (tt, here.1))
        (own_block rest P (next_block c) tt q.1 h.2 o i takes))
        (has-append o (occurrences_in os (record { spot = c; label = l })) (occurrences_in rest (next_block c)) has)
    own_block (region bs rest) P c start q h o has takes = ⊎_elim
        (λ i. ⊎_elim
        (λ own. inl own)
        (λ here. absurd (not_of_entry bs h.0 here.1))
        (own_block bs (IsOfEntry bs) c tt q.0 (subst (Homed E bs) (sym start) h.0) o i takes))
        (λ i. ⊎_elim
        (λ own. inl own)
        (λ here. inr (tt, here.1))
        (own_block rest P (next_region c) start q.1 h.1 o i takes))
        (has-append o (occurrences_in bs c) (occurrences_in rest (next_region c)) has)
