-- What defines the values of a tree: operations and blocks, in the order of the text.
use Rattle.std.proofs.Common.{◌≡◌, ⊎_elim, inl, inr, List, [], ◌∷◌, ◌++◌, map, refl, sym, ap, ◌∙◌, subst}
use Rattle.ir_trees.specs.Names.{Names, Contents}
use Rattle.ir_trees.specs.Renames.{names_of}
use Rattle.ir_trees.specs.Searched.{heads_in}
use Rattle.ir_trees.specs.Trees.{Sort, Tree, end, operation, block, region}
use Rattle.opt_trees.specs.Occurrences.{Has, Occurrence, BlockOccurrence, Inside, inner, next_block, next_region, occurrences_in, block_occurrences_in, defined_in}
use Rattle.opt_trees.proofs.NoneDead.{has-append, has-left, has-right}
use Rattle.opt_trees.proofs.Lists.{map-append}
use Rattle.kit_views.proofs.Lists.{gathered, gathered_append}

pub data Definer (N : Names) (S : Contents) : Type 0 where
  ByOp : (o : Occurrence N S) → Definer N S
  ByBlock : (x : BlockOccurrence N S) → Definer N S

module _ {N : Names} {S : Contents} where
  abbrev pub makes : Definer N S → List N.value
  makes (ByOp o) = names_of o.head.results
  makes (ByBlock x) = names_of x.label.arguments

  abbrev pub definers : {s : Sort} → Tree N S s → Inside N S s → List (Definer N S)
  definers end c = []
  definers (operation h rs rest) c =
      ByOp (record { site = c; head = h; regions = rs }) ∷ (definers rs (inner h c) ++ definers rest c)
  definers (block l ops rest) c =
      ByBlock (record { spot = c; label = l; operations = ops })
      ∷ (definers ops (record { spot = c; label = l }) ++ definers rest (next_block c))
  definers (region bs rest) c = definers bs c ++ definers rest (next_region c)

  pub all_made : {s : Sort} (t : Tree N S s) (c : Inside N S s) → gathered makes (definers t c) ≡ defined_in t
  all_made end c = refl
  all_made (operation h rs rest) c =
      ap (λ l. names_of h.results ++ l)
      (gathered_append makes (definers rs (inner h c)) (definers rest c) ∙ λ i. all_made rs (inner h c) i ++ all_made rest c i)
  all_made (block l ops rest) c =
      ap (λ m. names_of l.arguments ++ m)
      (gathered_append makes (definers ops (record { spot = c; label = l })) (definers rest (next_block c)) ∙ λ i. all_made ops (record { spot = c; label = l }) i ++ all_made rest (next_block c) i)
  all_made (region bs rest) c =
      gathered_append makes (definers bs c) (definers rest (next_region c)) ∙ λ i. all_made bs c i ++ all_made rest (next_region c) i

  pub op_definer : {s : Sort} (t : Tree N S s) (c : Inside N S s) (o : Occurrence N S) → Has o (occurrences_in t c) → Has (ByOp o) (definers t c)
  op_definer end c o h = absurd h
  op_definer (operation k rs rest) c o h =
      ⊎_elim (λ e. inl (ap ByOp e))
      (λ x. ⊎_elim
      (λ y. inr (has-left (ByOp o) (definers rs (inner k c)) (definers rest c) (op_definer rs (inner k c) o y)))
      (λ y. inr (has-right (ByOp o) (definers rs (inner k c)) (definers rest c) (op_definer rest c o y)))
      (has-append o (occurrences_in rs (inner k c)) (occurrences_in rest c) x)) h
  op_definer (block l ops rest) c o h =
      ⊎_elim
      (λ y. inr (has-left (ByOp o) (definers ops (record { spot = c; label = l })) (definers rest (next_block c)) (op_definer ops (record { spot = c; label = l }) o y)))
      (λ y. inr (has-right (ByOp o) (definers ops (record { spot = c; label = l })) (definers rest (next_block c)) (op_definer rest (next_block c) o y)))
      (has-append o (occurrences_in ops (record { spot = c; label = l })) (occurrences_in rest (next_block c)) h)
  op_definer (region bs rest) c o h =
      ⊎_elim
      (λ y. has-left (ByOp o) (definers bs c) (definers rest (next_region c)) (op_definer bs c o y))
      (λ y. has-right (ByOp o) (definers bs c) (definers rest (next_region c)) (op_definer rest (next_region c) o y))
      (has-append o (occurrences_in bs c) (occurrences_in rest (next_region c)) h)

  pub block_definer : {s : Sort} (t : Tree N S s) (c : Inside N S s) (x : BlockOccurrence N S) → Has x (block_occurrences_in t c) → Has (ByBlock x) (definers t c)
  block_definer end c o h = absurd h
  block_definer (operation k rs rest) c o h =
      ⊎_elim
      (λ y. inr (has-left (ByBlock o) (definers rs (inner k c)) (definers rest c) (block_definer rs (inner k c) o y)))
      (λ y. inr (has-right (ByBlock o) (definers rs (inner k c)) (definers rest c) (block_definer rest c o y)))
      (has-append o (block_occurrences_in rs (inner k c)) (block_occurrences_in rest c) h)
  block_definer (block l ops rest) c o h =
      ⊎_elim (λ e. inl (ap ByBlock e))
      (λ x. ⊎_elim
      (λ y. inr (has-left (ByBlock o) (definers ops (record { spot = c; label = l })) (definers rest (next_block c)) (block_definer ops (record { spot = c; label = l }) o y)))
      (λ y. inr (has-right (ByBlock o) (definers ops (record { spot = c; label = l })) (definers rest (next_block c)) (block_definer rest (next_block c) o y)))
      (has-append o (block_occurrences_in ops (record { spot = c; label = l })) (block_occurrences_in rest (next_block c)) x)) h
  block_definer (region bs rest) c o h =
      ⊎_elim
      (λ y. has-left (ByBlock o) (definers bs c) (definers rest (next_region c)) (block_definer bs c o y))
      (λ y. has-right (ByBlock o) (definers bs c) (definers rest (next_region c)) (block_definer rest (next_region c) o y))
      (has-append o (block_occurrences_in bs c) (block_occurrences_in rest (next_region c)) h)

  -- what holds of the operations and of the blocks holds of each definer
  pub definer_is : {s : Sort} (t : Tree N S s) (c : Inside N S s) (e : Definer N S) (P : Definer N S → Type 0)
      → ((o : Occurrence N S) → Has o (occurrences_in t c) → P (ByOp o))
      → ((x : BlockOccurrence N S) → Has x (block_occurrences_in t c) → P (ByBlock x)) → Has e (definers t c) → P e
  definer_is end c e P f g h = absurd h
  definer_is (operation k rs rest) c e P f g h =
      ⊎_elim (λ q. subst P (sym q) (f (record { site = c; head = k; regions = rs }) (inl refl)))
      (λ x. ⊎_elim
      (λ y. definer_is rs (inner k c) e P (λ o z. f o (inr (has-left o (occurrences_in rs (inner k c)) (occurrences_in rest c) z))) (λ o z. g o (has-left o (block_occurrences_in rs (inner k c)) (block_occurrences_in rest c) z)) y)
      (λ y. definer_is rest c e P (λ o z. f o (inr (has-right o (occurrences_in rs (inner k c)) (occurrences_in rest c) z))) (λ o z. g o (has-right o (block_occurrences_in rs (inner k c)) (block_occurrences_in rest c) z)) y)
      (has-append e (definers rs (inner k c)) (definers rest c) x)) h
  definer_is (block l ops rest) c e P f g h =
      ⊎_elim (λ q. subst P (sym q) (g (record { spot = c; label = l; operations = ops }) (inl refl)))
      (λ x. ⊎_elim
      (λ y. definer_is ops (record { spot = c; label = l }) e P (λ o z. f o (has-left o (occurrences_in ops (record { spot = c; label = l })) (occurrences_in rest (next_block c)) z)) (λ o z. g o (inr (has-left o (block_occurrences_in ops (record { spot = c; label = l })) (block_occurrences_in rest (next_block c)) z))) y)
      (λ y. definer_is rest (next_block c) e P (λ o z. f o (has-right o (occurrences_in ops (record { spot = c; label = l })) (occurrences_in rest (next_block c)) z)) (λ o z. g o (inr (has-right o (block_occurrences_in ops (record { spot = c; label = l })) (block_occurrences_in rest (next_block c)) z))) y)
      (has-append e (definers ops (record { spot = c; label = l })) (definers rest (next_block c)) x)) h
  definer_is (region bs rest) c e P f g h =
      ⊎_elim
      (λ y. definer_is bs c e P (λ o z. f o (has-left o (occurrences_in bs c) (occurrences_in rest (next_region c)) z)) (λ o z. g o (has-left o (block_occurrences_in bs c) (block_occurrences_in rest (next_region c)) z)) y)
      (λ y. definer_is rest (next_region c) e P (λ o z. f o (has-right o (occurrences_in bs c) (occurrences_in rest (next_region c)) z)) (λ o z. g o (has-right o (block_occurrences_in bs c) (block_occurrences_in rest (next_region c)) z)) y)
      (has-append e (definers bs c) (definers rest (next_region c)) h)

  -- the heads of the operations, in the same order
  pub heads_are : {s : Sort} (t : Tree N S s) (c : Inside N S s) → map (λ (o : Occurrence N S). o.head) (occurrences_in t c) ≡ heads_in t
  heads_are end c = refl
  heads_are (operation h rs rest) c =
      ap (λ l. h ∷ l) (map-append (λ (o : Occurrence N S). o.head) (occurrences_in rs (inner h c)) (occurrences_in rest c) ∙ λ i. heads_are rs (inner h c) i ++ heads_are rest c i)
  heads_are (block l ops rest) c =
      map-append (λ (o : Occurrence N S). o.head) (occurrences_in ops (record { spot = c; label = l })) (occurrences_in rest (next_block c)) ∙ λ i. heads_are ops (record { spot = c; label = l }) i ++ heads_are rest (next_block c) i
  heads_are (region bs rest) c =
      map-append (λ (o : Occurrence N S). o.head) (occurrences_in bs c) (occurrences_in rest (next_region c)) ∙ λ i. heads_are bs c i ++ heads_are rest (next_region c) i
