-- The phases of simplifying control flow bring no new handle of an operation.
use Rattle.std.proofs.Common.{◌≡◌, ⊎_elim, inl, inr, Bool, true, false, List, [], ◌∷◌, ◌++◌, map, Option, Some, None}
use Rattle.std.proofs.Common.{refl, sym, ap, ◌∙◌, subst}
use Rattle.std.specs.Prelude.{if◌then◌else◌, ℕ, not, ◌&&◌}
use Rattle.ir_base.specs.declared.types.TypeHandle.{TypeHandle}
use Rattle.ir_program.specs.declared.handles.BasicBlock.{BasicBlock}
use Rattle.ir_program.specs.declared.handles.Operation.{Operation}
use Rattle.ir_program.specs.declared.handles.Ptr.{Ptr}
use Rattle.ir_program.specs.declared.handles.Value.{Value}
use Rattle.ir_trees.specs.Searched.{Lists, heads_in, operation_names}
use Rattle.ir_trees.specs.Stands.{by_handle}
use Rattle.ir_trees.specs.Trees.{Sort, Regions, end, operation, block, region}
use Rattle.kit.specs.Context.{KitTree}
use Rattle.kit.specs.Meaning.{KitOperation, kit}
use Rattle.kit_pass_rules.proofs.Apart.OccurrenceLemmas.{each_operation}
use Rattle.kit_pass_rules.proofs.Chains.InversionLemmas.{KitList, Becomes}
use Rattle.kit_pass_rules.proofs.Chains.ListLemmas.{KitHead}
use Rattle.kit_pass_rules.proofs.Chains.PlaceLemmas.{KitOccurrence, orderly, is_local}
use Rattle.kit_pass_rules.proofs.Simplified.DefinerLemmas.{InsideKit, both_of, to_either, either_kept}
use Rattle.kit_ops.specs.declared.attributes.IntegerAttr.{IntegerAttr}
use Rattle.kit_ops.specs.declared.types.KitType.{KitType}
use Rattle.kit_pass_rules.specs.Laws.{IsGood}
use Rattle.kit_pass_rules.proofs.Lists.{has_at_index, index_of_has}
use Rattle.opt_trees.specs.Dce.{TreeSurroundings}
use Rattle.opt_trees.specs.Occurrences.{Has, inner, next_block, next_region, occurrences_in, at_root}
use Rattle.opt_trees.specs.Simplify.{all_of, is_bare, along_edge, decide_head, decide, decided, keep, IsCut, IsJoined}
use Rattle.opt_trees.specs.Simplify.{use_head, use_instead}
use Rattle.opt_trees.proofs.Lists.{map-append}

-- the handles of the operations at every depth
abbrev names_in : {s : Sort} → KitList s → List (Ptr Operation)
names_in end = []
names_in (operation h rs rest) = h.name ∷ (names_in rs ++ names_in rest)
names_in (block l xs rest) = names_in xs ++ names_in rest
names_in (region bs rest) = names_in bs ++ names_in rest

names_are : {s : Sort} (x : KitList s) → map (λ (h : KitHead). h.name) (heads_in x) ≡ names_in x
names_are end = refl
names_are (operation h rs rest) = ap (λ l. h.name ∷ l)
    (map-append (λ (h : KitHead). h.name) (heads_in rs) (heads_in rest) ∙ (λ i. names_are rs i ++ names_are rest i))
names_are (block l xs rest) =
    map-append (λ (h : KitHead). h.name) (heads_in xs) (heads_in rest) ∙ (λ i. names_are xs i ++ names_are rest i)
names_are (region bs rest) =
    map-append (λ (h : KitHead). h.name) (heads_in bs) (heads_in rest) ∙ (λ i. names_are bs i ++ names_are rest i)

module _ (n : Ptr Operation) where
  abbrev IsNamed : KitOccurrence → Type 0
  IsNamed o = n ≡ o.head.name

  name_at : {s : Sort} (x : KitList s) (c : InsideKit s) → Has n (names_in x) →
      (o : KitOccurrence) × Has o (occurrences_in x c) × IsNamed o
  name_at end c h = absurd h
  name_at (operation g rs rest) c h = ⊎_elim
      (λ a. (record { site = c; head = g; regions = rs }, inl refl, a))
      (λ b.
      let r = both_of n (names_in rs) (names_in rest) (occurrences_in rs (inner g c)) (occurrences_in rest c) IsNamed
      (name_at rs (inner g c)) (name_at rest c) b in
      (r.0, inr r.1, r.2)) h
  name_at (block l xs rest) c h =
      both_of n (names_in xs) (names_in rest) (occurrences_in xs (record { spot = c; label = l }))
      (occurrences_in rest (next_block c)) IsNamed
      (name_at xs (record { spot = c; label = l })) (name_at rest (next_block c)) h
  name_at (region bs rest) c h =
      both_of n (names_in bs) (names_in rest) (occurrences_in bs c) (occurrences_in rest (next_region c)) IsNamed
      (name_at bs c) (name_at rest (next_region c)) h

  name_of : {s : Sort} (x : KitList s) (c : InsideKit s) (o : KitOccurrence) → Has o (occurrences_in x c) → IsNamed o →
      Has n (names_in x)
  name_of end c o h g = absurd h
  name_of (operation k rs rest) c o h g = ⊎_elim
      (λ e. inl (g ∙ ap (λ (z : KitOccurrence). z.head.name) e))
      (λ m. inr (to_either n o (names_in rs) (names_in rest) (occurrences_in rs (inner k c)) (occurrences_in rest c)
      (λ a. name_of rs (inner k c) o a g) (λ b. name_of rest c o b g) m)) h
  name_of (block l xs rest) c o h g =
      to_either n o (names_in xs) (names_in rest) (occurrences_in xs (record { spot = c; label = l }))
      (occurrences_in rest (next_block c))
      (λ a. name_of xs (record { spot = c; label = l }) o a g) (λ b. name_of rest (next_block c) o b g) h
  name_of (region bs rest) c o h g =
      to_either n o (names_in bs) (names_in rest) (occurrences_in bs c) (occurrences_in rest (next_region c))
      (λ a. name_of bs c o a g) (λ b. name_of rest (next_region c) o b g) h

  -- ---- blocks cut

  name_kept : (g : Ptr BasicBlock → Bool) {s : Sort} (x : KitList s) → Has n (names_in (keep g x)) → Has n (names_in x)
  name_kept g end h = h
  name_kept g (operation k rs rest) h = ⊎_elim (λ e. inl e)
      (λ m. inr (either_kept n (names_in (keep g rs)) (names_in (keep g rest)) (names_in rs) (names_in rest)
      (name_kept g rs) (name_kept g rest) m)) h
  name_kept g (block l xs rest) h = by_test (g l.name) h (name_kept g rest)
      (either_kept n (names_in (keep g xs)) (names_in (keep g rest)) (names_in xs) (names_in rest) (name_kept g xs)
      (name_kept g rest))
    where
      by_test : (b : Bool) → Has n (names_in (if b then keep g rest else block l (keep g xs) (keep g rest))) →
          (Has n (names_in (keep g rest)) → Has n (names_in rest)) →
          (Has n (names_in (keep g xs) ++ names_in (keep g rest)) → Has n (names_in xs ++ names_in rest)) →
          Has n (names_in xs ++ names_in rest)
      by_test true h f k = either_kept n [] (names_in (keep g rest)) (names_in xs) (names_in rest) (λ a. absurd a) f h
      by_test false h f k = k h
  name_kept g (region bs rest) h =
      either_kept n (names_in (keep g bs)) (names_in (keep g rest)) (names_in bs) (names_in rest) (name_kept g bs)
      (name_kept g rest) h

-- ---- branches decided

module _ (w : TreeSurroundings by_handle IntegerAttr) where
  edge_name : (h : KitHead) (i : Option ℕ) (c : Option KitOperation) → (along_edge kit h i c).name ≡ h.name
  edge_name h None c = refl
  edge_name h (Some i) None = refl
  edge_name h (Some i) (Some c) = refl

  head_name : (h : KitHead) (rs : KitList Regions) → (decide_head kit w.alone h rs).name ≡ h.name
  head_name h rs = by_test (is_bare kit h rs && not (kit.is_plain h.content))
    where
      by_test : (b : Bool) →
          (if b then along_edge kit h (kit.edge h.content (map w.alone h.operands)) kit.plain else h).name ≡ h.name
      by_test true = edge_name h (kit.edge h.content (map w.alone h.operands)) kit.plain
      by_test false = refl

  names_decided : {s : Sort} (x : KitList s) → names_in (decide kit w.alone x) ≡ names_in x
  names_decided end = refl
  names_decided (operation h rs rest) = λ i. head_name h rs i ∷ (names_decided rs i ++ names_decided rest i)
  names_decided (block l xs rest) = λ i. names_decided xs i ++ names_decided rest i
  names_decided (region bs rest) = λ i. names_decided bs i ++ names_decided rest i

-- ---- each phase

-- each handle of an operation of the second tree is one of the first
abbrev pub NamesStay : KitTree → KitTree → Type 0
NamesStay t u = (n : Ptr Operation) → Lists (operation_names u) n → Lists (operation_names t) n

listed : (t u : KitTree) → t.head.name ≡ u.head.name →
    ((n : Ptr Operation) → Has n (names_in u.regions) → Has n (names_in t.regions)) → NamesStay t u
listed t u e f n l =
    let h : Has n (u.head.name ∷ names_in u.regions) =
    subst (λ z. Has n (u.head.name ∷ z)) (names_are u.regions) (has_at_index (operation_names u) l.0 n l.1) in
    let g : Has n (t.head.name ∷ names_in t.regions) = ⊎_elim (λ a. inl (a ∙ sym e)) (λ b. inr (f n b)) h in
    index_of_has (operation_names t) n (subst (λ z. Has n (t.head.name ∷ z)) (sym (names_are t.regions)) g)

pub decided_names : (w : TreeSurroundings by_handle IntegerAttr) (t : KitTree) → NamesStay t (decided kit w t)
decided_names w t = listed t (decided kit w t) refl (λ n h. subst (Has n) (names_decided w t.regions) h)

pub cut_names : (t after : KitTree) → IsCut kit (all_of t) t after → NamesStay t after
cut_names t after c = subst (NamesStay t) (sym c.is)
    (listed t (record { head = t.head; regions = keep c.gone t.regions }) refl (λ n h. name_kept n c.gone t.regions h))

module _ (leads : TypeHandle → Option KitType) (typed : Value → Option TypeHandle) (t : KitTree)
    (good : IsGood leads typed t) where
  made_names : (names : Value → Value) (made : KitList Regions) → Becomes t None Regions t.regions made →
      NamesStay t (record { head = use_head names t.head; regions = use_instead names made })
  made_names names made joins =
      let after : KitTree = record { head = use_head names t.head; regions = use_instead names made } in
      listed t after refl (λ n h.
      let o = name_at n (use_instead names made) (at_root after) h in
      let w = each_operation kit (all_of t) t (orderly leads typed t good) (is_local leads typed t good)
      names made joins
      o.0 o.1 in
      name_of n t.regions (at_root t) w.it w.stands (o.2 ∙ ap (λ (h : KitHead). h.name) w.head))

  pub joined_names : (after : KitTree) → IsJoined kit (all_of t) t after → NamesStay t after
  joined_names after j = subst (NamesStay t) (sym j.is) (made_names j.names j.regions j.joins)
