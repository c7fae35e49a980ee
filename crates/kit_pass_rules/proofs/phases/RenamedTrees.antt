-- Trees whose operations have other handles.
use Rattle.std.proofs.Common.{◌≡◌, ⊎_elim, inl, inr, false, List, [], ◌∷◌, map, None, refl, sym, ap, ◌∙◌, subst}
use Rattle.ir_program.specs.declared.handles.Operation.{Operation}
use Rattle.ir_program.specs.declared.handles.Ptr.{Ptr}
use Rattle.ir_trees.specs.Renames.{KeepsApart, rename_head, rename_label, rename, rename_root}
use Rattle.ir_trees.specs.Searched.{Lists, heads_in, heads_of, operation_names}
use Rattle.ir_trees.specs.Stands.{by_handle, in_program, ProgramLabel}
use Rattle.ir_trees.specs.Trees.{Sort, end, operation, block, region}
use Rattle.kit.specs.Context.{KitTree}
use Rattle.kit.specs.Meaning.{KitOperation, KitBlock}
use Rattle.kit_pass_rules.specs.Names.{maps_of}
use Rattle.kit_pass_rules.proofs.Lists.{index_of_has}
use Rattle.kit_pass_rules.proofs.Walk.{OccurrenceOf}
use Rattle.kit_pass_rules.specs.CutLaws.{RenamedKeepsRules, RenamedStaysGood}
use Rattle.kit_pass_rules.proofs.phases.CarriedTrees.{Carries, keeps_from, good_from}
use Rattle.kit_pass_rules.proofs.pruning.PrunedTrees.{KitHead, KitListed, Pruning, head_by, prune, prune_tree}
use Rattle.kit_pass_rules.proofs.pruning.PrunedSites.{MayPrune}
use Rattle.opt_trees.specs.Occurrences.{Has, Inside, inner, next_block, next_region, occurrences_in, occurrences_of}
use Rattle.opt_trees.specs.Occurrences.{block_occurrences_of, at_root, rename_occurrence, rename_block_occurrence}
use Rattle.opt_trees.proofs.Lists.{none_some, has-map, has-from_map}
use Rattle.opt_trees.proofs.NoneDead.{has-append, has-left, has-right}
use Rattle.opt_trees.proofs.Trees.{operations_renamed, blocks_renamed}

pub map_self : {X : Type 0} (f : X → X) (xs : List X) → ((x : X) → f x ≡ x) → map f xs ≡ xs
map_self f [] h = refl
map_self f (x ∷ xs) h = λ i. h x i ∷ map_self f xs h i

-- an operation of the tree is one of its operations by name
heads_has : {s : Sort} (x : KitListed s) (c : Inside by_handle (in_program KitOperation KitBlock) s)
    (o : OccurrenceOf KitOperation KitBlock) → Has o (occurrences_in x c) → Has o.head (heads_in x)
heads_has end c o h = absurd h
heads_has (operation hd rs rest) c o h = ⊎_elim
    (λ q. inl (ap (λ (z : OccurrenceOf KitOperation KitBlock). z.head) q))
    (λ m. inr (⊎_elim
    (λ i. has-left o.head (heads_in rs) (heads_in rest) (heads_has rs (inner hd c) o i))
    (λ i. has-right o.head (heads_in rs) (heads_in rest) (heads_has rest c o i))
    (has-append o (occurrences_in rs (inner hd c)) (occurrences_in rest c) m)))
    h
heads_has (block l os rest) c o h = ⊎_elim
    (λ i. has-left o.head (heads_in os) (heads_in rest) (heads_has os (record { spot = c; label = l }) o i))
    (λ i. has-right o.head (heads_in os) (heads_in rest) (heads_has rest (next_block c) o i))
    (has-append o (occurrences_in os (record { spot = c; label = l })) (occurrences_in rest (next_block c)) h)
heads_has (region bs rest) c o h = ⊎_elim
    (λ i. has-left o.head (heads_in bs) (heads_in rest) (heads_has bs c o i))
    (λ i. has-right o.head (heads_in bs) (heads_in rest) (heads_has rest (next_region c) o i))
    (has-append o (occurrences_in bs c) (occurrences_in rest (next_region c)) h)

pub name_listed : (t : KitTree) (o : OccurrenceOf KitOperation KitBlock) → Has o (occurrences_of t) →
    Lists (operation_names t) o.head.name
name_listed t o h = index_of_has (operation_names t) o.head.name
    (has-map (λ (z : KitHead). z.name) o.head (heads_of t) (inr (heads_has t.regions (at_root t) o h)))

module _ (names : Ptr Operation → Ptr Operation) where
  pub head_renamed : (h : KitHead) → rename_head (maps_of names) h ≡ head_by (names h.name) None h
  head_renamed h = λ i. record {
    name = names h.name;
    content = h.content;
    results = map_self (λ v. v) h.results (λ v. refl) i;
    operands = map_self (λ v. v) h.operands (λ v. refl) i;
    successors = map_self (λ b. b) h.successors (λ b. refl) i;
  }

  pub label_renamed : (l : ProgramLabel KitOperation KitBlock) → rename_label (maps_of names) l ≡ l
  label_renamed l = λ i. record {
    name = l.name;
    content = l.content;
    arguments = map_self (λ v. v) l.arguments
        (λ v. refl) i;
  }

  abbrev other_names : Pruning
  other_names = record { names = names; taken = λ h rs. None; gone = λ b. false }

  may_rename : (t : KitTree) → MayPrune other_names t
  may_rename t = record {
    conditional = λ h rs i e. absurd (none_some i e);
    one_of_two = λ h rs i e. absurd (none_some i e);
    entries = λ x h f. refl;
    modules = λ x h m. refl;
    targets = λ c e body target u hc hu he same stays has. refl;
  }

  renamed_is : {s : Sort} (x : KitListed s) → rename (maps_of names) x ≡ prune other_names x
  renamed_is end = refl
  renamed_is (operation h rs rest) = λ i. operation (head_renamed h i) (renamed_is rs i) (renamed_is rest i)
  renamed_is (block l os rest) = λ i. block (label_renamed l i) (renamed_is os i) (renamed_is rest i)
  renamed_is (region bs rest) = λ i. region (renamed_is bs i) (renamed_is rest i)

  root_is : (t : KitTree) → rename_root (maps_of names) t ≡ prune_tree other_names t
  root_is t = λ i. record { head = head_renamed t.head i; regions = renamed_is t.regions i }

  carries : (t : KitTree) → KeepsApart names (operation_names t) → Carries t (rename_root (maps_of names) t)
  carries t apart = record {
    made = rename_occurrence (maps_of names);
    block_made = rename_block_occurrence (maps_of names);
    operations = λ p h. has-from_map (rename_occurrence (maps_of names)) p (occurrences_of t)
        (subst (Has p) (operations_renamed (maps_of names) t) h);
    blocks = λ y h. has-from_map (rename_block_occurrence (maps_of names)) y (block_occurrences_of t)
        (subst (Has y) (blocks_renamed (maps_of names) t) h);
    names = λ o p ho hp e. apart o.head.name p.head.name (name_listed t o ho) (name_listed t p hp) e;
    results = λ o. ap (λ (h : KitHead). h.results) (head_renamed o.head);
    labels = λ x. label_renamed x.label;
  }

-- each operation with the handle that it has
same_names : {s : Sort} (x : KitListed s) → rename (maps_of (λ o. o)) x ≡ x
same_names end = refl
same_names (operation h rs rest) = λ i. operation (head_renamed (λ o. o) h i) (same_names rs i) (same_names rest i)
same_names (block l os rest) = λ i. block (label_renamed (λ o. o) l i) (same_names os i) (same_names rest i)
same_names (region bs rest) = λ i. region (same_names bs i) (same_names rest i)

pub same_root : (t : KitTree) → rename_root (maps_of (λ o. o)) t ≡ t
same_root t = λ i. record { head = head_renamed (λ o. o) t.head i; regions = same_names t.regions i }

pub renamed_keeps : RenamedKeepsRules
renamed_keeps = λ leads old new t after good named typed.
    let names = named.2 in
    keeps_from leads (other_names names) t (may_rename names t) after
    (named.3 ∙ (ap (rename_root (maps_of names)) named.1 ∙ root_is names t)) old new good typed

pub renamed_good : RenamedStaysGood
renamed_good = λ leads typed t after good named.
    let names = named.2 in
    let is : after ≡ rename_root (maps_of names) t = named.4 ∙ ap (rename_root (maps_of names)) named.1 in
    good_from leads (other_names names) t (may_rename names t) after (is ∙ root_is names t) typed good
    (subst (Carries t) (sym is) (carries names t named.3))
