-- The tree of a module that keeps the rules is sound.
use Rattle.std.proofs.Common.{◌≡◌, ◌⊎◌, ⊎_elim, inl, inr, ℕ, suc, true, false, List, [], ◌∷◌, ◌++◌, length}
use Rattle.std.proofs.Common.{Option, Some, None, slice_get, refl, sym, ap, ◌∙◌, subst, arith}
use Rattle.std.proofs.lemmas.List.{append-nil}
use Rattle.ir_base.specs.declared.types.TypeHandle.{TypeHandle}
use Rattle.ir_program.specs.declared.handles.Value.{Value}
use Rattle.ir_trees.specs.Renames.{names_of}
use Rattle.ir_trees.specs.Searched.{heads_in, labels_in, operation_names, block_names}
use Rattle.ir_trees.specs.Names.{Names, Contents}
use Rattle.ir_trees.specs.Stands.{by_handle}
use Rattle.ir_trees.specs.Trees.{Head, Label, Sort, Operations, Blocks, Regions, Tree, end, operation, block, region}
use Rattle.kit.specs.Context.{KitTree}
use Rattle.kit_checks.specs.KitWorld.{HasDeclaredTypes, kit_world}
use Rattle.opt_trees.specs.Occurrences.{Has, Occurrence, Inside, inner, next_block, next_region}
use Rattle.opt_trees.specs.Occurrences.{occurrences_in, occurrences_of, block_occurrences_of, at_root}
use Rattle.opt_trees.specs.Occurrences.{defined_in}
use Rattle.opt_trees.proofs.Lists.{has-map, has-from_map}
use Rattle.opt_trees.proofs.NoneDead.{has-append, has-left, has-right}
use Rattle.kit_ops.specs.declared.kinds.KitOp.{KitOp}
use Rattle.kit_ops.specs.declared.kinds.KitOp.TheVariants as ops
use Rattle.kit_ops.specs.declared.types.KitType.{KitType}
use Rattle.kit_checks.specs.declared.rule.Rule.{Rule}
use Rattle.kit_checks.specs.declared.rule.Rule.TheVariants as rule
use Rattle.kit_checks.specs.Faults.{KeptEverywhere}
use Rattle.kit_checks.specs.Rules.{FitsKind}
use Rattle.kit_checks.specs.Sites.{Around, Body, operation_list, block_list, region_list, site_at}
use Rattle.kit_checks.specs.Words.{is_symbol, is_instruction}
use Rattle.kit.specs.Meaning.{KitOperation, KitBlock}
use Rattle.kit_views.specs.Reading.{kit_contents}
use Rattle.kit_views.proofs.Lists.{Sub, sub_all, sub_none, sub_append, sub_map, sub_distinct, to_distinct}
use Rattle.kit_views.proofs.Lists.{from_distinct}
use Rattle.kit_ruled_views.specs.Ruled.{IsRuledFunction, HasOwnNames, type_or_first}
use Rattle.kit_ruled_views.proofs.FunctionSites.{outer_if, inner_place, own_region, inner_around}
use Rattle.kit_ruled_views.proofs.FunctionTypes as types
use Rattle.kit_ruled_views.proofs.FunctionTypes.{typed_function}
use Rattle.kit_ruled_views.proofs.FunctionViews.{flat_view}
use Rattle.kit_ruled_views.specs.Sound.{tree_of, IsHolder, IsInFunction, IsSound}
use Rattle.kit_ruled_views.proofs.programs.Lifted.{lift, lift_block, lifted, lifted_blocks, inside_there, blocks_inside}
use Rattle.kit_ruled_views.proofs.programs.RuledScopes.{ruled_ends, ruled_sees}

-- ---- parts of lists

sub_left : {X : Type 0} (xs ys zs : List X) → Sub xs ys → Sub xs (ys ++ zs)
sub_left xs ys zs h = subst (λ l. Sub l (ys ++ zs)) (append-nil xs) (sub_append xs ys [] zs h (sub_none zs))

sub_right : {X : Type 0} (xs ys zs : List X) → Sub xs zs → Sub xs (ys ++ zs)
sub_right xs ys zs h = sub_append [] ys xs zs (sub_none ys) h

sub_cons : {X : Type 0} (x : X) (xs ys : List X) → Sub xs ys → Sub (x ∷ xs) (x ∷ ys)
sub_cons x xs ys h = inr (xs, refl, h)

module _ {N : Names} {S : Contents} where
  heads_part : {s : Sort} (t : Tree N S s) (c : Inside N S s) (q : Occurrence N S) → Has q (occurrences_in t c) →
      Sub (q.head ∷ heads_in q.regions) (heads_in t)
  heads_part end c q i = absurd i
  heads_part (operation g rs rest) c q i =
      ⊎_elim
      (λ e. subst (λ (x : Occurrence N S). Sub (x.head ∷ heads_in x.regions) (g ∷ (heads_in rs ++ heads_in rest)))
      (sym e)
      (sub_cons g (heads_in rs) (heads_in rs ++ heads_in rest)
      (sub_left (heads_in rs) (heads_in rs) (heads_in rest) (sub_all (heads_in rs)))))
      (λ j. inl (⊎_elim
      (λ k. sub_left (q.head ∷ heads_in q.regions) (heads_in rs) (heads_in rest) (heads_part rs (inner g c) q k))
      (λ k. sub_right (q.head ∷ heads_in q.regions) (heads_in rs) (heads_in rest) (heads_part rest c q k))
      (has-append q (occurrences_in rs (inner g c)) (occurrences_in rest c) j)))
      i
  heads_part (block l os rest) c q i =
      ⊎_elim
      (λ k. sub_left (q.head ∷ heads_in q.regions) (heads_in os) (heads_in rest)
      (heads_part os (record { spot = c; label = l }) q k))
      (λ k. sub_right (q.head ∷ heads_in q.regions) (heads_in os) (heads_in rest) (heads_part rest (next_block c) q k))
      (has-append q (occurrences_in os (record { spot = c; label = l })) (occurrences_in rest (next_block c)) i)
  heads_part (region bs rest) c q i =
      ⊎_elim
      (λ k. sub_left (q.head ∷ heads_in q.regions) (heads_in bs) (heads_in rest) (heads_part bs c q k))
      (λ k. sub_right (q.head ∷ heads_in q.regions) (heads_in bs) (heads_in rest) (heads_part rest (next_region c) q k))
      (has-append q (occurrences_in bs c) (occurrences_in rest (next_region c)) i)

  labels_part : {s : Sort} (t : Tree N S s) (c : Inside N S s) (q : Occurrence N S) → Has q (occurrences_in t c) →
      Sub (labels_in q.regions) (labels_in t)
  labels_part end c q i = absurd i
  labels_part (operation g rs rest) c q i =
      ⊎_elim
      (λ e. subst (λ (x : Occurrence N S). Sub (labels_in x.regions) (labels_in rs ++ labels_in rest)) (sym e)
      (sub_left (labels_in rs) (labels_in rs) (labels_in rest) (sub_all (labels_in rs))))
      (λ j. ⊎_elim
      (λ k. sub_left (labels_in q.regions) (labels_in rs) (labels_in rest) (labels_part rs (inner g c) q k))
      (λ k. sub_right (labels_in q.regions) (labels_in rs) (labels_in rest) (labels_part rest c q k))
      (has-append q (occurrences_in rs (inner g c)) (occurrences_in rest c) j))
      i
  labels_part (block l os rest) c q i =
      inl (⊎_elim
      (λ k. sub_left (labels_in q.regions) (labels_in os) (labels_in rest)
      (labels_part os (record { spot = c; label = l }) q k))
      (λ k. sub_right (labels_in q.regions) (labels_in os) (labels_in rest) (labels_part rest (next_block c) q k))
      (has-append q (occurrences_in os (record { spot = c; label = l })) (occurrences_in rest (next_block c)) i))
  labels_part (region bs rest) c q i =
      ⊎_elim
      (λ k. sub_left (labels_in q.regions) (labels_in bs) (labels_in rest) (labels_part bs c q k))
      (λ k. sub_right (labels_in q.regions) (labels_in bs) (labels_in rest) (labels_part rest (next_region c) q k))
      (has-append q (occurrences_in bs c) (occurrences_in rest (next_region c)) i)

  values_part : {s : Sort} (t : Tree N S s) (c : Inside N S s) (q : Occurrence N S) → Has q (occurrences_in t c) →
      Sub (defined_in q.regions) (defined_in t)
  values_part end c q i = absurd i
  values_part (operation g rs rest) c q i =
      sub_right (defined_in q.regions) (names_of g.results) (defined_in rs ++ defined_in rest) (⊎_elim
      (λ e. subst (λ (x : Occurrence N S). Sub (defined_in x.regions) (defined_in rs ++ defined_in rest)) (sym e)
      (sub_left (defined_in rs) (defined_in rs) (defined_in rest) (sub_all (defined_in rs))))
      (λ j. ⊎_elim
      (λ k. sub_left (defined_in q.regions) (defined_in rs) (defined_in rest) (values_part rs (inner g c) q k))
      (λ k. sub_right (defined_in q.regions) (defined_in rs) (defined_in rest) (values_part rest c q k))
      (has-append q (occurrences_in rs (inner g c)) (occurrences_in rest c) j))
      i)
  values_part (block l os rest) c q i =
      sub_right (defined_in q.regions) (names_of l.arguments) (defined_in os ++ defined_in rest) (⊎_elim
      (λ k. sub_left (defined_in q.regions) (defined_in os) (defined_in rest)
      (values_part os (record { spot = c; label = l }) q k))
      (λ k. sub_right (defined_in q.regions) (defined_in os) (defined_in rest) (values_part rest (next_block c) q k))
      (has-append q (occurrences_in os (record { spot = c; label = l })) (occurrences_in rest (next_block c)) i))
  values_part (region bs rest) c q i =
      ⊎_elim
      (λ k. sub_left (defined_in q.regions) (defined_in bs) (defined_in rest) (values_part bs c q k))
      (λ k. sub_right (defined_in q.regions) (defined_in bs) (defined_in rest) (values_part rest (next_region c) q k))
      (has-append q (occurrences_in bs c) (occurrences_in rest (next_region c)) i)

-- what stands in a tree has names of its own
names_inside : (t : KitTree) → HasOwnNames t → (q : Occurrence by_handle kit_contents) → Has q (occurrences_of t) →
    HasOwnNames (tree_of {N = by_handle} q)
names_inside t own q i = record {
  operations = from_distinct (operation_names (tree_of {N = by_handle} q))
      (sub_distinct (operation_names (tree_of {N = by_handle} q)) (operation_names t)
      (inl (sub_map (λ (h : Head by_handle kit_contents). h.name) (q.head ∷ heads_in q.regions) (heads_in t.regions)
      (heads_part t.regions (at_root t) q i))) (to_distinct (operation_names t) own.operations));
  blocks = from_distinct (block_names (tree_of {N = by_handle} q))
      (sub_distinct (block_names (tree_of {N = by_handle} q)) (block_names t)
      (sub_map (λ (l : Label by_handle kit_contents). l.name) (labels_in q.regions) (labels_in t.regions)
      (labels_part t.regions (at_root t) q i)) (to_distinct (block_names t) own.blocks));
  values = from_distinct (defined_in q.regions)
      (sub_distinct (defined_in q.regions) (defined_in t.regions) (values_part t.regions (at_root t) q i)
      (to_distinct (defined_in t.regions) own.values));
}

symbol_kind : (k : KitOp) → is_symbol k ≡ true → (k ≡ ops.Func) ⊎ (k ≡ ops.Module)
symbol_kind ops.Func e = inl refl
symbol_kind ops.Module e = inr refl
symbol_kind ops.Constant e = absurd (cc e)
symbol_kind ops.ForwardRef e = absurd (cc e)
symbol_kind (ops.Arithmetic a) e = absurd (cc e)
symbol_kind (ops.Comparison a) e = absurd (cc e)
symbol_kind ops.Br e = absurd (cc e)
symbol_kind ops.CondBr e = absurd (cc e)
symbol_kind ops.Call e = absurd (cc e)
symbol_kind ops.Emit e = absurd (cc e)
symbol_kind ops.Return e = absurd (cc e)

no_function : (k : KitOp) → is_instruction k ≡ true → k ≡ ops.Func → ⊥
no_function k e f = let bad : false ≡ true = ap is_instruction (sym f) ∙ e in absurd (cc bad)

empty : {X : Type 0} (xs : List X) → length xs ≡ 0 → xs ≡ []
empty [] h = refl
empty (x ∷ xs) h = absurd (omega (arith, h))

module _ (leads : TypeHandle → Option KitType) (typed : Value → Option TypeHandle) (t : KitTree)
    (keeps : (r : Rule) → KeptEverywhere (kit_world leads typed) t r) where
  abbrev Op : Type 0
  Op = Occurrence by_handle kit_contents

  -- an operation of a module's block, at its place
  record Member (u : KitTree) : Type 0 where
    place : List ℕ
    around : Option (Around KitOperation KitBlock)
    there : site_at t place ≡ Some (record { op = u; around = around })
    symbol : is_symbol u.head.content.kind ≡ true

  abbrev Members : (s : Sort) → Tree by_handle kit_contents s → Type 0
  Members Operations os = (j : ℕ) (u : KitTree) → slice_get (operation_list os) j ≡ Some u → Member u
  Members Blocks bs = (b : ℕ) (x : Body KitOperation KitBlock) → slice_get (block_list bs) b ≡ Some x → (j : ℕ)
      (u : KitTree) → slice_get (operation_list x.operations) j ≡ Some u → Member u
  Members Regions rs = (r : ℕ) (bs : Tree by_handle kit_contents Blocks) → slice_get (region_list rs) r ≡ Some bs →
      (b : ℕ)
      (x : Body KitOperation KitBlock) → slice_get (block_list bs) b ≡ Some x → (j : ℕ) (u : KitTree) →
      slice_get (operation_list x.operations) j ≡ Some u → Member u

  -- what a module at a place holds
  held : (u : KitTree) (place : List ℕ) (around : Option (Around KitOperation KitBlock)) →
      site_at t place ≡ Some (record { op = u; around = around }) → u.head.content.kind ≡ ops.Module →
      Members Regions u.regions
  held u place around there kind r bs hr b x hb j v hv =
      let at = inner_place t (record { op = u; around = around }) place there r b j bs x v hr hb hv in
      let a : Around KitOperation KitBlock =
      record { owner = u; outer = outer_if around; blocks = bs; number = b; body = x; index = j } in
      record {
        place = place ++ r ∷ b ∷ j ∷ [];
        around = Some a;
        there = at;
        symbol = (keeps rule.ModuleHolds (place ++ r ∷ b ∷ j ∷ []) (record { op = v; around = Some a }) at).kinds a
            (refl, kind);
      }

  -- what is known of an operation inside
  record Fine (q : Op) : Type 0 where
    ruled : q.head.content.kind ≡ ops.Func → IsRuledFunction leads typed (tree_of {N = by_handle} q)
    stands_in : IsHolder {N = by_handle} q ⊎ IsInFunction {N = by_handle} t q

  member_ruled : (u : KitTree) → Member u → u.head.content.kind ≡ ops.Func → IsRuledFunction leads typed u
  member_ruled u m kind = record {
    root = t;
    keeps = keeps;
    place = m.place;
    around = m.around;
    there = m.there;
    function = kind;
  }

  member_holds : (q : Op) → Member (tree_of {N = by_handle} q) → IsHolder {N = by_handle} q
  member_holds q m =
      let kind = symbol_kind q.head.content.kind m.symbol in
      let format = keeps rule.FitsFormat m.place (record { op = tree_of {N = by_handle} q; around = m.around })
      m.there in
      record {
        kind = kind;
        no_operands = ⊎_elim (λ e. empty q.head.operands (as_function e format).1)
            (λ e. empty q.head.operands (as_module e format).1) kind;
        no_successors = ⊎_elim (λ e. empty q.head.successors (as_function e format).0.successors)
            (λ e. empty q.head.successors (as_module e format).0.successors) kind;
      }
    where
      as_function : q.head.content.kind ≡ ops.Func →
          FitsKind (kit_world leads typed) (tree_of {N = by_handle} q) q.head.content.kind →
          FitsKind (kit_world leads typed) (tree_of {N = by_handle} q) ops.Func
      as_function e h = subst (FitsKind (kit_world leads typed) (tree_of {N = by_handle} q)) e h

      as_module : q.head.content.kind ≡ ops.Module →
          FitsKind (kit_world leads typed) (tree_of {N = by_handle} q) q.head.content.kind →
          FitsKind (kit_world leads typed) (tree_of {N = by_handle} q) ops.Module
      as_module e h = subst (FitsKind (kit_world leads typed) (tree_of {N = by_handle} q)) e h

  -- an operation of a function
  inner_fine : (f : Op) → Has f (occurrences_of t) → Member (tree_of {N = by_handle} f) →
      f.head.content.kind ≡ ops.Func →
      (q : Op) → Has q (occurrences_in f.regions (inner f.head f.site)) → Fine q
  inner_fine f stands m kind q i =
      let u : KitTree = tree_of {N = by_handle} f in
      let ruled = member_ruled u m kind in
      let own = own_region leads typed u ruled in
      let z = has-from_map
      (lift {N = by_handle} {S = kit_contents} (f.head.name ∷ f.site.spot.around) (f.site.label.name ∷
      f.site.spot.within)) q
      (occurrences_of u)
      (subst (Has q)
      (lifted {N = by_handle} {S = kit_contents} (f.head.name ∷ f.site.spot.around) (f.site.label.name ∷
      f.site.spot.within)
      f.regions (at_root u)) i) in
      let p = types.place leads typed u ruled own.0 own.1 z.it z.stands in
      let heads : p.op.head ≡ q.head = p.head ∙ ap (λ (x : Op). x.head) z.is in
      let instruction = (types.keeps leads typed u ruled own.0 own.1 z.it.head p rule.FunctionHolds
      (inner_around leads typed u ruled own.0 own.1 p.number p.body p.index) (refl, kind)).0 in
      record {
        ruled = λ e. absurd (no_function p.op.head.content.kind instruction
            (ap (λ (h : Head by_handle kit_contents). h.content.kind) heads ∙ e));
        stands_in = inr (record { function = f; stands = stands; is = kind; inside = i });
      }

  walk : {s : Sort} (x : Tree by_handle kit_contents s) (c : Inside by_handle kit_contents s) →
      ((q : Op) → Has q (occurrences_in x c) → Has q (occurrences_of t)) → Members s x → (q : Op) →
      Has q (occurrences_in x c) → Fine q
  walk end c sub each q i = absurd i
  walk (operation h rs rest) c sub each q i =
      let own : Op = record { site = c; head = h; regions = rs } in
      let m = each 0 (tree_of {N = by_handle} own) refl in
      ⊎_elim
      (λ e. subst Fine (sym e)
      (record { ruled = member_ruled (tree_of {N = by_handle} own) m; stands_in = inl (member_holds own m) }))
      (λ j. ⊎_elim
      (λ k. ⊎_elim
      (λ kind. inner_fine own (sub own (inl refl)) m kind q k)
      (λ kind. walk rs (inner h c)
      (λ p w. sub p (inr (has-left p (occurrences_in rs (inner h c)) (occurrences_in rest c) w)))
      (held (tree_of {N = by_handle} own) m.place m.around m.there kind) q k)
      (symbol_kind h.content.kind m.symbol))
      (λ k. walk rest c
      (λ p w. sub p (inr (has-right p (occurrences_in rs (inner h c)) (occurrences_in rest c) w)))
      (λ n u e. each (suc n) u e) q k)
      (has-append q (occurrences_in rs (inner h c)) (occurrences_in rest c) j))
      i
  walk (block l os rest) c sub each q i =
      ⊎_elim
      (λ k. walk os (record { spot = c; label = l })
      (λ p w. sub p (has-left p (occurrences_in os (record { spot = c; label = l })) (occurrences_in rest (next_block
      c)) w))
      (λ j u e. each 0 (record { label = l; operations = os }) refl j u e) q k)
      (λ k. walk rest (next_block c)
      (λ p w. sub p (has-right p (occurrences_in os (record { spot = c; label = l })) (occurrences_in rest
      (next_block c)) w))
      (λ b x e j u g. each (suc b) x e j u g) q k)
      (has-append q (occurrences_in os (record { spot = c; label = l })) (occurrences_in rest (next_block c)) i)
  walk (region bs rest) c sub each q i =
      ⊎_elim
      (λ k. walk bs c (λ p w. sub p (has-left p (occurrences_in bs c) (occurrences_in rest (next_region c)) w))
      (λ b x e j u g. each 0 bs refl b x e j u g) q k)
      (λ k. walk rest (next_region c)
      (λ p w. sub p (has-right p (occurrences_in bs c) (occurrences_in rest (next_region c)) w))
      (λ r cs hr b x e j u g. each (suc r) cs hr b x e j u g) q k)
      (has-append q (occurrences_in bs c) (occurrences_in rest (next_region c)) i)

  root_kind : t.head.content.kind ≡ ops.Module
  root_kind = keeps rule.RootIsModule [] (record { op = t; around = None }) refl refl

  fine : (q : Op) → Has q (occurrences_of t) → Fine q
  fine = walk t.regions (at_root t) (λ q i. i) (held t [] None refl root_kind)

  types_inside : HasDeclaredTypes typed t → (o : Op) → Has o (occurrences_of t) →
      HasDeclaredTypes typed (tree_of {N = by_handle} o)
  types_inside have o stands = record {
    results = λ p i v h. have.results
        (lift {N = by_handle} {S = kit_contents} (o.head.name ∷ o.site.spot.around) (o.site.label.name ∷
        o.site.spot.within) p)
        (inside_there {N = by_handle} t.regions (at_root t) o
        (lift {N = by_handle} {S = kit_contents} (o.head.name ∷ o.site.spot.around) (o.site.label.name ∷
        o.site.spot.within) p)
        stands (subst
        (Has (lift {N = by_handle} {S = kit_contents} (o.head.name ∷ o.site.spot.around)
        (o.site.label.name ∷ o.site.spot.within) p))
        (sym (lifted {N = by_handle} {S = kit_contents} (o.head.name ∷ o.site.spot.around)
        (o.site.label.name ∷ o.site.spot.within) o.regions (at_root (tree_of {N = by_handle} o))))
        (has-map (lift {N = by_handle} {S = kit_contents} (o.head.name ∷ o.site.spot.around)
        (o.site.label.name ∷ o.site.spot.within)) p (occurrences_of (tree_of {N = by_handle} o)) i))) v h;
    arguments = λ x i v h. have.arguments
        (lift_block {N = by_handle} {S = kit_contents} (o.head.name ∷ o.site.spot.around)
        (o.site.label.name ∷ o.site.spot.within) x)
        (blocks_inside t.regions (at_root t) o
        (lift_block {N = by_handle} {S = kit_contents} (o.head.name ∷ o.site.spot.around)
        (o.site.label.name ∷ o.site.spot.within) x)
        stands (subst
        (Has (lift_block {N = by_handle} {S = kit_contents} (o.head.name ∷ o.site.spot.around)
        (o.site.label.name ∷ o.site.spot.within) x))
        (sym (lifted_blocks {N = by_handle} {S = kit_contents} (o.head.name ∷ o.site.spot.around)
        (o.site.label.name ∷ o.site.spot.within) o.regions (at_root (tree_of {N = by_handle} o))))
        (has-map (lift_block {N = by_handle} {S = kit_contents} (o.head.name ∷ o.site.spot.around)
        (o.site.label.name ∷ o.site.spot.within)) x (block_occurrences_of (tree_of {N = by_handle} o)) i))) v h;
  }

  pub ruled_sound : (numbered : List ℕ → ℕ) → HasOwnNames t → HasDeclaredTypes typed t →
      IsSound {N = by_handle} leads numbered (type_or_first typed) t
  ruled_sound numbered own have = record {
    names = own;
    no_operands =
        let format : FitsKind (kit_world leads typed) t ops.Module =
        subst (FitsKind (kit_world leads typed) t) root_kind
        (keeps rule.FitsFormat [] (record { op = t; around = None }) refl) in
        empty t.head.operands format.1;
    functions = λ o stands kind.
        let u : KitTree = tree_of {N = by_handle} o in
        let ruled = (fine o stands).ruled kind in
        let names = names_inside t own o stands in
        let view = flat_view leads typed numbered u ruled names in
        record {
          kind = kind;
          flat = view.0;
          is_flat = view.1;
          ends = ruled_ends leads typed numbered u ruled view.0 view.1;
          sees = ruled_sees leads typed numbered u ruled view.0 view.1;
          is_typed = typed_function leads typed u ruled names.blocks (types_inside have o stands);
        };
    others = λ o stands. (fine o stands).stands_in;
  }
