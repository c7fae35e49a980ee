-- Constants put into the tree of a module are put into each of its functions.
use Rattle.std.proofs.Common.{◌≡◌, ⊎_elim, inl, inr, ℕ, Bool, true, false, List, [], ◌∷◌, ◌++◌, map, Option, Some, None}
use Rattle.std.proofs.Common.{refl, sym, ap, ◌∙◌, subst}
use Rattle.std.specs.Prelude.{if◌then◌else◌, slice_get}
use Rattle.ir_base.specs.declared.types.TypeHandle.{TypeHandle}
use Rattle.ir_trees.specs.Names.{Names}
use Rattle.ir_trees.specs.Renames.{names_of, rename_defined}
use Rattle.ir_trees.specs.Searched.{operation_names, heads_in}
use Rattle.ir_trees.specs.Trees.{Defined, Head, Sort, Operations, Tree, end, operation, block, region, Root}
use Rattle.opt_rows.specs.declared.known.Known.TheVariants.{Any}
use Rattle.opt_rows.specs.Known.{AtOrBelow, MorePrecise}
use Rattle.opt_trees.specs.Dce.{TreeSurroundings}
use Rattle.opt_trees.specs.Facts.{Facts, EntriesRun, OperationClosed, IsClosed, IsMostPrecise}
use Rattle.opt_trees.specs.Occurrences.{Has, Occurrence, BlockOccurrence, inner, occurrences_of, block_occurrences_of, at_root, defined_in}
use Rattle.opt_trees.specs.Sccp.{Old, fresh, IsResult, IsArgument, IsUsed, Gets, AreMadeConstants, used_as, put_one, put_results, put_arguments, old_head, old_label, put, put_root, IsSccp}
use Rattle.opt_trees.proofs.Defined.{result_defined, argument_defined, definer}
use Rattle.opt_trees.proofs.Lists.{none_some, map-map, has-map, has-from_map}
use Rattle.opt_trees.proofs.NoneDead.{has-left, has-right, true_false}
use Rattle.kit_ops.specs.declared.attributes.IntegerAttr.{IntegerAttr}
use Rattle.kit_ops.specs.declared.types.KitType.{KitType}
use Rattle.kit.specs.Meaning.{kit}
use Rattle.kit_behaviour.specs.Scopes.{is_in}
use Rattle.kit_views.specs.FlatView.{names_in}
use Rattle.kit_views.specs.Laws.{NothingPinned}
use Rattle.kit_views.specs.Reading.{kit_contents}
use Rattle.kit_views.proofs.Definers.{heads_are}
use Rattle.kit_views.proofs.Lists.{to_distinct}
use Rattle.kit_ruled_views.specs.ProgramLaws.{AreTold}
use Rattle.kit_ruled_views.specs.Sound.{tree_of, IsSound}
use Rattle.kit_ruled_views.proofs.programs.FactsInside.{facts_in, facts_out, in_of, in_runs, out_of, out_runs, closed_in}
use Rattle.kit_ruled_views.proofs.programs.FactsInside.{closed_up, closed_elsewhere, foreign, entries_from, entries_same}
use Rattle.kit_ruled_views.proofs.programs.FactsInside.{op_named, block_named}
use Rattle.kit_ruled_views.proofs.programs.Inside.{Function, up, up_block, there, block_there, block_pair, same_up}
use Rattle.kit_ruled_views.proofs.programs.Inside.{maker_up, taker_up, user_up}
use Rattle.kit_ruled_views.proofs.programs.Lifted.{blocks_inside, one_operation}
use Rattle.kit_ruled_views.proofs.programs.Restricted.{has_is, is_has, left_true, right_true}

used_same : {V : Type 0} (m n : V → Option IntegerAttr) (vs : List V) → ((v : V) → Has v vs → m v ≡ n v) →
    map (λ v. used_as v (m v)) vs ≡ map (λ v. used_as v (n v)) vs
used_same m n [] h = refl
used_same m n (v ∷ vs) h = λ i. used_as v (h v (inl refl) i) ∷ used_same m n vs (λ x k. h x (inr k)) i

-- constants that agree on what stands in a tree are put in alike
module _ {N : Names} (m n : N.value → Option IntegerAttr) where
  results_same : (ds : List (Defined N.value TypeHandle)) (x : Tree (fresh N) kit_contents Operations) →
      ((v : N.value) → Has v (names_of ds) → m v ≡ n v) →
      put_results {N = N} kit m ds x ≡ put_results {N = N} kit n ds x
  results_same [] x h = refl
  results_same (d ∷ ds) x h =
      λ i. put_one {N = N} kit d.name (h d.name (inl refl) i) (results_same ds x (λ v k. h v (inr k)) i)

  arguments_same : (ds : List (Defined N.value TypeHandle)) (x : Tree (fresh N) kit_contents Operations) →
      ((v : N.value) → Has v (names_of ds) → m v ≡ n v) →
      put_arguments {N = N} kit m ds x ≡ put_arguments {N = N} kit n ds x
  arguments_same [] x h = refl
  arguments_same (d ∷ ds) x h =
      ap (λ o. put_arguments {N = N} kit m ds (put_one {N = N} kit d.name o x)) (h d.name (inl refl))
      ∙ arguments_same ds (put_one {N = N} kit d.name (n d.name) x) (λ v k. h v (inr k))

  pub head_same : (h : Head N kit_contents) → ((v : N.value) → Has v h.operands → m v ≡ n v) →
      old_head {N = N} m h ≡ old_head {N = N} n h
  head_same h e = λ i. record {
    name = Old h.name;
    content = h.content;
    results = map (rename_defined Old) h.results;
    operands = used_same m n h.operands e i;
    successors = h.successors;
  }

  pub put_same : {s : Sort} (t : Tree N kit_contents s) → ((v : N.value) → Has v (defined_in t) → m v ≡ n v) →
      ((h : Head N kit_contents) → Has h (heads_in t) → (v : N.value) → Has v h.operands → m v ≡ n v) →
      put {N = N} kit m t ≡ put {N = N} kit n t
  put_same end d o = refl
  put_same (operation h rs rest) d o =
      let own = results_same h.results (operation (old_head {N = N} m h) (put {N = N} kit m rs) (put {N = N} kit m
      rest))
      (λ v k. d v (has-left v (names_of h.results) (defined_in rs ++ defined_in rest) k)) in
      let below = put_same rs
      (λ v k. d v (has-right v (names_of h.results) (defined_in rs ++ defined_in rest)
      (has-left v (defined_in rs) (defined_in rest) k)))
      (λ g k. o g (inr (has-left g (heads_in rs) (heads_in rest) k))) in
      let behind = put_same rest
      (λ v k. d v (has-right v (names_of h.results) (defined_in rs ++ defined_in rest)
      (has-right v (defined_in rs) (defined_in rest) k)))
      (λ g k. o g (inr (has-right g (heads_in rs) (heads_in rest) k))) in
      own ∙ (λ i. put_results {N = N} kit n h.results (operation (head_same h (o h (inl refl)) i) (below i) (behind i)))
  put_same (block l os rest) d o =
      let own = arguments_same l.arguments (put {N = N} kit m os)
      (λ v k. d v (has-left v (names_of l.arguments) (defined_in os ++ defined_in rest) k)) in
      let below = put_same os
      (λ v k. d v (has-right v (names_of l.arguments) (defined_in os ++ defined_in rest)
      (has-left v (defined_in os) (defined_in rest) k)))
      (λ g k. o g (has-left g (heads_in os) (heads_in rest) k)) in
      let behind = put_same rest
      (λ v k. d v (has-right v (names_of l.arguments) (defined_in os ++ defined_in rest)
      (has-right v (defined_in os) (defined_in rest) k)))
      (λ g k. o g (has-right g (heads_in os) (heads_in rest) k)) in
      λ i. block (old_label {N = N} l)
      ((own ∙ ap (put_arguments {N = N} kit n l.arguments) below) i) (behind i)
  put_same (region bs rest) d o =
      let below = put_same bs (λ v k. d v (has-left v (defined_in bs) (defined_in rest) k))
      (λ g k. o g (has-left g (heads_in bs) (heads_in rest) k)) in
      let behind = put_same rest (λ v k. d v (has-right v (defined_in bs) (defined_in rest) k))
      (λ g k. o g (has-right g (heads_in bs) (heads_in rest) k)) in
      λ i. region (below i) (behind i)

module _ {N : Names} (told : AreTold N) (leads : TypeHandle → Option KitType) (numbered : List ℕ → ℕ)
    (type_at : N.value → TypeHandle) (t : Root N kit_contents) (sound : IsSound {N = N} leads numbered type_at t)
    (o : Occurrence N kit_contents) (function : Function {N = N} leads numbered type_at t sound o) where
  abbrev Op : Type 0
  Op = Occurrence N kit_contents

  abbrev Bl : Type 0
  Bl = BlockOccurrence N kit_contents

  abbrev u : Root N kit_contents
  u = tree_of o

  abbrev op_name : Op → N.operation
  op_name p = p.head.name

  abbrev names : List N.operation
  names = map op_name (occurrences_of u)

  abbrev lifted_op : Op → Op
  lifted_op = up {N = N} leads numbered type_at t sound o

  abbrev inner_facts : Facts N IntegerAttr → Facts N IntegerAttr
  inner_facts = facts_in {N = N} told leads numbered type_at t sound o function

  abbrev outer_facts : Facts N IntegerAttr → Facts N IntegerAttr
  outer_facts = facts_out {N = N} told leads numbered type_at t sound o function

  -- a block of the function has the function as its owner
  owner_is : (x y : Bl) → Has y (block_occurrences_of u) → up_block {N = N} leads numbered type_at t sound o y ≡ x →
      o.head ≡ x.spot.owner
  owner_is x y hy e =
      sym (block_pair {N = N} leads numbered type_at t sound o function y hy).same.owner
      ∙ ap (λ (z : Bl). z.spot.owner) e

  root_apart : o.head.name ≡ t.head.name → ⊥
  root_apart e =
      (to_distinct (operation_names t) sound.names.operations).0
      (subst (λ z. Has z (map (λ (h : Head N kit_contents). h.name) (heads_in t.regions))) e
      (subst (Has o.head.name)
      (sym (map-map (λ (h : Head N kit_contents). h.name) (λ (p : Op). p.head) (occurrences_of t))
      ∙ ap (map (λ (h : Head N kit_contents). h.name)) (heads_are t.regions (at_root t)))
      (has-map op_name o (occurrences_of t) function.stands)))

  pub defined_there : (v : N.value) → Has v (defined_in o.regions) → Has v (defined_in t.regions)
  defined_there v h =
      ⊎_elim
      (λ z. result_defined t.regions (at_root t) (lifted_op z.it) v
      (there {N = N} leads numbered type_at t sound o function z.it z.stands) z.value)
      (λ z. argument_defined t.regions (at_root t) (up_block {N = N} leads numbered type_at t sound o z.it) v
      (block_there {N = N} leads numbered type_at t sound o function z.it z.stands) z.value)
      (definer o.regions (at_root u) v h)

  -- nothing in the function is named from outside the module
  pub unpinned_inside : (w : TreeSurroundings N IntegerAttr) → NothingPinned w t → NothingPinned w u
  unpinned_inside w none v h pinned = none v (defined_there v h) pinned

  closed_out : (l : Facts N IntegerAttr) → IsClosed kit u l → IsClosed kit t (outer_facts l)
  closed_out l c = record {
    entries = entries_from {N = N} (outer_facts l) t.regions (at_root t)
        (λ x hx e. foreign {N = N} told leads numbered type_at t sound o function l x hx
        (λ y hy same. root_apart (ap (λ (h : Head N kit_contents). h.name) (owner_is x y hy same ∙ e))));
    outside = λ v none. outside v none (is_in told.value v (defined_in o.regions)) refl;
    inside = λ q hq r. by_place q hq r (is_in told.operation q.head.name names) refl;
  }
    where
      outside : (v : N.value) → (Has v (defined_in t.regions) → ⊥) → (b : Bool) →
          is_in told.value v (defined_in o.regions) ≡ b → (outer_facts l).of v ≡ Any
      outside v none false e = ap (λ b. if b then l.of v else Any) e
      outside v none true e = absurd (none (defined_there v (is_has told.value told.values v (defined_in o.regions) e)))

      entries_there : (q : Op) → Has q (occurrences_of t) → (b : Bool) → told.operation q.head.name o.head.name ≡ b →
          EntriesRun (outer_facts l) q.regions
      entries_there q hq true e =
          let same : q ≡ o =
          one_operation t sound.names.operations q o hq function.stands
          (told.operations.true_same q.head.name o.head.name e) in
          subst (λ (z : Op). EntriesRun (outer_facts l) z.regions) (sym same)
          (entries_same {N = N} l (outer_facts l) o.regions function.sound_function.is_flat.view.blocks
          function.sound_function.is_flat.view.region
          (λ b i. sym (out_runs {N = N} told leads numbered type_at t sound o function l b i))
          (λ v i. sym (out_of {N = N} told leads numbered type_at t sound o function l v i)) c.entries)
      entries_there q hq false e =
          entries_from {N = N} (outer_facts l) q.regions (inner q.head q.site)
          (λ x hx w. foreign {N = N} told leads numbered type_at t sound o function l x
          (blocks_inside t.regions (at_root t) q x hq hx)
          (λ y hy same. true_false (told.operation q.head.name o.head.name)
          (ap (told.operation q.head.name) (ap (λ (h : Head N kit_contents). h.name) (owner_is x y hy same ∙ w))
          ∙ told.operations.same_true q.head.name) e))

      by_place : (q : Op) → Has q (occurrences_of t) → (outer_facts l).runs q.site.label.name ≡ true → (b : Bool) →
          is_in told.operation q.head.name names ≡ b → OperationClosed kit (block_occurrences_of t) (outer_facts l) q
      by_place q hq r false e =
          closed_elsewhere {N = N} told leads numbered type_at t sound o function l q hq
          (λ p hp same. true_false (is_in told.operation q.head.name names)
          (has_is told.operation told.operations q.head.name names
          (subst (λ (z : Op). Has z.head.name names) same (has-map op_name p (occurrences_of u) hp))) e)
          (entries_there q hq (told.operation q.head.name o.head.name) refl)
      by_place q hq r true e =
          let p = has-from_map op_name q.head.name (occurrences_of u)
          (is_has told.operation told.operations q.head.name names e) in
          let same = same_up {N = N} leads numbered type_at t sound o function p.it q p.stands hq (sym p.is) in
          subst (OperationClosed kit (block_occurrences_of t) (outer_facts l)) same
          (closed_up {N = N} told leads numbered type_at t sound o function (outer_facts l) l
          (out_of {N = N} told leads numbered type_at t sound o function l)
          (out_runs {N = N} told leads numbered type_at t sound o function l) p.it p.stands
          (c.inside p.it p.stands
          (out_runs {N = N} told leads numbered type_at t sound o function l p.it.site.label.name
          (op_named {N = N} told leads numbered type_at t sound o function p.it p.stands)
          ∙ ap (λ (z : Op). (outer_facts l).runs z.site.label.name) same ∙ r)))

  best_in : (k : Facts N IntegerAttr) → IsMostPrecise kit t k → k.runs o.site.label.name ≡ true →
      IsMostPrecise kit u (inner_facts k)
  best_in k best running = record {
    closed = closed_in {N = N} told leads numbered type_at t sound o function k best.closed running;
    best = λ l c.
        let m = best.best (outer_facts l) (closed_out l c) in
        record {
          fewer = λ b r.
              let here = right_true (k.runs b) (is_in told.block b (names_in
              function.sound_function.is_flat.view.blocks)) r in
              ap (λ x. if x then l.runs b else true) (sym here)
              ∙ m.fewer b (left_true (k.runs b) (is_in told.block b (names_in
              function.sound_function.is_flat.view.blocks)) r);
          above = λ v. above l c m v (is_in told.value v (defined_in o.regions)) refl;
        };
  }
    where
      above : (l : Facts N IntegerAttr) → IsClosed kit u l → MorePrecise k (outer_facts l) → (v : N.value) →
          (b : Bool) →
          is_in told.value v (defined_in o.regions) ≡ b → AtOrBelow (l.of v) ((inner_facts k).of v)
      above l c m v true e =
          subst (AtOrBelow (l.of v)) (ap (λ x. if x then k.of v else Any) (sym e))
          (subst (λ z. AtOrBelow z (k.of v)) (ap (λ x. if x then l.of v else Any) e) (m.above v))
      above l c m v false e =
          subst (λ z. AtOrBelow z ((inner_facts k).of v))
          (sym (c.outside v (λ i. true_false (is_in told.value v (defined_in o.regions))
          (has_is told.value told.values v (defined_in o.regions) i) e))) tt

  module _ (w : TreeSurroundings N IntegerAttr) (k : Facts N IntegerAttr) (made : N.value → Option IntegerAttr)
      (is_made : AreMadeConstants kit w t k made) where
    abbrev made_in : N.value → Option IntegerAttr
    made_in v = if is_in told.value v (defined_in o.regions) then made v else None

    here_made : (v : N.value) → Has v (defined_in o.regions) → made v ≡ made_in v
    here_made v i = ap (λ b. if b then made v else None) (sym (has_is told.value told.values v (defined_in o.regions)
        i))

    runs_here : (p : Op) → Has p (occurrences_of u) → (inner_facts k).runs p.site.label.name ≡ k.runs p.site.label.name
    runs_here p hp =
        in_runs {N = N} told leads numbered type_at t sound o function k p.site.label.name
        (op_named {N = N} told leads numbered type_at t sound o function p hp)

    result_down : (v : N.value) → Has v (defined_in o.regions) → IsResult kit t k v → IsResult kit u (inner_facts k) v
    result_down v i g =
        let p = maker_up {N = N} leads numbered type_at t sound o function g.definer v g.stands g.result i in
        record {
          definer = p.0;
          stands = p.1;
          runs = runs_here p.0 p.1 ∙ ap (λ (z : Op). k.runs z.site.label.name) p.2 ∙ g.runs;
          folds = ap (λ (z : Op). kit.is_foldable z.head.content) p.2 ∙ g.folds;
          no_constant = ap (λ (z : Op). kit.is_constant z.head.content) p.2 ∙ g.no_constant;
          result = subst (λ (z : Op). Has v (names_of z.head.results)) (sym p.2) g.result;
        }

    argument_down : (v : N.value) → Has v (defined_in o.regions) → IsArgument t k.runs v →
        IsArgument u (inner_facts k).runs v
    argument_down v i g =
        let x = taker_up {N = N} leads numbered type_at t sound o function g.definer v g.stands g.argument i in
        record {
          definer = x.0;
          stands = x.1;
          in_run = in_runs {N = N} told leads numbered type_at t sound o function k x.0.label.name
              (block_named {N = N} told leads numbered type_at t sound o function x.0 x.1)
              ∙ ap (λ (z : Bl). k.runs z.label.name) x.2 ∙ g.in_run;
          argument = subst (λ (z : Bl). Has v (names_of z.label.arguments)) (sym x.2) g.argument;
        }

    -- a value of the function has a use in the module exactly where it has one in the function
    used_down : (v : N.value) → Has v (defined_in o.regions) → IsUsed w t v → IsUsed w u v
    used_down v i g = ⊎_elim
        (λ b.
        let p = user_up {N = N} leads numbered type_at t sound o function b.0 v b.1 b.2.stands b.2.operand i in
        inl (p.0, b.1, record { stands = p.1; operand = ap (λ (z : Op). slice_get z.head.operands b.1) p.2 ∙ b.2.operand }))
        (λ q. ⊎_elim (λ h. absurd (subst (Has v) sound.no_operands h)) (λ e. inr (inr e)) q)
        g

    used_up : (v : N.value) → IsUsed w u v → IsUsed w t v
    used_up v g = ⊎_elim
        (λ b. inl (
          lifted_op b.0,
          b.1,
          record { stands = there {N = N} leads numbered type_at t sound o function b.0 b.2.stands; operand = b.2.operand },
        ))
        (λ q. ⊎_elim (λ h. absurd (subst (Has v) function.sound_function.is_flat.view.no_operands h)) (λ e. inr (inr e)) q)
        g

    gets_in : (v : N.value) (a : IntegerAttr) (b : Bool) → is_in told.value v (defined_in o.regions) ≡ b →
        (if b then made v else None) ≡ Some a → Gets kit w u (inner_facts k) v a
    gets_in v a false e q = absurd (none_some a q)
    gets_in v a true e q =
        let g = is_made.gets v a q in
        let i = is_has told.value told.values v (defined_in o.regions) e in
        record {
          known = in_of {N = N} told leads numbered type_at t sound o function k v i ∙ g.known;
          maker = g.maker;
          made_by = g.made_by;
          place = ⊎_elim (λ z. inl (result_down v i z)) (λ z. inr (argument_down v i z)) g.place;
          used = used_down v i g.used;
        }

    all_in : (v : N.value) (a : IntegerAttr) → Gets kit w u (inner_facts k) v a → made_in v ≡ Some a
    all_in v a g =
        let i : Has v (defined_in o.regions) =
        ⊎_elim (λ (z : IsResult kit u (inner_facts k) v). result_defined o.regions (at_root u) z.definer v z.stands
        z.result)
        (λ (z : IsArgument u (inner_facts k).runs v).
        argument_defined o.regions (at_root u) z.definer v z.stands z.argument) g.place in
        sym (here_made v i)
        ∙ is_made.all v a (record {
          known = sym (in_of {N = N} told leads numbered type_at t sound o function k v i) ∙ g.known;
          maker = g.maker;
          made_by = g.made_by;
          place = ⊎_elim
              (λ (z : IsResult kit u (inner_facts k) v). inl (record {
                definer = lifted_op z.definer;
                stands = there {N = N} leads numbered type_at t sound o function z.definer z.stands;
                runs = sym (runs_here z.definer z.stands) ∙ z.runs;
                folds = z.folds;
                no_constant = z.no_constant;
                result = z.result;
              }))
              (λ (z : IsArgument u (inner_facts k).runs v). inr (record {
                definer = up_block {N = N} leads numbered type_at t sound o z.definer;
                stands = block_there {N = N} leads numbered type_at t sound o function z.definer z.stands;
                in_run = sym (in_runs {N = N} told leads numbered type_at t sound o function k z.definer.label.name
                    (block_named {N = N} told leads numbered type_at t sound o function z.definer z.stands)) ∙ z.in_run;
                argument = z.argument;
              })) g.place;
          used = used_up v g.used;
        })

    -- constants put into the function
    pub function_sccp : IsMostPrecise kit t k → k.runs o.site.label.name ≡ true →
        IsSccp kit w u (put_root {N = N} kit made u)
    function_sccp best running = record {
      facts = inner_facts k;
      best = best_in k best running;
      made = made_in;
      is_made = record {
        gets = λ v a e. gets_in v a (is_in told.value v (defined_in o.regions)) refl e;
        all = all_in;
      };
      is = λ i. record {
        head = head_same {N = N} made made_in o.head
            (λ v h. absurd (subst (Has v) function.sound_function.is_flat.view.no_operands h)) i;
        regions = put_same {N = N} made made_in o.regions here_made
            (λ h m v w.
            let p = has-from_map (λ (p : Op). p.head) h (occurrences_of u)
            (subst (Has h) (sym (heads_are o.regions (at_root u))) m) in
            here_made v (function.sound_function.is_typed.operands p.it v p.stands
            (subst (λ (g : Head N kit_contents). Has v g.operands) (sym p.is) w))) i;
      };
    }
