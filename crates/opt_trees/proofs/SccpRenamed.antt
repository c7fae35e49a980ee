-- sccp gives one tree, and under other names the same tree.
use Rattle.std.proofs.Common.{◌≡◌, ◌⊎◌, ⊎_elim, inl, inr, List, [], ◌∷◌, Option, Some, None, refl, sym, ap, ◌∙◌, subst}
use Rattle.std.specs.Prelude.{map, slice_get}
use Rattle.ir_trees.specs.Names.{Names, Contents}
use Rattle.ir_trees.specs.Renames.{Maps, rename_defined, rename_head, rename_label, rename, rename_root, names_of}
use Rattle.ir_trees.specs.Trees.{Defined, Head, Label, Sort, Operations, Tree, end, operation, block, region, Root}
use Rattle.opt_trees.specs.Occurrences.{Has, occurrences_of, block_occurrences_of, rename_occurrence, rename_block_occurrence, Renaming, maps}
use Rattle.opt_trees.specs.Dce.{TreeSurroundings, Agree}
use Rattle.opt_trees.specs.Dialect.{Dialect}
use Rattle.opt_trees.specs.Facts.{Facts}
use Rattle.opt_trees.specs.Sccp.{Old, fresh, rename_name, fresh_maps, IsResult, IsArgument, IsUsed, Gets, AreMadeConstants, constant_before, put_one, put_results, put_arguments, used_as, old_head, old_label, put, put_root, IsSccp}
use Rattle.opt_trees.proofs.Lists.{map-map, names-map, has-map, has-from_map, has-apart, at-apart, at-to, option_both, none_some}
use Rattle.opt_trees.proofs.Trees.{operations_renamed, blocks_renamed}
use Rattle.opt_trees.proofs.Best.{best_unique}
use Rattle.opt_trees.proofs.FactsRenamed.{pushed, pulled_pushed, best_pushed}

module _ {N : Names} {S : Contents} {A : Type 0} (d : Dialect S A) (w : TreeSurroundings N A) (t : Root N S) where
  -- which constants are made is decided
  pub made_unique : (k l : Facts N A) (f g : N.value → Option A) → k ≡ l → AreMadeConstants d w t k f → AreMadeConstants d w t l g → f ≡ g
  made_unique k l f g e a b = λ i v. option_both (f v) (g v) (λ x h. b.all v x (subst (λ z. Gets d w t z v x) e (a.gets v x h))) (λ x h. a.all v x (subst (λ z. Gets d w t z v x) (sym e) (b.gets v x h))) i

  pub sccp_unique : (x y : Root (fresh N) S) → IsSccp d w t x → IsSccp d w t y → x ≡ y
  sccp_unique x y a b = a.is ∙ ap (λ f. put_root {N = N} d f t) (made_unique a.facts b.facts a.made b.made (best_unique d t a.facts b.facts a.best b.best) a.is_made b.is_made) ∙ sym b.is

module _ {N M : Names} {S : Contents} {A : Type 0} (d : Dialect S A) (r : Renaming N M) where
  abbrev pub m : Maps N M
  m = maps r

  abbrev pub fm : Maps (fresh N) (fresh M)
  fm = fresh_maps {N = N} {M = M} m

  -- the trees

  module _ (made : N.value → Option A) (made' : M.value → Option A) (agree : (v : N.value) → made' (r.value.to v) ≡ made v) where
    constant_under : (v : N.value) (a : A) (c : Option S.of_operation) (rest : Tree (fresh N) S Operations) → constant_before {N = M} d (r.value.to v) a c (rename fm rest) ≡ rename fm (constant_before {N = N} d v a c rest)
    constant_under v a None rest = refl
    constant_under v a (Some c) rest = refl

    one_under : (v : N.value) (q : Option A) (rest : Tree (fresh N) S Operations) → put_one {N = M} d (r.value.to v) q (rename fm rest) ≡ rename fm (put_one {N = N} d v q rest)
    one_under v None rest = refl
    one_under v (Some a) rest = constant_under v a (d.constant a) rest

    results_under : (vs : List (Defined N.value S.of_value)) (rest : Tree (fresh N) S Operations) → put_results {N = M} d made' (map (rename_defined r.value.to) vs) (rename fm rest) ≡ rename fm (put_results {N = N} d made vs rest)
    results_under [] rest = refl
    results_under (v ∷ vs) rest = (λ i. put_one {N = M} d (r.value.to v.name) (agree v.name i) (results_under vs rest i)) ∙ one_under v.name (made v.name) (put_results {N = N} d made vs rest)

    arguments_under : (vs : List (Defined N.value S.of_value)) (rest : Tree (fresh N) S Operations) → put_arguments {N = M} d made' (map (rename_defined r.value.to) vs) (rename fm rest) ≡ rename fm (put_arguments {N = N} d made vs rest)
    arguments_under [] rest = refl
    arguments_under (v ∷ vs) rest =
        ap (put_arguments {N = M} d made' (map (rename_defined r.value.to) vs)) (ap (λ q. put_one {N = M} d (r.value.to v.name) q (rename fm rest)) (agree v.name) ∙ one_under v.name (made v.name) rest)
        ∙ arguments_under vs (put_one {N = N} d v.name (made v.name) rest)

    used_under : (v : N.value) (q : Option A) → used_as (r.value.to v) q ≡ rename_name r.value.to r.value.to (used_as v q)
    used_under v None = refl
    used_under v (Some a) = refl

    values_under : (vs : List (Defined N.value S.of_value)) → map (rename_defined Old) (map (rename_defined r.value.to) vs) ≡ map (rename_defined (rename_name r.value.to r.value.to)) (map (rename_defined Old) vs)
    values_under vs = map-map (rename_defined Old) (rename_defined r.value.to) vs ∙ sym (map-map (rename_defined (rename_name r.value.to r.value.to)) (rename_defined Old) vs)

    uses_under : (vs : List N.value) → map (λ v. used_as v (made' v)) (map r.value.to vs) ≡ map (rename_name r.value.to r.value.to) (map (λ v. used_as v (made v)) vs)
    uses_under vs =
        map-map (λ v. used_as v (made' v)) r.value.to vs
        ∙ ap (λ f. map f vs) (λ i v. (ap (used_as (r.value.to v)) (agree v) ∙ used_under v (made v)) i)
        ∙ sym (map-map (rename_name r.value.to r.value.to) (λ v. used_as v (made v)) vs)

    head_under : (h : Head N S) → old_head {N = M} made' (rename_head m h) ≡ rename_head fm (old_head {N = N} made h)
    head_under h = λ i. record { name = Old (r.operation.to h.name); content = h.content; results = values_under h.results i; operands = uses_under h.operands i; successors = map r.block.to h.successors }

    label_under : (l : Label N S) → old_label {N = M} (rename_label m l) ≡ rename_label fm (old_label {N = N} l)
    label_under l = λ i. record { name = r.block.to l.name; content = l.content; arguments = values_under l.arguments i }

    put_under : {s : Sort} (t : Tree N S s) → put {N = M} d made' (rename m t) ≡ rename fm (put {N = N} d made t)
    put_under end = refl
    put_under (operation h rs rest) =
        (λ i. put_results {N = M} d made' (map (rename_defined r.value.to) h.results) (operation (head_under h i) (put_under rs i) (put_under rest i)))
        ∙ results_under h.results (operation (old_head {N = N} made h) (put {N = N} d made rs) (put {N = N} d made rest))
    put_under (block l ops rest) =
        λ i. block (label_under l i) ((ap (put_arguments {N = M} d made' (map (rename_defined r.value.to) l.arguments)) (put_under ops) ∙ arguments_under l.arguments (put {N = N} d made ops)) i) (put_under rest i)
    put_under (region bs rest) = λ i. region (put_under bs i) (put_under rest i)

  -- which constants are made

  abbrev pub option_of : (N.value → Option A) → Option N.value → Option A
  option_of f None = None
  option_of f (Some v) = f v

  abbrev pub made_pushed : (N.value → Option A) → M.value → Option A
  made_pushed f w = option_of f (r.value.back w)

  module _ (u : TreeSurroundings N A) (u' : TreeSurroundings M A) (says : Agree r u u') (t : Root N S) (k : Facts N A) where
    result_pushed : (v : N.value) → IsResult d t k v → IsResult d (rename_root m t) (pushed d r k) (r.value.to v)
    result_pushed v p = record {
      definer = rename_occurrence m p.definer;
      stands = subst (Has (rename_occurrence m p.definer)) (sym (operations_renamed m t)) (has-map (rename_occurrence m) p.definer (occurrences_of t) p.stands);
      runs = ap (λ f. f.runs p.definer.site.label.name) (pulled_pushed d r k) ∙ p.runs;
      folds = p.folds;
      no_constant = p.no_constant;
      result = subst (Has (r.value.to v)) (sym (names-map r.value.to p.definer.head.results)) (has-map r.value.to v (names_of p.definer.head.results) p.result);
    }

    argument_pushed : (v : N.value) → IsArgument t k.runs v → IsArgument (rename_root m t) (pushed d r k).runs (r.value.to v)
    argument_pushed v p = record {
      definer = rename_block_occurrence m p.definer;
      stands = subst (Has (rename_block_occurrence m p.definer)) (sym (blocks_renamed m t)) (has-map (rename_block_occurrence m) p.definer (block_occurrences_of t) p.stands);
      in_run = ap (λ f. f.runs p.definer.label.name) (pulled_pushed d r k) ∙ p.in_run;
      argument = subst (Has (r.value.to v)) (sym (names-map r.value.to p.definer.label.arguments)) (has-map r.value.to v (names_of p.definer.label.arguments) p.argument);
    }

    -- the same values are used
    used_pushed : (v : N.value) → IsUsed u t v → IsUsed u' (rename_root m t) (r.value.to v)
    used_pushed v p = ⊎_elim
        (λ b. inl (
          rename_occurrence m b.0,
          b.1,
          record {
            stands = subst (Has (rename_occurrence m b.0)) (sym (operations_renamed m t)) (has-map (rename_occurrence m) b.0 (occurrences_of t) b.2.stands);
            operand = at-to r.value b.0.head.operands b.1 v b.2.operand;
          },
        ))
        (λ q. ⊎_elim (λ h. inr (inl (has-map r.value.to v t.head.operands h))) (λ e. inr (inr (says.pins v ∙ e))) q)
        p

    used_pulled : (v : N.value) → IsUsed u' (rename_root m t) (r.value.to v) → IsUsed u t v
    used_pulled v p = ⊎_elim
        (λ b.
        let q = has-from_map (rename_occurrence m) b.0 (occurrences_of t) (subst (Has b.0) (operations_renamed m t) b.2.stands) in
        inl (
          q.it,
          b.1,
          record {
            stands = q.stands;
            operand = at-apart r.value q.it.head.operands b.1 v (ap (λ y. slice_get y.head.operands b.1) q.is ∙ b.2.operand);
          },
        ))
        (λ q. ⊎_elim (λ h. inr (inl (has-apart r.value v t.head.operands h))) (λ e. inr (inr (sym (says.pins v) ∙ e))) q)
        p

    gets_pushed : (v : N.value) (a : A) → Gets d u t k v a → Gets d u' (rename_root m t) (pushed d r k) (r.value.to v) a
    gets_pushed v a p = record {
      known = ap (λ f. f.of v) (pulled_pushed d r k) ∙ p.known;
      maker = p.maker;
      made_by = p.made_by;
      place = ⊎_elim (λ x. inl (result_pushed v x)) (λ x. inr (argument_pushed v x)) p.place;
      used = used_pushed v p.used;
    }

    abbrev Placed : M.value → Type 0
    Placed w = (v : N.value) × (r.value.to v ≡ w) × (IsResult d t k v ⊎ IsArgument t k.runs v)

    result_pulled : (w : M.value) → IsResult d (rename_root m t) (pushed d r k) w → Placed w
    result_pulled w p =
        let q = has-from_map (rename_occurrence m) p.definer (occurrences_of t) (subst (Has p.definer) (operations_renamed m t) p.stands) in
        let u = has-from_map r.value.to w (names_of q.it.head.results) (subst (Has w) (names-map r.value.to q.it.head.results) (subst (λ x. Has w (names_of x.head.results)) (sym q.is) p.result)) in (
          u.it,
          u.is,
          inl (record {
            definer = q.it;
            stands = q.stands;
            runs = sym (ap (λ f. f.runs q.it.site.label.name) (pulled_pushed d r k)) ∙ ap (λ x. (pushed d r k).runs x.site.label.name) q.is ∙ p.runs;
            folds = ap (λ x. d.is_foldable x.head.content) q.is ∙ p.folds;
            no_constant = ap (λ x. d.is_constant x.head.content) q.is ∙ p.no_constant;
            result = u.stands;
          }),
        )

    argument_pulled : (w : M.value) → IsArgument (rename_root m t) (pushed d r k).runs w → Placed w
    argument_pulled w p =
        let q = has-from_map (rename_block_occurrence m) p.definer (block_occurrences_of t) (subst (Has p.definer) (blocks_renamed m t) p.stands) in
        let u = has-from_map r.value.to w (names_of q.it.label.arguments) (subst (Has w) (names-map r.value.to q.it.label.arguments) (subst (λ x. Has w (names_of x.label.arguments)) (sym q.is) p.argument)) in (
          u.it,
          u.is,
          inr (record {
            definer = q.it;
            stands = q.stands;
            in_run = sym (ap (λ f. f.runs q.it.label.name) (pulled_pushed d r k)) ∙ ap (λ x. (pushed d r k).runs x.label.name) q.is ∙ p.in_run;
            argument = u.stands;
          }),
        )

    made_all : (made : N.value → Option A) → AreMadeConstants d u t k made → (w : M.value) (a : A) → Gets d u' (rename_root m t) (pushed d r k) w a → made_pushed made w ≡ Some a
    made_all made e w a p =
        let q = ⊎_elim (result_pulled w) (argument_pulled w) p.place in
        ap (made_pushed made) (sym q.1) ∙ ap (option_of made) (r.value.there q.0)
        ∙ e.all q.0 a (record { known = sym (ap (λ f. f.of q.0) (pulled_pushed d r k)) ∙ ap (pushed d r k).of q.1 ∙ p.known; maker = p.maker; made_by = p.made_by; place = q.2; used = used_pulled q.0 (subst (IsUsed u' (rename_root m t)) (sym q.1) p.used) })

    made_gets : (made : N.value → Option A) → AreMadeConstants d u t k made → (w : M.value) (a : A) → made_pushed made w ≡ Some a → Gets d u' (rename_root m t) (pushed d r k) w a
    made_gets made e w a h = by_case (r.value.back w) refl
      where
        by_case : (q : Option N.value) → r.value.back w ≡ q → Gets d u' (rename_root m t) (pushed d r k) w a
        by_case None b = absurd (none_some a (sym (ap (option_of made) b) ∙ h))
        by_case (Some v) b = subst (λ x. Gets d u' (rename_root m t) (pushed d r k) x a) (r.value.from w v b) (gets_pushed v a (e.gets v a (sym (ap (option_of made) b) ∙ h)))

  -- what sccp makes of the tree under other names is what it makes of the tree, under those names
  pub sccp_renamed : (u : TreeSurroundings N A) (u' : TreeSurroundings M A) → Agree r u u' → (t : Root N S) (after : Root (fresh N) S) → IsSccp d u t after → IsSccp d u' (rename_root m t) (rename_root fm after)
  sccp_renamed u u' says t after p =
      let agree : (v : N.value) → made_pushed p.made (r.value.to v) ≡ p.made v = λ v. ap (option_of p.made) (r.value.there v) in
      record {
        facts = pushed d r p.facts;
        best = best_pushed d r t p.facts p.best;
        made = made_pushed p.made;
        is_made = record { gets = made_gets u u' says t p.facts p.made p.is_made; all = made_all u u' says t p.facts p.made p.is_made };
        is = ap (rename_root fm) p.is ∙ λ i. record { head = sym (head_under p.made (made_pushed p.made) agree t.head) i; regions = sym (put_under p.made (made_pushed p.made) agree t.regions) i };
      }

  pub sccp_commutes : (u : TreeSurroundings N A) (u' : TreeSurroundings M A) → Agree r u u' → (t : Root N S) (a : Root (fresh N) S) (b : Root (fresh M) S) → IsSccp d u t a → IsSccp d u' (rename_root m t) b → b ≡ rename_root fm a
  sccp_commutes u u' says t a b x y = sccp_unique d u' (rename_root m t) b (rename_root fm a) y (sccp_renamed u u' says t a x)
