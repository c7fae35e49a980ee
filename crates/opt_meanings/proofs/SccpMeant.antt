-- What sccp makes of what a tree means is the meaning of what it makes of the tree.
use Rattle.std.proofs.Common.{◌≡◌, ⊎_elim, inl, inr, List, [], ◌∷◌, Option, Some, None, refl, sym, ap, ◌∙◌, subst}
use Rattle.std.specs.Prelude.{map, option_map, slice_get}
use Rattle.ir_trees.specs.Names.{Names, Contents}
use Rattle.ir_trees.specs.Renames.{rename_defined, names_of}
use Rattle.ir_trees.specs.Trees.{Defined, Head, Label, Sort, Operations, Tree, end, operation, block, region, Root}
use Rattle.opt_trees.specs.Occurrences.{Has}
use Rattle.opt_trees.specs.Dce.{TreeSurroundings}
use Rattle.opt_trees.specs.Dialect.{Dialect}
use Rattle.opt_trees.specs.Facts.{Facts}
use Rattle.opt_trees.specs.Sccp.{Old, New, fresh, IsResult, IsArgument, IsUsed, Gets, AreMadeConstants, IsSccp, used_as}
use Rattle.opt_trees.specs.Sccp.{constant_before, put_one, put_results, put_arguments, old_head, old_label, put, put_root}
use Rattle.opt_trees.proofs.Lists.{map-map, from_some}
use Rattle.opt_meanings.specs.Meanings.{Meanings, IsMeant, mean_defined, mean_head, mean_label, mean, mean_root}
use Rattle.opt_meanings.proofs.Said.{names-mean, mean_occurrence, mean_block_occurrence}
use Rattle.opt_meanings.proofs.Said.{operation_there, operation_from, block_there, block_from}
use Rattle.opt_meanings.proofs.FactsMeant.{best_meant}

-- definitions under other names mean the same
pub renamed_meant : {V W T U : Type 0} (g : V → W) (f : T → U) (vs : List (Defined V T)) →
    map (rename_defined g) (map (mean_defined f) vs) ≡ map (mean_defined f) (map (rename_defined g) vs)
renamed_meant g f vs = map-map (rename_defined g) (mean_defined f) vs ∙ sym (map-map (mean_defined f) (rename_defined g) vs)

module _ {N : Names} {S R : Contents} {A : Type 0} (m : Meanings S R) (d : Dialect S A) (e : Dialect R A) (meant : IsMeant m d e) where
  -- the operation that makes a constant means the one that makes it elsewhere
  constant_meant : (v : N.value) (a : A) (c : Option S.of_operation) (rest : Tree (fresh N) S Operations) →
      constant_before {N = N} e v a (option_map m.operation c) (mean m rest) ≡ mean m (constant_before {N = N} d v a c rest)
  constant_meant v a None rest = refl
  constant_meant v a (Some c) rest = λ i.
      operation
      (record {
        name = New v;
        content = m.operation c;
        results = record { name = New v; holds = meant.constant_type a i } ∷ [];
        operands = [];
        successors = [];
      })
      end (mean m rest)

  -- the same of what is put for one value
  one_meant : (v : N.value) (q : Option A) (rest : Tree (fresh N) S Operations) →
      put_one {N = N} e v q (mean m rest) ≡ mean m (put_one {N = N} d v q rest)
  one_meant v None rest = refl
  one_meant v (Some a) rest =
      ap (λ c. constant_before {N = N} e v a c (mean m rest)) (meant.constant a) ∙ constant_meant v a (d.constant a) rest

  module _ (made : N.value → Option A) where
    -- the same of what is put for results
    results_meant : (vs : List (Defined N.value S.of_value)) (rest : Tree (fresh N) S Operations) →
        put_results {N = N} e made (map (mean_defined m.value) vs) (mean m rest) ≡ mean m (put_results {N = N} d made vs rest)
    results_meant [] rest = refl
    results_meant (v ∷ vs) rest =
        ap (put_one {N = N} e v.name (made v.name)) (results_meant vs rest)
        ∙ one_meant v.name (made v.name) (put_results {N = N} d made vs rest)

    -- the same of what is put for arguments
    arguments_meant : (vs : List (Defined N.value S.of_value)) (rest : Tree (fresh N) S Operations) →
        put_arguments {N = N} e made (map (mean_defined m.value) vs) (mean m rest) ≡ mean m (put_arguments {N = N} d made vs rest)
    arguments_meant [] rest = refl
    arguments_meant (v ∷ vs) rest =
        ap (put_arguments {N = N} e made (map (mean_defined m.value) vs)) (one_meant v.name (made v.name) rest)
        ∙ arguments_meant vs (put_one {N = N} d v.name (made v.name) rest)

    -- an operation under old names, its operands replaced, means the same
    head_meant : (h : Head N S) → old_head {N = N} made (mean_head m h) ≡ mean_head m (old_head {N = N} made h)
    head_meant h = λ i. record {
      name = Old h.name;
      content = m.operation h.content;
      results = renamed_meant Old m.value h.results i;
      operands = map (λ v. used_as v (made v)) h.operands;
      successors = h.successors;
    }

    -- a block under old names means the same
    label_meant : (l : Label N S) → old_label {N = N} (mean_label m l) ≡ mean_label m (old_label {N = N} l)
    label_meant l = λ i. record { name = l.name; content = m.block l.content; arguments = renamed_meant Old m.value l.arguments i }

    -- constants are put into what a tree means as they are into the tree
    pub put_meant : {s : Sort} (t : Tree N S s) → put {N = N} e made (mean m t) ≡ mean m (put {N = N} d made t)
    put_meant end = refl
    put_meant (operation h rs rest) =
        (λ i. put_results {N = N} e made (map (mean_defined m.value) h.results)
        (operation (head_meant h i) (put_meant rs i) (put_meant rest i)))
        ∙ results_meant h.results (operation (old_head {N = N} made h) (put {N = N} d made rs) (put {N = N} d made rest))
    put_meant (block l ops rest) = λ i.
        block (label_meant l i)
        ((ap (put_arguments {N = N} e made (map (mean_defined m.value) l.arguments)) (put_meant ops)
        ∙ arguments_meant l.arguments (put {N = N} d made ops)) i)
        (put_meant rest i)
    put_meant (region bs rest) = λ i. region (put_meant bs i) (put_meant rest i)

    -- the same of a root
    pub root_meant : (t : Root N S) → put_root {N = N} e made (mean_root m t) ≡ mean_root m (put_root {N = N} d made t)
    root_meant t = λ i. record { head = head_meant t.head i; regions = put_meant t.regions i }

  module _ (t : Root N S) (k : Facts N A) where
    -- a result of a foldable operation is one in what the tree means
    result_forth : (v : N.value) → IsResult d t k v → IsResult e (mean_root m t) k v
    result_forth v p = record {
      definer = mean_occurrence m p.definer;
      stands = operation_there m t p.definer p.stands;
      runs = p.runs;
      folds = meant.is_foldable p.definer.head.content ∙ p.folds;
      no_constant = meant.is_constant p.definer.head.content ∙ p.no_constant;
      result = subst (Has v) (sym (names-mean m.value p.definer.head.results)) p.result;
    }

    -- and the other way round
    result_back : (v : N.value) → IsResult e (mean_root m t) k v → IsResult d t k v
    result_back v p =
        let q = operation_from m t p.definer p.stands in
        record {
          definer = q.it;
          stands = q.stands;
          runs = ap (λ x. k.runs x.site.label.name) q.is ∙ p.runs;
          folds = sym (meant.is_foldable q.it.head.content) ∙ ap (λ x. e.is_foldable x.head.content) q.is ∙ p.folds;
          no_constant = sym (meant.is_constant q.it.head.content) ∙ ap (λ x. e.is_constant x.head.content) q.is ∙ p.no_constant;
          result =
              subst (Has v) (names-mean m.value q.it.head.results) (subst (λ x. Has v (names_of x.head.results)) (sym q.is) p.result);
        }

    -- an argument of a block that runs is one in what the tree means
    argument_forth : (v : N.value) → IsArgument t k.runs v → IsArgument (mean_root m t) k.runs v
    argument_forth v p = record {
      definer = mean_block_occurrence m p.definer;
      stands = block_there m t p.definer p.stands;
      in_run = p.in_run;
      argument = subst (Has v) (sym (names-mean m.value p.definer.label.arguments)) p.argument;
    }

    -- and the other way round
    argument_back : (v : N.value) → IsArgument (mean_root m t) k.runs v → IsArgument t k.runs v
    argument_back v p =
        let q = block_from m t p.definer p.stands in
        record {
          definer = q.it;
          stands = q.stands;
          in_run = ap (λ x. k.runs x.label.name) q.is ∙ p.in_run;
          argument =
              subst (Has v) (names-mean m.value q.it.label.arguments)
              (subst (λ x. Has v (names_of x.label.arguments)) (sym q.is) p.argument);
        }

    module _ (w : TreeSurroundings N A) where
      -- a value that is used is used in what the tree means
      used_forth : (v : N.value) → IsUsed w t v → IsUsed w (mean_root m t) v
      used_forth v p = ⊎_elim
          (λ b. inl (mean_occurrence m b.0, b.1, record { stands = operation_there m t b.0 b.2.stands; operand = b.2.operand }))
          (λ q. inr q)
          p

      -- and the other way round
      used_back : (v : N.value) → IsUsed w (mean_root m t) v → IsUsed w t v
      used_back v p = ⊎_elim
          (λ b.
          let q = operation_from m t b.0 b.2.stands in
          inl (q.it, b.1, record { stands = q.stands; operand = ap (λ x. slice_get x.head.operands b.1) q.is ∙ b.2.operand }))
          (λ q. inr q)
          p

      -- a value gets the constant in what the tree means that it gets in the tree
      pub gets_forth : (v : N.value) (a : A) → Gets d w t k v a → Gets e w (mean_root m t) k v a
      gets_forth v a p = record {
        known = p.known;
        maker = m.operation p.maker;
        made_by = meant.constant a ∙ ap (option_map m.operation) p.made_by;
        place = ⊎_elim (λ x. inl (result_forth v x)) (λ x. inr (argument_forth v x)) p.place;
        used = used_forth v p.used;
      }

      -- and the other way round
      pub gets_back : (v : N.value) (a : A) → Gets e w (mean_root m t) k v a → Gets d w t k v a
      gets_back v a p =
          let c = from_some m.operation (d.constant a) p.maker (sym (meant.constant a) ∙ p.made_by) in
          record {
            known = p.known;
            maker = c.it;
            made_by = c.some;
            place = ⊎_elim (λ x. inl (result_back v x)) (λ x. inr (argument_back v x)) p.place;
            used = used_back v p.used;
          }

      -- the same constants are made
      pub made_meant : (made : N.value → Option A) → AreMadeConstants d w t k made → AreMadeConstants e w (mean_root m t) k made
      made_meant made p = record {
        gets = λ v a h. gets_forth v a (p.gets v a h);
        all = λ v a h. p.all v a (gets_back v a h);
      }

  -- what sccp makes of what the tree means is the meaning of what it makes of the tree
  pub sccp_meant : (w : TreeSurroundings N A) (t : Root N S) (after : Root (fresh N) S) → IsSccp d w t after →
      IsSccp e w (mean_root m t) (mean_root m after)
  sccp_meant w t after x = record {
    facts = x.facts;
    best = best_meant m d e meant t x.facts x.best;
    made = x.made;
    is_made = made_meant t x.facts w x.made x.is_made;
    is = ap (mean_root m) x.is ∙ sym (root_meant x.made t);
  }
