-- What simplifying makes of a tree under other names of operations, where the names are an involution.
use Rattle.std.proofs.Common.{◌≡◌, sym, ap, ◌∙◌, subst}
use Rattle.ir_trees.specs.Names.{Contents}
use Rattle.ir_trees.specs.Renames.{named, Maps, rename_root}
use Rattle.ir_trees.specs.Trees.{Root}
use Rattle.ir_trees.proofs.Renamed.{own_root, root_twice}
use Rattle.opt_trees.specs.Dce.{TreeSurroundings}
use Rattle.opt_trees.specs.Dialect.{Dialect}
use Rattle.opt_trees.specs.Simplify.{all_of, decided, IsCut, IsJoined, IsSimplify}
use Rattle.ir_opts.proofs.Involutions.{as_identity}

module _ (X B V : Type 0) (S : Contents) where
  -- from operations named by X to operations named by Y, with the names of blocks and values kept
  abbrev pub of_operations : (Y : Type 0) → (X → Y) → Maps (named X B V) (named Y B V)
  of_operations Y m = record { operation = m; block = λ b. b; value = λ v. v }

  module _ (f : X → X) (back : (x : X) → f (f x) ≡ x) where
    -- a second time the names are the old ones
    pub renamed_back : (t : Root (named X B V) S)
        → rename_root (of_operations X f) (rename_root (of_operations X f) t) ≡ t
    renamed_back t =
        root_twice (of_operations X f) (of_operations X f) t
        ∙ (λ i. rename_root (of_operations X (λ x. back x i)) t)
        ∙ own_root t

    module _ {A : Type 0} (d : Dialect S A) where
      -- the tree is cut and its chains are joined, by following g
      pub record CutsAndJoins (Y : Type 0) (t after : Root (named Y B V) S) (g : V → V) : Type 0 where
        pub cut : Root (named Y B V) S
        pub is_cut : IsCut d (all_of t) t cut
        pub is_joined : IsJoined d (all_of cut) cut after
        pub names : is_joined.names ≡ g

      -- under the other names the same is done
      pub done_renamed : (t after : Root (named X B V) S) (g : V → V) → CutsAndJoins X t after g
          → CutsAndJoins X (rename_root (of_operations X f) t) (rename_root (of_operations X f) after) g
      done_renamed t after g done = as_identity f back
          (λ Y m. CutsAndJoins Y (rename_root (of_operations Y m) t) (rename_root (of_operations Y m) after) g)
          (subst (λ u. CutsAndJoins X (rename_root (of_operations X (λ x. x)) t) u g) (sym (own_root after))
          (subst (λ u. CutsAndJoins X u after g) (sym (own_root t)) done))

      -- so, from the tree under the other names
      pub done_back : (t after : Root (named X B V) S) (g : V → V)
          → CutsAndJoins X (rename_root (of_operations X f) t) after g
          → CutsAndJoins X t (rename_root (of_operations X f) after) g
      done_back t after g done =
          subst (λ u. CutsAndJoins X u (rename_root (of_operations X f) after) g) (renamed_back t)
          (done_renamed (rename_root (of_operations X f) t) after g done)

      -- it is simplified, where it had its branches decided
      pub simplified_by : (w : TreeSurroundings (named X B V) A) (t after : Root (named X B V) S) (g : V → V)
          → CutsAndJoins X (decided d w t) after g → (s : IsSimplify d w t after) × (s.is_joined.names ≡ g)
      simplified_by w t after g done =
          let start = ap all_of done.is_cut.is in
          let joined = subst (λ p. (j : IsJoined d p done.cut after) × (j.names ≡ g)) start
          (done.is_joined, done.names) in
          (record { cut = done.cut; is_cut = done.is_cut; is_joined = joined.0 }, joined.1)
