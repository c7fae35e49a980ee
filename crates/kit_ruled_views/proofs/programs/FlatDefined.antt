-- In the flat view of a function whose operands are defined in it, each name is defined.
use Rattle.std.proofs.Common.{◌≡◌, ⊎_elim, inl, inr, ℕ, Bool, List, [], ◌∷◌, ◌++◌, Option, Some, None}
use Rattle.std.proofs.Common.{refl, sym, subst}
use Rattle.std.specs.Prelude.{slice_get}
use Rattle.ir_trees.specs.Names.{Names, Contents}
use Rattle.ir_trees.specs.Renames.{names_of}
use Rattle.ir_trees.specs.Trees.{Head, Blocks, Tree, Root}
use Rattle.opt_trees.specs.Occurrences.{Has, Occurrence, occurrences_in, block_occurrences_in}
use Rattle.opt_trees.specs.Occurrences.{occurrences_of, at_root, defined_in}
use Rattle.opt_trees.proofs.Defined.{definer, result_defined}
use Rattle.opt_trees.proofs.NoneDead.{has-append, has-left, has-right}
use Rattle.kit_behaviour.specs.Facts.{all_forwarded}
use Rattle.kit_behaviour.specs.Machine.{AllEdges, Edge, Plain, Nonzero, Cases, Op, Const, Calc, Emit, Call, Branch}
use Rattle.kit_behaviour.specs.Machine.{Return}
use Rattle.kit_behaviour.specs.Machine.{Block, Fun, ops_left, arguments_of, arguments_in}
use Rattle.kit_behaviour.specs.Numbering.{HasPlace, AnyBlock, NamesAreDefined}
use Rattle.kit_behaviour.specs.Renaming.{AllNamed, EdgeNamed, OpNamed, OpsNamed}
use Rattle.kit_behaviour.specs.Scopes.{In, defs, all_defs}
use Rattle.kit_behaviour.proofs.Behaviour.FrameLemmas.{IsSameness}
use Rattle.kit_behaviour.proofs.Numbering.DefinedNames.{has_place}
use Rattle.kit_behaviour.proofs.Propagation.ScopeLemmas.{in_append}
use Rattle.kit_views.specs.FlatView.{IsOp, FlattensTo, names_in}
use Rattle.kit_views.specs.Reading.{Reading}
use Rattle.kit_views.proofs.Pairs.{pairs, backs, block_pairs}

strip : {X : Type 0} (x : X) (xs : List X) → Has x (xs ++ []) → Has x xs
strip x xs h = ⊎_elim (λ i. i) (λ i. absurd i) (has-append x xs [] h)

is_in : {X : Type 0} (x : X) (xs : List X) → Has x xs → In x xs
is_in x [] h = h
is_in x (y ∷ ys) h = ⊎_elim (λ e. inl e) (λ k. inr (is_in x ys k)) h

in_defs : {V : Type 0} (v : V) (op : Op V) (ops : List (Op V)) → Has op ops → In v (defs op) → In v (all_defs ops)
in_defs v op [] h i = absurd h
in_defs v op (p ∷ ops) h i =
    ⊎_elim
    (λ e. in_append v (defs p) (all_defs ops) (inl (subst (λ q. In v (defs q)) e i)))
    (λ k. in_append v (defs p) (all_defs ops) (inr (in_defs v op ops k i)))
    h

module _ {V : Type 0} (P : V → Type 0) where
  pub all_named : (xs : List V) → ((x : V) → Has x xs → P x) → AllNamed P xs
  all_named [] h = tt
  all_named (x ∷ xs) h = (h x (inl refl), all_named xs (λ y i. h y (inr i)))

  edges_named : (es : List (Edge V)) → ((x : V) → Has x (all_forwarded es) → P x) → AllEdges (EdgeNamed P AnyBlock) es
  edges_named [] h = tt
  edges_named (e ∷ es) h = (
    (tt, all_named e.forwards (λ x i. h x (has-left x e.forwards (all_forwarded es) i))),
    edges_named es (λ x i. h x (has-right x e.forwards (all_forwarded es) i)),
  )

  pub ops_named : (ops : List (Op V)) → ((op : Op V) → Has op ops → OpNamed P AnyBlock op) → OpsNamed P AnyBlock ops
  ops_named [] h = tt
  ops_named (op ∷ ops) h = (h op (inl refl), ops_named ops (λ p i. h p (inr i)))

module _ {N : Names} {S : Contents} (r : Reading S) (names : List N.block) where
  pub results_are : (h : Head N S) (op : Op N.value) → IsOp r names h op → names_of h.results ≡ defs op
  results_are h (Const v n) is = is.0.results
  results_are h (Calc f w v x y) is = is.0.results
  results_are h (Emit x) is = is.results
  results_are h (Call rs c xs) is = is.0.results
  results_are h (Branch Plain xs e es) is = is.0.results
  results_are h (Branch Nonzero xs e es) is = is.0.results
  results_are h (Branch (Cases ns) xs e es) is = absurd is
  results_are h (Return xs) is = is.results

  pub op_named : (P : N.value → Type 0) (h : Head N S) (op : Op N.value) → IsOp r names h op →
      ((x : N.value) → Has x (names_of h.results) → P x) → ((x : N.value) → Has x h.operands → P x) →
      OpNamed P AnyBlock op
  op_named P h (Const v n) is a b = a v (subst (Has v) (sym is.0.results) (inl refl))
  op_named P h (Calc f w v x y) is a b = (
    a v (subst (Has v) (sym is.0.results) (inl refl)),
    b x (subst (Has x) (sym is.0.operands) (inl refl)),
    b y (subst (Has y) (sym is.0.operands) (inr (inl refl))),
  )
  op_named P h (Emit x) is a b = b x (subst (Has x) (sym is.operands) (inl refl))
  op_named P h (Call rs c xs) is a b = (
    all_named P rs (λ x i. a x (subst (Has x) (sym is.0.results) i)),
    all_named P xs (λ x i. b x (subst (Has x) (sym is.0.operands) i)),
  )
  op_named P h (Branch Plain xs e es) is a b = (
    all_named P xs (λ x i. b x (subst (Has x) (sym is.0.operands) (has-left x xs (all_forwarded (e ∷ es)) i))),
    edges_named P (e ∷ es) (λ x i. b x (subst (Has x) (sym is.0.operands) (has-right x xs (all_forwarded (e ∷ es)) i))),
  )
  op_named P h (Branch Nonzero xs e es) is a b = (
    all_named P xs (λ x i. b x (subst (Has x) (sym is.0.operands) (has-left x xs (all_forwarded (e ∷ es)) i))),
    edges_named P (e ∷ es) (λ x i. b x (subst (Has x) (sym is.0.operands) (has-right x xs (all_forwarded (e ∷ es)) i))),
  )
  op_named P h (Branch (Cases ns) xs e es) is a b = absurd is
  op_named P h (Return xs) is a b = all_named P xs (λ x i. b x (subst (Has x) (sym is.operands) i))

module _ {N : Names} {S : Contents} (r : Reading S) (same : N.value → N.value → Bool) (law : IsSameness same)
    (u : Root N S) (f : Fun N.value) (flat : FlattensTo r u f)
    (operands : (p : Occurrence N S) (x : N.value) → Has p (occurrences_of u) → Has x p.head.operands →
    Has x (defined_in u.regions)) where
  abbrev bs : Tree N S Blocks
  bs = flat.view.blocks

  abbrev P : N.value → Type 0
  P = HasPlace same (Some f)

  defined_has : (v : N.value) → Has v (defined_in u.regions) → P v
  defined_has v h =
      ⊎_elim
      (λ z.
      let q = pairs r (names_in bs) bs f (at_root u) flat.view.are z.it
      (strip z.it (occurrences_in bs (at_root u))
      (subst (λ y. Has z.it (occurrences_in y (at_root u))) flat.view.region z.stands)) in
      let own : In v (defs q.op) =
      is_in v (defs q.op) (subst (Has v) (results_are r (names_in bs) z.it.head q.op q.is) z.value) in
      has_place same law (Some f) q.place v
      (inr (subst (λ o. In v (all_defs (ops_left o 0))) (sym q.at) (in_defs v q.op q.k.ops q.stands own))))
      (λ z.
      let q = block_pairs r (names_in bs) bs f (at_root u) flat.view.are z.it
      (strip z.it (block_occurrences_in bs (at_root u))
      (subst (λ y. Has z.it (block_occurrences_in y (at_root u))) flat.view.region z.stands)) in
      has_place same law (Some f) q.place v
      (inl (subst (λ o. In v (arguments_of o)) (sym q.at)
      (is_in v q.k.arguments (subst (Has v) q.same.arguments z.value)))))
      (definer u.regions (at_root u) v h)

  block_named : (b : ℕ) (o : Option (Block N.value)) → slice_get f b ≡ o → OpsNamed P AnyBlock (ops_left o 0)
  block_named b None e = tt
  block_named b (Some k) e =
      ops_named P k.ops
      (λ op i.
      let q = backs r (names_in bs) bs f (at_root u) flat.view.are b k op e i in
      let stands : Has q.it (occurrences_of u) =
      subst (λ y. Has q.it (occurrences_in y (at_root u))) (sym flat.view.region)
      (has-left q.it (occurrences_in bs (at_root u)) [] q.stands) in
      op_named r (names_in bs) P q.it.head op q.is
      (λ x m. defined_has x (result_defined u.regions (at_root u) q.it x stands m))
      (λ x m. defined_has x (operands q.it x stands m)))

  each_in : (b : ℕ) (xs : List N.value) → ((x : N.value) → In x xs → P x) → AllNamed P xs
  each_in b [] h = tt
  each_in b (x ∷ xs) h = (h x (inl refl), each_in b xs (λ y i. h y (inr i)))

  pub flat_defined : NamesAreDefined same (Some f)
  flat_defined = record {
    ops = λ b. block_named b (slice_get f b) refl;
    arguments = λ b. each_in b (arguments_in (Some f) b) (λ x i. has_place same law (Some f) b x (inl i));
  }
