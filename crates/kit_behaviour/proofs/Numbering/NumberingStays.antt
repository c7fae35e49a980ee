-- A function that keeps the rules is its own numbering.
use Rattle.std.proofs.Common.{◌≡◌, ℕ, suc, List, [], ◌∷◌, Option, Some, None, refl, sym, ap, ◌∙◌}
use Rattle.std.specs.Prelude.{map, slice_get, unwrap_or}
use Rattle.kit_behaviour.specs.Machine.{AllEdges, Edge, Op, Const, Calc, Emit, Call, Branch, Return, Block, Fun, ops_left, arguments_of}
use Rattle.kit_behaviour.specs.Renaming.{rename_edge, rename_op, same_block, AllNamed, EdgeNamed, OpNamed, OpsNamed}
use Rattle.kit_behaviour.specs.Rules.{Rules}
use Rattle.kit_behaviour.specs.Numbering.{place_of, place_block, place_fun, HasPlace, AnyBlock}
use Rattle.kit_behaviour.specs.Places.{Place, Arg, same_place}
use Rattle.kit_behaviour.proofs.Numbering.PlaceEquality.{place_law}
use Rattle.kit_behaviour.proofs.Numbering.NumberingBehaviour.{at_place}
use Rattle.kit_behaviour.proofs.ControlFlow.KeptBlocks.{rules_home}
use Rattle.kit_behaviour.proofs.ControlFlow.ScopesAfterJoining.{sees_defined}

module _ (f : Fun Place) (rules : Rules (Some f)) where
  abbrev r : Place → Place
  r = place_of same_place f

  abbrev H : Place → Type 0
  H = HasPlace same_place (Some f)

  stays : (v : Place) → H v → r v ≡ v
  stays v h = ap (λ o. unwrap_or o (Arg 0 0)) h.1 ∙ sym (rules_home (Some f) rules h.0 v (at_place same_place place_law f v h.0 h.1))

  names_stay : (xs : List Place) → AllNamed H xs → map r xs ≡ xs
  names_stay [] n = refl
  names_stay (x ∷ xs) n = ap (λ y. y ∷ map r xs) (stays x n.0) ∙ ap (λ l. x ∷ l) (names_stay xs n.1)

  edge_stays : (e : Edge Place) → EdgeNamed H AnyBlock e → rename_edge r same_block e ≡ e
  edge_stays e n = ap (λ l. record { target = e.target; forwards = l }) (names_stay e.forwards n.1)

  edges_stay : (es : List (Edge Place)) → AllEdges (EdgeNamed H AnyBlock) es → map (rename_edge r same_block) es ≡ es
  edges_stay [] n = refl
  edges_stay (e ∷ es) n = ap (λ y. y ∷ map (rename_edge r same_block) es) (edge_stays e n.0) ∙ ap (λ l. e ∷ l) (edges_stay es n.1)

  op_stays : (op : Op Place) → OpNamed H AnyBlock op → rename_op r same_block op ≡ op
  op_stays (Const v n) h = ap (λ y. Const y n) (stays v h)
  op_stays (Calc a w v x y) h = ap (λ z. Calc a w z (r x) (r y)) (stays v h.0) ∙ ap (λ z. Calc a w v z (r y)) (stays x h.1) ∙ ap (Calc a w v x) (stays y h.2)
  op_stays (Emit x) h = ap Emit (stays x h)
  op_stays (Call vs c xs) h = ap (λ l. Call l c (map r xs)) (names_stay vs h.0) ∙ ap (Call vs c) (names_stay xs h.1)
  op_stays (Branch s xs e es) h =
      ap (λ l. Branch s l (rename_edge r same_block e) (map (rename_edge r same_block) es)) (names_stay xs h.0)
      ∙ ap (λ y. Branch s xs y (map (rename_edge r same_block) es)) (edge_stays e h.1.0)
      ∙ ap (Branch s xs e) (edges_stay es h.1.1)
  op_stays (Return xs) h = ap Return (names_stay xs h)

  ops_stay : (ops : List (Op Place)) → OpsNamed H AnyBlock ops → map (rename_op r same_block) ops ≡ ops
  ops_stay [] h = refl
  ops_stay (op ∷ ops) h = ap (λ y. y ∷ map (rename_op r same_block) ops) (op_stays op h.0) ∙ ap (λ l. op ∷ l) (ops_stay ops h.1)

  block_stays : (k : Block Place) → AllNamed H k.arguments → OpsNamed H AnyBlock k.ops → place_block r k ≡ k
  block_stays k a o =
      ap (λ l. record { arguments = l; ops = map (rename_op r same_block) k.ops }) (names_stay k.arguments a)
      ∙ ap (λ l. record { arguments = k.arguments; ops = l }) (ops_stay k.ops o)

  blocks_stay : (ks : List (Block Place)) → ((b : ℕ) → AllNamed H (arguments_of (slice_get ks b))) → ((b : ℕ) → OpsNamed H AnyBlock (ops_left (slice_get ks b) 0)) → map (place_block r) ks ≡ ks
  blocks_stay [] a o = refl
  blocks_stay (k ∷ ks) a o = ap (λ y. y ∷ map (place_block r) ks) (block_stays k (a 0) (o 0)) ∙ ap (λ l. k ∷ l) (blocks_stay ks (λ b. a (suc b)) (λ b. o (suc b)))

  fun_stays : place_fun same_place (Some f) ≡ Some f
  fun_stays =
      let d = sees_defined same_place place_law (Some f) rules.sees in
      ap Some (blocks_stay f d.arguments d.ops)

pub numbering_stays : (f : Option (Fun Place)) → Rules f → place_fun same_place f ≡ f
numbering_stays None rules = refl
numbering_stays (Some f) rules = fun_stays f rules
