-- The numbering by places forgets the names: a function under other names has the same one.
use Rattle.std.proofs.Common.{◌≡◌, ℕ, suc, Bool, List, [], ◌∷◌, Option, Some, None, refl, ap, ◌∙◌}
use Rattle.std.specs.Prelude.{map, if◌then◌else◌, option_map, unwrap_or}
use Rattle.kit_behaviour.specs.Machine.{Edge, Op, Const, Calc, Emit, Call, Branch, Return, Block, Fun}
use Rattle.kit_behaviour.specs.Renaming.{rename_block, rename_fun, rename_edge, rename_op, same_block}
use Rattle.kit_behaviour.specs.Scopes.{defs}
use Rattle.kit_behaviour.specs.Places.{Place, Arg, Res}
use Rattle.kit_behaviour.specs.Numbering.{index_of, or_else, place_in_ops, place_in_blocks, place_of, place_block, place_fun}
use Rattle.kit_behaviour.proofs.Behaviour.EdgeLemmas.{map_same}

map-map : {A B C : Type 0} (g : B → C) (f : A → B) (xs : List A) → map g (map f xs) ≡ map (λ x. g (f x)) xs
map-map g f [] = refl
map-map g f (x ∷ xs) = ap (λ l. g (f x) ∷ l) (map-map g f xs)

rename_edges : {U V W : Type 0} (g : V → W) (r : U → V) (e : Edge U) → rename_edge g same_block (rename_edge r same_block e) ≡ rename_edge (λ x. g (r x)) same_block e
rename_edges g r e = ap (λ l. record { target = e.target; forwards = l }) (map-map g r e.forwards)

rename_twice : {U V W : Type 0} (g : V → W) (r : U → V) (op : Op U) → rename_op g same_block (rename_op r same_block op) ≡ rename_op (λ x. g (r x)) same_block op
rename_twice g r (Const v n) = refl
rename_twice g r (Calc a w v x y) = refl
rename_twice g r (Emit x) = refl
rename_twice g r (Call vs c xs) = ap (λ l. Call l c (map g (map r xs))) (map-map g r vs) ∙ ap (Call (map (λ x. g (r x)) vs) c) (map-map g r xs)
rename_twice g r (Branch s xs e es) =
    ap (λ l. Branch s l (rename_edge g same_block (rename_edge r same_block e)) (map (rename_edge g same_block) (map (rename_edge r same_block) es))) (map-map g r xs)
    ∙ ap (λ z. Branch s (map (λ x. g (r x)) xs) z (map (rename_edge g same_block) (map (rename_edge r same_block) es))) (rename_edges g r e)
    ∙ ap (Branch s (map (λ x. g (r x)) xs) (rename_edge (λ y. g (r y)) same_block e)) (map-map (rename_edge g same_block) (rename_edge r same_block) es ∙ map_same (λ x. rename_edge g same_block (rename_edge r same_block x)) (rename_edge (λ y. g (r y)) same_block) (rename_edges g r) es)
rename_twice g r (Return xs) = ap Return (map-map g r xs)

ops_twice : {U V W : Type 0} (g : V → W) (r : U → V) (ops : List (Op U)) → map (rename_op g same_block) (map (rename_op r same_block) ops) ≡ map (rename_op (λ x. g (r x)) same_block) ops
ops_twice g r [] = refl
ops_twice g r (op ∷ ops) = ap (λ o. o ∷ map (rename_op g same_block) (map (rename_op r same_block) ops)) (rename_twice g r op) ∙ ap (λ l. rename_op (λ x. g (r x)) same_block op ∷ l) (ops_twice g r ops)

pub blocks_twice : {U V : Type 0} (g : V → Place) (r : U → V) (ks : List (Block U)) → map (place_block g) (map (rename_block r) ks) ≡ map (place_block (λ x. g (r x))) ks
blocks_twice g r [] = refl
blocks_twice g r (k ∷ ks) =
    ap (λ l. record { arguments = l; ops = map (rename_op g same_block) (map (rename_op r same_block) k.ops) } ∷ map (place_block g) (map (rename_block r) ks)) (map-map g r k.arguments)
    ∙ ap (λ l. record { arguments = map (λ x. g (r x)) k.arguments; ops = l } ∷ map (place_block g) (map (rename_block r) ks)) (ops_twice g r k.ops)
    ∙ ap (λ l. place_block (λ x. g (r x)) k ∷ l) (blocks_twice g r ks)

module _ {V W : Type 0} (same : V → V → Bool) (same' : W → W → Bool) (r : V → W) (apart : (x y : V) → same' (r x) (r y) ≡ same x y) where
  index_renamed : (v : V) (xs : List V) → index_of same' (r v) (map r xs) ≡ index_of same v xs
  index_renamed v [] = refl
  index_renamed v (x ∷ xs) =
      ap (λ b. if b then Some 0 else option_map suc (index_of same' (r v) (map r xs))) (apart v x)
      ∙ ap (λ o. if same v x then Some 0 else option_map suc o) (index_renamed v xs)

  defs_renamed : (op : Op V) → defs (rename_op r same_block op) ≡ map r (defs op)
  defs_renamed (Const v n) = refl
  defs_renamed (Calc a w v x y) = refl
  defs_renamed (Emit x) = refl
  defs_renamed (Call vs c xs) = refl
  defs_renamed (Branch s xs e es) = refl
  defs_renamed (Return xs) = refl

  ops_renamed : (b o : ℕ) (v : V) (ops : List (Op V)) → place_in_ops same' b o (r v) (map (rename_op r same_block) ops) ≡ place_in_ops same b o v ops
  ops_renamed b o v [] = refl
  ops_renamed b o v (op ∷ ops) =
      ap (λ l. or_else (option_map (Res b o) (index_of same' (r v) l)) (place_in_ops same' b (suc o) (r v) (map (rename_op r same_block) ops))) (defs_renamed op)
      ∙ ap (λ i. or_else (option_map (Res b o) i) (place_in_ops same' b (suc o) (r v) (map (rename_op r same_block) ops))) (index_renamed v (defs op))
      ∙ ap (or_else (option_map (Res b o) (index_of same v (defs op)))) (ops_renamed b (suc o) v ops)

  blocks_renamed : (b : ℕ) (v : V) (ks : List (Block V)) → place_in_blocks same' b (r v) (map (rename_block r) ks) ≡ place_in_blocks same b v ks
  blocks_renamed b v [] = refl
  blocks_renamed b v (k ∷ ks) =
      ap (λ i. or_else (option_map (Arg b) i) (or_else (place_in_ops same' b 0 (r v) (map (rename_op r same_block) k.ops)) (place_in_blocks same' (suc b) (r v) (map (rename_block r) ks)))) (index_renamed v k.arguments)
      ∙ ap (λ o. or_else (option_map (Arg b) (index_of same v k.arguments)) (or_else o (place_in_blocks same' (suc b) (r v) (map (rename_block r) ks)))) (ops_renamed b 0 v k.ops)
      ∙ ap (λ o. or_else (option_map (Arg b) (index_of same v k.arguments)) (or_else (place_in_ops same b 0 v k.ops) o)) (blocks_renamed (suc b) v ks)

  pub placed_renamed : (f : Option (Fun V)) → place_fun same' (rename_fun r f) ≡ place_fun same f
  placed_renamed None = refl
  placed_renamed (Some f) =
      ap Some
      (blocks_twice (place_of same' (map (rename_block r) f)) r f
      ∙ ap (λ g. map (place_block g) f) (λ i x. unwrap_or (blocks_renamed 0 x f i) (Arg 0 0)))
