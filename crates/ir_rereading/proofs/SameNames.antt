-- A tree is renamed as the same by functions that agree on the names in it.
use Rattle.std.proofs.Common.{◌≡◌, suc, List, [], ◌∷◌, ◌++◌, map, refl, ap, ◌∙◌}
use Rattle.ir_print.specs.Pieces.{ValueTree, EntityHead, operation, a_region, block}
use Rattle.ir_print.specs.Pieces.{Entity, entity, Entities, no_entity, an_entity}
use Rattle.ir_forest.specs.Closed.{names_of, head_defines, head_mentions, definitions_of, all_definitions_of, named_in, blocks_of, all_blocks_of, head_goes_on}
use Rattle.ir_forest.specs.Meaning.{renamed_head, renamed, all_renamed}
use Rattle.ir_rereading.proofs.trees.TreeRenamed.{operands_of, all_operands_of, successors_of, all_successors_of}
use Rattle.ir_rereading.proofs.trees.TreeSites.{In, in_left, in_right}

-- a result or an argument under another name
abbrev under : {M N : Type 0} → (M → N) → M × ValueTree → N × ValueTree
under name r = (name r.0, r.1)

module _ {M N : Type 0} (f g : M → N) where
  -- the functions agree on these
  abbrev pub AgreeOn : List M → Type 0
  AgreeOn xs = (x : M) → In x xs → f x ≡ g x

  agree_first : (x : M) (xs : List M) → AgreeOn (x ∷ xs) → f x ≡ g x
  agree_first x xs h = h x (0, refl)

  agree_rest : (x : M) (xs : List M) → AgreeOn (x ∷ xs) → AgreeOn xs
  agree_rest x xs h y i = h y (suc i.0, i.1)

  used_same : (xs : List M) → AgreeOn xs → map f xs ≡ map g xs
  used_same [] h = refl
  used_same (x ∷ xs) h =
      ap (λ y. y ∷ map f xs) (agree_first x xs h) ∙ ap (λ ys. g x ∷ ys) (used_same xs (agree_rest x xs h))

  typed_same : (xs : List (M × ValueTree)) → AgreeOn (names_of xs) → map (under f) xs ≡ map (under g) xs
  typed_same [] h = refl
  typed_same (x ∷ xs) h =
      let first = agree_first x.0 (names_of xs) h in
      let more = typed_same xs (agree_rest x.0 (names_of xs) h) in
      ap (λ (n : N). let r : N × ValueTree = (n, x.1) in r ∷ map (under f) xs) first
      ∙ ap (λ (rs : List (N × ValueTree)). under g x ∷ rs) more

  agree_left : (xs ys : List M) → AgreeOn (xs ++ ys) → AgreeOn xs
  agree_left xs ys h x i = h x (in_left x xs ys i)

  agree_right : (xs ys : List M) → AgreeOn (xs ++ ys) → AgreeOn ys
  agree_right xs ys h x i = h x (in_right x xs ys i)

-- f and g name values, h and k name blocks
module _ {M N : Type 0} (f g h k : M → N) where
  head_same : (e : EntityHead M) → AgreeOn f g (head_defines e) → AgreeOn f g (head_mentions e) → AgreeOn h k (named_in e) →
      AgreeOn h k (head_goes_on e) → renamed_head f h e ≡ renamed_head g k e
  head_same (operation kind results used successors pieces) d m b s =
      ap (λ rs. operation kind rs (map f used) (map h successors) pieces) (typed_same f g results d)
      ∙ (ap (λ us. operation kind (map (under g) results) us (map h successors) pieces) (used_same f g used m)
      ∙ ap (λ us. operation kind (map (under g) results) (map g used) us pieces) (used_same h k successors s))
  head_same a_region d m b s = refl
  head_same (block named label arguments) d m b s =
      ap (λ n. block n label (map (under f) arguments)) (b named (0, refl))
      ∙ ap (λ rs. block (k named) label rs) (typed_same f g arguments d)

  mutual
    pub renamed_same : (t : Entity M) → AgreeOn f g (definitions_of t) → AgreeOn f g (operands_of t) → AgreeOn h k (blocks_of t) →
        AgreeOn h k (successors_of t) → renamed f h t ≡ renamed g k t
    renamed_same (entity e ts) d m b s =
        let head = head_same e
        (agree_left f g (head_defines e) (all_definitions_of ts) d)
        (agree_left f g (head_mentions e) (all_operands_of ts) m)
        (agree_left h k (named_in e) (all_blocks_of ts) b)
        (agree_left h k (head_goes_on e) (all_successors_of ts) s) in
        let inner = all_renamed_same ts
        (agree_right f g (head_defines e) (all_definitions_of ts) d)
        (agree_right f g (head_mentions e) (all_operands_of ts) m)
        (agree_right h k (named_in e) (all_blocks_of ts) b)
        (agree_right h k (head_goes_on e) (all_successors_of ts) s) in
        ap (λ x. entity x (all_renamed f h ts)) head ∙ ap (λ us. entity (renamed_head g k e) us) inner

    all_renamed_same : (ts : Entities M) → AgreeOn f g (all_definitions_of ts) → AgreeOn f g (all_operands_of ts) →
        AgreeOn h k (all_blocks_of ts) → AgreeOn h k (all_successors_of ts) → all_renamed f h ts ≡ all_renamed g k ts
    all_renamed_same no_entity d m b s = refl
    all_renamed_same (an_entity t ts) d m b s =
        let first = renamed_same t
        (agree_left f g (definitions_of t) (all_definitions_of ts) d)
        (agree_left f g (operands_of t) (all_operands_of ts) m)
        (agree_left h k (blocks_of t) (all_blocks_of ts) b)
        (agree_left h k (successors_of t) (all_successors_of ts) s) in
        let more = all_renamed_same ts
        (agree_right f g (definitions_of t) (all_definitions_of ts) d)
        (agree_right f g (operands_of t) (all_operands_of ts) m)
        (agree_right h k (blocks_of t) (all_blocks_of ts) b)
        (agree_right h k (successors_of t) (all_successors_of ts) s) in
        ap (λ u. an_entity u (all_renamed f h ts)) first ∙ ap (λ us. an_entity (renamed g k t) us) more
