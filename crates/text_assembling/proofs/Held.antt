-- All that has come stays inside the loose things while more is made.
use Rattle.std.proofs.Common.{◌≡◌, ◌∙◌, ℕ, ◌+◌, ◌⊎◌, inl, inr, List, [], ◌∷◌, ◌++◌, length, Option, Some, IsSome, slice_get, refl, sym, ap, subst}
use Rattle.text_frames.specs.Worlds.{joined}
use Rattle.ir_base.specs.declared.types.TypeHandle.{TypeHandle}
use Rattle.ir_names.specs.declared.identifier.Identifier.{Identifier}
use Rattle.ir_program.specs.Made.{IsNoneOf}
use Rattle.ir_program.specs.declared.handles.BasicBlock.{BasicBlock}
use Rattle.ir_program.specs.declared.handles.IRNode.{IRNode}
use Rattle.ir_program.specs.declared.handles.IRNode.TheVariants.{Operation as OperationNode, Region as RegionNode, BasicBlock as BlockNode}
use Rattle.ir_program.specs.declared.handles.Operation.{Operation}
use Rattle.ir_program.specs.declared.handles.Ptr.{Ptr}
use Rattle.text_dialect.specs.Seen.{Seen}
use Rattle.text_frames.specs.building.Came.{IsAmong}
use Rattle.text_frames.specs.building.Inside.{IsSeenForest, IsLoose, NamesWhatIsThere}
use Rattle.text_frames.specs.building.Kept.{SameSeen}
use Rattle.text_frames.specs.building.Loose.{AreAllLoose, ListsAreApart, IsLooseBlock, IsLooseOperation}
use Rattle.text_frames.specs.building.Made.{AppendsOperation, MakesDetachedOperation, OpensBlock}
use Rattle.text_frames.proofs.BuildingLemmas.Came.{came_none, came_same, came_opens, came_makes, came_appends}
use Rattle.text_frames.proofs.BuildingLemmas.Later.{appends_loose_block, appends_loose_operation, makes_loose_block, makes_loose_operation, opens_loose_block, opens_loose_operation}
use Rattle.text_frames.proofs.BuildingLemmas.Options.{is_there, no_some}
use Rattle.text_frames.specs.Raised.{HoldsAllNew, block_nodes}
use Rattle.text_frames.proofs.LaterWorlds.{get_left}
use Rattle.text_frames.proofs.Rising.{get_map}
use Rattle.text_assembling.proofs.Lists.{get_shifted, get_either, get_image, in_concat, of_concat, once_left, once_right, once_apart, once_image, once_put, once_lists, only_one}

module _ {K A T : Type 0} where
  -- nothing has come
  pub held_none : (s : Seen K A T) → NamesWhatIsThere s → HoldsAllNew s s []
  held_none s named = record { loose = record { loose = λ k x e. cc; once = λ j k x e f. cc }; came = came_none s named }

  -- the things are the same list
  pub held_list : (start s : Seen K A T) (xs ys : List IRNode) → ys ≡ xs → HoldsAllNew start s xs → HoldsAllNew start s ys
  held_list start s xs ys e h = subst (λ (zs : List IRNode). HoldsAllNew start s zs) (sym e) h

  same_loose : (s t : Seen K A T) → SameSeen s t → (x : IRNode) → IsLoose s x → IsLoose t x
  same_loose s t same (OperationNode p) h = record {
    there = subst IsSome (sym (same.operations p)) h.there;
    loose = λ b v k e listed. h.loose b v k (sym (same.blocks b) ∙ e) listed;
  }
  same_loose s t same (BlockNode b) h = record {
    there = subst IsSome (sym (same.blocks b)) h.there;
    loose = λ r bs k e listed. h.loose r bs k (sym (same.regions r) ∙ e) listed;
  }
  same_loose s t same (RegionNode r) h = absurd h

  -- each handle leads to what it led to
  pub held_same : (start s t : Seen K A T) (xs : List IRNode) → SameSeen s t → HoldsAllNew start s xs → HoldsAllNew start t xs
  held_same start s t xs same h = record {
    loose = record { loose = λ k x e. same_loose s t same x (h.loose.loose k x e); once = h.loose.once };
    came = came_same start s t xs h.came same;
  }

  -- ---- a block is opened

  module _ (start s t : Seen K A T) (xs : List IRNode) (b : Ptr BasicBlock) (label : Option Identifier) (tys : List TypeHandle) (n : ℕ)
      (opens : OpensBlock s t b label tys n) (h : HoldsAllNew start s xs) where
    opened_still : (x : IRNode) → IsLoose s x → IsLoose t x
    opened_still (OperationNode p) l = opens_loose_operation s t b label tys n opens p l
    opened_still (BlockNode c) l = opens_loose_block s t b label tys n opens c l
    opened_still (RegionNode r) l = absurd l

    not_before : (k : ℕ) → slice_get xs k ≡ Some (BlockNode b) → ⊥
    not_before k e =
        let l : IsLooseBlock s b = h.loose.loose k (BlockNode b) e in
        let m = is_there (s.block b) l.there in no_some m.0 (sym opens.fresh ∙ m.1)

    loose_then : (x : IRNode) (k : ℕ) → (slice_get xs k ≡ Some x) ⊎ ((j : ℕ) × (slice_get (BlockNode b ∷ []) j ≡ Some x) × (k ≡ length xs + j)) → IsLoose t x
    loose_then x k (inl e) = opened_still x (h.loose.loose k x e)
    loose_then x k (inr e) = subst (λ (y : IRNode). IsLoose t y) (only_one (BlockNode b) e.0 x e.1).1 opens.loose

    pub held_opens : HoldsAllNew start t (xs ++ BlockNode b ∷ [])
    held_opens = record {
      loose = record {
        loose = λ k x e. loose_then x k (get_either xs (BlockNode b ∷ []) k x e);
        once = once_put xs (BlockNode b) h.loose.once not_before;
      };
      came = came_opens start s t xs (xs ++ BlockNode b ∷ []) b label tys n h.came opens (record {
        front = λ y a. (a.0, get_left xs (BlockNode b ∷ []) a.0 y a.1);
        new = (length xs + 0, get_shifted xs (BlockNode b ∷ []) 0 (BlockNode b) refl);
        from = λ y a. elim (get_either xs (BlockNode b ∷ []) a.0 y a.1) [ inl e ↦ inl (a.0, e) | inr e ↦ inr (sym (only_one (BlockNode b) e.0 y e.1).1) ];
      });
    }

-- ---- an operation is made

module _ {K A T : Type 0} (start s : Seen K A T) (outer : List IRNode) (bss : List (List (Ptr BasicBlock))) (h : HoldsAllNew start s (outer ++ block_nodes (joined bss))) where
  -- the blocks that it takes in are among the loose things
  taken_at : (i k : ℕ) (bs : List (Ptr BasicBlock)) (b : Ptr BasicBlock) → slice_get bss i ≡ Some bs → slice_get bs k ≡ Some b → (j : ℕ) × (slice_get (block_nodes (joined bss)) j ≡ Some (BlockNode b))
  taken_at i k bs b e f = let j = in_concat bss i k bs b e f in (j.0, get_image BlockNode (joined bss) j.0 b j.1)

  pub taken_loose : AreAllLoose s bss
  taken_loose i bs e k b f = let j = taken_at i k bs b e f in h.loose.loose (length outer + j.0) (BlockNode b) (get_shifted outer (block_nodes (joined bss)) j.0 (BlockNode b) j.1)

  pub taken_apart : ListsAreApart bss
  taken_apart = once_lists bss (once_image BlockNode (joined bss) (once_right outer (block_nodes (joined bss)) h.loose.once))

  -- what is among the others is none of them
  pub outer_apart : (n : ℕ) (b : Ptr BasicBlock) → slice_get outer n ≡ Some (BlockNode b) → (k : ℕ) (bs : List (Ptr BasicBlock)) → slice_get bss k ≡ Some bs → IsNoneOf bs b
  outer_apart n b at i bs e k f = let j = taken_at i k bs b e f in once_apart outer (block_nodes (joined bss)) h.loose.once n j.0 (BlockNode b) at j.1

  -- and is loose
  pub outer_loose : (n : ℕ) (x : IRNode) → slice_get outer n ≡ Some x → IsLoose s x
  outer_loose n x at = h.loose.loose n x (get_left outer (block_nodes (joined bss)) n x at)

  module _ (t : Seen K A T) (p : Ptr Operation) (kind : K) (attributes : List (List ℕ × A)) (tys : List TypeHandle) (m : ℕ) (made : MakesDetachedOperation s t p kind attributes tys m bss) where
    made_still : (n : ℕ) (x : IRNode) → slice_get outer n ≡ Some x → IsLoose s x → IsLoose t x
    made_still n (OperationNode q) at l = makes_loose_operation s t p kind attributes tys m bss made q l
    made_still n (BlockNode b) at l = makes_loose_block s t p kind attributes tys m bss made b l (outer_apart n b at)
    made_still n (RegionNode r) at l = absurd l

    not_there_yet : (k : ℕ) → slice_get outer k ≡ Some (OperationNode p) → ⊥
    not_there_yet k e =
        let l : IsLooseOperation s p = outer_loose k (OperationNode p) e in
        let i = is_there (s.operation p) l.there in no_some i.0 (sym made.fresh ∙ i.1)

    loose_made : (x : IRNode) (k : ℕ) → (slice_get outer k ≡ Some x) ⊎ ((j : ℕ) × (slice_get (OperationNode p ∷ []) j ≡ Some x) × (k ≡ length outer + j)) → IsLoose t x
    loose_made x k (inl e) = made_still k x e (outer_loose k x e)
    loose_made x k (inr e) = subst (λ (y : IRNode). IsLoose t y) (only_one (OperationNode p) e.0 x e.1).1 made.loose

    pub held_makes : IsSeenForest s → HoldsAllNew start t (outer ++ OperationNode p ∷ [])
    held_makes forest = record {
      loose = record {
        loose = λ k x e. loose_made x k (get_either outer (OperationNode p ∷ []) k x e);
        once = once_put outer (OperationNode p) (once_left outer (block_nodes (joined bss)) h.loose.once) not_there_yet;
      };
      came = came_makes start s t (outer ++ block_nodes (joined bss)) (outer ++ OperationNode p ∷ []) p kind attributes tys m bss h.came made forest h.loose (record {
        blocks = λ i k bs b e f. (let j = taken_at i k bs b e f in (length outer + j.0, get_shifted outer (block_nodes (joined bss)) j.0 (BlockNode b) j.1));
        new = (length outer + 0, get_shifted outer (OperationNode p ∷ []) 0 (OperationNode p) refl);
        stays_or_in = λ y a. elim (get_either outer (block_nodes (joined bss)) a.0 y a.1) [
          | inl e ↦ inl (a.0, get_left outer (OperationNode p ∷ []) a.0 y e)
          | inr e ↦ inr (
              let x = get_map BlockNode (joined bss) e.0 y e.1 in
              let f = of_concat bss e.0 x.0 x.1 in (f.0, f.1, f.2, x.0, f.3, f.4, sym x.2)
              )
        ];
        from = λ y a. elim (get_either outer (OperationNode p ∷ []) a.0 y a.1) [
          | inl e ↦ inl (a.0, get_left outer (block_nodes (joined bss)) a.0 y e)
          | inr e ↦ inr (sym (only_one (OperationNode p) e.0 y e.1).1)
        ];
      });
    }

-- ---- an operation goes into an open block

module _ {K A T : Type 0} (start s t : Seen K A T) (outer : List IRNode) (b : Ptr BasicBlock) (p : Ptr Operation) (h : HoldsAllNew start s (outer ++ OperationNode p ∷ [])) (among : IsAmong (BlockNode b) outer)
    (appends : AppendsOperation s t b p) where
  put_still : (n : ℕ) (x : IRNode) → slice_get outer n ≡ Some x → IsLoose s x → IsLoose t x
  put_still n (OperationNode q) at l = appends_loose_operation s t b p appends q
      (λ same. once_apart outer (OperationNode p ∷ []) h.loose.once n 0 (OperationNode p) (at ∙ ap (λ z. Some (OperationNode z)) same) refl) l
  put_still n (BlockNode c) at l = appends_loose_block s t b p appends c l
  put_still n (RegionNode r) at l = absurd l

  pub held_puts : HoldsAllNew start t outer
  held_puts = record {
    loose = record {
      loose = λ k x e. put_still k x e (h.loose.loose k x (get_left outer (OperationNode p ∷ []) k x e));
      once = once_left outer (OperationNode p ∷ []) h.loose.once;
    };
    came = came_appends start s t (outer ++ OperationNode p ∷ []) outer b p h.came appends (record {
      was_open = (among.0, get_left outer (OperationNode p ∷ []) among.0 (BlockNode b) among.1);
      was_loose = (length outer + 0, get_shifted outer (OperationNode p ∷ []) 0 (OperationNode p) refl);
      stays = among;
      but_one = λ y a. elim (get_either outer (OperationNode p ∷ []) a.0 y a.1) [ inl e ↦ inl (a.0, e) | inr e ↦ inr (sym (only_one (OperationNode p) e.0 y e.1).1) ];
      from = λ y a. (a.0, get_left outer (OperationNode p ∷ []) a.0 y a.1);
    }) there;
  }
    where
      there : IsSome (s.block b)
      there = let l : IsLooseBlock s b = h.loose.loose among.0 (BlockNode b) (get_left outer (OperationNode p ∷ []) among.0 (BlockNode b) among.1) in l.there
