-- What is said of a program's operations and values, as what is said of those found in the tree of its root.
use Rattle.std.proofs.Common.{◌≡◌, ◌⊎◌, inl, inr, ⊎_elim, ℕ, zero, suc, true, List, [], ◌∷◌, map, Option, Some, None, option_map, unwrap_or, slice_get, refl, sym, ap, ◌∙◌, subst}
use Rattle.ir_program.specs.Program.{Program, TypedValue, OperationView, operation_at, block_at, value_in}
use Rattle.ir_program.specs.Lists.{StandsInBlock, regions_in}
use Rattle.ir_program.specs.Rows.{operands_at}
use Rattle.ir_program.specs.Uses.{IsUsed}
use Rattle.ir_program.specs.declared.handles.Ptr.{Ptr}
use Rattle.ir_program.specs.declared.handles.Operation.{Operation}
use Rattle.ir_program.specs.declared.handles.BasicBlock.{BasicBlock}
use Rattle.ir_program.specs.declared.handles.Value.{Value}
use Rattle.ir_program.specs.declared.handles.DefiningEntity.TheVariants.{Op as ByOp, Block as ByBlock}
use Rattle.ir_trees.specs.Renames.{names_of}
use Rattle.ir_trees.specs.Stands.{by_handle, in_program, ProgramTree, ProgramHead, ProgramLabel, StandsFor, defined_by, head_of, label_of}
use Rattle.ir_trees.proofs.ListEdited.{AreOrderly}
use Rattle.opt_rows.specs.Known.{asked}
use Rattle.opt_trees.specs.Dce.{TreeSurroundings}
use Rattle.opt_trees.specs.Dialect.{Dialect}
use Rattle.opt_trees.specs.Facts.{Facts, IsLacking}
use Rattle.opt_trees.specs.Occurrences.{Has}
use Rattle.opt_trees.specs.Sccp as trees
use Rattle.opt_trees.specs.Sccp.{Gets, IsResult, IsArgument}
use Rattle.opt_inside.specs.Occurring.{Found, EachFound, EachBlock, IsFound, IsBlockFound, IsBelowRoot, IsBlockBelow, IsDefinedBelow, IsOccurrence, IsBlockOccurrence, IsSpotOf}
use Rattle.opt_inside.proofs.Told.{Told, same_handle}
use Rattle.opt_sccp.specs.Sccp.{PinsTaken}
use Rattle.opt_sccp.specs.Wanted.{IsInSsaRegion, LacksAt, FoldsAt, IsWantedAt, GetsAt}
use Rattle.opt_sccp.proofs.AskedOperands.{asked_none, none_asked}
use Rattle.opt_sccp.proofs.Definitions.{AreDefined, name_index, result_at, argument_at, IsResultBelow, IsArgumentBelow, result_or_argument}
use Rattle.opt_sccp.proofs.Options.{something, is_something, same_some}
use Rattle.opt_sccp.proofs.PlacedLists.{has_index, index_has}

-- what `know_occurrences` tells of a tree that the operation stands for
pub record IsSeen {O B : Type 0} (c : Program O B) (op : Ptr Operation) (t : ProgramTree O B) : Type 0 where
  pub stands : StandsFor c op t
  pub sound : EachFound t (IsOccurrence c op)
  pub found : (p : Ptr Operation) → IsBelowRoot c op p → IsFound t p
  pub blocks_sound : EachBlock t (IsBlockOccurrence c op)
  pub blocks_found : (b : Ptr BasicBlock) → IsBlockBelow c op b → IsBlockFound t b

-- a value at an index is one of the names
index_has_name : (ts : List TypedValue) (k : ℕ) (v : Value) → value_in ts k ≡ Some v → Has v (names_of (map defined_by ts))
index_has_name [] k v h = cc
index_has_name (t ∷ ts) zero v h = let s : Some t.value ≡ Some v = h in let e : v ≡ t.value = cc in inl e
index_has_name (t ∷ ts) (suc k) v h = inr (index_has_name ts k v h)

-- an operation that has an operand is there
operand_there : {O B : Type 0} (c : Program O B) (p : Ptr Operation) (v : Value) (k : ℕ) → slice_get (operands_at c p) k ≡ Some v
    → (o : OperationView O) × (operation_at c p ≡ Some o) × (slice_get o.operands k ≡ Some v)
operand_there {O} c p v k = by_view (operation_at c p) refl
  where
    by_view : (q : Option (OperationView O)) → operation_at c p ≡ q
        → slice_get (unwrap_or (option_map (λ (x : OperationView O). x.operands) q) []) k ≡ Some v
        → (o : OperationView O) × (operation_at c p ≡ Some o) × (slice_get o.operands k ≡ Some v)
    by_view None e h = cc
    by_view (Some o) e h = (o, e, h)

module _ {O B A : Type 0} (d : Dialect (in_program O B) A) (c : Program O B) (op : Ptr Operation) (orderly : AreOrderly c) (values : AreDefined c) (t : ProgramTree O B) (seen : IsSeen c op t) (k : Facts by_handle A) where
  one_view : (p : Ptr Operation) (v w : OperationView O) → operation_at c p ≡ Some v → operation_at c p ≡ Some w → v ≡ w
  one_view p v w g h = same_some v w (sym g ∙ h)

  one_block : (p : Ptr Operation) (a b : Ptr BasicBlock) → StandsInBlock c p a → StandsInBlock c p b → a ≡ b
  one_block p a b s r = (orderly.operations_once p a b s.index r.index s.here r.here).0

  regions_are : (p : Ptr Operation) (v : OperationView O) → operation_at c p ≡ Some v → regions_in c p ≡ v.regions
  regions_are p v there = ap (λ o. unwrap_or (option_map (λ (x : OperationView O). x.regions) o) []) there

  -- an operation that is found, and what is at its handle
  content_is : (o : Found O B) (i : IsOccurrence c op o) (v : OperationView O) → operation_at c o.head.name ≡ Some v → o.head ≡ head_of o.head.name v
  content_is o i v there = i.head ∙ ap (λ w. head_of o.head.name w) (one_view o.head.name i.view v i.there there)

  -- the block that it is found in is in an SSA region
  ssa_found : (o : Found O B) → IsSpotOf c op o.site.label.name o.site.spot → IsInSsaRegion d c o.site.label.name → d.is_ssa o.site.spot.owner.content o.site.spot.region ≡ true
  ssa_found o spot s =
      let region : spot.region ≡ s.region = (orderly.blocks_once o.site.label.name spot.region s.region spot.in_region.index s.in_region.index spot.in_region.here s.in_region.here).0 in
      let here : slice_get (regions_in c s.owner) s.index ≡ Some spot.region = ap (λ rs. slice_get rs s.index) (regions_are s.owner s.view s.there) ∙ s.here ∙ ap Some (sym region) in
      let there : slice_get (regions_in c o.site.spot.owner.name) o.site.spot.region ≡ Some spot.region = ap (λ rs. slice_get rs o.site.spot.region) (regions_are o.site.spot.owner.name spot.owner_view spot.owner_there) ∙ spot.index in
      let same = orderly.regions_once spot.region o.site.spot.owner.name s.owner o.site.spot.region s.index there here in
      let view : spot.owner_view ≡ s.view = one_view s.owner spot.owner_view s.view (ap (operation_at c) (sym same.0) ∙ spot.owner_there) s.there in
      (λ i. d.is_ssa (ap (λ (h : ProgramHead O B). h.content) spot.owner i) (same.1 i)) ∙ ap (λ (v : OperationView O). d.is_ssa v.payload s.index) view ∙ s.ssa

  found_ssa : (o : Found O B) → IsSpotOf c op o.site.label.name o.site.spot → d.is_ssa o.site.spot.owner.content o.site.spot.region ≡ true → IsInSsaRegion d c o.site.label.name
  found_ssa o spot e = record {
    region = spot.region;
    in_region = spot.in_region;
    owner = o.site.spot.owner.name;
    view = spot.owner_view;
    there = spot.owner_there;
    index = o.site.spot.region;
    here = spot.index;
    ssa = ap (λ (h : ProgramHead O B). d.is_ssa h.content o.site.spot.region) (sym spot.owner) ∙ e;
  }

  -- an operation lacks an operand exactly where one that is found does
  pub lacking_found : (p : Ptr Operation) → IsBelowRoot c op p → LacksAt d c k p → IsLacking d t k
  lacking_found p below lacks =
      let f = seen.found p below in
      let o = f.0 in
      let i = seen.sound o f.1 in
      let l : LacksAt d c k o.head.name = subst (λ q. LacksAt d c k q) (sym f.2) lacks in
      let block : o.site.label.name ≡ l.block = one_block o.head.name o.site.label.name l.block i.in_block l.in_block in
      let head = content_is o i l.view l.there in
      record {
        user = o;
        stands = f.1;
        runs = ap k.runs block ∙ l.runs;
        ssa = ssa_found o i.spot (subst (λ b. IsInSsaRegion d c b) (sym block) l.ssa);
        asks = subst (λ (h : ProgramHead O B). (d.is_foldable h.content ≡ true) ⊎ (d.is_branch h.content ≡ true)) (sym head) l.asks;
        lacks = ap (λ (h : ProgramHead O B). asked (map k.of h.operands)) head ∙ asked_none k l.view.operands l.lacks;
      }

  pub found_lacking : IsLacking d t k → (p : Ptr Operation) × IsBelowRoot c op p × LacksAt d c k p
  found_lacking l =
      let o = l.user in
      let i = seen.sound o l.stands in (
        o.head.name,
        i.below,
        record {
          view = i.view;
          there = i.there;
          block = o.site.label.name;
          in_block = i.in_block;
          runs = l.runs;
          ssa = found_ssa o i.spot l.ssa;
          asks = subst (λ (h : ProgramHead O B). (d.is_foldable h.content ≡ true) ⊎ (d.is_branch h.content ≡ true)) i.head l.asks;
          lacks = none_asked k i.view.operands (ap (λ (h : ProgramHead O B). asked (map k.of h.operands)) (sym i.head) ∙ l.lacks);
        },
      )

  -- a value that is defined below the root gets a constant exactly where it does in the tree
  result_found : (v : Value) (p : Ptr Operation) → IsResultBelow c op v p → FoldsAt d c k p → IsResult d t k v
  result_found v p r folds =
      let f = seen.found p r.below in
      let o = f.0 in
      let i = seen.sound o f.1 in
      let l : FoldsAt d c k o.head.name = subst (λ q. FoldsAt d c k q) (sym f.2) folds in
      let block : o.site.label.name ≡ l.block = one_block o.head.name o.site.label.name l.block i.in_block l.in_block in
      let head = content_is o i l.view l.there in
      let head_r = content_is o i r.view (ap (operation_at c) f.2 ∙ r.there) in
      record {
        definer = o;
        stands = f.1;
        runs = ap k.runs block ∙ l.runs;
        folds = ap (λ (h : ProgramHead O B). d.is_foldable h.content) head ∙ l.folds;
        no_constant = ap (λ (h : ProgramHead O B). d.is_constant h.content) head ∙ l.no_constant;
        result = subst (λ (h : ProgramHead O B). Has v (names_of h.results)) (sym head_r) (index_has_name r.view.results r.index v r.stands);
      }

  argument_found : (v : Value) (b : Ptr BasicBlock) → IsArgumentBelow c op v b → k.runs b ≡ true → IsArgument t k.runs v
  argument_found v b r runs =
      let f = seen.blocks_found b r.below in
      let x = f.0 in
      let i = seen.blocks_sound x f.1 in
      let view : i.view ≡ r.view = same_some i.view r.view (sym i.there ∙ ap (block_at c) f.2 ∙ r.there) in
      record {
        definer = x;
        stands = f.1;
        in_run = ap k.runs f.2 ∙ runs;
        argument = subst (λ (l : ProgramLabel O B). Has v (names_of l.arguments)) (sym (i.label ∙ ap (λ w. label_of x.label.name w) view)) (index_has_name r.view.arguments r.index v r.stands);
      }

  found_result : (v : Value) → IsResult d t k v → IsDefinedBelow c op v × IsWantedAt d c k v.definer
  found_result v r =
      let o = r.definer in
      let i = seen.sound o r.stands in
      let has : Has v (names_of (map defined_by i.view.results)) = subst (λ (h : ProgramHead O B). Has v (names_of h.results)) i.head r.result in
      let at = name_index i.view.results v has in
      let definer = values.definer (ByOp o.head.name) at.0 v (result_at c o.head.name i.view at.0 v i.there at.1) in
      let folds : FoldsAt d c k o.head.name = record {
        view = i.view;
        there = i.there;
        folds = ap (λ (h : ProgramHead O B). d.is_foldable h.content) (sym i.head) ∙ r.folds;
        no_constant = ap (λ (h : ProgramHead O B). d.is_constant h.content) (sym i.head) ∙ r.no_constant;
        block = o.site.label.name;
        in_block = i.in_block;
        runs = r.runs;
      } in
      (inl (o.head.name, i.view, i.below, i.there, has), subst (λ e. IsWantedAt d c k e) (sym definer) folds)

  found_argument : (v : Value) → IsArgument t k.runs v → IsDefinedBelow c op v × IsWantedAt d c k v.definer
  found_argument v r =
      let x = r.definer in
      let i = seen.blocks_sound x r.stands in
      let has : Has v (names_of (map defined_by i.view.arguments)) = subst (λ (l : ProgramLabel O B). Has v (names_of l.arguments)) i.label r.argument in
      let at = name_index i.view.arguments v has in
      let definer = values.definer (ByBlock x.label.name) at.0 v (argument_at c x.label.name i.view at.0 v i.there at.1) in
      (inr (x.label.name, i.view, i.below, i.there, has), subst (λ e. IsWantedAt d c k e) (sym definer) r.in_run)

  -- where it is told what is below the root, and which values are named from outside it
  module _ (w : TreeSurroundings by_handle A) (pins : PinsTaken c op w) (told : (p : Ptr Operation) → Told (IsBelowRoot c op p)) where
    -- a value that some operation takes is used: the operation is the root, below it, or outside
    used_found : (v : Value) → IsUsed c v → trees.IsUsed w t v
    used_found v u =
        let p = u.0 in
        let o = u.1 in
        let there = u.2 in
        let k = u.3 in
        ⊎_elim
        (λ (e : p ≡ op).
        let view : o ≡ seen.stands.view = one_view op o seen.stands.view (ap (operation_at c) (sym e) ∙ there) seen.stands.there in
        let at : slice_get t.head.operands k ≡ Some v =
        ap (λ (h : ProgramHead O B). slice_get h.operands k) seen.stands.head ∙ ap (λ (x : OperationView O). slice_get x.operands k) (sym view) ∙ u.4 in
        inr (inl (index_has t.head.operands k v at)))
        (λ other. ⊎_elim
        (λ below.
        let f = seen.found p below in
        let head = content_is f.0 (seen.sound f.0 f.1) o (ap (operation_at c) f.2 ∙ there) in
        inl (f.0, k, record { stands = f.1; operand = ap (λ (h : ProgramHead O B). slice_get h.operands k) head ∙ u.4 }))
        (λ out. inr (inr ((pins v).1 (
          p,
          λ i. out (record { inside = i; other = other }),
          (k, ap (λ q. slice_get (unwrap_or (option_map (λ (x : OperationView O). x.operands) q) []) k) there ∙ u.4),
        ))))
        (told p))
        (same_handle p op)

    found_used : (v : Value) → trees.IsUsed w t v → IsUsed c v
    found_used v p = ⊎_elim
        (λ b.
        let i = seen.sound b.0 b.2.stands in
        (b.0.head.name, i.view, i.there, b.1, ap (λ (h : ProgramHead O B). slice_get h.operands b.1) (sym i.head) ∙ b.2.operand))
        (λ q. ⊎_elim
        (λ h.
        let at = has_index t.head.operands v h in
        (op, seen.stands.view, seen.stands.there, at.0, ap (λ (h : ProgramHead O B). slice_get h.operands at.0) (sym seen.stands.head) ∙ at.1))
        (λ e.
        let out = (pins v).0 e in
        let o = operand_there c out.0 v out.2.0 out.2.1 in
        (out.0, o.0, o.1, out.2.0, o.2))
        q)
        p

    pub gets_found : (v : Value) (a : A) → IsDefinedBelow c op v → GetsAt d c k v a → Gets d w t k v a
    gets_found v a below g =
        let m = something (d.constant a) g.maker in
        record {
          known = g.known;
          maker = m.0;
          made_by = m.1;
          place = ⊎_elim
              (λ r. inl (result_found v r.0 r.1 (subst (λ e. IsWantedAt d c k e) r.1.definer g.place)))
              (λ r. inr (argument_found v r.0 r.1 (subst (λ e. IsWantedAt d c k e) r.1.definer g.place)))
              (result_or_argument c op values v below);
          used = used_found v g.used;
        }

    pub found_gets : (v : Value) (a : A) → Gets d w t k v a → IsDefinedBelow c op v × GetsAt d c k v a
    found_gets v a g =
        let f = ⊎_elim (λ r. found_result v r) (λ r. found_argument v r) g.place in
        (f.0, record { known = g.known; maker = is_something (d.constant a) g.maker g.made_by; place = f.1; used = found_used v g.used })
