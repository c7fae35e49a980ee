-- The two rules on names, said of the entities inside the root and of the sites of its tree.
use Rattle.std.proofs.Common.{◌≡◌, ◌⊎◌, ⊎_elim, ◌↔◌, ℕ, ◌+◌, ◌<◌, Bool, true, false, List, [], ◌∷◌, ◌++◌, length, Option, Some, None}
use Rattle.std.proofs.Common.{IsSome, IsTrue, slice_get, refl, sym, ap, ◌∙◌, subst, arith, true≢false}
use Rattle.std.proofs.lemmas.Bool.{false≢true}
use Rattle.std.proofs.lemmas.Option.{slice_get_within}
use Rattle.ir_program.specs.Lists.{StandsInBlock, StandsInside, itself, in_block, in_region, in_operation, blocks_in, operations_in, regions_in}
use Rattle.ir_program.specs.Preorder.{nodes_inside, AreInside}
use Rattle.ir_program.specs.Program.{Program, operation_at}
use Rattle.ir_program.specs.declared.handles.IRNode.{IRNode}
use Rattle.ir_program.specs.declared.handles.IRNode.TheVariants.{Operation as OperationNode}
use Rattle.ir_program.specs.declared.handles.IRNode.TheVariants.{Region as RegionNode, BasicBlock as BlockNode}
use Rattle.ir_program.specs.declared.handles.Ptr.{Ptr}
use Rattle.ir_program.specs.declared.handles.BasicBlock.{BasicBlock}
use Rattle.ir_program.specs.declared.handles.Operation.{Operation}
use Rattle.ir_trees.specs.Stands.{ProgramTree, StandsFor}
use Rattle.ir_trees.proofs.OneTree.{one_tree}
use Rattle.ir_trees.proofs.Members.{Has, at_has, has_at, has_either}
use Rattle.opt_inside.proofs.Around.{HasLists, not_root}
use Rattle.kit_ops.specs.declared.kinds.KitOp.{KitOp}
use Rattle.kit_ops.specs.declared.kinds.KitOp.TheVariants.{Call, Module}
use Rattle.kit_checks.specs.Located.{IsAroundIf, IsSiteOf}
use Rattle.kit_checks.specs.Reading.{OfTree}
use Rattle.kit_checks.specs.Rules.{HasModuleBody, InKind, ModuleHolds}
use Rattle.kit_checks.specs.Searching.{IsFirstBreakIn, KeptAt, KeptBy, Tells}
use Rattle.kit_checks.specs.Sites.{Around, Site}
use Rattle.kit_checks.specs.Words.{is_symbol, kind_of}
use Rattle.kit_checks.specs.World.{World}
use Rattle.kit_checks.specs.declared.rule.Rule.TheVariants as rule
use Rattle.kit_checks.proofs.InsideSites.{placed}
use Rattle.kit_checks.proofs.Searched.{found_nowhere}
use Rattle.kit_verifier.specs.Names.{AreCalls, AreSymbols, HoldsAt, IsCallAt, IsOfModule}
use Rattle.kit_verifier.specs.Reading.{kind_at}
use Rattle.kit_verifier.specs.Sets.{Gains}
use Rattle.kit_verifier.proofs.Held.{block_inside, in_its_block, it, repeat_of}
use Rattle.kit_verifier.proofs.Read.{kind_from, kind_is}
use Rattle.kit_verifier.proofs.Sets.{gains_as}

module _ {O B : Type 0} (w : World O B) (c : Program O B) where
  -- the trees that an operation stands for agree on its body
  pub body_told : (op : Ptr Operation) (t : ProgramTree O B) → StandsFor c op t → (is : Bool) → OfTree c op (λ u. IsTrue is ↔ HasModuleBody u) → IsTrue is ↔ OfTree c op HasModuleBody
  body_told op t stands is tells = (λ h u s. (tells u s).0 h, λ each. (tells t stands).1 (each t stands))

  -- an operation by its kind
  module _ (op : Ptr Operation) (k : KitOp) (here : kind_at w c op ≡ Some k) where
    pub holds_module : k ≡ Module → (is : Bool) → IsTrue is ↔ OfTree c op HasModuleBody → IsTrue is ↔ HoldsAt w c (OperationNode op)
    holds_module same is tells = (λ h m. tells.0 h, λ h. tells.1 (h (here ∙ ap Some same)))

    pub one_call : k ≡ Call → (calls after : List (Ptr Operation)) → Gains calls after (λ p. p ≡ op) → Gains calls after (IsCallAt w c (OperationNode op))
    one_call same calls after = gains_as calls after (λ p. p ≡ op) (IsCallAt w c (OperationNode op)) (λ p e. (e, here ∙ ap Some same)) (λ p call. call.0)

  -- those that were seen hold what they may, and the next one does
  pub holds_more : (done : List IRNode) (e : IRNode) (is : Bool) → is ≡ true → IsTrue is ↔ HoldsAt w c e → ((x : IRNode) → Has x done → HoldsAt w c x) → (x : IRNode) → Has x (done ++ e ∷ []) → HoldsAt w c x
  holds_more done e is holds tells each x has = ⊎_elim
      (λ before. each x before)
      (λ last. ⊎_elim (λ (same : x ≡ e). subst (HoldsAt w c) (sym same) (tells.0 holds)) (λ none. absurd none) last)
      (has_either done (e ∷ []) x has)

module _ {O B : Type 0} (w : World O B) (c : Program O B) (root : Ptr Operation) where
  -- the operations before an index keep the rule on calls
  abbrev pub FitBelow : List (Ptr Operation) → ℕ → Type 0
  FitBelow ops n = (k : ℕ) (op : Ptr Operation) → k < n → slice_get ops k ≡ Some op → KeptBy w c root rule.CallsFit op

  pub fit_none : (ops : List (Ptr Operation)) → FitBelow ops 0
  fit_none ops k op below here = absurd (omega arith)

  pub fit_more : (ops : List (Ptr Operation)) (n : ℕ) (op : Ptr Operation) (is : Bool) → slice_get ops n ≡ Some op → is ≡ true → Tells w c root rule.CallsFit op is → FitBelow ops n → FitBelow ops (n + 1)
  fit_more ops n op is there holds tells fit k p below here = ⊎_elim
      (λ (before : k < n). fit k p before here)
      (λ (last : k ≡ n).
      let both : Some p ≡ Some op = sym here ∙ ap (slice_get ops) last ∙ there in
      let same : p ≡ op = cc in
      subst (KeptBy w c root rule.CallsFit) (sym same) (λ s at. (tells s at).0 holds))
      (before_or_last k n below)
    where
      before_or_last : (a b : ℕ) → a < b + 1 → (a < b) ⊎ (a ≡ b)
      before_or_last a b h = grind arith

  module _ (lists : HasLists c) (t : ProgramTree O B) (stands : StandsFor c root t) where
    -- where one doesn't keep it, it isn't kept everywhere
    pub fit_fails : (op : Ptr Operation) (is : Bool) → StandsInside c (OperationNode root) (OperationNode op) → is ≡ false → Tells w c root rule.CallsFit op is → IsFirstBreakIn w c root rule.CallsFit None → ⊥
    fit_fails op is inside fails tells found =
        let p = placed c lists root t stands op inside in
        true≢false (sym ((tells p.site p.at).1 (found t stands p.place p.site p.there)) ∙ fails)

    -- where modules hold what they may by the rule, each entity says so
    module_body : IsFirstBreakIn w c root rule.ModuleHolds None → (op : Ptr Operation) → StandsInside c (OperationNode root) (OperationNode op) → HoldsAt w c (OperationNode op)
    module_body found op inside is u su =
        let p = placed c lists root t stands op inside in
        let body = (found t stands p.place p.site p.there).body (kind_from w c op p.site.op p.at.tree Module is) in
        subst HasModuleBody (one_tree c op p.site.op u p.at.tree su) body

    module _ (b : Ptr BasicBlock) (inside : StandsInside c (OperationNode root) (BlockNode b)) (of : IsOfModule w c b) where
      around_in : (op : Ptr Operation) (o : Option (Around O B)) → StandsInBlock c op b → IsAroundIf c root op o → (a : Around O B) × (o ≡ Some a) × (kind_of w a.owner ≡ Module)
      around_in op None s same = absurd (not_root c lists root op b s inside same)
      around_in op (Some a) s it =
          let one = lists.operations_once op b it.block s.index a.index s.here it.index in
          let region = lists.blocks_once b of.1.region it.region of.1.inner.index it.in_region.index of.1.inner.here
          (subst (λ x. slice_get (blocks_in c it.region) it.in_region.index ≡ Some x) (sym one.0) it.in_region.here) in
          let owner = lists.regions_once of.1.region of.0 it.owner of.1.outer.index it.in_owner.index of.1.outer.here
          (subst (λ x. slice_get (regions_in c it.owner) it.in_owner.index ≡ Some x) (sym region.0) it.in_owner.here) in
          (a, refl, kind_from w c it.owner a.owner it.owner_is Module (subst (λ p. kind_at w c p ≡ Some Module) owner.0 of.2))

      -- an operation of the block, where it is
      record IsHeldAt (op : Ptr Operation) : Type 0 where
        site : Site O B
        at : IsSiteOf c root op site
        around : Around O B
        here : site.around ≡ Some around
        in_module : kind_of w around.owner ≡ Module
        holds : ModuleHolds w site

      held_at : IsFirstBreakIn w c root rule.ModuleHolds None → (op : Ptr Operation) → StandsInBlock c op b → IsHeldAt op
      held_at found op s =
          let p = placed c lists root t stands op (in_block op b s inside) in
          let a = around_in op p.site.around s p.at.around in
          record {
            site = p.site;
            at = p.at;
            around = a.0;
            here = a.1;
            in_module = a.2;
            holds = found t stands p.place p.site p.there;
          }

      module_symbols : IsFirstBreakIn w c root rule.ModuleHolds None → AreSymbols w c (operations_in c b)
      module_symbols found = record {
        kinds = λ op has k here.
            let i = has_at (operations_in c b) op has in
            let h = held_at found op (lists.operations b i.0 op i.1) in
            ap is_symbol (sym (kind_from w c op h.site.op h.at.tree k here)) ∙ h.holds.kinds h.around (h.here, h.in_module);
        fresh = λ op r.
            let h = held_at found op (lists.operations b r.index op r.here) in
            in_its_block w c root op h.site h.at h.around h.here lists (BlockNode b) r (h.holds.names h.around (h.here, h.in_module));
      }

    pub each_holds : IsFirstBreakIn w c root rule.ModuleHolds None → (e : IRNode) → StandsInside c (OperationNode root) e → HoldsAt w c e
    each_holds found (OperationNode op) inside = module_body found op inside
    each_holds found (BlockNode b) inside = λ of. module_symbols b inside of found
    each_holds found (RegionNode r) inside = tt

  module _ (lists : HasLists c) (inside : AreInside c (OperationNode root) (nodes_inside c (OperationNode root))) where
    module _ (each : (e : IRNode) → StandsInside c (OperationNode root) e → HoldsAt w c e) (op : Ptr Operation) (s : Site O B) (at : IsSiteOf c root op s) where
      symbols_around : (a : Around O B) (i : InKind w s Module a) → AreSymbols w c (operations_in c (it w c root op s at a i.0).block)
      symbols_around a i =
          let around = it w c root op s at a i.0 in
          each (BlockNode around.block) (block_inside w c root op s at a i.0 lists) (
            around.owner,
            record { region = around.region; inner = around.in_region; outer = around.in_owner },
            kind_is w c around.owner a.owner around.owner_is ∙ ap Some i.1,
          )

      site_holds : ModuleHolds w s
      site_holds = record {
        body = λ is. each (OperationNode op) at.inside (kind_is w c op s.op at.tree ∙ ap Some is) s.op at.tree;
        kinds = λ a i.
            let around = it w c root op s at a i.0 in
            (symbols_around a i).kinds op (at_has (operations_in c around.block) a.index op around.index) (kind_of w s.op) (kind_is w c op s.op at.tree);
        names = λ a i k other name before there theirs mine.
            (symbols_around a i).fresh op (repeat_of w c root op s at a i.0 k other name before there theirs mine);
      }

    module_kept : ((e : IRNode) → StandsInside c (OperationNode root) e → HoldsAt w c e) → (e : IRNode) → KeptAt w c root rule.ModuleHolds e
    module_kept each (OperationNode op) = λ s at. site_holds each op s at
    module_kept each (BlockNode b) = tt
    module_kept each (RegionNode r) = tt

    -- where each entity inside the root says so, modules hold what they may by the rule
    pub all_hold : ((e : IRNode) → StandsInside c (OperationNode root) e → HoldsAt w c e) → IsFirstBreakIn w c root rule.ModuleHolds None
    all_hold each = found_nowhere w c root rule.ModuleHolds inside lists (λ e has. module_kept each e)

    calls_kept : (calls : List (Ptr Operation)) → AreCalls w c root calls → ((op : Ptr Operation) → Has op calls → KeptBy w c root rule.CallsFit op) → (e : IRNode) → StandsInside c (OperationNode root) e → KeptAt w c root rule.CallsFit e
    calls_kept calls are kept (OperationNode op) within = λ s at is.
        kept op ((are op).1 (OperationNode op, within, (refl, kind_is w c op s.op at.tree ∙ ap Some is))) s at is
    calls_kept calls are kept (BlockNode b) within = tt
    calls_kept calls are kept (RegionNode r) within = tt

    -- where each call keeps it, the rule on calls is kept
    pub all_fit : (calls : List (Ptr Operation)) (n : ℕ) → n ≡ length calls → AreCalls w c root calls → FitBelow calls n → IsFirstBreakIn w c root rule.CallsFit None
    all_fit calls n all are fit = found_nowhere w c root rule.CallsFit inside lists
        (λ e has.
        let k = has_at (nodes_inside c (OperationNode root)) e has in
        calls_kept calls are
        (λ op called.
        let i = has_at calls op called in
        fit i.0 op (let within = slice_get_within calls i.0 op i.1 in omega arith) i.1)
        e (inside.inside k.0 e k.1))

  -- what is known of both rules, by each of them
  pub one_broken : (IsFirstBreakIn w c root rule.ModuleHolds None → ⊥) → IsTrue false ↔ (IsFirstBreakIn w c root rule.ModuleHolds None × IsFirstBreakIn w c root rule.CallsFit None)
  one_broken broken = (λ h. absurd (false≢true h), λ both. absurd (broken both.0))

  pub both_kept : (is : Bool) → IsFirstBreakIn w c root rule.ModuleHolds None → IsTrue is ↔ IsFirstBreakIn w c root rule.CallsFit None → IsTrue is ↔ (IsFirstBreakIn w c root rule.ModuleHolds None × IsFirstBreakIn w c root rule.CallsFit None)
  both_kept is held tells = (λ h. (held, tells.0 h), λ both. tells.1 both.1)

  -- a call is inside the root
  pub call_inside : (calls : List (Ptr Operation)) → AreCalls w c root calls → (op : Ptr Operation) → Has op calls → StandsInside c (OperationNode root) (OperationNode op)
  call_inside calls are op has = let m = (are op).0 has in by m.0 m.1 m.2
    where
      by : (e : IRNode) → StandsInside c (OperationNode root) e → IsCallAt w c e op → StandsInside c (OperationNode root) (OperationNode op)
      by (OperationNode p) within call = subst (λ x. StandsInside c (OperationNode root) (OperationNode x)) (sym call.0) within
      by (BlockNode b) within call = absurd call
      by (RegionNode r) within call = absurd call

  pub call_live : IsSome (operation_at c root) → (op : Ptr Operation) → StandsInside c (OperationNode root) (OperationNode op) → IsSome (operation_at c op)
  call_live live op within = by (OperationNode op) within refl
    where
      by : (e : IRNode) → StandsInside c (OperationNode root) e → e ≡ OperationNode op → IsSome (operation_at c op)
      by _ itself same = let e : root ≡ op = cc in subst (λ x. IsSome (operation_at c x)) e live
      by _ (in_block p b s i) same = let e : p ≡ op = cc in subst (λ x. IsSome (operation_at c x)) e s.operation
      by _ (in_region b r s i) same = cc
      by _ (in_operation r p s i) same = cc
