-- The verdict on trees that are alike.
use Rattle.std.proofs.Common.{◌≡◌, ◌<◌, ℕ, List, Some, sym, ap, ◌∙◌, subst, arith}
use Rattle.std.proofs.lemmas.Option.{same_Some}
use Rattle.std.specs.Prelude.{slice_get}
use Rattle.ir_base.specs.declared.types.TypeHandle.{TypeHandle}
use Rattle.ir_program.specs.declared.handles.BasicBlock.{BasicBlock}
use Rattle.ir_program.specs.declared.handles.Ptr.{Ptr}
use Rattle.ir_program.specs.declared.handles.Value.{Value}
use Rattle.ir_trees.specs.Stands.{ProgramTree}
use Rattle.ir_types.specs.Interned.{key_at}
use Rattle.kit.specs.Context.{KitContext, KitTree}
use Rattle.kit_checks.specs.declared.rule.Rule.{Rule}
use Rattle.kit_checks.specs.declared.rule.Rule.TheVariants as rule
use Rattle.kit_checks.specs.Faults.{Keeps, KeptEverywhere, IsFirstFault}
use Rattle.kit_checks.specs.Numbers.{number_of}
use Rattle.kit_checks.specs.Sites.{Site, site_at}
use Rattle.kit_checks.specs.World.{World, world_of}
use Rattle.text_rereading.specs.Rereading.{Numbering}
use Rattle.kit_text_programs.specs.Laws.{HaveOwnNumbers}
use Rattle.kit_text_programs.specs.Alike.{BelongTogether, AreTrees, AreSitesAlike, AreVisibleFirst}
use Rattle.kit_text_programs.specs.Same.{HaveOwnHandles, IsSameType, IsSameValue, IsSameBlock}
use Rattle.kit_text_programs.specs.RuleLaws.{AreAlikeIn, HasOneHandleEach, HasVerdictOf}
use Rattle.kit_text_programs.proofs.AlikeLists.{some_second}
use Rattle.kit_text_programs.proofs.AlikeParts.{sites_alike}
use Rattle.kit_text_programs.proofs.AlikeRules.{keeps_back}
use Rattle.kit_text_programs.proofs.WrittenTypes.{own_handles}
use Rattle.kit_text_programs.proofs.SameTypes.{types_meet, same_integers, same_functions}

visible_before : (r : Rule) → AreVisibleFirst r → number_of rule.OperandsAreVisible < number_of r
visible_before rule.TypesAgree h = omega arith
visible_before rule.ReturnsFit h = omega arith
visible_before rule.CallsFit h = omega arith
visible_before rule.RootIsModule h = absurd h
visible_before rule.ModuleHolds h = absurd h
visible_before rule.FunctionHasType h = absurd h
visible_before rule.FunctionHolds h = absurd h
visible_before rule.ValuesAreIntegers h = absurd h
visible_before rule.BlocksEnd h = absurd h
visible_before rule.OperandsAreVisible h = absurd h
visible_before rule.EdgesFit h = omega arith
visible_before rule.ConstantsFit h = absurd h
visible_before rule.AttributesAreKnown h = absurd h
visible_before rule.FitsFormat h = absurd h

less_than : (k m n : ℕ) → k < m → m < n → k < n
less_than k m n a b = omega arith

module _ {O B P C : Type 0} (w : World O B) (x : World P C) (OfTypes : TypeHandle → TypeHandle → Type 0)
    (OfValues : Value → Value → Type 0) (OfBlocks : Ptr BasicBlock → Ptr BasicBlock → Type 0) (agree : BelongTogether w x OfTypes OfValues OfBlocks) (t : ProgramTree O B)
    (u : ProgramTree P C) (trees : AreTrees w x OfTypes OfValues OfBlocks t u) where
  there : (p : List ℕ) (s : Site O B) → site_at t p ≡ Some s
      → (z : Site P C) × (site_at u p ≡ Some z) × AreSitesAlike w x OfTypes OfValues OfBlocks s z
  there p s at =
      some_second (AreSitesAlike w x OfTypes OfValues OfBlocks) (site_at t p) (site_at u p) s
      (sites_alike w x OfTypes OfValues OfBlocks t u trees p) at

  -- what is kept beside it is kept
  kept_at : (r : Rule) (p : List ℕ) (s : Site O B) (z : Site P C) → site_at t p ≡ Some s → site_at u p ≡ Some z
      → AreSitesAlike w x OfTypes OfValues OfBlocks s z → (AreVisibleFirst r → KeptEverywhere x u rule.OperandsAreVisible)
      → Keeps x r z → Keeps w r s
  kept_at r p s z at beside alike seen keeps =
      keeps_back w x OfTypes OfValues OfBlocks agree r s z alike (λ q. seen q p z beside) keeps

  kept : (r : Rule) → (AreVisibleFirst r → KeptEverywhere x u rule.OperandsAreVisible) → KeptEverywhere x u r
      → KeptEverywhere w t r
  kept r seen all p s at =
      let z = there p s at in kept_at r p s z.0 at z.1 z.2 seen (all p z.0 z.1)

module _ {O B P C : Type 0} (w : World O B) (x : World P C) (OfTypes Types : TypeHandle → TypeHandle → Type 0)
    (OfValues Values : Value → Value → Type 0) (OfBlocks OtherBlocks : Ptr BasicBlock → Ptr BasicBlock → Type 0) (agree : BelongTogether w x OfTypes OfValues OfBlocks)
    (agrees : BelongTogether x w Types Values OtherBlocks) (t : ProgramTree O B) (u : ProgramTree P C)
    (trees : AreTrees w x OfTypes OfValues OfBlocks t u) (back : AreTrees x w Types Values OtherBlocks u t) where
  pub over : (r : Rule) → (AreVisibleFirst r → KeptEverywhere w t rule.OperandsAreVisible) → KeptEverywhere w t r
      → KeptEverywhere x u r
  over r seen all = kept x w Types Values OtherBlocks agrees u t back r seen all

  visible_over : KeptEverywhere w t rule.OperandsAreVisible → KeptEverywhere x u rule.OperandsAreVisible
  visible_over all = over rule.OperandsAreVisible (λ q. absurd q) all

  pub one_fault : (r : Rule) (p : List ℕ) → IsFirstFault w t r p → IsFirstFault x u r p
  one_fault r p fault = record {
    first = record {
      breaks = record {
        site = z.0;
        there = z.1;
        broken = λ keeps. fault.first.breaks.broken (kept_at w x OfTypes OfValues OfBlocks agree t u trees r p
            fault.first.breaks.site z.0 fault.first.breaks.there z.1 z.2
            (λ q. visible_over (fault.smallest rule.OperandsAreVisible (visible_before r q))) keeps);
      };
      before = λ q s less at. let o = there x w Types Values OtherBlocks agrees u t back q s at in
          kept_at x w Types Values OtherBlocks agrees u t back r q s o.0 at o.1 o.2
          (λ v. fault.smallest rule.OperandsAreVisible (visible_before r v)) (fault.first.before q o.0 less o.1);
    };
    smallest = λ q less. over q (λ v. fault.smallest rule.OperandsAreVisible
        (less_than (number_of rule.OperandsAreVisible) (number_of q) (number_of r) (visible_before q v) less))
        (fault.smallest q less);
  }
    where
      z : (y : Site P C) × (site_at u p ≡ Some y) × AreSitesAlike w x OfTypes OfValues OfBlocks fault.first.breaks.site y
      z = there w x OfTypes OfValues OfBlocks agree t u trees p fault.first.breaks.site fault.first.breaks.there

-- types and values of two contexts belong together
pub together : (s z : KitContext) (numbering others : Numbering) → HaveOwnHandles (key_at s.types)
    → HaveOwnHandles (key_at z.types)
    → HaveOwnNumbers numbering → HaveOwnNumbers others
    → BelongTogether (world_of s) (world_of z) (IsSameType (key_at s.types) (key_at z.types))
    (IsSameValue numbering others) (IsSameBlock numbering others)
together s z numbering others handles again own owns = record {
  types_back = λ a b c d h k e. types_meet (key_at s.types) (key_at z.types) handles a b c d h k e;
  values_back = λ a b c d h k e. value_of numbering others owns a b c d h k e;
  values_forth = λ a b c d h k e. value_of others numbering own a b c d (h.0, h.2, h.1) (k.0, k.2, k.1) e;
  blocks_back = λ a b c d h k e. block_of a b c d h k e;
  integers = λ a c h. same_integers (key_at s.types) (key_at z.types) a c h;
  functions = λ a c h. same_functions (key_at s.types) (key_at z.types) a c h;
}
  where
    value_of : (vs us : Numbering) → HaveOwnNumbers us → (a b c d : Value) → IsSameValue vs us a c
        → IsSameValue vs us b d → c ≡ d → a ≡ b
    value_of vs us owns a b c d h k e =
        let same : h.0 ≡ k.0 = owns.values h.0 k.0 c d h.2 k.2 (ap (λ (v : Value). v.number) e) in
        same_Some a b (sym h.1 ∙ ap (slice_get vs.values) same ∙ k.1)

    block_of : (a b c d : Ptr BasicBlock) → IsSameBlock numbering others a c → IsSameBlock numbering others b d → c ≡ d → a ≡ b
    block_of a b c d h k e =
        let same : h.0 ≡ k.0 = owns.blocks h.0 k.0 d (subst (λ x. slice_get others.blocks h.0 ≡ Some x) e h.2) k.2 in
        same_Some a b (sym h.1 ∙ ap (slice_get numbering.blocks) same ∙ k.1)

pub one_verdict : (s z : KitContext) (numbering others : Numbering) (t u : KitTree) → HaveOwnNumbers numbering
    → HaveOwnNumbers others → AreAlikeIn s z numbering others t u → AreAlikeIn z s others numbering u t → HasOneHandleEach s
    → HasOneHandleEach z → HasVerdictOf s z t u
one_verdict s z numbering others t u own owns trees back handles again = record {
  first_fault = λ r p fault. one_fault (world_of s) (world_of z) (IsSameType (key_at s.types) (key_at z.types))
      (IsSameType (key_at z.types) (key_at s.types)) (IsSameValue numbering others)
      (IsSameValue others numbering) (IsSameBlock numbering others) (IsSameBlock others numbering) agree agrees t
      u trees back r p fault;
  kept = each;
  all_kept = λ all r. each r (λ q. all rule.OperandsAreVisible) (all r);
}
  where
    agree : BelongTogether (world_of s) (world_of z) (IsSameType (key_at s.types) (key_at z.types))
        (IsSameValue numbering others) (IsSameBlock numbering others)
    agree = together s z numbering others (own_handles s handles) (own_handles z again) own owns

    agrees : BelongTogether (world_of z) (world_of s) (IsSameType (key_at z.types) (key_at s.types))
        (IsSameValue others numbering) (IsSameBlock others numbering)
    agrees = together z s others numbering (own_handles z again) (own_handles s handles) owns own

    each : (r : Rule) → (AreVisibleFirst r → KeptEverywhere (world_of s) t rule.OperandsAreVisible)
        → KeptEverywhere (world_of s) t r → KeptEverywhere (world_of z) u r
    each r seen all = over (world_of s) (world_of z) (IsSameType (key_at s.types) (key_at z.types))
        (IsSameType (key_at z.types) (key_at s.types)) (IsSameValue numbering others)
        (IsSameValue others numbering) (IsSameBlock numbering others) (IsSameBlock others numbering) agree agrees
        t u trees back r seen all
