-- Names that are defined once they are renamed, by names that are told apart as before, are defined.
use Rattle.std.proofs.Common.{◌≡◌, Bool, List, [], ◌∷◌, Some, sym, ◌∙◌, subst}
use Rattle.std.specs.Prelude.{map}
use Rattle.kit_behaviour.specs.Machine.{AllEdges, Edge, Op, Const, Calc, Emit, Call, Branch, Return, Block}
use Rattle.kit_behaviour.specs.Machine.{left_in, arguments_in}
use Rattle.kit_behaviour.specs.Renaming.{rename_block, AllNamed, EdgeNamed, OpNamed, OpsNamed}
use Rattle.kit_behaviour.specs.Numbering.{HasPlace, AnyBlock, NamesAreDefined}
use Rattle.kit_behaviour.proofs.ControlFlow.NamedCommuting.{ren, ren_edge, left_renamed, takes_renamed}
use Rattle.kit_behaviour.proofs.ControlFlow.NamedPlacing.{AreNamed, blocks_on}

module _ {V W : Type 0} (same : V → V → Bool) (other : W → W → Bool) (r : V → W) (N : V → Type 0)
    (apart : (x y : V) → N x → N y → other (r x) (r y) ≡ same x y) (f : List (Block V)) (named : AreNamed N (Some f))
  where
    abbrev After : W → Type 0
    After = HasPlace other (Some (map (rename_block r) f))

    abbrev Before : V → Type 0
    Before = HasPlace same (Some f)

    has_back : (v : V) → N v → After (r v) → Before v
    has_back v n h = (h.0, sym (blocks_on same other r N apart 0 v n f named.ops named.arguments) ∙ h.1)

    list_back : (xs : List V) → AllNamed N xs → AllNamed After (map r xs) → AllNamed Before xs
    list_back [] n h = tt
    list_back (x ∷ xs) n h = (has_back x n.0 h.0, list_back xs n.1 h.1)

    edges_back : (es : List (Edge V)) → AllEdges (EdgeNamed N AnyBlock) es →
        AllEdges (EdgeNamed After AnyBlock) (map (ren_edge r) es) → AllEdges (EdgeNamed Before AnyBlock) es
    edges_back [] n h = tt
    edges_back (e ∷ es) n h = ((tt, list_back e.forwards n.0.1 h.0.1), edges_back es n.1 h.1)

    op_back : (op : Op V) → OpNamed N AnyBlock op → OpNamed After AnyBlock (ren r op) → OpNamed Before AnyBlock op
    op_back (Const v k) n h = has_back v n h
    op_back (Calc a w v x y) n h = (has_back v n.0 h.0, has_back x n.1 h.1, has_back y n.2 h.2)
    op_back (Emit x) n h = has_back x n h
    op_back (Call vs c xs) n h = (list_back vs n.0 h.0, list_back xs n.1 h.1)
    op_back (Branch s xs e es) n h = (list_back xs n.0 h.0, edges_back (e ∷ es) n.1 h.1)
    op_back (Return xs) n h = list_back xs n h

    ops_back : (ops : List (Op V)) → OpsNamed N AnyBlock ops → OpsNamed After AnyBlock (map (ren r) ops) →
        OpsNamed Before AnyBlock ops
    ops_back [] n h = tt
    ops_back (op ∷ ops) n h = (op_back op n.0 h.0, ops_back ops n.1 h.1)

    pub defined_back : NamesAreDefined other (Some (map (rename_block r) f)) → NamesAreDefined same (Some f)
    defined_back d = record {
      ops = λ b.
          ops_back (left_in (Some f) b 0) (named.ops b)
          (subst (OpsNamed After AnyBlock) (left_renamed r f b) (d.ops b));
      arguments = λ b. list_back (arguments_in (Some f) b) (named.arguments b)
          (subst (AllNamed After) (takes_renamed r f b) (d.arguments b));
    }
