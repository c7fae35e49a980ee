-- Constants put in, and uses that name them, change no behaviour.
use Rattle.std.proofs.Common.{◌≡◌, ◌⊎◌, inl, inr, ℕ, Bool, true, false, List, [], ◌∷◌, Option, Some, None, refl, sym, ap, ◌∙◌, subst}
use Rattle.std.specs.Prelude.{map, slice_get, if◌then◌else◌, option_map}
use Rattle.std.proofs.lemmas.Option.{slice_get-map}
use Rattle.kit_behaviour.specs.Machine.{edge_at, chosen, Select, Edge, Op, Const, Calc, Emit, Call, Branch, Return, Block, Fun, ops_left, left_in, arguments_of, arguments_in}
use Rattle.kit_behaviour.specs.RemovedValues.{EdgeLive, may_trap, goes, live, pick, thin_edge, thin_op, thin_ops, thin_block, thin, AllLive, GivesLive, OpLive, OpsLive, SetMayGo}
use Rattle.kit_behaviour.specs.Renaming.{rename_edge, same_block}
use Rattle.kit_behaviour.specs.Facts.{Knows, Lacks, Numbers, Open, knows, unless_lacking, branch_knows, all_forwarded, Fact, Known, FactAtOrBelow, FunctionFacts, AllUnknown, AllFactsAtOrBelow, EdgeClosedIn, BranchClosedIn, OpClosed, OpsClosed, AreClosedFacts}
use Rattle.kit_behaviour.specs.Replacement.{SameKnown}
use Rattle.kit_behaviour.specs.InsertedConstants.{OldOrNewName, Old, New, is_new, Made, put_if, put_args, old, put_before, put_ops, put_block, put_in, constant_of, use_of, MayPut}
use Rattle.kit_behaviour.proofs.Behaviour.EdgeLemmas.{taken_map, edges_map, edges_any, gives_renamed}

put_left_block : {V : Type 0} (m : Made V) (o : Option (Block V)) → ops_left (option_map (put_block m) o) 0 ≡ put_args m (arguments_of o) (put_ops m (ops_left o 0))
put_left_block m None = refl
put_left_block m (Some b) = refl

pub put_left : {V : Type 0} (m : Made V) (f : Option (Fun V)) (b : ℕ) → left_in (put_in m f) b 0 ≡ put_args m (arguments_in f b) (put_ops m (left_in f b 0))
put_left m None b = refl
put_left m (Some f) b = ap (λ o. ops_left o 0) (slice_get-map (put_block m) f b) ∙ put_left_block m (slice_get f b)

put_takes_block : {V : Type 0} (m : Made V) (o : Option (Block V)) → arguments_of (option_map (put_block m) o) ≡ map Old (arguments_of o)
put_takes_block m None = refl
put_takes_block m (Some b) = refl

pub put_takes : {V : Type 0} (m : Made V) (f : Option (Fun V)) (b : ℕ) → arguments_in (put_in m f) b ≡ map Old (arguments_in f b)
put_takes m None b = refl
put_takes m (Some f) b = ap arguments_of (slice_get-map (put_block m) f b) ∙ put_takes_block m (slice_get f b)

-- 1. without what was put in the function is the old one

live_old : {V : Type 0} (vs : List V) → live is_new (map Old vs) ≡ map Old vs
live_old [] = refl
live_old (v ∷ vs) = ap (λ l. Old v ∷ l) (live_old vs)

pick_old : {V : Type 0} (ts : List V) (gs : List (OldOrNewName V)) → pick is_new (map Old ts) gs ≡ gs
pick_old [] gs = refl
pick_old (t ∷ ts) [] = refl
pick_old (t ∷ ts) (g ∷ gs) = ap (λ l. g ∷ l) (pick_old ts gs)

thin_old_edge : {V : Type 0} (m : Made V) (f : Option (Fun V)) (e : Edge V) → thin_edge (put_in m f) is_new (rename_edge Old same_block e) ≡ rename_edge Old same_block e
thin_old_edge {V} m f e =
    ap (λ gs. record { target = e.target; forwards = gs }) (ap (λ ts. pick is_new ts (map Old e.forwards)) (put_takes m f e.target) ∙ pick_old (arguments_in f e.target) (map Old e.forwards))

thin_old_edges : {V : Type 0} (m : Made V) (f : Option (Fun V)) (es : List (Edge V)) → map (thin_edge (put_in m f) is_new) (map (rename_edge Old same_block) es) ≡ map (rename_edge Old same_block) es
thin_old_edges m f [] = refl
thin_old_edges m f (e ∷ es) = ap (λ z. z ∷ map (thin_edge (put_in m f) is_new) (map (rename_edge Old same_block) es)) (thin_old_edge m f e) ∙ ap (λ l. rename_edge Old same_block e ∷ l) (thin_old_edges m f es)

thin_old : {V : Type 0} (m : Made V) (f : Option (Fun V)) (op : Op V) → thin_op (put_in m f) is_new (old op) ≡ old op
thin_old m f (Const r n) = refl
thin_old m f (Calc a w r x y) = refl
thin_old m f (Emit x) = refl
thin_old m f (Call rs c xs) = refl
thin_old m f (Branch s xs e es) =
    ap (λ z. Branch s (map Old xs) z (map (thin_edge (put_in m f) is_new) (map (rename_edge Old same_block) es))) (thin_old_edge m f e)
    ∙ ap (Branch s (map Old xs) (rename_edge Old same_block e)) (thin_old_edges m f es)
thin_old m f (Return xs) = refl

never : (b : Bool) → (if b then false else false) ≡ false
never true = refl
never false = refl

stays_old : {V : Type 0} (op : Op V) → goes is_new (old op) ≡ false
stays_old (Const r n) = refl
stays_old (Calc a w r x y) = never (may_trap a)
stays_old (Emit x) = refl
stays_old (Call rs c xs) = refl
stays_old (Branch s xs e es) = refl
stays_old (Return xs) = refl

thin_put : {V : Type 0} (f : Option (Fun (OldOrNewName V))) (o : Option ℕ) (v : V) (rest : List (Op (OldOrNewName V))) → thin_ops f is_new (put_if o v rest) ≡ thin_ops f is_new rest
thin_put f None v rest = refl
thin_put f (Some n) v rest = refl

thin_args : {V : Type 0} (m : Made V) (f : Option (Fun (OldOrNewName V))) (vs : List V) (rest : List (Op (OldOrNewName V))) → thin_ops f is_new (put_args m vs rest) ≡ thin_ops f is_new rest
thin_args m f [] rest = refl
thin_args m f (v ∷ vs) rest = thin_args m f vs (put_if (m v) v rest) ∙ thin_put f (m v) v rest

thin_before : {V : Type 0} (m : Made V) (f : Option (Fun (OldOrNewName V))) (op : Op V) (rest : List (Op (OldOrNewName V))) → thin_ops f is_new (put_before m op rest) ≡ thin_ops f is_new rest
thin_before m f (Calc a w r x y) rest = thin_put f (m r) r rest
thin_before m f (Const r n) rest = refl
thin_before m f (Emit x) rest = refl
thin_before m f (Call rs c xs) rest = refl
thin_before m f (Branch s xs e es) rest = refl
thin_before m f (Return xs) rest = refl

thin_put_ops : {V : Type 0} (m : Made V) (f : Option (Fun V)) (ops : List (Op V)) → thin_ops (put_in m f) is_new (put_ops m ops) ≡ map old ops
thin_put_ops m f [] = refl
thin_put_ops m f (op ∷ ops) =
    thin_before m (put_in m f) op (old op ∷ put_ops m ops)
    ∙ ap (λ b. if b then thin_ops (put_in m f) is_new (put_ops m ops) else thin_op (put_in m f) is_new (old op) ∷ thin_ops (put_in m f) is_new (put_ops m ops)) (stays_old op)
    ∙ ap (λ z. z ∷ thin_ops (put_in m f) is_new (put_ops m ops)) (thin_old m f op)
    ∙ ap (λ l. old op ∷ l) (thin_put_ops m f ops)

abbrev pub old_block : {V : Type 0} → Block V → Block (OldOrNewName V)
old_block b = record { arguments = map Old b.arguments; ops = map old b.ops }

abbrev pub old_fun : {V : Type 0} → Option (Fun V) → Option (Fun (OldOrNewName V))
old_fun None = None
old_fun (Some f) = Some (map old_block f)

thin_put_blocks : {V : Type 0} (m : Made V) (f : Option (Fun V)) (bs : List (Block V)) → map (thin_block (put_in m f) is_new) (map (put_block m) bs) ≡ map old_block bs
thin_put_blocks m f [] = refl
thin_put_blocks m f (b ∷ bs) =
    ap (λ l. record { arguments = l; ops = thin_ops (put_in m f) is_new (put_args m b.arguments (put_ops m b.ops)) } ∷ map (thin_block (put_in m f) is_new) (map (put_block m) bs)) (live_old b.arguments)
    ∙ ap (λ l. record { arguments = map Old b.arguments; ops = l } ∷ map (thin_block (put_in m f) is_new) (map (put_block m) bs)) (thin_args m (put_in m f) b.arguments (put_ops m b.ops) ∙ thin_put_ops m f b.ops)
    ∙ ap (λ l. old_block b ∷ l) (thin_put_blocks m f bs)

pub thin_put_in : {V : Type 0} (m : Made V) (f : Option (Fun V)) → thin is_new (put_in m f) ≡ old_fun f
thin_put_in m None = refl
thin_put_in m (Some f) = ap Some (thin_put_blocks m (Some f) f)

-- 2. what was put in may go

all_old : {V : Type 0} (vs : List V) → AllLive is_new (map Old vs)
all_old [] = tt
all_old (v ∷ vs) = (refl, all_old vs)

gives_old : {V : Type 0} (ts gs : List V) → GivesLive is_new (map Old ts) (map Old gs)
gives_old [] gs = tt
gives_old (t ∷ ts) [] = tt
gives_old (t ∷ ts) (g ∷ gs) = (λ h. refl, gives_old ts gs)

edge_old : {V : Type 0} (m : Made V) (f : Option (Fun V)) (e : Edge V) → GivesLive is_new (arguments_in (put_in m f) e.target) (map Old e.forwards)
edge_old m f e = subst (λ ts. GivesLive is_new ts (map Old e.forwards)) (sym (put_takes m f e.target)) (gives_old (arguments_in f e.target) e.forwards)

op_old : {V : Type 0} (m : Made V) (f : Option (Fun V)) (op : Op V) → OpLive (put_in m f) is_new (old op)
op_old m f (Const r n) = tt
op_old m f (Calc a w r x y) = (refl, refl)
op_old m f (Emit x) = refl
op_old m f (Call rs c xs) = all_old xs
op_old m f (Branch s xs e es) = (all_old xs, edges_map (λ x. Unit {0}) (EdgeLive (put_in m f) is_new) (rename_edge Old same_block) (λ x h. edge_old m f x) (e ∷ es) (edges_any (λ x. Unit {0}) (λ x. tt) (e ∷ es)))
op_old m f (Return xs) = all_old xs

ops_put : {V : Type 0} (f : Option (Fun (OldOrNewName V))) (o : Option ℕ) (v : V) (rest : List (Op (OldOrNewName V))) → OpsLive f is_new rest → OpsLive f is_new (put_if o v rest)
ops_put f None v rest h = h
ops_put f (Some n) v rest h = (λ x. tt, h)

ops_args : {V : Type 0} (m : Made V) (f : Option (Fun (OldOrNewName V))) (vs : List V) (rest : List (Op (OldOrNewName V))) → OpsLive f is_new rest → OpsLive f is_new (put_args m vs rest)
ops_args m f [] rest h = h
ops_args m f (v ∷ vs) rest h = ops_args m f vs (put_if (m v) v rest) (ops_put f (m v) v rest h)

ops_before : {V : Type 0} (m : Made V) (f : Option (Fun (OldOrNewName V))) (op : Op V) (rest : List (Op (OldOrNewName V))) → OpsLive f is_new rest → OpsLive f is_new (put_before m op rest)
ops_before m f (Calc a w r x y) rest h = ops_put f (m r) r rest h
ops_before m f (Const r n) rest h = h
ops_before m f (Emit x) rest h = h
ops_before m f (Call rs c xs) rest h = h
ops_before m f (Branch s xs e es) rest h = h
ops_before m f (Return xs) rest h = h

ops_live : {V : Type 0} (m : Made V) (f : Option (Fun V)) (ops : List (Op V)) → OpsLive (put_in m f) is_new (put_ops m ops)
ops_live m f [] = tt
ops_live m f (op ∷ ops) = ops_before m (put_in m f) op (old op ∷ put_ops m ops) (λ h. op_old m f op, ops_live m f ops)

pub put_may_go : {V : Type 0} (m : Made V) (f : Option (Fun V)) → SetMayGo is_new (put_in m f)
put_may_go m f =
    record {
      entry = subst (AllLive is_new) (sym (put_takes m f 0)) (all_old (arguments_in f 0));
      uses = λ b. subst (OpsLive (put_in m f) is_new) (sym (put_left m f b)) (ops_args m (put_in m f) (arguments_in f b) (put_ops m (left_in f b 0)) (ops_live m f (left_in f b 0)));
    }

-- 3. closed facts stay closed

abbrev pub of_name : {V : Type 0} → FunctionFacts V → OldOrNewName V → Fact
of_name k (Old v) = k.of v
of_name k (New v) = k.of v

abbrev pub name_facts : {V : Type 0} → FunctionFacts V → FunctionFacts (OldOrNewName V)
name_facts k = record { runs = k.runs; of = of_name k }

unknown_old : {V : Type 0} (k : FunctionFacts V) (vs : List V) → AllUnknown k vs → AllUnknown (name_facts k) (map Old vs)
unknown_old k [] h = tt
unknown_old k (v ∷ vs) h = (h.0, unknown_old k vs h.1)

below_old : {V : Type 0} (k : FunctionFacts V) (ts gs : List V) → AllFactsAtOrBelow k ts gs → AllFactsAtOrBelow (name_facts k) (map Old ts) (map Old gs)
below_old k [] gs h = tt
below_old k (t ∷ ts) [] h = tt
below_old k (t ∷ ts) (g ∷ gs) h = (h.0, below_old k ts gs h.1)

module _ {V : Type 0} (m : Made V) (k : FunctionFacts V) (f : Option (Fun V)) (may : MayPut m k f) where
  closed_edge : (e : Edge V) → EdgeClosedIn f k e → EdgeClosedIn (put_in m f) (name_facts k) (rename_edge Old same_block e)
  closed_edge e h = (h.0, subst (λ ts. AllFactsAtOrBelow (name_facts k) ts (map Old e.forwards)) (sym (put_takes m f e.target)) (below_old k (arguments_in f e.target) e.forwards h.1))

  closed_fork : (s : Select) (t : Knows) (e : Edge V) (es : List (Edge V)) → BranchClosedIn f k s t e es → BranchClosedIn (put_in m f) (name_facts k) s t (rename_edge Old same_block e) (map (rename_edge Old same_block) es)
  closed_fork s Lacks e es h = tt
  closed_fork s Open e es h = edges_map (EdgeClosedIn f k) (EdgeClosedIn (put_in m f) (name_facts k)) (rename_edge Old same_block) (λ x c. closed_edge x c) (e ∷ es) h
  closed_fork s (Numbers ns) e es h =
      edges_map (λ x. x.target ≡ (edge_at e es (chosen s ns)).target → EdgeClosedIn f k x) (λ x. x.target ≡ (edge_at (rename_edge Old same_block e) (map (rename_edge Old same_block) es) (chosen s ns)).target → EdgeClosedIn (put_in m f) (name_facts k) x) (rename_edge Old same_block)
      (λ x c q. let t = ap (λ (y : Edge (OldOrNewName V)). y.target) (taken_map (rename_edge Old same_block) e es (chosen s ns)) in closed_edge x (c (q ∙ t))) (e ∷ es) h

  facts_old : (xs : List V) → map (of_name k) (map Old xs) ≡ map k.of xs
  facts_old [] = refl
  facts_old (x ∷ xs) = ap (λ l. k.of x ∷ l) (facts_old xs)

  knows_same : (xs : List V) (es : List (Edge V)) → branch_knows (name_facts k) (map Old xs) (map (rename_edge Old same_block) es) ≡ branch_knows k xs es
  knows_same xs es =
      ap (λ l. unless_lacking (knows (map (of_name k) l)) (knows (map (of_name k) (map Old xs)))) (gives_renamed Old same_block es)
      ∙ ap (λ l. unless_lacking (knows l) (knows (map (of_name k) (map Old xs)))) (facts_old (all_forwarded es))
      ∙ ap (λ l. unless_lacking (knows (map k.of (all_forwarded es))) (knows l)) (facts_old xs)

  closed_op : (op : Op V) → OpClosed f k op → OpClosed (put_in m f) (name_facts k) (old op)
  closed_op (Const r n) h = h
  closed_op (Calc a w r x y) h = h
  closed_op (Emit x) h = tt
  closed_op (Call rs c xs) h = unknown_old k rs h
  closed_op (Branch s xs e es) h = subst (λ q. BranchClosedIn (put_in m f) (name_facts k) s q (rename_edge Old same_block e) (map (rename_edge Old same_block) es)) (sym (knows_same xs (e ∷ es))) (closed_fork s (branch_knows k xs (e ∷ es)) e es h)
  closed_op (Return xs) h = tt

  closed_put : (o : Option ℕ) (v : V) (rest : List (Op (OldOrNewName V))) → m v ≡ o → OpsClosed (put_in m f) (name_facts k) rest → OpsClosed (put_in m f) (name_facts k) (put_if o v rest)
  closed_put None v rest e h = h
  closed_put (Some n) v rest e h = (subst (λ t. FactAtOrBelow t (Known n)) (sym (may.known v n e)) refl, h)

  closed_args : (vs : List V) (rest : List (Op (OldOrNewName V))) → OpsClosed (put_in m f) (name_facts k) rest → OpsClosed (put_in m f) (name_facts k) (put_args m vs rest)
  closed_args [] rest h = h
  closed_args (v ∷ vs) rest h = closed_args vs (put_if (m v) v rest) (closed_put (m v) v rest refl h)

  closed_before : (op : Op V) (rest : List (Op (OldOrNewName V))) → OpsClosed (put_in m f) (name_facts k) rest → OpsClosed (put_in m f) (name_facts k) (put_before m op rest)
  closed_before (Calc a w r x y) rest h = closed_put (m r) r rest refl h
  closed_before (Const r n) rest h = h
  closed_before (Emit x) rest h = h
  closed_before (Call rs c xs) rest h = h
  closed_before (Branch s xs e es) rest h = h
  closed_before (Return xs) rest h = h

  closed_ops : (ops : List (Op V)) → OpsClosed f k ops → OpsClosed (put_in m f) (name_facts k) (put_ops m ops)
  closed_ops [] h = tt
  closed_ops (op ∷ ops) h = closed_before op (old op ∷ put_ops m ops) (closed_op op h.0, closed_ops ops h.1)

  pub put_closed : AreClosedFacts f k → AreClosedFacts (put_in m f) (name_facts k)
  put_closed c =
      record {
        entry_runs = c.entry_runs;
        entry_unknown = subst (AllUnknown (name_facts k)) (sym (put_takes m f 0)) (unknown_old k (arguments_in f 0) c.entry_unknown);
        ops = λ b r. subst (OpsClosed (put_in m f) (name_facts k)) (sym (put_left m f b)) (closed_args (arguments_in f b) (put_ops m (left_in f b 0)) (closed_ops (left_in f b 0) (c.ops b r)));
      }

  same_of : (o : Option ℕ) (v : V) → m v ≡ o → (constant_of o v ≡ Old v) ⊎ ((n : ℕ) × (k.of v ≡ Known n) × (of_name k (constant_of o v) ≡ Known n))
  same_of None v e = inl refl
  same_of (Some n) v e = inr (n, may.known v n e, may.known v n e)

  pub put_known : SameKnown (name_facts k) (use_of m)
  put_known (Old v) = same_of (m v) v refl
  put_known (New v) = inl refl
